-- The loops: what they keep and how each turn goes on. Assumes nothing.
use mathlib.Core.Path.{◌≡◌, refl, sym, ap, subst, ◌∙◌}
use mathlib.Core.Logic.{◌≢◌}
use mathlib.Core.List.{List, [], ◌∷◌, ◌++◌, map, map-append, append_assoc, append-nil}
use Prim.Native.Nat.{ℕ, ◌+◌, ◌*◌, ◌%◌, ◌≤◌, ◌<◌}
use native.Mathlib.Omega.{arith}
use native.Mathlib.Numerals.{add-one}
use native.Mathlib.Nat.{add-zero}
use lib.ListN.{length, take, drop, get_or, set, length-set, drop_of_length-le, get_or-eq_default}
use lib.Seq.{
  drop-cons,
  take-suc-set,
  take_all,
  get_or-set_same,
  get_or-set_other,
  get_or-take,
  get_or-drop,
  take-suc,
  drop-drop,
  drop-set-lt,
  length-take-le,
}
use Rattle.store.proofs.Tests.{three}
use Rattle.line_order.specs.Rests.{Printable}
use Rattle.line_sort.specs.Sorted.{All, Sortable, Before, Merge, Held, low, high}
use Rattle.line_sort.proofs.Lists.{all-at, either}

-- ---- the two halves of a word

-- the low half of a word, with another number as the high half
abbrev packed : ℕ → ℕ → ℕ
packed a v = a % 65536 + 65536 * v

low-packed : (x a v : ℕ) → x ≡ packed a v → low x ≡ low a
low-packed x a v e = omega arith

high-packed : (x a v : ℕ) → x ≡ packed a v → high x ≡ v
high-packed x a v e = omega arith

-- word k written as x: the low halves stay, the high halves are one longer
module _ (work : List ℕ) (k v x : ℕ) (e : x ≡ packed (get_or work k 0) v) (in-range : k < length work) where
  low-set : (start : List ℕ) → ((y : ℕ) → low (get_or work y 0) ≡ get_or start y 0) → (y : ℕ)
      → low (get_or (set work k x) y 0) ≡ get_or start y 0
  low-set start h y = three y k (λ l. other (λ d. omega arith)) same (λ l. other (λ d. omega arith))
    where
      same : y ≡ k → low (get_or (set work k x) y 0) ≡ get_or start y 0
      same d = rw (d, get_or-set_same work k x 0 in-range, low-packed x (get_or work k 0) v e) (h k)

      other : y ≢ k → low (get_or (set work k x) y 0) ≡ get_or start y 0
      other n = rw (get_or-set_other work k y x 0 n) (h y)

  high-set : (m : List ℕ) → map high (take (k + 1) (set work k x)) ++ m ≡ map high (take k work) ++ (v ∷ m)
  high-set m =
      rw (add-one, take-suc-set work k x in-range, map-append, high-packed x (get_or work k 0) v e, append_assoc)

-- ---- the merge

-- i, j and k words on: the low halves are the words at the beginning, and whatever merges the two rests makes, after
-- what is written, a merge of the two runs
pub record Merging (R : ℕ → ℕ → Type 0) (start : List ℕ) (mid : ℕ) (work : List ℕ) (i j k : ℕ) : Type 0 where
  pub size : length work ≡ length start
  pub first : i ≤ mid
  pub last : mid ≤ j
  pub ends : j ≤ length start
  pub place : i + j ≡ mid + k
  pub lows : (x : ℕ) → low (get_or work x 0) ≡ get_or start x 0
  pub onward : (m : List ℕ) → Merge R (drop i (take mid start)) (drop j start) m
      → Merge R (take mid start) (drop mid start) (map high (take k work) ++ m)

module _ {res stm text : List ℕ} (start : List ℕ) (sortable : All (Sortable res stm text) start) where
  low_same : (x : ℕ) → low (get_or start x 0) ≡ get_or start x 0
  low_same x =
      either x (length start) (λ h. let s = (all-at x sortable h).half in omega arith)
      (λ h. rw (get_or-eq_default start 0 h))

  pub begins : {R : ℕ → ℕ → Type 0} (mid : ℕ) → mid ≤ length start → Merging R start mid start 0 mid 0
  begins mid h = record {
    size = refl;
    first = omega arith;
    last = omega arith;
    ends = h;
    place = omega arith;
    lows = low_same;
    onward = λ m d. d;
  }

  pub held : {R : ℕ → ℕ → Type 0} {work : List ℕ} {mid i j k : ℕ} → Merging R start mid work i j k
      → Held res stm text work
  held g = record {
    printable = λ x h. subst (Printable res stm text) (sym (g.lows x))
        (all-at x sortable (subst (λ (n : ℕ). x < n) g.size h)).printable;
  }

-- a number is before the rest of a list from an index, where it is in order with what stands there
before : (R : ℕ → ℕ → Type 0) (v : ℕ) (b : List ℕ) (j : ℕ) → (j < length b → R v (get_or b j 0)) → Before R v (drop j b)
before R v b j h =
    either j (length b) (λ g. subst (Before R v) (sym (drop-cons b j 0 g)) (Before.some (h g)))
    (λ g. subst (Before R v) (sym (drop_of_length-le b g)) Before.none)

module _ {R : ℕ → ℕ → Type 0} {start : List ℕ} {mid : ℕ} {work : List ℕ} {i j k : ℕ} (fit : mid ≤ length start)
    (g : Merging R start mid work i j k) where
  abbrev left-run : List ℕ
  left-run = take mid start

  -- the next number of each run, as the low halves hold them
  abbrev next-left : ℕ
  next-left = low (get_or work i 0)

  abbrev next-right : ℕ
  next-right = low (get_or work j 0)

  -- the left run's number is written
  pub left-turn : {x : ℕ} → k < length start → (i < mid) × (j < length work → R next-left next-right)
      → x ≡ packed (get_or work k 0) next-left → Merging R start mid (set work k x) (i + 1) j (k + 1)
  left-turn {x} h (l, o) e =
      let kw : k < length work = subst (λ (n : ℕ). k < n) (sym g.size) h in
      let il : i < length left-run = subst (λ (n : ℕ). i < n) (sym (length-take-le mid start fit)) l in
      let v : next-left ≡ get_or left-run i 0 = g.lows i ∙ sym (get_or-take mid start i 0 l) in
      let b : Before R (get_or left-run i 0) (drop j start) =
      before R (get_or left-run i 0) start j
      (λ q. subst (λ (y : ℕ). R y (get_or start j 0)) v
      (subst (λ (y : ℕ). R next-left y) (g.lows j) (o (subst (λ (n : ℕ). j < n) (sym g.size) q)))) in
      record {
        size = length-set work k x ∙ g.size;
        first = omega arith;
        last = g.last;
        ends = g.ends;
        place = let p = g.place in omega arith;
        lows = low-set work k next-left x e kw start g.lows;
        onward = λ m d. subst (Merge R left-run (drop mid start)) (sym (high-set work k next-left x e kw m))
            (g.onward (next-left ∷ m)
            (subst (λ (y : ℕ). Merge R (drop i left-run) (drop j start) (y ∷ m)) (sym v)
            (subst (λ (a : List ℕ). Merge R a (drop j start) (get_or left-run i 0 ∷ m)) (sym (drop-cons left-run i 0 il))
            (Merge.left b (subst (λ (n : ℕ). Merge R (drop n left-run) (drop j start) m) (add-one i) d)))));
      }

  -- the right run's number is written
  pub right-turn : {x : ℕ} → k < length start → (j < length work) × (i < mid → R next-right next-left)
      → x ≡ packed (get_or work k 0) next-right → Merging R start mid (set work k x) i (j + 1) (k + 1)
  right-turn {x} h (l, o) e =
      let kw : k < length work = subst (λ (n : ℕ). k < n) (sym g.size) h in
      let jl : j < length start = subst (λ (n : ℕ). j < n) g.size l in
      let v : next-right ≡ get_or start j 0 = g.lows j in
      let b : Before R (get_or start j 0) (drop i left-run) =
      before R (get_or start j 0) left-run i
      (λ q. let im : i < mid = subst (λ (n : ℕ). i < n) (length-take-le mid start fit) q in
      subst (λ (y : ℕ). R (get_or start j 0) y) (g.lows i ∙ sym (get_or-take mid start i 0 im))
      (subst (λ (y : ℕ). R y next-left) v (o im))) in
      record {
        size = length-set work k x ∙ g.size;
        first = g.first;
        last = let q = g.last in omega arith;
        ends = omega arith;
        place = let p = g.place in omega arith;
        lows = low-set work k next-right x e kw start g.lows;
        onward = λ m d. subst (Merge R left-run (drop mid start)) (sym (high-set work k next-right x e kw m))
            (g.onward (next-right ∷ m)
            (subst (λ (y : ℕ). Merge R (drop i left-run) (drop j start) (y ∷ m)) (sym v)
            (subst (λ (a : List ℕ). Merge R (drop i left-run) a (get_or start j 0 ∷ m)) (sym (drop-cons start j 0 jl))
            (Merge.right b (subst (λ (n : ℕ). Merge R (drop i left-run) (drop n start) m) (add-one j) d)))));
      }

  -- all is merged
  pub merged : length start ≤ k → Merge R left-run (drop mid start) (map high work)
  merged h =
      let p = g.place in
      let q = g.first in
      let r = g.ends in
      let a : drop i left-run ≡ [] =
      drop_of_length-le left-run {i = i}
      (subst (λ (n : ℕ). n ≤ i) (sym (length-take-le mid start fit)) (omega arith)) in
      let b : drop j start ≡ [] = drop_of_length-le start {i = j} (omega arith) in
      let w : take k work ≡ work = take_all k work (subst (λ (n : ℕ). n ≤ k) (sym g.size) h) in
      subst (Merge R left-run (drop mid start)) (append-nil (map high (take k work)) ∙ ap (map high) w)
      (g.onward []
      (subst (λ (x : List ℕ). Merge R x (drop j start) []) (sym a)
      (subst (λ (x : List ℕ). Merge R [] x []) (sym b) Merge.done)))

-- ---- the high halves in place of the words

-- k words on
pub record Halving (start work : List ℕ) (k : ℕ) : Type 0 where
  pub size : length work ≡ length start
  pub within : k ≤ length start
  pub written : take k work ≡ map high (take k start)
  pub rest : drop k work ≡ drop k start

pub halving : (start : List ℕ) → Halving start start 0
halving start = record { size = refl; within = omega arith; written = refl; rest = refl }

-- the first of a rest is what stands at its index
first-of-rest : (l : List ℕ) (k : ℕ) → get_or (drop k l) 0 0 ≡ get_or l k 0
first-of-rest l k = get_or-drop k l 0 0 ∙ ap (λ (n : ℕ). get_or l n 0) (add-zero k)

pub halved-turn : {start work : List ℕ} {k : ℕ} → Halving start work k → k < length work
    → Halving start (set work k (high (get_or work k 0))) (k + 1)
halved-turn {start} {work} {k} g h =
    let ks : k < length start = subst (λ (n : ℕ). k < n) g.size h in
    let e : get_or work k 0 ≡ get_or start k 0 =
    sym (first-of-rest work k) ∙ ap (λ (l : List ℕ). get_or l 0 0) g.rest ∙ first-of-rest start k in
    record {
      size = length-set work k _ ∙ g.size;
      within = omega arith;
      written = rw (
        add-one,
        take-suc-set work k (high (get_or work k 0)) h,
        take-suc start k 0 ks,
        map-append,
        g.written,
        e,
      );
      rest = drop-set-lt (k + 1) work k (high (get_or work k 0)) (omega arith) ∙ sym (drop-drop 1 k work)
          ∙ ap (drop 1) g.rest ∙ drop-drop 1 k start;
    }

pub halved : {start work : List ℕ} {k : ℕ} → Halving start work k → length work ≤ k → work ≡ map high start
halved {start} {work} {k} g h =
    sym (take_all k work h) ∙ g.written ∙ ap (map high) (take_all k start (subst (λ (n : ℕ). n ≤ k) g.size h))
