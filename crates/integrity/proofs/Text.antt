-- The names that one pass reads off the used text: the pass says yes exactly where the text is these names, well
-- formed and without the string ending, at the offsets and of the kinds that the records say. Assumes nothing.
use mathlib.Core.Path.{◌≡◌, refl, sym, ap, ◌∙◌}
use mathlib.Core.Bool.{true, ◌&&◌}
use mathlib.Core.List.{List, [], ◌∷◌, ◌++◌}
use Prim.Native.Nat.{ℕ, zero, suc, ◌+◌, ◌<◌}
use native.Mathlib.Omega.{arith}
use native.Mathlib.Nat.{add-zero, add-suc, suc-add}
use lib.ListN.{length, get_or, take, drop, length-drop}
use lib.Seq.{drop-drop}
use lib.Dec.{eqb, ltb}
use borrow.Author.Tests.{eqb-true, eq-eqb, ltb-true, lt-ltb}
use Rattle.term.specs.Scanner.{first_kind_of, kind_of}
use Rattle.term.specs.Grammar.{name_limit}
use Rattle.store.specs.Tables.{offset_at, kind_at}
use Rattle.store.specs.Shared.{text_bytes}
use Rattle.store.specs.Names.{storable, joined, up_to_zero}
use Rattle.store.proofs.Tests.{and_l, and_r, and-of}
use Rattle.store.proofs.Form.{form-clean, form-kind_of, storable-formed}
use Rattle.store.proofs.Text.{up_to_zero-stops}
use Rattle.integrity.specs.Names.{name_from, name_ok, names_ok}

-- ---- the text, name by name

upto-split : (l : List ℕ) → length (up_to_zero l) < length l → l ≡ up_to_zero l ++ 0 ∷ drop (suc (length (up_to_zero l))) l
upto-split [] h = absurd (omega arith)
upto-split (zero ∷ l) h = refl
upto-split (suc b ∷ l) h = ap (λ (z : List ℕ). suc b ∷ z) (upto-split l (omega arith))

past : (n r : List ℕ) → drop (suc (length n)) (n ++ 0 ∷ r) ≡ r
past [] r = refl
past (x ∷ n) r = past n r

-- the text from o on is exactly the names ns, of k resources from y on
pub record Read (res used : List ℕ) (k y o : ℕ) (ns : List (List ℕ)) : Type 0 where
  pub size : length ns ≡ k
  pub bytes : o + text_bytes ns ≡ length used
  pub spelled : drop o used ≡ joined ns
  pub well : (i : ℕ) → i < k → storable (get_or ns i []) ≡ true
  pub offsets : (i : ℕ) → i < k → offset_at res (y + i) ≡ o + text_bytes (take i ns)
  pub kinds : (i : ℕ) → i < k → kind_at res (y + i) ≡ first_kind_of (get_or ns i [])

-- what holds at 0 and of every successor
each : (P : ℕ → Type 0) (k : ℕ) → P 0 → ((i : ℕ) → i < k → P (suc i)) → (i : ℕ) → i < suc k → P i
each P k z s zero h = z
each P k z s (suc i) h = s i (omega arith)

-- what the test of one name says
record Tested (res used : List ℕ) (y o : ℕ) : Type 0 where
  closed : o + length (name_from used o) < length used
  offset : offset_at res y ≡ o
  formed : storable (name_from used o) ≡ true
  kind : kind_at res y ≡ first_kind_of (name_from used o)

module _ (res used : List ℕ) where
  abbrev after : ℕ → ℕ
  after o = o + length (name_from used o) + 1

  tested : (y o : ℕ) → name_ok res used y o ≡ true → Tested res used y o
  unfolding name_ok
  tested y o e =
      let n = name_from used o in
      let a = ltb (o + length n) (length used) in
      let b = eqb (offset_at res y) o in
      let d = eqb (kind_at res y) (kind_of name_limit n) in
      let e1 = and_r a (b && (storable n && d)) e in
      let e2 = and_r b (storable n && d) e1 in
      let w = and_l (storable n) d e2 in
      record {
        closed = ltb-true (o + length n) (length used) (and_l a _ e);
        offset = eqb-true (offset_at res y) o (and_l b _ e1);
        formed = w;
        kind = eqb-true (kind_at res y) (kind_of name_limit n) (and_r (storable n) d e2) ∙ form-kind_of n (storable-formed n w);
      }

  tested-ok : (y o : ℕ) → Tested res used y o → name_ok res used y o ≡ true
  unfolding name_ok
  tested-ok y o T =
      let k = form-kind_of (name_from used o) (storable-formed (name_from used o) T.formed) in
      rw (
        lt-ltb (o + length (name_from used o)) (length used) T.closed,
        eq-eqb (offset_at res y) o T.offset,
        T.formed,
        eq-eqb (kind_at res y) (kind_of name_limit (name_from used o)) (T.kind ∙ sym k),
      )

  split-name : (o : ℕ) → o + length (name_from used o) < length used → drop o used ≡ name_from used o ++ 0 ∷ drop (after o) used
  unfolding name_from
  split-name o h =
      let n = up_to_zero (drop o used) in
      let l : length n < length (drop o used) = simp length-drop (omega arith) in
      let e : o + suc (length n) ≡ o + length n + 1 = omega arith in
      upto-split (drop o used) l ∙ ap (λ (z : List ℕ). n ++ 0 ∷ z) (drop-drop (suc (length n)) o used ∙ rw e)

  -- one name more in front
  read-cons : (k y o : ℕ) (ns : List (List ℕ)) → Tested res used y o → Read res used k (suc y) (after o) ns
      → Read res used (suc k) y o (name_from used o ∷ ns)
  unfolding joined text_bytes
  read-cons k y o ns T R =
      let n = name_from used o in
      record {
        size = ap suc R.size;
        bytes = omega (arith, R.bytes);
        spelled = split-name o T.closed ∙ ap (λ (z : List ℕ). n ++ 0 ∷ z) R.spelled;
        well = each (λ i. storable (get_or (n ∷ ns) i []) ≡ true) k T.formed (λ i h. R.well i h);
        offsets = each (λ i. offset_at res (y + i) ≡ o + text_bytes (take i (n ∷ ns))) k
            (rw (add-zero, T.offset) (omega arith))
            (λ i h. rw (add-suc, ← suc-add, R.offsets i h) (omega arith));
        kinds = each (λ i. kind_at res (y + i) ≡ first_kind_of (get_or (n ∷ ns) i [])) k
            (rw add-zero T.kind)
            (λ i h. rw (add-suc, ← suc-add) (R.kinds i h));
      }

  -- the names read
  pub names_from : ℕ → ℕ → List (List ℕ)
  names_from zero o = []
  names_from (suc k) o = name_from used o ∷ names_from k (after o)

  pub names-read : (k y o : ℕ) → names_ok res used k y o ≡ true → Read res used k y o (names_from k o)
  unfolding names_ok names_from joined text_bytes
  names-read zero y o e =
      let h = eqb-true o (length used) e in
      record {
        size = refl;
        bytes = omega arith;
        spelled = rw h (all-dropped used);
        well = λ i g. absurd (omega arith);
        offsets = λ i g. absurd (omega arith);
        kinds = λ i g. absurd (omega arith);
      }
    where
      all-dropped : (l : List ℕ) → drop (length l) l ≡ []
      all-dropped [] = refl
      all-dropped (x ∷ l) = all-dropped l
  names-read (suc k) y o e =
      read-cons k y o (names_from k (after o)) (tested y o (and_l (name_ok res used y o) _ e))
      (names-read k (suc y) (after o) (and_r (name_ok res used y o) _ e))

  -- ---- the other way

  module _ (k y o : ℕ) (n : List ℕ) (ns : List (List ℕ)) (R : Read res used (suc k) y o (n ∷ ns)) where
    head-name : name_from used o ≡ n
    unfolding name_from joined
    head-name = ap up_to_zero R.spelled ∙ up_to_zero-stops n (joined ns) (form-clean n (storable-formed n (R.well 0 (omega arith))))

    head-tested : Tested res used y o
    unfolding text_bytes
    head-tested =
        let h = head-name in
        record {
          closed = rw h (omega (arith, R.bytes));
          offset = rw (add-zero, add-zero) at (R.offsets 0 (omega arith));
          formed = rw h (R.well 0 (omega arith));
          kind = rw h (rw add-zero at (R.kinds 0 (omega arith)));
        }

    tail-read : Read res used k (suc y) (o + length n + 1) ns
    unfolding text_bytes joined
    tail-read =
        let e : o + length n + 1 ≡ o + suc (length n) = omega arith in
        record {
          size = omega (arith, R.size);
          bytes = omega (arith, R.bytes);
          spelled = rw e (sym (drop-drop (suc (length n)) o used) ∙ ap (drop (suc (length n))) R.spelled ∙ past n (joined ns));
          well = λ i h. R.well (suc i) (omega arith);
          offsets = λ i h. rw (suc-add, ← add-suc, R.offsets (suc i) (omega arith)) (omega arith);
          kinds = λ i h. rw (suc-add, ← add-suc) (R.kinds (suc i) (omega arith));
        }

  pub read_names : (k y o : ℕ) (ns : List (List ℕ)) → Read res used k y o ns → names_ok res used k y o ≡ true
  unfolding names_ok text_bytes
  read_names zero y o [] R = eq-eqb o (length used) (omega (arith, R.bytes))
  read_names zero y o (n ∷ ns) R = absurd (omega (arith, R.size))
  read_names (suc k) y o [] R = absurd (omega (arith, R.size))
  read_names (suc k) y o (n ∷ ns) R =
      and-of (name_ok res used y o) _ (tested-ok y o (head-tested k y o n ns R))
      (rw (head-name k y o n ns R) (read_names k (suc y) (o + length n + 1) ns (tail-read k y o n ns R)))

  -- each name stands in the text at its offset
  pub name-at : (k y o : ℕ) (ns : List (List ℕ)) → Read res used k y o ns → (i : ℕ) → i < k
      → name_from used (o + text_bytes (take i ns)) ≡ get_or ns i []
  unfolding text_bytes
  name-at zero y o ns R i h = absurd (omega arith)
  name-at (suc k) y o [] R i h = absurd (omega (arith, R.size))
  name-at (suc k) y o (n ∷ ns) R zero h = rw add-zero (head-name k y o n ns R)
  name-at (suc k) y o (n ∷ ns) R (suc i) h =
      let e : o + (length n + 1 + text_bytes (take i ns)) ≡ o + length n + 1 + text_bytes (take i ns) = omega arith in
      rw e (name-at k (suc y) (o + length n + 1) ns (tail-read k y o n ns R) i (omega arith))
