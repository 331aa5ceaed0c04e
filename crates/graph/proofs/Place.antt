-- Any place that refusal 6 accepts, after whatever was asserted or retracted since it was given: a call answers from
-- the solutions that hold now, at or after the place; levels below a record retracted since do not count.
-- Assumes nothing.
use mathlib.Core.Path.{◌≡◌, refl, sym, ap, ◌∙◌, fun_ext}
use mathlib.Core.Logic.{◌≢◌}
use mathlib.Core.Bool.{Bool, true, false, ◌||◌, true≢false, false≢true}
use mathlib.Core.List.{List, [], ◌∷◌, ◌++◌, append_assoc, append-nil, Memᴰ}
use mathlib.Core.Option.{Option, none, some}
use Prim.Native.Nat.{ℕ, zero, suc, ◌+◌, ◌≤◌, ◌<◌}
use native.Mathlib.Omega.{arith}
use lib.ListN.{length, drop}
use lib.Seq.{drop-cons}
use lib.Dec.{eqb}
use borrow.Author.Tests.{eqb-true, eqb-false, eq-eqb, ne_eqb, le-leb, lt-ltb, le-ltb}
use Rattle.store.specs.declared.Chain.{Chain}
use Rattle.store.specs.declared.Chain.TheVariants.{All, By}
use Rattle.store.specs.declared.Triple.{Triple}
use Rattle.store.specs.Shared.{prev, Entry}
use Rattle.store.specs.Lists.{keep}
use Rattle.store.specs.Tables.{triple_at, term_at, flag_at}
use Rattle.store.specs.Model.{on_chain}
use Rattle.store.specs.Walk.{entry_at, link_of, holds_resource}
use Rattle.store.specs.Scan.{chain_ok, record_ok}
use Rattle.store.specs.Soundness.{Linked, holding}
use Rattle.store.proofs.Tests.{decide, and-of}
use Rattle.store.proofs.Falling.{head-le}
use Rattle.store.proofs.Words.{triple-at}
use Rattle.store.proofs.Chains.{on_words}
use Rattle.graph.specs.declared.QueryPattern.{QueryPattern}
use Rattle.graph.specs.declared.Level.{Level}
use Rattle.graph.specs.Query.{match, Answer, refused, found, ended, spent, record_at, past, level_retracted}
use Rattle.graph.specs.Place.{Place, start, inside, finish}
use Rattle.graph.specs.Words.{variables, Bindings, unbound, pattern, under}
use Rattle.graph.specs.Query.{intact, any_retracted, pruned, next_pattern, binds, asked, entered_ok, place_ok, resume}
use Rattle.graph.specs.Order.{at_or_after, numbers_on}
use Rattle.graph.proofs.Laws.{entered-tests, place-tests}
use Rattle.graph.proofs.Bind.{or_l, or_r, some-or_else, Known3, match-matched}
use Rattle.graph.proofs.Solve.{down, each, solve, Every, AllFit, hit-some, hit-of, statements, number_of}
use Rattle.graph.specs.Work.{hit_at}
use Rattle.graph.proofs.Solve.{number_in}
use Rattle.graph.proofs.Levels.{AllLow, left, toil_left, above, sols, Deep, Entered, past-deep, suc-prev}
use Rattle.graph.proofs.Levels.{tri-low, pat-fit, match-on, hit_same, left-past}
use Rattle.graph.proofs.Reading.{left_at, toil_at, visits_at, Reached, Outcome, walk-outcome, start-outcome}
use Rattle.graph.proofs.Reading.{retracted-entry, reached-ok}

-- ---- the solutions from a tuple of statement numbers on

aft-empty : (ns : List ℕ) → at_or_after ns [] ≡ true
unfolding at_or_after
aft-empty [] = refl
aft-empty (m ∷ ms) = refl

aft-all : (ts : List ℕ) → at_or_after [] ts ≡ true
unfolding at_or_after
aft-all ts = refl

aft-less : (m : ℕ) (ms : List ℕ) (t : ℕ) (ts : List ℕ) → t < m → at_or_after (m ∷ ms) (t ∷ ts) ≡ true
unfolding at_or_after
aft-less m ms t ts h = rw (lt-ltb t m h)

aft-more : (m : ℕ) (ms : List ℕ) (t : ℕ) (ts : List ℕ) → m < t → at_or_after (m ∷ ms) (t ∷ ts) ≡ false
unfolding at_or_after
aft-more m ms t ts h = rw (le-ltb t m (omega arith), ne_eqb t m (omega arith))

aft-same : (m : ℕ) (ms : List ℕ) (t : ℕ) (ts : List ℕ) → t ≡ m → at_or_after (m ∷ ms) (t ∷ ts) ≡ at_or_after ms ts
unfolding at_or_after
aft-same m ms t ts h = rw (le-ltb t m (omega arith), eq-eqb t m h)

keep_append : {A : Type 0} (f : A → Bool) (xs ys : List A) → keep f (xs ++ ys) ≡ keep f xs ++ keep f ys
unfolding keep
keep_append f [] ys = refl
keep_append f (x ∷ xs) ys = decide (f x) (λ e. rw (e, keep_append f xs ys)) (λ e. rw (e, keep_append f xs ys))

keep-none : {A : Type 0} (f : A → Bool) (xs : List A) → ((x : A) → Memᴰ x xs → f x ≡ false) → keep f xs ≡ []
unfolding keep
keep-none f [] h = refl
keep-none f (x ∷ xs) h = rw (h x (Memᴰ.head refl)) (keep-none f xs (λ y m. h y (Memᴰ.tail m)))

keep_all : {A : Type 0} (f : A → Bool) (xs : List A) → ((x : A) → Memᴰ x xs → f x ≡ true) → keep f xs ≡ xs
unfolding keep
keep_all f [] h = refl
keep_all f (x ∷ xs) h = rw (h x (Memᴰ.head refl), keep_all f xs (λ y m. h y (Memᴰ.tail m)))

keep_same : {A : Type 0} (f g : A → Bool) (xs : List A) → ((x : A) → Memᴰ x xs → f x ≡ g x)
    → keep f xs ≡ keep g xs
unfolding keep
keep_same f g [] h = refl
keep_same f g (x ∷ xs) h = rw (h x (Memᴰ.head refl), keep_same f g xs (λ y m. h y (Memᴰ.tail m)))

keep-down-none : {A : Type 0} (f : A → Bool) (g : ℕ → List A) (n : ℕ)
    → ((i : ℕ) → i < n → (x : A) → Memᴰ x (g i) → f x ≡ false) → keep f (down g n) ≡ []
unfolding down
keep-down-none f g zero h = unfold keep in refl
keep-down-none f g (suc n) h =
    rw (keep_append f (g n) (down g n), keep-none f (g n) (h n (omega arith)))
    (keep-down-none f g n (λ i q. h i (omega arith)))

keep-down-all : {A : Type 0} (f : A → Bool) (g : ℕ → List A) (n : ℕ)
    → ((i : ℕ) → i < n → (x : A) → Memᴰ x (g i) → f x ≡ true) → keep f (down g n) ≡ down g n
unfolding down
keep-down-all f g zero h = unfold keep in refl
keep-down-all f g (suc n) h =
    rw (
      keep_append f (g n) (down g n),
      keep_all f (g n) (h n (omega arith)),
      keep-down-all f g n (λ i q. h i (omega arith)),
    )

-- above m everything goes, at m a part stays, below m everything stays
keep-down : {A : Type 0} (f : A → Bool) (g : ℕ → List A) (n m : ℕ) → m < n
    → ((i : ℕ) → m < i → i < n → (x : A) → Memᴰ x (g i) → f x ≡ false)
    → ((i : ℕ) → i < m → (x : A) → Memᴰ x (g i) → f x ≡ true) → keep f (down g n) ≡ keep f (g m) ++ down g m
unfolding down
keep-down f g zero m h a b = absurd (omega arith)
keep-down f g (suc n) m h a b = decide (eqb m n)
    (λ e. let e' = eqb-true m n e in
    rw (keep_append f (g n) (down g n), ← e') (ap (λ (z : List _). keep f (g m) ++ z) (keep-down-all f g m b)))
    (λ e. let e' : m ≢ n = eqb-false m n e in
    rw (keep_append f (g n) (down g n), keep-none f (g n) (a n (omega arith) (omega arith)))
    (keep-down f g n m (omega arith) (λ i q r. a i q (omega arith)) b))

abbrev pub from_at : {A : Type 0} → (ℕ → List A) → (ℕ → List ℕ → List A) → ℕ → List ℕ → List A
from_at g deep n [] = down g n
from_at g deep n (zero ∷ ms) = []
from_at g deep n (suc i ∷ ms) = deep i ms ++ down g i

unfoldable pub from : (ℕ → Entry) → ℕ → List QueryPattern → Bindings → List ℕ → List Bindings
from E n [] b ns = b ∷ []
from E n (x ∷ ps) b ns =
    from_at (λ j. each (hit_at E x b j) (λ b'. solve E n ps b'))
    (λ i ms. each (hit_at E x b i) (λ b'. from E n ps b' ms)) n ns

from-none : (E : ℕ → Entry) (n : ℕ) (ps : List QueryPattern) (b : Bindings) → from E n ps b [] ≡ solve E n ps b
unfolding from solve
from-none E n [] b = refl
from-none E n (x ∷ ps) b = refl

abbrev pub AllLe : ℕ → List ℕ → Type 0
AllLe n ms = Every (λ m. m ≤ n) ms

module _ (E : ℕ → Entry) (n : ℕ) (positive : (i : ℕ) → i < n → Known3 (E i).spo)
    (once : (i j : ℕ) → i < j → j < n → (E i).spo ≢ (E j).spo) where
  pub from-keep : (ps : List QueryPattern) (b : Bindings) (ns : List ℕ) → AllFit (length b) ps → AllLe n ns
      → from E n ps b ns ≡ keep (λ s. at_or_after ns (statements E n ps s)) (solve E n ps b)
  unfolding from solve statements
  from-keep [] b ns f h = sym (keep_all (λ s. at_or_after ns []) (b ∷ []) (λ s m. aft-empty ns))
  from-keep (x ∷ ps) b [] f h =
      sym (keep_all (λ s. at_or_after [] (number_of E n (under s x) ∷ statements E n ps s))
      (down (λ j. each (hit_at E x b j) (λ b'. solve E n ps b')) n)
      (λ s m. aft-all (number_of E n (under s x) ∷ statements E n ps s)))
  from-keep (x ∷ ps) b (zero ∷ ms) f h =
      sym (keep-down-none (λ s. at_or_after (0 ∷ ms) (number_of E n (under s x) ∷ statements E n ps s))
      (λ j. each (hit_at E x b j) (λ b'. solve E n ps b')) n
      (λ i q s m. aft-more 0 ms (number_of E n (under s x)) (statements E n ps s)
      (omega (arith, number_in E n positive once x ps b i s f q m))))
  from-keep (x ∷ ps) b (suc k ∷ ms) f h =
      branch (hit_at E x b k) refl (λ b' g. from-keep ps b' ms g h.1)
      ∙ sym (keep-down (λ s. at_or_after (suc k ∷ ms) (number_of E n (under s x) ∷ statements E n ps s))
      (λ j. each (hit_at E x b j) (λ b'. solve E n ps b')) n k (omega (arith, h.0))
      (λ i a q s m. aft-more (suc k) ms (number_of E n (under s x)) (statements E n ps s)
      (omega (arith, number_in E n positive once x ps b i s f q m)))
      (λ i a s m. aft-less (suc k) ms (number_of E n (under s x)) (statements E n ps s)
      (omega (arith, number_in E n positive once x ps b i s f (omega (arith, h.0)) m))))
    where
      branch : (o : Option Bindings) → hit_at E x b k ≡ o
          → ((b' : Bindings) → AllFit (length b') ps
          → from E n ps b' ms ≡ keep (λ s. at_or_after ms (statements E n ps s)) (solve E n ps b'))
          → each (hit_at E x b k) (λ b'. from E n ps b' ms) ++ down
          (λ j. each (hit_at E x b j) (λ b'. solve E n ps b')) k
          ≡ keep (λ s. at_or_after (suc k ∷ ms) (number_of E n (under s x) ∷ statements E n ps s))
          (each (hit_at E x b k) (λ b'. solve E n ps b')) ++ down
          (λ j. each (hit_at E x b j) (λ b'. solve E n ps b')) k
      branch none e ih = rw e (unfold keep in refl)
      branch (some b') e ih =
          let q : k < n = omega (arith, h.0) in
          let M = match-matched x (E k).spo b b' f.0 (positive k q) (hit-some E x b b' k e).1 in
          rw e (ap (λ (z : List Bindings). z ++ down (λ j. each (hit_at E x b j) (λ b'. solve E n ps b')) k)
          (ih b' (rw M.len f.1) ∙ keep_same (λ s. at_or_after ms (statements E n ps s))
          (λ s. at_or_after (suc k ∷ ms) (number_of E n (under s x) ∷ statements E n ps s)) (solve E n ps b')
          (λ s m. sym (aft-same (suc k) ms (number_of E n (under s x)) (statements E n ps s)
          (number_in E n positive once x ps b k s f q (rw e m))))))

module _ (r t : ℕ) (res stm : List ℕ) (ps : List QueryPattern) where
  abbrev from_c : List ℕ → List Bindings
  from_c ns = from (entry_at stm) t ps unbound ns

  -- from the levels up on
  abbrev from_in : List Level → List ℕ → List Bindings
  from_in up ns = from (entry_at stm) t (drop (length up) ps) (binds stm ps up) ns

  pub record Bits (e : Level) (up : List Level) : Type 0 where
    pub pos : 0 < e.statement.0
    pub le : e.statement.0 ≤ t
    pub picked : chain_ok e.chain (asked stm ps up) ≡ true
    pub matched : match (next_pattern ps up) (triple_at stm (prev e.statement.0)) (binds stm ps up)
        ≡ some (binds stm ps (e ∷ up))

  abbrev Pruned : Level → List Level → Level × List Level → Type 0
  Pruned l up g = Deep r t res stm ps g.0 g.1 × Entered r t res stm ps g.1
      × (left r t res stm ps g.0 g.1 ≡ from_c (numbers_on up (l.statement.0 ∷ [])))

  -- one call from any place that is not refused 6
  unfoldable pub from_place : Place → List Bindings
  from_place start = solve (entry_at stm) t ps unbound
  from_place (inside l up) = from_c (numbers_on up (l.statement.0 ∷ []))
  from_place finish = []

  abbrev pub Gives : Place → ℕ → Answer → Type 0
  Gives q b (refused n) = ⊥
  Gives q b (found s v q') = (from_place q ≡ s ∷ from_place q') × (place_ok stm ps r t q' ≡ true)
      × Reached r t res stm ps q'
  Gives q b (ended v) = from_place q ≡ []
  Gives q b (spent v q') = (from_place q ≡ from_place q') × (place_ok stm ps r t q' ≡ true) × (v ≡ 0 + b)
      × Reached r t res stm ps q'

  module _ (L : Linked r t res stm) (fit : AllFit variables ps) (low : AllLow r ps) where
    in-suc : (up : List Level) (i : ℕ) (ms : List ℕ) → length up < length ps
        → from_in up (suc i ∷ ms) ≡ each (hit_at (entry_at stm) (next_pattern ps up) (binds stm ps up) i)
        (λ b'. from (entry_at stm) t (drop (suc (length up)) ps) b' ms) ++ down (sols r t res stm ps up) i
    unfolding from sols next_pattern
    in-suc up i ms h = rw (drop-cons ps (length up) (pattern 0 0 0) h)

    in-zero : (up : List Level) (ms : List ℕ) → length up < length ps → from_in up (0 ∷ ms) ≡ []
    unfolding from
    in-zero up ms h = rw (drop-cons ps (length up) (pattern 0 0 0) h)

    -- the deepest
    in-deep : (up : List Level) (m : ℕ) → length up < length ps → from_in up (m ∷ []) ≡ down (sols r t res stm ps up) m
    in-deep up zero h = in-zero up [] h ∙ (unfold down in refl)
    in-deep up (suc i) h = in-suc up i [] h ∙ unfold sols down in
        (rw (fun_ext (λ b'. from-none (entry_at stm) t (drop (suc (length up)) ps) b')))

    -- by what the record of a level hits
    record-split : (e : Level) (up : List Level) (ns : List ℕ) (o : Option Bindings) → length up < length ps
        → 0 < e.statement.0
        → hit_at (entry_at stm) (next_pattern ps up) (binds stm ps up) (prev e.statement.0) ≡ o
        → from_in up (e.statement.0 ∷ ns)
        ≡ each o (λ b'. from (entry_at stm) t (drop (suc (length up)) ps) b' ns)
        ++ down (sols r t res stm ps up) (prev e.statement.0)
    record-split e up ns o h p d =
        ap (λ (z : ℕ). from_in up (z ∷ ns)) (suc-prev e.statement.0 p)
        ∙ in-suc up (prev e.statement.0) ns h
        ∙ ap (λ (z : Option Bindings). each z (λ b'. from (entry_at stm) t (drop (suc (length up)) ps) b' ns)
        ++ down (sols r t res stm ps up) (prev e.statement.0)) d

    from-split : (up : List Level) (ns : List ℕ) → Entered r t res stm ps up
        → from_c (numbers_on up ns) ≡ from_in up ns ++ above r t res stm ps up
    unfolding numbers_on above
    from-split [] ns N = unfold binds in (sym (append-nil (from (entry_at stm) t ps unbound ns)))
    from-split (e ∷ up) ns N =
        let P = N.0 in
        let h = sym (hit_same r t res stm ps L fit low e up) ∙ P.hits in
        from-split up (e.statement.0 ∷ ns) N.1
        ∙ ap (λ (z : List Bindings). z ++ above r t res stm ps up)
        (record-split e up ns (some (binds stm ps (e ∷ up))) P.deep.room P.pos h)
        ∙ append_assoc (from_in (e ∷ up) ns) (down (sols r t res stm ps up) (prev e.statement.0))
        (above r t res stm ps up)

    place-left : (l : Level) (up : List Level) → length up < length ps → Entered r t res stm ps up
        → left r t res stm ps l up ≡ from_c (numbers_on up (l.statement.0 ∷ []))
    unfolding left
    place-left l up h N =
        sym (from-split up (l.statement.0 ∷ []) N ∙ ap (λ (z : List Bindings). z ++ above r t res stm ps up)
        (in-deep up l.statement.0 h))

    -- ---- what refusal 6 leaves

    bits : (e : Level) (up : List Level) → entered_ok stm ps r t (e ∷ up) ≡ true → Bits e up
        × (entered_ok stm ps r t up ≡ true)
    unfolding binds record_at
    bits e up h =
        let f = (entered-tests r t stm ps e up).0 h in
        let T = f.0 in
        let b = some-or_else _ (binds stm ps up) T.matched in
        (record { pos = T.positive; le = T.within; picked = T.chain; matched = b }, f.1)

    deep_of : (e : Level) (up : List Level) → Entered r t res stm ps up → length up < length ps → Bits e up
        → Deep r t res stm ps e up
    deep_of e up N h B =
        let q = suc-prev e.statement.0 B.pos in
        let i : prev e.statement.0 < t = omega (arith, B.le) in
        let f : on_words stm e.chain (asked stm ps up) (prev e.statement.0) ≡ true =
        on e.chain B.picked i in
        record {
          room = h;
          picked = B.picked;
          le = B.le;
          here = λ j g. let k : prev e.statement.0 ≡ j = ap prev g in rw k at f;
        }
      where
        on : (ch : Chain) → chain_ok ch (asked stm ps up) ≡ true → prev e.statement.0 < t
            → on_words stm ch (asked stm ps up) (prev e.statement.0) ≡ true
        on ch o i = unfold asked in
            (match-on stm ch (next_pattern ps up) (binds stm ps up) (binds stm ps (e ∷ up)) (prev e.statement.0)
            (pat-fit r t res stm ps L fit low up N h) (tri-low r t res stm ps L fit low (prev e.statement.0) i)
            (unfold asked in o) B.matched)

    hit-entry : (e : Level) (up : List Level) → (entry_at stm (prev e.statement.0)).retracted ≡ false
        → match (next_pattern ps up) (triple_at stm (prev e.statement.0)) (binds stm ps up)
        ≡ some (binds stm ps (e ∷ up))
        → hit_at (entry_at stm) (next_pattern ps up) (binds stm ps up) (prev e.statement.0)
        ≡ some (binds stm ps (e ∷ up))
    unfolding entry_at
    hit-entry e up d h =
        hit-of (entry_at stm) (next_pattern ps up) (binds stm ps up) (binds stm ps (e ∷ up))
        (prev e.statement.0) d h

    entered_of : (up : List Level) → length up ≤ length ps → entered_ok stm ps r t up ≡ true
        → any_retracted stm up ≡ false → Entered r t res stm ps up
    unfolding any_retracted
    entered_of [] h o z = tt
    entered_of (e ∷ up) h o z =
        let K = bits e up o in let B = K.0 in
        let N = entered_of up (omega arith) K.1 (or_r (level_retracted stm e) _ z) in (
          record {
            deep = deep_of e up N (omega arith) B;
            pos = B.pos;
            hits = hit_same r t res stm ps L fit low e up
                ∙ hit-entry e up (sym (retracted-entry stm e) ∙ or_l (level_retracted stm e) _ z) B.matched;
          },
          N,
        )

    hit-retracted : (e : Level) (up : List Level) → level_retracted stm e ≡ true
        → hit_at (entry_at stm) (next_pattern ps up) (binds stm ps up) (prev e.statement.0) ≡ none
    unfolding hit_at
    hit-retracted e up z = rw (sym (retracted-entry stm e) ∙ z)

    -- a record retracted: what is deeper does not count
    retracted-split : (e : Level) (up : List Level) (ns : List ℕ) → Entered r t res stm ps up → length up < length ps
        → 0 < e.statement.0 → level_retracted stm e ≡ true
        → from_c (numbers_on up (e.statement.0 ∷ ns))
        ≡ down (sols r t res stm ps up) (prev e.statement.0) ++ above r t res stm ps up
    retracted-split e up ns N h p z =
        from-split up (e.statement.0 ∷ ns) N
        ∙ ap (λ (z : List Bindings). z ++ above r t res stm ps up)
        (record-split e up ns none h p (hit-retracted e up z))

    only-last : (a b : Bool) → a || b ≡ true → b ≡ false → a ≡ true
    only-last true b e d = refl
    only-last false b e d = absurd (true≢false (sym e ∙ d))

    from_cut : (up : List Level) (ns ns' : List ℕ) → length up ≤ length ps → entered_ok stm ps r t up ≡ true
        → any_retracted stm up ≡ true → from_c (numbers_on up ns) ≡ from_c (numbers_on up ns')
    unfolding any_retracted numbers_on
    from_cut [] ns ns' h o z = absurd (false≢true z)
    from_cut (e ∷ up) ns ns' h o z =
        let K = bits e up o in
        decide (any_retracted stm up)
        (λ d. from_cut up (e.statement.0 ∷ ns) (e.statement.0 ∷ ns') (omega arith) K.1 d)
        (λ d. let N = entered_of up (omega arith) K.1 d in
        let k = only-last (level_retracted stm e) (any_retracted stm up) z d in
        retracted-split e up ns N (omega arith) K.0.pos k
        ∙ sym (retracted-split e up ns' N (omega arith) K.0.pos k))

    -- ---- the place as the walk takes it up

    past-step : (e : Level) (up : List Level) (l : Level) → length up < length ps
        → entered_ok stm ps r t (e ∷ up) ≡ true → any_retracted stm (e ∷ up) ≡ true
        → from_c (numbers_on up ((past stm e).statement.0 ∷ [])) ≡ from_c (numbers_on (e ∷ up) (l.statement.0 ∷ []))
    unfolding numbers_on any_retracted
    past-step e up l h o z =
        let K = bits e up o in let B = K.0 in
        decide (any_retracted stm up)
        (λ d. from_cut up ((past stm e).statement.0 ∷ []) (e.statement.0 ∷ l.statement.0 ∷ []) (omega arith)
        K.1 d)
        (λ d. let N = entered_of up (omega arith) K.1 d in
        sym (place-left (past stm e) up h N)
        ∙ left-past r t res stm ps L fit low e up (prev e.statement.0) (deep_of e up N h B) N
        (suc-prev e.statement.0 B.pos)
        ∙ sym (retracted-split e up (l.statement.0 ∷ []) N h B.pos
        (only-last (level_retracted stm e) (any_retracted stm up) z d)))

    pruned-is : (up : List Level) (l : Level) → length up < length ps → entered_ok stm ps r t up ≡ true
        → (any_retracted stm up ≡ false → Deep r t res stm ps l up) → Pruned l up (pruned stm l up)
    unfolding pruned
    pruned-is [] l h o D = let d = D (unfold any_retracted in refl) in (d, tt, place-left l [] h tt)
    pruned-is (e ∷ up) l h o D =
        let K = bits e up o in let B = K.0 in
        decide (any_retracted stm (e ∷ up))
        (λ z. rw z (
        let past_is : any_retracted stm up ≡ false → Deep r t res stm ps (past stm e) up
        = λ d. past-deep r t res stm ps L fit low e up (prev e.statement.0)
        (deep_of e up (entered_of up (omega arith) K.1 d) (omega arith) B)
        (suc-prev e.statement.0 B.pos) in
        let P = pruned-is up (past stm e) (omega arith) K.1 past_is in
        (P.0, P.1, P.2 ∙ past-step e up l (omega arith) o z)))
        (λ z. rw z (let N = entered_of (e ∷ up) (omega arith) o z in (D z, N, place-left l (e ∷ up) h N)))

    link-le : (ch : Chain) (i : ℕ) → i < t → link_of stm ch i ≤ i
    unfolding link_of
    link-le All i h = omega arith
    link-le (By p) i h = rw (L.next p i h) (head-le (holding stm p (term_at stm p i)) i)

    intact-any : (up : List Level) → entered_ok stm ps r t up ≡ true → intact stm up ≡ true
    unfolding intact past
    intact-any [] o = refl
    intact-any (e ∷ up) o =
        let K = bits e up o in let B = K.0 in
        let i : prev e.statement.0 < t = (let q = suc-prev e.statement.0 B.pos in omega (arith, B.le)) in
        and-of _ _ (and-of _ _ (le-leb (flag_at stm (prev e.statement.0)) 1 (L.flag (prev e.statement.0) i))
        (le-leb (link_of stm e.chain (prev e.statement.0)) (prev e.statement.0)
        (link-le e.chain (prev e.statement.0) i)))
        (intact-any up K.1)

    holds-resource-on : (ch : Chain) (x : Triple) (i : ℕ) → holds_resource stm ch x i ≡ true → on_words stm ch x i ≡ true
    unfolding holds_resource on_chain
    holds-resource-on All x i e = refl
    holds-resource-on (By p) x i e = rw (triple-at stm p i) e

    next-on : (ch : Chain) (x : Triple) (n : ℕ) → record_ok stm ch x n ≡ true → (i : ℕ) → n ≡ suc i
        → on_words stm ch x i ≡ true
    unfolding record_ok
    next-on ch x zero e i h = absurd (omega arith)
    next-on ch x (suc n) e i h = let k : n ≡ i = omega arith in rw (← k) (holds-resource-on ch x n e)

    reached-place : (q : Place) → Reached r t res stm ps q → left_at r t res stm ps q ≡ from_place q
    unfolding left_at from_place
    reached-place start R = refl
    reached-place (inside l up) R = place-left l up R.0.room R.1
    reached-place finish R = refl

    gives : (q : Place) (b : ℕ) (ss : List Bindings) (w k : ℕ) (a : Answer) → from_place q ≡ ss
        → Outcome r t res stm ps 0 b ss w k a → Gives q b a
    gives q b ss w k (refused n) e o = o
    gives q b ss w k (found s v q') e o = (
      e ∙ o.0 ∙ ap (λ (z : List Bindings). s ∷ z) (reached-place q' o.1),
      reached-ok r t res stm ps L fit low q' o.1,
      o.1,
    )
    gives q b ss w k (ended v) e o = e ∙ o.0
    gives q b ss w k (spent v q') e o =
        (e ∙ o.0 ∙ reached-place q' o.1, reached-ok r t res stm ps L fit low q' o.1, o.4, o.1)

    pub any_place : (q : Place) (b : ℕ) → place_ok stm ps r t q ≡ true → 0 < b → Gives q b (resume r t res stm ps q b)
    any_place start b o h =
        gives start b (left_at r t res stm ps start) (visits_at r t res stm ps start) (toil_at r t res stm ps start)
        (resume r t res stm ps start b) (sym (reached-place start tt)) (start-outcome r t res stm ps L fit low b h)
    any_place (inside l up) b o h =
        let K = (place-tests r t stm ps l up).0 o in
        let D : Deep r t res stm ps l up =
        record {
          room = K.room;
          picked = K.chain;
          le = K.within;
          here =
              next-on l.chain (asked stm ps up) l.statement.0 K.next;
        } in
        let P = pruned-is up l K.room K.entered (λ z. D) in
        gives (inside l up) b (left r t res stm ps (pruned stm l up).0 (pruned stm l up).1)
        (toil_left r t res stm ps (pruned stm l up).0 (pruned stm l up).1)
        (toil_left r t res stm ps (pruned stm l up).0 (pruned stm l up).1)
        (resume r t res stm ps (inside l up) b)
        (unfold from_place in (sym P.2))
        (unfold resume in (rw (intact-any up K.entered)
        (walk-outcome r t res stm ps L fit low b (pruned stm l up).0 (pruned stm l up).1 0 P.0
        P.1)))
    any_place finish b o h = unfold resume from_place in refl

    -- the numbers of a place are those of records
    place-le : (up : List Level) (ns : List ℕ) → entered_ok stm ps r t up ≡ true → AllLe t ns
        → AllLe t (numbers_on up ns)
    unfolding numbers_on
    place-le [] ns o h = h
    place-le (e ∷ up) ns o h = let K = bits e up o in place-le up (e.statement.0 ∷ ns) K.1 (K.0.le, h)

    pub place-keeps : (once : (i j : ℕ) → i < j → j < t → (entry_at stm i).spo ≢ (entry_at stm j).spo) (l : Level)
        (up : List Level) → place_ok stm ps r t (inside l up) ≡ true
        → from_place (inside l up)
        ≡ keep (λ s. at_or_after (numbers_on up (l.statement.0 ∷ [])) (statements (entry_at stm) t ps s))
        (solve (entry_at stm) t ps unbound)
    unfolding from_place entry_at
    place-keeps once l up o = let K = (place-tests r t stm ps l up).0 o in
        from-keep (entry_at stm) t (tri-low r t res stm ps L fit low) once ps unbound
        (numbers_on up (l.statement.0 ∷ [])) fit (place-le up (l.statement.0 ∷ []) K.entered (K.within, tt))
