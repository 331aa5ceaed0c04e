-- All solutions of a list of patterns over entries, in the paper's order (`solve`): nested, with no word of chains or
-- places. It gives exactly the bindings under which every pattern's triple is a live entry's, each once.
-- Assumes nothing.
use mathlib.Core.Path.{◌≡◌, refl, sym, ap, ◌∙◌}
use mathlib.Core.Logic.{◌≢◌, ◌⊎◌, inl, inr}
use mathlib.Core.Bool.{Bool, true, false, ◌||◌}
use mathlib.Core.List.Memᴰ
use mathlib.Core.List.{List, [], ◌∷◌, ◌++◌, Memᴰ}
use mathlib.Core.Option.{Option, none, some}
use Prim.Native.Nat.{ℕ, zero, suc, ◌+◌, ◌-◌, ◌<◌}
use native.Mathlib.Omega.{arith}
use lib.ListN.{length, get_or}
use lib.Dec.{eqb}
use borrow.Author.Tests.{eqb-true, eqb-false, le-leb}
use Rattle.store.specs.declared.Position.{Position}
use Rattle.store.specs.declared.Position.TheVariants.{Subject, Predicate, Object}
use Rattle.store.specs.declared.ResourceId.{ResourceId}
use Rattle.store.specs.declared.Triple.{Triple}
use Rattle.store.specs.Shared.{at, same, below, head0, Entry}
use Rattle.store.proofs.Tests.{decide, same_self, same-is}
use Rattle.store.proofs.Falling.{head-unique}
use Rattle.graph.specs.declared.QueryPattern.{QueryPattern}
use Rattle.graph.specs.Work.{hit_at}
use Rattle.graph.specs.Query.{match}
use Rattle.graph.specs.Words.{first_variable, Bindings, resource, bound_to, value_of, under}
use Rattle.graph.specs.Order.{Lower, Descending, NoDuplicates}
use Rattle.graph.proofs.Bind.{word_at, bound-ext, More, Fits3, Known3, is_the, occurs_in, or_l, or_r, none≢some}
use Rattle.graph.proofs.Bind.{value-variable, value-more, Matched, match-matched, match-complete}

-- g of each number below n, falling, one after another
unfoldable pub down : {A : Type 0} → (ℕ → List A) → ℕ → List A
down g zero = []
down g (suc n) = g n ++ down g n

abbrev pub each : {A B : Type 0} → Option A → (A → List B) → List B
each none f = []
each (some a) f = f a

-- the solutions with more than b, the first pattern's entry falling first
unfoldable pub solve : (ℕ → Entry) → ℕ → List QueryPattern → Bindings → List Bindings
solve E n [] b = b ∷ []
solve E n (x ∷ ps) b = down (λ i. each (hit_at E x b i) (λ b'. solve E n ps b')) n

-- ---- every member

abbrev pub Every : {A : Type 0} → (A → Type 0) → List A → Type 0
Every P [] = Unit {0}
Every P (x ∷ xs) = P x × Every P xs

pub every-at : {A : Type 0} (P : A → Type 0) (d : A) (xs : List A) (i : ℕ) → Every P xs → i < length xs
    → P (get_or xs i d)
every-at P d [] i h q = absurd (omega arith)
every-at P d (x ∷ xs) zero h q = h.0
every-at P d (x ∷ xs) (suc i) h q = every-at P d xs i h.1 (omega arith)

pub every-member : {A : Type 0} (P : A → Type 0) (xs : List A) (y : A) → Every P xs → Memᴰ y xs → P y
every-member P [] y h m = absurd (Memᴰ.not-nil m)
every-member P (x ∷ xs) y h m = one (Memᴰ.cases_cons m) (every-member P xs y h.1)
  where
    one : (y ≡ x) ⊎ Memᴰ y xs → (Memᴰ y xs → P y) → P y
    one (inl e) k = rw e h.0
    one (inr q) k = k q

pub every_of : {A : Type 0} (P : A → Type 0) (xs : List A) → ((y : A) → Memᴰ y xs → P y) → Every P xs
every_of P [] h = tt
every_of P (x ∷ xs) h = (h x (Memᴰ.head refl), every_of P xs (λ y m. h y (Memᴰ.tail m)))

-- ---- what is to be had

unfoldable pub occurs : ℕ → List QueryPattern → Bool
occurs v [] = false
occurs v (x ∷ ps) = occurs_in v x || occurs v ps

-- the triple is that of a live entry
unfoldable pub Among : (ℕ → Entry) → ℕ → Triple → Type 0
Among E n t = (i : ℕ) × (i < n) × ((E i).spo ≡ t) × ((E i).retracted ≡ false)

abbrev pub Holds : (ℕ → Entry) → ℕ → List QueryPattern → Bindings → Type 0
Holds E n ps s = Every (λ x. Among E n (under s x)) ps

pub record Solved (E : ℕ → Entry) (n : ℕ) (ps : List QueryPattern) (b s : Bindings) : Type 0 where
  pub len : length s ≡ length b
  pub more : More b s
  pub only : (v : ℕ) → bound_to b v ≡ 0 → occurs v ps ≡ false → bound_to s v ≡ 0
  pub holds : Holds E n ps s

abbrev pub AllFit : ℕ → List QueryPattern → Type 0
AllFit k ps = Every (λ x. Fits3 k x) ps

-- ---- lists

pub down_out : {A : Type 0} (g : ℕ → List A) (n : ℕ) (a : A) → Memᴰ a (down g n) → (i : ℕ) × (i < n)
    × Memᴰ a (g i)
unfolding down
down_out g zero a m = absurd (Memᴰ.not-nil m)
down_out g (suc n) a m = pick_one (Memᴰ.append_cases (g n) m) (down_out g n a)
  where
    pick_one : Memᴰ a (g n) ⊎ Memᴰ a (down g n)
        → (Memᴰ a (down g n) → (i : ℕ) × (i < n) × Memᴰ a (g i))
        → (i : ℕ) × (i < suc n) × Memᴰ a (g i)
    pick_one (inl h) k = (n, omega arith, h)
    pick_one (inr h) k = let r = k h in (r.0, omega (arith, r.1), r.2)

down-in : {A : Type 0} (g : ℕ → List A) (n i : ℕ) (a : A) → i < n → Memᴰ a (g i) → Memᴰ a (down g n)
unfolding down
down-in g zero i a h m = absurd (omega arith)
down-in g (suc n) i a h m = decide (eqb i n)
    (λ e. Memᴰ.append_left (down g n) (rw (eqb-true i n e) at m))
    (λ e. let q : i ≢ n = eqb-false i n e in Memᴰ.append_right (g n) (down-in g n i a (omega arith) m))

-- ---- triples

pub triple-ext : (x y : Triple) → ((p : Position) → at p x ≡ at p y) → x ≡ y
triple-ext x y h =
    let a : x.subject ≡ y.subject = ap resource (h Subject) in
    let b : x.predicate ≡ y.predicate = ap resource (h Predicate) in
    let d : x.object ≡ y.object = ap resource (h Object) in
    ap (λ (z : ResourceId). record { subject = z; predicate = x.predicate; object = x.object }) a
    ∙ ap (λ (z : ResourceId). record { subject = y.subject; predicate = z; object = x.object }) b
    ∙ ap (λ (z : ResourceId). record { subject = y.subject; predicate = y.predicate; object = z }) d

pub under_at : (b : Bindings) (x : QueryPattern) (p : Position) → at p (under b x) ≡ value_of b (word_at p x)
unfolding under
under_at b x Subject = refl
under_at b x Predicate = refl
under_at b x Object = refl

pub under_more : (b s : Bindings) (x : QueryPattern) (t : Triple) → More b s → Known3 t
    → ((p : Position) → at p (under b x) ≡ at p t) → t ≡ under s x
under_more b s x t m k h = triple-ext t (under s x) (λ p.
    let e : value_of b (word_at p x) ≡ at p t = sym (under_at b x p) ∙ h p in
    let g : 0 < value_of b (word_at p x) = rw e (k p) in
    sym (under_at s x p ∙ value-more b s (word_at p x) m g ∙ e))

is_the-at : (v w : ℕ) → is_the v w ≡ true → w ≡ first_variable + v
unfolding is_the
is_the-at v w e = eqb-true w (first_variable + v) e

pub occurs_in-at : (v : ℕ) (x : QueryPattern) → occurs_in v x ≡ true → (p : Position) × (word_at p x ≡ first_variable + v)
unfolding occurs_in
occurs_in-at v x e = decide (is_the v x.subject)
    (λ d. (Subject, is_the-at v x.subject d))
    (λ d. decide (is_the v x.predicate)
    (λ f. (Predicate, is_the-at v x.predicate f))
    (λ f. (Object, is_the-at v x.object (rw (d, f) at e))))

-- a variable's word reads what is bound
pub value-var : (b : Bindings) (v : ℕ) → value_of b (first_variable + v) ≡ bound_to b v
value-var b v = let e : first_variable + v - first_variable ≡ v = omega arith in
    value-variable b (first_variable + v) (le-leb first_variable (first_variable + v) (omega arith))
    ∙ ap (λ (z : ℕ). bound_to b z) e

pub matched-reads : (x : QueryPattern) (t : Triple) (b b' : Bindings) → Matched x t b b' → (v : ℕ) (p : Position)
    → word_at p x ≡ first_variable + v → bound_to b' v ≡ at p t
matched-reads x t b b' M v p e = sym (value-var b' v) ∙ ap (value_of b') (sym e) ∙ sym (under_at b' x p) ∙ M.reads p

matched-binds : (x : QueryPattern) (t : Triple) (b b' : Bindings) → Matched x t b b' → Known3 t → (v : ℕ)
    → occurs_in v x ≡ true → 0 < bound_to b' v
matched-binds x t b b' M k v e =
    let r = occurs_in-at v x e in rw (matched-reads x t b b' M v r.0 r.1) (k r.0)

pub hit-some : (E : ℕ → Entry) (x : QueryPattern) (b b' : Bindings) (i : ℕ) → hit_at E x b i ≡ some b'
    → ((E i).retracted ≡ false) × (match x (E i).spo b ≡ some b')
unfolding hit_at
hit-some E x b b' i e = decide (E i).retracted (λ d. none≢some (rw d at e)) (λ d. (d, rw d at e))

pub hit-of : (E : ℕ → Entry) (x : QueryPattern) (b b' : Bindings) (i : ℕ) → (E i).retracted ≡ false
    → match x (E i).spo b ≡ some b' → hit_at E x b i ≡ some b'
unfolding hit_at
hit-of E x b b' i d e = rw (d, e)

pub each-out : {A B : Type 0} (o : Option A) (f : A → List B) (z : B) → Memᴰ z (each o f) → (a : A)
    × (o ≡ some a) × Memᴰ z (f a)
each-out none f z m = absurd (Memᴰ.not-nil m)
each-out (some a) f z m = (a, refl, m)

-- ---- exactly the solutions

module _ (E : ℕ → Entry) (n : ℕ) (positive : (i : ℕ) → i < n → Known3 (E i).spo) where
  pub solve-sound : (ps : List QueryPattern) (b s : Bindings) → AllFit (length b) ps → Memᴰ s (solve E n ps b)
      → Solved E n ps b s
  unfolding solve occurs Among
  solve-sound [] b s f m = one (Memᴰ.cases_cons m)
    where
      one : (s ≡ b) ⊎ Memᴰ s [] → Solved E n [] b s
      one (inl e) = rw e (record { len = refl; more = λ v q. refl; only = λ v q g. q; holds = tt })
      one (inr h) = absurd (Memᴰ.not-nil h)
  solve-sound (x ∷ ps) b s f m =
      let r = down_out (λ i. each (hit_at E x b i) (λ b'. solve E n ps b')) n s m in
      let i = r.0 in
      let h = each-out (hit_at E x b i) (λ b'. solve E n ps b') s r.2 in
      let b' = h.0 in
      let d = hit-some E x b b' i h.1 in
      let k = positive i r.1 in
      let M = match-matched x (E i).spo b b' f.0 k d.1 in
      let S = solve-sound ps b' s (rw M.len f.1) h.2 in
      record {
        len = S.len ∙ M.len;
        more = λ v q. S.more v (rw (M.more v q) q) ∙ M.more v q;
        only = λ v q g. S.only v (M.only v q (or_l (occurs_in v x) _ g)) (or_r (occurs_in v x) _ g);
        holds = ((i, r.1, under_more b' s x (E i).spo S.more k M.reads, d.0), S.holds);
      }

  pub solve-complete : (ps : List QueryPattern) (b s : Bindings) → AllFit (length b) ps → Solved E n ps b s
      → Memᴰ s (solve E n ps b)
  unfolding solve occurs Among
  solve-complete [] b s f S = Memᴰ.head (bound-ext s b S.len (λ v h. decide (eqb (bound_to b v) 0)
      (λ e. let z = eqb-true (bound_to b v) 0 e in S.only v z refl ∙ sym z)
      (λ e. let z : bound_to b v ≢ 0 = eqb-false (bound_to b v) 0 e in S.more v (omega arith))))
  solve-complete (x ∷ ps) b s f S =
      let a = S.holds.0 in
      let i = a.0 in
      let k = positive i a.1 in
      let r = match-complete x (E i).spo b s f.0 k S.len S.more (sym a.2) in
      let b' = r.0 in
      let M = match-matched x (E i).spo b b' f.0 k r.1 in
      let e = hit-of E x b b' i a.3 r.1 in
      let T : Solved E n ps b' s = record {
        len = S.len ∙ sym M.len;
        more = r.2;
        only = λ v q g. decide (occurs_in v x)
            (λ d. absurd (omega (arith, matched-binds x (E i).spo b b' M k v d, q)))
            (λ d. S.only v (back b b' M.more v q) (rw (d, g)));
        holds = S.holds.1;
      } in
      down-in (λ i. each (hit_at E x b i) (λ b'. solve E n ps b')) n i s a.1
      (rw e (solve-complete ps b' s (rw M.len f.1) T))
    where
      back : (b b' : Bindings) → More b b' → (v : ℕ) → bound_to b' v ≡ 0 → bound_to b v ≡ 0
      back b b' m v q = decide (eqb (bound_to b v) 0)
          (λ e. eqb-true (bound_to b v) 0 e)
          (λ e. let z : bound_to b v ≢ 0 = eqb-false (bound_to b v) 0 e in absurd (omega (arith, m v (omega arith), q)))

-- ---- the order

-- the number of the entry with the triple, or 0
unfoldable pub number_of : (ℕ → Entry) → ℕ → Triple → ℕ
number_of E n t = head0 (below (λ i. same t (E i).spo) n)

-- a solution's statements, one a pattern
unfoldable pub statements : (ℕ → Entry) → ℕ → List QueryPattern → Bindings → List ℕ
statements E n [] s = []
statements E n (x ∷ ps) s = number_of E n (under s x) ∷ statements E n ps s

same_false : (t x : Triple) → x ≢ t → same t x ≡ false
same_false t x h = decide (same t x) (λ d. absurd (h (same-is t x d))) (λ d. d)

descending-append : {A : Type 0} (k : A → List ℕ) (xs ys : List A) → Descending k xs → Descending k ys
    → ((x y : A) → Memᴰ x xs → Memᴰ y ys → Lower (k y) (k x)) → Descending k (xs ++ ys)
descending-append k [] ys a b h = b
descending-append k (x ∷ xs) ys a b h = (
  (λ y m. pick_one y (Memᴰ.append_cases xs m)),
  descending-append k xs ys a.1 b (λ x y m l. h x y (Memᴰ.tail m) l),
)
  where
    pick_one : (y : _) → Memᴰ y xs ⊎ Memᴰ y ys → Lower (k y) (k x)
    pick_one y (inl m) = a.0 y m
    pick_one y (inr m) = h x y (Memᴰ.head refl) m

pub descending-map : {A : Type 0} (k k' : A → List ℕ) (xs : List A)
    → ((x y : A) → Memᴰ x xs → Memᴰ y xs → Lower (k y) (k x) → Lower (k' y) (k' x)) → Descending k xs
    → Descending k' xs
descending-map k k' [] h a = tt
descending-map k k' (x ∷ xs) h a = (
  (λ y m. h x y (Memᴰ.head refl) (Memᴰ.tail m) (a.0 y m)),
  descending-map k k' xs (λ x y m l. h x y (Memᴰ.tail m) (Memᴰ.tail l)) a.1,
)

descending-down : {A : Type 0} (k : A → List ℕ) (g : ℕ → List A) (n : ℕ) → ((i : ℕ) → i < n → Descending k (g i))
    → ((i j : ℕ) → i < n → j < i → (x y : A) → Memᴰ x (g i) → Memᴰ y (g j) → Lower (k y) (k x))
    → Descending k (down g n)
unfolding down
descending-down k g zero h c = tt
descending-down k g (suc n) h c = descending-append k (g n) (down g n) (h n (omega arith))
    (descending-down k g n (λ i q. h i (omega arith)) (λ i j q r. c i j (omega arith) r))
    (λ x y m l. let r = down_out g n y l in c n r.0 (omega arith) r.1 x y m r.2)

module _ (E : ℕ → Entry) (n : ℕ) (positive : (i : ℕ) → i < n → Known3 (E i).spo)
    (once : (i j : ℕ) → i < j → j < n → (E i).spo ≢ (E j).spo) where
  pub number_is : (i : ℕ) (t : Triple) → i < n → (E i).spo ≡ t → number_of E n t ≡ suc i
  unfolding number_of
  number_is i t h e =
      head-unique (λ i. same t (E i).spo) n i h (same_self t (E i).spo e)
      (λ j a b. same_false t (E j).spo (λ d. once i j a b (e ∙ sym d)))

  -- a solution from entry i has i + 1 for its first statement
  pub number_in : (x : QueryPattern) (ps : List QueryPattern) (b : Bindings) (i : ℕ) (s : Bindings)
      → AllFit (length b) (x ∷ ps) → i < n
      → Memᴰ s (each (hit_at E x b i) (λ b'. solve E n ps b')) → number_of E n (under s x) ≡ suc i
  number_in x ps b i s f h m =
      let r = each-out (hit_at E x b i) (λ b'. solve E n ps b') s m in
      let b' = r.0 in
      let k = positive i h in
      let d = hit-some E x b b' i r.1 in
      let M = match-matched x (E i).spo b b' f.0 k d.1 in
      let S = solve-sound E n positive ps b' s (rw M.len f.1) r.2 in
      number_is i (under s x) h (under_more b' s x (E i).spo S.more k M.reads)

  pub solve-descending : (ps : List QueryPattern) (b : Bindings) → AllFit (length b) ps
      → Descending (statements E n ps) (solve E n ps b)
  unfolding solve statements
  solve-descending [] b f = ((λ y m. absurd (Memᴰ.not-nil m)), tt)
  solve-descending (x ∷ ps) b f =
      descending-down (statements E n (x ∷ ps)) (λ i. each (hit_at E x b i) (λ b'. solve E n ps b')) n
      (λ i h. branch i h (hit_at E x b i) refl (λ b'. solve-descending ps b'))
      (λ i j h q y z m l. inl (rw (number_in x ps b i y f h m, number_in x ps b j z f (omega arith) l) (omega arith)))
    where
      branch : (i : ℕ) → i < n → (o : Option Bindings) → hit_at E x b i ≡ o
          → ((b' : Bindings) → AllFit (length b') ps → Descending (statements E n ps) (solve E n ps b'))
          → Descending (statements E n (x ∷ ps)) (each o (λ b'. solve E n ps b'))
      branch i h none e ih = tt
      branch i h (some b') e ih =
          let d = hit-some E x b b' i e in
          let M = match-matched x (E i).spo b b' f.0 (positive i h) d.1 in
          let num : (s : Bindings) → Memᴰ s (solve E n ps b') → number_of E n (under s x) ≡ suc i =
          λ s m. number_in x ps b i s f h (rw e m) in
          descending-map (statements E n ps) (statements E n (x ∷ ps)) (solve E n ps b')
          (λ y z m l q. unfold statements in (inr (num z l ∙ sym (num y m), q))) (ih b' (rw M.len f.1))

lower-self : (l : List ℕ) → Lower l l → ⊥
lower-self [] h = h
lower-self (a ∷ al) (inl h) = absurd (omega arith)
lower-self (a ∷ al) (inr h) = lower-self al h.1

pub descending-nodup : {A : Type 0} (k : A → List ℕ) (xs : List A) → Descending k xs → NoDuplicates xs
descending-nodup k [] h = tt
descending-nodup k (x ∷ xs) h = ((λ m. lower-self (k x) (h.0 x m)), descending-nodup k xs h.1)
