-- What room means on plain lists: a triple whose names and statement have room is not refused, one that wants room and is not listed is,
-- and a triple with a name that is new is not listed. Assumes nothing.
use mathlib.Core.Path.{◌≡◌, refl, sym, ap, ◌∙◌}
use mathlib.Core.Logic.{◌≢◌, ◌⊎◌, inl, inr}
use mathlib.Core.Bool.{Bool, true, false, ◌&&◌, false≢true}
use mathlib.Core.List.{List, [], ◌∷◌, ◌++◌}
use Prim.Native.Nat.{ℕ, zero, suc, ◌≤◌, ◌<◌}
use native.Mathlib.Omega.{arith}
use lib.ListN.{length}
use lib.Dec.{eqb, leb, ltb}
use borrow.Author.Tests.{eqb-true, eqb-false, ne_eqb, lt-ltb, le-ltb, le-leb, lt-leb, leb-true, ltb-true, ltb-false}
use Rattle.term.specs.Scanner.{first_kind_of}
use Rattle.store.specs.declared.Position.{Position}
use Rattle.store.specs.declared.Position.TheVariants.{Subject, Predicate, Object}
use Rattle.store.specs.declared.Triple.{Triple}
use Rattle.store.specs.Shared.{at, triple, known, kinds_permitted, name_of, text_bytes, lookup_name}
use Rattle.store.specs.Values.{Values}
use Rattle.store.specs.Names.{storable}
use Rattle.store.specs.Model.{Model, Capacities, intern, with_names, intern_name, intern_model, entry, lookup, put}
use Rattle.store.specs.Model.{assert_model, call_model}
use Rattle.store.proofs.Tests.{decide, and_l, and_r, and-of, cond-all, known-high}
use Rattle.store.proofs.Text.{length-snoc, bytes-snoc}
use Rattle.store.proofs.Form.{storable-formed, storable-kept}
use Rattle.store.proofs.Kept.{Tidy}
use Rattle.graph.specs.Meaning.{RdfTriple, part_at}
use Rattle.graph.specs.Claims.{loading, load_model}
use Rattle.graph.proofs.Listed.{listed_at}
use Rattle.whole_line.specs.Room.{with_new, Storable}

-- ---- names within capacity

pub roomy : Capacities → List (List ℕ) → Bool
roomy k ns = leb (length ns) k.resources && leb (text_bytes ns) k.text

pub roomy-parts : (k : Capacities) (ns : List (List ℕ)) → roomy k ns ≡ true → (length ns ≤ k.resources) × (text_bytes ns ≤ k.text)
unfolding roomy
roomy-parts k ns e =
    (leb-true _ _ (and_l _ _ e), leb-true _ _ (and_r (leb (length ns) k.resources) _ e))

pub roomy_of : (k : Capacities) (ns : List (List ℕ)) → length ns ≤ k.resources → text_bytes ns ≤ k.text → roomy k ns ≡ true
unfolding roomy
roomy_of k ns a b = and-of _ _ (le-leb _ _ a) (le-leb _ _ b)

pub record Grows (ns : List (List ℕ)) (w : List ℕ) : Type 0 where
  pub longer : length ns ≤ length (with_new ns w)
  pub more : text_bytes ns ≤ text_bytes (with_new ns w)
  pub new : lookup_name w ns ≡ 0 → with_new ns w ≡ ns ++ w ∷ []
  pub old : lookup_name w ns ≢ 0 → with_new ns w ≡ ns

pub grows : (ns : List (List ℕ)) (w : List ℕ) → Grows ns w
unfolding with_new
grows ns w =
    decide (eqb (lookup_name w ns) 0)
    (λ e. record {
      longer = rw (e, length-snoc ns w) (omega arith);
      more = rw (e, bytes-snoc ns w) (omega arith);
      new = λ q. rw e;
      old = λ q. absurd (q (eqb-true _ 0 e));
    })
    (λ e. record {
      longer = rw e (omega arith);
      more = rw e (omega arith);
      new = λ q. absurd (eqb-false _ 0 e q);
      old = λ q. rw e;
    })

less-roomy : (k : Capacities) (ns : List (List ℕ)) (w : List ℕ) → roomy k (with_new ns w) ≡ true → roomy k ns ≡ true
less-roomy k ns w e =
    let G = grows ns w in
    let p = roomy-parts k (with_new ns w) e in
    roomy_of k ns (omega (arith, G.longer, p.0)) (omega (arith, G.more, p.1))

-- ---- one name entered into plain lists

record Enters (k : Capacities) (l : Model) (w : List ℕ) (r : Model × Values) : Type 0 where
  fitting : roomy k (with_new l.names w) ≡ true → (r.0 ≡ with_names l (with_new l.names w)) × (r.1.refusal ≡ 0)
  full : roomy k (with_new l.names w) ≡ false → roomy k l.names ≡ true → r.1.refusal ≢ 0
  number : r.1.refusal ≡ 0 → lookup_name w l.names ≡ 0 → r.1.number ≡ suc (length l.names)
  listed : lookup_name w l.names ≢ 0 → r.1.number ≡ lookup_name w l.names

room-test : (k : Capacities) (ns : List (List ℕ)) (w : List ℕ)
    → ltb (length ns) k.resources && leb (text_bytes (ns ++ w ∷ [])) k.text ≡ roomy k (ns ++ w ∷ [])
unfolding roomy
room-test k ns w =
    decide (ltb (length ns) k.resources)
    (λ e. rw (e, length-snoc ns w, le-leb (suc (length ns)) k.resources (ltb-true _ _ e)))
    (λ e. rw (e, length-snoc ns w, lt-leb (suc (length ns)) k.resources (omega (arith, ltb-false (length ns) k.resources e))))

enters-at : (k : Capacities) (l : Model) (w : List ℕ) (t : ℕ) → lookup_name w l.names ≡ t → Enters k l w (intern_name k l w t)
unfolding intern_name
enters-at k l w zero e =
    let n = (grows l.names w).new e in
    rw (room-test k l.names w)
    (decide (roomy k (l.names ++ w ∷ []))
    (λ q. rw q (record {
      fitting = λ f. rw n (refl, refl);
      full = λ f g. absurd (false≢true (sym f ∙ (ap (roomy k) n ∙ q)));
      number = λ f g. length-snoc l.names w;
      listed = λ h. absurd (h e);
    }))
    (λ q. rw q (record {
      fitting = λ f. absurd (false≢true (sym q ∙ (ap (roomy k) (sym n) ∙ f)));
      full = λ f g z. omega arith;
      number = λ z. absurd (omega arith);
      listed = λ h. absurd (h e);
    })))
enters-at k l w (suc i) e =
    let o = (grows l.names w).old (λ z. omega arith) in
    record {
      fitting = λ f. rw o (refl, refl);
      full = λ f g. absurd (false≢true (sym f ∙ (ap (roomy k) o ∙ g)));
      number = λ f z. absurd (omega arith);
      listed = λ h. sym e;
    }

enters : (k : Capacities) (l : Model) (w : List ℕ) → storable w ≡ true → Enters k l w (call_model k l (intern w))
unfolding call_model intern_model
enters k l w s =
    rw (storable-formed w s, storable-kept w s) (enters-at k l w (lookup_name w l.names) refl)

-- ---- the statement

-- with room for one more it is refused for nothing that room could mend
assert-open : (k : Capacities) (l : Model) (x : Triple) → length l.entries < k.statements → (assert_model k l x).1.refusal ≢ 3
unfolding assert_model put
assert-open k l x h =
    decide (known (length l.names) x)
    (λ a. rw a (decide (kinds_permitted (λ y. first_kind_of (name_of l.names y)) x)
    (λ b. rw b (at_place (lookup x l.entries)))
    (λ b. rw b (λ z. omega arith))))
    (λ a. rw a (λ z. omega arith))
  where
    at_place : (t : ℕ) → (put k l x t).1.refusal ≢ 3
    at_place zero = rw (lt-ltb (length l.entries) k.statements h) (λ z. omega arith)
    at_place (suc i) =
        cond-all (λ (r : Model × Values). r.1.refusal ≢ 3) (entry l.entries i).retracted _ _ (λ z. omega arith) (λ z. omega arith)

-- without it a triple that is not listed is refused
assert-full : (k : Capacities) (l : Model) (x : Triple) → k.statements ≤ length l.entries → lookup x l.entries ≡ 0
    → (assert_model k l x).1.refusal ≢ 0
unfolding assert_model put
assert-full k l x h e =
    decide (known (length l.names) x)
    (λ a. rw a (decide (kinds_permitted (λ y. first_kind_of (name_of l.names y)) x)
    (λ b. rw (b, e, le-ltb (length l.entries) k.statements h) (λ z. omega arith))
    (λ b. rw b (λ z. omega arith))))
    (λ a. rw a (λ z. omega arith))

-- a triple that is listed is refused for no want of room
assert-there : (k : Capacities) (l : Model) (x : Triple) → lookup x l.entries ≢ 0 → (assert_model k l x).1.refusal ≢ 3
unfolding assert_model put
assert-there k l x h =
    decide (known (length l.names) x)
    (λ a. rw a (decide (kinds_permitted (λ y. first_kind_of (name_of l.names y)) x)
    (λ b. rw b (at_place (lookup x l.entries) h))
    (λ b. rw b (λ z. omega arith))))
    (λ a. rw a (λ z. omega arith))
  where
    at_place : (t : ℕ) → t ≢ 0 → (put k l x t).1.refusal ≢ 3
    at_place zero n = absurd (n refl)
    at_place (suc i) n =
        cond-all (λ (r : Model × Values). r.1.refusal ≢ 3) (entry l.entries i).retracted _ _ (λ z. omega arith) (λ z. omega arith)

-- a number above the names is in no triple listed
unlisted : (l : Model) → Tidy l → (x : Triple) (p : Position) → length l.names < at p x → lookup x l.entries ≡ 0
unlisted l D x p h = by_place (lookup x l.entries) refl
  where
    by_place : (t : ℕ) → lookup x l.entries ≡ t → lookup x l.entries ≡ 0
    by_place zero e = e
    by_place (suc i) e =
        let a = listed_at x l.entries i e in
        let k = known-high (length l.names) x (rw a.1 at (D.inside i a.0)) p in
        absurd (omega arith)

-- ---- a triple

module _ (k : Capacities) (l : Model) (D : Tidy l) (y : RdfTriple) (Y : Storable y.subject y.predicate y.object)
    (fit : roomy k l.names ≡ true) where
  abbrev f₁ : List (List ℕ)
  f₁ = with_new l.names y.subject

  abbrev f₂ : List (List ℕ)
  f₂ = with_new f₁ y.predicate

  abbrev f₃ : List (List ℕ)
  f₃ = with_new f₂ y.object

  abbrev a : Model × Values
  a = call_model k l (intern y.subject)

  abbrev l₁ : Model
  l₁ = with_names l f₁

  abbrev b : Model × Values
  b = call_model k l₁ (intern y.predicate)

  abbrev l₂ : Model
  l₂ = with_names l f₂

  abbrev d : Model × Values
  d = call_model k l₂ (intern y.object)

  abbrev l₃ : Model
  l₃ = with_names l f₃

  abbrev pub x : Triple
  x = triple a.1.number b.1.number d.1.number

  abbrev last : Model × Values
  last = assert_model k l₃ x

  A : Enters k l y.subject a
  A = enters k l y.subject Y.subject

  B : Enters k l₁ y.predicate b
  B = enters k l₁ y.predicate Y.predicate

  C : Enters k l₂ y.object d
  C = enters k l₂ y.object Y.object

  refused-first : a.1.refusal ≢ 0 → (load_model k l y).1.refusal ≢ 0
  unfolding loading
  refused-first h = rw (ne_eqb _ 0 h) h

  refused-second : a.0 ≡ l₁ → a.1.refusal ≡ 0 → b.1.refusal ≢ 0 → (load_model k l y).1.refusal ≢ 0
  unfolding loading
  refused-second e p h = rw (p, e, ne_eqb _ 0 h) h

  refused-third : a.0 ≡ l₁ → a.1.refusal ≡ 0 → b.0 ≡ l₂ → b.1.refusal ≡ 0 → d.1.refusal ≢ 0
      → (load_model k l y).1.refusal ≢ 0
  unfolding loading
  refused-third e p f q h = rw (p, e, q, f, ne_eqb _ 0 h) h

  -- too many names
  pub full-names : roomy k f₃ ≡ false → (load_model k l y).1.refusal ≢ 0
  full-names z =
      decide (roomy k f₁)
      (λ r₁. let α = A.fitting r₁ in
      decide (roomy k f₂)
      (λ r₂. let β = B.fitting r₂ in refused-third α.0 α.1 β.0 β.1 (C.full z r₂))
      (λ r₂. refused-second α.0 α.1 (B.full r₂ r₁)))
      (λ r₁. refused-first (A.full r₁ fit))

  module _ (r₃ : roomy k f₃ ≡ true) where
    r₂ : roomy k f₂ ≡ true
    r₂ = less-roomy k f₂ y.object r₃

    r₁ : roomy k f₁ ≡ true
    r₁ = less-roomy k f₁ y.predicate r₂

    all-entered : load_model k l y ≡ last
    unfolding loading call_model
    all-entered =
        let α = A.fitting r₁ in
        let β = B.fitting r₂ in
        let γ = C.fitting r₃ in
        rw (α.1, α.0, β.1, β.0, γ.1, γ.0)

    -- room for all
    pub room-for-all : length l.entries < k.statements
        → ((load_model k l y).1.refusal ≡ 0) ⊎ ((load_model k l y).1.refusal ≡ 3) → (load_model k l y).1.refusal ≡ 0
    room-for-all h (inl e) = e
    room-for-all h (inr e) = absurd (assert-open k l₃ x h (rw all-entered at e))

    -- refused for want of room: none for a statement, and it is not listed
    pub three-means : (load_model k l y).1.refusal ≡ 3 → (k.statements ≤ length l.entries) × (lookup x l.entries ≡ 0)
    three-means e =
        let q : (assert_model k l₃ x).1.refusal ≡ 3 = (rw all-entered at e) in (
          decide (ltb (length l.entries) k.statements) (λ h. absurd (assert-open k l₃ x (ltb-true _ _ h) q))
              (λ h. ltb-false _ _ h),
          decide (eqb (lookup x l.entries) 0) (λ h. eqb-true _ 0 h)
              (λ h. absurd (assert-there k l₃ x (eqb-false _ 0 h) q)),
        )

    -- a new name has a number above the names
    pub not_there : length f₃ ≢ length l.names → lookup x l.entries ≡ 0
    not_there n =
        let α = A.fitting r₁ in
        let β = B.fitting r₂ in
        let γ = C.fitting r₃ in
        let G₁ = grows l.names y.subject in
        let G₂ = grows f₁ y.predicate in
        let G₃ = grows f₂ y.object in
        decide (eqb (lookup_name y.subject l.names) 0)
        (λ e. unlisted l D x Subject (omega (arith, A.number α.1 (eqb-true _ 0 e))))
        (λ e₁. decide (eqb (lookup_name y.predicate f₁) 0)
        (λ e. unlisted l D x Predicate (omega (arith, B.number β.1 (eqb-true _ 0 e), G₁.longer)))
        (λ e₂. decide (eqb (lookup_name y.object f₂) 0)
        (λ e. unlisted l D x Object (omega (arith, C.number γ.1 (eqb-true _ 0 e), G₁.longer, G₂.longer)))
        (λ e₃. absurd (n (ap length (G₃.old (eqb-false _ 0 e₃)) ∙ (ap length (G₂.old (eqb-false _ 0 e₂))
        ∙ ap length (G₁.old (eqb-false _ 0 e₁))))))))

    -- no room for the statement
    pub full-unlisted : lookup x l.entries ≡ 0 → k.statements ≤ length l.entries → (load_model k l y).1.refusal ≢ 0
    full-unlisted e h = rw all-entered (assert-full k l₃ x h e)

    pub full-statements : length f₃ ≢ length l.names → k.statements ≤ length l.entries → (load_model k l y).1.refusal ≢ 0
    full-statements n h = full-unlisted (not_there n) h

  -- names that are all listed: their numbers, and no names more
  module _ (h : (p : Position) → lookup_name (part_at p y) l.names ≢ 0) where
    e₁ : f₁ ≡ l.names
    e₁ = (grows l.names y.subject).old (h Subject)

    e₂ : f₂ ≡ l.names
    e₂ = (grows f₁ y.predicate).old (λ z. h Predicate (ap (lookup_name y.predicate) (sym e₁) ∙ z)) ∙ e₁

    pub none_more : f₃ ≡ l.names
    none_more = (grows f₂ y.object).old (λ z. h Object (ap (lookup_name y.object) (sym e₂) ∙ z)) ∙ e₂

    pub numbers-are : (p : Position) → at p x ≡ lookup_name (part_at p y) l.names
    numbers-are Subject = A.listed (h Subject)
    numbers-are Predicate =
        let q = ap (lookup_name y.predicate) e₁ in B.listed (λ z. h Predicate (sym q ∙ z)) ∙ q
    numbers-are Object = let q = ap (lookup_name y.object) e₂ in C.listed (λ z. h Object (sym q ∙ z)) ∙ q
