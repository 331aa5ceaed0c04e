-- What writing the file answers on any tables, by the paper's numbers and in its order, and that a sound store is refused
-- 11 alone. Assumes nothing.
use mathlib.Core.Path.{◌≡◌, refl, sym, ap, ◌∙◌}
use mathlib.Core.Logic.{◌≢◌, ◌⊎◌, inl, inr, ⊎_elim}
use mathlib.Core.Bool.{Bool, true, false, not, ◌&&◌, true≢false}
use mathlib.Core.List.{List}
use Prim.Native.Nat.{ℕ, zero, suc, ◌-◌, ◌≤◌, ◌<◌}
use native.Mathlib.Omega.{arith}
use lib.Dec.{eqb, leb}
use lib.ListN.{length, drop, replicate, length-append, length-drop, length-replicate}
use lib.Seq.{take-append_seam, drop-append_seam}
use borrow.Author.Tests.{eqb-true, eq-eqb, leb-true, leb-false, le-leb, not-false}
use Rattle.store.specs.declared.Counters.{Counters}
use Rattle.store.specs.declared.Position.{Position}
use Rattle.store.specs.declared.Position.TheVariants.{Subject, Predicate, Object}
use Rattle.store.specs.declared.Refusal.TheVariants.{Capacity, Damaged, ExportSpace}
use Rattle.store.specs.Shared.{at, all3}
use Rattle.store.specs.Lists.{all_below}
use Rattle.store.specs.Tables.{Tables, fits, triple_at}
use Rattle.store.specs.Reading.{statement_of, name_span_of}
use Rattle.store.specs.Values.{statement_values, name_values, StatementValues, NameValues}
use Rattle.store.proofs.Tests.{decide, and_l, and_r, and-of, all-at, all3-at}
use Rattle.store.proofs.Answers.{read-refuses, name-refuses}
use Rattle.graph.proofs.Names.{term-low, term-high}
use Rattle.std.specs.Prelude.{Ok, Err}
use Rattle.lines.specs.Export.{file_of, readable, nameable, legible, all_legible, Written, written, over, space_for, export_of}
use Rattle.lines.specs.Export.{exported_values}
use Rattle.lines.specs.ExportClaims.{Nine, Overwritten, ExportRefuses, SoundExports}

-- ---- tests that fail

and-fails : (a b : Bool) → a && b ≡ false → (a ≡ false) ⊎ (b ≡ false)
and-fails true b e = inr e
and-fails false b e = inl refl

all3-fails : (f : Position → Bool) → all3 f ≡ false → (p : Position) × (f p ≡ false)
all3-fails f e =
    ⊎_elim (λ h. (Subject, h)) (λ h. ⊎_elim (λ k. (Predicate, k)) (λ k. (Object, k)) (and-fails (f Predicate) (f Object) h))
    (and-fails (f Subject) (f Predicate && f Object) e)

all-fails : (f : ℕ → Bool) (n : ℕ) → all_below f n ≡ false → (i : ℕ) × (i < n) × (f i ≡ false)
unfolding all_below
all-fails f zero e = absurd (true≢false e)
all-fails f (suc n) e =
    ⊎_elim (λ h. (n, omega arith, h))
    (λ h. let r = all-fails f n h in (r.0, omega arith, r.2))
    (and-fails (f n) (all_below f n) e)

no_nine : (x : ℕ) → not (eqb x 9) ≡ true → x ≡ 9 → ⊥
no_nine x e h = true≢false (sym e ∙ rw (eq-eqb x 9 h))

-- ---- 9: a statement that cannot be read, or whose resource cannot be named

module _ (c : Counters) (m : Tables) where
  abbrev read_refusal : ℕ → ℕ
  read_refusal n = (statement_values (statement_of c m (record { 0 = n }))).refusal

  abbrev name_refusal : ℕ → Position → ℕ
  name_refusal n p = (name_values (name_span_of c m (record { 0 = at p (triple_at m.statements (n - 1)) }))).refusal

  abbrev NineAt : ℕ → Type 0
  NineAt n = (read_refusal n ≡ 9) ⊎ ((p : Position) × (name_refusal n p ≡ 9))

  illegible : (n : ℕ) → legible c m n ≡ false → NineAt n
  unfolding legible readable nameable
  illegible n e =
      ⊎_elim (λ h. inl (eqb-true (read_refusal n) 9 (not-false (eqb (read_refusal n) 9) h)))
      (λ h. let r = all3-fails (λ p. nameable c m n p) h in
      inr (r.0, eqb-true (name_refusal n r.0) 9 (not-false (eqb (name_refusal n r.0) 9) r.1)))
      (and-fails (readable c m n) (all3 (nameable c m n)) e)

  legible-not : (n : ℕ) → legible c m n ≡ true → NineAt n → ⊥
  unfolding legible readable nameable
  legible-not n e (inl h) = no_nine (read_refusal n) (and_l (readable c m n) (all3 (nameable c m n)) e) h
  legible-not n e (inr h) =
      no_nine (name_refusal n h.0) (all3-at (nameable c m n) (and_r (readable c m n) (all3 (nameable c m n)) e) h.0) h.1

  nine-of : all_legible c m ≡ false → Nine c m
  unfolding all_legible
  nine-of e =
      let r = all-fails (λ i. legible c m (suc i)) c.statements e in
      (suc r.0, omega arith, omega arith, illegible (suc r.0) r.2)

  not-nine : all_legible c m ≡ true → Nine c m → ⊥
  unfolding all_legible
  not-nine e N =
      let q : suc (N.0 - 1) ≡ N.0 = omega arith in
      legible-not N.0 (rw q at (all-at (λ i. legible c m (suc i)) c.statements e (N.0 - 1) (omega arith))) N.3

-- ---- what is answered, by the tests

module _ (c : Counters) (m : Tables) (out work : List ℕ) where
  abbrev result : Written
  result = export_of c m out work

  abbrev Short : Type 0
  Short = (length out < length (file_of c m)) ⊎ (length work < c.statements)

  short-of : space_for c m out work ≡ false → Short
  unfolding space_for
  short-of e =
      ⊎_elim (λ h. inl (leb-false (length (file_of c m)) (length out) h))
      (λ h. inr (leb-false c.statements (length work) h))
      (and-fails (leb (length (file_of c m)) (length out)) (leb c.statements (length work)) e)

  space-of : length (file_of c m) ≤ length out → c.statements ≤ length work → space_for c m out work ≡ true
  unfolding space_for
  space-of a b = and-of _ _ (le-leb (length (file_of c m)) (length out) a) (le-leb c.statements (length work) b)

  space-not : space_for c m out work ≡ true → Short → ⊥
  unfolding space_for
  space-not e (inl h) = let k = leb-true (length (file_of c m)) (length out) (and_l _ _ e) in omega arith
  space-not e (inr h) =
      let k = leb-true c.statements (length work) (and_r (leb (length (file_of c m)) (length out)) _ e) in omega arith

  -- each way, with what it answers
  pub ways : (P : Written → Type 0)
      → (fits c m ≡ false → P (written out work (Err Capacity)))
      → (fits c m ≡ true → Nine c m → P (written out work (Err Damaged)))
      → (fits c m ≡ true → (Nine c m → ⊥) → Short → P (written out work (Err ExportSpace)))
      → (fits c m ≡ true → (Nine c m → ⊥) → (Short → ⊥)
      → P (written (over (file_of c m) out) (over (replicate c.statements 0) work) (Ok (length (file_of c m)))))
      → P result
  unfolding export_of
  ways P one nine eleven done =
      decide (fits c m)
      (λ a. rw a (decide (all_legible c m)
      (λ b. rw b (decide (space_for c m out work)
      (λ d. rw d (done a (not-nine c m b) (space-not d)))
      (λ d. rw d (eleven a (not-nine c m b) (short-of d)))))
      (λ b. rw b (nine a (nine-of c m b)))))
      (λ a. rw a (one a))

  abbrev says : Written → ℕ
  says z = (exported_values z.reply).refusal

  clash : {A : Type 0} → fits c m ≡ true → fits c m ≡ false → A
  clash a b = absurd (true≢false (sym a ∙ b))

  -- the answer tells the way
  says-one : says result ≡ 1 → fits c m ≡ false
  says-one =
      ways (λ z. says z ≡ 1 → fits c m ≡ false) (λ a h. a) (λ a n h. absurd (omega (arith, h)))
      (λ a n s h. absurd (omega (arith, h))) (λ a n s h. absurd (omega (arith, h)))

  says-nine : says result ≡ 9 → Nine c m
  says-nine =
      ways (λ z. says z ≡ 9 → Nine c m) (λ a h. absurd (omega (arith, h))) (λ a n h. n)
      (λ a n s h. absurd (omega (arith, h))) (λ a n s h. absurd (omega (arith, h)))

  says-eleven : says result ≡ 11 → Short
  says-eleven =
      ways (λ z. says z ≡ 11 → Short) (λ a h. absurd (omega (arith, h))) (λ a n h. absurd (omega (arith, h)))
      (λ a n s h. s) (λ a n s h. absurd (omega (arith, h)))

  -- and the way the answer
  one-said : fits c m ≡ false → says result ≡ 1
  one-said e =
      ways (λ z. says z ≡ 1) (λ a. refl) (λ a n. clash a e) (λ a n s. clash a e) (λ a n s. clash a e)

  nine-said : fits c m ≡ true → Nine c m → says result ≡ 9
  nine-said e N =
      ways (λ z. says z ≡ 9) (λ a. clash e a) (λ a n. refl) (λ a n s. absurd (n N)) (λ a n s. absurd (n N))

  eleven-said : fits c m ≡ true → (Nine c m → ⊥) → Short → says result ≡ 11
  eleven-said e none S =
      ways (λ z. says z ≡ 11) (λ a. clash e a) (λ a n. absurd (none n)) (λ a n s. refl) (λ a n s. absurd (s S))

  all-written : fits c m ≡ true → (Nine c m → ⊥) → length (file_of c m) ≤ length out → c.statements ≤ length work
      → result
      ≡ written (over (file_of c m) out) (over (replicate c.statements 0) work) (Ok (length (file_of c m)))
  all-written e none f g =
      ways (λ z. z ≡ written (over (file_of c m) out) (over (replicate c.statements 0) work) (Ok (length (file_of c m))))
      (λ a. clash e a) (λ a n. absurd (none n)) (λ a n s. absurd (space-not (space-of f g) s)) (λ a n s. refl)

  none_written : says result ≢ 0
      → (result.out ≡ out) × (result.work ≡ work) × ((exported_values result.reply).number ≡ 0)
  none_written =
      ways (λ z. says z ≢ 0 → (z.out ≡ out) × (z.work ≡ work) × ((exported_values z.reply).number ≡ 0))
      (λ a h. (refl, refl, refl)) (λ a n h. (refl, refl, refl)) (λ a n s h. (refl, refl, refl)) (λ a n s h. absurd (h refl))

-- ---- by the paper's numbers

-- a list written over the first of what is lent
overwrites : (l before : List ℕ) → length l ≤ length before → Overwritten l before (over l before)
overwrites l before h =
    let past = drop (length l) before in
    record {
      size = length-append l past ∙ omega (arith, length-drop (length l) before);
      first = take-append_seam l past;
      past = drop-append_seam l past;
    }

pub export-refuses : ExportRefuses
export-refuses c m out work = record {
  one = (says-one c m out work, one-said c m out work);
  nine = λ e. (says-nine c m out work, nine-said c m out work e);
  eleven = λ e n. (says-eleven c m out work, eleven-said c m out work e n);
  refused = none_written c m out work;
  answered = λ e n f g. rw (all-written c m out work e n f g) (
    refl,
    overwrites (file_of c m) out f,
    overwrites (replicate c.statements 0) work (omega (arith, length-replicate {A = ℕ} c.statements 0)),
  );
}

-- ---- a sound store

pub sound-exports : SoundExports
sound-exports c m S = (
  S.capacity,
  never,
  λ out work f g. ((export-refuses c m out work).answered S.capacity never f g).0,
)
  where
    at-nine : (n : ℕ) → 0 < n → n ≤ c.statements → NineAt c m n → ⊥
    at-nine n a b (inl h) =
        let z : read_refusal c m n ≡ 0 =
        ap (λ (v : StatementValues). v.refusal) ((read-refuses c m (record { 0 = n })).answered S a b) in
        omega arith
    at-nine n a b (inr (p, h)) =
        let z : name_refusal c m n p ≡ 0 =
        ap (λ (v : NameValues). v.refusal)
        ((name-refuses c m (record { 0 = at p (triple_at m.statements (n - 1)) })).answered S
        (term-low c m S p (n - 1) (omega arith)) (term-high c m S p (n - 1) (omega arith))) in
        omega arith

    never : Nine c m → ⊥
    never N = at-nine N.0 N.1 N.2 N.3
