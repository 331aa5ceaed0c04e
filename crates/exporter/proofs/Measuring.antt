-- The pass before the writing, a law for each way out of the code: a name counted on, a line, a statement, all of them.
-- Assumes nothing.
use mathlib.Core.Path.{◌≡◌, refl, sym}
use mathlib.Core.Bool.{Bool, true, false, cond, ◌&&◌}
use mathlib.Core.List.{List}
use Prim.Native.Nat.{ℕ, suc, ◌+◌, ◌-◌, ◌*◌, ◌≤◌, ◌<◌}
use native.Mathlib.Omega.{arith}
use native.Mathlib.Numerals.{add-one}
use lib.ListN.{length, length-append}
use lib.Dec.{leb}
use borrow.Author.Tests.{lt-leb, le-leb}
use Rattle.store.specs.declared.Counters.{Counters}
use Rattle.store.specs.declared.Position.{Position}
use Rattle.store.specs.declared.Position.TheVariants.{Subject, Predicate, Object}
use Rattle.store.specs.declared.Triple.{Triple}
use Rattle.store.specs.Shared.{at, known, below}
use Rattle.store.specs.Lists.{all_below}
use Rattle.store.specs.Tables.{triple_at, flag_at, offset_at}
use Rattle.store.specs.Names.{name_at}
use Rattle.store.specs.Reading.{name_window}
use Rattle.store.specs.Soundness.{is_live}
use Rattle.store.proofs.Tests.{decide, and_l, and_r, all3-at}
use Rattle.integrity.proofs.Ranges.{all_more, all-fails}
use Rattle.graph.specs.Graph.{named}
use Rattle.lines.specs.Export.{line_of, line_at, join_lines}
use Rattle.line_order.specs.Rests.{line_in, name_from}
use Rattle.exporter.specs.Legible.{Readable, bytes_if, name_legible, names_legible, line_legible}
use Rattle.exporter.specs.Legible.{statement_legible, legible_up_to, live_bytes}
use Rattle.std.proofs.Common.{Result, Ok, Err}
use Rattle.store.specs.declared.Refusal.{Refusal}
use Rattle.store.specs.declared.Refusal.TheVariants.{Damaged}
use Rattle.exporter.proofs.Closing.{LegibleName, legible-name}

-- ---- a number told, or refused

pub count-told : (b : Bool) (n k : ℕ) → Ok k ≡ bytes_if b n → (b ≡ true) × (k ≡ n)
count-told true n k e = (refl, cc)
count-told false n k e = absurd (let x : ◌≡◌ {A = ℕ} 0 1 = cc in omega arith)

pub count_none : (b : Bool) (n : ℕ) (r : Refusal) → Err r ≡ bytes_if b n → (b ≡ false) × (r ≡ Damaged)
count_none true n r e = absurd (let x : ◌≡◌ {A = ℕ} 0 1 = cc in omega arith)
count_none false n r e = (refl, cc)

-- ---- a name, counted on

module _ (text : List ℕ) (e : ℕ) (room : e ≤ length text) where
  pub counted-on : (o size k : ℕ) → Ok k ≡ bytes_if (name_legible text e o) (size + length (name_from text o) + 1)
      → k ≤ size + name_window
  counted-on o size k q =
      let t = count-told _ _ _ q in let l = legible-name text e room o t.0 in omega (arith, t.1, l.short)

-- ---- a line; x is the triple that the code has read

module _ (c : Counters) (res stm text : List ℕ) (n : ℕ) (x : Triple) (is : x ≡ triple_at stm (n - 1)) where
  abbrev legible_at : ℕ → Bool
  legible_at y = name_legible text c.text (offset_at res y)

  abbrev size_at : ℕ → ℕ
  size_at y = length (name_from text (offset_at res y))

  abbrev asked : Result ℕ Refusal
  asked = bytes_if (line_legible c res stm text n) (length (line_in res stm text n))

  line-length : length (line_in res stm text n)
      ≡ 2 + size_at x.subject.0 + 1 + size_at x.predicate.0 + 1 + size_at x.object.0 + 1
  unfolding line_at line_of named name_at
  line-length = rw (← is) (simp length-append (omega arith))

  line-tests : line_legible c res stm text n
      ≡ known c.resources x
      && (legible_at x.subject.0 && (legible_at x.predicate.0 && legible_at x.object.0))
  unfolding line_legible names_legible
  line-tests = rw (← is)

  pub line-unknown : known c.resources x ≡ false → Err Damaged ≡ asked
  line-unknown k = rw (line-tests, k)

  -- the name of y counted on from a size
  abbrev counted : ℕ → ℕ → Result ℕ Refusal
  counted y size = bytes_if (legible_at y) (size + size_at y + 1)

  told : (y size k : ℕ) → Ok k ≡ counted y size → (legible_at y ≡ true) × (k ≡ size + size_at y + 1)
  told y size k = count-told (legible_at y) (size + size_at y + 1) k

  none : (y size : ℕ) (r : Refusal) → Err r ≡ counted y size → (legible_at y ≡ false) × (r ≡ Damaged)
  none y size = count_none (legible_at y) (size + size_at y + 1)

  module _ (k : known c.resources x ≡ true) where
    pub subject-none : (r : Refusal) → Err r ≡ counted x.subject.0 2 → Err r ≡ asked
    subject-none r e = let d = none x.subject.0 2 r e in rw (line-tests, k, d.0, d.1)

    module _ (a : ℕ) (s : Ok a ≡ counted x.subject.0 2) where
      pub predicate-none : (r : Refusal) → Err r ≡ counted x.predicate.0 a → Err r ≡ asked
      predicate-none r e =
          let d = none x.predicate.0 a r e in rw (line-tests, k, (told x.subject.0 2 a s).0, d.0, d.1)

      pub object-last : (b : ℕ) (r : Result ℕ Refusal) → Ok b ≡ counted x.predicate.0 a → r ≡ counted x.object.0 b
          → r ≡ asked
      object-last b r p e =
          let u = told x.subject.0 2 a s in
          let v = told x.predicate.0 a b p in
          rw (line-tests, k, u.0, v.0, line-length, ← u.1, ← v.1) e

-- ---- a line that can be read: its resources are in range, and their names can be read

module _ (c : Counters) (res stm text : List ℕ) (room : c.text ≤ length text)
    (n : ℕ) (e : line_legible c res stm text n ≡ true) where
  pub legible-known : known c.resources (triple_at stm (n - 1)) ≡ true
  unfolding line_legible
  legible-known = and_l _ _ e

  pub legible-names : (p : Position) → LegibleName text c.text (offset_at res (at p (triple_at stm (n - 1))))
  unfolding line_legible names_legible
  legible-names p =
      legible-name text c.text room _
      (all3-at (λ p. name_legible text c.text (offset_at res (at p (triple_at stm (n - 1)))))
      (and_r (known c.resources (triple_at stm (n - 1))) _ e) p)

-- ---- a statement; f is the flag that the code has read

module _ (c : Counters) (res stm text : List ℕ) (n : ℕ) where
  abbrev added : Result ℕ Refusal
  added = bytes_if (statement_legible c res stm text n) (cond (is_live stm (n - 1)) (length (line_in res stm text n)) 0)

  abbrev line : Result ℕ Refusal
  line = bytes_if (line_legible c res stm text n) (length (line_in res stm text n))

  module _ (f : ℕ) (is : f ≡ flag_at stm (n - 1)) where
    pub flag-over : 1 < f → Err Damaged ≡ added
    unfolding statement_legible
    flag-over h = rw (← is, lt-leb f 1 h)

    pub line-none : f ≤ 1 → (r : Refusal) → Err r ≡ line → Err r ≡ added
    unfolding statement_legible
    line-none h r e =
        let d = count_none (line_legible c res stm text n) _ r e in rw (← is, le-leb f 1 h, d.0, d.1)

    pub adds-nothing : (k : ℕ) → f ≡ 1 → Ok k ≡ line → Ok 0 ≡ added
    unfolding statement_legible
    adds-nothing k h e = rw (← is, h, (count-told (line_legible c res stm text n) _ k e).0)

    pub adds-line : (k : ℕ) → f ≤ 1 → (f ≡ 1 → ⊥) → Ok k ≡ line → Ok k ≡ added
    unfolding statement_legible
    adds-line k h g e =
        let t = count-told (line_legible c res stm text n) (length (line_in res stm text n)) k e in
        let z : f ≡ 0 = omega arith in
        rw (← is, z, t.0, t.1)

-- ---- all statements

-- the most bytes of a line
abbrev longest_line : ℕ
longest_line = 3 * name_window + 2

-- the statements 1 .. n can be read, and the live ones' lines have `total` bytes
pub record SoFar (c : Counters) (res stm text : List ℕ) (n total : ℕ) : Type 0 where
  pub legible : legible_up_to c res stm text n ≡ true
  pub bytes : total ≡ live_bytes res stm text n
  pub few : total ≤ longest_line * n

module _ (c : Counters) (res stm text : List ℕ) where
  abbrev passes : ℕ → Bool
  passes i = statement_legible c res stm text (suc i)

  pub measure-begins : SoFar c res stm text 0 0
  unfolding legible_up_to live_bytes all_below below join_lines
  measure-begins = record { legible = refl; bytes = refl; few = omega arith }

  bytes-more : (n : ℕ) → live_bytes res stm text (n + 1)
      ≡ live_bytes res stm text n + cond (is_live stm (n + 1 - 1)) (length (line_in res stm text (n + 1))) 0
  unfolding live_bytes below join_lines
  bytes-more n =
      let q : suc n - 1 ≡ n = omega arith in
      rw (add-one n, q) (decide (is_live stm n) (λ e. rw e (simp length-append (omega arith))) (λ e. rw e (omega arith)))

  -- a line that can be read is not over the limit
  line-short : c.text ≤ length text → (n : ℕ) → line_legible c res stm text n ≡ true
      → length (line_in res stm text n) ≤ longest_line
  line-short room n e =
      let l = legible-names c res stm text room n e in
      omega (arith, line-length c res stm text n _ refl, (l Subject).short, (l Predicate).short, (l Object).short)

  adds-few : Readable c res stm text → (n k : ℕ)
      → (statement_legible c res stm text n ≡ true)
      × (k ≡ cond (is_live stm (n - 1)) (length (line_in res stm text n)) 0) → k ≤ longest_line
  unfolding statement_legible
  adds-few room n k t =
      rw t.1 (decide (is_live stm (n - 1))
      (λ q. rw q (line-short room.in-text n (and_r (leb (flag_at stm (n - 1)) 1) _ t.0)))
      (λ q. rw q (omega arith)))

  -- one statement more
  pub measure-turns : Readable c res stm text → (n total k : ℕ) → SoFar c res stm text n total
      → Ok k ≡ added c res stm text (n + 1) → SoFar c res stm text (n + 1) (total + k)
  unfolding legible_up_to
  measure-turns room n total k s e =
      let t = count-told (statement_legible c res stm text (n + 1)) _ k e in
      record {
        legible = all_more passes n s.legible (rw (add-one n) at t.0);
        bytes = rw (s.bytes, t.1) (sym (bytes-more n));
        few = omega (arith, s.few, adds-few room (n + 1) k t);
      }

  abbrev pub measured : Result ℕ Refusal
  measured = bytes_if (legible_up_to c res stm text c.statements) (live_bytes res stm text c.statements)

  -- a statement that cannot be read
  pub measure-stops : (n : ℕ) (r : Refusal) → n < c.statements → Err r ≡ added c res stm text (n + 1) → Err r ≡ measured
  unfolding legible_up_to
  measure-stops n r h e =
      let d = rw (add-one n) at (count_none (statement_legible c res stm text (n + 1)) _ r e) in
      rw (all-fails passes c.statements n h d.0, d.1)

  -- all are read
  pub measure-ends : (n total : ℕ) → n ≡ c.statements → SoFar c res stm text n total → Ok total ≡ measured
  measure-ends n total e s =
      let l = rw e at s.legible in let b = rw e at s.bytes in rw (l, b)
