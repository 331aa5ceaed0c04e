-- The contract of the export: the pass tells what the definition asks, what it lets through can be sorted and written, and
-- what is then printed is the file; a law for each way out of the code. Assumes nothing.
use mathlib.Core.Path.{◌≡◌, refl, sym, ◌∙◌}
use mathlib.Core.Bool.{Bool, true, false, not, ◌&&◌, and-true, and-false}
use mathlib.Core.List.{List}
use mathlib.Core.Option.{Option, none, some}
use Prim.Native.Nat.{ℕ, zero, suc, ◌-◌, ◌≤◌, ◌<◌}
use native.Mathlib.Omega.{arith}
use lib.ListN.{length}
use lib.Dec.{eqb, leb}
use borrow.Author.Tests.{le-leb, lt-leb}
use Rattle.store.specs.declared.Counters.{Counters}
use Rattle.store.specs.declared.Position.{Position}
use Rattle.store.specs.declared.Position.TheVariants.{Subject, Predicate, Object}
use Rattle.store.specs.declared.Refusal.TheVariants.{Capacity, Damaged, ExportSpace}
use Rattle.store.specs.declared.Triple.{Triple}
use Rattle.store.specs.Shared.{at, known, all3, below, unless}
use Rattle.store.specs.Lists.{all_below, is_some}
use Rattle.store.specs.Tables.{Tables, tables, fits, triple_at, flag_at, offset_at}
use Rattle.store.specs.Names.{name_at}
use Rattle.store.specs.Reading.{in_range, name_window, zero_from, span_to, statement_of, name_span_of}
use Rattle.store.specs.Values.{statement_values, name_values}
use Rattle.store.proofs.Tests.{decide, and_r, range-of, known-low, known-high}
use Rattle.table.proofs.Capacity.{fits-room}
use Rattle.table.proofs.Held.{triple-held}
use Rattle.integrity.proofs.Ranges.{all-at, all_of}
use Rattle.graph.specs.Graph.{named}
use Rattle.lines.specs.Export.{line_at, file_of, readable, nameable, legible, all_legible, space_for, export_of, Written, written}
use Rattle.line_sort.specs.Sorted.{All, Sortable}
use Rattle.std.proofs.Common.{Result, Ok, Err}
use Rattle.store.specs.declared.Refusal.{Refusal}
use Rattle.exporter.specs.Legible.{Readable, name_legible, names_legible, line_legible, statement_legible}
use Rattle.exporter.specs.Legible.{legible_up_to, live_bytes}
use Rattle.exporter.specs.Printed.{file_in, Ready, print_of}
use Rattle.exporter.proofs.Measuring.{legible-known, legible-names, count-told, count_none, measured}
use Rattle.store.specs.Replies.{read_as}

-- ---- what can be read, by the operations that read it

read_told : (b : Bool) (x : Triple) (f : ℕ)
    → not (eqb (statement_values (unless b (Err Damaged) (read_as x f))).refusal 9) ≡ b
read_told true x f = refl
read_told false x f = refl

name-told : (o : ℕ) (z : Option ℕ) → not (eqb (name_values (span_to o z)).refusal 9) ≡ is_some z
name-told o none = refl
name-told o (some e) = refl

all3-cong : (f g : Position → Bool) → ((p : Position) → f p ≡ g p) → all3 f ≡ all3 g
all3-cong f g h = rw (h Subject, h Predicate, h Object)

all-cong : (f g : ℕ → Bool) (n : ℕ) → ((i : ℕ) → i < n → f i ≡ g i) → all_below f n ≡ all_below g n
unfolding all_below
all-cong f g zero h = refl
all-cong f g (suc n) h = rw (h n (omega arith), all-cong f g n (λ i q. h i (omega arith)))

tests : (k f r : Bool) (n : Bool) → (k ≡ true → n ≡ r) → (k && f) && n ≡ f && (k && r)
tests true true r n h = h refl
tests true false r n h = refl
tests false true r n h = refl
tests false false r n h = refl

-- the counters with n statements
abbrev pub counted : Counters → ℕ → Counters
counted c n = record { resources = c.resources; statements = n; text = c.text; generation = c.generation }

module _ (c : Counters) (m : Tables) (fit : fits c m ≡ true) where
  abbrev spo : ℕ → Triple
  spo n = triple_at m.statements (n - 1)

  readable-is : (n : ℕ) → 0 < n → n ≤ c.statements
      → readable c m n ≡ known c.resources (spo n) && leb (flag_at m.statements (n - 1)) 1
  unfolding readable statement_of
  readable-is n a b =
      rw (fit, range-of c.statements n a b)
      (read_told (known c.resources (spo n) && leb (flag_at m.statements (n - 1)) 1) (spo n)
      (flag_at m.statements (n - 1)))

  nameable-is : (n : ℕ) (p : Position) → in_range c.resources (at p (spo n)) ≡ true
      → nameable c m n p ≡ name_legible m.text c.text (offset_at m.resources (at p (spo n)))
  unfolding nameable name_span_of name_legible
  nameable-is n p e =
      rw (fit, e) (name-told _ (zero_from m.text c.text name_window (offset_at m.resources (at p (spo n)))))

  legible-is : (n : ℕ) → 0 < n → n ≤ c.statements
      → legible c m n ≡ statement_legible c m.resources m.statements m.text n
  unfolding legible statement_legible line_legible names_legible
  legible-is n a b =
      rw (readable-is n a b)
      (tests (known c.resources (spo n)) (leb (flag_at m.statements (n - 1)) 1) _ (all3 (nameable c m n)) (λ k.
      all3-cong (nameable c m n) _
      (λ p. nameable-is n p (range-of c.resources (at p (spo n)) (known-low _ _ k p) (known-high _ _ k p)))))

  all-legible-is : all_legible c m ≡ legible_up_to c m.resources m.statements m.text c.statements
  unfolding all_legible legible_up_to
  all-legible-is = all-cong _ _ c.statements (λ i h. legible-is (suc i) (omega arith) (omega arith))

  pub fits-readable : Readable c m.resources m.statements m.text
  fits-readable =
      let r = fits-room c m fit in
      record {
        in-resources = r.in-resources;
        in-statements = r.in-statements;
        in-text = r.in-text;
        few = r.few-statements;
      }

  -- the same of the first n statements
  pub counted-readable : (n : ℕ) → n ≤ c.statements → Readable (counted c n) m.resources m.statements m.text
  counted-readable n h =
      let r = fits-readable in
      record {
        in-resources = r.in-resources;
        in-statements = omega (arith, r.in-statements);
        in-text = r.in-text;
        few = omega (arith, r.few);
      }

-- a test that fails among n fails among more
more-fails : (f : ℕ → Bool) (n k : ℕ) → all_below f n ≡ false → n ≤ k → all_below f k ≡ false
more-fails f n k e h =
    decide (all_below f k)
    (λ a. absurd (clash (sym (all_of f n (λ i q. all-at f k a i (omega arith))) ∙ e)))
    (λ a. a)
  where
    clash : true ≡ false → ⊥
    clash z = let q : ◌≡◌ {A = ℕ} 0 1 = cc in omega arith

module _ (c : Counters) (res stm text : List ℕ) {n : ℕ} where
  -- damage among the first n statements is damage among all
  pub damage-counted : {r : Refusal} → Err r ≡ measured (counted c n) res stm text → n ≤ c.statements
      → Err r ≡ measured c res stm text
  unfolding legible_up_to statement_legible line_legible
  damage-counted e h =
      let d = count_none _ _ _ e in
      rw (more-fails (λ i. statement_legible c res stm text (suc i)) n c.statements d.0 h, d.1)

  -- what is measured of n statements is measured of all, if these are as many
  pub all-counted : {y : Result ℕ Refusal} → y ≡ measured (counted c n) res stm text → n ≡ c.statements
      → y ≡ measured c res stm text
  all-counted p e = rw e at p

-- ---- a statement that can be read can be sorted and written

all-below : {P : ℕ → Type 0} (f : ℕ → Bool) (n : ℕ) → ((i : ℕ) → i < n → P (suc i)) → All P (below f n)
unfolding below
all-below f zero h = All.none
all-below f (suc n) h =
    decide (f n)
    (λ e. rw e (All.more (h n (omega arith)) (all-below f n (λ i q. h i (omega arith)))))
    (λ e. rw e (all-below f n (λ i q. h i (omega arith))))

module _ (c : Counters) (res stm text : List ℕ) (R : Readable c res stm text) where
  sortable : (n : ℕ) → 0 < n → n ≤ c.statements → statement_legible c res stm text n ≡ true → Sortable res stm text n
  unfolding statement_legible
  sortable n a b e =
      let l = and_r (leb (flag_at stm (n - 1)) 1) _ e in
      let known_in = legible-known c res stm text R.in-text n l in
      record {
        half = omega (arith, R.few);
        printable =
            record {
              held = record { from_one = omega arith; whole = omega (arith, R.in-statements) };
              triple =
                  record {
                    held = triple-held res c.resources _ R.in-resources known_in;
                    closed = λ p. omega (arith, (legible-names c res stm text R.in-text n l p).closed, R.in-text);
                  };
            };
      }

  pub all-ready : legible_up_to c res stm text c.statements ≡ true → Ready res stm text c.statements
  unfolding legible_up_to
  all-ready e = record {
    whole = R.in-statements;
    each =
        all-below _ c.statements
        (λ i h. sortable (suc i) (omega arith) (omega arith) (all-at _ c.statements e i h));
  }

-- ---- the ways out

module _ (c : Counters) (res stm idx text out work : List ℕ) where
  abbrev m : Tables
  m = tables res stm idx text

  pub export-capacity : fits c m ≡ false → written out work (Err Capacity) ≡ export_of c m out work
  unfolding export_of
  export-capacity e = rw e

  file-is : file_of c m ≡ file_in res stm text c.statements
  unfolding file_of line_at named name_at
  file-is = refl

  module _ (fit : fits c m ≡ true) where
    pub export-damaged : (r : Refusal) → Err r ≡ measured c res stm text → written out work (Err r) ≡ export_of c m out work
    unfolding export_of
    export-damaged r e =
        let d = count_none (legible_up_to c res stm text c.statements) _ r e in
        rw (fit, all-legible-is c m fit, d.0, d.1)

    module _ (bytes : ℕ) (e : Ok bytes ≡ measured c res stm text) where
      whole-legible : legible_up_to c res stm text c.statements ≡ true
      whole-legible = (count-told _ _ bytes e).0

      pub file-ready : Ready res stm text c.statements
      file-ready = all-ready c res stm text (fits-readable c m fit) whole-legible

      pub bytes-told : bytes ≡ live_bytes res stm text c.statements
      bytes-told = (count-told (legible_up_to c res stm text c.statements) _ bytes e).1

      pub export-space : length work < c.statements → written out work (Err ExportSpace) ≡ export_of c m out work
      unfolding export_of space_for
      export-space q =
          rw (fit, all-legible-is c m fit, whole-legible, lt-leb c.statements (length work) q, and-false)

      pub export-printed : (w : Written) → c.statements ≤ length work
          → w ≡ print_of (file_in res stm text c.statements) c.statements out work → w ≡ export_of c m out work
      unfolding export_of space_for print_of
      export-printed w q p =
          rw (fit, all-legible-is c m fit, whole-legible, file-is, le-leb c.statements (length work) q, and-true) p
