-- A text of lines loaded, one after another: each is answered "new", and the store has exactly their triples. Assumes
-- nothing.
use Prim.Native.Nat.{ℕ, zero, suc, ◌+◌, ◌≤◌, ◌<◌}
use mathlib.Core.Path.{◌≡◌, refl, sym, ap, ◌∙◌}
use mathlib.Core.Logic.{⊎_elim}
use mathlib.Core.List.{List, [], ◌∷◌, ◌++◌, map, reverse_aux, Memᴰ}
use native.Mathlib.Omega.{arith}
use lib.ListN.{length, drop, length-drop}
use lib.Seq.{drop-drop, drop-append_seam}
use borrow.Author.Tests.{lt-ltb, le-ltb}
use Rattle.store.specs.Shared.{text_bytes}
use Rattle.store.specs.Values.{Values}
use Rattle.store.specs.Model.{Capacities}
use Rattle.store.specs.History.{Store}
use Rattle.graph.specs.Meaning.{Term, RdfTriple}
use Rattle.graph.specs.Order.{NoDuplicates}
use Rattle.graph.specs.Claims.{load_of}
use Rattle.lines.specs.Export.{line_of, join_lines}
use Rattle.lines.specs.ExportClaims.{load_from}
use Rattle.lines.proofs.LoadStep.{Fit, Stage, Step, step}
use Rattle.lines.proofs.LoadLines.{ReadAs, reads}

-- ---- at the end, and at a line

at-end : (n : ℕ) (s : Store) (text : List ℕ) (i : ℕ) → length text ≤ i → load_from n s text i ≡ (s, [])
unfolding load_from
at-end zero s text i h = refl
at-end (suc n) s text i h = rw (le-ltb i (length text) h)

abbrev onwards : Store × Values → Store × List Values → Store × List Values
onwards a b = (b.0, a.1 ∷ b.1)

at-line : (y : RdfTriple) (n : ℕ) (s : Store) (text : List ℕ) (i : ℕ) → i < length text → ReadAs y text i
    → load_from (suc n) s text i
    ≡ onwards (load_of s y) (load_from n (load_of s y).0 text (i + length (line_of y)))
unfolding load_from
at-line y n s text i h R = rw (lt-ltb i (length text) h, R.line, R.next, R.names)

-- what follows it
pub past : (text : List ℕ) (y : RdfTriple) (i : ℕ) (r : List ℕ) → drop i text ≡ line_of y ++ r
    → drop (i + length (line_of y)) text ≡ r
past text y i r e = sym (drop-drop (length (line_of y)) i text) ∙ rw e (drop-append_seam (line_of y) r)

-- ---- all lines

-- triples still to load, each once and none of those before
pub record Ready (k : Capacities) (ns : List Term) (ys done : List RdfTriple) : Type 0 where
  pub fits : (y : RdfTriple) → Memᴰ y ys → Fit ns y
  pub apart : (y : RdfTriple) → Memᴰ y ys → Memᴰ y done → ⊥
  pub once : NoDuplicates ys
  pub room : length done + length ys ≤ k.statements

-- after the lines of ys, where those of done were before
pub record AllLoaded (k : Capacities) (ns : List Term) (ys done : List RdfTriple) (z : Store × List Values) : Type 0 where
  pub lines : length z.1 ≡ length ys
  pub new : (v : Values) → Memᴰ v z.1 → (v.refusal ≡ 0) × (v.status ≡ 1)
  pub stage : Stage k ns z.0 (reverse_aux ys done)

module _ (k : Capacities) (ns : List Term) (fit : length ns ≤ k.resources) (fit-text : text_bytes ns ≤ k.text)
    (text : List ℕ) where
  one-loaded : (y : RdfTriple) (ys done : List RdfTriple) (a : Store × Values) (b : Store × List Values)
      → Step k ns y done a → AllLoaded k ns ys (y ∷ done) b → AllLoaded k ns (y ∷ ys) done (onwards a b)
  one-loaded y ys done a b A B = record {
    lines = ap suc B.lines;
    new = λ v m. ⊎_elim (λ e. rw e (A.unrefused, A.new)) (λ r. B.new v r) (mathlib.Core.List.Memᴰ.cases_cons m);
    stage = B.stage;
  }

  later : (y : RdfTriple) (ys done : List RdfTriple) → Ready k ns (y ∷ ys) done → Ready k ns ys (y ∷ done)
  later y ys done R = record {
    fits = λ z m. R.fits z (mathlib.Core.List.Memᴰ.tail m);
    apart = λ z m q. ⊎_elim (λ e. R.once.0 (mathlib.Core.List.Memᴰ.cast (sym e) m)) (λ r. R.apart z (mathlib.Core.List.Memᴰ.tail m) r)
        (mathlib.Core.List.Memᴰ.cases_cons q);
    once = R.once.1;
    room = omega (arith, R.room);
  }

  -- with n lines at most, from position i on
  abbrev Loads : List RdfTriple → ℕ → Type 0
  Loads ys n = (s : Store) (done : List RdfTriple) (i : ℕ) → drop i text ≡ join_lines (map line_of ys) → length ys ≤ n
      → Stage k ns s done → Ready k ns ys done → AllLoaded k ns ys done (load_from n s text i)

  last : (n : ℕ) → Loads [] n
  unfolding join_lines
  last n s done i e h S R =
      rw (at-end n s text i (omega (arith, length-drop i text, ap (λ (z : List ℕ). length z) e)))
      record { lines = refl; new = λ v m. absurd (mathlib.Core.List.Memᴰ.not-nil m); stage = S }

  turn : (y : RdfTriple) (ys : List RdfTriple) (n : ℕ) → Loads ys n → Loads (y ∷ ys) (suc n)
  unfolding join_lines
  turn y ys n ih s done i e h S R =
      let m : Memᴰ y (y ∷ ys) = mathlib.Core.List.Memᴰ.head refl in
      let f = R.fits y m in
      let r = reads ns y f text i (join_lines (map line_of ys)) e in
      let A = step k ns fit fit-text s done S y f (R.apart y m) (omega (arith, R.room)) in
      rw (at-line y n s text i r.0 r.1)
      (one-loaded y ys done (load_of s y) (load_from n (load_of s y).0 text (i + length (line_of y))) A
      (ih (load_of s y).0 (y ∷ done) (i + length (line_of y)) (past text y i (join_lines (map line_of ys)) e) (omega arith)
      A.stage (later y ys done R)))

  pub load-all : (ys : List RdfTriple) (n : ℕ) → Loads ys n
  load-all [] n = last n
  load-all (y ∷ ys) zero = λ s done i e h. absurd (omega arith)
  load-all (y ∷ ys) (suc n) = turn y ys n (load-all ys n)
