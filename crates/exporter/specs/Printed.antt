-- What is listed and written: the live statements' numbers, the lines of numbered statements, the file. Assumes nothing.
use Rattle.std.specs.Prelude.{Ok, Err, cond, List, [], ◌∷◌, map, ◌≡◌, ℕ, ◌+◌, ◌-◌, ◌*◌, ◌≤◌, length, replicate, leb}
use Rattle.std.proofs.lemmas.List.Edits.{sets}
use Rattle.store.specs.declared.Refusal.TheVariants.{ExportSpace}
use Rattle.store.specs.Shared.{unless, below}
use Rattle.store.specs.Tables.{statement_words}
use Rattle.store.specs.Soundness.{is_live}
use Rattle.lines.specs.Export.{sort_lines, join_lines, over, Written, written}
use Rattle.line_order.specs.Rests.{line_in}
use Rattle.line_sort.specs.Sorted.{All, Sortable}

-- a list is written from a place on, and ends at another
pub record Wrote (before : List ℕ) (from : ℕ) (l after : List ℕ) (to : ℕ) : Type 0 where
  pub stored : after ≡ sets before from l
  pub ends : to ≡ from + length l

-- statement n, if it is live
abbrev pub if_live : List ℕ → ℕ → List ℕ
if_live stm n = cond (is_live stm (n - 1)) (n ∷ []) []

-- the lines of numbered statements, one after another
abbrev pub lines_in : List ℕ → List ℕ → List ℕ → List ℕ → List (List ℕ)
lines_in res stm text numbers = map (line_in res stm text) numbers

-- those of the live statements among the first t, sorted
abbrev pub file_in : List ℕ → List ℕ → List ℕ → ℕ → List ℕ
file_in res stm text t = join_lines (sort_lines (lines_in res stm text (below (is_live stm) t)))

-- what sorting and writing them asks
pub record Ready (res stm text : List ℕ) (t : ℕ) : Type 0 where
  pub whole : statement_words * t ≤ length stm
  pub each : All (Sortable res stm text) (below (is_live stm) t)

-- the output and the first t working words after it
pub record FileWritten (file : List ℕ) (t : ℕ) (out work out' work' : List ℕ) : Type 0 where
  pub put : out' ≡ over file out
  pub zeroed : work' ≡ over (replicate t 0) work

-- refused 11 if the output is too short
unfoldable pub print_of : List ℕ → ℕ → List ℕ → List ℕ → Written
print_of file t out work =
    unless (leb (length file) (length out)) (written out work (Err ExportSpace))
    (written (over file out) (over (replicate t 0) work) (Ok (length file)))
