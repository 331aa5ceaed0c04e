-- The file of the live statements (02, note 1): the line of a statement, the lines in rising byte order, and what writing them
-- answers and writes, on any tables. Assumes nothing.
use Rattle.std.specs.Prelude.{Result, Ok, Err, ◌&&◌, ◌∷◌, ◌++◌, ◌-◌}
use Rattle.store.specs.Prelude.{Bool, true, false, cond, not, List, [], map, ℕ, suc, length, drop, replicate, eqb}
use Rattle.store.specs.Prelude.{leb}
use Rattle.store.specs.declared.Counters.{Counters}
use Rattle.store.specs.declared.Position.{Position}
use Rattle.store.specs.declared.Refusal.{Refusal}
use Rattle.store.specs.declared.Refusal.TheVariants.{Capacity, Damaged, ExportSpace}
use Rattle.store.specs.Shared.{unless, at, all3, below}
use Rattle.store.specs.Lists.{all_below}
use Rattle.store.specs.Tables.{Tables, fits, triple_at}
use Rattle.store.specs.Names.{ByteOrdering, less, equal, more, compare_bytes}
use Rattle.store.specs.Soundness.{is_live}
use Rattle.store.specs.Reading.{statement_of, name_span_of}
use Rattle.store.specs.Values.{Values, numbered, refused_with, refusal_number, statement_values, name_values}
use Rattle.graph.specs.Meaning.{RdfTriple}
use Rattle.graph.specs.Graph.{named}

-- ---- a line, in the canonical form of RDF 1.1 N-Triples

-- subject, predicate and object, one blank after each, the dot, LF
unfoldable pub line_of : RdfTriple → List ℕ
line_of y = y.subject ++ 32 ∷ (y.predicate ++ 32 ∷ (y.object ++ 32 ∷ 46 ∷ 10 ∷ []))

-- the line of statement n, by the names that the tables have, whatever their bytes
unfoldable pub line_at : Tables → ℕ → List ℕ
line_at m n = line_of (named m (triple_at m.statements (n - 1)))

-- the live statements' numbers, falling, and their lines
abbrev pub live_numbers : Counters → Tables → List ℕ
live_numbers c m = below (is_live m.statements) c.statements

abbrev pub live_lines : Counters → Tables → List (List ℕ)
live_lines c m = map (line_at m) (live_numbers c m)

-- ---- in rising byte order, LF included

abbrev pub not_more : ByteOrdering → Bool
not_more less = true
not_more equal = true
not_more more = false

-- a line before the first one that it is not more than; equal lines stay, each
unfoldable pub put_line : List ℕ → List (List ℕ) → List (List ℕ)
put_line x [] = x ∷ []
put_line x (y ∷ ls) = cond (not_more (compare_bytes x y)) (x ∷ y ∷ ls) (y ∷ put_line x ls)

unfoldable pub sort_lines : List (List ℕ) → List (List ℕ)
sort_lines [] = []
sort_lines (x ∷ ls) = put_line x (sort_lines ls)

-- one line after another
unfoldable pub join_lines : List (List ℕ) → List ℕ
join_lines [] = []
join_lines (x ∷ ls) = x ++ join_lines ls

unfoldable pub file_of : Counters → Tables → List ℕ
file_of c m = join_lines (sort_lines (live_lines c m))

-- ---- what is answered and written

-- neither reading statement n nor naming its resource at a position gives 9
unfoldable pub readable : Counters → Tables → ℕ → Bool
readable c m n = not (eqb (statement_values (statement_of c m (record { 0 = n }))).refusal 9)

unfoldable pub nameable : Counters → Tables → ℕ → Position → Bool
nameable c m n p = not (eqb (name_values (name_span_of c m (record { 0 = at p (triple_at m.statements (n - 1)) }))).refusal 9)

-- nor does any of this, live or not
unfoldable pub legible : Counters → Tables → ℕ → Bool
legible c m n = readable c m n && all3 (nameable c m n)

unfoldable pub all_legible : Counters → Tables → Bool
all_legible c m = all_below (λ i. legible c m (suc i)) c.statements

-- the output, the working words and the reply after a call
pub record Written : Type 0 where
  pub out : List ℕ
  pub work : List ℕ
  pub reply : Result ℕ Refusal

abbrev pub written : List ℕ → List ℕ → Result ℕ Refusal → Written
written out work r = record { out = out; work = work; reply = r }

-- l from the first on; what is lent beyond it keeps its values
abbrev pub over : List ℕ → List ℕ → List ℕ
over l out = l ++ drop (length l) out

-- the output holds the file, and the working words are T or more
unfoldable pub space_for : Counters → Tables → List ℕ → List ℕ → Bool
space_for c m out work = leb (length (file_of c m)) (length out) && leb c.statements (length work)

-- Write the file: 1; 9; 11; else the file, T working words zeroed, and the file's length
unfoldable pub export_of : Counters → Tables → List ℕ → List ℕ → Written
export_of c m out work =
    unless (fits c m) (written out work (Err Capacity))
    (unless (all_legible c m) (written out work (Err Damaged))
    (unless (space_for c m out work) (written out work (Err ExportSpace))
    (written (over (file_of c m) out) (over (replicate c.statements 0) work) (Ok (length (file_of c m))))))

-- the paper's number and values: the length, or the refusal
abbrev pub exported_values : Result ℕ Refusal → Values
exported_values (Ok n) = numbered n
exported_values (Err r) = refused_with (refusal_number r)
