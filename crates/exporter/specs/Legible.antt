-- What the pass before the writing tells, on any tables: whether the statements and the names of their resources can be read, and how
-- many bytes the live ones' lines have. Assumes nothing.
use Rattle.std.specs.Prelude.{Bool, cond, ◌&&◌, Ok, Err, List, map, ℕ, suc, ◌-◌, ◌*◌, ◌≤◌, length, leb}
use Rattle.std.specs.declared.result.Result.{Result}
use Rattle.store.specs.declared.Counters.{Counters}
use Rattle.store.specs.declared.Refusal.{Refusal}
use Rattle.store.specs.declared.Refusal.TheVariants.{Damaged}
use Rattle.store.specs.declared.Triple.{Triple}
use Rattle.store.specs.Shared.{at, all3, known, below, max_statements}
use Rattle.store.specs.Lists.{all_below, is_some}
use Rattle.store.specs.Tables.{resource_words, statement_words, triple_at, flag_at, offset_at}
use Rattle.store.specs.Reading.{name_window, zero_from}
use Rattle.store.specs.Soundness.{is_live}
use Rattle.lines.specs.Export.{join_lines}
use Rattle.line_order.specs.Rests.{line_in}

-- what reading the tables asks: the counters are within capacity
pub record Readable (c : Counters) (res stm text : List ℕ) : Type 0 where
  pub in-resources : resource_words * c.resources ≤ length res
  pub in-statements : statement_words * c.statements ≤ length stm
  pub in-text : c.text ≤ length text
  pub few : c.statements ≤ max_statements

-- a number of bytes, where what is counted can be read; 9 where it cannot
abbrev pub bytes_if : Bool → ℕ → Result ℕ Refusal
bytes_if b n = cond b (Ok n) (Err Damaged)

-- a zero byte closes the name at an offset, within 256 bytes and before e
unfoldable pub name_legible : List ℕ → ℕ → ℕ → Bool
name_legible text e o = is_some (zero_from text e name_window o)

-- each resource's name can be read
unfoldable pub names_legible : List ℕ → List ℕ → ℕ → Triple → Bool
names_legible res text e x = all3 (λ p. name_legible text e (offset_at res (at p x)))

-- the resources of statement n are in 1..R, and their names can be read
unfoldable pub line_legible : Counters → List ℕ → List ℕ → List ℕ → ℕ → Bool
line_legible c res stm text n =
    known c.resources (triple_at stm (n - 1)) && names_legible res text c.text (triple_at stm (n - 1))

-- and its flag is 0 or 1
unfoldable pub statement_legible : Counters → List ℕ → List ℕ → List ℕ → ℕ → Bool
statement_legible c res stm text n = leb (flag_at stm (n - 1)) 1 && line_legible c res stm text n

-- the same of the statements 1 .. k
unfoldable pub legible_up_to : Counters → List ℕ → List ℕ → List ℕ → ℕ → Bool
legible_up_to c res stm text k = all_below (λ i. statement_legible c res stm text (suc i)) k

-- the bytes of the live lines among them
unfoldable pub live_bytes : List ℕ → List ℕ → List ℕ → ℕ → ℕ
live_bytes res stm text k = length (join_lines (map (line_in res stm text) (below (is_live stm) k)))
