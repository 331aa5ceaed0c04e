-- Sound (paper 01, "Sound means"; 02, notes 5, 6 and 7): one definition for find, names by prefix, intern, reclaim,
-- the check and both demands. Words past the counters do not matter. Assumes nothing.
use Rattle.std.specs.Prelude.{◌≡◌, ◌≢◌, ◌&&◌, ◌*◌, ◌≤◌, ◌<◌}
use Rattle.store.specs.Prelude.{Bool, true, List, ℕ, length, eqb, Counters, Position}
use Rattle.store.specs.Shared.{kinds_permitted, below, head0}
use Rattle.store.specs.Tables.{Tables, fits, resource_words, statement_words, term_at, next_at, flag_at, triple_at, first_at, count_at}
use Rattle.store.specs.Tables.{kind_at, live_at}
use Rattle.store.specs.Names.{Named}

-- entry i holds the resource y at a position
unfoldable pub holding : List ℕ → Position → ℕ → ℕ → Bool
holding stm p y i = eqb (term_at stm p i) y

abbrev pub is_live : List ℕ → ℕ → Bool
is_live stm i = eqb (flag_at stm i) 0

-- it is live and holds it
unfoldable pub living : List ℕ → Position → ℕ → ℕ → Bool
living stm p y i = is_live stm i && holding stm p y i

-- The chains, for a position in general: resources in 1..R, flags 0 or 1; a record's next is the highest earlier record with its
-- resource there, a resource's first the highest of all, its count their number, live or not, its live count that of the live ones.
pub record Linked (r t : ℕ) (res stm : List ℕ) : Type 0 where
  pub fit-resources : resource_words * r ≤ length res
  pub fit-statements : statement_words * t ≤ length stm
  pub low : (p : Position) (i : ℕ) → i < t → 0 < term_at stm p i
  pub high : (p : Position) (i : ℕ) → i < t → term_at stm p i ≤ r
  pub flag : (i : ℕ) → i < t → flag_at stm i ≤ 1
  pub next : (p : Position) (i : ℕ) → i < t → next_at stm p i ≡ head0 (below (holding stm p (term_at stm p i)) i)
  pub first : (p : Position) (y : ℕ) → 0 < y → y ≤ r → first_at res p y ≡ head0 (below (holding stm p y) t)
  pub count : (p : Position) (y : ℕ) → 0 < y → y ≤ r → count_at res p y ≡ length (below (holding stm p y) t)
  pub live : (p : Position) (y : ℕ) → 0 < y → y ≤ r → live_at res p y ≡ length (below (living stm p y) t)

pub record Sound (c : Counters) (m : Tables) : Type 0 where
  -- counters within capacity
  pub capacity : fits c m ≡ true
  -- statement resources in 1..R, flag 0 or 1; every first, next, count and live count
  pub linked : Linked c.resources c.statements m.resources m.statements
  -- permitted kinds
  pub kinds : (i : ℕ) → i < c.statements → kinds_permitted (kind_at m.resources) (triple_at m.statements i) ≡ true
  -- no triple twice, live or not
  pub once : (i j : ℕ) → i < j → j < c.statements → triple_at m.statements i ≢ triple_at m.statements j
  -- the text is exactly R well-formed names without the string ending, with right offsets and kinds; the index is
  -- complete and rising, so they are distinct
  pub names : List (List ℕ)
  pub named : Named names c m
