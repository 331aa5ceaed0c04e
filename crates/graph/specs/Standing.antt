-- Refusal 6 of a query in the paper's words (paper 01, "6 is exact"): the places that a next call accepts, a field for
-- each clause. It goes by an assignment of resources to variables, not by what the definition binds level by level.
-- Assumes nothing.
use Rattle.std.specs.Prelude.{◌≡◌, ◌↔◌, ◌||◌, ◌∷◌, ◌+◌, ◌-◌, ◌≤◌, ◌<◌}
use Rattle.store.specs.Prelude.{Bool, true, false, cond, List, [], ℕ, length, eqb}
use Rattle.graph.specs.Prelude.{Counters, Position, Triple, QueryPattern, Level, QueryCursor}
use Rattle.store.specs.Shared.{at, triple}
use Rattle.store.specs.Tables.{Tables, fits}
use Rattle.store.specs.RefusalClaims.{ChainStands, RecordStands}
use Rattle.graph.specs.Words.{is_variable, first_variable, patterns_of, words_ok}
use Rattle.graph.specs.Place.{Place, start, inside, finish, place_of}
use Rattle.graph.specs.Query.{record_at, next_pattern, place_ok, next_query_of}
use Rattle.graph.specs.Values.{query_values}

-- ---- a pattern under an assignment of resources to variables

unfoldable pub word_under : (ℕ → ℕ) → ℕ → ℕ
word_under σ w = cond (is_variable w) (σ (w - first_variable)) w

unfoldable pub triple_under : (ℕ → ℕ) → QueryPattern → Triple
triple_under σ x = triple (word_under σ x.subject) (word_under σ x.predicate) (word_under σ x.object)

-- ---- levels, each with those entered before it

abbrev pub Each : (Level → List Level → Type 0) → List Level → Type 0
Each P [] = Unit {0}
Each P (e ∷ earlier) = P e earlier × Each P earlier

-- the word w is variable v
unfoldable pub is_the : ℕ → ℕ → Bool
is_the v w = eqb w (first_variable + v)

unfoldable pub occurs_in : ℕ → QueryPattern → Bool
occurs_in v x = is_the v x.subject || (is_the v x.predicate || is_the v x.object)

module _ (ps : List QueryPattern) where
  -- variable v is bound by these levels: one of their patterns has it
  unfoldable pub bound_by : List Level → ℕ → Bool
  bound_by [] v = false
  bound_by (e ∷ earlier) v = occurs_in v (next_pattern ps earlier) || bound_by earlier v

  -- the next pattern as a scan's, the paper's listing: 0 at a variable that they do not bind, even if the pattern has it twice
  unfoldable pub scan_under : (ℕ → ℕ) → List Level → Triple
  scan_under σ earlier = triple_under (λ v. cond (bound_by earlier v) (σ v) 0) (next_pattern ps earlier)

-- ---- the places

module _ (c : Counters) (m : Tables) (ws : List ℕ) where
  -- the triple of a level's record
  abbrev pub record_on : Level → Triple
  record_on e = record_at m.statements e.statement.0

  -- the deepest level l and those entered before it; flags are not looked at
  pub record InsideStands (l : Level) (up : List Level) : Type 0 where
    -- no more levels than patterns
    pub levels : length (l ∷ up) ≤ length (patterns_of ws)
    -- no number above T
    pub numbers : Each (λ e earlier. e.statement.0 ≤ c.statements) (l ∷ up)
    -- an entered record before the deepest is not 0,
    pub entered : Each (λ e earlier. 0 < e.statement.0) up
    -- has its resources in 1..R
    pub resources : Each (λ e earlier. (p : Position) → (0 < at p (record_on e)) × (at p (record_on e) ≤ c.resources)) up
    -- and matches its pattern under the earlier ones: one assignment serves them all
    pub assignment : ℕ → ℕ
    pub matching : Each (λ e earlier. record_on e ≡ triple_under assignment (next_pattern (patterns_of ws) earlier)) up
    -- at any level a chain that a scan accepts
    pub chains : Each (λ e earlier. ChainStands e.chain (scan_under (patterns_of ws) assignment earlier)) (l ∷ up)
    -- and a deepest next that it accepts: 0, or a record with the bound resource at the chain's position
    pub next : RecordStands m.statements l.chain (scan_under (patterns_of ws) assignment up) l.statement.0

  -- start and end stand always
  abbrev pub PlaceStands : Place → Type 0
  PlaceStands start = Unit {0}
  PlaceStands (inside l up) = InsideStands l up
  PlaceStands finish = Unit {0}

-- Where 1 and 8 are not refused, the definition's test accepts exactly the places that stand.
abbrev pub PlaceClaim : Type 0
PlaceClaim = (c : Counters) (m : Tables) (ws : List ℕ) → fits c m ≡ true → words_ok c.resources ws ≡ true → (q : Place)
    → place_ok m.statements (patterns_of ws) c.resources c.statements q ≡ true ↔ PlaceStands c m ws q

-- On any tables a next is refused 6 exactly where 1, 8 and 13 are not refused and the place does not stand, whatever the budget.
abbrev pub BadPlaceClaim : Type 0
BadPlaceClaim = (c : Counters) (m : Tables) (ws : List ℕ) (q : QueryCursor) (b : ℕ)
    → (query_values (next_query_of c m ws q b)).refusal ≡ 6
    ↔ (fits c m ≡ true) × (words_ok c.resources ws ≡ true) × (q.generation ≡ c.generation) × (PlaceStands c m ws (place_of q) → ⊥)
