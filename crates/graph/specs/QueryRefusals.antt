-- The refusals of a query's two operations by the paper's numbers and in its order (paper 01, "Operations and
-- refusals"): open 1; 8, next 1; 8; 13; 6; 7; 9. Each is given exactly where those before it are not and its own test
-- fails; 13 is `StaleClaim`, 6 is `BadPlaceClaim`. On any tables. Assumes nothing.
use Rattle.std.specs.Prelude.{◌≡◌, ◌⊎◌, ◌↔◌, ◌<◌}
use Rattle.store.specs.Prelude.{true, false, List, ℕ}
use Rattle.graph.specs.Prelude.{Counters, QueryCursor}
use Rattle.store.specs.Tables.{Tables, fits}
use Rattle.graph.specs.Words.{words_ok}
use Rattle.graph.specs.Place.{place_of}
use Rattle.graph.specs.Query.{open_query_of, next_query_of}
use Rattle.graph.specs.Values.{query_values, query_opened_values}
use Rattle.graph.specs.Standing.{PlaceStands}

module _ (c : Counters) (m : Tables) (ws : List ℕ) where
  -- open is refused n, or 0 if it is not refused
  pub record OpenRefused (n : ℕ) : Type 0 where
    pub capacity : n ≡ 1 ↔ (fits c m ≡ false)
    pub words : n ≡ 8 ↔ (fits c m ≡ true) × (words_ok c.resources ws ≡ false)
    pub opened : n ≡ 0 ↔ (fits c m ≡ true) × (words_ok c.resources ws ≡ true)

  -- 1, 8, 13 and 6 are not refused
  pub record Admitted (q : QueryCursor) : Type 0 where
    pub capacity : fits c m ≡ true
    pub words : words_ok c.resources ws ≡ true
    pub generation : q.generation ≡ c.generation
    pub place : PlaceStands c m ws (place_of q)

  -- a next is refused n, or 0 if it is not refused; only a walk with a budget is refused 9
  pub record NextRefused (q : QueryCursor) (b n : ℕ) : Type 0 where
    pub capacity : n ≡ 1 ↔ (fits c m ≡ false)
    pub words : n ≡ 8 ↔ (fits c m ≡ true) × (words_ok c.resources ws ≡ false)
    pub budget : n ≡ 7 ↔ Admitted q × (b ≡ 0)
    pub walked : (n ≡ 0) ⊎ (n ≡ 9) ↔ Admitted q × (0 < b)

abbrev pub RefusalsClaim : Type 0
RefusalsClaim = (c : Counters) (m : Tables) (ws : List ℕ)
    → OpenRefused c m ws (query_opened_values (open_query_of c m ws)).refusal
    × ((q : QueryCursor) (b : ℕ) → NextRefused c m ws q b (query_values (next_query_of c m ws q b)).refusal)
