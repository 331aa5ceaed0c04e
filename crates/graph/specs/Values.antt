-- The paper's number and values for each case of a query's two replies (paper 01, "Operations and refusals"): what a
-- promise compares. Beside a refusal's number all are zero. Assumes nothing.
use Rattle.store.specs.Prelude.{ℕ, Result, Ok, Err}
use Rattle.graph.specs.Prelude.{Refusal, Solution, QueryCursor, QueryStep, Found, Ended, Spent, QueryAnswer}
use Rattle.store.specs.Values.{refusal_number}
use Rattle.graph.specs.Words.{unbound}
use Rattle.graph.specs.Place.{start_cursor}

-- the refusal's number, or 0; 1 found, 2 ended, 3 spent, or 0; the visits; a resource for each variable; the cursor
pub record QueryValues : Type 0 where
  pub refusal : ℕ
  pub status : ℕ
  pub visits : ℕ
  pub solution : Solution
  pub cursor : QueryCursor

-- the refusal's number, and zeros: no visits, no solution, the cursor zero, its number too
abbrev pub refused_query : ℕ → QueryValues
refused_query n = record { refusal = n; status = 0; visits = 0; solution = record { values = unbound }; cursor = start_cursor 0 }

abbrev pub query_opened_values : Result QueryCursor Refusal → QueryValues
query_opened_values (Ok q) =
    record { refusal = 0; status = 0; visits = 0; solution = record { values = unbound }; cursor = q }
query_opened_values (Err e) = refused_query (refusal_number e)

abbrev pub step_status : QueryStep → ℕ
step_status Found = 1
step_status Ended = 2
step_status Spent = 3

abbrev pub query_values : Result QueryAnswer Refusal → QueryValues
query_values (Ok a) =
    record { refusal = 0; status = step_status a.step; visits = a.visits; solution = a.solution; cursor = a.cursor }
query_values (Err e) = refused_query (refusal_number e)
