-- A call of a scan visits no more records than its budget, on any tables and cursor: the walk counts one visit a turn. Of a query crate
-- `graph` has it. Assumes nothing.
use mathlib.Core.Path.{◌≡◌}
use mathlib.Core.Bool.{Bool}
use mathlib.Core.List.{List}
use mathlib.Core.Option.{Option, none, some}
use Prim.Native.Nat.{ℕ, zero, suc, ◌≤◌}
use native.Mathlib.Omega.{arith}
use lib.Dec.{eqb}
use Rattle.store.proofs.Tests.{decide, cond-all}
use Rattle.store.proofs.Walks.{walk_end, walk-out, walk-damaged, walk-hit, walk-miss}
use Rattle.store.specs.declared.Counters.{Counters}
use Rattle.store.specs.declared.ScanCursor.{ScanCursor}
use Rattle.store.specs.Shared.{matches}
use Rattle.store.specs.Tables.{Tables, fits}
use Rattle.store.specs.Values.{scanned_values}
use Rattle.store.specs.Walk.{Step, found, ended, spent, after_visit, walk, link_of, visitable, entry_at}
use Rattle.store.specs.Scan.{scanned_as, cursor_ok, walk_from, next_of}
use Rattle.graph.specs.declared.QueryCursor.{QueryCursor}
use Rattle.graph.specs.declared.QueryAnswer.{QueryAnswer}
use Rattle.graph.specs.Query.{next_query_of}
use Rattle.graph.specs.Values.{query_values}
use Rattle.graph.proofs.Theorems.{within-budget}
use Rattle.std.specs.Prelude.{Result}
use Rattle.store.specs.declared.Refusal.{Refusal}
use Rattle.store.specs.declared.Scanned.{Scanned}

abbrev Within : ℕ → Result Scanned Refusal → Type 0
Within b s = (scanned_values s).visits ≤ b

after-within : (q : ScanCursor) (b : ℕ) (w : Option Step) → Within b (scanned_as q w)
    → Within (suc b) (scanned_as q (after_visit w))
after-within q b none h = omega arith
after-within q b (some (found n v r)) h = omega arith
after-within q b (some (ended v)) h = omega arith
after-within q b (some (spent v r)) h = omega arith

walk-within : (link : ℕ → ℕ) (ok hit : ℕ → Bool) (q : ScanCursor) (b n : ℕ)
    → Within b (scanned_as q (walk link ok hit b n))
walk-within link ok hit q zero zero = rw (walk_end link ok hit 0) (omega arith)
walk-within link ok hit q zero (suc i) = rw (walk-out link ok hit i) (omega arith)
walk-within link ok hit q (suc b) zero = rw (walk_end link ok hit (suc b)) (omega arith)
walk-within link ok hit q (suc b) (suc i) =
    decide (ok i)
    (λ e. decide (hit i) (λ d. rw (walk-hit link ok hit b i e d) (omega arith))
    (λ d. rw (walk-miss link ok hit b i e d) (after-within q b (walk link ok hit b (link i)) (walk-within link ok hit q b (link i)))))
    (λ e. rw (walk-damaged link ok hit b i e) (omega arith))

pub scan-within : (c : Counters) (m : Tables) (q : ScanCursor) (b : ℕ) → (scanned_values (next_of c m q b)).visits ≤ b
unfolding next_of walk_from
scan-within c m q b =
    let W = Within b in
    cond-all W (fits c m) _ _
    (cond-all W (eqb q.generation c.generation) _ _
    (cond-all W (cursor_ok c m q) _ _
    (cond-all W (eqb b 0) _ _ (omega arith)
    (walk-within (link_of m.statements q.chain) (visitable c.resources m.statements q.chain q.pattern)
    (λ i. matches q.pattern (entry_at m.statements i)) q b q.next.0))
    (omega arith))
    (omega arith))
    (omega arith)

-- of what was answered, with the budget b
pub scanned-within : (c : Counters) (m : Tables) (q : ScanCursor) (b : ℕ) {s : Result Scanned Refusal} → next_of c m q b ≡ s
    → (scanned_values s).visits ≤ b
scanned-within c m q b e = rw e at (scan-within c m q b)

pub answered-within : (c : Counters) (m : Tables) (ws : List ℕ) (q : QueryCursor) (b : ℕ) {a : Result QueryAnswer Refusal}
    → next_query_of c m ws q b ≡ a → (query_values a).visits ≤ b
answered-within c m ws q b e = rw e at (within-budget c m ws q b)
