-- How many records a query or a scan read through visits, by the statements alone: no link, cursor or budget. Assumes nothing.
use Rattle.std.specs.Prelude.{◌∷◌, ◌+◌}
use Rattle.store.specs.Prelude.{cond, List, [], Option, none, some, ℕ, zero, suc, length}
use Rattle.graph.specs.Prelude.{Counters, Chain, Triple, QueryPattern}
use Rattle.store.specs.Tables.{Tables, triple_at}
use Rattle.store.specs.Model.{on_chain}
use Rattle.store.specs.Shared.{Entry, below}
use Rattle.store.specs.Walk.{entry_at, pick_chain}
use Rattle.graph.specs.Query.{match}
use Rattle.graph.specs.Words.{Bindings, unbound, under, patterns_of}

-- entry i, if it is live and meets x under b: what is then bound
unfoldable pub hit_at : (ℕ → Entry) → QueryPattern → Bindings → ℕ → Option Bindings
hit_at E x b i = cond (E i).retracted none (match x (E i).spo b)

-- g 0 + .. + g (n - 1)
unfoldable pub sum_to : (ℕ → ℕ) → ℕ → ℕ
sum_to g zero = 0
sum_to g (suc n) = g n + sum_to g n

abbrev pub each_n : {A : Type 0} → Option A → (A → ℕ) → ℕ
each_n none f = 0
each_n (some a) f = f a

-- every record on the chain picked for the first pattern, live or not, and for each that matches the work of the other patterns
unfoldable pub work : (ℕ → Entry) → ℕ → (Triple → Chain) → List QueryPattern → Bindings → ℕ
work E n pk [] b = 0
work E n pk (x ∷ ps) b =
    sum_to (λ i. cond (on_chain (pk (under b x)) (under b x) (E i).spo)
    (suc (each_n (hit_at E x b i) (λ b'. work E n pk ps b'))) 0) n

-- of a query's words, over the statements of the tables, each chain picked by least count under the bindings so far
abbrev pub work_of : Counters → Tables → List ℕ → ℕ
work_of c m ws = work (entry_at m.statements) c.statements (pick_chain m.resources) (patterns_of ws) unbound

-- of a scan: every record on the chain picked, live or not
abbrev pub scan_work_of : Counters → Tables → Triple → ℕ
scan_work_of c m x = length (below (λ i. on_chain (pick_chain m.resources x) x (triple_at m.statements i)) c.statements)
