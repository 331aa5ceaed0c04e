-- Closed runs of a query over the tables: the paper's example, the edges of its rules, the number of reclaims and the
-- limit of patterns (paper 02, notes 6 and 8), whole answers and cursors compared; and the words of the claims for a
-- reading, of queries and of scans. Assumes nothing.
use mathlib.Core.Path.{◌≡◌, refl}
use mathlib.Core.Bool.{Bool, true, false}
use mathlib.Core.List.{List, [], ◌∷◌, ◌++◌, map}
use Prim.Native.Nat.{ℕ, zero, suc, ◌+◌, ◌-◌}
use lib.ListN.{replicate}
use Rattle.store.specs.declared.Counters.{Counters}
use Rattle.store.specs.declared.Chain.TheVariants.{All, By}
use Rattle.store.specs.declared.Position.TheVariants.{Subject, Predicate, Object}
use Rattle.store.specs.declared.Triple.{Triple}
use Rattle.store.specs.Shared.{triple, known, within, agrees, matches, better, pick}
use Rattle.store.specs.Tables.{Tables, tables, fits, term_at, next_at, flag_at, triple_at, first_at, count_at, live_at}
use Rattle.store.specs.Walk.{entry_at, pick_chain, pickable, start_of, link_of, holds_resource, visitable, walk as along}
use Rattle.store.specs.Scan.{open_of, chain_ok, record_ok, cursor_ok, walk_from, next_of}
use Rattle.store.specs.Statement.{append_record, link_first, link_record}
use Rattle.store.specs.Reclaim.{unlinked, sweep_one, sweep, blanked, swept_of, reclaim_of}
use Rattle.store.specs.History.{after_reclaim}
use Rattle.graph.specs.declared.Level.{Level}
use Rattle.graph.specs.declared.Progress.{Progress}
use Rattle.graph.specs.declared.Progress.TheVariants.{Start, Within, End}
use Rattle.graph.specs.declared.QueryCursor.{QueryCursor}
use Rattle.graph.specs.Query.{bind_word, match, record_at, past, level_retracted, intact, any_retracted, pruned}
use Rattle.graph.specs.Query.{backtrack}
use Rattle.graph.specs.Words.{max_patterns, variables, first_variable, patterns_of, word_ok, all_ok, words_ok}
use Rattle.graph.specs.Words.{Bindings, resource, value_of, under}
use Rattle.graph.specs.Place.{level, no_level, levels_of, inside_of, place_as, written, cursor_at}
use Rattle.graph.specs.Query.{remains, next_pattern, binds, asked, entered_ok, place_ok, enter, hit, tried, visit}
use Rattle.graph.specs.Query.{walk, begun, resume, answer_of, open_query_of, packed, stale, next_query_of}
use Rattle.graph.specs.Values.{query_opened_values}
use Rattle.graph.specs.Claims.{Reply, query_reply, read_on, found_in, has_ended, last_spent, visits_in, next_reply}
use Rattle.graph.specs.Claims.{reading, scanning}

-- ---- stores, cursors and answers as numbers

abbrev v : ℕ → ℕ
v n = first_variable + n

pub record TestStore : Type 0 where
  pub counters : Counters
  pub tables : Tables

-- R and T, the resource and the statement table; no text is needed
abbrev store : ℕ → ℕ → List ℕ → List ℕ → TestStore
store r t res stm = record {
  counters = record { resources = r; statements = t; text = 0; generation = 0 };
  tables = tables res stm (replicate r 0) [];
}

-- a resource record: firsts, counts, offset, kind, live counts, which no query looks at
abbrev rr : ℕ → ℕ → ℕ → ℕ → ℕ → ℕ → List ℕ → List ℕ
rr a b c d e f rest = a ∷ b ∷ c ∷ d ∷ e ∷ f ∷ 0 ∷ 1 ∷ 99 ∷ 99 ∷ 99 ∷ rest

-- a statement record: resources, nexts, flag
abbrev sr : ℕ → ℕ → ℕ → ℕ → ℕ → ℕ → ℕ → List ℕ → List ℕ
sr a b c d e f g rest = a ∷ b ∷ c ∷ d ∷ e ∷ f ∷ g ∷ rest

-- after the loading program's example: 1 = (1,2,3), 2 = (1,2,4)
two : TestStore
two = store 4 2 (rr 2 0 0 2 0 0 (rr 0 2 0 0 2 0 (rr 0 0 1 0 0 1 (rr 0 0 2 0 0 1 []))))
    (sr 1 2 3 0 0 0 0 (sr 1 2 4 1 1 0 0 []))

-- the same with 2 retracted
latest-retracted : TestStore
latest-retracted = store 4 2 (rr 2 0 0 2 0 0 (rr 0 2 0 0 2 0 (rr 0 0 1 0 0 1 (rr 0 0 2 0 0 1 []))))
    (sr 1 2 3 0 0 0 0 (sr 1 2 4 1 1 0 1 []))

-- 1 = (1,2,3), 2 = (1,2,4), 3 = (3,2,4); the flag of 1 and the subject's next of 3 as given
three : ℕ → ℕ → TestStore
three f n =
    store 4 3 (rr 2 0 0 2 0 0 (rr 0 3 0 0 3 0 (rr 3 0 1 1 0 1 (rr 0 0 3 0 0 2 []))))
    (sr 1 2 3 0 0 0 f (sr 1 2 4 1 1 0 0 (sr 3 2 4 n 2 2 0 [])))

-- 1 = (1,2,4) alone
lone : TestStore
lone = store 4 1 (rr 1 0 0 1 0 0 (rr 0 1 0 0 1 0 (rr 0 0 0 0 0 0 (rr 0 0 1 0 0 1 [])))) (sr 1 2 4 0 0 0 0 [])

-- 1 = (1,2,3), and 99 for the count of 3 as subject
much : TestStore
much = store 4 1 (rr 1 0 0 1 0 0 (rr 0 1 0 0 1 0 (rr 0 0 1 99 0 1 (rr 0 0 0 0 0 0 [])))) (sr 1 2 3 0 0 0 0 [])

-- 1 = (1,2,n), whatever n is
odd : ℕ → TestStore
odd n = store 4 1 (rr 1 0 0 1 0 0 (rr 0 1 0 0 1 0 (rr 0 0 0 0 0 0 (rr 0 0 0 0 0 0 [])))) (sr 1 2 n 0 0 0 0 [])

-- the same tables with t for T and g for the number of reclaims
abbrev counting : ℕ → ℕ → TestStore → TestStore
counting t g s = record {
  counters = record { resources = s.counters.resources; statements = t; text = s.counters.text; generation = g };
  tables = s.tables;
}

abbrev counted : ℕ → TestStore → TestStore
counted t s = counting t s.counters.generation s

abbrev numbered : ℕ → TestStore → TestStore
numbered g s = counting s.counters.statements g s

-- after a reclaim
abbrev reclaimed : TestStore → TestStore
reclaimed s = let r = reclaim_of s.counters s.tables in
    record { counters = after_reclaim s.counters r.1; tables = r.0 }

-- the cursors of a store never reclaimed: the levels entered, the first pattern's first, and blank ones up to the limit
abbrev standing : Progress → ℕ → List Level → QueryCursor
standing g n ls = record {
  progress = g;
  depth = n;
  generation = 0;
  levels = ls ++ replicate (max_patterns - n) no_level;
}

abbrev none : QueryCursor
none = standing Start 0 []

abbrev end : QueryCursor
end = standing End 0 []

abbrev in1 : Level → QueryCursor
in1 a = standing Within 1 (a ∷ [])

abbrev in2 : Level → Level → QueryCursor
in2 a b = standing Within 2 (a ∷ b ∷ [])

abbrev in3 : Level → Level → Level → QueryCursor
in3 a b d = standing Within 3 (a ∷ b ∷ d ∷ [])

-- the same place with g for the number of reclaims
abbrev after : ℕ → QueryCursor → QueryCursor
after g q = record { progress = q.progress; depth = q.depth; generation = g; levels = q.levels }

-- the first two variables
abbrev sol : ℕ → ℕ → Bindings
sol a b = resource a ∷ resource b ∷ replicate (variables - 2) (resource 0)

-- the first three
abbrev sol3 : ℕ → ℕ → ℕ → Bindings
sol3 a b d = resource a ∷ resource b ∷ resource d ∷ replicate (variables - 3) (resource 0)

abbrev S : ℕ → Level
S n = level (By Subject) n

abbrev P : ℕ → Level
P n = level (By Predicate) n

abbrev O : ℕ → Level
O n = level (By Object) n

abbrev Replied : Type 0
Replied = Reply Bindings QueryCursor

-- refusal, status, visits, solution, cursor
abbrev reply : ℕ → ℕ → ℕ → Bindings → QueryCursor → Replied
reply e s n b q = record { refusal = e; status = s; visits = n; value = b; cursor = q }

abbrev refused_with : ℕ → Replied
refused_with n = reply n 0 0 (sol 0 0) none

abbrev start_after : ℕ → Replied
start_after g = reply 0 0 0 (sol 0 0) (after g none)

abbrev at_start : Replied
at_start = start_after 0

abbrev found : ℕ → Bindings → QueryCursor → Replied
found n b q = reply 0 1 n b q

abbrev ended_after : ℕ → ℕ → Replied
ended_after g n = reply 0 2 n (sol 0 0) (after g end)

abbrev ended : ℕ → Replied
ended n = ended_after 0 n

abbrev spent : ℕ → QueryCursor → Replied
spent n q = reply 0 3 n (sol 0 0) q

-- (?0,2,3),(?0,2,?1); (?0,2,?1),(?1,2,?2); the pattern (1,2,3) n times
abbrev paper-words : List ℕ
paper-words = v 0 ∷ 2 ∷ 3 ∷ v 0 ∷ 2 ∷ v 1 ∷ []

abbrev hops : List ℕ
hops = v 0 ∷ 2 ∷ v 1 ∷ v 1 ∷ 2 ∷ v 2 ∷ []

abbrev three-hops : List ℕ
three-hops = hops ++ v 2 ∷ 2 ∷ v 3 ∷ []

copies : ℕ → List ℕ
copies zero = []
copies (suc n) = 1 ∷ 2 ∷ 3 ∷ copies n

-- a cursor with a level in every slot
abbrev filled : Progress → ℕ → Level → QueryCursor
filled g n l = record { progress = g; depth = n; generation = 0; levels = l ∷ replicate (max_patterns - 1) (P 77) }

-- open, one next call, calls one after another from the start
abbrev open' : TestStore → List ℕ → Replied
open' s ws = query_reply (query_opened_values (open_query_of s.counters s.tables ws))

abbrev next : TestStore → List ℕ → QueryCursor → ℕ → Replied
next s ws q b = next_reply s.counters s.tables ws q b

abbrev read : TestStore → List ℕ → List ℕ → List Replied
read s ws bs = reading s.counters s.tables ws bs

-- ---- the table

-- what the definitions answer, and what is due
pub record Case : Type 0 where
  pub given : List Replied
  pub due : List Replied

-- the paper's question: 2 visits, then 1
paper : Case
paper = record {
  given = read two paper-words (9 ∷ 9 ∷ 9 ∷ 9 ∷ []);
  due = found 2 (sol 1 4) (in2 (O 1) (S 1)) ∷ found 1 (sol 1 3) (in2 (O 1) (S 0)) ∷ ended 0 ∷ ended 0 ∷ [];
}

-- opening gives the start
opened : Case
opened = record {
  given = open' two (v 0 ∷ 2 ∷ 3 ∷ [])
      ∷ open' two []
      ∷ open' two (1 ∷ 2 ∷ [])
      ∷ open' two (5 ∷ 2 ∷ 3 ∷ [])
      ∷ open' two (0 ∷ 2 ∷ 3 ∷ [])
      ∷ open' two (v 15 ∷ 2 ∷ 3 ∷ [])
      ∷ open' two (v 16 ∷ 2 ∷ 3 ∷ [])
      ∷ open' two (2147483647 ∷ 2 ∷ 3 ∷ []) ∷ [];
  due = at_start
      ∷ at_start
      ∷ refused_with 8
      ∷ refused_with 8
      ∷ refused_with 8
      ∷ at_start
      ∷ refused_with 8
      ∷ refused_with 8 ∷ [];
}

-- no patterns: one empty solution, with the end as place; a budget of 0 is refused at the end too; a level is one too
-- many
no-patterns : Case
no-patterns = record {
  given = read two [] (1 ∷ 1 ∷ 0 ∷ []) ++ next two [] (in1 (level All 1)) 1 ∷ [];
  due = found 0 (sol 0 0) end ∷ ended 0 ∷ refused_with 7 ∷ refused_with 6 ∷ [];
}

-- six patterns, a visit at each level; seven, and a word past the sixth; seven levels. How many patterns and levels
-- there are stands as the paper's number, not by the limit's name
six-patterns : Case
six-patterns = record {
  given = open' two (copies 6)
      ∷ read two (copies 6) (99 ∷ 99 ∷ [])
      ++ open' two (copies 7)
      ∷ next two (copies 7) none 99
      ∷ open' two (copies 6 ++ 1 ∷ [])
      ∷ next two (copies 6) (standing Within 7 (replicate 6 (O 1))) 99 ∷ [];
  due = at_start
      ∷ found 6 (sol 0 0) (standing Within 6 (O 1 ∷ O 1 ∷ O 1 ∷ O 1 ∷ O 1 ∷ O 0 ∷ []))
      ∷ ended 0
      ∷ refused_with 8
      ∷ refused_with 8
      ∷ refused_with 8
      ∷ refused_with 6 ∷ [];
}

-- what stands past the levels is ignored, and within with no levels is the start
slots-ignored : Case
slots-ignored = record {
  given = next two (1 ∷ 2 ∷ 3 ∷ []) (filled Within 0 (P 77)) 1
      ∷ next two (1 ∷ 2 ∷ 3 ∷ []) (filled Start 5 (P 77)) 1
      ∷ next two (1 ∷ 2 ∷ 3 ∷ []) (filled End 5 (P 77)) 1
      ∷ next two (1 ∷ 2 ∷ 3 ∷ []) (filled Within 1 (O 1)) 1 ∷ [];
  due = found 1 (sol 0 0) (in1 (O 0))
      ∷ found 1 (sol 0 0) (in1 (O 0))
      ∷ ended 0
      ∷ found 1 (sol 0 0) (in1 (O 0)) ∷ [];
}

-- a variable repeated in a pattern is open at the pick: all records are scanned; equality is tested at the match
variable-thrice : Case
variable-thrice = record {
  given = read two (v 0 ∷ v 0 ∷ v 0 ∷ []) (1 ∷ 9 ∷ []) ++ read two (v 0 ∷ 2 ∷ v 0 ∷ []) (9 ∷ []);
  due = spent 1 (in1 (level All 1)) ∷ ended 1 ∷ ended 2 ∷ [];
}

-- 6, clause by clause: two places that stand, the chain of one not the least; a level more than patterns; a number
-- above T, entered and deepest; an entered record 0, one with a resource above R, one with 0, one that is not its
-- pattern's, one that does not match under the earlier ones; a chain that a scan refuses, entered and deepest; a
-- deepest next without the chain's resource. Nothing else of the deepest record is tested: the visit refuses it 9.
places-accepted : Case
places-accepted = record {
  given = next (three 0 0) hops (in2 (P 1) (S 3)) 9
      ∷ next (three 0 0) hops (in2 (P 1) (P 3)) 9
      ∷ next (three 0 0) hops (in3 (P 1) (S 3) (level All 0)) 9
      ∷ next (counted 2 (three 0 0)) hops (in2 (P 3) (S 0)) 9
      ∷ next (counted 2 (three 0 0)) hops (in2 (P 1) (S 3)) 9
      ∷ next (three 0 0) hops (in2 (P 0) (S 3)) 9
      ∷ next (odd 5) hops (in2 (P 1) (S 0)) 9
      ∷ next (odd 0) hops (in2 (P 1) (P 0)) 9
      ∷ next (three 0 0) paper-words (in2 (P 2) (P 2)) 9
      ∷ next (three 0 0) three-hops (in3 (P 1) (P 2) (P 0)) 9
      ∷ next (three 0 0) hops (in2 (O 1) (S 3)) 9
      ∷ next (three 0 0) hops (in2 (level All 1) (S 3)) 9
      ∷ next (three 0 0) hops (in2 (P 1) (O 0)) 9
      ∷ next (three 0 0) hops (in2 (P 1) (level All 3)) 9
      ∷ next (three 0 0) hops (in2 (P 1) (S 2)) 9
      ∷ next (odd 5) (1 ∷ 2 ∷ v 0 ∷ []) (in1 (S 1)) 9 ∷ [];
  due = found 1 (sol3 1 3 4) (in2 (P 1) (S 0))
      ∷ found 1 (sol3 1 3 4) (in2 (P 1) (P 2))
      ∷ replicate 13 (refused_with 6) ++ refused_with 9 ∷ [];
}

-- the entered record 1 is retracted since, and nothing is below it on its chain
retracted-since : Case
retracted-since = record {
  given = next (three 1 0) hops (in2 (P 1) (S 3)) 9 ∷ [];
  due = ended 0 ∷ [];
}

-- entering after the budget's last visit may refuse 9
enter-refused : Case
enter-refused = record {
  given = next much (1 ∷ 2 ∷ v 0 ∷ v 0 ∷ 2 ∷ v 1 ∷ []) none 1 ∷ [];
  due = refused_with 9 ∷ [];
}

-- a chain that has run out stays in the place; the call that leaves it pays nothing for that
run-out-stays : Case
run-out-stays = record {
  given = read (three 0 0) hops (1 ∷ 1 ∷ []);
  due = spent 1 (in2 (P 3) (S 0)) ∷ spent 1 (in2 (P 2) (S 0)) ∷ [];
}

-- no entered chain has a record left when the budget is spent: ended
nothing-remains : Case
nothing-remains = record {
  given = next lone hops none 1 ∷ [];
  due = ended 1 ∷ [];
}

-- found with every chain run out is no end yet
found-run-out : Case
found-run-out = record {
  given = read two (1 ∷ 2 ∷ 3 ∷ []) (1 ∷ 1 ∷ []);
  due = found 1 (sol 0 0) (in1 (O 0)) ∷ ended 0 ∷ [];
}

-- 9 before any visit, also below a record retracted since
damaged-below : Case
damaged-below = record {
  given = next (three 1 3) three-hops (in3 (P 1) (S 3) (S 0)) 1 ∷ [];
  due = refused_with 9 ∷ [];
}

-- a reading to the end: 4 visits, whatever is left of the budget
large-budget : Case
large-budget = record {
  given = next (three 0 0) three-hops none 4294967295 ∷ [];
  due = ended 4 ∷ [];
}

-- ---- the number of reclaims

-- 13 for a cursor with another number, lower or higher, with a budget of 0 too: at the start, at the end, within
stale-places : Case
stale-places = record {
  given = next (numbered 1 two) (1 ∷ 2 ∷ 3 ∷ []) none 1
      ∷ next (numbered 1 two) (1 ∷ 2 ∷ 3 ∷ []) none 0
      ∷ next (numbered 1 two) (1 ∷ 2 ∷ 3 ∷ []) end 1
      ∷ next (numbered 1 two) (1 ∷ 2 ∷ 3 ∷ []) end 0
      ∷ next (numbered 1 two) (1 ∷ 2 ∷ 3 ∷ []) (in1 (O 1)) 1
      ∷ next two (1 ∷ 2 ∷ 3 ∷ []) (after 1 none) 1
      ∷ next (numbered 2 two) (1 ∷ 2 ∷ 3 ∷ []) (after 1 (in1 (O 1))) 1 ∷ [];
  due = replicate 7 (refused_with 13);
}

-- 1, 8, 13, 6, 7: each before the next, with a cursor that is refused all the later ones too
refusals-in-order : Case
refusals-in-order = record {
  given = next (numbered 65536 two) (1 ∷ 2 ∷ []) (in1 (P 9)) 0
      ∷ next (numbered 65535 two) (1 ∷ 2 ∷ []) (in1 (P 9)) 0
      ∷ next (numbered 65535 two) (1 ∷ 2 ∷ 3 ∷ []) (in1 (P 9)) 0
      ∷ next (numbered 65535 two) (1 ∷ 2 ∷ 3 ∷ []) (after 65535 (in1 (P 9))) 0
      ∷ next (numbered 65535 two) (1 ∷ 2 ∷ 3 ∷ []) (after 65535 (in1 (P 1))) 0
      ∷ open' (numbered 65536 two) (1 ∷ 2 ∷ [])
      ∷ open' (numbered 65535 two) (1 ∷ 2 ∷ []) ∷ [];
  due = map refused_with (1 ∷ 8 ∷ 13 ∷ 6 ∷ 7 ∷ 1 ∷ 8 ∷ []);
}

-- opened, found, ended, spent: the cursor answered has the number
carried : Case
carried = record {
  given = open' (numbered 65535 two) (1 ∷ 2 ∷ 3 ∷ [])
      ∷ read (numbered 1 two) (1 ∷ 2 ∷ 3 ∷ []) (1 ∷ 0 ∷ 1 ∷ 1 ∷ [])
      ++ read (numbered 2 two) (v 0 ∷ v 0 ∷ v 0 ∷ []) (1 ∷ 9 ∷ [])
      ++ read (numbered 3 two) [] (1 ∷ 1 ∷ []);
  due = start_after 65535
      ∷ found 1 (sol 0 0) (after 1 (in1 (O 0)))
      ∷ refused_with 7
      ∷ ended_after 1 0
      ∷ ended_after 1 0
      ∷ spent 1 (after 2 (in1 (level All 1)))
      ∷ ended_after 2 1
      ∷ found 0 (sol 0 0) (after 3 end)
      ∷ ended_after 3 0 ∷ [];
}

-- statement 1 is retracted, a query stands before 2: once reclaimed, its cursor is refused 13, and a query anew finds
-- the two left
reclaimed-between : Case
reclaimed-between = record {
  given = next (three 1 0) (v 0 ∷ 2 ∷ 4 ∷ []) (in1 (P 2)) 9
      ∷ next (reclaimed (three 1 0)) (v 0 ∷ 2 ∷ 4 ∷ []) (in1 (P 2)) 9
      ∷ read (reclaimed (three 1 0)) (v 0 ∷ 2 ∷ 4 ∷ []) (9 ∷ 9 ∷ 9 ∷ []);
  due = found 1 (sol 1 0) (in1 (P 1))
      ∷ refused_with 13
      ∷ found 1 (sol 3 0) (after 1 (in1 (P 1)))
      ∷ found 1 (sol 1 0) (after 1 (in1 (P 0)))
      ∷ ended_after 1 0 ∷ [];
}

cases : List Case
cases =
    paper ∷ opened ∷ no-patterns ∷ six-patterns ∷ slots-ignored ∷ variable-thrice ∷ places-accepted ∷
    retracted-since ∷ enter-refused ∷ run-out-stays ∷ nothing-remains ∷ found-run-out ∷ damaged-below ∷
    large-budget ∷ stale-places ∷ refusals-in-order ∷ carried ∷ reclaimed-between ∷ []

-- ---- the words for a reading

-- of a list of replies: what was found, the visits, whether some call has ended, whether the last was spent
pub record Heard (A : Type 0) : Type 0 where
  pub all : List A
  pub visits : ℕ
  pub has_ended_lem : Bool
  pub last-spent : Bool

abbrev heard : {A Q : Type 0} → List (Reply A Q) → Heard A
heard rs = record { all = found_in rs; visits = visits_in rs; has_ended_lem = has_ended rs; last-spent = last_spent false rs }

abbrev due : {A : Type 0} → List A → ℕ → Bool → Bool → Heard A
due xs n e l = record { all = xs; visits = n; has_ended_lem = e; last-spent = l }

-- the paper's question: no call; spent; both found and no end yet; ended, and ended again, a refusal between; then
-- spent twice
queries-heard : List (Heard Bindings)
queries-heard = heard (read two paper-words [])
    ∷ heard (read two paper-words (1 ∷ []))
    ∷ heard (read two paper-words (1 ∷ 1 ∷ 9 ∷ []))
    ∷ heard (read two paper-words (9 ∷ 0 ∷ 9 ∷ 9 ∷ 9 ∷ []))
    ∷ heard (read (three 0 0) hops (1 ∷ 1 ∷ [])) ∷ []

queries-due : List (Heard Bindings)
queries-due = due [] 0 false false
    ∷ due [] 1 false true
    ∷ due (sol 1 4 ∷ sol 1 3 ∷ []) 3 false false
    ∷ due (sol 1 4 ∷ sol 1 3 ∷ []) 3 true false
    ∷ due [] 2 false true ∷ []

-- scans, the latest retracted: spent on it; found, a refusal between; ended, and ended again; of three, the first
-- retracted or not
abbrev scan : TestStore → Triple → List ℕ → Heard ℕ
scan s x bs = heard (scanning s.counters s.tables x bs)

scans-heard : List (Heard ℕ)
scans-heard = scan latest-retracted (triple 1 2 0) (1 ∷ [])
    ∷ scan latest-retracted (triple 1 2 0) (1 ∷ 0 ∷ 1 ∷ [])
    ∷ scan latest-retracted (triple 1 2 0) (9 ∷ 9 ∷ 9 ∷ [])
    ∷ scan (three 0 0) (triple 0 2 0) (9 ∷ 9 ∷ 9 ∷ [])
    ∷ scan (three 1 0) (triple 0 2 0) (9 ∷ 9 ∷ 9 ∷ []) ∷ []

scans-due : List (Heard ℕ)
scans-due = due [] 1 false true
    ∷ due (1 ∷ []) 2 false false
    ∷ due (1 ∷ []) 2 true false
    ∷ due (3 ∷ 2 ∷ 1 ∷ []) 3 false false
    ∷ due (3 ∷ 2 ∷ []) 3 true false ∷ []

-- ---- all as due

all-as-due : (map (λ (x : Case). x.given) cases ≡ map (λ (x : Case). x.due) cases)
    × (queries-heard ≡ queries-due) × (scans-heard ≡ scans-due)
unfolding cases paper opened no-patterns six-patterns slots-ignored variable-thrice places-accepted retracted-since
    enter-refused run-out-stays nothing-remains found-run-out damaged-below large-budget stale-places refusals-in-order
    carried reclaimed-between queries-heard queries-due scans-heard scans-due two three latest-retracted lone much odd
    copies word_ok all_ok words_ok patterns_of value_of under bind_word match record_at past level_retracted intact
    any_retracted pruned backtrack remains next_pattern binds asked entered_ok place_ok enter hit tried visit walk begun
    resume answer_of levels_of
    inside_of place_as written cursor_at open_query_of packed stale next_query_of read_on found_in has_ended last_spent visits_in
    known within agrees matches better pick term_at next_at flag_at triple_at first_at count_at live_at entry_at link_of start_of
    holds_resource visitable pick_chain pickable chain_ok record_ok cursor_ok along walk_from open_of next_of fits append_record
    link_first link_record unlinked sweep_one sweep blanked swept_of reclaim_of
all-as-due = (refl, refl, refl)
