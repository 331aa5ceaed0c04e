-- Closed runs of the second opening: the least count over the places with a number, ties to the earlier, T for variables
-- alone, refusals in their order with the words as given. Assumes nothing.
use mathlib.Core.Path.{◌≡◌, refl}
use mathlib.Core.List.{List, [], ◌∷◌, map}
use Prim.Native.Nat.{ℕ, ◌+◌}
use lib.ListN.{replicate}
use Rattle.store.specs.declared.Counters.{Counters}
use Rattle.store.specs.declared.Refusal.TheVariants.{Capacity, BadQuery, Damaged}
use Rattle.store.specs.Tables.{Tables, tables, fits, count_at}
use Rattle.std.specs.Prelude.{Ok, Err}
use Rattle.graph.specs.Words.{first_variable, patterns_of, word_ok, all_ok, words_ok}
use Rattle.graph.specs.Place.{start_cursor}
use Rattle.graph.specs.Arranging.{countable, all_countable, count_or, key_of, none_below, least_at, to_front, arranged}
use Rattle.graph.specs.Arranging.{ArrangedOpening, arranged_with, arrange_of}

abbrev v : ℕ → ℕ
v n = first_variable + n

-- a resource record by its counts; nothing else is looked at
abbrev counts : ℕ → ℕ → ℕ → List ℕ → List ℕ
counts s p o rest = 99 ∷ 99 ∷ 99 ∷ s ∷ p ∷ o ∷ 0 ∷ 1 ∷ 0 ∷ 0 ∷ 0 ∷ rest

-- 1 = (1,2,3), 2 = (1,2,4), 3 = (3,2,4), by the counts alone; k for the count of 4 as object
here : ℕ → Tables
here k = tables (counts 2 0 0 (counts 0 3 0 (counts 1 0 1 (counts 0 0 k [])))) (replicate 21 0) (replicate 4 0) []

abbrev three : ℕ → Counters
three g = record { resources = 4; statements = 3; text = 0; generation = g }

pub record Case : Type 0 where
  pub given : ArrangedOpening
  pub due : ArrangedOpening

abbrev opened : ℕ → List ℕ → List ℕ → Case
opened k ws ws' = record { given = arrange_of (three 5) (here k) ws; due = arranged_with ws' (Ok (start_cursor 5)) }

cases : List Case
cases =
    -- no pattern; one of variables alone
    opened 2 [] []
    ∷ opened 2 (v 0 ∷ v 1 ∷ v 2 ∷ []) (v 0 ∷ v 1 ∷ v 2 ∷ [])
    -- keys 3, 2, 1, 1: the third, and the rest as given
    ∷ opened 2
    (v 0 ∷ 2 ∷ v 1 ∷ 1 ∷ 2 ∷ v 0 ∷ 3 ∷ 2 ∷ 4 ∷ v 0 ∷ v 1 ∷ 3 ∷ [])
    (3 ∷ 2 ∷ 4 ∷ v 0 ∷ 2 ∷ v 1 ∷ 1 ∷ 2 ∷ v 0 ∷ v 0 ∷ v 1 ∷ 3 ∷ [])
    -- T against a count of T: the earlier, either way round
    ∷ opened 2 (v 0 ∷ v 1 ∷ v 2 ∷ v 0 ∷ 2 ∷ v 1 ∷ []) (v 0 ∷ v 1 ∷ v 2 ∷ v 0 ∷ 2 ∷ v 1 ∷ [])
    ∷ opened 2 (v 0 ∷ 2 ∷ v 1 ∷ v 0 ∷ v 1 ∷ v 2 ∷ []) (v 0 ∷ 2 ∷ v 1 ∷ v 0 ∷ v 1 ∷ v 2 ∷ [])
    -- a count of 0: a name that no statement holds there
    ∷ opened 2 (1 ∷ 2 ∷ v 0 ∷ 4 ∷ v 1 ∷ v 0 ∷ []) (4 ∷ v 1 ∷ v 0 ∷ 1 ∷ 2 ∷ v 0 ∷ [])
    -- a repeated pattern stays
    ∷ opened 2 (v 0 ∷ 2 ∷ 4 ∷ v 0 ∷ 2 ∷ 3 ∷ v 0 ∷ 2 ∷ 4 ∷ []) (v 0 ∷ 2 ∷ 3 ∷ v 0 ∷ 2 ∷ 4 ∷ v 0 ∷ 2 ∷ 4 ∷ [])
    -- a count of T + 1, in the last pattern alone: 9; not where the word stands at another place
    ∷ record {
      given = arrange_of (three 5) (here 4) (3 ∷ 2 ∷ v 0 ∷ v 0 ∷ 2 ∷ 4 ∷ []);
      due = arranged_with (3 ∷ 2 ∷ v 0 ∷ v 0 ∷ 2 ∷ 4 ∷ []) (Err Damaged);
    }
    ∷ opened 4 (3 ∷ 2 ∷ v 0 ∷ 4 ∷ 2 ∷ v 0 ∷ []) (4 ∷ 2 ∷ v 0 ∷ 3 ∷ 2 ∷ v 0 ∷ [])
    -- 8 before 9; 1 before 8
    ∷ record {
      given = arrange_of (three 5) (here 4) (v 0 ∷ 2 ∷ 4 ∷ v 0 ∷ 2 ∷ 5 ∷ []);
      due = arranged_with (v 0 ∷ 2 ∷ 4 ∷ v 0 ∷ 2 ∷ 5 ∷ []) (Err BadQuery);
    }
    ∷ record {
      given = arrange_of (three 65536) (here 4) (5 ∷ []);
      due = arranged_with (5 ∷ []) (Err Capacity);
    }
    ∷ []

all-as-due : map (λ (x : Case). x.given) cases ≡ map (λ (x : Case). x.due) cases
unfolding here cases fits count_at patterns_of word_ok all_ok words_ok countable all_countable count_or key_of none_below least_at to_front arranged arrange_of
all-as-due = refl
