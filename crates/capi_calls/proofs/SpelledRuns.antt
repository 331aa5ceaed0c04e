-- Closed runs of the calls with "A" in both spellings, without and with the string ending, on a store that has room for
-- this name alone. Assumes nothing.
use mathlib.Core.Path.{◌≡◌, refl}
use mathlib.Core.List.{List, [], ◌∷◌, ◌++◌}
use Prim.Native.Nat.{ℕ}
use lib.ListN.{replicate}
use Rattle.term.specs.Scanner.{is_bad}
use Rattle.term.specs.Canonical.{string_ending}
use Rattle.store.specs.Tables.{Tables, tables, resource_words}
use Rattle.store.specs.Dictionary.{find_of, intern_of}
use Rattle.store.specs.Prefix.{prefix_of}
use Rattle.store.proofs.Opened.{shared-definitions, table-definitions}
use Rattle.ntriples.specs.Grammar.{white, comment_byte}
use Rattle.ntriples.specs.Reader.{kind_allowed, is_dot, opens, dotted, after_of, enter_of, gap_of, goes_on_of, leave_of}
use Rattle.ntriples.specs.Reader.{advance_of, state_of}
use Rattle.ntriples.specs.Reader.{end_of, line_of}
use Rattle.ntriples.specs.Reader.{until_lf, has_lf, drop_cr, first_line_of, taken_of, answer_of, read_spelled, short_line}
use Rattle.ntriples.specs.Reader.{read_of}
use Rattle.capi_calls.specs.Words.{if_short, done, counters_of}
use Rattle.capi_calls.specs.Calls.{kind_call, find_as, prefix_as, enter_as, line_call}

abbrev plain_a : List ℕ
plain_a = 34 ∷ 65 ∷ 34 ∷ []

abbrev long_a : List ℕ
long_a = plain_a ++ string_ending

-- no name yet, and "A" entered, both after two reclaims; the word past the counters' four keeps its value
abbrev none : List ℕ
none = 0 ∷ 0 ∷ 0 ∷ 2 ∷ 77 ∷ []

abbrev one : List ℕ
one = 1 ∷ 0 ∷ 4 ∷ 2 ∷ 77 ∷ []

abbrev empty : Tables
empty = tables (replicate resource_words 9) [] (9 ∷ []) (replicate 4 9)

abbrev holding : Tables
holding = tables (0 ∷ 0 ∷ 0 ∷ 0 ∷ 0 ∷ 0 ∷ 0 ∷ 3 ∷ 0 ∷ 0 ∷ 0 ∷ []) [] (1 ∷ []) (34 ∷ 65 ∷ 34 ∷ 0 ∷ [])

abbrev finds : List ℕ → ℕ × List ℕ
finds w = find_as one (5 ∷ 5 ∷ 66 ∷ []) (find_of (counters_of one) holding w)

-- the lent numbers, the result and the reply
abbrev lists : List ℕ → List ℕ × (ℕ × List ℕ)
lists w = let a = prefix_of (counters_of one) holding w (7 ∷ []) in (a.0, prefix_as one (5 ∷ 66 ∷ []) a.1)

-- the tables, the result, the counters and the reply
abbrev enters : List ℕ → Tables → List ℕ → Tables × (ℕ × (List ℕ × List ℕ))
enters cw m w = let a = intern_of (counters_of cw) m w in (a.0, enter_as cw (5 ∷ 66 ∷ []) a.1)

abbrev entered : Tables × (ℕ × (List ℕ × List ℕ))
entered = (holding, (0, (one, 1 ∷ 66 ∷ [])))

-- the kind, by the name as spelled
kinds-either : kind_call plain_a (5 ∷ 66 ∷ []) ∷ kind_call long_a (5 ∷ 66 ∷ []) ∷ []
    ≡ done 0 (3 ∷ 66 ∷ []) ∷ done 0 (3 ∷ 66 ∷ []) ∷ []
unfolding shared-definitions kind_call
kinds-either = refl

finds-either : finds plain_a ∷ finds long_a ∷ [] ≡ done 0 (1 ∷ 0 ∷ 66 ∷ []) ∷ done 0 (1 ∷ 0 ∷ 66 ∷ []) ∷ []
unfolding table-definitions if_short find_as
finds-either = refl

-- a prefix is taken as spelled: the name begins with its own bytes, not with the ending
lists-as-spelled : lists plain_a ∷ lists long_a ∷ [] ≡ (1 ∷ [], (0, 1 ∷ 66 ∷ [])) ∷ (7 ∷ [], (0, 0 ∷ 66 ∷ [])) ∷ []
unfolding table-definitions if_short prefix_as
lists-as-spelled = refl

-- the first time and again, in each order of the spellings
enters-either : enters none empty plain_a ∷ enters none empty long_a ∷ enters one holding plain_a ∷ enters one holding long_a ∷ []
    ≡ entered ∷ entered ∷ entered ∷ entered ∷ []
unfolding table-definitions if_short enter_as
enters-either = refl

-- <a><b>, then "A" with the ending, and the dot at once: the object has three bytes, and the line ends at byte 53
reads-line : line_call (60 ∷ 97 ∷ 62 ∷ 60 ∷ 98 ∷ 62 ∷ (long_a ++ 46 ∷ [])) 0 (replicate 9 5)
    ≡ done 0 (2 ∷ 53 ∷ 0 ∷ 3 ∷ 3 ∷ 3 ∷ 6 ∷ 3 ∷ 5 ∷ [])
unfolding shared-definitions read_of read_spelled short_line answer_of first_line_of taken_of until_lf has_lf drop_cr line_of state_of end_of
    advance_of leave_of goes_on_of gap_of enter_of after_of dotted opens is_dot is_bad kind_allowed comment_byte white line_call
reads-line = refl
