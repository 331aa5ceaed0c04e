-- Questions and lists are read through to their end, and the numbers told are right: on a sound store what is told is how many solutions or
-- statements there are, and the work of reading them. Each that is found is written once, by the form of the code: what is printed has no
-- contract. Assumes nothing.
use Rattle.std.specs.Prelude.{◌≡◌, ◌+◌, ◌<◌}
use Rattle.store.specs.Prelude.{true, List, ℕ, length}
use Rattle.graph.specs.Prelude.{Counters, Triple}
use Rattle.store.specs.Shared.{within}
use Rattle.store.specs.Tables.{Tables}
use Rattle.store.specs.Values.{opened_values}
use Rattle.store.specs.Scan.{open_of}
use Rattle.store.specs.Soundness.{Sound}
use Rattle.graph.specs.Words.{words_ok, Bindings}
use Rattle.graph.specs.Query.{open_query_of}
use Rattle.graph.specs.Values.{query_opened_values}
use Rattle.graph.specs.Work.{work_of, scan_work_of}
use Rattle.graph.specs.Claims.{reading, scanning, AllInOrder, AllMatches}
use Rattle.shell_answer.specs.declared.Told.{Told}
use Rattle.shell_answer.specs.Told.{max_calls, Account, account, ReadThrough}

-- ---- what the code answers, on any tables and words

abbrev pub QuestionRead : Counters → Tables → List ℕ → Told → Type 0
QuestionRead c m ws t = ReadThrough (query_opened_values (open_query_of c m ws)).refusal (reading c m ws) (account t)

abbrev pub ListRead : Counters → Tables → Triple → Told → Type 0
ListRead c m x t = ReadThrough (opened_values (open_of c m x)).refusal (scanning c m x) (account t)

-- ---- on a sound store

-- not refused; once ended, all are found, with these visits; ended wherever all that was found was written and two calls more than that
-- may be made
pub record Whole {A : Type 0} (all : List A) (work : ℕ) (t : Account) : Type 0 where
  pub unrefused : t.refusal ≡ 0
  pub found : t.ended ≡ true → t.found ≡ length all
  pub visits : t.ended ≡ true → t.visits ≡ work
  pub ends : t.written ≡ true → work + 1 < max_calls → t.ended ≡ true

abbrev pub QuestionsAreReadThrough : Type 0
QuestionsAreReadThrough = (c : Counters) (m : Tables) → Sound c m → (ws : List ℕ) → words_ok c.resources ws ≡ true
    → (ss : List Bindings) × AllInOrder c m ws ss × ((t : Told) → QuestionRead c m ws t → Whole ss (work_of c m ws) (account t))

-- a list has always ended, unless something could not be written
abbrev pub ListsAreReadThrough : Type 0
ListsAreReadThrough = (c : Counters) (m : Tables) → Sound c m → (x : Triple) → within c.resources x ≡ true
    → (ns : List ℕ) × AllMatches c m x ns
    × ((t : Told) → ListRead c m x t → ((account t).written ≡ true → (account t).ended ≡ true) × Whole ns (scan_work_of c m x) (account t))
