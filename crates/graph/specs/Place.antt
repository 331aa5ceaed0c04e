-- The place of a query (paper 01, "Next of a question"): its levels, and how a cursor's array holds them. Assumes nothing.
use Rattle.std.specs.Prelude.{◌∷◌}
use Rattle.store.specs.Prelude.{List, [], ℕ, zero, suc, length, get_or, set, replicate}
use Rattle.graph.specs.Prelude.{Chain, All, Level, Progress, Start, Within, End, QueryCursor}
use Rattle.graph.specs.Words.{max_patterns}

-- ---- the place

abbrev pub level : Chain → ℕ → Level
level ch n = record { chain = ch; statement = record { 0 = n } }

-- Within: the deepest level, whose record is the next to visit, and those entered before it, the deepest first.
pub data Place : Type 0 where
  start : Place
  inside : Level → List Level → Place
  finish : Place

-- ---- the place in a cursor's array

abbrev pub no_level : Level
no_level = level All 0

-- the first d levels of an array, the deepest first
unfoldable pub levels_of : List Level → ℕ → List Level
levels_of ls zero = []
levels_of ls (suc d) = get_or ls d no_level ∷ levels_of ls d

-- d levels entered; none is the start
unfoldable pub inside_of : List Level → ℕ → Place
inside_of ls zero = start
inside_of ls (suc d) = inside (get_or ls d no_level) (levels_of ls d)

unfoldable pub place_as : Progress → List Level → ℕ → Place
place_as Start ls d = start
place_as Within ls d = inside_of ls d
place_as End ls d = finish

abbrev pub place_of : QueryCursor → Place
place_of q = place_as q.progress q.levels q.depth

-- the levels in an array, zeros past them
unfoldable pub written : List Level → List Level
written [] = replicate max_patterns no_level
written (e ∷ up) = set (written up) (length up) e

-- a cursor of the generation g
abbrev pub cursor_with : ℕ → Progress → List Level → QueryCursor
cursor_with g s up = record { progress = s; depth = length up; generation = g; levels = written up }

abbrev pub start_cursor : ℕ → QueryCursor
start_cursor g = cursor_with g Start []

unfoldable pub cursor_at : ℕ → Place → QueryCursor
cursor_at g start = start_cursor g
cursor_at g (inside l up) = cursor_with g Within (l ∷ up)
cursor_at g finish = cursor_with g End []
