-- The order of solutions (paper 01, "A solution is ordered by its statements", "at or after the place"): one statement
-- number a pattern, the first difference decides, higher numbers first. Assumes nothing.
use Rattle.std.specs.Prelude.{◌≡◌, ◌⊎◌, ◌&&◌, ◌||◌, ◌∷◌, ◌<◌}
use Rattle.store.specs.Prelude.{Bool, true, List, [], List-as-Memᴰ, ℕ, eqb, ltb}
use Rattle.graph.specs.Prelude.{Triple, QueryPattern, Level}
use Rattle.store.specs.Shared.{same, below, head0}
use Rattle.store.specs.Lists.{keep}
use Rattle.store.specs.Tables.{triple_at}
use Rattle.graph.specs.Place.{Place, start, inside, finish}
use Rattle.graph.specs.Words.{Bindings, under}

-- the first difference decides
abbrev pub Lower : List ℕ → List ℕ → Type 0
Lower [] ys = ⊥
Lower (x ∷ xs) [] = ⊥
Lower (x ∷ xs) (y ∷ ys) = (x < y) ⊎ ((x ≡ y) × Lower xs ys)

-- each comes before all that follow it, by its numbers
abbrev pub Descending : {A : Type 0} → (A → List ℕ) → List A → Type 0
Descending k [] = Unit {0}
Descending k (x ∷ xs) = ((y : _) → List-as-Memᴰ y xs → Lower (k y) (k x)) × Descending k xs

abbrev pub NoDuplicates : {A : Type 0} → List A → Type 0
NoDuplicates [] = Unit {0}
NoDuplicates (x ∷ xs) = (List-as-Memᴰ x xs → ⊥) × NoDuplicates xs

-- the number of the record among the first t with this triple, or 0
unfoldable pub record_of : (t : ℕ) → List ℕ → Triple → ℕ
record_of t stm x = head0 (below (λ i. same x (triple_at stm i)) t)

-- a solution's statements, one a pattern
unfoldable pub statements_of : (t : ℕ) → List ℕ → List QueryPattern → Bindings → List ℕ
statements_of t stm [] s = []
statements_of t stm (x ∷ ps) s = record_of t stm (under s x) ∷ statements_of t stm ps s

-- ---- at or after a place

-- the numbers of a place, the first pattern's first
unfoldable pub numbers_on : List Level → List ℕ → List ℕ
numbers_on [] ns = ns
numbers_on (e ∷ up) ns = numbers_on up (e.statement.0 ∷ ns)

-- a solution's first numbers are those of the place, or come after them
unfoldable pub at_or_after : List ℕ → List ℕ → Bool
at_or_after [] ts = true
at_or_after (n ∷ ns) [] = true
at_or_after (n ∷ ns) (t ∷ ts) = ltb t n || (eqb t n && at_or_after ns ts)

-- of a list of solutions with their numbers, those at or after the place: all at the start, none at the end
unfoldable pub onwards_of : (Bindings → List ℕ) → List Bindings → Place → List Bindings
onwards_of k ss start = ss
onwards_of k ss (inside l up) = keep (λ s. at_or_after (numbers_on up (l.statement.0 ∷ [])) (k s)) ss
onwards_of k ss finish = []
