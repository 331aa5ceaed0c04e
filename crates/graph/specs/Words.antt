-- The words of a query, the paper's question (paper 01, "Open a question"; 02, note 8): its limits, its patterns,
-- refusal 8, what is bound to its variables, and a pattern under what is bound. Assumes nothing.
use Rattle.std.specs.Prelude.{◌&&◌, ◌||◌, ◌∷◌, ◌+◌, ◌*◌, ◌-◌}
use Rattle.store.specs.Prelude.{Bool, true, cond, List, [], ℕ, length, get_or, replicate, eqb, leb, ltb}
use Rattle.graph.specs.Prelude.{Position, Subject, Predicate, Object, ResourceId, Triple, QueryPattern}
use Rattle.store.specs.Shared.{triple}

-- ---- the words of a query

-- the limits, each named once; the word of variable 0
abbrev pub max_patterns : ℕ
max_patterns = 6

abbrev pub variables : ℕ
variables = 16

abbrev pub first_variable : ℕ
first_variable = 2147483648

abbrev pub is_variable : ℕ → Bool
is_variable w = leb first_variable w

abbrev pub pattern : ℕ → ℕ → ℕ → QueryPattern
pattern s p o = record { subject = s; predicate = p; object = o }

-- a pattern's word at a position
abbrev pub word_at : Position → QueryPattern → ℕ
word_at Subject x = x.subject
word_at Predicate x = x.predicate
word_at Object x = x.object

-- three words a pattern; what is left over at the end gives none
unfoldable pub patterns_of : List ℕ → List QueryPattern
patterns_of [] = []
patterns_of (a ∷ []) = []
patterns_of (a ∷ b ∷ []) = []
patterns_of (a ∷ b ∷ c ∷ r) = pattern a b c ∷ patterns_of r

-- a resource's number, or a variable
unfoldable pub word_ok : ℕ → ℕ → Bool
word_ok r w = (ltb 0 w && leb w r) || (is_variable w && ltb w (first_variable + variables))

unfoldable pub all_ok : ℕ → List ℕ → Bool
all_ok r [] = true
all_ok r (w ∷ ws) = word_ok r w && all_ok r ws

-- refusal 8 exactly where this is false
unfoldable pub words_ok : ℕ → List ℕ → Bool
words_ok r ws = eqb (3 * length (patterns_of ws)) (length ws)
    && (leb (length (patterns_of ws)) max_patterns && all_ok r ws)

-- ---- what is bound

-- a resource for each variable, 0 where it is open
abbrev pub Bindings : Type 0
Bindings = List ResourceId

abbrev pub resource : ℕ → ResourceId
resource n = record { 0 = n }

abbrev pub unbound : Bindings
unbound = replicate variables (resource 0)

-- what is bound to the variable v, or 0
abbrev pub bound_to : Bindings → ℕ → ℕ
bound_to b v = (get_or b v (resource 0)).0

-- the number a word stands for; 0 where it is an open variable
unfoldable pub value_of : Bindings → ℕ → ℕ
value_of b w = cond (is_variable w) (bound_to b (w - first_variable)) w

-- the pattern as a scan's: 0 where a variable is open
unfoldable pub under : Bindings → QueryPattern → Triple
under b x = triple (value_of b x.subject) (value_of b x.predicate) (value_of b x.object)
