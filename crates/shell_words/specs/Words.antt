-- What a question means as it is typed (`docs/SHELL.md`, "Questions"), and the words that its parts have on a store. Assumes nothing.
use Rattle.std.specs.Prelude.{Option, Some, None, Result, Ok, Err, slice_set, ◌≡◌, ◌≢◌, ◌∷◌, ◌+◌, ◌≤◌, ◌<◌}
use Rattle.std.proofs.Math.Seq.{slice}
use Rattle.term.specs.Canonical.{canonical}
use Rattle.store.specs.Prelude.{Bool, true, false, cond, not, List, [], map, ℕ, zero, suc, length, take, get_or, eqb}
use Rattle.store.specs.Prelude.{replicate}
use Rattle.store.specs.declared.Counters.{Counters}
use Rattle.store.specs.declared.Refusal.{Refusal}
use Rattle.store.specs.declared.ResourceId.{ResourceId}
use Rattle.store.specs.declared.Position.{Position}
use Rattle.store.specs.Shared.{well_formed, lookup_name}
use Rattle.store.specs.Tables.{Tables, off}
use Rattle.store.specs.Names.{name_at, names_up_to}
use Rattle.store.specs.Soundness.{Sound}
use Rattle.ntriples.specs.Grammar.{span}
use Rattle.graph.specs.Words.{first_variable, variables as max_variables}
use Rattle.graph.specs.Meaning.{RdfTriple, part_at, PatternTerm, term, var, TriplePattern, BasicGraphPattern}
use Rattle.shell_line.specs.Questions.{Part, Name, Any, Variable, Standing, Read, span_of, word_of, max_parts, part_bytes, parts_of, Holds}
use Rattle.shell_line.specs.declared.parts.Form.{Form}
use Rattle.shell_line.specs.declared.parts.Parts.{Parts}
use Rattle.shell_words.specs.declared.Words.{Words}

-- ---- what is typed

-- the bytes of a part
abbrev pub typed : List ℕ → Part → List ℕ
typed line x = slice (span_of x).start (span_of x).end line

-- A name without the string ending, or a variable. A lone `?` stands in no question (`PartsAreSpelled`), and no name is empty.
unfoldable pub typed_term : List ℕ → Part → PatternTerm
typed_term line (Name p) = term (canonical (slice p.start p.end line))
typed_term line (Any p) = term []
typed_term line (Variable v p) = var v

abbrev pub typed_pattern : List ℕ → Part → Part → Part → TriplePattern
typed_pattern line x y z =
    record { subject = typed_term line x; predicate = typed_term line y; object = typed_term line z }

-- three parts a pattern
unfoldable pub typed_query : List ℕ → List Part → BasicGraphPattern
typed_query line [] = []
typed_query line (x ∷ []) = []
typed_query line (x ∷ y ∷ []) = []
typed_query line (x ∷ y ∷ z ∷ r) = typed_pattern line x y z ∷ typed_query line r

-- a list's part stands for the name w: it is that name, without the string ending, or any; no list has a variable
abbrev pub StandsFor : List ℕ → Part → List ℕ → Type 0
StandsFor line (Name p) w = canonical (slice p.start p.end line) ≡ w
StandsFor line (Any p) w = Unit {0}
StandsFor line (Variable v p) w = ⊥

-- a list's three parts stand for the names of a triple
abbrev pub TypedMatch : List ℕ → List Part → RdfTriple → Type 0
TypedMatch line ps y = (p : Position) → StandsFor line (get_or ps (off p) (Any (span 0 0))) (part_at p y)

-- ---- the words on a store

-- n is the number of the resource whose name is w, without the string ending, or 0 where no resource has it
pub record NumberFor (c : Counters) (m : Tables) (w : List ℕ) (n : ℕ) : Type 0 where
  pub found : n ≢ 0 → (n ≤ c.resources) × (name_at m n ≡ canonical w)
  pub absent : n ≡ 0 → (y : ℕ) → 0 < y → y ≤ c.resources → name_at m y ≢ canonical w

-- that number, by the names that the text has (`NumberIsTheName`)
unfoldable pub number_for : Counters → Tables → List ℕ → ℕ
number_for c m w = lookup_name (canonical w) (names_up_to m c.resources)

-- a part's word: a name's number, 0 for any, a variable's word
unfoldable pub word_for : Counters → Tables → List ℕ → Part → ℕ
word_for c m line (Name p) = number_for c m (slice p.start p.end line)
word_for c m line (Any p) = 0
word_for c m line (Variable v p) = first_variable + v

-- 1 for a name that the store does not have
unfoldable pub unknown_at : Counters → Tables → List ℕ → Part → ℕ
unknown_at c m line (Name p) = cond (eqb (number_for c m (slice p.start p.end line)) 0) 1 0
unknown_at c m line (Any p) = 0
unknown_at c m line (Variable v p) = 0

-- how many of the parts are such names
unfoldable pub unknown_in : Counters → Tables → List ℕ → List Part → ℕ
unknown_in c m line [] = 0
unknown_in c m line (x ∷ ps) = unknown_at c m line x + unknown_in c m line ps

-- The code's record tells the words of the parts.
pub record WordsAre (c : Counters) (m : Tables) (line : List ℕ) (ps : List Part) (w : Words) : Type 0 where
  pub unknown : w.unknown ≡ unknown_in c m line ps
  pub words : take (length ps) w.words ≡ map (word_for c m line) ps

-- ---- how parts are spelled

-- a variable and a lone `?` begin with `?`
unfoldable pub is_name : List ℕ → Bool
is_name [] = false
is_name (b ∷ s) = not (eqb b 63)

-- A name is well formed; a lone `?`, any, stands in a list alone; variables, sixteen at most, in a question alone.
abbrev pub Spelled : Bool → List ℕ → Part → Type 0
Spelled any line (Name p) = well_formed (slice p.start p.end line) ≡ true
Spelled any line (Any p) = (any ≡ true) × (is_name (slice p.start p.end line) ≡ false)
Spelled any line (Variable v p) = (any ≡ false) × (v < max_variables) × (is_name (slice p.start p.end line) ≡ false)

-- part i of the code's record is x
pub record PartIs (line : List ℕ) (p : Parts) (i : ℕ) (x : Part) : Type 0 where
  pub bytes : part_bytes line p i ≡ typed line x
  pub word : get_or p.words i 0 ≡ word_of x
  pub any : Bool
  pub spelled : Spelled any line x

-- ---- what the code's functions answer, on a sound store

-- the resource with the number n, or none for 0
abbrev pub numbered : ℕ → Option ResourceId
numbered zero = None
numbered (suc n) = Some (record { 0 = suc n })

abbrev pub NumberTold : Counters → Tables → List ℕ → Result (Option ResourceId) Refusal → Type 0
NumberTold c m w r = Sound c m → well_formed w ≡ true → r ≡ Ok (numbered (number_for c m w))

abbrev pub no_words : Words
no_words = record { unknown = 0; words = replicate max_parts 0 }

-- the record with v as the word of part i, and u unknown names more
abbrev pub with_word : Words → ℕ → ℕ → ℕ → Words
with_word w i v u = record { unknown = w.unknown + u; words = slice_set w.words i v }

-- the word of a name that was looked up, and 1 more unknown name where there is none
abbrev pub with_found : Words → ℕ → Option ResourceId → Words
with_found w i (Some n) = with_word w i n.0 0
with_found w i None = with_word w i 0 1

abbrev pub NumberSet : Words → ℕ → Option ResourceId → Words → Type 0
NumberSet w i f r = w.unknown < max_parts → r ≡ with_found w i f

abbrev pub PartSet : Counters → Tables → List ℕ → Parts → ℕ → Words → Result Words Refusal → Type 0
PartSet c m line p i w r =
    Sound c m → (x : Part) → PartIs line p i x → i < max_parts → w.unknown < max_parts
    → r ≡ Ok (with_word w i (word_for c m line x) (unknown_at c m line x))

-- the words of the parts that were read
abbrev pub WordedAs : Counters → Tables → List ℕ → List Part → Result Words Refusal → Type 0
WordedAs c m line ps (Ok w) = WordsAre c m line ps w
WordedAs c m line ps (Err e) = ⊥

abbrev pub Worded : Counters → Tables → List ℕ → Parts → Result Words Refusal → Type 0
Worded c m line p r =
    Sound c m → (form : Form) (from : ℕ) (s : Standing) → parts_of form line from ≡ Read s → Holds line p s
    → WordedAs c m line s.parts r
