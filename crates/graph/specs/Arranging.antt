-- The order of a query's patterns (paper 02, note 11): every arrangement of the same patterns has the same solutions;
-- a statement more takes none away; the second opening, which puts the most selective pattern first. Definitions on
-- tables and words that hold anything, then claims as types. Assumes nothing.
use Rattle.std.specs.Prelude.{◌≡◌, ◌≢◌, ◌⊎◌, ◌↔◌, ◌&&◌, ◌||◌, ◌∷◌, ◌++◌, ◌+◌, ◌*◌, ◌≤◌, ◌<◌}
use mathlib.Core.List.{Permᴰ}
use Rattle.store.specs.Prelude.{Bool, true, false, cond, List, [], map, List-as-Memᴰ, ℕ, suc}
use Rattle.store.specs.Prelude.{min, length, take, drop, leb}
use Rattle.graph.specs.Prelude.{Position, Subject, Predicate, Object, Counters, Triple, Capacity, BadQuery, Damaged, QueryPattern}
use Rattle.store.specs.Prelude.{Result, Ok, Err}
use Rattle.graph.specs.Prelude.{QueryCursor, Refusal}
use Rattle.store.specs.Shared.{unless, all3}
use Rattle.store.specs.Tables.{Tables, fits, count_at}
use Rattle.store.specs.Model.{Form, assert}
use Rattle.store.specs.Soundness.{Sound}
use Rattle.store.specs.History.{Store, call_store}
use Rattle.graph.specs.Words.{is_variable, word_at, patterns_of, words_ok, Bindings}
use Rattle.graph.specs.Place.{start_cursor}
use Rattle.graph.specs.Query.{open_query_of}
use Rattle.graph.specs.Values.{query_opened_values}
use Rattle.graph.specs.Order.{NoDuplicates}
use Rattle.graph.specs.Meaning.{RdfTriple, Graph, BasicGraphPattern, Mapping, Solves}
use Rattle.graph.specs.Graph.{graph_of, query_of, mapping_of}
use Rattle.graph.specs.Work.{work_of}
use Rattle.graph.specs.Claims.{Reply, read_on, AllPositive, found_in, has_ended, NoneRefused, Read, Ends, AllInOrder}
use Rattle.graph.specs.Claims.{next_reply, reading, SoundStore}

-- ---- 1. The second opening

-- no count at a place with a resource number is above T
unfoldable pub countable : ℕ → List ℕ → QueryPattern → Bool
countable t res x = all3 (λ p. is_variable (word_at p x) || leb (count_at res p (word_at p x)) t)

-- 9 is refused exactly where this is false, after 1 and 8
unfoldable pub all_countable : ℕ → List ℕ → List QueryPattern → Bool
all_countable t res [] = true
all_countable t res (x ∷ ps) = countable t res x && all_countable t res ps

-- a word's count at its place; T for a variable
unfoldable pub count_or : ℕ → List ℕ → Position → ℕ → ℕ
count_or t res p w = cond (is_variable w) t (count_at res p w)

-- a pattern's least count over the places where it has a resource number, T where it has none; no count is above T where
-- this is asked
unfoldable pub key_of : ℕ → List ℕ → QueryPattern → ℕ
key_of t res x =
    min (count_or t res Subject x.subject)
    (min (count_or t res Predicate x.predicate) (count_or t res Object x.object))

-- no key is below k
unfoldable pub none_below : ℕ → List ℕ → ℕ → List QueryPattern → Bool
none_below t res k [] = true
none_below t res k (x ∷ ps) = leb k (key_of t res x) && none_below t res k ps

-- the first pattern, from 0, whose key is at most every later one's: so of least key, and of equals the earlier
unfoldable pub least_at : ℕ → List ℕ → List QueryPattern → ℕ
least_at t res [] = 0
least_at t res (x ∷ ps) = cond (none_below t res (key_of t res x) ps) 0 (suc (least_at t res ps))

-- the words with pattern i first, the rest as given
unfoldable pub to_front : ℕ → List ℕ → List ℕ
to_front i ws = take 3 (drop (3 * i) ws) ++ (take (3 * i) ws ++ drop (3 * i + 3) ws)

unfoldable pub arranged : ℕ → List ℕ → List ℕ → List ℕ
arranged t res ws = to_front (least_at t res (patterns_of ws)) ws

-- what the second opening answers: as open, and the words
pub record ArrangedOpening : Type 0 where
  pub opened : Result QueryCursor Refusal
  pub words : List ℕ

abbrev pub arranged_with : List ℕ → Result QueryCursor Refusal → ArrangedOpening
arranged_with ws o = record { opened = o; words = ws }

-- Open with the most selective pattern first: 1; 8; 9 if a count at any place with a resource number is above T; else the
-- start with the number of reclaims, as open, and the words so arranged. Beside a refusal the words stay as given.
unfoldable pub arrange_of : Counters → Tables → List ℕ → ArrangedOpening
arrange_of c m ws =
    unless (fits c m) (arranged_with ws (Err Capacity))
    (unless (words_ok c.resources ws) (arranged_with ws (Err BadQuery))
    (unless (all_countable c.statements m.resources (patterns_of ws)) (arranged_with ws (Err Damaged))
    (arranged_with (arranged c.statements m.resources ws) (Ok (start_cursor c.generation)))))

abbrev pub arrange_refusal : Counters → Tables → List ℕ → ℕ
arrange_refusal c m ws = (query_opened_values (arrange_of c m ws).opened).refusal

-- ---- 2. Claim: every arrangement of the same patterns has the same solutions

-- the same patterns, in any order; a repeated pattern adds nothing
abbrev pub SamePatterns : List ℕ → List ℕ → Type 0
SamePatterns ws ws' = (x : QueryPattern) → List-as-Memᴰ x (patterns_of ws) ↔ List-as-Memᴰ x (patterns_of ws')

-- the solutions, as sixteen numbers, that calls with these budgets have found in turn
abbrev pub solutions_by : Counters → Tables → List ℕ → List ℕ → List Bindings
solutions_by c m ws bs = found_in (reading c m ws bs)

-- The query is opened, no call with a positive budget is refused, and the reading ends: after so many calls, whatever their
-- budgets. So what is said of readings that have ended is said of every query.
pub record ReadsThrough (c : Counters) (m : Tables) (ws : List ℕ) : Type 0 where
  pub opened : (query_opened_values (open_query_of c m ws)).refusal ≡ 0
  pub unrefused : (bs : List ℕ) → AllPositive bs → NoneRefused (reading c m ws bs)
  pub ends : Ends (reading c m ws) (work_of c m ws)

-- calls with positive budgets that have read the query to its end
abbrev pub ReadToEnd : Counters → Tables → List ℕ → List ℕ → Type 0
ReadToEnd c m ws bs = AllPositive bs × (has_ended (reading c m ws bs) ≡ true)

pub record SameSolutions (c : Counters) (m : Tables) (ws ws' : List ℕ) : Type 0 where
  pub through : ReadsThrough c m ws
  -- each once, read to its end or not: as numbers and as mappings to names
  pub once : (bs : List ℕ) → AllPositive bs
      → NoDuplicates (solutions_by c m ws bs) × NoDuplicates (map (mapping_of m) (solutions_by c m ws bs))
  -- what the one has found so far, the other has found at its end
  pub among : (bs bs' : List ℕ) → AllPositive bs → ReadToEnd c m ws' bs' → (s : Bindings)
      → List-as-Memᴰ s (solutions_by c m ws bs) → List-as-Memᴰ s (solutions_by c m ws' bs')
  -- both read to their ends: the same solutions, in some order
  pub same : (bs bs' : List ℕ) → ReadToEnd c m ws bs → ReadToEnd c m ws' bs'
      → Permᴰ (solutions_by c m ws bs) (solutions_by c m ws' bs')

-- What it says of the one it says of the other too: the patterns are the same either way round. Refused: a join that binds
-- a variable by the first pattern alone (its solutions change with the order); a query that gives a solution again where a
-- pattern is repeated (`once`); one that leaves the last pattern out (`same`); one that is read to no end (`through`).
abbrev pub ArrangementClaim : Type 0
ArrangementClaim = (c : Counters) (m : Tables) → Sound c m → (ws ws' : List ℕ)
    → words_ok c.resources ws ≡ true → words_ok c.resources ws' ≡ true → SamePatterns ws ws' → SameSolutions c m ws ws'

-- A rearrangement of accepted words is accepted, and has the same patterns. Refused: a word accepted in one pattern and not
-- in another; a test of the first pattern's words alone.
abbrev pub RearrangedClaim : Type 0
RearrangedClaim = (r : ℕ) (ws ws' : List ℕ) → words_ok r ws ≡ true → Permᴰ (patterns_of ws) (patterns_of ws')
    → length ws' ≡ length ws → (words_ok r ws' ≡ true) × SamePatterns ws ws'

-- ---- 3. Claim: one more live statement takes no solution away

-- over graphs: what solves goes on to solve where there are more triples
abbrev pub MoreTriplesClaim : Type 1
MoreTriplesClaim = (G H : Graph) → ((z : RdfTriple) → G z → H z) → (q : BasicGraphPattern) (μ : Mapping)
    → Solves G q μ → Solves H q μ

abbrev pub answers_in : Store → List ℕ → List ℕ → List Bindings
answers_in s ws bs = solutions_by s.counters s.tables ws bs

-- from s to s' no solution is lost
pub record StillFound (s s' : Store) (ws : List ℕ) : Type 0 where
  pub words : words_ok s'.counters.resources ws ≡ true
  pub through : ReadsThrough s'.counters s'.tables ws
  -- what was found before, by calls with any budgets, is found after it by those that read to the end: the same sixteen
  -- numbers,
  pub found : (bs bs' : List ℕ) → AllPositive bs → ReadToEnd s'.counters s'.tables ws bs' → (b : Bindings)
      → List-as-Memᴰ b (answers_in s ws bs) → List-as-Memᴰ b (answers_in s' ws bs')
  -- which have the same names
  pub named : (bs : List ℕ) → AllPositive bs → (b : Bindings) → List-as-Memᴰ b (answers_in s ws bs) → (v : ℕ)
      → mapping_of s'.tables b v ≡ mapping_of s.tables b v

-- Whatever the assert answers: new and revived are one more live statement. Refused: an assert that sets a revived record's
-- links to 0, so that the records below it are lost; one that puts a new record in place of another; one that exchanges two
-- names (`named`); a walk that stops at the newest statement.
abbrev pub MonotoneClaim : Type 0
MonotoneClaim = (s : Store) → SoundStore s → (f : Form) (x : Triple) (ws : List ℕ)
    → words_ok s.counters.resources ws ≡ true → StillFound s (call_store s (assert f x)).0 ws

-- ---- 4. Claims on the second opening

-- the least count over the places with a resource number, T where there is none
pub record LeastCount (t : ℕ) (res : List ℕ) (x : QueryPattern) (k : ℕ) : Type 0 where
  pub variables : ((p : Position) → is_variable (word_at p x) ≡ true) → k ≡ t
  pub least : (p : Position) → is_variable (word_at p x) ≡ false → k ≤ count_at res p (word_at p x)
  pub attained : (p : Position) → is_variable (word_at p x) ≡ false
      → (q : Position) × (is_variable (word_at q x) ≡ false) × (k ≡ count_at res q (word_at q x))

-- The keys are such, on any tables, where no count is above T. Refused: the greatest count; T as the key of a pattern with
-- one variable; a variable's place counted as 0.
abbrev pub KeyClaim : Type 0
KeyClaim = (t : ℕ) (res : List ℕ) (x : QueryPattern)
    → ((p : Position) → is_variable (word_at p x) ≡ false → count_at res p (word_at p x) ≤ t)
    → LeastCount t res x (key_of t res x) × (key_of t res x ≤ t)

-- one pattern moved to the front: every earlier one's key was greater, no later one's is less; the rest as they stood
pub record Fronted (key : QueryPattern → ℕ) (ps qs : List QueryPattern) : Type 0 where
  pub first : QueryPattern
  pub before : List QueryPattern
  pub after : List QueryPattern
  pub given : ps ≡ before ++ (first ∷ after)
  pub put : qs ≡ first ∷ (before ++ after)
  pub earlier : (y : QueryPattern) → List-as-Memᴰ y before → key first < key y
  pub later : (y : QueryPattern) → List-as-Memᴰ y after → key first ≤ key y

-- the words of the second opening, where it is not refused
pub record IsArranged (c : Counters) (m : Tables) (ws ws' : List ℕ) : Type 0 where
  pub words : words_ok c.resources ws' ≡ true
  pub length-kept : length ws' ≡ length ws
  pub permuted : Permᴰ (patterns_of ws) (patterns_of ws')
  pub fronted : (patterns_of ws ≡ []) ⊎ Fronted (key_of c.statements m.resources) (patterns_of ws) (patterns_of ws')
  -- it answers what open answers of these words
  pub opens : (arrange_of c m ws).opened ≡ open_query_of c m ws'

-- On any tables. Refused: ties to the later pattern (`earlier`); an arrangement that drops a repeated pattern (`permuted`);
-- all patterns sorted by their counts (`put`).
abbrev pub ArrangedClaim : Type 0
ArrangedClaim = (c : Counters) (m : Tables) (ws : List ℕ) → arrange_refusal c m ws ≡ 0
    → IsArranged c m ws (arrange_of c m ws).words

-- a count above T at a place with a resource number of some pattern
abbrev pub CountAbove : ℕ → List ℕ → List ℕ → Type 0
CountAbove t res ws = (x : QueryPattern) × List-as-Memᴰ x (patterns_of ws) × (p : Position)
    × (is_variable (word_at p x) ≡ false) × (t < count_at res p (word_at p x))

-- n is the refusal, 0 for none: 1; 8; 9; beside a refusal the words as given and the cursor zero
pub record ArrangeRefused (c : Counters) (m : Tables) (ws : List ℕ) (n : ℕ) : Type 0 where
  pub capacity : n ≡ 1 ↔ (fits c m ≡ false)
  pub words : n ≡ 8 ↔ (fits c m ≡ true) × (words_ok c.resources ws ≡ false)
  pub damaged : n ≡ 9
      ↔ (fits c m ≡ true) × (words_ok c.resources ws ≡ true) × CountAbove c.statements m.resources ws
  pub accepted : n ≡ 0
      ↔ (fits c m ≡ true) × (words_ok c.resources ws ≡ true) × (CountAbove c.statements m.resources ws → ⊥)
  pub bare : n ≢ 0
      → ((arrange_of c m ws).words ≡ ws) × ((query_opened_values (arrange_of c m ws).opened).cursor ≡ start_cursor 0)

-- On any tables. Refused: the counts of the pattern put first alone tested; a first above T tested; 9 before 8.
abbrev pub ArrangeRefuses : Type 0
ArrangeRefuses = (c : Counters) (m : Tables) (ws : List ℕ) → ArrangeRefused c m ws (arrange_refusal c m ws)

-- calls from the cursor of the second opening, with the words that it answered
abbrev pub arranged_reading : Counters → Tables → List ℕ → List ℕ → List (Reply Bindings QueryCursor)
arranged_reading c m ws bs =
    read_on (next_reply c m (arrange_of c m ws).words) (query_opened_values (arrange_of c m ws).opened).cursor bs

-- On a sound store it is not refused; what is read from it are the solutions of the query as given, each once, in the order
-- of the arranged patterns, and the reading ends. Refused: a cursor already inside the first pattern as given; words of
-- another query.
pub record ArrangedReads (c : Counters) (m : Tables) (ws : List ℕ) : Type 0 where
  pub unrefused : arrange_refusal c m ws ≡ 0
  pub all : List Bindings
  pub exactly : AllInOrder c m (arrange_of c m ws).words all
  pub read : (bs : List ℕ) → AllPositive bs → Read (arranged_reading c m ws bs) all
  pub ends : Ends (arranged_reading c m ws) (work_of c m (arrange_of c m ws).words)
  pub same : (bs bs' : List ℕ) → ReadToEnd c m ws bs → AllPositive bs' → has_ended (arranged_reading c m ws bs') ≡ true
      → Permᴰ (solutions_by c m ws bs) (found_in (arranged_reading c m ws bs'))
  -- the solutions of the query as given
  pub given : (μ : Mapping) → Solves (graph_of c m) (query_of m ws) μ ↔ List-as-Memᴰ μ (map (mapping_of m) all)

abbrev pub ArrangedReadingClaim : Type 0
ArrangedReadingClaim = (c : Counters) (m : Tables) → Sound c m → (ws : List ℕ) → words_ok c.resources ws ≡ true
    → ArrangedReads c m ws
