-- Room for a line, by the names of the store: those that it gets with the line's names, in the order of the load, and whether they fit,
-- with one statement more if any of them is new. A statement with a new name is not in the store. Assumes nothing.
use Rattle.std.specs.Prelude.{◌≡◌, ◌≢◌, Bool, true, false, cond, List, [], ◌∷◌, ◌++◌, ℕ, length, eqb}
use Rattle.term.specs.Bytes.{eq_bytes}
use Rattle.store.specs.declared.Counters.{Counters}
use Rattle.store.specs.Shared.{text_bytes, lookup_name}
use Rattle.store.specs.Tables.{Tables, fits}
use Rattle.store.specs.Names.{Named, storable}
use Rattle.store.specs.Statement.{one_statement_more}
use Rattle.ntriples.specs.declared.Span.{Span}
use Rattle.ntriples.specs.declared.Line.{Line}
use Rattle.ntriples.specs.declared.Line.TheVariants as answer
use Rattle.graph.specs.Meaning.{RdfTriple}
use Rattle.lines.specs.Claims.{names_in}

-- ---- the names

-- one name more, where it is not listed
unfoldable pub with_new : List (List ℕ) → List ℕ → List (List ℕ)
with_new ns w = cond (eqb (lookup_name w ns) 0) (ns ++ w ∷ []) ns

-- several, the last one first
unfoldable pub names_with : List (List ℕ) → List (List ℕ) → List (List ℕ)
names_with ns [] = ns
names_with ns (w ∷ ws) = with_new (names_with ns ws) w

-- the names of a triple, the last one first
abbrev pub three_names : List ℕ → List ℕ → List ℕ → List (List ℕ)
three_names s p o = o ∷ p ∷ s ∷ []

abbrev pub names_last_first : RdfTriple → List (List ℕ)
names_last_first y = three_names y.subject y.predicate y.object

-- a name that is neither listed nor one of these
unfoldable pub is_new : List (List ℕ) → List (List ℕ) → List ℕ → Bool
is_new ns [] w = eqb (lookup_name w ns) 0
is_new ns (v ∷ vs) w = cond (eq_bytes v w) false (is_new ns vs w)

-- ---- the counters

abbrev pub counters_with : Counters → List (List ℕ) → Counters
counters_with c ns =
    record { resources = length ns; statements = c.statements; text = text_bytes ns; generation = c.generation }

-- room for these names in place of those listed: where they are more, for one statement more too
unfoldable pub room_with : Counters → Tables → List (List ℕ) → Bool
room_with c m ns = cond (eqb (length ns) c.resources) true (fits (one_statement_more (counters_with c ns)) m)

-- a line without a triple needs none
abbrev pub room_for_line : List (List ℕ) → Counters → Tables → List ℕ → Line → Bool
room_for_line ns c m text answer.End = true
room_for_line ns c m text answer.Nothing = true
room_for_line ns c m text (answer.Refused k) = true
room_for_line ns c m text (answer.Triple x y z) = room_with c m (names_with ns (names_last_first (names_in text x y z)))

-- ---- what the steps of the code ask and answer

-- names as a store holds them
pub record Storable (s p o : List ℕ) : Type 0 where
  pub subject : storable s ≡ true
  pub predicate : storable p ≡ true
  pub object : storable o ≡ true

-- whether a name is new, after these names of the line; the names of a sound dictionary decide
pub record NewAnswer (c : Counters) (m : Tables) (vs : List (List ℕ)) (w : List ℕ) (r : Bool) : Type 0 where
  pub exact : (ns : List (List ℕ)) → Named ns c m → fits c m ≡ true → r ≡ is_new ns vs w

-- the counters with some names more
pub record NamesAnswer (c : Counters) (m : Tables) (ws : List (List ℕ)) (d : Counters) : Type 0 where
  pub exact : (ns : List (List ℕ)) → Named ns c m → fits c m ≡ true → d ≡ counters_with c (names_with ns ws)

-- room for some names more, on a sound dictionary; over capacity none is asked for
pub record RoomAnswer (c : Counters) (m : Tables) (ws : List (List ℕ)) (r : Bool) : Type 0 where
  pub exact : (ns : List (List ℕ)) → Named ns c m → fits c m ≡ true → r ≡ room_with c m (names_with ns ws)
  pub capacity : fits c m ≡ false → r ≡ true

pub record LineAnswer (c : Counters) (m : Tables) (text : List ℕ) (line : Line) (r : Bool) : Type 0 where
  pub exact : (ns : List (List ℕ)) → Named ns c m → fits c m ≡ true → r ≡ room_for_line ns c m text line
  pub capacity : fits c m ≡ false → r ≡ true
  pub unread : ((x y z : Span) → line ≢ answer.Triple x y z) → r ≡ true
