-- The plain lists (paper 01, "The plain lists"; 02, notes 6 and 7): what a reader has to believe of demand 3. Two lists
-- under the same capacities, of names and of triples with a mark, what is left of each opening, and the number of
-- reclaims. Nothing here speaks of tables, links or counts. Assumes nothing.
use Rattle.std.specs.Prelude.{◌&&◌, ◌∷◌, ◌++◌}
use Rattle.store.specs.Prelude.{Bool, true, false, cond, List, [], ℕ, zero, suc, length, get_or, set, eqb, leb, ltb}
use Rattle.store.specs.Prelude.{Chain, All, By, Counters, Triple, ScanCursor}
use Rattle.term.specs.Scanner.{first_kind_of}
use Rattle.term.specs.Canonical.{canonical}
use Rattle.store.specs.Shared.{max_reclaims, unless, at, known, within, same, kinds_permitted, Entry, matches, pick, well_formed, name_of}
use Rattle.store.specs.Shared.{text_bytes, lookup_name, below, head0, prev}
use Rattle.store.specs.Values.{Values, no_triple, refused_with, numbered, counted, placed, stepped}

-- ---- the lists

-- an opening: the pattern, the position picked, the positions in the list not yet taken, highest first; the number of reclaims then
pub record Listing : Type 0 where
  pub pattern : Triple
  pub chain : Chain
  pub rest : List ℕ
  pub generation : ℕ

pub record Model : Type 0 where
  pub names : List (List ℕ)
  pub entries : List Entry
  pub listings : List Listing
  pub generation : ℕ

pub record Capacities : Type 0 where
  pub resources : ℕ
  pub statements : ℕ
  pub text : ℕ

abbrev pub fresh_model : Model
fresh_model = record { names = []; entries = []; listings = []; generation = 0 }

-- one call; the updating form of assert and retract is answered like the form by value
pub data Form : Type 0 where
  by_value updating : Form

pub data Call : Type 0 where
  intern : List ℕ → Call
  assert : Form → Triple → Call
  retract : Form → Triple → Call
  open' : Triple → Call
  next : ℕ → ℕ → Call
  reclaim : Call

-- ---- names

-- R, T, B and the reclaims so far
abbrev pub totals : Model → Counters
totals s = record {
  resources = length s.names;
  statements = length s.entries;
  text = text_bytes s.names;
  generation = s.generation;
}

abbrev pub with_names : Model → List (List ℕ) → Model
with_names s ns = record { names = ns; entries = s.entries; listings = s.listings; generation = s.generation }

-- the last name is the answer
abbrev pub last_name : Model → Model × Values
last_name s = (s, counted 0 (length s.names) (totals s))

unfoldable pub intern_name : Capacities → Model → List ℕ → ℕ → Model × Values
intern_name k s w zero =
    unless (ltb (length s.names) k.resources && leb (text_bytes (s.names ++ w ∷ [])) k.text) (s, refused_with 3)
    (last_name (with_names s (s.names ++ w ∷ [])))
intern_name k s w (suc i) = (s, counted 0 (suc i) (totals s))

-- Enter: 2, by the name as spelled; then by the name without the string ending: its position if it is listed; 3; else it is appended
unfoldable pub intern_model : Capacities → Model → List ℕ → Model × Values
intern_model k s w =
    unless (well_formed w) (s, refused_with 2)
    (intern_name k s (canonical w) (lookup_name (canonical w) s.names))

-- ---- triples

abbrev pub entry : List Entry → ℕ → Entry
entry l i = get_or l i (record { spo = no_triple; retracted = false })

-- the position of a listed triple, or 0
unfoldable pub lookup : Triple → List Entry → ℕ
lookup x l = head0 (below (λ i. same x (entry l i).spo) (length l))

unfoldable pub mark : List Entry → ℕ → Bool → List Entry
mark l i b = set l i (record { spo = (entry l i).spo; retracted = b })

abbrev pub with_entries : Model → List Entry → Model
with_entries s l = record { names = s.names; entries = l; listings = s.listings; generation = s.generation }

-- the last triple is the answer
abbrev pub last_entry : Model → Model × Values
last_entry s = (s, counted 1 (length s.entries) (totals s))

unfoldable pub put : Capacities → Model → Triple → ℕ → Model × Values
put k s x zero =
    unless (ltb (length s.entries) k.statements) (s, refused_with 3)
    (last_entry (with_entries s (s.entries ++ record { spo = x; retracted = false } ∷ [])))
put k s x (suc i) =
    cond (entry s.entries i).retracted
    (with_entries s (mark s.entries i false), counted 3 (suc i) (totals s))
    (s, counted 2 (suc i) (totals s))

-- Assert: 4; 5 by first bytes; a listed triple goes live, "already" or "revived" by its old mark; 3; else appended live, "new"
unfoldable pub assert_model : Capacities → Model → Triple → Model × Values
assert_model k s x =
    unless (known (length s.names) x) (s, refused_with 4)
    (unless (kinds_permitted (λ y. first_kind_of (name_of s.names y)) x) (s, refused_with 5)
    (put k s x (lookup x s.entries)))

unfoldable pub retract_entry : Model → ℕ → Model × Values
retract_entry s zero = (s, numbered 0)
retract_entry s (suc i) =
    cond (entry s.entries i).retracted (s, numbered 0) (with_entries s (mark s.entries i true), numbered (suc i))

-- Retract: 4; a live triple is retracted; otherwise 0
unfoldable pub retract_model : Model → Triple → Model × Values
retract_model s x =
    unless (known (length s.names) x) (s, refused_with 4)
    (retract_entry s (lookup x s.entries))

-- ---- listings

-- the triple has the pattern's number at the position picked; nothing picked takes every triple
unfoldable pub on_chain : Chain → Triple → Triple → Bool
on_chain All x t = true
on_chain (By p) x t = eqb (at p t) (at p x)

-- the positions, falling, of the triples, live or not, on a chain
unfoldable pub holders : Chain → Triple → List Entry → List ℕ
holders ch x l = below (λ i. on_chain ch x (entry l i).spo) (length l)

-- the bound position whose number fewest triples hold there
unfoldable pub pick_model : Triple → List Entry → Chain
pick_model x l = pick x (λ q. length (holders (By q) x l))

unfoldable pub listing : ℕ → Triple → List Entry → Listing
listing n x l = record { pattern = x; chain = pick_model x l; rest = holders (pick_model x l) x l; generation = n }

-- a place: the pattern, the position picked, the rest's first or 0, the number of reclaims
abbrev pub cursor_of : Listing → ScanCursor
cursor_of g = record {
  pattern = g.pattern;
  chain = g.chain;
  next = record { 0 = head0 g.rest };
  generation = g.generation;
}

abbrev pub with_listings : Model → List Listing → Model
with_listings s g = record { names = s.names; entries = s.entries; listings = g; generation = s.generation }

-- Open: 4; the listing is kept under the next opening's number
unfoldable pub open_model : Model → Triple → Model × Values
open_model s x =
    unless (within (length s.names) x) (s, refused_with 4) (
      with_listings s (s.listings ++ listing s.generation x s.entries ∷ []),
      placed (cursor_of (listing s.generation x s.entries)),
    )

-- what taking positions off a rest comes to: found, ended or spent, with the visits made and what is left
pub data Taken : Type 0 where
  found : ℕ → ℕ → List ℕ → Taken
  ended : ℕ → Taken
  spent : ℕ → List ℕ → Taken

abbrev pub one_more : Taken → Taken
one_more (found n v r) = found n (suc v) r
one_more (ended v) = ended (suc v)
one_more (spent v r) = spent (suc v) r

-- takes positions off the rest, one visit each, to the first that passes, the budget or the end
unfoldable pub read_rest : (ℕ → Bool) → ℕ → List ℕ → Taken
read_rest live zero [] = ended 0
read_rest live zero (x ∷ xs) = spent 0 (x ∷ xs)
read_rest live (suc b) [] = ended 0
read_rest live (suc b) (x ∷ xs) = cond (live (prev x)) (found x 1 xs) (one_more (read_rest live b xs))

abbrev pub no_listing : Listing
no_listing = record { pattern = no_triple; chain = All; rest = []; generation = 0 }

abbrev pub leaving : Listing → List ℕ → Listing
leaving g r = record { pattern = g.pattern; chain = g.chain; rest = r; generation = g.generation }

abbrev pub rest_of : Taken → List ℕ
rest_of (found n v r) = r
rest_of (ended v) = []
rest_of (spent v r) = r

abbrev pub taken_values : Listing → Taken → Values
taken_values g (found n v r) = stepped 1 n v (cursor_of (leaving g r))
taken_values g (ended v) = stepped 2 0 v (cursor_of (leaving g []))
taken_values g (spent v r) = stepped 3 0 v (cursor_of (leaving g r))

unfoldable pub take_from : List Entry → Listing → ℕ → Taken
take_from l g b = read_rest (λ i. matches g.pattern (entry l i)) b g.rest

unfoldable pub turn : Model → ℕ → Listing → Taken → Model × Values
turn s j g r = (with_listings s (set s.listings j (leaving g (rest_of r))), taken_values g r)

-- Next of opening j, counted from 0 among those not refused: 13 if a reclaim came since; 7; found, ended or spent. A j
-- that names none is a listing with nothing left, opened before any reclaim.
unfoldable pub next_model : Model → ℕ → ℕ → Model × Values
next_model s j b =
    let g = get_or s.listings j no_listing in
    unless (eqb g.generation s.generation) (s, refused_with 13)
    (cond (eqb b 0) (s, refused_with 7)
    (turn s j g (take_from s.entries g b)))

-- ---- reclaim

-- the entries that are not retracted, in their order
unfoldable pub unretracted : List Entry → List Entry
unretracted [] = []
unretracted (e ∷ l) = cond e.retracted (unretracted l) (e ∷ unretracted l)

-- the retracted entries forgotten, one reclaim more; the listings are kept and can't go on
abbrev pub reclaimed : Model → Model
reclaimed s = record {
  names = s.names;
  entries = unretracted s.entries;
  listings = s.listings;
  generation = suc s.generation;
}

-- Reclaim: 14 past the maximum
unfoldable pub reclaim_model : Model → Model × Values
reclaim_model s =
    unless (ltb s.generation max_reclaims) (s, refused_with 14)
    (reclaimed s, counted 0 0 (totals (reclaimed s)))

-- ---- a list of calls

unfoldable pub call_model : Capacities → Model → Call → Model × Values
call_model k s (intern w) = intern_model k s w
call_model k s (assert f x) = assert_model k s x
call_model k s (retract f x) = retract_model s x
call_model k s (open' x) = open_model s x
call_model k s (next j b) = next_model s j b
call_model k s reclaim = reclaim_model s

-- every reply, in order
unfoldable pub model_replies : Capacities → Model → List Call → List Values
model_replies k s [] = []
model_replies k s (a ∷ r) = (call_model k s a).1 ∷ model_replies k (call_model k s a).0 r

-- the lists at the end
unfoldable pub model_after : Capacities → Model → List Call → Model
model_after k s [] = s
model_after k s (a ∷ r) = model_after k (call_model k s a).0 r
