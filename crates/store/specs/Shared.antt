-- What the plain lists and the tables' definitions share: limits, refusals in their order, triples of numbers at a
-- position in general, listed triples, the position picked, names, and the falling positions of a list's entries that
-- pass a test. What its tests and searches mean is pinned in `Pins`. Assumes nothing.
use Rattle.std.specs.Prelude.{◌&&◌, ◌||◌, ◌∷◌, ◌+◌, ◌-◌}
use Rattle.store.specs.Prelude.{Bool, cond, not, List, [], ℕ, zero, suc, length, get_or, eqb}
use Rattle.store.specs.Prelude.{leb, ltb, Counters, Position, Subject, Predicate, Object, Chain, All, By, Triple}
use Rattle.term.specs.Bytes.{eq_bytes}
use Rattle.term.specs.Grammar.{name_limit}
use Rattle.term.specs.Scanner.{kind_of}

-- ---- limits, each named once, and a fresh store

abbrev pub max_resources : ℕ
max_resources = 65535

abbrev pub max_statements : ℕ
max_statements = 65535

abbrev pub max_text : ℕ
max_text = 1048576

abbrev pub max_reclaims : ℕ
max_reclaims = 65535

abbrev pub fresh_counters : Counters
fresh_counters = record { resources = 0; statements = 0; text = 0; generation = 0 }

-- ---- refusals, in the paper's order: test and refusal side by side, the rest below

abbrev pub unless : {A : Type 0} → Bool → A → A → A
unless test refusal rest = cond test rest refusal

-- ---- a triple's number at a position

abbrev pub at : Position → Triple → ℕ
at Subject x = x.subject.0
at Predicate x = x.predicate.0
at Object x = x.object.0

abbrev pub triple : ℕ → ℕ → ℕ → Triple
triple s p o = record { subject = record { 0 = s }; predicate = record { 0 = p }; object = record { 0 = o } }

-- a test of each position
abbrev pub all3 : (Position → Bool) → Bool
all3 f = f Subject && (f Predicate && f Object)

-- every number is in 1..n
unfoldable pub known : ℕ → Triple → Bool
known n x = all3 (λ p. ltb 0 (at p x) && leb (at p x) n)

-- no number exceeds n; 0 stands for any
unfoldable pub within : ℕ → Triple → Bool
within n x = all3 (λ p. leb (at p x) n)

-- the same three numbers
unfoldable pub same : Triple → Triple → Bool
same x t = all3 (λ p. eqb (at p t) (at p x))

-- the pattern's number at each bound position
unfoldable pub agrees : Triple → Triple → Bool
agrees x t = all3 (λ p. eqb (at p x) 0 || eqb (at p t) (at p x))

-- a subject is no literal (kind 3), a predicate is an IRI (kind 1), by the kinds of numbers
unfoldable pub kinds_permitted : (ℕ → ℕ) → Triple → Bool
kinds_permitted kind x = not (eqb (kind x.subject.0) 3) && eqb (kind x.predicate.0) 1

-- ---- listed triples, and the position picked

-- a listed triple with its mark
pub record Entry : Type 0 where
  pub spo : Triple
  pub retracted : Bool

-- live, and the pattern's number at each bound position
unfoldable pub matches : Triple → Entry → Bool
matches x e = not e.retracted && agrees x e.spo

-- one position more to pick from: the bound one of less cost, ties to the earlier
unfoldable pub better : Triple → (Position → ℕ) → Position → Chain → Chain
better x cost q All = cond (eqb (at q x) 0) All (By q)
better x cost q (By p) = cond (eqb (at q x) 0) (By p) (cond (ltb (cost q) (cost p)) (By q) (By p))

-- the bound position of least cost, ties to subject, then predicate, then object; All if nothing is bound
unfoldable pub pick : Triple → (Position → ℕ) → Chain
pick x cost = better x cost Object (better x cost Predicate (better x cost Subject All))

-- ---- falling positions

-- The positions, from 1, of the entries 0 .. n - 1 that pass f, falling. Entry i has position i + 1.
unfoldable pub below : (ℕ → Bool) → ℕ → List ℕ
below f zero = []
below f (suc n) = cond (f n) (suc n ∷ below f n) (below f n)

-- the first of a list of positions, or 0
abbrev pub head0 : List ℕ → ℕ
head0 [] = 0
head0 (x ∷ xs) = x

-- a position's entry
abbrev pub prev : ℕ → ℕ
prev zero = zero
prev (suc n) = n

-- ---- names

-- well formed, and not over the limit of a name's bytes
unfoldable pub well_formed : List ℕ → Bool
well_formed w = ltb 0 (kind_of name_limit w)

-- the name with a number
unfoldable pub name_of : List (List ℕ) → ℕ → List ℕ
name_of ns y = get_or ns (y - 1) []

-- the names' bytes plus 1 each
unfoldable pub text_bytes : List (List ℕ) → ℕ
text_bytes [] = 0
text_bytes (n ∷ ns) = length n + 1 + text_bytes ns

-- the position of a listed name, or 0
unfoldable pub lookup_name : List ℕ → List (List ℕ) → ℕ
lookup_name w ns = head0 (below (λ i. eq_bytes (get_or ns i []) w) (length ns))
