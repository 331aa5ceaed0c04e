-- What the store needs of well-formed names: no zero byte, a kind from 1 to 3 by the first byte, at most 255 bytes; and
-- what is left of them without the string ending. Assumes nothing.
use mathlib.Core.Path.{◌≡◌, refl, sym, ap, ◌∙◌}
use mathlib.Core.Bool.{true, false, not}
use mathlib.Core.List.{List}
use Prim.Native.Nat.{ℕ, ◌≤◌, ◌<◌}
use native.Mathlib.Omega.{arith}
use lib.ListN.{length}
use lib.Dec.{ltb}
use borrow.Author.Tests.{ltb-true, not-true}
use Rattle.term.specs.Scanner.{first_kind_of, kind_of}
use Rattle.term.specs.Grammar.{name_limit, Name}
use Rattle.term.specs.Canonical.{writes_string, canonical}
pub use Rattle.term.specs.Halting.{clean}
use Rattle.term.proofs.Names.{name-kind, kinds}
use Rattle.term.proofs.WellFormed.{name-clean, at-most-three}
use Rattle.term.proofs.Shortened.{canonical-name, kept}
use Rattle.store.specs.Shared.{well_formed}
use Rattle.store.specs.Names.{storable}
use Rattle.store.proofs.Tests.{and_l, and_r, and-of}

-- a kind was found
kind-found : (w : List ℕ) → well_formed w ≡ true → 0 < kind_of name_limit w
unfolding well_formed
kind-found w e = ltb-true 0 (kind_of name_limit w) e

found-not : (w : List ℕ) → well_formed w ≡ true → kind_of name_limit w ≡ 0 → ⊥
found-not w e z = omega (arith, kind-found w e)

pub form-clean : (w : List ℕ) → well_formed w ≡ true → clean w ≡ true
form-clean w e = name-clean name_limit w (found-not w e)

-- the grammar's name, of its kind
by-grammar : (w : List ℕ) → well_formed w ≡ true → (length w ≤ name_limit) × Name (kind_of name_limit w) w
by-grammar w e = (kinds name_limit (kind_of name_limit w) w (kind-found w e)).0 refl

pub form-short : (w : List ℕ) → well_formed w ≡ true → length w ≤ name_limit
form-short w e = (by-grammar w e).0

-- the kind of a well-formed name is its first byte's
pub form-kind_of : (w : List ℕ) → well_formed w ≡ true → kind_of name_limit w ≡ first_kind_of w
form-kind_of w e = sym (name-kind (by-grammar w e).1)

pub form-kind : (w : List ℕ) → well_formed w ≡ true → 0 < first_kind_of w
form-kind w e = omega (arith, kind-found w e, form-kind_of w e)

pub form-kind-high : (w : List ℕ) → well_formed w ≡ true → first_kind_of w ≤ 3
form-kind-high w e = omega (arith, at-most-three name_limit w, form-kind_of w e)

-- ---- names without the string ending

pub storable-formed : (w : List ℕ) → storable w ≡ true → well_formed w ≡ true
unfolding storable
storable-formed w e = and_l (well_formed w) _ e

pub storable-plain : (w : List ℕ) → storable w ≡ true → writes_string w ≡ false
unfolding storable
storable-plain w e = not-true (writes_string w) (and_r (well_formed w) (not (writes_string w)) e)

-- the step leaves such a name as it is
pub storable-kept : (w : List ℕ) → storable w ≡ true → canonical w ≡ w
storable-kept w e = kept w (storable-plain w e)

-- and what it leaves of a well-formed name is one
pub canonical-storable : (w : List ℕ) → well_formed w ≡ true → storable (canonical w) ≡ true
unfolding storable well_formed
canonical-storable w e =
    let c = canonical-name name_limit w (found-not w e) in
    and-of (ltb 0 (kind_of name_limit (canonical w))) (not (writes_string (canonical w))) (ap (ltb 0) c.kind ∙ e)
    (ap not c.ending)

pub canonical-formed : (w : List ℕ) → well_formed w ≡ true → well_formed (canonical w) ≡ true
canonical-formed w e = storable-formed (canonical w) (canonical-storable w e)

-- the kind of the name as spelled is the first byte's of what is left
pub canonical-kind : (w : List ℕ) → well_formed w ≡ true → kind_of name_limit w ≡ first_kind_of (canonical w)
canonical-kind w e =
    sym (canonical-name name_limit w (found-not w e)).kind ∙ form-kind_of (canonical w) (canonical-formed w e)
