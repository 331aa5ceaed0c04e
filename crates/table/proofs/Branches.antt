-- Where code goes on a test that it negates: the test holds, or fails; the ways out of three such tests in a row, and
-- of two refusals in their order. Assumes nothing.
use mathlib.Core.Path.{◌≡◌, sym, ◌∙◌}
use mathlib.Core.Bool.{Bool, true, false, ◌&&◌}
use Rattle.store.specs.Shared.{unless}

-- the code's value of a test, and the way it took: the test holds, or fails
pub passed : {b t : Bool} → b ≡ t → b ≡ true → t ≡ true
passed e h = sym e ∙ h

pub failed : {b t : Bool} → b ≡ t → b ≡ false → t ≡ false
failed e h = sym e ∙ h

-- ---- a test of each position, left at the first that fails

pub first-fails : {a s : Bool} (rest : Bool) → a ≡ s → a ≡ false → false ≡ s && rest
first-fails rest e h = rw (failed e h)

pub second-fails : {a b s p : Bool} (rest : Bool) → a ≡ s → a ≡ true → b ≡ p → b ≡ false
    → false ≡ s && (p && rest)
second-fails rest e h f g = rw (passed e h, failed f g)

pub third-tells : {a b d s p o : Bool} → a ≡ s → a ≡ true → b ≡ p → b ≡ true → d ≡ o
    → d ≡ s && (p && o)
third-tells e h f g k = rw (passed e h, passed f g) k

-- ---- two refusals in their order

pub first-refuses : {A : Type 0} {a s : Bool} (x rest : A) → a ≡ s → a ≡ false → x ≡ unless s x rest
first-refuses x rest e h = rw (failed e h)

pub second-refuses : {A : Type 0} {a b s t : Bool} (x y rest : A) → a ≡ s → a ≡ true → b ≡ t → b ≡ false
    → y ≡ unless s x (unless t y rest)
second-refuses x y rest e h f g = rw (passed e h, failed f g)

pub both-passed : {a b s t : Bool} → a ≡ s → a ≡ true → b ≡ t → b ≡ true → (s ≡ true) × (t ≡ true)
both-passed e h f g = (passed e h, passed f g)
