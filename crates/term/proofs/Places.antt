-- The scanner's places. A fact of every place is shown by computing it at each of them, and a fact of the place that a
-- byte leads to by computing it at those to which one may lead. Assumes nothing.
use Prim.Native.Nat.{ℕ, zero, suc}
use mathlib.Core.Path.{◌≡◌, refl, sym, ap, ◌∙◌}
use mathlib.Core.List.{List, [], ◌∷◌}
use mathlib.Core.Bool.{Bool, true, false, cond, ◌&&◌}
use lib.Dec.{T, eqb}
use lib.ListN.{get_or}
use borrow.Author.Tests.{eqb-true}
use types.Run.{OneOf}
use denote.Enum.Declared.{tag_of}
use Rattle.term.specs.Bytes.{iri_byte, text_byte, pair_byte, first_byte, label_byte, letter, alnum}
use Rattle.term.specs.Scanner.{step_of, is_bad}
use Rattle.term.specs.declared.production.Scan.{Scan}
use Rattle.term.specs.declared.production.Scan.TheVariants.{Start, IriOpen, Iri, Closed, Under, Colon, Label, Dot, Dots}
use Rattle.term.specs.declared.production.Scan.TheVariants.{Text, Escape, Quote, At, Tag, Hyphen, Group, Caret, Carets, Bad}
use Rattle.term.specs.contracts.production.Scan.{the_type}
use Rattle.term.proofs.Booleans.{and_l, and_r}
use Rattle.term.proofs.Table.{keys, at-keys, eq_bool, same_bool}

-- ---- all of them

-- the places in their order, `Bad` apart, which is the last
abbrev places : List Scan
places =
    Start ∷ IriOpen ∷ Iri ∷ Closed ∷ Under ∷ Colon ∷ Label ∷ Dot ∷ Dots ∷ Text ∷ Escape ∷ Quote ∷ At ∷ Tag
    ∷ Hyphen ∷ Group
    ∷ Caret ∷ Carets ∷ []

-- a place's number, by which code tells it, and the place of a number
abbrev pub tag : Scan → ℕ
tag q = tag_of the_type q

abbrev pub place_at : ℕ → Scan
place_at n = get_or places n Bad

place-of-tag : (q : Scan) → place_at (tag q) ≡ q
place-of-tag Start = refl
place-of-tag IriOpen = refl
place-of-tag Iri = refl
place-of-tag Closed = refl
place-of-tag Under = refl
place-of-tag Colon = refl
place-of-tag Label = refl
place-of-tag Dot = refl
place-of-tag Dots = refl
place-of-tag Text = refl
place-of-tag Escape = refl
place-of-tag Quote = refl
place-of-tag At = refl
place-of-tag Tag = refl
place-of-tag Hyphen = refl
place-of-tag Group = refl
place-of-tag Caret = refl
place-of-tag Carets = refl
place-of-tag Bad = refl

abbrev pub same : Scan → Scan → Bool
same q r = eqb (tag q) (tag r)

pub same-is : (q r : Scan) → same q r ≡ true → q ≡ r
same-is q r e = sym (place-of-tag q) ∙ (ap place_at (eqb-true (tag q) (tag r) e) ∙ place-of-tag r)

-- f is true at each of these places, and at `Bad`
abbrev all_of : (Scan → Bool) → List Scan → Bool
all_of f [] = f Bad
all_of f (q ∷ qs) = f q && all_of f qs

abbrev pub everywhere : (Scan → Bool) → Bool
everywhere f = all_of f places

at_all : (f : Scan → Bool) (qs : List Scan) (n : ℕ) → all_of f qs ≡ true → f (get_or qs n Bad) ≡ true
at_all f [] n e = e
at_all f (q ∷ qs) zero e = and_l (f q) (all_of f qs) e
at_all f (q ∷ qs) (suc n) e = at_all f qs n (and_r (f q) (all_of f qs) e)

pub every : (f : Scan → Bool) → everywhere f ≡ true → (q : Scan) → f q ≡ true
every f e q = ap f (sym (place-of-tag q)) ∙ at_all f places (tag q) e

pub every-if : (f g : Scan → Bool) → everywhere (λ q. cond (f q) (g q) true) ≡ true → (q : Scan)
    → f q ≡ true → g q ≡ true
every-if f g e q h = rw h at (every (λ q. cond (f q) (g q) true) e q)

-- f is x in an arm of a match on a place
pub at-tags : (f : Scan → Bool) (x : Bool) (ks : List ℕ) (q : Scan)
    → T (keys eq_bool same_bool (λ n. f (place_at n)) x ks)
    → OneOf ks (tag q) → f q ≡ x
at-tags f x ks q t o =
    ap f (sym (place-of-tag q)) ∙ at-keys eq_bool same_bool (λ n. f (place_at n)) x ks (tag q) t o

pub bad-only : (q : Scan) → is_bad q ≡ true → q ≡ Bad
unfolding is_bad
bad-only q e = same-is q Bad (every-if is_bad (λ r. same r Bad) refl q e)

-- ---- where a byte leads

-- by tests in turn to the places in turn, and to `Bad` in the end
abbrev chosen : List Bool → List Scan → Scan
chosen [] qs = Bad
chosen (t ∷ ts) [] = Bad
chosen (t ∷ ts) (q ∷ qs) = cond t q (chosen ts qs)

chosen-one : (f : Scan → Bool) (t : Bool) (x y : Scan) → f x ≡ true → f y ≡ true → f (cond t x y) ≡ true
chosen-one f true x y p q = p
chosen-one f false x y p q = q

bad_last : (f : Scan → Bool) (qs : List Scan) → all_of f qs ≡ true → f Bad ≡ true
bad_last f [] e = e
bad_last f (q ∷ qs) e = bad_last f qs (and_r (f q) (all_of f qs) e)

chosen-all : (f : Scan → Bool) (ts : List Bool) (qs : List Scan) → all_of f qs ≡ true → f (chosen ts qs) ≡ true
chosen-all f [] qs e = bad_last f qs e
chosen-all f (t ∷ ts) [] e = e
chosen-all f (t ∷ ts) (q ∷ qs) e =
    chosen-one f t q (chosen ts qs) (and_l (f q) (all_of f qs) e) (chosen-all f ts qs (and_r (f q) (all_of f qs) e))

-- the places to which a byte may lead, `Bad` apart
abbrev pub nexts : Scan → List Scan
nexts Start = IriOpen ∷ Under ∷ Text ∷ []
nexts IriOpen = Iri ∷ []
nexts Iri = Iri ∷ Closed ∷ []
nexts Closed = []
nexts Under = Colon ∷ []
nexts Colon = Label ∷ []
nexts Label = Label ∷ Dot ∷ []
nexts Dot = Label ∷ Dots ∷ []
nexts Dots = Label ∷ Dots ∷ []
nexts Text = Text ∷ Quote ∷ Escape ∷ []
nexts Escape = Text ∷ []
nexts Quote = At ∷ Caret ∷ []
nexts At = Tag ∷ []
nexts Tag = Tag ∷ Hyphen ∷ []
nexts Hyphen = Group ∷ []
nexts Group = Group ∷ Hyphen ∷ []
nexts Caret = Carets ∷ []
nexts Carets = IriOpen ∷ []
nexts Bad = []

next-all : (f : Scan → Bool) (q : Scan) (b : ℕ) → all_of f (nexts q) ≡ true → f (step_of q b) ≡ true
unfolding step_of
next-all f Start b = chosen-all f (eqb b 60 ∷ eqb b 95 ∷ eqb b 34 ∷ []) (nexts Start)
next-all f IriOpen b = chosen-all f (iri_byte b ∷ []) (nexts IriOpen)
next-all f Iri b = chosen-all f (iri_byte b ∷ eqb b 62 ∷ []) (nexts Iri)
next-all f Closed b = chosen-all f [] (nexts Closed)
next-all f Under b = chosen-all f (eqb b 58 ∷ []) (nexts Under)
next-all f Colon b = chosen-all f (first_byte b ∷ []) (nexts Colon)
next-all f Label b = chosen-all f (label_byte b ∷ eqb b 46 ∷ []) (nexts Label)
next-all f Dot b = chosen-all f (label_byte b ∷ eqb b 46 ∷ []) (nexts Dot)
next-all f Dots b = chosen-all f (label_byte b ∷ eqb b 46 ∷ []) (nexts Dots)
next-all f Text b = chosen-all f (text_byte b ∷ eqb b 34 ∷ eqb b 92 ∷ []) (nexts Text)
next-all f Escape b = chosen-all f (pair_byte b ∷ []) (nexts Escape)
next-all f Quote b = chosen-all f (eqb b 64 ∷ eqb b 94 ∷ []) (nexts Quote)
next-all f At b = chosen-all f (letter b ∷ []) (nexts At)
next-all f Tag b = chosen-all f (letter b ∷ eqb b 45 ∷ []) (nexts Tag)
next-all f Hyphen b = chosen-all f (alnum b ∷ []) (nexts Hyphen)
next-all f Group b = chosen-all f (alnum b ∷ eqb b 45 ∷ []) (nexts Group)
next-all f Caret b = chosen-all f (eqb b 94 ∷ []) (nexts Caret)
next-all f Carets b = chosen-all f (eqb b 60 ∷ []) (nexts Carets)
next-all f Bad b = chosen-all f [] (nexts Bad)

-- from a place where f is true, every byte leads to one where g is
abbrev pub leading : (Scan → Bool) → (Scan → Bool) → Bool
leading f g = everywhere (λ q. cond (f q) (all_of g (nexts q)) true)

pub leads : (f g : Scan → Bool) → leading f g ≡ true → (q : Scan) (b : ℕ) → f q ≡ true → g (step_of q b) ≡ true
leads f g e q b h = next-all g q b (every-if f (λ r. all_of g (nexts r)) e q h)
