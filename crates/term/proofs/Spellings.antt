-- IRIs, blank nodes and language tags of the grammar are what the paper spells out. Assumes nothing.
use Prim.Native.Nat.{ℕ}
use mathlib.Core.Path.{◌≡◌, refl, sym}
use mathlib.Core.List.{List, [], ◌∷◌, ◌++◌}
use mathlib.Core.Bool.{Bool, true, false, cond}
use lib.Dec.{eqb}
use borrow.Author.Tests.{eqb-true}
use Rattle.term.specs.Bytes.{iri_byte, first_byte, label_byte, letter, alnum, All}
use Rattle.term.specs.Grammar as g
use Rattle.term.specs.Spelling.{label_or_dot, last_of, SpelledIri, SpelledBlank, Group, AllGroups, groups}
use Rattle.term.specs.Spelling.{SpelledTag, IriIsSpelled, BlankIsSpelled, TagIsSpelled}
use Rattle.term.proofs.Booleans.{other}
use Rattle.term.proofs.Names.{never}

-- ---- IRIs

record IriParts (s : List ℕ) : Type 0 where
  later : List ℕ
  fine : All iri_byte later
  spells : s ≡ later ++ (62 ∷ [])

iri-parts : {s : List ℕ} → g.IriRest s → IriParts s
iri-parts (g.IriRest.byte {b = b} e r) =
    let p = iri-parts r in record { later = b ∷ p.later; fine = (e, p.fine); spells = rw (← p.spells) }
iri-parts g.IriRest.close = record { later = []; fine = tt; spells = refl }

iri-spelled : {l : List ℕ} → g.Iri l → SpelledIri l
iri-spelled (g.Iri.open' {b = b} e r) =
    let p = iri-parts r in record { first = b; later = p.later; fine = (e, p.fine); spells = rw (← p.spells) }

iri-rest : (s : List ℕ) → All iri_byte s → g.IriRest (s ++ (62 ∷ []))
iri-rest [] f = g.IriRest.close
iri-rest (b ∷ s) f = g.IriRest.byte f.0 (iri-rest s f.1)

pub iri-is-spelled : IriIsSpelled
iri-is-spelled l = (
  λ n. iri-spelled n,
  λ x. rw x.spells (g.Iri.open' x.fine.0 (iri-rest x.later x.fine.1)),
)

-- ---- blank nodes

-- a label's byte is one of the wider class, and no dot
label-wide : (b : ℕ) (t : Bool) → label_byte b ≡ true → cond t true (label_byte b) ≡ true
label-wide b true e = refl
label-wide b false e = e

wide : (b : ℕ) → label_byte b ≡ true → label_or_dot b ≡ true
unfolding label_or_dot
wide b e = label-wide b (eqb b 46) e

off : (label_byte 46 ≡ false) × (first_byte 46 ≡ false)
unfolding label_byte first_byte alnum letter
off = (refl, refl)

wide-dot : label_or_dot 46 ≡ true
unfolding label_or_dot
wide-dot = refl

-- what may follow a label's first byte, in the wider class, and its last byte is no dot
label-fine : {s : List ℕ} → g.LabelRest s → All label_or_dot s × ((d : ℕ) → eqb (last_of d s) 46 ≡ false)
label-fine (g.LabelRest.last {b = b} e) = ((wide b e, tt), λ d. other label_byte 46 b off.0 e)
label-fine (g.LabelRest.byte {b = b} e r) = ((wide b e, (label-fine r).0), λ d. (label-fine r).1 b)
label-fine (g.LabelRest.dot r) = ((wide-dot, (label-fine r).0), λ d. (label-fine r).1 46)

blank-spelled : {l : List ℕ} → g.Blank l → SpelledBlank l
blank-spelled (g.Blank.single {b = b} e) =
    record { first = b; later = []; starts = e; fine = tt; ends = other first_byte 46 b off.1 e; spells = refl }
blank-spelled (g.Blank.longer {b = b} {s = s} e r) =
    record { first = b; later = s; starts = e; fine = (label-fine r).0; ends = (label-fine r).1 b; spells = refl }

label-last : (b : ℕ) (t : Bool) → cond t true (label_byte b) ≡ true → t ≡ false → label_byte b ≡ true
label-last b true h e = never (sym e)
label-last b false h e = h

label-more : (b : ℕ) (s : List ℕ) (t : Bool) → eqb b 46 ≡ t → cond t true (label_byte b) ≡ true → g.LabelRest s
    → g.LabelRest (b ∷ s)
label-more b s true e h r = rw (eqb-true b 46 e) (g.LabelRest.dot r)
label-more b s false e h r = g.LabelRest.byte h r

label-rest : (s : List ℕ) (b : ℕ) → label_or_dot b ≡ true → All label_or_dot s → eqb (last_of b s) 46 ≡ false
    → g.LabelRest (b ∷ s)
unfolding label_or_dot
label-rest [] b h f e = g.LabelRest.last (label-last b (eqb b 46) h e)
label-rest (c ∷ s) b h f e = label-more b (c ∷ s) (eqb b 46) refl h (label-rest s c f.0 f.1 e)

blank-back : (b : ℕ) (s : List ℕ) → first_byte b ≡ true → All label_or_dot s → eqb (last_of b s) 46 ≡ false
    → g.Blank (95 ∷ (58 ∷ (b ∷ s)))
blank-back b [] h f e = g.Blank.single h
blank-back b (c ∷ s) h f e = g.Blank.longer h (label-rest s c f.0 f.1 e)

pub blank-is-spelled : BlankIsSpelled
blank-is-spelled l = (
  λ n. blank-spelled n,
  λ x. rw x.spells (blank-back x.first x.later x.starts x.fine x.ends),
)

-- ---- language tags

-- bytes of a class, then groups
record TagParts (f : ℕ → Bool) (s : List ℕ) : Type 0 where
  later : List ℕ
  more : List Group
  same : All f later
  fine : AllGroups more
  spells : s ≡ later ++ groups more

no-parts : (f : ℕ → Bool) → TagParts f []
no-parts f = record { later = []; more = []; same = tt; fine = tt; spells = refl }

byte-parts : {f : ℕ → Bool} {b : ℕ} {s : List ℕ} → f b ≡ true → TagParts f s → TagParts f (b ∷ s)
byte-parts {b = b} e p =
    record { later = b ∷ p.later; more = p.more; same = (e, p.same); fine = p.fine; spells = rw (← p.spells) }

parts-after : (f : ℕ → Bool) {b : ℕ} {s : List ℕ} → alnum b ≡ true → TagParts alnum s → TagParts f (45 ∷ (b ∷ s))
parts-after f {b} e p =
    record {
      later = [];
      more = record { first = b; later = p.later } ∷ p.more;
      same = tt;
      fine = ((e, p.same), p.fine);
      spells = rw (← p.spells);
    }

group-parts : {s : List ℕ} → g.GroupRest s → TagParts alnum s
group-parts g.GroupRest.end = no-parts alnum
group-parts (g.GroupRest.byte e r) = byte-parts e (group-parts r)
group-parts (g.GroupRest.group e r) = parts-after alnum e (group-parts r)

tag-parts : {s : List ℕ} → g.TagRest s → TagParts letter s
tag-parts g.TagRest.end = no-parts letter
tag-parts (g.TagRest.byte e r) = byte-parts e (tag-parts r)
tag-parts (g.TagRest.group e r) = parts-after letter e (group-parts r)

tag-spelled : (l : List ℕ) → g.Suffix (64 ∷ l) → SpelledTag l
tag-spelled [] x' = elim x' [ ]
tag-spelled (b ∷ s) (g.Suffix.tag e r) =
    let p = tag-parts r in
    record {
      first = b;
      later = p.later;
      more = p.more;
      letters = (e, p.same);
      fine = p.fine;
      spells = rw (← p.spells);
    }

alnums : (s t : List ℕ) → All alnum s → g.GroupRest t → g.GroupRest (s ++ t)
alnums [] t f r = r
alnums (b ∷ s) t f r = g.GroupRest.byte f.0 (alnums s t f.1 r)

letters : (s t : List ℕ) → All letter s → g.TagRest t → g.TagRest (s ++ t)
letters [] t f r = r
letters (b ∷ s) t f r = g.TagRest.byte f.0 (letters s t f.1 r)

group-rest : (gs : List Group) → AllGroups gs → g.GroupRest (groups gs)
group-rest [] f = g.GroupRest.end
group-rest (x ∷ gs) f =
    g.GroupRest.group f.0.0 (alnums x.later (groups gs) f.0.1 (group-rest gs f.1))

tag-rest : (gs : List Group) → AllGroups gs → g.TagRest (groups gs)
tag-rest [] f = g.TagRest.end
tag-rest (x ∷ gs) f = g.TagRest.group f.0.0 (alnums x.later (groups gs) f.0.1 (group-rest gs f.1))

pub tag-is-spelled : TagIsSpelled
tag-is-spelled l = (
  λ n. tag-spelled l n,
  λ x.
      let r = letters x.later (groups x.more) x.letters.1 (tag-rest x.more x.fine) in
      rw x.spells (g.Suffix.tag x.letters.0 r),
)
