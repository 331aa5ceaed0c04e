-- The grammar of specs/Grammar.antt and that of proofs/Rest.antt derive the same lines with the same parts, and so with
-- terms equally long. Assumes nothing.
use Prim.Native.Nat.{ℕ, suc, ◌+◌}
use mathlib.Core.Path.{◌≡◌, refl, ◌∙◌, ap}
use mathlib.Core.List.{List, [], ◌∷◌, ◌++◌}
use mathlib.Core.Bool.{true}
use mathlib.Core.Logic.{◌⊎◌, ⊎_elim, inl, inr, ◌↔◌}
use lib.ListN.{length, length-append}
use native.Mathlib.Omega.{arith}
use Rattle.term.specs.Bytes.{All}
use Rattle.term.specs.Grammar.{Name}
use Rattle.term.specs.Grammar as names
use Rattle.term.proofs.Names.{never}
use Rattle.ntriples.specs.declared.Span.{Span}
use Rattle.ntriples.specs.Grammar.{span, white, Trail, Subject, Predicate, Object, Triple, subject_span}
use Rattle.ntriples.specs.Grammar.{predicate_span, object_span, ShortTerms, Within, Viable}
use Rattle.ntriples.specs.Reader.{Outcome, Empty, Terms, kind_allowed}
use Rattle.ntriples.proofs.Rest.{Rest, Derives, ShortParts, ShortOutcome, Continued}
use Rattle.ntriples.proofs.Residual.{shift, plus-zero}
use Rattle.ntriples.proofs.Forth.{Fit}

-- a name of a kind that a place permits, and the place's own production
pub record Permitted (n : ℕ) (t : List ℕ) : Type 0 where
  pub kind : ℕ
  pub name : Name kind t
  pub fits : kind_allowed n kind ≡ true

pub subject-forth : {t : List ℕ} → Subject t → Permitted 2 t
unfolding kind_allowed
subject-forth (Subject.iri h) = record { kind = 1; name = names.Name.iri h; fits = refl }
subject-forth (Subject.blank h) = record { kind = 2; name = names.Name.blank h; fits = refl }

pub predicate-forth : {t : List ℕ} → Predicate t → Permitted 1 t
unfolding kind_allowed
predicate-forth (Predicate.iri h) = record { kind = 1; name = names.Name.iri h; fits = refl }

pub object-forth : {t : List ℕ} → Object t → Permitted 0 t
unfolding kind_allowed
object-forth (Object.iri h) = record { kind = 1; name = names.Name.iri h; fits = refl }
object-forth (Object.blank h) = record { kind = 2; name = names.Name.blank h; fits = refl }
object-forth (Object.literal h) = record { kind = 3; name = names.Name.literal h; fits = refl }

subject-back : {k : ℕ} {t : List ℕ} → Name k t → kind_allowed 2 k ≡ true → Subject t
unfolding kind_allowed
subject-back (names.Name.iri h) e = Subject.iri h
subject-back (names.Name.blank h) e = Subject.blank h
subject-back (names.Name.literal h) e = never e

predicate-back : {k : ℕ} {t : List ℕ} → Name k t → kind_allowed 1 k ≡ true → Predicate t
unfolding kind_allowed
predicate-back (names.Name.iri h) e = Predicate.iri h
predicate-back (names.Name.blank h) e = never e
predicate-back (names.Name.literal h) e = never e

object-back : {k : ℕ} {t : List ℕ} → Name k t → kind_allowed 0 k ≡ true → Object t
object-back (names.Name.iri h) e = Object.iri h
object-back (names.Name.blank h) e = Object.blank h
object-back (names.Name.literal h) e = Object.literal h

abbrev pub parts_of : {l : List ℕ} → ℕ → Triple l → List Span
parts_of i d = subject_span i d ∷ (predicate_span i d ∷ (object_span i d ∷ []))

-- spaces before the rest of a line
pad : (w : List ℕ) (n i : ℕ) (s : List ℕ) (ms : List Span) → All white w → Rest n (i + length w) s ms
    → Rest n i (w ++ s) ms
pad [] n i s ms h r = rw (plus-zero i) at r
pad (b ∷ w) n i s ms h r = Rest.space h.0 (pad w n (i + 1) s ms h.1 (rw (shift i (length w)) r))

along : {n i : ℕ} {l x : List ℕ} {ms : List Span} → l ≡ x → Rest n i x ms → Rest n i l ms
along e r = rw e r

put : {n i : ℕ} {s : List ℕ} {ms : List Span} (t : List ℕ) → Permitted n t → Rest n (i + length t) s ms
    → Rest (suc n) i (t ++ s) (span i (i + length t) ∷ ms)
put {s = s} t p r = Rest.term t s refl p.name p.fits r

pub rest_of : {l : List ℕ} (i : ℕ) (d : Triple l) → Rest 3 i l (parts_of i d)
rest_of i d =
    let r₃ = pad d.between₃ 0 (object_span i d).end (46 ∷ d.after) [] d.white₃ (Rest.dot d.trail) in
    let r₂ = pad d.between₂ 1 (predicate_span i d).end _ _ d.white₂
    (put d.object (object-forth d.is_object) r₃) in
    let r₁ = pad d.between₁ 2 (subject_span i d).end _ _ d.white₁
    (put d.predicate (predicate-forth d.is_predicate) r₂) in
    along d.spells (pad d.before 3 i _ _ d.white₀ (put d.subject (subject-forth d.is_subject) r₁))

-- the rest of a line up to the end of its next term
record NextTerm (n i : ℕ) (l : List ℕ) (ms : List Span) : Type 0 where
  gap : List ℕ
  name : List ℕ
  tail : List ℕ
  splits : l ≡ gap ++ (name ++ tail)
  blank : All white gap
  kind : ℕ
  named : Name kind name
  fits : kind_allowed n kind ≡ true
  later : List Span
  rest : Rest n (i + length gap + length name) tail later
  parts : ms ≡ span (i + length gap) (i + length gap + length name) ∷ later

next-term : {n i : ℕ} {l : List ℕ} {ms : List Span} → Rest (suc n) i l ms → NextTerm n i l ms
next-term {n} {i} {l} {ms} (Rest.space {b = b} e r) =
    let t = next-term r in
    record {
      gap = b ∷ t.gap;
      name = t.name;
      tail = t.tail;
      splits = ap (λ (z : List ℕ). b ∷ z) t.splits;
      blank = (e, t.blank);
      kind = t.kind;
      named = t.named;
      fits = t.fits;
      later = t.later;
      rest = rw (shift i (length t.gap)) at t.rest;
      parts = rw (shift i (length t.gap)) at t.parts;
    }
next-term {n} {i} {l} {ms} (Rest.term {k = k} {ms = ps} t s e h p r) =
    record {
      gap = [];
      name = t;
      tail = s;
      splits = e;
      blank = tt;
      kind = k;
      named = h;
      fits = p;
      later = ps;
      rest = rw (plus-zero i) r;
      parts = rw (plus-zero i);
    }

-- the rest of a line after its last term
record LastDot (l : List ℕ) (ms : List Span) : Type 0 where
  gap : List ℕ
  tail : List ℕ
  splits : l ≡ gap ++ (46 ∷ tail)
  blank : All white gap
  trail : Trail tail
  parts : ms ≡ []

last-dot : {i : ℕ} {l : List ℕ} {ms : List Span} → Rest 0 i l ms → LastDot l ms
last-dot (Rest.space {b = b} e r) =
    let t = last-dot r in
    record {
      gap = b ∷ t.gap;
      tail = t.tail;
      splits = ap (λ (z : List ℕ). b ∷ z) t.splits;
      blank = (e, t.blank);
      trail = t.trail;
      parts = t.parts;
    }
last-dot (Rest.dot {s =
    s} t) = record { gap = []; tail = s; splits = refl; blank = tt; trail = t; parts = refl }

join : (l s t : List ℕ) (w x : List ℕ) → l ≡ w ++ (x ++ s) → s ≡ t → l ≡ w ++ (x ++ t)
join l s t w x e f = e ∙ rw f

follow : (ms ns rs : List Span) (p : Span) → ms ≡ p ∷ ns → ns ≡ rs → ms ≡ p ∷ rs
follow ms ns rs p e f = e ∙ rw f

pub derivation : {i : ℕ} {l : List ℕ} {ms : List Span} → Rest 3 i l ms → (d : Triple l) × (ms ≡ parts_of i d)
derivation {i} {l} {ms} r =
    let s = next-term r in
    let p = next-term s.rest in
    let o = next-term p.rest in
    let e = last-dot o.rest in (
      record {
        before = s.gap;
        subject = s.name;
        between₁ = p.gap;
        predicate = p.name;
        between₂ = o.gap;
        object = o.name;
        between₃ = e.gap;
        after = e.tail;
        spells =
            join _ _ _ s.gap s.name s.splits
            (join _ _ _ p.gap p.name p.splits (join _ _ _ o.gap o.name o.splits e.splits));
        white₀ = s.blank;
        is_subject = subject-back s.named s.fits;
        white₁ = p.blank;
        is_predicate = predicate-back p.named p.fits;
        white₂ = o.blank;
        is_object = object-back o.named o.fits;
        white₃ = e.blank;
        trail = e.trail;
      },
      follow ms _ _ _ s.parts (follow s.later _ _ _ p.parts (follow p.later _ _ _ o.parts e.parts)),
    )

-- terms short at one position are short at every other
pub short-forth : {l : List ℕ} (m c i : ℕ) (d : Triple l) → ShortTerms m c d → ShortParts m (i + c) (parts_of i d)
short-forth m c i d h =
    let a = h.0 in let b = h.1 in let e = h.2 in
    (omega arith, (omega arith, (omega arith, tt)))

pub short_back : {l : List ℕ} (m c i : ℕ) (d : Triple l) → ShortParts m (i + c) (parts_of i d) → ShortTerms m c d
short_back m c i d h =
    let a = h.0 in let b = h.1.0 in let e = h.1.1.0 in
    (omega arith, omega arith, omega arith)

-- in a whole line, short parts are parts of at most m bytes
pub rest-fits : {n i : ℕ} {l : List ℕ} {ms : List Span} (m c : ℕ) → Rest n i l ms → c ≡ i + length l
    → ShortParts m c ms → Fit m ms
rest-fits m c (Rest.space e r) z h = rest-fits m c r (omega arith) h
rest-fits m c (Rest.term t s e k p r) z h =
    let w = ap length e ∙ length-append t s in
    let u = h.0 in
    (omega arith, rest-fits m c r (omega arith) h.1)
rest-fits m c (Rest.dot t) z h = tt

pub within-back : {l : List ℕ} (m i : ℕ) (d : Triple l) → ShortParts m (i + length l) (parts_of i d) → Within m d
within-back {l} m i d h =
    let f = rest-fits m (i + length l) (rest_of i d) refl h in
    let a = f.0 in let b = f.1.0 in let c = f.1.1.0 in
    (omega arith, omega arith, omega arith)

pub within-forth : {l : List ℕ} (m i c : ℕ) (d : Triple l) → Within m d → ShortParts m c (parts_of i d)
within-forth m i c d h =
    let a = h.0 in let b = h.1 in let e = h.2 in
    (omega arith, (omega arith, (omega arith, tt)))

-- viability is the same at every position
viable-forth : (m i : ℕ) (p rest : List ℕ)
    → Trail (p ++ rest) ⊎ ((d : Triple (p ++ rest)) × ShortTerms m (length p) d) → Continued m i p
viable-forth m i p rest v =
    ⊎_elim (λ t. record { rest = rest; gives = Empty; line = Derives.nothing t; short = tt })
    (λ w. record {
      rest = rest;
      gives = Terms (parts_of i w.0);
      line = Derives.triple (rest_of i w.0);
      short = short-forth m (length p) i w.0 w.1;
    }) v

viable-back : (m i : ℕ) (p rest : List ℕ) (r : Outcome) → Derives i (p ++ rest) r → ShortOutcome m (i + length p) r
    → Viable m p
viable-back m i p rest r (Derives.nothing t) h = record { rest = rest; line = inl t }
viable-back m i p rest r (Derives.triple t) h =
    let d = derivation t in record { rest = rest; line = inr (d.0, short_back m (length p) i d.0 (rw d.1 at h)) }

pub viable-is : (m i : ℕ) (p : List ℕ) → Viable m p ↔ Continued m i p
viable-is m i p =
    (λ v. viable-forth m i p v.rest v.line, λ c. viable-back m i p c.rest c.gives c.line c.short)
