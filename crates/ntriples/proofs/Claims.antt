-- The claims of specs/Claims.antt, and laws of the object's part without the string ending. Assumes nothing.
use Prim.Native.Nat.{ℕ, ◌+◌, ◌-◌, ◌≤◌, ◌<◌}
use mathlib.Core.Path.{◌≡◌, refl, sym, ◌∙◌, ap, subst}
use mathlib.Core.List.{List, [], ◌∷◌, ◌++◌, append_assoc}
use mathlib.Core.Logic.{◌⊎◌, ⊎_elim, inl, inr, ◌↔◌}
use lib.ListN.{length, take, drop, length-append, length-take, length-drop, take-append-drop}
use lib.Seq.{drop-drop, drop-append_seam, take-append_seam}
use native.Mathlib.Omega.{arith}
use borrow.Author.Tests.{le-leb, lt-leb}
use Rattle.term.specs.Scanner.{kind_of}
use Rattle.term.specs.Grammar as g
use Rattle.term.specs.Canonical.{canonical}
use Rattle.term.specs.Theorems.{Canonical}
use Rattle.term.proofs.Names.{never, kinds}
use Rattle.term.proofs.Turn.{below_or}
use Rattle.term.proofs.Shortened.{canonical-front, canonical-short, canonical-name}
use Rattle.ntriples.specs.declared.Span.{Span}
use Rattle.ntriples.specs.declared.Line.{Line}
use Rattle.ntriples.specs.declared.LineRead.{LineRead}
use Rattle.ntriples.specs.declared.Line.TheVariants as answer
use Rattle.ntriples.specs.Grammar.{span, Trail, Subject, Predicate, Object, Triple, subject_span, predicate_span}
use Rattle.ntriples.specs.Grammar.{object_span, ShortTerms, Within, Viable, Longest}
use Rattle.ntriples.specs.Reader.{Outcome, Empty, Terms, Fails, line_of, answer_of, read_spelled, short_part}
use Rattle.ntriples.specs.Reader.{short_line, read_of}
use Rattle.ntriples.specs.Grammar.{FirstLine, bytes_of, Values, values, no_part, values_of}
use Rattle.ntriples.specs.TermOf.{term_of}
use Rattle.ntriples.specs.Standard as standard
use Rattle.ntriples.specs.Claims.{object_part, Derived, Underivable, Enterable, Meant, LineAnswered, ReadsALine}
use Rattle.ntriples.specs.Claims.{OneFirstLine, OneDerivation}
use Rattle.ntriples.proofs.Rest.{Derives, ShortParts}
use Rattle.ntriples.proofs.Reading.{continued, answered, reads, unique, Stopped, stopped}
use Rattle.ntriples.proofs.Derivation.{parts_of, rest_of, derivation, within-back, within-forth, viable-is}
use Rattle.ntriples.proofs.Lines.{line-found, line-exists, line_first}
use Rattle.ntriples.proofs.Terms.{canonical-term}
use Rattle.ntriples.proofs.Standard.{subject-name, predicate-name, object-name, subset-of-standard}
use Rattle.ntriples.proofs.Unambiguous.{one-standard-derivation}
use Rattle.term.proofs.Lists.{cons_same}
use Rattle.ntriples.proofs.StandardTerms.{subject-term, predicate-term, term-of-standard}

-- a line with a derivation is read so
triple-reads : {l : List ℕ} (m i : ℕ) → 1 ≤ m → (d : Triple l) → Within m d → line_of m i l ≡ Terms (parts_of i d)
unfolding answered
triple-reads {l} m i h d w =
    (reads m i l (Terms (parts_of i d)) h refl).1 (Derives.triple (rest_of i d), within-forth m i (i + length l) d w)

trail-reads : {l : List ℕ} (m i : ℕ) → 1 ≤ m → Trail l → line_of m i l ≡ Empty
unfolding answered
trail-reads {l} m i h t = (reads m i l Empty h refl).1 (Derives.nothing t, tt)

-- the three ways in which a line is read
data Read (m i : ℕ) (l : List ℕ) : Outcome → Type 0 where
  nothing : Trail l → Read m i l Empty
  triple : (d : Triple l) → Within m d → Read m i l (Terms (parts_of i d))
  refused : (k : ℕ) → Underivable m l → Longest m l k → Read m i l (Fails (i + k))

read-terms : (m i : ℕ) (l : List ℕ) (ms : List Span) → Derives i l (Terms ms) → ShortParts m (i + length l) ms
    → Read m i l (Terms ms)
read-terms m i l ms (Derives.triple r) h =
    let d = derivation r in rw d.1 (Read.triple d.0 (within-back m i d.0 (rw d.1 at h)))

longest-stop : (m i : ℕ) (l : List ℕ) (k : ℕ) → 1 ≤ m → (s : Stopped m i l k) → Longest m l (length s.front)
longest-stop m i l k h s =
    record {
      front = s.front;
      back = s.back;
      splits = s.splits;
      long = refl;
      viable = (viable-is m i s.front).1 ((continued m i s.front h).1 s.whole);
      longest = λ b t e v.
          never (sym ((continued m i (s.front ++ (b ∷ [])) h).0 ((viable-is m i (s.front ++ (b ∷ []))).0 v))
          ∙ s.breaks b t e);
    }

empty-fails : {C : Type 0} (k : ℕ) → Empty ≡ Fails k → C
empty-fails k e = let z : ◌≡◌ {A = ℕ} 0 1 = cc in absurd (omega arith)

terms-fails : {C : Type 0} (ms : List Span) (k : ℕ) → Terms ms ≡ Fails k → C
terms-fails ms k e = let z : ◌≡◌ {A = ℕ} 0 1 = cc in absurd (omega arith)

read-fails : (m i : ℕ) (l : List ℕ) (k : ℕ) → 1 ≤ m → line_of m i l ≡ Fails k → Read m i l (Fails k)
read-fails m i l k h e =
    let s = stopped m i l k e in
    rw (← s.at)
    (Read.refused (length s.front)
    record {
      not_nothing = λ t. empty-fails k (sym (trail-reads m i h t) ∙ e);
      no_triple = λ d w. terms-fails (parts_of i d) k (sym (triple-reads m i h d w) ∙ e);
    }
    (longest-stop m i l k h s))

read-trail : (m i : ℕ) (l : List ℕ) → Derives i l Empty → Read m i l Empty
read-trail m i l (Derives.nothing t) = Read.nothing t

read_by : (m i : ℕ) (l : List ℕ) → 1 ≤ m → (r : Outcome) → line_of m i l ≡ r → Read m i l r
unfolding answered
read_by m i l h Empty e = read-trail m i l ((reads m i l Empty h refl).0 e).0
read_by m i l h (Terms ms) e = let w = (reads m i l (Terms ms) h refl).0 e in read-terms m i l ms w.0 w.1
read_by m i l h (Fails k) e = read-fails m i l k h e

read-line : (m i : ℕ) (l : List ℕ) → 1 ≤ m → Read m i l (line_of m i l)
read-line m i l h = read_by m i l h (line_of m i l) refl

-- A prefix of a viable prefix is viable, so the longest one has one length.
fewer : {l : List ℕ} (m c c' : ℕ) (d : Triple l) → c' ≤ c → ShortTerms m c d → ShortTerms m c' d
fewer m c c' d h w = let x = w.0 in let y = w.1 in let z = w.2 in (omega arith, omega arith, omega arith)

fewer-line : {l : List ℕ} (m c c' : ℕ) → c' ≤ c → Trail l ⊎ ((d : Triple l) × ShortTerms m c d)
    → Trail l ⊎ ((d : Triple l) × ShortTerms m c' d)
fewer-line m c c' h (inl t) = inl t
fewer-line m c c' h (inr w) = inr (w.0, fewer m c c' w.0 h w.1)

shorter : {l l' : List ℕ} (m c c' : ℕ) → l ≡ l' → c' ≤ c → Trail l ⊎ ((d : Triple l) × ShortTerms m c d)
    → Trail l' ⊎ ((d : Triple l') × ShortTerms m c' d)
shorter m c c' e h v = subst (λ (z : List ℕ). Trail z ⊎ ((d : Triple z) × ShortTerms m c' d)) e (fewer-line m c c' h v)

viable-prefix : (m : ℕ) (p q : List ℕ) → Viable m (p ++ q) → Viable m p
viable-prefix m p q v =
    record {
      rest = q ++ v.rest;
      line = shorter m (length (p ++ q)) (length p) (append_assoc p q v.rest)
          (let e = length-append p q in omega arith) v.line;
    }

-- of two fronts of one list, the shorter and one byte more begin the longer
record Further (f b f' : List ℕ) : Type 0 where
  byte : ℕ
  later : List ℕ
  more : List ℕ
  back : b ≡ byte ∷ later
  front : f' ≡ (f ++ (byte ∷ [])) ++ more

further : (f b f' b' : List ℕ) → f ++ b ≡ f' ++ b' → length f < length f' → Further f b f'
further [] b [] b' e h = absurd (omega arith)
further [] b (x ∷ f') b' e h = record { byte = x; later = f' ++ b'; more = f'; back = e; front = refl }
further (x ∷ f) b [] b' e h = absurd (omega arith)
further (x ∷ f) b (y ∷ f') b' e h =
    let e' : f ++ b ≡ f' ++ b' = cc in
    let xy : x ≡ y = cc in
    let w = further f b f' b' e' (omega arith) in
    record {
      byte = w.byte;
      later = w.later;
      more = w.more;
      back = w.back;
      front = cons_same (sym xy) w.front;
    }

not-longer : (m : ℕ) (l : List ℕ) (k k' : ℕ) → Longest m l k → Longest m l k' → k < k' → ⊥
not-longer m l k k' x y h =
    let a = x.long in
    let b = y.long in
    let w = further x.front x.back y.front y.back (sym x.splits ∙ y.splits) (omega arith) in
    x.longest w.byte w.later w.back (viable-prefix m (x.front ++ (w.byte ∷ [])) w.more (rw
    w.front at y.viable))

apart : (a b : ℕ) → (a < b → ⊥) → (b < a → ⊥) → a ≡ b
apart a b f h = omega arith

longest-one : (m : ℕ) (l : List ℕ) (k k' : ℕ) → Longest m l k → Longest m l k' → k ≡ k'
longest-one m l k k' x y = apart k k' (λ h. not-longer m l k k' x y h) (λ h. not-longer m l k' k y x h)

back-off : (i k : ℕ) → i + k - i ≡ k
back-off i k = omega arith

-- The bytes of the parts.
cut : (i : ℕ) (text w t s : List ℕ) → drop i text ≡ w ++ (t ++ s)
    → (bytes_of text (span (i + length w) (i + length w + length t)) ≡ t) × (drop (i + length w + length t) text ≡ s)
cut i text w t s e =
    let x : drop (i + length w) text ≡ t ++ s = sym (drop-drop (length w) i text)
    ∙ rw e (drop-append_seam w (t ++ s)) in
    let y = back-off (i + length w) (length t) in
    (rw (y, x) (take-append_seam t s), sym (drop-drop (length t) (i + length w) text) ∙ rw x (drop-append_seam t s))

pub record Spelled {l : List ℕ} (text : List ℕ) (i : ℕ) (d : Triple l) : Type 0 where
  pub subject : bytes_of text (subject_span i d) ≡ d.subject
  pub predicate : bytes_of text (predicate_span i d) ≡ d.predicate
  pub object : bytes_of text (object_span i d) ≡ d.object

pub spelled : {l : List ℕ} (text : List ℕ) (i : ℕ) (d : Triple l) (r : List ℕ) → drop i text ≡ l ++ r → Spelled text i d
spelled text i d r e =
    let f = simp append_assoc at (e ∙ ap (λ (z : List ℕ). z ++ r) d.spells) in
    let s = cut i text d.before d.subject _ f in
    let p = cut _ text d.between₁ d.predicate _ s.1 in
    let o = cut _ text d.between₂ d.object _ p.1 in
    record { subject = s.0; predicate = p.0; object = o.0 }

front-is : (x y l : List ℕ) → l ≡ x ++ y → take (length x) l ≡ x
front-is x y l e = rw e (take-append_seam x y)

-- the bytes of a part without the ending are its bytes without the ending
short-bytes : (text : List ℕ) (o : Span) → bytes_of text (short_part text o) ≡ canonical (bytes_of text o)
short-bytes text o =
    let t = bytes_of text o in
    let n = back-off o.start (length (canonical t)) in
    let f = canonical-front t in
    let l = drop o.start text in
    let w : l ≡ canonical t ++ (f.0 ++ drop (o.end - o.start) l) =
    sym (take-append-drop (o.end - o.start) l)
    ∙ (ap (λ (z : List ℕ). z ++ drop (o.end - o.start) l) f.1 ∙ append_assoc (canonical t) f.0 _) in
    rw n (front-is (canonical t) _ l w)

short-object : {l : List ℕ} (text : List ℕ) (i : ℕ) (d : Triple l) (r : List ℕ) → drop i text ≡ l ++ r
    → short_part text (object_span i d) ≡ object_part i d
short-object text i d r e =
    ap (λ (z : List ℕ). span (object_span i d).start ((object_span i d).start + length (canonical z)))
    (spelled text i d r e).object

-- the bytes of the answered part
pub object-bytes : {l : List ℕ} (text : List ℕ) (i : ℕ) (d : Triple l) (r : List ℕ) → drop i text ≡ l ++ r
    → bytes_of text (object_part i d) ≡ canonical d.object
object-bytes text i d r e =
    ap (bytes_of text) (sym (short-object text i d r e))
    ∙ (short-bytes text (object_span i d) ∙ ap canonical (spelled text i d r e).object)

-- The answer for each way. An answer of one kind is none of another.
nothing-triple : {C : Type 0} (s p o : Span) → answer.Nothing ≡ answer.Triple s p o → C
nothing-triple s p o e = let z : ◌≡◌ {A = ℕ} 0 1 = cc in absurd (omega arith)

refused-triple : {C : Type 0} (k : ℕ) (s p o : Span) → answer.Refused k ≡ answer.Triple s p o → C
refused-triple k s p o e = let z : ◌≡◌ {A = ℕ} 0 1 = cc in absurd (omega arith)

end-triple : {C : Type 0} (s p o : Span) → answer.End ≡ answer.Triple s p o → C
end-triple s p o e = let z : ◌≡◌ {A = ℕ} 0 1 = cc in absurd (omega arith)

end-nothing : {C : Type 0} → answer.End ≡ answer.Nothing → C
end-nothing e = let z : ◌≡◌ {A = ℕ} 0 1 = cc in absurd (omega arith)

end_refused : {C : Type 0} (k : ℕ) → answer.End ≡ answer.Refused k → C
end_refused k e = let z : ◌≡◌ {A = ℕ} 0 1 = cc in absurd (omega arith)

triple-nothing : {C : Type 0} (s p o : Span) → answer.Triple s p o ≡ answer.Nothing → C
triple-nothing s p o e = nothing-triple s p o (sym e)

refused-nothing : {C : Type 0} (k : ℕ) → answer.Refused k ≡ answer.Nothing → C
refused-nothing k e = let z : ◌≡◌ {A = ℕ} 0 1 = cc in absurd (omega arith)

nothing-refused : {C : Type 0} (k : ℕ) → answer.Nothing ≡ answer.Refused k → C
nothing-refused k e = refused-nothing k (sym e)

triple-refused : {C : Type 0} (k : ℕ) (s p o : Span) → answer.Triple s p o ≡ answer.Refused k → C
triple-refused k s p o e = refused-triple k s p o (sym e)

derived-by : (m i : ℕ) (text l t : List ℕ) (s p o : Span) (r : Outcome) → drop i text ≡ l ++ t → Read m i l r
    → short_line text (answer_of i r) ≡ answer.Triple s p o → Derived m i l s p o
unfolding answer_of short_line
derived-by m i text l t s p o r z (Read.nothing x) e = nothing-triple s p o e
derived-by m i text l t s p o r z (Read.triple d w) e =
    let q = short-object text i d t z in
    record { derivation = d; within = w; subject_at = cc; predicate_at = cc; object_at = cc }
derived-by m i text l t s p o r z (Read.refused k u x) e = refused-triple (i + k - i) s p o e

triple-answer : (i : ℕ) (text : List ℕ) (s p o : Span)
    → short_line text (answer_of i (Terms (s ∷ (p ∷ (o ∷ []))))) ≡ answer.Triple s p (short_part text o)
unfolding answer_of short_line
triple-answer i text s p o = refl

triple-parts : (s p o s' p' o' : Span) → s ≡ s' → p ≡ p' → o ≡ o' → answer.Triple s p o ≡ answer.Triple s' p' o'
triple-parts s p o s' p' o' a b c = cc

derived-reads : (m i : ℕ) (text l t : List ℕ) (s p o : Span) → 1 ≤ m → drop i text ≡ l ++ t → Derived m i l s p o
    → short_line text (answer_of i (line_of m i l)) ≡ answer.Triple s p o
derived-reads m i text l t s p o h z d =
    ap (λ (r : Outcome). short_line text (answer_of i r)) (triple-reads m i h d.derivation d.within)
    ∙ (triple-answer i text _ _ _
    ∙ triple-parts _ _ _ s p o d.subject_at d.predicate_at (short-object text i d.derivation t z ∙ d.object_at))

nothing-by : (m i : ℕ) (text l : List ℕ) (r : Outcome) → Read m i l r
    → short_line text (answer_of i r) ≡ answer.Nothing → Trail l
unfolding answer_of short_line
nothing-by m i text l r (Read.nothing t) e = t
nothing-by m i text l r (Read.triple d w) e = triple-nothing _ _ _ e
nothing-by m i text l r (Read.refused k u x) e = refused-nothing (i + k - i) e

nothing-reads : (m i : ℕ) (text l : List ℕ) → 1 ≤ m → Trail l
    → short_line text (answer_of i (line_of m i l)) ≡ answer.Nothing
unfolding answer_of short_line
nothing-reads m i text l h t = rw (trail-reads m i h t)

refused-by : (m i : ℕ) (text l : List ℕ) (k : ℕ) (r : Outcome) → Read m i l r
    → short_line text (answer_of i r) ≡ answer.Refused k
    → Underivable m l × Longest m l k
unfolding answer_of short_line
refused-by m i text l k r (Read.nothing t) e = nothing-refused k e
refused-by m i text l k r (Read.triple d w) e = triple-refused k _ _ _ e
refused-by m i text l k r (Read.refused j u x) e =
    let q : i + j - i ≡ k = cc in
    (u, rw (sym (back-off i j) ∙ q) at x)

refused-reads : (m i : ℕ) (text l : List ℕ) (k : ℕ) (r : Outcome) → Read m i l r → Underivable m l × Longest m l k
    → short_line text (answer_of i r) ≡ answer.Refused k
unfolding answer_of short_line
refused-reads m i text l k r (Read.nothing t) u = absurd (u.0.not_nothing t)
refused-reads m i text l k r (Read.triple d w) u = absurd (u.0.no_triple d w)
refused-reads m i text l k r (Read.refused j v x) u = ap answer.Refused (back-off i j ∙ longest-one m l j k x u.1)

ten-by : (m i : ℕ) (text l : List ℕ) (r : Outcome) → Read m i l r
    → (values_of (short_line text (answer_of i r))).refusal ≡ 10 → Underivable m l
unfolding answer_of short_line values_of
ten-by m i text l r (Read.nothing t) e = absurd (omega arith)
ten-by m i text l r (Read.triple d w) e = absurd (omega arith)
ten-by m i text l r (Read.refused k u x) e = u

ten-reads : (m i : ℕ) (text l : List ℕ) (r : Outcome) → Read m i l r → Underivable m l
    → (values_of (short_line text (answer_of i r))).refusal ≡ 10
unfolding answer_of short_line values_of
ten-reads m i text l r (Read.nothing t) u = absurd (u.not_nothing t)
ten-reads m i text l r (Read.triple d w) u = absurd (u.no_triple d w)
ten-reads m i text l r (Read.refused k v x) u = refl

no_end : (m i : ℕ) (text l : List ℕ) (r : Outcome) → Read m i l r → short_line text (answer_of i r) ≡ answer.End → ⊥
unfolding answer_of short_line
no_end m i text l r (Read.nothing t) e = end-nothing (sym e)
no_end m i text l r (Read.triple d w) e = end-triple _ _ _ (sym e)
no_end m i text l r (Read.refused k u x) e = end_refused _ (sym e)

pub subject-kind : {t : List ℕ} (m : ℕ) → Subject t → length t ≤ m → (kind_of m t ≡ 1) ⊎ (kind_of m t ≡ 2)
subject-kind {t} m (Subject.iri h) k = inl ((kinds m 1 t (omega arith)).1 (k, g.Name.iri h))
subject-kind {t} m (Subject.blank h) k = inr ((kinds m 2 t (omega arith)).1 (k, g.Name.blank h))

pub predicate-kind : {t : List ℕ} (m : ℕ) → Predicate t → length t ≤ m → kind_of m t ≡ 1
predicate-kind {t} m (Predicate.iri h) k = (kinds m 1 t (omega arith)).1 (k, g.Name.iri h)

object-kind : {t : List ℕ} (m : ℕ) → Object t → length t ≤ m → (kind_of m t ≡ 1) ⊎ ((kind_of m t ≡ 2) ⊎ (kind_of m t ≡ 3))
object-kind {t} m (Object.iri h) k = inl ((kinds m 1 t (omega arith)).1 (k, g.Name.iri h))
object-kind {t} m (Object.blank h) k = inr (inl ((kinds m 2 t (omega arith)).1 (k, g.Name.blank h)))
object-kind {t} m (Object.literal h) k = inr (inr ((kinds m 3 t (omega arith)).1 (k, g.Name.literal h)))

-- without the string ending the object is a name of the same kind
short-object-is : {t : List ℕ} (m : ℕ) → Object t → length t ≤ m → Canonical m t
short-object-is {t} m h k = canonical-name m t (some (object-kind m h k))
  where
    some : (kind_of m t ≡ 1) ⊎ ((kind_of m t ≡ 2) ⊎ (kind_of m t ≡ 3)) → kind_of m t ≡ 0 → ⊥
    some (inl e) z = omega arith
    some (inr (inl e)) z = omega arith
    some (inr (inr e)) z = omega arith

enterable : (m : ℕ) (text : List ℕ) (i : ℕ) (l r : List ℕ) (s p o : Span) → drop i text ≡ l ++ r
    → Derived m i l s p o → Enterable m text s p o
enterable m text i l r s p o e h =
    let d = h.derivation in
    let b = spelled text i d r e in
    let short = short-object-is m d.is_object h.within.2 in
    record {
      subject_kind = rw (← h.subject_at, b.subject) (subject-kind m d.is_subject h.within.0);
      predicate_kind = rw (← h.predicate_at, b.predicate) (predicate-kind m d.is_predicate h.within.1);
      object_kind = rw (← h.object_at, object-bytes text i d r e, short.kind)
          (object-kind m d.is_object h.within.2);
      object_short = rw (← h.object_at, object-bytes text i d r e) short.once;
    }

-- Every derivation of the standard has the terms of the paper's derivation, and so the parts' terms are the standard's.
same-terms : {l : List ℕ} (d : Triple l) (e : standard.Triple l)
    → (d.subject ≡ e.subject) × (d.predicate ≡ e.predicate) × (d.object ≡ e.object)
same-terms {l} d e =
    let w = (subset-of-standard l).0 d in
    let h = w.2 ∙ one-standard-derivation l w.0 e in
    (cc, cc, cc)

meant : (m : ℕ) (text : List ℕ) (i : ℕ) (l r : List ℕ) (s p o : Span) → drop i text ≡ l ++ r → Derived m i l s p o
    → Meant l text s p o
meant m text i l r s p o e h =
    let d = h.derivation in
    let b = spelled text i d r e in
    let x = subject-name d.is_subject in
    let y = predicate-name d.is_predicate in
    let z = object-name d.is_object in
    record {
      derivation = ((subset-of-standard l).0 d).0;
      subject_means = λ f.
          let q = (same-terms d f).0 in
          ap (λ (w : Span). term_of (bytes_of text w)) (sym h.subject_at) ∙ (ap term_of (b.subject ∙ q)
          ∙ subject-term (subst (g.Name x.0) q x.1) f.is_subject);
      predicate_means = λ f.
          let q = (same-terms d f).1 in
          ap (λ (w : Span). term_of (bytes_of text w)) (sym h.predicate_at) ∙ (ap term_of (b.predicate ∙ q)
          ∙ predicate-term (subst (g.Name y.0) q y.1) f.is_predicate);
      object_means = λ f.
          let q = (same-terms d f).2 in
          ap (λ (w : Span). term_of (bytes_of text w)) (sym h.object_at) ∙ (ap term_of (object-bytes text i d r e)
          ∙ (canonical-term z.1 ∙ (ap term_of q
          ∙ term-of-standard z.0 _ (subst (g.Name z.0) q z.1) f.is_object)));
    }

-- An answer by its values: two that differ in the status or the refusal are two.
statuses : {C : Type 0} {u v : Values} → (u.status ≡ v.status → ⊥) → u ≡ v → C
statuses n e = absurd (n (ap (λ (z : Values). z.status) e))

refusals : {C : Type 0} {u v : Values} → (u.refusal ≡ v.refusal → ⊥) → u ≡ v → C
refusals n e = absurd (n (ap (λ (z : Values). z.refusal) e))

triple-values : (a b c s p o : Span) → values 0 2 0 a b c ≡ values 0 2 0 s p o
    → answer.Triple a b c ≡ answer.Triple s p o
triple-values a b c s p o e =
    triple-parts a b c s p o (ap (λ (v : Values). v.subject) e) (ap (λ (v : Values). v.predicate) e)
    (ap (λ (v : Values). v.object) e)

values-triple : (a b c s p o : Span) → answer.Triple a b c ≡ answer.Triple s p o
    → values 0 2 0 a b c ≡ values 0 2 0 s p o
values-triple a b c s p o e = let x : a ≡ s = cc in let y : b ≡ p = cc in let z : c ≡ o = cc in rw (x, y, z)

pub is-triple : (r : Line) (s p o : Span) → (values_of r ≡ values 0 2 0 s p o) ↔ (r ≡ answer.Triple s p o)
unfolding values_of
is-triple answer.End s p o = (λ e. statuses (λ z. omega arith) e, λ e. end-triple s p o e)
is-triple answer.Nothing s p o = (λ e. statuses (λ z. omega arith) e, λ e. nothing-triple s p o e)
is-triple (answer.Triple a b c) s p o = (λ e. triple-values a b c s p o e, λ e. values-triple a b c s p o e)
is-triple (answer.Refused k) s p o = (λ e. refusals (λ z. omega arith) e, λ e. refused-triple k s p o e)

is-nothing : (r : Line) → (values_of r ≡ values 0 1 0 no_part no_part no_part) ↔ (r ≡ answer.Nothing)
unfolding values_of
is-nothing answer.End = (λ e. statuses (λ z. omega arith) e, λ e. end-nothing e)
is-nothing answer.Nothing = (λ e. refl, λ e. refl)
is-nothing (answer.Triple a b c) = (λ e. statuses (λ z. omega arith) e, λ e. triple-nothing a b c e)
is-nothing (answer.Refused k) = (λ e. refusals (λ z. omega arith) e, λ e. refused-nothing k e)

is-refused : (r : Line) (j : ℕ) → (values_of r ≡ values 10 0 j no_part no_part no_part) ↔ (r ≡ answer.Refused j)
unfolding values_of
is-refused answer.End j = (λ e. refusals (λ z. omega arith) e, λ e. end_refused j e)
is-refused answer.Nothing j = (λ e. refusals (λ z. omega arith) e, λ e. nothing-refused j e)
is-refused (answer.Triple a b c) j = (λ e. refusals (λ z. omega arith) e, λ e. triple-refused j a b c e)
is-refused (answer.Refused k) j = (
  λ e. ap answer.Refused (ap (λ (v : Values). v.offset) e),
  λ e. let z : k ≡ j = cc in rw z,
)

is-end : (r : Line) → (values_of r ≡ values 0 0 0 no_part no_part no_part) ↔ (r ≡ answer.End)
unfolding values_of
is-end answer.End = (λ e. refl, λ e. refl)
is-end answer.Nothing = (λ e. statuses (λ z. omega arith) e, λ e. end-nothing (sym e))
is-end (answer.Triple a b c) = (λ e. statuses (λ z. omega arith) e, λ e. end-triple a b c (sym e))
is-end (answer.Refused k) = (λ e. refusals (λ z. omega arith) e, λ e. end_refused k (sym e))

pub read_at : (m : ℕ) (text : List ℕ) (i : ℕ) (l : List ℕ) (n : ℕ) → i < length text → FirstLine (drop i text) l n
    → read_spelled m text i ≡ record { line = answer_of i (line_of m i l); next = i + n }
unfolding read_spelled
read_at m text i l n h f = let w = line-found (drop i text) l n f in rw (lt-leb (length text) i h, w.0, w.1)

read_short : (m : ℕ) (text : List ℕ) (i : ℕ) (l : List ℕ) (n : ℕ) → i < length text → FirstLine (drop i text) l n
    → read_of m text i ≡ record { line = short_line text (answer_of i (line_of m i l)); next = i + n }
unfolding read_of
read_short m text i l n h f = let e = read_at m text i l n h f in rw e

line-answered : (m : ℕ) (text : List ℕ) (i : ℕ) (l : List ℕ) (n : ℕ) → 1 ≤ m → i < length text
    → FirstLine (drop i text) l n
    → LineAnswered m text i l n
line-answered m text i l n h k f =
    let e = read_short m text i l n k f in
    let v = read-line m i l h in
    let r = line_first (drop i text) l n f in
    let derived : (s p o : Span) → (read_of m text i).line ≡ answer.Triple s p o → Derived m i l s p o =
    λ s p o q. derived-by m i text l r.0 s p o (line_of m i l) r.1 v (rw e at q)
    in
    let a = (read_of m text i).line in
    record {
      moves = rw e;
      triple = λ s p o. (
        λ q. derived s p o ((is-triple a s p o).0 q),
        λ d. (is-triple a s p o).1 (rw e (derived-reads m i text l r.0 s p o h r.1 d)),
      );
      nothing = (
        λ q. nothing-by m i text l (line_of m i l) v (rw e at ((is-nothing a).0 q)),
        λ t. (is-nothing a).1 (rw e (nothing-reads m i text l h t)),
      );
      ten = (λ q. ten-by m i text l (line_of m i l) v (rw e at q), λ u. rw e (ten-reads m i text l (line_of m i l) v u));
      refused = λ j. (
        λ q. refused-by m i text l j (line_of m i l) v (rw e at ((is-refused a j).0 q)),
        λ u. (is-refused a j).1 (rw e (refused-reads m i text l j (line_of m i l) v u)),
      );
      not_end = λ q. no_end m i text l (line_of m i l) v (rw e at ((is-end a).0 q));
      enterable = λ s p o q. enterable m text i l r.0 s p o r.1 (derived s p o ((is-triple a s p o).0 q));
      meant = λ s p o q. meant m text i l r.0 s p o r.1 (derived s p o ((is-triple a s p o).0 q));
    }

-- the object's part of a line as spelled lies in the text
inside-by : (m i : ℕ) (text l t : List ℕ) (s p o : Span) (r : Outcome) → i ≤ length text
    → drop i text ≡ l ++ t → Read m i l r
    → answer_of i r ≡ answer.Triple s p o → (o.start ≤ o.end) × (o.end ≤ length text)
unfolding answer_of
inside-by m i text l t s p o r h z (Read.nothing x) e = nothing-triple s p o e
inside-by m i text l t s p o r h z (Read.triple d w) e =
    let q : object_span i d ≡ o = cc in
    let a = ap (λ (x : Span). x.start) q in
    let b = ap (λ (x : Span). x.end) q in
    let k = simp length-append at (sym (length-drop i text) ∙ ap length z) in
    let n = simp length-append at (ap length d.spells) in
    (omega arith, omega arith)
inside-by m i text l t s p o r h z (Read.refused k u x) e = refused-triple (i + k - i) s p o e

pub object-inside : (m : ℕ) (text : List ℕ) (i : ℕ) {r : LineRead} {s p o : Span} → 1 ≤ m → r ≡ read_spelled m text i
    → r.line ≡ answer.Triple s p o → (o.start ≤ o.end) × (o.end ≤ length text)
object-inside m text i {r} {s} {p} {o} h q f =
    let e = ap (λ (x : LineRead). x.line) (sym q) ∙ f in
    ⊎_elim
    (λ (k : i < length text).
    let w = line-exists (drop i text) in
    let r = line_first (drop i text) w.0 w.1 w.2 in
    inside-by m i text w.0 r.0 s p o (line_of m i w.0) (omega arith) r.1 (read-line m i w.0 h)
    (ap (λ (x : LineRead). x.line) (sym (read_at m text i w.0 w.1 k w.2)) ∙ e))
    (λ (k : length text ≤ i). end-triple s p o (sym (past_end k) ∙ e))
    (below_or i (length text))
  where
    past_end : length text ≤ i → (read_spelled m text i).line ≡ answer.End
    past_end k = unfold read_spelled in rw (le-leb (length text) i k)

-- For the code: a line without an object is answered as spelled, and the object's part ends where what is left of it
-- does.
pub part-spelled : (text : List ℕ) (o : Span) → o.start ≤ o.end → o.start + length (bytes_of text o) ≤ o.end
part-spelled text o h = let b = length-take (o.end - o.start) (drop o.start text) in omega arith

pub part-short : (text : List ℕ) (o : Span) → o.start ≤ o.end
    → o.start + length (canonical (bytes_of text o)) ≤ o.end
part-short text o h = let a = canonical-short (bytes_of text o) in let b = part-spelled text o h in omega arith

abbrev line_read : Line → ℕ → LineRead
line_read a n = record { line = a; next = n }

pub read_plain : (m : ℕ) (text : List ℕ) (i : ℕ) (r : LineRead) (a : Line) → r ≡ read_spelled m text i → r.line ≡ a
    → short_line text a ≡ a → r ≡ read_of m text i
unfolding read_of
read_plain m text i r a e f g =
    ap (λ (z : Line). line_read z r.next) (f ∙ (sym g ∙ ap (short_line text) (sym f)))
    ∙ ap (λ (x : LineRead). line_read (short_line text x.line) x.next) e

pub read-cut : (m : ℕ) (text : List ℕ) (i : ℕ) (r : LineRead) (s p o : Span) (n : List ℕ) → r ≡ read_spelled m text i
    → r.line ≡ answer.Triple s p o → n ≡ canonical (bytes_of text o)
    → ◌≡◌ {A = LineRead} (record { line = answer.Triple s p (span o.start (o.start + length n)); next = r.next })
    (read_of m text i)
unfolding read_of short_line
read-cut m text i r s p o n e f g = rw (← e, f, g)

pub reads-a-line : ReadsALine
unfolding read_of read_spelled short_line values_of
reads-a-line m text i h =
    record {
      ended = λ k. let e = le-leb (length text) i k in (rw e, rw e);
      answered = λ l n k f. line-answered m text i l n h k f;
    }

pub one-first-line : OneFirstLine
one-first-line s =
    let w = line-exists s in
    let x = line-found s w.0 w.1 w.2 in
    (w.0, w.1, w.2, λ k j f. let y = line-found s k j f in (sym y.0 ∙ x.0, sym y.1 ∙ x.1))

terms-empty : {C : Type 0} (ms : List Span) → Terms ms ≡ Empty → C
terms-empty ms e = let z : ◌≡◌ {A = ℕ} 0 1 = cc in absurd (omega arith)

pub one-derivation : OneDerivation
one-derivation l d = (
  λ e.
      let x = (subset-of-standard l).0 d in
      let y = (subset-of-standard l).0 e in
      x.2 ∙ (one-standard-derivation l x.0 y.0 ∙ sym y.2),
  λ t. terms-empty (parts_of 0 d) (unique 0 l (Terms (parts_of 0 d)) Empty (Derives.triple (rest_of 0 d))
      (Derives.nothing t)),
)
