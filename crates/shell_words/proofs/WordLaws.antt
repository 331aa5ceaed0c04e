-- Laws of `specs/Words` for the code: one for each way out of it. Assumes nothing.
use Rattle.std.proofs.Common.{◌≡◌, ℕ, zero, suc, ◌+◌, ◌%◌, ◌^◌, ◌<◌, ◌≤◌, min, Bool, true, false, cond, not, eqb, List, [], ◌∷◌, ◌++◌, map, length, get_or, take, set, sym, refl, ap, ◌∙◌, subst, true≢false, add-one, arith, length-set, length-take, get_or-take, take-suc, take-suc-set, ne_eqb}
use mathlib.Core.List.{map-append}
use lib.ListN.{length-map, get_or-map}
use lib.Seq.{slice, take-length}
use Rattle.term.proofs.Booleans.{decide}
use Rattle.store.specs.declared.Counters.{Counters}
use Rattle.std.specs.Prelude.{Option, Some, None, Result, Ok, Err}
use Rattle.store.specs.declared.Lookup.TheVariants.{Number, Absent}
use Rattle.store.specs.declared.Refusal.{Refusal}
use Rattle.store.specs.declared.ResourceId.{ResourceId}
use Rattle.store.specs.Shared.{lookup_name}
use Rattle.store.specs.Tables.{Tables}
use Rattle.store.specs.Soundness.{Sound}
use Rattle.store.specs.Dictionary.{FindAnswer, find_of, found_at, position_of}
use Rattle.store.specs.Names.{names_up_to}
use Rattle.term.specs.Canonical.{canonical}
use Rattle.ntriples.specs.Grammar.{span}
use Rattle.ntriples.specs.declared.Span.{Span}
use Rattle.graph.proofs.Solve.{Every, every-at}
use Rattle.shell_line.specs.Questions.{Part, Name, Any, Variable, Standing, span_of, word_of, max_parts, part_bytes, Holds}
use Rattle.shell_line.specs.declared.parts.Parts.{Parts}
use Rattle.shell_words.specs.declared.Words.{Words}
use Rattle.shell_words.specs.Words.{number_for, word_for, unknown_at, unknown_in, is_name, Spelled, PartIs, Worded}
use Rattle.shell_words.specs.Words.{numbered, NumberTold, no_words, with_word, with_found, NumberSet, PartSet}
use Rattle.shell_words.proofs.Spelling.{name-is, parted}
use Rattle.store.specs.declared.Lookup.{Lookup}

-- ---- a name begins without `?`

pub no_byte : (s : List ℕ) → length s ≡ 0 → false ≡ is_name s
unfolding is_name
no_byte [] e = refl
no_byte (b ∷ s) e = absurd (omega arith)

pub first_byte_lem : (s : List ℕ) → (length s ≡ 0 → ⊥) → not (eqb (get_or s 0 0) 63) ≡ is_name s
unfolding is_name
first_byte_lem [] e = absurd (e refl)
first_byte_lem (b ∷ s) e = refl

-- ---- the number of a name, by find's answer

-- what is told of an answer
abbrev pub told : Result Lookup Refusal → Result (Option ResourceId) Refusal
told (Ok (Number n k)) = Ok (Some n)
told (Ok (Absent k)) = Ok None
told (Err e) = Err e

found-told : (n k : ℕ) → told (found_at n k) ≡ Ok (numbered n)
found-told zero k = refl
found-told (suc n) k = refl

module _ (c : Counters) (m : Tables) (w : List ℕ) (a : Result Lookup Refusal) (F : FindAnswer c m w a) where
  pub number-told : NumberTold c m w (told a)
  unfolding number_for find_of
  number-told S f =
      ap told (F.exact S.names S.named)
      ∙ rw (S.capacity, f) (found-told (lookup_name (canonical w) (names_up_to m c.resources)) (position_of c m (canonical w)))

-- ---- a word more

abbrev words_of : ℕ → List ℕ → Words
words_of u l = record { unknown = u; words = l }

pub word_set : (w : Words) (i v : ℕ) → words_of w.unknown (set w.words i v) ≡ with_word w i v 0
word_set w i v = ap (λ u. words_of u (set w.words i v)) (omega arith)

pub number-unknown : (w : Words) (i : ℕ) (r : Words) → r ≡ with_word w i 0 0 → (u : ℕ) → u ≡ (r.unknown + 1) % 2 ^ 32
    → NumberSet w i None (words_of u r.words)
number-unknown w i r e u d l =
    let k : u ≡ w.unknown + 1 = d ∙ ap (λ (x : Words). (x.unknown + 1) % 2 ^ 32) e ∙ omega arith in
    rw e (ap (λ x. words_of x (set w.words i 0)) k)

-- ---- the word of a part

module _ (c : Counters) (m : Tables) (line : List ℕ) (p : Parts) (i : ℕ) (w r : Words) where
  pub part-read : (v : ℕ) → v ≡ get_or p.words i 0 → is_name (part_bytes line p i) ≡ false → r ≡ with_word w i v 0
      → PartSet c m line p i w (Ok r)
  unfolding word_for unknown_at span_of word_of
  part-read v ev b e S (Name q) h l k =
      absurd (true≢false (sym (name-is (slice q.start q.end line) h.spelled) ∙ ap is_name (sym h.bytes) ∙ b))
  part-read v ev b e S (Any q) h l k = ap Ok (e ∙ ap (λ n. with_word w i n 0) (ev ∙ h.word))
  part-read v ev b e S (Variable u q) h l k = ap Ok (e ∙ ap (λ n. with_word w i n 0) (ev ∙ h.word))

  -- a name's word is set as it was found
  found_as : (n : ℕ) → with_found w i (numbered n) ≡ with_word w i n (cond (eqb n 0) 1 0)
  found_as zero = refl
  found_as (suc n) = let z : eqb (suc n) 0 ≡ false = ne_eqb (suc n) 0 (omega arith) in rw z

  module _ (name : List ℕ) (en : name ≡ part_bytes line p i) (b : is_name (part_bytes line p i) ≡ true) where
    pub part-found : (f : Option ResourceId) → NumberTold c m name (Ok f) → NumberSet w i f r → PartSet c m line p i w (Ok r)
    unfolding word_for unknown_at span_of
    part-found f t n S (Name q) h l k =
        let o = slice q.start q.end line in
        let e : name ≡ o = en ∙ h.bytes in
        let z : Ok f ≡ Ok (numbered (number_for c m o)) = t S (rw e h.spelled) ∙ ap (λ x. Ok (numbered (number_for c m x))) e in
        let y : f ≡ numbered (number_for c m o) = cc in
        ap Ok (n k ∙ ap (with_found w i) y ∙ found_as (number_for c m o))
    part-found f t n S (Any q) h l k = absurd (true≢false (sym b ∙ ap is_name h.bytes ∙ h.spelled.1))
    part-found f t n S (Variable u q) h l k = absurd (true≢false (sym b ∙ ap is_name h.bytes ∙ h.spelled.2))

    pub part-refused : (x : Refusal) → NumberTold c m name (Err x) → PartSet c m line p i w (Err x)
    unfolding span_of
    part-refused x t S (Name q) h l k =
        let o = slice q.start q.end line in
        let e : name ≡ o = en ∙ h.bytes in
        let z : Err x ≡ Ok (numbered (number_for c m name)) = t S (rw e h.spelled) in
        absurd (cc)
    part-refused x t S (Any q) h l k = absurd (true≢false (sym b ∙ ap is_name h.bytes ∙ h.spelled.1))
    part-refused x t S (Variable u q) h l k = absurd (true≢false (sym b ∙ ap is_name h.bytes ∙ h.spelled.2))

-- ---- the loop

unknown-more : (c : Counters) (m : Tables) (line : List ℕ) (ps : List Part) (x : Part)
    → unknown_in c m line (ps ++ (x ∷ [])) ≡ unknown_in c m line ps + unknown_at c m line x
unfolding unknown_in
unknown-more c m line [] x = omega arith
unknown-more c m line (y ∷ ps) x = omega (arith, unknown-more c m line ps x)

unknown-one : (c : Counters) (m : Tables) (line : List ℕ) (x : Part) → unknown_at c m line x ≤ 1
unfolding unknown_at
unknown-one c m line (Name q) =
    let n = number_for c m (slice q.start q.end line) in
    decide (eqb n 0) (λ e. rw e (omega arith)) (λ e. rw e (omega arith))
unknown-one c m line (Any q) = omega arith
unknown-one c m line (Variable v q) = omega arith

-- the words of the first i parts are known
pub record Known (c : Counters) (m : Tables) (line : List ℕ) (p : Parts) (i : ℕ) (w : Words) (s : Standing) : Type 0 where
  pub low : i ≤ p.count
  pub size : length w.words ≡ max_parts
  pub few : w.unknown ≤ i
  pub unknown : w.unknown ≡ unknown_in c m line (take i s.parts)
  pub words : take i w.words ≡ map (word_for c m line) (take i s.parts)

abbrev pub Knows : Counters → Tables → List ℕ → Parts → ℕ → Words → Type 0
Knows c m line p i w =
    Sound c m → (any : Bool) (s : Standing) → Holds line p s → Every (Spelled any line) s.parts → Known c m line p i w s

-- what the code's record has for a part that was read
module _ {line : List ℕ} {p : Parts} {s : Standing} (h : Holds line p s) where
  had : {A : Type 0} (f : Part → A) (l : List A) (d : Part) (i : ℕ) → take p.count l ≡ map f s.parts → i < p.count
      → get_or l i (f d) ≡ f (get_or s.parts i d)
  had f l d i e k =
      sym (get_or-take p.count l i (f d) k) ∙ ap (λ t. get_or t i (f d)) e ∙ get_or-map f s.parts i d

  part_at : (any : Bool) (i : ℕ) → Every (Spelled any line) s.parts → i < p.count
      → PartIs line p i (get_or s.parts i (Any (span 0 0)))
  unfolding span_of word_of
  part_at any i sp k =
      let d = Any (span 0 0) in
      let n = h.count in
      record {
        bytes = ap (λ (a : Span). slice a.start a.end line) (had span_of p.parts d i h.spans k);
        word = had word_of p.words d i h.words k;
        any = any;
        spelled = every-at (Spelled any line) d s.parts i sp (omega arith);
      }

  -- there is room for all
  within : p.count ≤ max_parts
  within =
      let r = h.room.0 in
      let n = h.count in
      let l : min p.count (length p.parts) ≡ length s.parts =
      sym (length-take p.count p.parts) ∙ ap length h.spans ∙ length-map s.parts span_of in
      omega arith

  reached : {i : ℕ} → i ≤ p.count → min p.count max_parts ≤ i → i ≡ length s.parts
  reached l z = omega (arith, within, h.count)

module _ {c : Counters} {m : Tables} {line : List ℕ} {p : Parts} where
  pub knows-none : (w : Words) → w ≡ no_words → Knows c m line p 0 w
  unfolding unknown_in
  knows-none w e S any s h sp =
      rw e (record { low = omega arith; size = refl; few = omega arith; unknown = refl; words = refl })

  module _ {i : ℕ} {w : Words} (k : Knows c m line p i w) where
    pub knows_more : (r : Words) → i < max_parts → i < p.count → PartSet c m line p i w (Ok r) → Knows c m line p (i + 1) r
    knows_more r f l t S any s h sp =
        let d = Any (span 0 0) in
        let x = get_or s.parts i d in
        let o = k S any s h sp in
        let n = h.count in
        let z = o.size in
        let u = o.few in
        let g : i < length s.parts = omega arith in
        let y = t S x (part_at h any i sp l) f (omega arith) in
        let e : r ≡ with_word w i (word_for c m line x) (unknown_at c m line x) = cc in
        let q : take (i + 1) s.parts ≡ take i s.parts ++ (x ∷ []) = rw (add-one i) (take-suc s.parts i d g) in
        subst (λ r. Known c m line p (i + 1) r s) (sym e) (record {
          low = omega arith;
          size = length-set w.words i (word_for c m line x) ∙ z;
          few = omega (arith, unknown-one c m line x);
          unknown =
              ap (λ a. a + unknown_at c m line x) o.unknown ∙ sym (unknown-more c m line (take i s.parts) x)
              ∙ ap (unknown_in c m line) (sym q);
          words =
              ap (λ a. take a (set w.words i (word_for c m line x))) (add-one i)
              ∙ take-suc-set w.words i (word_for c m line x) (omega arith)
              ∙ ap (λ a. a ++ (word_for c m line x ∷ [])) o.words
              ∙ sym (map-append (word_for c m line) (take i s.parts) (x ∷ [])) ∙ ap (map (word_for c m line)) (sym q);
        })

    pub knows-all : min p.count max_parts ≤ i → Worded c m line p (Ok w)
    knows-all z S form from s e h =
        let o = k S form.any s h (parted form line from s e).spelled in
        let l = o.low in
        let n : i ≡ length s.parts = reached h l z in
        let q : take i s.parts ≡ s.parts = ap (λ a. take a s.parts) n ∙ take-length s.parts in
        record {
          unknown = o.unknown ∙ ap (unknown_in c m line) q;
          words = ap (λ a. take a w.words) (sym n) ∙ o.words ∙ ap (map (word_for c m line)) q;
        }

    pub knows-refused : (x : Refusal) → i < max_parts → i < p.count → PartSet c m line p i w (Err x) → Worded c m line p (Err x)
    knows-refused x f l t S form from s e h =
        let sp = (parted form line from s e).spelled in
        let o = k S form.any s h sp in
        let u = o.few in
        let d = Any (span 0 0) in
        let y = t S (get_or s.parts i d) (part_at h form.any i sp l) f (omega arith) in
        absurd (cc)
