-- What the words of a question or of a list mean on a sound store: the names that were typed; one that no resource has stands in no live
-- statement. Assumes nothing.
use Rattle.std.proofs.Common.{◌≡◌, ℕ, zero, suc, ◌+◌, ◌-◌, ◌*◌, ◌<◌, ◌≤◌, true, false, cond, eqb, ◌≢◌, ◌⊎◌, ◌↔◌, List, [], ◌∷◌, map, length, get_or, sym, refl, ap, ◌∙◌, inl, inr, ⊎_elim, true≢false, arith, eq-eqb, eqb-true, le-leb}
use mathlib.Core.List.{Memᴰ}
use lib.Seq.{slice}
use borrow.Author.Tests.{eqb-false, lt-leb}
use Rattle.term.specs.Canonical.{canonical}
use Rattle.term.proofs.Booleans.{decide}
use Rattle.store.specs.declared.Counters.{Counters}
use Rattle.store.specs.declared.Position.{Position}
use Rattle.store.specs.declared.Position.TheVariants.{Subject, Predicate, Object}
use Rattle.store.specs.declared.Triple.{Triple}
use Rattle.store.specs.Shared.{at, within, name_of, lookup_name}
use Rattle.store.specs.Tables.{Tables, off, term_at, triple_at}
use Rattle.store.specs.Names.{name_at, names_up_to}
use Rattle.store.specs.Soundness.{Sound}
use Rattle.store.proofs.Tests.{fits-parts, off-lt, within_of}
use Rattle.store.proofs.Words.{triple-at}
use Rattle.store.proofs.Pins.{listed, not-missed}
use Rattle.store.proofs.NamesAgree.{name-at}
use Rattle.store.proofs.Held.{named-names}
use Rattle.ntriples.specs.Grammar.{span}
use Rattle.graph.specs.Words.{first_variable, patterns_of}
use Rattle.graph.specs.Meaning.{term, var, TriplePattern, pattern_at, part_at, Mapping, Solves, RdfTriple}
use Rattle.graph.specs.Graph.{named, graph_of, term_of, pattern_of}
use Rattle.graph.specs.Claims.{Matches}
use Rattle.graph.proofs.Accepted.{Word}
use Rattle.graph.proofs.Names.{named-at}
use Rattle.graph.proofs.Solve.{Every, every-at}
use Rattle.shell_line.specs.Questions.{Part, Name, Any, Variable}
use Rattle.shell_words.specs.Words.{typed_term, typed_pattern, typed_query, StandsFor, TypedMatch, NumberFor, number_for}
use Rattle.shell_words.specs.Words.{word_for, unknown_at, unknown_in, Spelled}

module _ (c : Counters) (m : Tables) (S : Sound c m) where
  abbrev ns : List (List ℕ)
  ns = S.names

  read : names_up_to m c.resources ≡ ns
  read = named-names ns c m S.named

  name-of : (y : ℕ) → 0 < y → y ≤ c.resources → name_at m y ≡ get_or ns (y - 1) []
  unfolding name_of
  name-of y a b = name-at ns c m S.named y a b

  found : (v : List ℕ) (n : ℕ) → lookup_name v ns ≡ n → n ≢ 0 → (n ≤ c.resources) × (name_at m n ≡ v)
  found v zero e z = absurd (z refl)
  found v (suc i) e z =
      let l = listed v ns i e in
      let o : suc i ≤ c.resources = omega (arith, S.named.size, l.0) in
      let k : suc i - 1 ≡ i = omega arith in
      (o, name-of (suc i) (omega arith) o ∙ ap (λ j. get_or ns j []) k ∙ l.1)

  pub number-for : (w : List ℕ) → NumberFor c m w (number_for c m w)
  unfolding number_for
  number-for w =
      rw read (record {
        found = found (canonical w) (lookup_name (canonical w) ns) refl;
        absent = λ z y a b e.
            omega (
              arith,
              z,
              not-missed (canonical w) ns (y - 1) (omega (arith, S.named.size)) (sym (name-of y a b) ∙ e),
            );
      })

  few : c.resources < first_variable
  few = omega (arith, (fits-parts c m S.capacity).0)

  module _ (line : List ℕ) where
    -- ---- every name is known

    -- a name that is known has its number
    known : (w : List ℕ) → ◌≡◌ {A = ℕ} (cond (eqb (number_for c m w) 0) 1 0) 0 → number_for c m w ≢ 0
    known w e z = let o : ◌≡◌ {A = ℕ} 1 0 = rw (eq-eqb (number_for c m w) 0 z) at e in omega (arith, o)

    term_of_lem : (x : Part) → Spelled false line x → unknown_at c m line x ≡ 0 → term_of m (word_for c m line x) ≡ typed_term line x
    unfolding term_of word_for typed_term unknown_at
    term_of_lem (Name p) h e =
        let w = slice p.start p.end line in
        let n = number_for c m w in
        let f = (number-for w).found (known w e) in
        rw (lt-leb first_variable n (omega (arith, f.0, few))) (ap term f.1)
    term_of_lem (Any p) h e = absurd (true≢false (sym h.0))
    term_of_lem (Variable v p) h e =
        rw (le-leb first_variable (first_variable + v) (omega arith)) (ap var (omega arith))

    word_of : (x : Part) → Spelled false line x → unknown_at c m line x ≡ 0 → Word c.resources (word_for c m line x)
    unfolding word_for unknown_at
    word_of (Name p) h e =
        let w = slice p.start p.end line in
        let k = known w e in
        inl (ne-pos (number_for c m w) k, ((number-for w).found k).0)
      where
        ne-pos : (n : ℕ) → n ≢ 0 → 0 < n
        ne-pos zero h = absurd (h refl)
        ne-pos (suc n) h = omega arith
    word_of (Any p) h e = absurd (true≢false (sym h.0))
    word_of (Variable v p) h e = inr (v, h.1, refl)

    pub words-of : (ps : List Part) → Every (Spelled false line) ps → unknown_in c m line ps ≡ 0
        → Every (Word c.resources) (map (word_for c m line) ps)
    unfolding unknown_in
    words-of [] h e = tt
    words-of (x ∷ ps) h e = (word_of x h.0 (omega arith), words-of ps h.1 (omega arith))

    pub query-is : (ps : List Part) → Every (Spelled false line) ps → unknown_in c m line ps ≡ 0
        → map (pattern_of m) (patterns_of (map (word_for c m line) ps)) ≡ typed_query line ps
    unfolding unknown_in patterns_of pattern_of typed_query
    query-is [] h e = refl
    query-is (x ∷ []) h e = refl
    query-is (x ∷ y ∷ []) h e = refl
    query-is (x ∷ y ∷ z ∷ ps) h e =
        rw (
          term_of_lem x h.0 (omega arith),
          term_of_lem y h.1.0 (omega arith),
          term_of_lem z h.1.1.0 (omega arith),
          query-is ps h.1.1.1 (omega arith),
        )

    -- ---- a name is unknown

    -- a name that no resource has, at a position of a pattern
    record Missing (ps : List Part) : Type 0 where
      pattern : TriplePattern
      member : Memᴰ pattern (typed_query line ps)
      position : Position
      name : List ℕ
      stands : pattern_at position pattern ≡ term (canonical name)
      absent : number_for c m name ≡ 0

    missed : (x : Part) → unknown_at c m line x ≢ 0
        → (w : List ℕ) × (typed_term line x ≡ term (canonical w)) × (number_for c m w ≡ 0)
    unfolding unknown_at typed_term
    missed (Name p) h =
        let w = slice p.start p.end line in
        (w, refl, decide (eqb (number_for c m w) 0) (λ e. eqb-true (number_for c m w) 0 e) (λ e. absurd (h (rw e))))
    missed (Any p) h = absurd (h refl)
    missed (Variable v p) h = absurd (h refl)

    missing : (ps : List Part) (k : ℕ) → length ps ≡ 3 * k → unknown_in c m line ps ≢ 0 → Missing ps
    unfolding unknown_in typed_query
    missing [] k l h = absurd (h refl)
    missing (x ∷ []) k l h = absurd (omega arith)
    missing (x ∷ y ∷ []) k l h = absurd (omega arith)
    missing (x ∷ y ∷ z ∷ ps) k l h =
        decide (eqb (unknown_at c m line x) 0)
        (λ ex.
        decide (eqb (unknown_at c m line y) 0)
        (λ ey.
        decide (eqb (unknown_at c m line z) 0)
        (λ ez.
        let dx = eqb-true (unknown_at c m line x) 0 ex in
        let dy = eqb-true (unknown_at c m line y) 0 ey in
        let dz = eqb-true (unknown_at c m line z) 0 ez in
        let r = missing ps (k - 1) (omega arith) (λ e. h (omega (arith, e))) in
        record {
          pattern = r.pattern;
          member = Memᴰ.tail r.member;
          position = r.position;
          name = r.name;
          stands = r.stands;
          absent = r.absent;
        })
        (λ ez. first Object (missed z (eqb-false (unknown_at c m line z) 0 ez))))
        (λ ey. first Predicate (missed y (eqb-false (unknown_at c m line y) 0 ey))))
        (λ ex. first Subject (missed x (eqb-false (unknown_at c m line x) 0 ex)))
      where
        first : (p : Position)
            → (w : List ℕ) × (pattern_at p (typed_pattern line x y z) ≡ term (canonical w)) × (number_for c m w ≡ 0)
            → Missing (x ∷ y ∷ z ∷ ps)
        first p r =
            record {
              pattern = typed_pattern line x y z;
              member = Memᴰ.head refl;
              position = p;
              name = r.0;
              stands = r.1;
              absent = r.2;
            }

    -- a name at a position of a live statement is a resource's
    pub live-name : (y : RdfTriple) → graph_of c m y → (p : Position) (w : List ℕ) → number_for c m w ≡ 0
        → canonical w ≡ part_at p y → ⊥
    live-name y g p w z e =
        let i = g.0 in
        let t = term_at m.statements p i in
        let l = g.1.0 in
        let n : name_at m t ≡ canonical w = named-is i p ∙ ap (part_at p) g.2 ∙ sym e in
        (number-for w).absent z t (S.linked.low p i l) (S.linked.high p i l) n
      where
        named-is : (i : ℕ) (p : Position) → name_at m (term_at m.statements p i) ≡ part_at p (named m (triple_at m.statements i))
        named-is i p = sym (named-at m (triple_at m.statements i) p ∙ ap (name_at m) (triple-at m.statements p i))

    pub none-solves : (ps : List Part) (k : ℕ) → length ps ≡ 3 * k → unknown_in c m line ps ≢ 0
        → (μ : Mapping) → Solves (graph_of c m) (typed_query line ps) μ → ⊥
    none-solves ps k l h μ v =
        let r = missing ps k l h in
        let s = v.holds r.pattern r.member in
        live-name s.0 s.2 r.position r.name r.absent (rw r.stands at (s.1 r.position))

    -- ---- a list's pattern

    list-low : (x : Part) → Spelled true line x → unknown_at c m line x ≡ 0 → word_for c m line x ≤ c.resources
    unfolding word_for unknown_at
    list-low (Name p) h e = let w = slice p.start p.end line in ((number-for w).found (known w e)).0
    list-low (Any p) h e = omega arith
    list-low (Variable v p) h e = absurd (true≢false h.0)

    list-is : (x : Part) → Spelled true line x → unknown_at c m line x ≡ 0
        → (w : List ℕ) → ((word_for c m line x ≡ 0) ⊎ (name_at m (word_for c m line x) ≡ w)) ↔ StandsFor line x w
    unfolding word_for unknown_at
    list-is (Name p) h e w =
        let o = slice p.start p.end line in
        let k = known o e in
        let f = ((number-for o).found k).1 in
        (⊎_elim (λ z. absurd (k z)) (λ q. sym f ∙ q), λ q. inr (f ∙ q))
    list-is (Any p) h e w = (λ q. tt, λ q. inl refl)
    list-is (Variable v p) h e w = absurd (true≢false h.0)

    abbrev any : Part
    any = Any (span 0 0)

    known_at : (ps : List Part) (i : ℕ) → unknown_in c m line ps ≡ 0 → unknown_at c m line (get_or ps i any) ≡ 0
    unfolding unknown_in unknown_at
    known_at [] i e = refl
    known_at (x ∷ ps) zero e = omega arith
    known_at (x ∷ ps) (suc i) e = known_at ps i (omega arith)

    unlisted : (ps : List Part) → length ps ≡ 3 → unknown_in c m line ps ≢ 0
        → (p : Position) × (unknown_at c m line (get_or ps (off p) any) ≢ 0)
    unfolding unknown_in
    unlisted [] l h = absurd (omega arith)
    unlisted (x ∷ []) l h = absurd (omega arith)
    unlisted (x ∷ y ∷ []) l h = absurd (omega arith)
    unlisted (x ∷ y ∷ z ∷ []) l h =
        decide (eqb (unknown_at c m line x) 0)
        (λ ex.
        decide (eqb (unknown_at c m line y) 0)
        (λ ey.
        let dx = eqb-true (unknown_at c m line x) 0 ex in
        let dy = eqb-true (unknown_at c m line y) 0 ey in
        (Object, λ e. h (omega (arith, e)))) (λ ey. (Predicate, eqb-false (unknown_at c m line y) 0 ey)))
        (λ ex. (Subject, eqb-false (unknown_at c m line x) 0 ex))
    unlisted (x ∷ y ∷ z ∷ u ∷ ps) l h = absurd (omega arith)

    -- a part that stands for a name of a live statement is known
    stands-known : (x : Part) (y : RdfTriple) → graph_of c m y → (p : Position) → StandsFor line x (part_at p y)
        → unknown_at c m line x ≡ 0
    unfolding unknown_at
    stands-known (Name q) y g p h =
        let w = slice q.start q.end line in
        decide (eqb (number_for c m w) 0) (λ e. absurd (live-name y g p w (eqb-true (number_for c m w) 0 e) h)) (λ e. rw e)
    stands-known (Any q) y g p h = refl
    stands-known (Variable v q) y g p h = absurd h

    module _ (ps : List Part) (l : length ps ≡ 3) where
      pub none-listed : unknown_in c m line ps ≢ 0 → (y : RdfTriple) → graph_of c m y → TypedMatch line ps y → ⊥
      none-listed h y g t =
          let r = unlisted ps l h in r.1 (stands-known (get_or ps (off r.0) any) y g r.0 (t r.0))

      module _ (x : Triple) (f : (p : Position) → at p x ≡ word_for c m line (get_or ps (off p) any)) (h : Every (Spelled true line) ps)
          (e : unknown_in c m line ps ≡ 0) where
        spelled : (p : Position) → Spelled true line (get_or ps (off p) any)
        spelled p = every-at (Spelled true line) any ps (off p) h (omega (arith, off-lt p, l))

        pub list-within : within c.resources x ≡ true
        list-within =
            within_of c.resources x (λ p. rw (f p) (list-low (get_or ps (off p) any) (spelled p) (known_at ps (off p) e)))

        pub list-matches : (y : RdfTriple) → Matches m x y ↔ TypedMatch line ps y
        list-matches y = (λ t p. (each p).0 (t p), λ t p. (each p).1 (t p))
          where
            each : (p : Position) → ((at p x ≡ 0) ⊎ (name_at m (at p x) ≡ part_at p y)) ↔ StandsFor line (get_or ps (off p) any) (part_at p y)
            each p = rw (f p) (list-is (get_or ps (off p) any) (spelled p) (known_at ps (off p) e) (part_at p y))
