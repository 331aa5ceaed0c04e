-- Bindings to numbers against solution mappings to names: on a sound store the enumerated solutions (`solve`), as
-- mappings, are exactly those that solve the basic graph pattern over the graph, each once. Assumes nothing.
use mathlib.Core.Path.{◌≡◌, refl, sym, ap, ◌∙◌, fun_ext}
use mathlib.Core.Logic.{◌≢◌, ◌⊎◌, inl, inr, ◌↔◌}
use mathlib.Core.Bool.{Bool, true, false, ◌||◌, true≢false, false≢true}
use mathlib.Core.List.Memᴰ
use mathlib.Core.List.{List, [], ◌∷◌, map, Memᴰ}
use mathlib.Core.Option.{Option, none, some}
use Prim.Native.Nat.{ℕ, zero, suc, ◌+◌, ◌-◌, ◌≤◌, ◌<◌}
use native.Mathlib.Omega.{arith}
use lib.ListN.{length, replicate, get_or-eq_default}
use lib.Dec.{eqb, ltb}
use borrow.Author.Tests.{eqb-true, eqb-false, eq-eqb, ne_eqb, leb-true, ltb-true, ltb-false, le-leb}
use Rattle.store.specs.declared.Position.{Position}
use Rattle.store.specs.declared.Position.TheVariants.{Subject, Predicate, Object}
use Rattle.store.specs.declared.Counters.{Counters}
use Rattle.store.specs.declared.ResourceId.{ResourceId}
use Rattle.store.specs.declared.Triple.{Triple}
use Rattle.store.specs.Shared.{at, Entry}
use Rattle.store.specs.Tables.{Tables, triple_at, flag_at}
use Rattle.store.specs.Walk.{entry_at}
use Rattle.store.specs.Names.{name_at}
use Rattle.store.specs.Soundness.{Sound}
use Rattle.store.proofs.Tests.{decide}
use Rattle.graph.specs.declared.QueryPattern.{QueryPattern}
use Rattle.graph.specs.Words.{first_variable, is_variable, variables, Bindings, resource, bound_to, unbound, value_of}
use Rattle.graph.specs.Words.{under}
use Rattle.graph.specs.Order.{NoDuplicates}
use Rattle.graph.specs.Meaning.{Term, RdfTriple, part_at, PatternTerm, term, var, TriplePattern, pattern_at}
use Rattle.graph.specs.Meaning.{Mapping, Takes, Instance, Solves}
use Rattle.graph.specs.Graph.{named, graph_of, term_of, pattern_of, name_or, mapping_of}
use Rattle.graph.proofs.Bind.{word_at, bound-ext, Fits3, Known3, is_the, occurs_in, none≢some, some-eq}
use Rattle.graph.proofs.Bind.{value-number, value-variable}
use Rattle.graph.proofs.Solve.{every-member, every_of, down_out, each, each-out, hit-some, solve, occurs, Among}
use Rattle.graph.proofs.Solve.{Solved}
use Rattle.graph.specs.Work.{hit_at}
use Rattle.graph.proofs.Solve.{AllFit, occurs_in-at, solve-sound, solve-complete, under_at, value-var, triple-ext}
use Rattle.graph.proofs.Levels.{Low, LowWords, AllLow, match_low, low-none}
use Rattle.graph.proofs.Names.{named-at, names_apart, number_of_name, number-le, number-name, term-low, term-high}

-- ---- lists

-- a function that tells the members apart keeps a list free of duplicates
pub map-once : {A B : Type 0} (f : A → B) (l : List A)
    → ((x y : A) → Memᴰ x l → Memᴰ y l → f x ≡ f y → x ≡ y)
    → NoDuplicates l → NoDuplicates (map f l)
map-once f [] h d = tt
map-once f (x ∷ l) h d = (
  (λ k. let r = Memᴰ.of_map f l k in
      d.0 (rw (h r.0 x (Memᴰ.tail r.1) (Memᴰ.head refl) r.2) at r.1)),
  map-once f l (λ x y a b. h x y (Memᴰ.tail a) (Memᴰ.tail b)) d.1,
)

-- a list of n resources by a function
unfoldable pub tab : (ℕ → ℕ) → ℕ → Bindings
tab f zero = []
tab f (suc n) = resource (f 0) ∷ tab (λ i. f (suc i)) n

pub tab-length : (f : ℕ → ℕ) (n : ℕ) → length (tab f n) ≡ n
unfolding tab
tab-length f zero = refl
tab-length f (suc n) = ap suc (tab-length (λ i. f (suc i)) n)

pub tab-at : (f : ℕ → ℕ) (n v : ℕ) → v < n → bound_to (tab f n) v ≡ f v
unfolding tab
tab-at f zero v h = absurd (omega arith)
tab-at f (suc n) zero h = refl
tab-at f (suc n) (suc v) h = tab-at (λ i. f (suc i)) n v (omega arith)

pub past_end : (b : Bindings) (v : ℕ) → length b ≤ v → bound_to b v ≡ 0
past_end b v h = ap (λ (z : ResourceId). z.0) (get_or-eq_default b (resource 0) {n = v} h)

pub unbound-at : (k v : ℕ) → ◌≡◌ {A = ℕ} (bound_to (replicate k (resource 0)) v) 0
unbound-at zero v = refl
unbound-at (suc k) zero = refl
unbound-at (suc k) (suc v) = unbound-at k v

-- ---- variables of a pattern

the_at : (v w : ℕ) → w ≡ first_variable + v → is_the v w ≡ true
unfolding is_the
the_at v w e = eq-eqb w (first_variable + v) e

occurs_in-of : (v : ℕ) (y : QueryPattern) (p : Position) → word_at p y ≡ first_variable + v → occurs_in v y ≡ true
unfolding occurs_in
occurs_in-of v y Subject e = rw (the_at v y.subject e)
occurs_in-of v y Predicate e = rw (the_at v y.predicate e) (true-r (is_the v y.subject))
  where
    true-r : (a : Bool) → a || true ≡ true
    true-r true = refl
    true-r false = refl
occurs_in-of v y Object e = rw (the_at v y.object e) (both (is_the v y.subject) (is_the v y.predicate))
  where
    both : (a b : Bool) → a || (b || true) ≡ true
    both true b = refl
    both false true = refl
    both false false = refl

pub occurs-of : (v : ℕ) (ps : List QueryPattern) (y : QueryPattern) (p : Position) → Memᴰ y ps
    → word_at p y ≡ first_variable + v
    → occurs v ps ≡ true
unfolding occurs
occurs-of v [] y p h e = absurd (Memᴰ.not-nil h)
occurs-of v (x ∷ ps) y p h e = one (Memᴰ.cases_cons h) (λ h. occurs-of v ps y p h e)
  where
    one : (y ≡ x) ⊎ Memᴰ y ps → (Memᴰ y ps → occurs v ps ≡ true) → occurs_in v x || occurs v ps ≡ true
    one (inl d) k = rw (occurs_in-of v x p (ap (word_at p) (sym d) ∙ e))
    one (inr h) k = decide (occurs_in v x) (λ d. rw d) (λ d. rw d (k h))

pub occurs-at : (v : ℕ) (ps : List QueryPattern) → occurs v ps ≡ true
    → (y : QueryPattern) × Memᴰ y ps × (p : Position) × (word_at p y ≡ first_variable + v)
unfolding occurs
occurs-at v [] e = absurd (false≢true e)
occurs-at v (x ∷ ps) e =
    decide (occurs_in v x)
    (λ d. let r = occurs_in-at v x d in (x, Memᴰ.head refl, r.0, r.1))
    (λ d. let r = occurs-at v ps (rw d at e) in (r.0, Memᴰ.tail r.1, r.2, r.3))

-- solutions hold known numbers alone
solve-low : (E : ℕ → Entry) (n k : ℕ) → ((i : ℕ) → i < n → (p : Position) → at p (E i).spo ≤ k)
    → (ps : List QueryPattern) (b s : Bindings) → Low k b → Memᴰ s (solve E n ps b) → Low k s
unfolding solve
solve-low E n k f [] b s g h = one (Memᴰ.cases_cons h)
  where
    one : (s ≡ b) ⊎ Memᴰ s [] → Low k s
    one (inl e) = rw e g
    one (inr q) = absurd (Memᴰ.not-nil q)
solve-low E n k f (x ∷ ps) b s g h =
    let r = down_out (λ i. each (hit_at E x b i) (λ b'. solve E n ps b')) n s h in
    let w = each-out (hit_at E x b r.0) (λ b'. solve E n ps b') s r.2 in
    solve-low E n k f ps w.0 s
    (match_low k x (E r.0).spo b w.0 g (f r.0 r.1) (hit-some E x b w.0 r.0 w.1).1) w.2

-- ---- words, numbers and names

module _ (m : Tables) where
  pub pattern-at : (p : Position) (y : QueryPattern) → pattern_at p (pattern_of m y) ≡ term_of m (word_at p y)
  unfolding pattern_of
  pattern-at Subject y = refl
  pattern-at Predicate y = refl
  pattern-at Object y = refl

  term-var : (w v : ℕ) → term_of m w ≡ var v → w ≡ first_variable + v
  unfolding term_of
  term-var w v e =
      decide (is_variable w)
      (λ d. let q : var (w - first_variable) ≡ var v = (rw d at e) in let r : w - first_variable ≡ v = cc in
      let t : first_variable ≤ w = leb-true first_variable w d in omega arith)
      (λ d. let q : term (name_at m w) ≡ var v = (rw d at e) in cc)

  var-term : (v : ℕ) → term_of m (first_variable + v) ≡ var v
  unfolding term_of
  var-term v =
      let e : first_variable + v - first_variable ≡ v = omega arith in
      rw (le-leb first_variable (first_variable + v) (omega arith), e)

  name-pos : (n : ℕ) → 0 < n → name_or m n ≡ some (name_at m n)
  unfolding name_or
  name-pos zero h = absurd (omega arith)
  name-pos (suc n) h = refl

  name-zero : (n : ℕ) (w : Term) → name_or m n ≡ some w → (0 < n) × (name_at m n ≡ w)
  unfolding name_or
  name-zero zero w e = none≢some e
  name-zero (suc n) w e = (omega arith, some-eq e)

  name-none : (n : ℕ) → n ≡ 0 → name_or m n ≡ none
  unfolding name_or
  name-none n e = rw e

  mapping-at : (s : Bindings) (v : ℕ) → mapping_of m s v ≡ name_or m (bound_to s v)
  unfolding mapping_of
  mapping-at s v = refl

  -- a bound word is taken to the name of its number
  takes-value : (s : Bindings) (w : ℕ) → 0 < value_of s w → Takes (mapping_of m s) (term_of m w) (name_at m (value_of s w))
  unfolding term_of mapping_of
  takes-value s w h =
      decide (is_variable w)
      (λ d. let e = value-variable s w d in rw (d, e) (name-pos (bound_to s (w - first_variable)) (rw e at h)))
      (λ d. rw d (ap (name_at m) (sym (value-number s w d))))

  pub takes_at : (s : Bindings) {x : TriplePattern} (y : QueryPattern) (p : Position) → x ≡ pattern_of m y
      → 0 < at p (under s y)
      → Takes (mapping_of m s) (pattern_at p x) (part_at p (named m (under s y)))
  takes_at s y p e h =
      rw (e, pattern-at p y, named-at m (under s y) p, under_at s y p)
      (takes-value s (word_at p y) (rw (under_at s y p) at h))

module _ (c : Counters) (m : Tables) (S : Sound c m) where
  -- ---- live entries

  abbrev E : ℕ → Entry
  E = entry_at m.statements

  pub positive : (i : ℕ) → i < c.statements → Known3 (entry_at m.statements i).spo
  unfolding entry_at
  positive i h p = term-low c m S p i h

  pub smaller : (i : ℕ) → i < c.statements → (p : Position) → at p (entry_at m.statements i).spo ≤ c.resources
  unfolding entry_at
  smaller i h p = term-high c m S p i h

  pub single : (i j : ℕ) → i < j → j < c.statements
      → (entry_at m.statements i).spo ≢ (entry_at m.statements j).spo
  unfolding entry_at
  single i j h g e = S.once i j h g e

  pub among_in : (t : Triple) → Among E c.statements t → graph_of c m (named m t)
  unfolding Among entry_at
  among_in t a =
      let f = S.linked.flag a.0 a.1 in
      let n : flag_at m.statements a.0 ≢ 1 = eqb-false _ 1 a.3 in
      (a.0, (a.1, omega arith), ap (named m) a.2)

  pub in-among : (x : RdfTriple) → graph_of c m x → (t : Triple) × Among E c.statements t × (named m t ≡ x)
  unfolding Among entry_at
  in-among x g =
      let n : flag_at m.statements g.0 ≢ 1 = omega (arith, g.1.1) in
      (triple_at m.statements g.0, (g.0, g.1.0, refl, ne_eqb (flag_at m.statements g.0) 1 n), g.2)

  pub among-low : (t : Triple) → Among E c.statements t → Known3 t
  unfolding Among
  among-low t a p = rw (← a.2) (positive a.0 a.1 p)

  pub among-high : (t : Triple) → Among E c.statements t → (p : Position) → at p t ≤ c.resources
  unfolding Among
  among-high t a p = rw (← a.2) (smaller a.0 a.1 p)

  -- ---- mappings are told apart

  name_or-apart : (y z : ℕ) → y ≤ c.resources → z ≤ c.resources → name_or m y ≡ name_or m z → y ≡ z
  unfolding name_or
  name_or-apart zero zero a b e = refl
  name_or-apart zero (suc z) a b e = none≢some e
  name_or-apart (suc y) zero a b e = none≢some (sym e)
  name_or-apart (suc y) (suc z) a b e = names_apart c m S (suc y) (suc z) (omega arith) a (omega arith) b (some-eq e)

  pub mapping-apart : (s t : Bindings) → length s ≡ length t → Low c.resources s → Low c.resources t
      → mapping_of m s ≡ mapping_of m t → s ≡ t
  unfolding mapping_of
  mapping-apart s t h a b e =
      bound-ext s t h (λ v q. name_or-apart (bound_to s v) (bound_to t v) (a v) (b v) (ap (λ (μ : Mapping). μ v) e))

  takes-variable : (s : Bindings) (w n : ℕ) → is_variable w ≡ true → Low c.resources s → 0 < n → n ≤ c.resources
      → Takes (mapping_of m s) (term_of m w) (name_at m n) → value_of s w ≡ n
  unfolding term_of mapping_of
  takes-variable s w n d g a b =
      rw (d, value-variable s w d) (λ e. let z = name-zero m (bound_to s (w - first_variable)) (name_at m n) e in
      names_apart c m S (bound_to s (w - first_variable)) n z.0 (g (w - first_variable)) a b z.1)

  takes-number : (s : Bindings) (w n : ℕ) → is_variable w ≡ false → 0 < w → w ≤ c.resources → 0 < n → n ≤ c.resources
      → Takes (mapping_of m s) (term_of m w) (name_at m n) → value_of s w ≡ n
  unfolding term_of
  takes-number s w n d h l a b = rw (d, value-number s w d) (λ e. names_apart c m S w n h l a b e)

  module _ (ps : List QueryPattern) (fit : AllFit variables ps) (low : AllLow c.resources ps) where
    -- ---- what is enumerated solves

    -- the pattern's triple is that of a live entry
    abbrev held : Bindings → QueryPattern → Type 0
    held s x = Among E c.statements (under s x)

    solved-solves : (s : Bindings) → Solved E c.statements ps unbound s
        → Solves (graph_of c m) (map (pattern_of m) ps) (mapping_of m s)
    solved-solves s W = record {
      domain = λ v. (
        (λ o. let r = Memᴰ.of_map (pattern_of m) ps o.1 in
            let y = r.0 in
            let p = o.2 in
            let w : word_at p y ≡ first_variable + v =
            term-var m (word_at p y) v (sym (pattern-at m p y) ∙ ap (pattern_at p) r.2 ∙ o.3) in
            let k = among-low (under s y) (every-member (held s) ps y W.holds r.1) p in
            let e : at p (under s y) ≡ bound_to s v = under_at s y p ∙ ap (value_of s) w ∙ value-var s v in
            (name_at m (bound_to s v), mapping-at m s v ∙ name-pos m (bound_to s v) (rw e at k))),
        (λ d. decide (occurs v ps)
            (λ e. let r = occurs-at v ps e in (
              pattern_of m r.0,
              Memᴰ.map (pattern_of m) r.1,
              r.2,
              pattern-at m r.2 r.0 ∙ ap (term_of m) r.3 ∙ var-term m v,
            ))
            (λ e. let z = W.only v (unbound-at variables v) e in
            let n = name-zero m (bound_to s v) d.0 (sym (mapping-at m s v) ∙ d.1) in
            absurd (omega (arith, n.0)))),
      );
      holds = λ x k. let r = Memᴰ.of_map (pattern_of m) ps k in
          let y = r.0 in
          let a = every-member (held s) ps y W.holds r.1 in (
            named m (under s y),
            (λ p. takes_at m s y p (sym r.2) (among-low (under s y) a p)),
            among_in (under s y) a,
          );
    }

    -- ---- what solves is enumerated

    fit-member : (y : QueryPattern) → Memᴰ y ps → Fits3 variables y
    fit-member y k = every-member (λ x. Fits3 variables x) ps y fit k

    -- the word's number is that of the instance
    word_number : (s : Bindings) (y : QueryPattern) (t : Triple) (p : Position) → Low c.resources s
        → Memᴰ y ps
        → 0 < at p t → at p t ≤ c.resources → Takes (mapping_of m s) (pattern_at p (pattern_of m y)) (name_at m (at p t))
        → value_of s (word_at p y) ≡ at p t
    word_number s y t p g k a b =
        rw (pattern-at m p y) (decide (is_variable (word_at p y))
        (λ d. takes-variable s (word_at p y) (at p t) d g a b)
        (λ d. takes-number s (word_at p y) (at p t) d ((fit-member y k p).number d)
        (every-member (λ x. LowWords c.resources x) ps y low k p d) a b))

    under-is : (s : Bindings) (y : QueryPattern) (x : RdfTriple) → Low c.resources s → Memᴰ y ps
        → Instance (mapping_of m s) (pattern_of m y) x → graph_of c m x → Among E c.statements (under s y)
    under-is s y x g k I h =
        let r = in-among x h in
        let t = r.0 in
        let e : under s y ≡ t = triple-ext (under s y) t (λ p.
        under_at s y p
        ∙ word_number s y t p g k (among-low t r.1 p) (among-high t r.1 p)
        (rw (← r.2, named-at m t p) at (I p))) in
        rw e r.1

    solves-solved : (s : Bindings) → length s ≡ variables → Low c.resources s
        → Solves (graph_of c m) (map (pattern_of m) ps) (mapping_of m s) → Solved E c.statements ps unbound s
    solves-solved s h g W = record {
      len = h;
      more = λ v q. absurd (omega (arith, unbound-at variables v, q));
      only = λ v q e. decide (eqb (bound_to s v) 0)
          (λ d. eqb-true (bound_to s v) 0 d)
          (λ d. let z : bound_to s v ≢ 0 = eqb-false (bound_to s v) 0 d in
          let o = (W.domain v).1
          (name_at m (bound_to s v), mapping-at m s v ∙ name-pos m (bound_to s v) (omega arith)) in
          let r = Memᴰ.of_map (pattern_of m) ps o.1 in
          let w = term-var m (word_at o.2 r.0) v
          (sym (pattern-at m o.2 r.0) ∙ ap (pattern_at o.2) r.2 ∙ o.3) in
          absurd (true≢false (sym (occurs-of v ps r.0 o.2 r.1 w) ∙ e)));
      holds = every_of (held s) ps (λ y k.
          let r = W.holds (pattern_of m y) (Memᴰ.map (pattern_of m) k) in under-is s y r.0 g k r.1 r.2);
    }

    -- the number a variable is taken to, 0 where it is not
    abbrev number_at : Option Term → ℕ
    number_at none = 0
    number_at (some w) = number_of_name c m S w

    number-at-le : (o : Option Term) → number_at o ≤ c.resources
    number-at-le none = omega arith
    number-at-le (some w) = number-le c m S w

    -- a defined variable is below the limit, and its name is a number's
    defined : (μ : Mapping) → Solves (graph_of c m) (map (pattern_of m) ps) μ → (v : ℕ) (w : Term) → μ v ≡ some w
        → (v < variables) × (0 < number_of_name c m S w) × (name_at m (number_of_name c m S w) ≡ w)
    defined μ W v w e =
        let o = (W.domain v).1 (w, e) in
        let r = Memᴰ.of_map (pattern_of m) ps o.1 in
        let y = r.0 in
        let p = o.2 in
        let k = term-var m (word_at p y) v (is-term p y (sym r.2) o.3) in
        let i : is_variable (word_at p y) ≡ true = rw k (le-leb first_variable (first_variable + v) (omega arith)) in
        let h = W.holds o.0 o.1 in
        let a = in-among h.0 h.2 in
        let q : w ≡ name_at m (at p a.0) = some-eq (sym e ∙ says o.3 (h.1 p)) ∙ ap (part_at p) (sym a.2)
        ∙ named-at m a.0 p in
        let n : number_of_name c m S w ≡ at p a.0 =
        ap (number_of_name c m S) q ∙ number-name c m S (at p a.0) (among-low a.0 a.1 p)
        (among-high a.0 a.1 p) in (
          omega (arith, (fit-member y r.1 p).variable i, k),
          rw n (among-low a.0 a.1 p),
          ap (name_at m) n ∙ sym q,
        )
      where
        is-term : {x : TriplePattern} (p : Position) (y : QueryPattern) → x ≡ pattern_of m y → pattern_at p x ≡ var v
            → term_of m (word_at p y) ≡ var v
        is-term p y e d = sym (pattern-at m p y) ∙ ap (pattern_at p) (sym e) ∙ d

        says : {x : PatternTerm} {u : Term} → x ≡ var v → Takes μ x u → μ v ≡ some u
        says e h = rw e at h

    -- a solving mapping is that of a list with a resource for each variable
    pub as-list : (μ : Mapping) → Solves (graph_of c m) (map (pattern_of m) ps) μ
        → (s : Bindings) × (length s ≡ variables) × Low c.resources s × (mapping_of m s ≡ μ)
    unfolding mapping_of
    as-list μ W = (
      tab (λ v. number_at (μ v)) variables,
      tab-length (λ v. number_at (μ v)) variables,
      tab-low (λ v. number_at (μ v)) variables (λ v. number-at-le (μ v)),
      fun_ext (λ v. one v (μ v) refl),
    )
      where
        tab-low : (f : ℕ → ℕ) (n : ℕ) → ((v : ℕ) → f v ≤ c.resources) → Low c.resources (tab f n)
        tab-low f n h v = decide (ltb v n)
            (λ d. rw (tab-at f n v (ltb-true v n d)) (h v))
            (λ d. rw (past_end (tab f n) v (omega (arith, tab-length f n, ltb-false v n d))) (omega arith))

        one : (v : ℕ) (o : Option Term) → μ v ≡ o → name_or m (bound_to (tab (λ v. number_at (μ v)) variables) v) ≡ μ v
        one v none e = decide (ltb v variables)
            (λ d. rw (tab-at (λ v. number_at (μ v)) variables v (ltb-true v variables d), e) (name-none m 0 refl))
            (λ d. rw (
              past_end (tab (λ v. number_at (μ v)) variables) v
                  (omega (arith, tab-length (λ v. number_at (μ v)) variables, ltb-false v variables d)),
              e,
            )
            (name-none m 0 refl))
        one v (some w) e =
            let h = defined μ W v w e in
            rw (tab-at (λ v. number_at (μ v)) variables v h.0, e)
            (name-pos m (number_of_name c m S w) h.1 ∙ ap some h.2)

    pub exactly : (μ : Mapping) → Solves (graph_of c m) (map (pattern_of m) ps) μ
        ↔ Memᴰ μ (map (mapping_of m) (solve E c.statements ps unbound))
    exactly μ = (
      (λ W. let r = as-list μ W in
          rw (← r.3) (Memᴰ.map (mapping_of m)
          (solve-complete E c.statements positive ps unbound r.0 fit
          (solves-solved r.0 r.1 r.2 (rw (← r.3) at W))))),
      (λ k. let r = Memᴰ.of_map (mapping_of m) (solve E c.statements ps unbound) k in
          rw (← r.2) (solved-solves r.0 (solve-sound E c.statements positive ps unbound r.0 fit r.1))),
    )

    pub solution-low : (s : Bindings) → Memᴰ s (solve E c.statements ps unbound) → Low c.resources s
    solution-low s k = solve-low E c.statements c.resources smaller ps unbound s
        (low-none c.resources variables) k

    pub solution-length : (s : Bindings) → Memᴰ s (solve E c.statements ps unbound) → length s ≡ variables
    solution-length s k = (solve-sound E c.statements positive ps unbound s fit k).len

    -- part of the enumeration, as mappings, has no duplicates
    pub once-as-mappings : (ss : List Bindings)
        → ((s : Bindings) → Memᴰ s ss → Memᴰ s (solve E c.statements ps unbound))
        → NoDuplicates ss → NoDuplicates (map (mapping_of m) ss)
    once-as-mappings ss h d = map-once (mapping_of m) ss (λ x y a b e.
        mapping-apart x y (solution-length x (h x a) ∙ sym (solution-length y (h y b))) (solution-low x (h x a))
        (solution-low y (h y b)) e) d
