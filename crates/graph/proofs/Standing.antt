-- Refusal 6 of a query in the paper's words (`PlaceClaim`, `BadPlaceClaim`): entered records match, each under the
-- earlier ones, exactly if one assignment serves them all, and what they bind is that assignment on the variables of
-- their patterns. Assumes nothing.
use mathlib.Core.Path.{◌≡◌, refl, sym, ap, ◌∙◌, fun_ext}
use mathlib.Core.Logic.{◌≢◌, ◌↔◌, inl}
use mathlib.Core.Bool.{true, false, cond, true≢false}
use mathlib.Core.List.{List, [], ◌∷◌}
use mathlib.Core.Option.{some}
use Prim.Native.Nat.{ℕ, ◌+◌, ◌-◌, ◌≤◌, ◌<◌}
use native.Mathlib.Omega.{arith}
use lib.ListN.{length}
use lib.Dec.{eqb, ltb}
use borrow.Author.Tests.{eqb-true, eqb-false, ltb-true, ltb-false, le-leb}
use Rattle.store.specs.declared.Counters.{Counters}
use Rattle.store.specs.declared.Position.{Position}
use Rattle.store.specs.declared.Position.TheVariants.{Subject, Predicate, Object}
use Rattle.store.specs.declared.Triple.{Triple}
use Rattle.store.specs.Shared.{at}
use Rattle.store.specs.Lists.{is_some}
use Rattle.store.specs.Tables.{Tables, fits}
use Rattle.store.specs.Scan.{chain_ok}
use Rattle.store.specs.RefusalClaims.{ChainStands}
use Rattle.store.proofs.Tests.{decide, known-low, known-high, known_of}
use Rattle.store.proofs.Limits.{chain-means, record-means}
use Rattle.graph.specs.declared.QueryPattern.{QueryPattern}
use Rattle.graph.specs.declared.Level.{Level}
use Rattle.graph.specs.declared.QueryCursor.{QueryCursor}
use Rattle.std.specs.Prelude.{Result}
use Rattle.store.specs.declared.Refusal.{Refusal}
use Rattle.graph.specs.declared.QueryAnswer.{QueryAnswer}
use Rattle.graph.specs.Words.{variables, first_variable, is_variable, patterns_of, words_ok, Bindings, bound_to}
use Rattle.graph.specs.Words.{value_of, under}
use Rattle.graph.specs.Place.{Place, start, inside, finish, place_of}
use Rattle.graph.specs.Query.{match, record_at, next_pattern, binds, asked, entered_ok, place_ok}
use Rattle.graph.specs.Query.{answer_of, packed, stale, next_query_of}
use Rattle.graph.specs.Values.{query_values}
use Rattle.graph.specs.Standing.{word_under, triple_under, Each, occurs_in, bound_by, scan_under, record_on}
use Rattle.graph.specs.Standing.{InsideStands, PlaceStands, PlaceClaim, BadPlaceClaim}
use Rattle.graph.proofs.Laws.{Tested, entered-tests, PlaceTested, place-tests}
use Rattle.graph.proofs.Refusals.{says, answer-not, number-not}
use Rattle.graph.proofs.Generations.{own-number, read-on, stale-number, stale-means}
use Rattle.graph.proofs.Bind.{word_at, Fit, More, Fits3, Known3, Matched, some-or_else, more-trans, match-matched}
use Rattle.graph.proofs.Bind.{match-complete, value-number, value-variable}
use Rattle.graph.proofs.Solve.{AllFit, triple-ext, under_at, under_more, occurs_in-at, matched-reads}
use Rattle.graph.proofs.Levels.{fit_at}
use Rattle.graph.proofs.Solutions.{tab, tab-length, tab-at, past_end, unbound-at}
use Rattle.graph.proofs.Calls.{words-fitting}

-- ---- patterns under an assignment

under-bound : (b : Bindings) (x : QueryPattern) → under b x ≡ triple_under (bound_to b) x
unfolding under value_of triple_under word_under
under-bound b x = refl

triple_under-at : (σ : ℕ → ℕ) (x : QueryPattern) (p : Position) → at p (triple_under σ x) ≡ word_under σ (word_at p x)
unfolding triple_under
triple_under-at σ x Subject = refl
triple_under-at σ x Predicate = refl
triple_under-at σ x Object = refl

word_under-var : (σ : ℕ → ℕ) (v : ℕ) → word_under σ (first_variable + v) ≡ σ v
unfolding word_under
word_under-var σ v = let e : first_variable + v - first_variable ≡ v = omega arith in
    rw (le-leb first_variable (first_variable + v) (omega arith)) (ap σ e)

-- a list of resources that has the assignment's
tab-word : (σ : ℕ → ℕ) (w : ℕ) → Fit variables w → value_of (tab σ variables) w ≡ word_under σ w
unfolding word_under
tab-word σ w f = decide (is_variable w)
    (λ d. rw (value-variable (tab σ variables) w d, d) (tab-at σ variables (w - first_variable) (f.variable d)))
    (λ d. rw (value-number (tab σ variables) w d, d))

tab-under : (σ : ℕ → ℕ) (x : QueryPattern) → Fits3 variables x → under (tab σ variables) x ≡ triple_under σ x
tab-under σ x f = triple-ext (under (tab σ variables) x) (triple_under σ x) (λ p.
    under_at (tab σ variables) x p ∙ tab-word σ (word_at p x) (f p) ∙ sym (triple_under-at σ x p))

-- ---- entered records that match

module _ (stm : List ℕ) (ps : List QueryPattern) (fit : AllFit variables ps) where
  abbrev rec : Level → Triple
  rec e = record_at stm e.statement.0

  -- a level entered: its record has resources and matches under the earlier ones
  pub record Step (e : Level) (up : List Level) : Type 0 where
    pub room : length up < length ps
    pub positive : Known3 (rec e)
    pub matched : match (next_pattern ps up) (rec e) (binds stm ps up) ≡ some (binds stm ps (e ∷ up))

  match-binds : (e : Level) (up : List Level) → is_some (match (next_pattern ps up) (rec e) (binds stm ps up)) ≡ true
      → match (next_pattern ps up) (rec e) (binds stm ps up) ≡ some (binds stm ps (e ∷ up))
  unfolding binds
  match-binds e up h = some-or_else (match (next_pattern ps up) (rec e) (binds stm ps up)) (binds stm ps up) h

  next-fit : (up : List Level) → length up < length ps → Fits3 variables (next_pattern ps up)
  unfolding next_pattern
  next-fit up h = fit_at variables ps (length up) fit h

  step-matched : (e : Level) (up : List Level) → length (binds stm ps up) ≡ variables → Step e up
      → Matched (next_pattern ps up) (rec e) (binds stm ps up) (binds stm ps (e ∷ up))
  step-matched e up l S =
      match-matched (next_pattern ps up) (rec e) (binds stm ps up) (binds stm ps (e ∷ up)) (rw l (next-fit up S.room))
      S.positive S.matched

  binds-length : (up : List Level) → Each Step up → length (binds stm ps up) ≡ variables
  binds-length [] S = unfold binds in refl
  binds-length (e ∷ up) S = let l = binds-length up S.1 in (step-matched e up l S.0).len ∙ l

  -- each entered record is its pattern's triple
  abbrev Served : (ℕ → ℕ) → List Level → Type 0
  Served σ = Each (λ e up. rec e ≡ triple_under σ (next_pattern ps up))

  -- what is bound serves them all
  served : (s : Bindings) (up : List Level) → Each Step up → More (binds stm ps up) s → Served (bound_to s) up
  served s [] S m = tt
  served s (e ∷ up) S m =
      let M = step-matched e up (binds-length up S.1) S.0 in (
        under_more (binds stm ps (e ∷ up)) s (next_pattern ps up) (rec e) m S.0.positive M.reads
            ∙ under-bound s (next_pattern ps up),
        served s up S.1 (more-trans (binds stm ps up) (binds stm ps (e ∷ up)) s M.more m),
      )

  module _ (σ : ℕ → ℕ) where
    -- what is bound is the assignment, on the variables of the patterns entered
    bound-is : (up : List Level) → Each Step up → Served σ up → (v : ℕ)
        → bound_to (binds stm ps up) v ≡ cond (bound_by ps up v) (σ v) 0
    unfolding bound_by
    bound-is [] S A v = unfold binds in (unbound-at variables v)
    bound-is (e ∷ up) S A v =
        let x = next_pattern ps up in
        let b = binds stm ps up in
        let b' = binds stm ps (e ∷ up) in
        let M = step-matched e up (binds-length up S.1) S.0 in
        let ih = bound-is up S.1 A.1 v in
        decide (occurs_in v x)
        (λ d. let r = occurs_in-at v x d in rw d
        (matched-reads x (rec e) b b' M v r.0 r.1 ∙ ap (at r.0) A.0 ∙ triple_under-at σ x r.0
        ∙ ap (word_under σ) r.1 ∙ word_under-var σ v))
        (λ d. rw d (decide (eqb (bound_to b v) 0)
        (λ z. let n = eqb-true (bound_to b v) 0 z in M.only v n d ∙ sym n ∙ ih)
        (λ z. let n : bound_to b v ≢ 0 = eqb-false (bound_to b v) 0 z in M.more v (omega arith) ∙ ih)))

    asked_is : (up : List Level) → Each Step up → Served σ up → asked stm ps up ≡ scan_under ps σ up
    unfolding asked scan_under
    asked_is up S A =
        under-bound (binds stm ps up) (next_pattern ps up)
        ∙ ap (λ (f : ℕ → ℕ). triple_under f (next_pattern ps up)) (fun_ext (bound-is up S A))

    chains-are : (up : List Level) → Each Step up → Served σ up
        → Each (λ e up. chain_ok e.chain (asked stm ps up) ≡ true) up
        ↔ Each (λ e up. ChainStands e.chain (scan_under ps σ up)) up
    chains-are [] S A = (λ C. tt, λ C. tt)
    chains-are (e ∷ up) S A =
        let k = chains-are up S.1 A.1 in
        let q = asked_is up S.1 A.1 in
        let t = chain-means e.chain (scan_under ps σ up) in
        (λ C. (t.0 (rw q at C.0), k.0 C.1), λ C. (rw q (t.1 C.0), k.1 C.1))

    -- a match is found where an assignment serves
    more-tab : (up : List Level) → Each Step up → Served σ up → More (binds stm ps up) (tab σ variables)
    more-tab up S A v h = decide (ltb v variables)
        (λ d. decide (bound_by ps up v)
        (λ z. tab-at σ variables v (ltb-true v variables d) ∙ sym (rw z at (bound-is up S A v)))
        (λ z. absurd (omega (arith, rw z at (bound-is up S A v)))))
        (λ d. absurd (omega (
          arith,
          past_end (binds stm ps up) v
              (omega (arith, binds-length up S, ltb-false v variables d)),
        )))

    steps_of : (up : List Level) → length up ≤ length ps → Each (λ e up. Known3 (rec e)) up → Served σ up → Each Step up
    steps_of [] h K A = tt
    steps_of (e ∷ up) h K A =
        let S = steps_of up (omega arith) K.1 A.1 in
        let l = binds-length up S in
        let f = next-fit up (omega arith) in
        let r = match-complete (next_pattern ps up) (rec e) (binds stm ps up) (tab σ variables) (rw l f) K.0
        (tab-length σ variables ∙ sym l) (more-tab up S A.1) (tab-under σ (next_pattern ps up) f ∙ sym A.0) in
        (record { room = omega arith; positive = K.0; matched = match-binds e up (ap is_some r.1) }, S)

-- ---- the places

each_map : (P Q : Level → List Level → Type 0) → ((e : Level) (up : List Level) → P e up → Q e up) → (up : List Level)
    → Each P up → Each Q up
each_map P Q f [] h = tt
each_map P Q f (e ∷ up) h = (f e up h.0, each_map P Q f up h.1)

module _ (c : Counters) (m : Tables) (ws : List ℕ) (fit : AllFit variables (patterns_of ws)) where
  abbrev stm : List ℕ
  stm = m.statements

  abbrev ps : List QueryPattern
  ps = patterns_of ws

  abbrev Test : Level → List Level → Type 0
  Test = Tested c.resources c.statements stm ps

  abbrev Steps : List Level → Type 0
  Steps = Each (Step stm ps fit)

  tested : (up : List Level) → entered_ok stm ps c.resources c.statements up ≡ true ↔ Each Test up
  unfolding entered_ok
  tested [] = (λ o. tt, λ T. refl)
  tested (e ∷ up) =
      let k = tested up in
      let f = entered-tests c.resources c.statements stm ps e up in
      (λ o. ((f.0 o).0, k.0 (f.0 o).1), λ T. f.1 (T.0, k.1 T.1))

  tested-steps : (up : List Level) → length up ≤ length ps → Each Test up → Steps up
  tested-steps [] h T = tt
  tested-steps (e ∷ up) h T = (
    record {
      room = omega arith;
      positive = known-low c.resources (record_on c m ws e) T.0.resources;
      matched = match-binds stm ps fit e up T.0.matched;
    },
    tested-steps up (omega arith) T.1,
  )

  steps-tested : (up : List Level) → Each (λ e up. e.statement.0 ≤ c.statements) up
      → Each (λ e up. 0 < e.statement.0) up
      → Each (λ e up. (p : Position) → (0 < at p (record_on c m ws e)) × (at p (record_on c m ws e) ≤ c.resources)) up
      → Each (λ e up. chain_ok e.chain (asked stm ps up) ≡ true) up → Steps up → Each Test up
  steps-tested [] n z k o S = tt
  steps-tested (e ∷ up) n z k o S = (
    record {
      positive = z.0;
      within = n.0;
      chain = o.0;
      resources = known_of c.resources (record_on c m ws e) (λ p. (k.0 p).0) (λ p. (k.0 p).1);
      matched = ap is_some S.0.matched;
    },
    steps-tested up n.1 z.1 k.1 o.1 S.1,
  )

  stands_of : (l : Level) (up : List Level) → PlaceTested c.resources c.statements stm ps l up
      → InsideStands c m ws l up
  stands_of l up P =
      let T = (tested up).0 P.entered in
      let S = tested-steps up (omega (arith, P.room)) T in
      let σ = bound_to (binds stm ps up) in
      let A = served stm ps fit (binds stm ps up) up S (λ v q. refl) in
      let q = asked_is stm ps fit σ up S A in
      record {
        levels = P.room;
        numbers = (P.within, each_map Test (λ e up. e.statement.0 ≤ c.statements) (λ e up U. U.within) up T);
        entered = each_map Test (λ e up. 0 < e.statement.0) (λ e up U. U.positive) up T;
        resources = each_map Test _
            (λ e up U p. (known-low c.resources _ U.resources p, known-high c.resources _ U.resources p))
            up T;
        assignment = σ;
        matching = A;
        chains = (
          (chain-means l.chain (scan_under ps σ up)).0 (rw q at P.chain),
          (chains-are stm ps fit σ up S A).0
              (each_map Test (λ e up. chain_ok e.chain (asked stm ps up) ≡ true) (λ e up U. U.chain) up T),
        );
        next = (record-means stm l.chain (scan_under ps σ up) l.statement.0).0 (rw q at P.next);
      }

  tests-of : (l : Level) (up : List Level) → InsideStands c m ws l up
      → PlaceTested c.resources c.statements stm ps l up
  tests-of l up I =
      let σ = I.assignment in
      let A = I.matching in
      let h : length up < length ps = I.levels in
      let S = steps_of stm ps fit σ up (omega arith) (each_map _ _ (λ e up k p. (k p).0) up I.resources) A in
      let q = asked_is stm ps fit σ up S A in
      record {
        room = h;
        entered = (tested up).1
            (steps-tested up I.numbers.1 I.entered I.resources
            ((chains-are stm ps fit σ up S A).1 I.chains.1) S);
        within = I.numbers.0;
        chain = rw q ((chain-means l.chain (scan_under ps σ up)).1 I.chains.0);
        next = rw q ((record-means stm l.chain (scan_under ps σ up) l.statement.0).1 I.next);
      }

  place-means : (q : Place) → place_ok stm ps c.resources c.statements q ≡ true ↔ PlaceStands c m ws q
  unfolding place_ok
  place-means start = (λ o. tt, λ S. refl)
  place-means (inside l up) =
      let f = place-tests c.resources c.statements stm ps l up in
      (λ o. stands_of l up (f.0 o), λ I. f.1 (tests-of l up I))
  place-means finish = (λ o. tt, λ S. refl)

pub place-stands : PlaceClaim
place-stands c m ws f w q = place-means c m ws (words-fitting c m ws f w).0 q

-- ---- refusal 6

six-when : (c : Counters) (m : Tables) (ws : List ℕ) (q : Place) (b : ℕ) → says 6 (answer_of c m ws q b) ≡ true
    → (fits c m ≡ true) × (words_ok c.resources ws ≡ true)
    × (place_ok m.statements (patterns_of ws) c.resources c.statements q ≡ false)
unfolding answer_of
six-when c m ws q b =
    decide (fits c m)
    (λ f. decide (words_ok c.resources ws)
    (λ w. decide (place_ok m.statements (patterns_of ws) c.resources c.statements q)
    (λ o h. absurd (true≢false (sym h
    ∙ answer-not 6 (omega arith) (omega arith) (omega arith) (omega arith) c m ws q b (inl o))))
    (λ o h. (f, w, o)))
    (λ w. rw (f, w) (λ h. absurd (true≢false (sym h)))))
    (λ f. rw f (λ h. absurd (true≢false (sym h))))

six-of : (c : Counters) (m : Tables) (ws : List ℕ) (q : Place) (b : ℕ) → fits c m ≡ true
    → words_ok c.resources ws ≡ true
    → place_ok m.statements (patterns_of ws) c.resources c.statements q ≡ false
    → (query_values (packed c.generation (answer_of c m ws q b))).refusal ≡ 6
unfolding answer_of packed
six-of c m ws q b f w o = rw (f, w, o)

module _ (c : Counters) (m : Tables) (ws : List ℕ) (q : QueryCursor) (b : ℕ) where
  abbrev Six : Result QueryAnswer Refusal → Type 0
  Six a = (query_values a).refusal ≡ 6

  not-stale : Six (next_query_of c m ws q b) → stale c m ws q ≡ false
  not-stale h = decide (stale c m ws q)
      (λ s. let e = stale-means c m ws q s in absurd (omega (arith, stale-number c m ws q b e.0 e.1 e.2)))
      (λ s. s)

  six-tests : Six (next_query_of c m ws q b) → (fits c m ≡ true) × (words_ok c.resources ws ≡ true)
      × (place_ok m.statements (patterns_of ws) c.resources c.statements (place_of q) ≡ false)
  six-tests h =
      let a = answer_of c m ws (place_of q) b in
      let k : Six (packed c.generation a) = rw (read-on c m ws q b (not-stale h)) at h in
      six-when c m ws (place_of q) b
      (decide (says 6 a) (λ e. e) (λ e. absurd (number-not 6 c.generation a (omega arith) e k)))

  six-number : Six (next_query_of c m ws q b) → q.generation ≡ c.generation
  six-number h = let k = six-tests h in
      decide (eqb q.generation c.generation) (λ e. eqb-true q.generation c.generation e)
      (λ e. absurd (omega (arith, stale-number c m ws q b k.0 k.1 (eqb-false q.generation c.generation e))))

pub bad-place : BadPlaceClaim
bad-place c m ws q b = (
  λ h. let k = six-tests c m ws q b h in (
    k.0,
    k.1,
    six-number c m ws q b h,
    λ S. true≢false (sym ((place-stands c m ws k.0 k.1 (place_of q)).1 S) ∙ k.2),
  ),
  λ h. rw (read-on c m ws q b (own-number c m ws q h.2))
      (six-of c m ws (place_of q) b h.0 h.1
      (decide (place_ok m.statements (patterns_of ws) c.resources c.statements (place_of q))
      (λ o. absurd (h.3 ((place-stands c m ws h.0 h.1 (place_of q)).0 o))) (λ o. o))),
)
