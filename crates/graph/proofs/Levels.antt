-- On linked tables one visit, one level left, one level entered goes through the list of solutions (`solve`) and is
-- never refused; the visits left are counted beside. Assumes nothing.
use mathlib.Core.Path.{◌≡◌, refl, sym, ap, ◌∙◌}
use mathlib.Core.Logic.{◌≢◌}
use mathlib.Core.Bool.{Bool, true, false, cond, true≢false}
use mathlib.Core.List.{List, [], ◌∷◌, ◌++◌, append_assoc, append-nil}
use mathlib.Core.Option.{Option, none, some}
use Prim.Native.Nat.{ℕ, zero, suc, ◌+◌, ◌-◌, ◌≤◌, ◌<◌}
use native.Mathlib.Omega.{arith}
use lib.ListN.{length, get_or, set, drop, replicate, drop_of_length-le}
use lib.Seq.{set_out, drop-cons}
use lib.Dec.{eqb, ltb}
use borrow.Author.Tests.{eqb-true, eqb-false, eq-eqb, ltb-true, ltb-false}
use Rattle.store.specs.declared.Position.{Position}
use Rattle.store.specs.declared.Position.TheVariants.{Subject, Predicate, Object}
use Rattle.store.specs.declared.Chain.{Chain}
use Rattle.store.specs.declared.Chain.TheVariants.{All, By}
use Rattle.store.specs.declared.Triple.{Triple}
use Rattle.store.specs.Shared.{at, below, head0, prev}
use Rattle.store.specs.Tables.{triple_at}
use Rattle.store.specs.Model.{on_chain}
use Rattle.store.specs.Walk.{entry_at, start_of, pick_chain}
use Rattle.store.specs.Scan.{chain_ok}
use Rattle.store.specs.Soundness.{Linked}
use Rattle.store.proofs.Tests.{decide}
use Rattle.store.proofs.Falling.{head-le, head-passes}
use Rattle.store.proofs.Words.{triple-at}
use Rattle.store.proofs.Picking.{Bound, pick-ok}
use Rattle.store.proofs.Chains.{on_words, chain-links, chain-fine, chain-start, pickable-linked}
use Rattle.graph.specs.declared.QueryPattern.{QueryPattern}
use Rattle.graph.specs.declared.Level.{Level}
use Rattle.graph.specs.Words.{first_variable, is_variable, variables, Bindings, resource, bound_to, pattern, value_of}
use Rattle.graph.specs.Words.{under}
use Rattle.graph.specs.Query.{bind_word, match, Turn, bad, go, whole, record_at, past}
use Rattle.graph.specs.Place.{level}
use Rattle.graph.specs.Query.{level_retracted, backtrack, remains, next_pattern, binds, asked, enter, hit, tried}
use Rattle.graph.specs.Query.{visit}
use Rattle.graph.proofs.Bind.{word_at, bound-same, bound-other, Fits3, Known3, or_l, or_r, none≢some, some-eq}
use Rattle.graph.proofs.Bind.{after-some, value-number, value-variable, value-more, match-matched}
use Rattle.graph.proofs.Solve.{down, each, solve, Every, every-at, AllFit, under_at, hit-some}
use Rattle.graph.specs.Work.{hit_at, sum_to, each_n, work}

-- ---- leaving out what a chain leaves out

down-skip : {A : Type 0} (f : ℕ → Bool) (g : ℕ → List A) (n : ℕ) → ((i : ℕ) → i < n → f i ≡ false → g i ≡ [])
    → down g (head0 (below f n)) ≡ down g n
unfolding below down
down-skip f g zero h = refl
down-skip f g (suc n) h = decide (f n)
    (λ e. rw e)
    (λ e. rw (e, h n (omega arith) e) (down-skip f g n (λ i q. h i (omega arith))))

sum-skip : (f : ℕ → Bool) (g : ℕ → ℕ) (n : ℕ) → ((i : ℕ) → i < n → f i ≡ false → g i ≡ 0)
    → sum_to g (head0 (below f n)) ≡ sum_to g n
unfolding below sum_to
sum-skip f g zero h = refl
sum-skip f g (suc n) h = decide (f n)
    (λ e. rw e)
    (λ e. rw e (omega (arith, h n (omega arith) e, sum-skip f g n (λ i q. h i (omega arith)))))

-- ---- small numbers

abbrev pub Low : ℕ → Bindings → Type 0
Low k b = (v : ℕ) → bound_to b v ≤ k

set-low : (k : ℕ) (b : Bindings) (i n : ℕ) → Low k b → n ≤ k → Low k (set b i (resource n))
set-low k b i n h q v = decide (eqb v i)
    (λ e. decide (ltb i (length b))
    (λ d. rw (eqb-true v i e, bound-same b i n (ltb-true i (length b) d)) q)
    (λ d. rw (set_out b i (resource n) (ltb-false i (length b) d)) (h v)))
    (λ e. rw (bound-other b i v n (eqb-false v i e)) (h v))

bind-low : (k w r : ℕ) (b b' : Bindings) → Low k b → r ≤ k → bind_word w r b ≡ some b' → Low k b'
unfolding bind_word
bind-low k w r b b' h q e = decide (eqb (value_of b w) 0)
    (λ d. rw (← some-eq (rw d at e)) (set-low k b (w - first_variable) r h q))
    (λ d. decide (eqb (value_of b w) r)
    (λ g. rw (← some-eq (rw (d, g) at e)) h)
    (λ g. none≢some (rw (d, g) at e)))

pub match_low : (k : ℕ) (x : QueryPattern) (t : Triple) (b b' : Bindings) → Low k b → ((p : Position) → at p t ≤ k)
    → match x t b ≡ some b' → Low k b'
unfolding match
match_low k x t b b' h q e =
    let r1 = after-some (bind_word x.subject t.subject.0 b) _ b' e in
    let r2 = after-some (bind_word x.predicate t.predicate.0 r1.0) _ b' r1.2 in
    bind-low k x.object t.object.0 r2.0 b'
    (bind-low k x.predicate t.predicate.0 r1.0 r2.0
    (bind-low k x.subject t.subject.0 b r1.0 h (q Subject) r1.1) (q Predicate) r2.1) (q Object)
    r2.2

-- the numbers of a pattern are known ones
abbrev pub LowWords : ℕ → QueryPattern → Type 0
LowWords k x = (p : Position) → is_variable (word_at p x) ≡ false → word_at p x ≤ k

abbrev pub AllLow : ℕ → List QueryPattern → Type 0
AllLow k ps = Every (λ x. LowWords k x) ps

pub fit_at : (k : ℕ) (ps : List QueryPattern) (i : ℕ) → AllFit k ps → i < length ps
    → Fits3 k (get_or ps i (pattern 0 0 0))
fit_at k ps i f h = every-at (λ x. Fits3 k x) (pattern 0 0 0) ps i f h

low-at : (k : ℕ) (ps : List QueryPattern) (i : ℕ) → AllLow k ps → i < length ps → LowWords k (get_or ps i (pattern 0 0 0))
low-at k ps i f h = every-at (λ x. LowWords k x) (pattern 0 0 0) ps i f h

pub low-none : (k n : ℕ) → Low k (replicate n (resource 0))
low-none k zero v = omega arith
low-none k (suc n) zero = omega arith
low-none k (suc n) (suc v) = low-none k n v

ok-bound : (ch : Chain) (x : Triple) → chain_ok ch x ≡ true → Bound ch x
unfolding chain_ok
ok-bound All x e = tt
ok-bound (By p) x e = ltb-true 0 (at p x) e

-- a record that matches stands on every chain that may be picked
pub match-on : (stm : List ℕ) (ch : Chain) (x : QueryPattern) (b b' : Bindings) (i : ℕ) → Fits3 (length b) x
    → Known3 (triple_at stm i)
    → chain_ok ch (under b x) ≡ true → match x (triple_at stm i) b ≡ some b' → on_words stm ch (under b x) i ≡ true
unfolding on_chain
match-on stm All x b b' i f k o e = refl
match-on stm (By p) x b b' i f k o e =
    let M = match-matched x (triple_at stm i) b b' f k e in
    let q : 0 < value_of b (word_at p x) = rw (under_at b x p) at (ok-bound (By p) (under b x) o) in
    eq-eqb _ _ (sym (M.reads p) ∙ under_at b' x p ∙ value-more b b' (word_at p x) M.more q ∙ sym (under_at b x p))

hit-match : (stm : List ℕ) (x : QueryPattern) (b b' : Bindings) (i : ℕ) → hit_at (entry_at stm) x b i ≡ some b'
    → match x (triple_at stm i) b ≡ some b'
hit-match stm x b b' i e = (unfold entry_at in (hit-some (entry_at stm) x b b' i e).1)

pub suc-prev : (n : ℕ) → 0 < n → n ≡ suc (prev n)
suc-prev zero h = absurd (omega arith)
suc-prev (suc n) h = refl

module _ (r t : ℕ) (res stm : List ℕ) (ps : List QueryPattern) where
  -- what pattern by pattern is left: the solutions whose record at a level is below n, those of the levels before
  unfoldable pub sols : List Level → ℕ → List Bindings
  sols up i = each (hit_at (entry_at stm) (next_pattern ps up) (binds stm ps up) i)
      (λ b. solve (entry_at stm) t (drop (suc (length up)) ps) b)

  unfoldable pub above : List Level → List Bindings
  above [] = []
  above (e ∷ up) = down (sols up) (prev e.statement.0) ++ above up

  unfoldable pub left : Level → List Level → List Bindings
  left l up = down (sols up) l.statement.0 ++ above up

  unfoldable pub toil : Chain → List Level → ℕ → ℕ
  toil ch up i = cond (on_words stm ch (asked stm ps up) i)
      (suc (each_n (hit_at (entry_at stm) (next_pattern ps up) (binds stm ps up) i)
      (λ b. work (entry_at stm) t (pick_chain res) (drop (suc (length up)) ps) b))) 0

  unfoldable pub toil_above : List Level → ℕ
  toil_above [] = 0
  toil_above (e ∷ up) = sum_to (toil e.chain up) (prev e.statement.0) + toil_above up

  unfoldable pub toil_left : Level → List Level → ℕ
  toil_left l up = sum_to (toil l.chain up) l.statement.0 + toil_above up

  pub record Deep (l : Level) (up : List Level) : Type 0 where
    pub room : length up < length ps
    pub picked : chain_ok l.chain (asked stm ps up) ≡ true
    pub le : l.statement.0 ≤ t
    pub here : (i : ℕ) → l.statement.0 ≡ suc i → on_words stm l.chain (asked stm ps up) i ≡ true

  pub record Passed (e : Level) (up : List Level) : Type 0 where
    pub deep : Deep e up
    pub pos : 0 < e.statement.0
    pub hits : hit r t res stm ps e up ≡ some (binds stm ps (e ∷ up))

  abbrev pub Entered : List Level → Type 0
  Entered [] = Unit {0}
  Entered (e ∷ up) = Passed e up × Entered up

  abbrev pub Backtracked : Level → List Level → List Level → Type 0
  Backtracked l up [] = (left l up ≡ []) × (toil_left l up ≡ 0)
  Backtracked l up (m ∷ top) = Deep m top × Entered top × (0 < m.statement.0) × (left m top ≡ left l up)
      × (toil_left m top ≡ toil_left l up)

  abbrev pub first_of : List Level → Level
  first_of up = level (pick_chain res (asked stm ps up))
      (start_of t res (pick_chain res (asked stm ps up)) (asked stm ps up))

  abbrev pub Turned : Level → List Level → Turn → Type 0
  Turned m top bad = ⊥
  Turned m top (go l up) = Deep l up × Entered up × (left l up ≡ left m top) × (suc (toil_left l up) ≡ toil_left m top)
  Turned m top (whole s l up) = Deep l up × Entered up × (left m top ≡ s ∷ left l up)
      × (suc (toil_left l up) ≡ toil_left m top)

  module _ (L : Linked r t res stm) (fit : AllFit variables ps) (low : AllLow r ps) where
    pub tri-low : (i : ℕ) → i < t → Known3 (triple_at stm i)
    tri-low i h p = rw (triple-at stm p i) (L.low p i h)

    pub tri-high : (i : ℕ) → i < t → (p : Position) → at p (triple_at stm i) ≤ r
    tri-high i h p = rw (triple-at stm p i) (L.high p i h)

    -- ---- places as calls leave them

    -- the machine's hit is the enumerator's
    pub hit_same : (l : Level) (up : List Level) → hit r t res stm ps l up ≡ hit_at (entry_at stm) (next_pattern ps up)
        (binds stm ps up) (prev l.statement.0)
    unfolding hit hit_at level_retracted record_at entry_at
    hit_same l up = refl

    pub under_top : (e : Level) (up : List Level) → Passed e up → prev e.statement.0 < t
    under_top e up P = let q = P.deep.le in let r = suc-prev e.statement.0 P.pos in omega arith

    pub passed-match : (e : Level) (up : List Level) → Passed e up
        → match (next_pattern ps up) (triple_at stm (prev e.statement.0)) (binds stm ps up)
        ≡ some (binds stm ps (e ∷ up))
    unfolding entry_at
    passed-match e up P = (hit-some _ _ _ _ _ (sym (hit_same e up) ∙ P.hits)).1

    binds-len : (up : List Level) → Entered up → length (binds stm ps up) ≡ variables
    unfolding binds next_pattern
    binds-len [] N = refl
    binds-len (e ∷ up) N =
        let P = N.0 in let l = binds-len up N.1 in
        (match-matched (next_pattern ps up) (triple_at stm (prev e.statement.0)) (binds stm ps up)
        (binds stm ps (e ∷ up))
        (rw l (fit_at variables ps (length up) fit P.deep.room))
        (tri-low (prev e.statement.0) (under_top e up P)) (passed-match e up P)).len ∙ l

    binds-low : (up : List Level) → Entered up → Low r (binds stm ps up)
    unfolding binds
    binds-low [] N = low-none r variables
    binds-low (e ∷ up) N =
        let P = N.0 in
        match_low r (next_pattern ps up) (triple_at stm (prev e.statement.0)) (binds stm ps up)
        (binds stm ps (e ∷ up)) (binds-low up N.1)
        (tri-high (prev e.statement.0) (under_top e up P)) (passed-match e up P)

    pub pat-fit : (up : List Level) → Entered up → length up < length ps
        → Fits3 (length (binds stm ps up)) (next_pattern ps up)
    unfolding next_pattern
    pat-fit up N h = rw (binds-len up N) (fit_at variables ps (length up) fit h)

    asked_low : (up : List Level) → Entered up → length up < length ps → (p : Position) → at p (asked stm ps up) ≤ r
    unfolding asked next_pattern
    asked_low up N h p =
        rw (under_at (binds stm ps up) (get_or ps (length up) (pattern 0 0 0)) p)
        (decide (is_variable (word_at p (get_or ps (length up) (pattern 0 0 0))))
        (λ d. rw (value-variable (binds stm ps up) (word_at p (get_or ps (length up) (pattern 0 0 0))) d)
        (binds-low up N (word_at p (get_or ps (length up) (pattern 0 0 0)) - first_variable)))
        (λ d. rw (value-number (binds stm ps up) (word_at p (get_or ps (length up) (pattern 0 0 0))) d)
        (low-at r ps (length up) low h p d)))

    -- off the chain there is no hit
    off-chain : (ch : Chain) (up : List Level) → Entered up → length up < length ps
        → chain_ok ch (asked stm ps up) ≡ true
        → (i : ℕ) → i < t → on_words stm ch (asked stm ps up) i ≡ false → sols up i ≡ []
    unfolding sols
    off-chain ch up N h o i q z = none-hit (hit_at (entry_at stm) (next_pattern ps up) (binds stm ps up) i) refl
      where
        none-hit : (r : Option Bindings) → hit_at (entry_at stm) (next_pattern ps up) (binds stm ps up) i ≡ r
            → each r (λ b. solve (entry_at stm) t (drop (suc (length up)) ps) b) ≡ []
        none-hit none e = refl
        none-hit (some b') e =
            absurd (true≢false (sym
            (match-on stm ch (next_pattern ps up) (binds stm ps up) b' i (pat-fit up N h) (tri-low i q)
            (unfold asked in o) (hit-match stm (next_pattern ps up) (binds stm ps up) b' i e)) ∙ (unfold asked in z)))

    chain-level : (ch : Chain) (up : List Level) → Entered up → length up < length ps
        → chain_ok ch (asked stm ps up) ≡ true
        → (n : ℕ) → n ≤ t → down (sols up) (head0 (below (on_words stm ch (asked stm ps up)) n)) ≡ down (sols up) n
    chain-level ch up N h o n q =
        down-skip (on_words stm ch (asked stm ps up)) (sols up) n (λ i z. off-chain ch up N h o i (omega arith))

    -- ---- past a record on its chain

    pub past-num : (l : Level) (up : List Level) (i : ℕ) → Deep l up → l.statement.0 ≡ suc i
        → (past stm l).statement.0 ≡ head0 (below (on_words stm l.chain (asked stm ps up)) i)
    unfolding past
    past-num l up i D e =
        rw e (chain-links _ _ _ _ L l.chain (asked stm ps up) i (let q = D.le in omega arith) (D.here i e))

    past-chain : (l : Level) → (past stm l).chain ≡ l.chain
    unfolding past
    past-chain l = refl

    pub past-deep : (l : Level) (up : List Level) (i : ℕ) → Deep l up → l.statement.0 ≡ suc i → Deep (past stm l) up
    past-deep l up i D e =
        let q = past-num l up i D e in
        record {
          room = D.room;
          picked = rw (past-chain l) D.picked;
          le = rw q (omega (arith, head-le (on_words stm l.chain (asked stm ps up)) i, D.le, e));
          here = λ j h. rw (past-chain l) (head-passes (on_words stm l.chain (asked stm ps up)) i j (sym q ∙ h));
        }

    pub past-sols : (l : Level) (up : List Level) (i : ℕ) → Entered up → Deep l up → l.statement.0 ≡ suc i
        → down (sols up) (past stm l).statement.0 ≡ down (sols up) i
    past-sols l up i N D e =
        rw (past-num l up i D e) (chain-level l.chain up N D.room D.picked i (let q = D.le in omega arith))

    toil-off : (ch : Chain) (up : List Level) (i : ℕ) → on_words stm ch (asked stm ps up) i ≡ false → toil ch up i ≡ 0
    unfolding toil
    toil-off ch up i e = rw e

    past-toil : (l : Level) (up : List Level) (i : ℕ) → Deep l up → l.statement.0 ≡ suc i
        → sum_to (toil (past stm l).chain up) (past stm l).statement.0 ≡ sum_to (toil l.chain up) i
    past-toil l up i D e =
        rw (past-chain l, past-num l up i D e)
        (sum-skip (on_words stm l.chain (asked stm ps up)) (toil l.chain up) i (λ j q. toil-off l.chain up j))

    sum-zero : (g : ℕ → ℕ) (n : ℕ) → n ≡ 0 → sum_to g n ≡ 0
    unfolding sum_to
    sum-zero g n e = rw e

    -- ---- levels left

    down-zero : (up : List Level) (n : ℕ) → n ≡ 0 → down (sols up) n ≡ []
    unfolding down
    down-zero up n e = rw e

    backtracked-more : (l l' : Level) (up up' r : List Level) → left l up ≡ left l' up'
        → toil_left l up ≡ toil_left l' up'
        → Backtracked l up r → Backtracked l' up' r
    backtracked-more l l' up up' [] e h S = (sym e ∙ S.0, sym h ∙ S.1)
    backtracked-more l l' up up' (m ∷ top) e h S = (S.0, S.1, S.2, S.3 ∙ e, S.4 ∙ h)

    pub backtracked : (l : Level) (up : List Level) → Deep l up → Entered up → Backtracked l up (backtrack stm l up)
    unfolding backtrack
    backtracked l [] D N = decide (eqb l.statement.0 0)
        (λ d. rw d (unfold left above toil_left toil_above in
        (let z = eqb-true l.statement.0 0 d in
        (rw (down-zero [] l.statement.0 z), rw (sum-zero (toil l.chain []) l.statement.0 z)))))
        (λ d. rw d (let n : l.statement.0 ≢ 0 = eqb-false l.statement.0 0 d in
        (D, tt, omega arith, refl, refl)))
    backtracked l (e ∷ up) D N = decide (eqb l.statement.0 0)
        (λ d. rw d (let P = N.0 in let q = suc-prev e.statement.0 P.pos in
        backtracked-more (past stm e) l up (e ∷ up) (backtrack stm (past stm e) up)
        (unfold left above in
        (rw (down-zero (e ∷ up) l.statement.0 (eqb-true l.statement.0 0 d))
        (ap (λ (r : List Bindings). r ++ above up) (past-sols e up (prev e.statement.0) N.1 P.deep q))))
        (unfold toil_left toil_above in
        (omega (
          arith,
          past-toil e up (prev e.statement.0) P.deep q,
          sum-zero (toil l.chain (e ∷ up))
              l.statement.0 (eqb-true l.statement.0 0 d),
        )))
        (backtracked (past stm e) up (past-deep e up (prev e.statement.0) P.deep q) N.1)))
        (λ d. rw d (let n : l.statement.0 ≢ 0 = eqb-false l.statement.0 0 d in (D, N, omega arith, refl, refl)))

    pub remains-none : (l : Level) (up : List Level) → Entered up → remains stm l up ≡ false → (left l up ≡ [])
        × (toil_left l up ≡ 0)
    unfolding remains left above toil_left toil_above
    remains-none l [] N e = let q = ltb-false 0 l.statement.0 e in let z : l.statement.0 ≡ 0 = omega arith in
        (rw (down-zero [] l.statement.0 z), rw (sum-zero (toil l.chain []) l.statement.0 z))
    remains-none l (e ∷ up) N r =
        let P = N.0 in let s = suc-prev e.statement.0 P.pos in
        let q = ltb-false 0 l.statement.0 (or_l (ltb 0 l.statement.0) _ r) in
        let z : l.statement.0 ≡ 0 = omega arith in
        let h = remains-none (past stm e) up N.1 (or_r (ltb 0 l.statement.0) _ r) in (
          rw (down-zero (e ∷ up) l.statement.0 z, ← past-sols e up (prev e.statement.0) N.1 P.deep s)
              h.0,
          rw (
            sum-zero (toil l.chain (e ∷ up)) l.statement.0 z,
            ← past-toil e up (prev e.statement.0)
                P.deep s,
          ) (omega (arith, h.1)),
        )

    toil-on : (ch : Chain) (up : List Level) (i : ℕ) → on_words stm ch (asked stm ps up) i ≡ true → 0 < toil ch up i
    unfolding toil
    toil-on ch up i e = rw e (omega arith)

    sum-pos : (ch : Chain) (up : List Level) (n : ℕ) → 0 < n → on_words stm ch (asked stm ps up) (prev n) ≡ true
        → 0 < sum_to (toil ch up) n
    unfolding sum_to
    sum-pos ch up zero h e = absurd (omega arith)
    sum-pos ch up (suc n) h e = omega (arith, toil-on ch up n e)

    pub remains-some : (l : Level) (up : List Level) → Deep l up → Entered up → remains stm l up ≡ true
        → 0 < toil_left l up
    unfolding remains toil_left toil_above
    remains-some l [] D N e = let q = ltb-true 0 l.statement.0 e in
        omega (
          arith,
          sum-pos l.chain [] l.statement.0 q
              (D.here (prev l.statement.0) (suc-prev l.statement.0 q)),
        )
    remains-some l (e ∷ up) D N r = decide (ltb 0 l.statement.0)
        (λ d. let q = ltb-true 0 l.statement.0 d in
        omega (
          arith,
          sum-pos l.chain (e ∷ up) l.statement.0 q
              (D.here (prev l.statement.0) (suc-prev l.statement.0 q)),
        ))
        (λ d. let P = N.0 in let s = suc-prev e.statement.0 P.pos in
        omega (
          arith,
          remains-some (past stm e) up (past-deep e up (prev e.statement.0) P.deep s) N.1
              (rw d at r),
          past-toil e up (prev e.statement.0) P.deep s,
        ))

    -- ---- a pattern entered

    picked-ok : (up : List Level) → chain_ok (pick_chain res (asked stm ps up)) (asked stm ps up) ≡ true
    unfolding pick_chain
    picked-ok up = pick-ok (asked stm ps up) _

    first-num : (up : List Level) → Entered up → length up < length ps
        → (first_of up).statement.0
        ≡ head0 (below (on_words stm (pick_chain res (asked stm ps up)) (asked stm ps up)) t)
    first-num up N h = chain-start _ _ _ _ L (pick_chain res (asked stm ps up)) (asked stm ps up)
        (ok-bound _ (asked stm ps up) (picked-ok up)) (asked_low up N h)

    pub enter-is : (up : List Level) → Entered up → length up < length ps
        → enter r t res stm ps up ≡ go (first_of up) up
    unfolding enter
    enter-is up N h = rw (pickable-linked _ _ _ _ L (asked stm ps up) (asked_low up N h))

    pub first-deep : (up : List Level) → Entered up → length up < length ps → Deep (first_of up) up
    first-deep up N h =
        let q = first-num up N h in
        record {
          room = h;
          picked = picked-ok up;
          le = rw q (head-le (on_words stm (pick_chain res (asked stm ps up)) (asked stm ps up)) t);
          here = λ i e. head-passes (on_words stm (pick_chain res (asked stm ps up)) (asked stm ps up)) t i (sym q ∙ e);
        }

    solve-level : (up : List Level) → length up < length ps
        → down (sols up) t ≡ solve (entry_at stm) t (drop (length up) ps) (binds stm ps up)
    unfolding solve sols next_pattern
    solve-level up h = rw (drop-cons ps (length up) (pattern 0 0 0) h)

    work-level : (up : List Level) → length up < length ps → sum_to (toil (pick_chain res (asked stm ps up)) up) t
        ≡ work (entry_at stm) t (pick_chain res) (drop (length up) ps) (binds stm ps up)
    unfolding work toil next_pattern asked entry_at
    work-level up h = rw (drop-cons ps (length up) (pattern 0 0 0) h)

    pub first-sols : (up : List Level) → Entered up → (h : length up < length ps)
        → down (sols up) (first_of up).statement.0 ≡ solve (entry_at stm) t (drop (length up) ps) (binds stm ps up)
    first-sols up N h = rw (first-num up N h)
        (chain-level (pick_chain res (asked stm ps up)) up N h (picked-ok up) t (omega arith)) ∙ solve-level up h

    pub first-toil : (up : List Level) → Entered up → (h : length up < length ps)
        → sum_to (toil (first_of up).chain up) (first_of up).statement.0 ≡ work (entry_at stm) t (pick_chain res)
        (drop (length up) ps) (binds stm ps up)
    first-toil up N h = rw (first-num up N h)
        (sum-skip (on_words stm (pick_chain res (asked stm ps up)) (asked stm ps up))
        (toil (pick_chain res (asked stm ps up)) up) t
        (λ j q. toil-off (pick_chain res (asked stm ps up)) up j)) ∙ work-level up h

    -- ---- one visit

    left-suc : (m : Level) (top : List Level) (i : ℕ) → m.statement.0 ≡ suc i
        → left m top ≡ sols top i ++ (down (sols top) i ++ above top)
    unfolding left down
    left-suc m top i e = rw e (append_assoc (sols top i) (down (sols top) i) (above top))

    toil-suc : (m : Level) (top : List Level) (i : ℕ) → m.statement.0 ≡ suc i
        → toil_left m top ≡ toil m.chain top i + (sum_to (toil m.chain top) i + toil_above top)
    unfolding toil_left sum_to
    toil-suc m top i e = rw e (omega arith)

    sols-none : (top : List Level) (i : ℕ) → hit_at (entry_at stm) (next_pattern ps top) (binds stm ps top) i ≡ none
        → sols top i ≡ []
    unfolding sols
    sols-none top i e = rw e

    sols-some : (top : List Level) (i : ℕ) (b : Bindings)
        → hit_at (entry_at stm) (next_pattern ps top) (binds stm ps top) i ≡ some b
        → sols top i ≡ solve (entry_at stm) t (drop (suc (length top)) ps) b
    unfolding sols
    sols-some top i b e = rw e

    toil-some : (ch : Chain) (top : List Level) (i : ℕ) (b : Bindings) → on_words stm ch (asked stm ps top) i ≡ true
        → hit_at (entry_at stm) (next_pattern ps top) (binds stm ps top) i ≡ some b
        → toil ch top i ≡ suc (work (entry_at stm) t (pick_chain res) (drop (suc (length top)) ps) b)
    unfolding toil
    toil-some ch top i b f e = rw (f, e)

    toil-none : (ch : Chain) (top : List Level) (i : ℕ) → on_words stm ch (asked stm ps top) i ≡ true
        → hit_at (entry_at stm) (next_pattern ps top) (binds stm ps top) i ≡ none → toil ch top i ≡ 1
    unfolding toil
    toil-none ch top i f e = rw (f, e)

    work_none : (b : Bindings) (qs : List QueryPattern) → qs ≡ [] → work (entry_at stm) t (pick_chain res) qs b ≡ 0
    unfolding work
    work_none b qs e = rw e

    toil-open : (l m : Level) (top : List Level) → toil_left l (m ∷ top) ≡ sum_to (toil l.chain (m ∷ top))
        l.statement.0 + (sum_to (toil m.chain top) (prev m.statement.0) + toil_above top)
    unfolding toil_left toil_above
    toil-open l m top = refl

    pub left-past : (m : Level) (top : List Level) (i : ℕ) → Deep m top → Entered top → m.statement.0 ≡ suc i
        → left (past stm m) top ≡ down (sols top) i ++ above top
    unfolding left
    left-past m top i D N e = rw (past-sols m top i N D e)

    toil-past : (m : Level) (top : List Level) (i : ℕ) → Deep m top → m.statement.0 ≡ suc i
        → toil m.chain top i ≡ 1 → suc (toil_left (past stm m) top) ≡ toil_left m top
    toil-past m top i D e o = rw (toil-suc m top i e, o) (unfold toil_left in (omega (arith, past-toil m top i D e)))

    binds-hit : (m : Level) (top : List Level) (b : Bindings) → hit r t res stm ps m top ≡ some b
        → binds stm ps (m ∷ top) ≡ b
    unfolding binds record_at entry_at
    binds-hit m top b e = rw (hit-some _ _ _ _ _ (sym (hit_same m top) ∙ e)).1

    turn-hit : (m : Level) (top : List Level) (i : ℕ) (o : Option Bindings) → Deep m top → Entered top
        → m.statement.0 ≡ suc i → hit r t res stm ps m top ≡ o → Turned m top (tried r t res stm ps m top o)
    unfolding tried
    turn-hit m top i none D N e h =
        let z = sols-none top i (rw e at (sym (hit_same m top) ∙ h)) in (
          past-deep m top i D e,
          N,
          left-past m top i D N e ∙ sym (left-suc m top i e ∙ rw z),
          toil-past m top i D e (toil-none m.chain top i (D.here i e) (rw e at (sym (hit_same m top) ∙ h))),
        )
    turn-hit m top i (some b) D N e h =
        let g = rw e at (sym (hit_same m top) ∙ h) in
        let z = sols-some top i b g in
        decide (eqb (suc (length top)) (length ps))
        (λ d. rw d (
          past-deep m top i D e,
          N,
          (left-suc m top i e ∙ rw (
            z,
            drop_of_length-le ps {i = suc (length top)} (let q : suc (length top) ≡ length ps =
                eqb-true (suc (length top)) (length ps) d in omega arith),
          )
              (unfold solve in (ap (λ (r : List Bindings). b ∷ r) (sym (left-past m top i D N e))))),
          toil-past m top i D e
              (toil-some m.chain top i b (D.here i e) g
              ∙ ap suc (work_none b (drop (suc (length top)) ps)
              (drop_of_length-le ps {i = suc (length top)} (let q : suc (length top) ≡ length ps =
              eqb-true (suc (length top)) (length ps) d in omega arith)))),
        ))
        (λ d. let n : suc (length top) ≢ length ps = eqb-false (suc (length top)) (length ps) d in
        let r : length (m ∷ top) < length ps = (let q = D.room in omega arith) in
        let k = binds-hit m top b h in
        let M : Entered (m ∷ top) = (record { deep = D; pos = rw e (omega arith); hits = h ∙ ap some (sym k) }, N) in
        rw (d, enter-is (m ∷ top) M r) (
          first-deep (m ∷ top) M r,
          M,
          entered-left m top i b M r e k z,
          entered-toil m top i b M r e k (toil-some m.chain top i b (D.here i e) g),
        ))
      where
        entered-left : (m : Level) (top : List Level) (i : ℕ) (b : Bindings) (M : Entered (m ∷ top))
            (r : length (m ∷ top) < length ps) → m.statement.0 ≡ suc i → binds stm ps (m ∷ top) ≡ b
            → sols top i ≡ solve (entry_at stm) t (drop (suc (length top)) ps) b → left (first_of (m ∷ top)) (m ∷ top)
            ≡ left m top
        entered-left m top i b M r e k z =
            rw (left-suc m top i e, z) (unfold left above in (rw (first-sols (m ∷ top) M r, k, e)))

        entered-toil : (m : Level) (top : List Level) (i : ℕ) (b : Bindings) (M : Entered (m ∷ top))
            (r : length (m ∷ top) < length ps) → m.statement.0 ≡ suc i → binds stm ps (m ∷ top) ≡ b
            → toil m.chain top i ≡ suc (work (entry_at stm) t (pick_chain res) (drop (suc (length top)) ps) b)
            → suc (toil_left (first_of (m ∷ top)) (m ∷ top)) ≡ toil_left m top
        entered-toil m top i b M r e k z =
            let q = rw k at (first-toil (m ∷ top) M r) in
            let d : sum_to (toil m.chain top) (prev m.statement.0) ≡ sum_to (toil m.chain top) i =
            ap (λ (z : ℕ). sum_to (toil m.chain top) (prev z)) e in
            rw (toil-suc m top i e, z) (omega (arith, toil-open (first_of (m ∷ top)) m top, q, d))

    pub turn : (m : Level) (top : List Level) → Deep m top → Entered top → 0 < m.statement.0
        → Turned m top (visit r t res stm ps m top)
    unfolding visit
    turn m top D N h =
        let e = suc-prev m.statement.0 h in
        rw (chain-fine _ _ _ _ L m.chain (asked stm ps top) (prev m.statement.0)
        (let q = D.le in omega arith) (D.here (prev m.statement.0) e))
        (turn-hit m top (prev m.statement.0) (hit r t res stm ps m top) D N e refl)

    -- the first pattern entered: everything is left
    pub left-first : Entered [] → (h : 0 < length ps) → left (first_of []) [] ≡ solve (entry_at stm) t ps
        (binds stm ps [])
    unfolding left above
    left-first N h = rw (first-sols [] N h) (append-nil (solve (entry_at stm) t ps (binds stm ps [])))

    pub toil-first : Entered [] → (h : 0 < length ps) → toil_left (first_of []) [] ≡ work (entry_at stm) t
        (pick_chain res) ps (binds stm ps [])
    unfolding toil_left toil_above
    toil-first N h = omega (arith, first-toil [] N h)
