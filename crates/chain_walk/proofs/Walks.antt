-- Laws of the tests of a record, of a visit by them, and of the walk: at each way out of a turn, and its next turn; the
-- record found lies at or below the first; seeking one record, turn by turn. Assumes nothing.
use mathlib.Core.Path.{◌≡◌, refl, sym, ap, ap₂, ◌∙◌}
use mathlib.Core.Bool.{Bool, true, false, not, cond, ◌&&◌}
use mathlib.Core.List.{List}
use Rattle.std.specs.Prelude.{Result, Ok, Err, Some}
use mathlib.Core.Option.{Option, none, some}
use Prim.Native.Nat.{ℕ, zero, suc, ◌+◌, ◌-◌, ◌≤◌, ◌<◌}
use native.Mathlib.Omega.{arith}
use lib.Dec.{eqb, leb}
use borrow.Author.Tests.{leb-true, le-leb, lt-leb}
use Rattle.store.specs.declared.StatementId.{StatementId}
use Rattle.store.specs.declared.Chain.{Chain}
use Rattle.store.specs.declared.Chain.TheVariants.{All, By}
use Rattle.store.specs.declared.Position.{Position}
use Rattle.store.specs.declared.Triple.{Triple}
use Rattle.store.specs.Shared.{known, agrees, matches}
use Rattle.store.specs.Tables.{term_at, next_at, flag_at, triple_at}
use Rattle.store.specs.Walk.{entry_at, link_of, holds_resource, visitable, walk, Step, found, ended, spent, after_visit}
use Rattle.store.specs.Scan.{record_ok}
use Rattle.store.proofs.Tests.{decide, and_l, and_r}
use Rattle.chain.specs.declared.plan.Plan.{Plan}
use Rattle.chain_walk.specs.declared.walk.Sought.{Sought}
use Rattle.chain_walk.specs.declared.walk.Sought.TheVariants.{Same, LiveMatch}
use Rattle.store.specs.declared.Refusal.{Refusal}
use Rattle.store.specs.declared.Refusal.TheVariants.{Damaged}
use Rattle.chain_walk.specs.declared.walk.Tested.{Tested}
use Rattle.chain_walk.specs.declared.walk.Visited.{Visited}
use Rattle.chain_walk.specs.declared.walk.Visited.TheVariants.{Hit, Miss}
use Rattle.chain.specs.Planned.{resource_of, has}
use Rattle.chain.specs.Plans.{agrees_by}
use Rattle.chain_walk.specs.Walks.{record_has, after, follow_of, tested_of, hits_in, hits, visited_by, visit_of}
use Rattle.chain_walk.specs.Walks.{located_in, sought_as}
use Rattle.chain.proofs.Plans.{plan_of, plan-chain, plan-pattern, plan-resource, agrees-planned}

-- ---- visits counted

-- v visits more
abbrev pub plus : ℕ → Option Step → Option Step
plus v none = none
plus v (some (found n w r)) = some (found n (v + w) r)
plus v (some (ended w)) = some (ended (v + w))
plus v (some (spent w r)) = some (spent (v + w) r)

pub plus_none : (s : Option Step) → plus 0 s ≡ s
plus_none none = refl
plus_none (some (found n w r)) = ap (λ (z : ℕ). some (found n z r)) (omega arith)
plus_none (some (ended w)) = ap (λ (z : ℕ). some (ended z)) (omega arith)
plus_none (some (spent w r)) = ap (λ (z : ℕ). some (spent z r)) (omega arith)

plus-after : (v : ℕ) (s : Option Step) → plus v (after_visit s) ≡ plus (v + 1) s
plus-after v none = refl
plus-after v (some (found n w r)) = ap (λ (z : ℕ). some (found n z r)) (omega arith)
plus-after v (some (ended w)) = ap (λ (z : ℕ). some (ended z)) (omega arith)
plus-after v (some (spent w r)) = ap (λ (z : ℕ). some (spent z r)) (omega arith)

-- ---- the tests of a record, by the chain's resource y

module _ (stm : List ℕ) (y i : ℕ) where
  pub follow-all : Ok (record { 0 = i }) ≡ follow_of stm All y i
  unfolding follow_of link_of
  follow-all = rw (le-leb i i (omega arith))

  module _ (p : Position) where
    pub follow-other : eqb (term_at stm p i) y ≡ false → Err Damaged ≡ follow_of stm (By p) y i
    unfolding follow_of
    follow-other e = rw e

    pub follow-climbs : eqb (term_at stm p i) y ≡ true → i < next_at stm p i → Err Damaged ≡ follow_of stm (By p) y i
    unfolding follow_of link_of
    follow-climbs e h = rw (e, lt-leb (next_at stm p i) i h)

    pub follow-falls : eqb (term_at stm p i) y ≡ true → next_at stm p i ≤ i
        → Ok (record { 0 = next_at stm p i }) ≡ follow_of stm (By p) y i
    unfolding follow_of link_of
    follow-falls e h = rw (e, le-leb (next_at stm p i) i h)

-- which way a test with a damaged record went
err-test : {A : Type 0} (a : Bool) (m : A) (d : Refusal) → cond a (Ok m) (Err Damaged) ≡ Err d
    → (a ≡ false) × (d ≡ Damaged)
err-test true m d e = let z : ◌≡◌ {A = ℕ} 0 1 = cc in absurd (omega arith)
err-test false m d e = (refl, cc)

ok-test : {A : Type 0} (a : Bool) (m k : A) → ◌≡◌ {A = Result A Refusal} (cond a (Ok m) (Err Damaged)) (Ok k)
    → (a ≡ true) × (m ≡ k)
ok-test true m k e = (refl, cc)
ok-test false m k e = let z : ◌≡◌ {A = ℕ} 0 1 = cc in absurd (omega arith)

-- two tests that a third follows
pair-fails : (a b d : Bool) → a && b ≡ false → a && (b && d) ≡ false
pair-fails true true d e = let z : ◌≡◌ {A = ℕ} 0 1 = cc in absurd (omega arith)
pair-fails true false d e = refl
pair-fails false b d e = refl

pair-holds : (a b d : Bool) → a && b ≡ true → a && (b && d) ≡ d
pair-holds true true d e = refl
pair-holds true false d e = let z : ◌≡◌ {A = ℕ} 0 1 = cc in absurd (omega arith)
pair-holds false b d e = let z : ◌≡◌ {A = ℕ} 0 1 = cc in absurd (omega arith)

module _ (r : ℕ) (stm : List ℕ) (ch : Chain) (y i : ℕ) where
  abbrev falls : Bool
  falls = leb (link_of stm ch i) i

  abbrev flagged : Bool
  flagged = leb (flag_at stm i) 1

  pub test-unknown : known r (triple_at stm i) ≡ false → Err Damaged ≡ tested_of r stm ch y i
  unfolding tested_of
  test-unknown e = rw e

  module _ (k : known r (triple_at stm i) ≡ true) where
    pub test-broken : (d : Refusal) → follow_of stm ch y i ≡ Err d → Err d ≡ tested_of r stm ch y i
    unfolding follow_of tested_of
    test-broken d e =
        let f = err-test (has stm ch y i && falls) (after stm ch i) d e in
        rw (k, pair-fails (has stm ch y i) falls flagged f.0, f.1)

    module _ (m : StatementId) (e : follow_of stm ch y i ≡ Ok m) where
      pub test-flag : 1 < flag_at stm i → Err Damaged ≡ tested_of r stm ch y i
      unfolding follow_of tested_of
      test-flag h =
          let d = ok-test (has stm ch y i && falls) (after stm ch i) m e in
          rw (k, pair-holds (has stm ch y i) falls flagged d.0, lt-leb (flag_at stm i) 1 h)

      pub test-is : flag_at stm i ≤ 1
          → Ok (record { next = m; triple = triple_at stm i; flag = flag_at stm i }) ≡ tested_of r stm ch y i
      unfolding follow_of tested_of
      test-is h =
          let d = ok-test (has stm ch y i && falls) (after stm ch i) m e in
          rw (k, pair-holds (has stm ch y i) falls flagged d.0, le-leb (flag_at stm i) 1 h, d.1)

-- ---- a visit

-- by the chain's resource a record is tested as by the pattern
visitable-by : (r : ℕ) (stm : List ℕ) (ch : Chain) (x : Triple) (i : ℕ)
    → known r (triple_at stm i) && (has stm ch (resource_of ch x) i && (leb (link_of stm ch i) i && leb (flag_at stm i) 1))
    ≡ visitable r stm ch x i
unfolding visitable holds_resource
visitable-by r stm All x i = refl
visitable-by r stm (By p) x i = refl

hits-in : (k : Sought) (stm : List ℕ) (x : Triple) (i : ℕ)
    → hits_in k x (agrees x) (triple_at stm i) (flag_at stm i) ≡ hits k stm x i
unfolding hits hits_in matches entry_at
hits-in Same stm x i = refl
hits-in LiveMatch stm x i = refl

-- a record of the chain is what is sought by the plan as by the pattern
hits-by : (k : Sought) (stm : List ℕ) (p : Plan) (i f : ℕ) → has stm p.chain (resource_of p.chain p.pattern) i ≡ true
    → hits_in k p.pattern (agrees_by p) (triple_at stm i) f ≡ hits_in k p.pattern (agrees p.pattern) (triple_at stm i) f
unfolding hits_in
hits-by Same stm p i f h = refl
hits-by LiveMatch stm p i f h = ap (λ (b : Bool). not (eqb f 1) && b) (agrees-planned stm p i h)

-- a visit by the tests of entry i, with a test of what is sought that holds of the records of the chain
module _ (k : Sought) (r : ℕ) (stm : List ℕ) (ch : Chain) (x : Triple) (i : ℕ) where
  tested_by : (h : Triple → ℕ → Bool) → (has stm ch (resource_of ch x) i ≡ true
      → h (triple_at stm i) (flag_at stm i) ≡ hits k stm x i)
      → visited_by h (tested_of r stm ch (resource_of ch x) i) ≡ visit_of k r stm ch x i
  unfolding tested_of visit_of
  tested_by h f =
      rw (visitable-by r stm ch x i)
      (decide (visitable r stm ch x i)
      (λ e. rw (
        e,
        f (and_l _ (leb (link_of stm ch i) i && leb (flag_at stm i) 1)
            (and_r (known r (triple_at stm i)) _ (visitable-by r stm ch x i ∙ e))),
      ))
      (λ e. rw e))

  pub visit-pattern : visited_by (hits_in k x (agrees x)) (tested_of r stm ch (resource_of ch x) i)
      ≡ visit_of k r stm ch x i
  visit-pattern = tested_by (hits_in k x (agrees x)) (λ h. hits-in k stm x i)

pub visit-plan : (k : Sought) (r : ℕ) (stm : List ℕ) (p : Plan) (i : ℕ)
    → visited_by (hits_in k p.pattern (agrees_by p)) (tested_of r stm p.chain p.resource.0 i)
    ≡ visit_of k r stm p.chain p.pattern i
visit-plan k r stm p i =
    ap (λ (y : ℕ). visited_by (hits_in k p.pattern (agrees_by p)) (tested_of r stm p.chain y i)) p.planned.0
    ∙ tested_by k r stm p.chain p.pattern i (hits_in k p.pattern (agrees_by p))
    (λ h. hits-by k stm p i (flag_at stm i) h ∙ hits-in k stm p.pattern i)

-- a visit of a record that passed, where b tells whether it is what is sought
abbrev given : Tested → Bool → Result Visited Refusal
given t b = Ok (cond b (Hit t.next) (Miss t.next))

-- what the tests of entry i give a visit
module _ (k : Sought) (r : ℕ) (stm : List ℕ) (ch : Chain) (x : Triple) (y i : ℕ) (w : y ≡ resource_of ch x) where
  by-tests : (v : Result Tested Refusal) → tested_of r stm ch y i ≡ v
      → visited_by (hits_in k x (agrees x)) v ≡ visit_of k r stm ch x i
  by-tests v e =
      ap (λ (u : Result Tested Refusal). visited_by (hits_in k x (agrees x)) u) (sym e)
      ∙ ap (λ (z : ℕ). visited_by (hits_in k x (agrees x)) (tested_of r stm ch z i)) w
      ∙ visit-pattern k r stm ch x i

  pub visit-unfit : tested_of r stm ch y i ≡ Err Damaged → Err Damaged ≡ visit_of k r stm ch x i
  visit-unfit e = by-tests (Err Damaged) e

  module _ (t : Tested) (e : tested_of r stm ch y i ≡ Ok t) where
    pub visit-is : (b : Bool) → b ≡ hits_in k x (agrees x) t.triple t.flag
        → Ok (cond b (Hit t.next) (Miss t.next)) ≡ visit_of k r stm ch x i
    visit-is b d =
        ap (given t) d
        ∙ by-tests (Ok t) e

    pub visit-by-plan : (p : Plan) (b : Bool) → p ≡ plan_of ch x → b ≡ hits_in k p.pattern (agrees_by p) t.triple t.flag
        → Ok (cond b (Hit t.next) (Miss t.next)) ≡ visit_of k r stm ch x i
    visit-by-plan p b q d =
        ap (given t) d
        ∙ ap (λ (u : Result Tested Refusal). visited_by (hits_in k p.pattern (agrees_by p)) u) (sym e)
        ∙ ap (λ (z : ℕ). visited_by (hits_in k p.pattern (agrees_by p)) (tested_of r stm ch z i))
        (w ∙ sym (plan-resource p ch x q))
        ∙ ap (λ (c : Chain). visited_by (hits_in k p.pattern (agrees_by p)) (tested_of r stm c p.resource.0 i))
        (sym (plan-chain p ch x q))
        ∙ visit-plan k r stm p i
        ∙ ap₂ (λ (c : Chain) (z : Triple). visit_of k r stm c z i) (plan-chain p ch x q) (plan-pattern p ch x q)

-- ---- what a visit was

which-test : (b : Bool) (m k : StatementId) → cond b (Hit m) (Miss m) ≡ Hit k → (b ≡ true) × (m ≡ k)
which-test true m k e = (refl, cc)
which-test false m k e = let z : ◌≡◌ {A = ℕ} 0 1 = cc in absurd (omega arith)

miss-test : (b : Bool) (m k : StatementId) → cond b (Hit m) (Miss m) ≡ Miss k → (b ≡ false) × (m ≡ k)
miss-test true m k e = let z : ◌≡◌ {A = ℕ} 0 1 = cc in absurd (omega arith)
miss-test false m k e = (refl, cc)

-- what the tests of entry i were, and its next
module _ (k : Sought) (r : ℕ) (stm : List ℕ) (ch : Chain) (x : Triple) (i : ℕ) where
  abbrev seen : Visited
  seen = cond (hits k stm x i) (Hit (after stm ch i)) (Miss (after stm ch i))

  pub was-damaged : (d : Refusal) → visit_of k r stm ch x i ≡ Err d → (visitable r stm ch x i ≡ false) × (d ≡ Damaged)
  unfolding visit_of
  was-damaged d e = err-test (visitable r stm ch x i) seen d e

  pub was-hit : (m : StatementId) → visit_of k r stm ch x i ≡ Ok (Hit m)
      → (visitable r stm ch x i ≡ true) × (hits k stm x i ≡ true) × (link_of stm ch i ≡ m.0)
  unfolding visit_of
  was-hit m e =
      let d = ok-test (visitable r stm ch x i) seen (Hit m) e in
      let a = which-test (hits k stm x i) (after stm ch i) m d.1 in
      (d.0, a.0, ap (λ (n : StatementId). n.0) a.1)

  pub was-miss : (m : StatementId) → visit_of k r stm ch x i ≡ Ok (Miss m)
      → (visitable r stm ch x i ≡ true) × (hits k stm x i ≡ false) × (link_of stm ch i ≡ m.0)
  unfolding visit_of
  was-miss m e =
      let d = ok-test (visitable r stm ch x i) seen (Miss m) e in
      let a = miss-test (hits k stm x i) (after stm ch i) m d.1 in
      (d.0, a.0, ap (λ (n : StatementId). n.0) a.1)

-- a record that can be visited has a falling link
pub falling : (r : ℕ) (stm : List ℕ) (ch : Chain) (x : Triple) (i : ℕ) → visitable r stm ch x i ≡ true
    → link_of stm ch i ≤ i
unfolding visitable
falling r stm ch x i e =
    leb-true (link_of stm ch i) i
    (and_l _ (leb (flag_at stm i) 1) (and_r (holds_resource stm ch x i) _ (and_r (known r (triple_at stm i)) _ e)))

-- ---- the walk turn by turn

module _ (k : Sought) (r : ℕ) (stm : List ℕ) (ch : Chain) (x : Triple) where
  -- the walk from record n with `left` visits left, v visits made
  abbrev pub onward : ℕ → ℕ → ℕ → Option Step
  onward v left n = plus v (walk (link_of stm ch) (visitable r stm ch x) (hits k stm x) left n)

  pub walk-ended : (v left n : ℕ) → n ≡ 0 → onward v left n ≡ some (ended v)
  unfolding walk
  walk-ended v zero zero e = ap (λ (z : ℕ). some (ended z)) (omega arith)
  walk-ended v (suc b) zero e = ap (λ (z : ℕ). some (ended z)) (omega arith)
  walk-ended v left (suc i) e = absurd (omega arith)

  pub walk-spent : (v left n : ℕ) → (n ≡ 0 → ⊥) → left ≡ 0 → onward v left n ≡ some (spent v n)
  unfolding walk
  walk-spent v left zero h e = absurd (h refl)
  walk-spent v zero (suc i) h e = ap (λ (z : ℕ). some (spent z (suc i))) (omega arith)
  walk-spent v (suc b) (suc i) h e = absurd (omega arith)

  pub walk-damaged : (v left n : ℕ) (d : Refusal) → (n ≡ 0 → ⊥) → (left ≡ 0 → ⊥) → visit_of k r stm ch x (n - 1) ≡ Err d
      → onward v left n ≡ none
  unfolding walk
  walk-damaged v left zero d h f e = absurd (h refl)
  walk-damaged v zero (suc i) d h f e = absurd (f refl)
  walk-damaged v (suc b) (suc i) d h f e =
      let q : suc i - 1 ≡ i = omega arith in
      rw (walk, (was-damaged k r stm ch x i d (rw q at e)).0)

  pub walk-hit : (v left n : ℕ) (m : StatementId) → (n ≡ 0 → ⊥) → (left ≡ 0 → ⊥)
      → visit_of k r stm ch x (n - 1) ≡ Ok (Hit m) → onward v left n ≡ some (found n (v + 1) m.0)
  unfolding walk
  walk-hit v left zero m h f e = absurd (h refl)
  walk-hit v zero (suc i) m h f e = absurd (f refl)
  walk-hit v (suc b) (suc i) m h f e =
      let d : suc i - 1 ≡ i = omega arith in
      let a = was-hit k r stm ch x i m (rw d at e) in
      rw (walk, a.0, a.1, a.2)

  pub walk-miss : (v left n : ℕ) (m : StatementId) → (n ≡ 0 → ⊥) → (left ≡ 0 → ⊥)
      → visit_of k r stm ch x (n - 1) ≡ Ok (Miss m) → onward v left n ≡ onward (v + 1) (left - 1) m.0
  unfolding walk
  walk-miss v left zero m h f e = absurd (h refl)
  walk-miss v zero (suc i) m h f e = absurd (f refl)
  walk-miss v (suc b) (suc i) m h f e =
      let d : suc i - 1 ≡ i = omega arith in
      let g : suc b - 1 ≡ b = omega arith in
      let a = was-miss k r stm ch x i m (rw d at e) in
      rw (walk, a.0, a.1, a.2, g)
      (plus-after v (walk (link_of stm ch) (visitable r stm ch x) (hits k stm x) b m.0))

  -- a visit that goes on gives a lower record
  pub visit-falls : (n : ℕ) (m : StatementId) → (n ≡ 0 → ⊥) → visit_of k r stm ch x (n - 1) ≡ Ok (Miss m) → m.0 < n
  visit-falls n m h e =
      let a = was-miss k r stm ch x (n - 1) m e in
      let d = falling r stm ch x (n - 1) a.0 in
      let z = a.2 in
      omega arith

-- ---- the record found

located_after : (s : Option Step) → located_in (after_visit s) ≡ located_in s
located_after none = refl
located_after (some (found n w r)) = refl
located_after (some (ended w)) = refl
located_after (some (spent w r)) = refl

-- a walk over falling links finds no record above its first
pub walk-within : (link : ℕ → ℕ) (ok hit : ℕ → Bool) → ((i : ℕ) → ok i ≡ true → link i ≤ i) → (b n k : ℕ)
    → located_in (walk link ok hit b n) ≡ some k → k ≤ n
unfolding walk
walk-within link ok hit falls zero zero k e = let z : 0 ≡ k = cc in omega arith
walk-within link ok hit falls zero (suc i) k e = let z : 0 ≡ k = cc in omega arith
walk-within link ok hit falls (suc b) zero k e = let z : 0 ≡ k = cc in omega arith
walk-within link ok hit falls (suc b) (suc i) k e =
    visited (ok i) (hit i) (falls i) (walk-within link ok hit falls b (link i) k) e
  where
    visited : (o h : Bool) → (o ≡ true → link i ≤ i) → (located_in (walk link ok hit b (link i)) ≡ some k → k ≤ link i)
        → located_in (elim o [
          | false ↦ none
          | true ↦ elim h [ true ↦ some (found (suc i) 1 (link i)) | false ↦ after_visit (walk link ok hit b (link i)) ]
        ])
        ≡ some k
        → k ≤ suc i
    visited false h f d e = let z : ◌≡◌ {A = ℕ} 0 1 = cc in absurd (omega arith)
    visited true true f d e = let z : suc i ≡ k = cc in omega arith
    visited true false f d e =
        let g = f refl in
        let m = d (sym (located_after (walk link ok hit b (link i))) ∙ e) in
        omega arith

-- ---- one record sought

located-plus : (v : ℕ) (s : Option Step) → located_in (plus v s) ≡ located_in s
located-plus v none = refl
located-plus v (some (found n w r)) = refl
located-plus v (some (ended w)) = refl
located-plus v (some (spent w r)) = refl

-- over falling links as many visits as the first record's number reach every record: more find the same
pub enough : (link : ℕ → ℕ) (ok hit : ℕ → Bool) → ((i : ℕ) → ok i ≡ true → link i ≤ i) → (b d n : ℕ) → n ≤ b → n ≤ d
    → located_in (walk link ok hit b n) ≡ located_in (walk link ok hit d n)
unfolding walk
enough link ok hit falls zero zero zero h g = refl
enough link ok hit falls zero (suc d) zero h g = refl
enough link ok hit falls (suc b) zero zero h g = refl
enough link ok hit falls (suc b) (suc d) zero h g = refl
enough link ok hit falls zero d (suc i) h g = absurd (omega arith)
enough link ok hit falls (suc b) zero (suc i) h g = absurd (omega arith)
enough link ok hit falls (suc b) (suc d) (suc i) h g =
    visited (ok i) (hit i) (λ e.
    let f = falls i e in
    enough link ok hit falls b d (link i) (omega arith) (omega arith))
  where
    visited : (o h : Bool)
        → (o ≡ true → located_in (walk link ok hit b (link i)) ≡ located_in (walk link ok hit d (link i)))
        → located_in (elim o [
          | false ↦ none
          | true ↦ elim h [ true ↦ some (found (suc i) 1 (link i)) | false ↦ after_visit (walk link ok hit b (link i)) ]
        ])
        ≡ located_in (elim o [
          | false ↦ none
          | true ↦ elim h [ true ↦ some (found (suc i) 1 (link i)) | false ↦ after_visit (walk link ok hit d (link i)) ]
        ])
    visited false h f = refl
    visited true true f = refl
    visited true false f =
        located_after (walk link ok hit b (link i)) ∙ f refl ∙ sym (located_after (walk link ok hit d (link i)))

module _ (k : Sought) (r : ℕ) (stm : List ℕ) (ch : Chain) (x : Triple) where
  -- the record that a walk from record n with n visits comes to
  abbrev pub sought : ℕ → Option ℕ
  sought n = located_in (walk (link_of stm ch) (visitable r stm ch x) (hits k stm x) n n)

  from-none : (n : ℕ) → sought n ≡ located_in (onward k r stm ch x 0 n n)
  from-none n = sym (located-plus 0 (walk (link_of stm ch) (visitable r stm ch x) (hits k stm x) n n))

  pub sought-ended : (n : ℕ) → n ≡ 0 → sought n ≡ some n
  sought-ended n e =
      from-none n ∙ ap (λ (s : Option Step). located_in s) (walk-ended k r stm ch x 0 n n e)
      ∙ ap (λ (z : ℕ). some z) (sym e)

  pub sought-damaged : (n : ℕ) (d : Refusal) → (n ≡ 0 → ⊥) → visit_of k r stm ch x (n - 1) ≡ Err d → sought n ≡ none
  sought-damaged n d h e =
      from-none n ∙ ap (λ (s : Option Step). located_in s) (walk-damaged k r stm ch x 0 n n d h h e)

  pub sought-hit : (n : ℕ) (m : StatementId) → (n ≡ 0 → ⊥) → visit_of k r stm ch x (n - 1) ≡ Ok (Hit m) → sought n ≡ some n
  sought-hit n m h e =
      from-none n ∙ ap (λ (s : Option Step). located_in s) (walk-hit k r stm ch x 0 n n m h h e)

  pub sought-miss : (n : ℕ) (m : StatementId) → (n ≡ 0 → ⊥) → visit_of k r stm ch x (n - 1) ≡ Ok (Miss m)
      → sought n ≡ sought m.0
  sought-miss n m h e =
      let f = visit-falls k r stm ch x n m h e in
      from-none n ∙ ap (λ (s : Option Step). located_in s) (walk-miss k r stm ch x 0 n n m h h e)
      ∙ located-plus 1 (walk (link_of stm ch) (visitable r stm ch x) (hits k stm x) (n - 1) m.0)
      ∙ enough (link_of stm ch) (visitable r stm ch x) (hits k stm x) (falling r stm ch x) (n - 1) m.0 m.0
      (omega arith) (omega arith)

-- the record that was found, by its number
pub sought-some : (n : StatementId) → (n.0 ≡ 0 → ⊥) → Ok (Some n) ≡ sought_as (some n.0)
sought-some n h = by_number n.0 h
  where
    by_number : (i : ℕ) → (i ≡ 0 → ⊥) → Ok (Some (record { 0 = i })) ≡ sought_as (some i)
    by_number zero h = absurd (h refl)
    by_number (suc i) h = refl

-- ---- a cursor

-- by the chain's resource as by the pattern
pub record-by : (stm : List ℕ) (ch : Chain) (x : Triple) (n : ℕ)
    → record_has stm ch (resource_of ch x) n ≡ record_ok stm ch x n
unfolding record_ok holds_resource
record-by stm All x zero = refl
record-by stm All x (suc i) = refl
record-by stm (By p) x zero = refl
record-by stm (By p) x (suc i) = refl
