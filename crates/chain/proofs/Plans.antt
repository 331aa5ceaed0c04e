-- Laws of a walk's plan: by what it binds a record of the chain is compared as by its pattern, and its chain is told to be
-- one that a cursor may be on. Assumes nothing.
use mathlib.Core.Path.{◌≡◌, refl, sym, ap, ap₂, ◌∙◌}
use mathlib.Core.Bool.{Bool, true, false, not, ◌&&◌, ◌||◌}
use mathlib.Core.List.{List}
use Prim.Native.Nat.{ℕ, ◌+◌}
use native.Mathlib.Omega.{arith}
use lib.Dec.{eqb}
use borrow.Author.Tests.{eqb-true, eq-eqb, eqb-false}
use Rattle.store.specs.declared.Chain.{Chain}
use Rattle.store.specs.declared.Chain.TheVariants.{All, By}
use Rattle.store.specs.declared.Position.{Position}
use Rattle.store.specs.declared.Position.TheVariants.{Subject, Predicate, Object}
use Rattle.store.specs.declared.Triple.{Triple}
use Rattle.store.specs.Shared.{at, agrees}
use Rattle.store.specs.Tables.{term_at, triple_at}
use Rattle.store.specs.Scan.{chain_ok}
use Rattle.store.proofs.Tests.{decide, and_l, and_r, all3-of}
use Rattle.store.proofs.Words.{triple-at}
use Rattle.chain.specs.declared.plan.Plan.{Plan}
use Rattle.store.specs.declared.ResourceId.{ResourceId}
use Rattle.chain.specs.Planned.{resource_of, has, bound_number, alone, admits_bound}
use Rattle.chain.specs.Plans.{agrees_bound, agrees_by}
use Rattle.chain.proofs.Chains.{nonzero}

-- ---- a plan that was made

-- the plan of a chain and a pattern
unfoldable pub plan_of : Chain → Triple → Plan
plan_of ch x = record {
  pattern = x;
  chain = ch;
  resource = record { 0 = resource_of ch x };
  subject = bound_number x.subject;
  predicate = bound_number x.predicate;
  object = bound_number x.object;
  alone = alone x (resource_of ch x);
  planned = (refl, refl, refl, refl, refl);
}

module _ (p : Plan) (ch : Chain) (x : Triple) (e : p ≡ plan_of ch x) where
  pub plan-chain : p.chain ≡ ch
  unfolding plan_of
  plan-chain = ap (λ (p : Plan). p.chain) e

  pub plan-pattern : p.pattern ≡ x
  unfolding plan_of
  plan-pattern = ap (λ (p : Plan). p.pattern) e

  pub plan-resource : p.resource.0 ≡ resource_of ch x
  unfolding plan_of
  plan-resource = ap (λ (p : Plan). p.resource.0) e

  -- of its own chain and pattern
  pub planned : p ≡ plan_of p.chain p.pattern
  planned = e ∙ sym (ap₂ plan_of plan-chain plan-pattern)

-- ---- bound numbers

-- what is bound admits what the pattern's number does
bound-admits : (y z : ResourceId) → admits_bound (bound_number y) z ≡ eqb y.0 0 || eqb z.0 y.0
bound-admits y z = decide (eqb y.0 0) (λ e. rw e) (λ e. rw e)

bound-agree : (p : Plan) (t : Triple) → agrees_bound p t ≡ agrees p.pattern t
unfolding agrees_bound agrees
bound-agree p t =
    let x = p.pattern in
    rw (
      p.planned.1,
      p.planned.2,
      p.planned.3,
      bound-admits x.subject t.subject,
      bound-admits x.predicate t.predicate,
      bound-admits x.object t.object,
    )

-- ---- nothing bound but the chain's position

-- a number that is not bound admits any, and the same number
any : (y z : ℕ) → y ≡ 0 → eqb y 0 || eqb z y ≡ true
any y z e = rw (eq-eqb y 0 e)

own : (y z : ℕ) → z ≡ y → eqb y 0 || eqb z y ≡ true
own y z e = rw (eq-eqb z y e) (second (eqb y 0))
  where
    second : (b : Bool) → b || true ≡ true
    second true = refl
    second false = refl

all-admit : (x t : Triple) → ((q : Position) → eqb (at q x) 0 || eqb (at q t) (at q x) ≡ true) → agrees x t ≡ true
unfolding agrees
all-admit x t f = all3-of (λ q. eqb (at q x) 0 || eqb (at q t) (at q x)) f

abbrev sum : Triple → ℕ
sum x = at Subject x + at Predicate x + at Object x

by_one : (p : Position) (x t : Triple) → sum x ≡ at p x → at p t ≡ at p x → (q : Position)
    → eqb (at q x) 0 || eqb (at q t) (at q x) ≡ true
by_one Subject x t e h Subject = own (at Subject x) (at Subject t) h
by_one Subject x t e h Predicate = any (at Predicate x) (at Predicate t) (omega arith)
by_one Subject x t e h Object = any (at Object x) (at Object t) (omega arith)
by_one Predicate x t e h Subject = any (at Subject x) (at Subject t) (omega arith)
by_one Predicate x t e h Predicate = own (at Predicate x) (at Predicate t) h
by_one Predicate x t e h Object = any (at Object x) (at Object t) (omega arith)
by_one Object x t e h Subject = any (at Subject x) (at Subject t) (omega arith)
by_one Object x t e h Predicate = any (at Predicate x) (at Predicate t) (omega arith)
by_one Object x t e h Object = own (at Object x) (at Object t) h

by-none : (x t : Triple) → sum x ≡ 0 → (q : Position) → eqb (at q x) 0 || eqb (at q t) (at q x) ≡ true
by-none x t e Subject = any (at Subject x) (at Subject t) (omega arith)
by-none x t e Predicate = any (at Predicate x) (at Predicate t) (omega arith)
by-none x t e Object = any (at Object x) (at Object t) (omega arith)

alone-agrees : (stm : List ℕ) (ch : Chain) (x : Triple) (i : ℕ) → has stm ch (resource_of ch x) i ≡ true
    → alone x (resource_of ch x) ≡ true → agrees x (triple_at stm i) ≡ true
alone-agrees stm All x i h e = all-admit x (triple_at stm i) (by-none x (triple_at stm i) (eqb-true (sum x) 0 e))
alone-agrees stm (By p) x i h e =
    all-admit x (triple_at stm i)
    (by_one p x (triple_at stm i) (eqb-true (sum x) (at p x) e)
    (triple-at stm p i ∙ eqb-true (term_at stm p i) (at p x) h))

by-alone : (p : Plan) (t : Triple) → alone p.pattern (resource_of p.chain p.pattern) ≡ true → agrees_by p t ≡ true
by-alone p t e = ap (λ (b : Bool). b || agrees_bound p t) (p.planned.4 ∙ e)

-- what is bound decides where another position is bound
bound-decide : (p : Plan) (t : Triple) → p.alone ≡ false → agrees_bound p t ≡ agrees_by p t
bound-decide p t e = sym (second p.alone (agrees_bound p t) e)
  where
    second : (a b : Bool) → a ≡ false → a || b ≡ b
    second true b e = let z : ◌≡◌ {A = ℕ} 0 1 = cc in absurd (omega arith)
    second false b e = refl

-- a record of the chain agrees by the plan as by the pattern
pub agrees-planned : (stm : List ℕ) (p : Plan) (i : ℕ) → has stm p.chain (resource_of p.chain p.pattern) i ≡ true
    → agrees_by p (triple_at stm i) ≡ agrees p.pattern (triple_at stm i)
agrees-planned stm p i h =
    let t = triple_at stm i in
    decide (alone p.pattern (resource_of p.chain p.pattern))
    (λ e. by-alone p t e ∙ sym (alone-agrees stm p.chain p.pattern i h e))
    (λ e. sym (bound-decide p t (p.planned.4 ∙ e)) ∙ bound-agree p t)

pub agrees-by-plan : (stm : List ℕ) (ch : Chain) (x : Triple) (i : ℕ) → has stm ch (resource_of ch x) i ≡ true
    → agrees_by (plan_of ch x) (triple_at stm i) ≡ agrees x (triple_at stm i)
unfolding plan_of
agrees-by-plan stm ch x i h = agrees-planned stm (plan_of ch x) i h

-- ---- the chain of a cursor

none-bound : (a b d : ℕ) → eqb (a + b + d) 0 ≡ eqb a 0 && (eqb b 0 && eqb d 0)
none-bound a b d =
    decide (eqb (a + b + d) 0)
    (λ e. let z = eqb-true (a + b + d) 0 e in
    e ∙ sym (rw (eq-eqb a 0 (omega arith), eq-eqb b 0 (omega arith), eq-eqb d 0 (omega arith))))
    (λ e. e ∙ sym (some-bound (eqb-false (a + b + d) 0 e)))
  where
    some-bound : (a + b + d ≡ 0 → ⊥) → eqb a 0 && (eqb b 0 && eqb d 0) ≡ false
    some-bound h =
        decide (eqb a 0 && (eqb b 0 && eqb d 0))
        (λ e.
        let s = eqb-true a 0 (and_l (eqb a 0) (eqb b 0 && eqb d 0) e) in
        let p = eqb-true b 0 (and_l (eqb b 0) (eqb d 0) (and_r (eqb a 0) (eqb b 0 && eqb d 0) e)) in
        let o = eqb-true d 0 (and_r (eqb b 0) (eqb d 0) (and_r (eqb a 0) (eqb b 0 && eqb d 0) e)) in
        absurd (h (omega arith)))
        (λ e. e)

all-fits : (x : Triple) → alone x (resource_of All x) ≡ chain_ok All x
unfolding chain_ok
all-fits x = none-bound (at Subject x) (at Predicate x) (at Object x)

by_fits : (p : Position) (x : Triple) → not (eqb (resource_of (By p) x) 0) ≡ chain_ok (By p) x
unfolding chain_ok
by_fits p x = nonzero (at p x)

module _ (p : Plan) where
  pub fits_all : p.chain ≡ All → p.alone ≡ chain_ok p.chain p.pattern
  fits_all d = p.planned.4 ∙ rw d (all-fits p.pattern)

  pub fits_by : (q : Position) → p.chain ≡ By q → not (eqb p.resource.0 0) ≡ chain_ok p.chain p.pattern
  fits_by q d = ap (λ (y : ℕ). not (eqb y 0)) p.planned.0 ∙ rw d (by_fits q p.pattern)
