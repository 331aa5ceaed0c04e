-- What a record that meets a pattern binds (`bind_word`, `match`): exactly its resources at the pattern's open
-- variables, and only where every other word is the record's. Assumes nothing.
use mathlib.Core.Path.{◌≡◌, refl, sym, ap, ◌∙◌}
use mathlib.Core.Logic.{◌≢◌}
use mathlib.Core.Bool.{Bool, true, false, ◌||◌, true≢false}
use mathlib.Core.Option.{Option, none, some}
use Prim.Native.Nat.{ℕ, ◌+◌, ◌-◌, ◌≤◌, ◌<◌}
use native.Mathlib.Omega.{arith}
use lib.ListN.{length, set, length-set}
use lib.Seq.{get_or-set_same, get_or-set_other, ext_get_or}
use lib.Dec.{eqb}
use borrow.Author.Tests.{eqb-true, eqb-false, eq-eqb, leb-true}
use Rattle.store.specs.declared.Position.{Position}
use Rattle.store.specs.declared.Position.TheVariants.{Subject, Predicate, Object}
use Rattle.store.specs.declared.ResourceId.{ResourceId}
use Rattle.store.specs.declared.Triple.{Triple}
use Rattle.store.specs.Shared.{at}
use Rattle.store.specs.Lists.{is_some}
use Rattle.store.proofs.Tests.{decide}
use Rattle.graph.specs.declared.QueryPattern.{QueryPattern}
use Rattle.graph.specs.Query.{bind_word, and_then, or_else, match}
use Rattle.graph.specs.Words.{first_variable, is_variable, Bindings, resource, bound_to, value_of, under}
pub use Rattle.graph.specs.Words.{word_at}
unfoldable pub use Rattle.graph.specs.Standing.{is_the, occurs_in}

-- ---- what is bound after a store

pub bound-same : (b : Bindings) (i n : ℕ) → i < length b → bound_to (set b i (resource n)) i ≡ n
bound-same b i n h = ap (λ (z : ResourceId). z.0) (get_or-set_same b i (resource n) (resource 0) h)

pub bound-other : (b : Bindings) (i v n : ℕ) → v ≢ i → bound_to (set b i (resource n)) v ≡ bound_to b v
bound-other b i v n h = ap (λ (z : ResourceId). z.0) (get_or-set_other b i v (resource n) (resource 0) h)

pub bound-ext : (b s : Bindings) → length b ≡ length s → ((v : ℕ) → v < length b → bound_to b v ≡ bound_to s v) → b ≡ s
bound-ext b s h e = ext_get_or (resource 0) b s h (λ v q. ap resource (e v q))

-- ---- one word

-- a word of a question: a number, or a variable among the first k
pub record Fit (k w : ℕ) : Type 0 where
  pub number : is_variable w ≡ false → 0 < w
  pub variable : is_variable w ≡ true → w - first_variable < k

-- s has what b has
abbrev pub More : Bindings → Bindings → Type 0
More b s = (v : ℕ) → 0 < bound_to b v → bound_to s v ≡ bound_to b v

pub or_l : (a b : Bool) → a || b ≡ false → a ≡ false
or_l true b e = e
or_l false b e = refl

pub or_r : (a b : Bool) → a || b ≡ false → b ≡ false
or_r true b e = absurd (true≢false e)
or_r false b e = e

pub none≢some : {A : Type 0} {a : A} {P : Type 0} → none ≡ some a → P
none≢some e = absurd (true≢false (cc (ap is_none? e)))
  where
    is_none? : {A : Type 0} → Option A → Bool
    is_none? none = true
    is_none? (some a) = false

pub some-eq : {A : Type 0} {a b : A} → some a ≡ some b → a ≡ b
some-eq e = cc

pub some-or_else : {A : Type 0} (o : Option A) (d : A) → is_some o ≡ true → o ≡ some (or_else o d)
some-or_else none d e = absurd (true≢false (sym e))
some-or_else (some a) d e = refl

pub value-number : (b : Bindings) (w : ℕ) → is_variable w ≡ false → value_of b w ≡ w
unfolding value_of
value-number b w e = rw e

pub value-variable : (b : Bindings) (w : ℕ) → is_variable w ≡ true → value_of b w ≡ bound_to b (w - first_variable)
unfolding value_of
value-variable b w e = rw e

pub value-more : (b s : Bindings) (w : ℕ) → More b s → 0 < value_of b w → value_of s w ≡ value_of b w
value-more b s w m h = decide (is_variable w)
    (λ e. rw (value-variable b w e, value-variable s w e) (m (w - first_variable) (rw (value-variable b w e) at h)))
    (λ e. rw (value-number b w e, value-number s w e))

pub record Bound (w r : ℕ) (b b' : Bindings) : Type 0 where
  pub len : length b' ≡ length b
  pub more : More b b'
  pub reads : value_of b' w ≡ r
  pub only : (v : ℕ) → bound_to b v ≡ 0 → is_the v w ≡ false → bound_to b' v ≡ 0

-- an open word is a variable
open-variable : (k : ℕ) (b : Bindings) (w : ℕ) → Fit k w → value_of b w ≡ 0 → is_variable w ≡ true
open-variable k b w f e =
    decide (is_variable w) (λ d. d) (λ d. absurd (let p = f.number d in let q = value-number b w d in omega arith))

bind-open : (b : Bindings) (w r : ℕ) → Fit (length b) w → value_of b w ≡ 0
    → Bound w r b (set b (w - first_variable) (resource r))
bind-open b w r f e =
    let d = open-variable (length b) b w f e in
    let h : w - first_variable < length b = f.variable d in
    let z : bound_to b (w - first_variable) ≡ 0 = sym (value-variable b w d) ∙ e in
    record {
      len = length-set b (w - first_variable) (resource r);
      more = λ v q. let n : v ≢ w - first_variable = λ g. omega (arith, z, ap (λ (u : ℕ). bound_to b u) g) in
          bound-other b (w - first_variable) v r n;
      reads = value-variable (set b (w - first_variable) (resource r)) w d ∙ bound-same b (w - first_variable) r h;
      only = λ v q g. let g' : eqb w (first_variable + v) ≡ false = (unfold is_the in g) in
          let u : w ≢ first_variable + v = eqb-false w (first_variable + v) g' in let t : first_variable ≤ w =
          leb-true first_variable w d in
          let n : v ≢ w - first_variable = omega arith in bound-other b (w - first_variable) v r n ∙ q;
    }

pub bind-bound : (b : Bindings) (w r : ℕ) (b' : Bindings) → Fit (length b) w → bind_word w r b ≡ some b' → Bound w r b b'
unfolding bind_word
bind-bound b w r b' f e = decide (eqb (value_of b w) 0)
    (λ d. rw (← some-eq (rw d at e)) (bind-open b w r f (eqb-true (value_of b w) 0 d)))
    (λ d. decide (eqb (value_of b w) r)
    (λ g. rw (← some-eq (rw (d, g) at e))
    (record { len = refl; more = λ v q. refl; reads = eqb-true (value_of b w) r g; only = λ v q u. q }))
    (λ g. none≢some (rw (d, g) at e)))

-- a solution with more, that reads the record's number, lets the word bind
pub bind-complete : (b s : Bindings) (w r : ℕ) → Fit (length b) w → 0 < r → length s ≡ length b → More b s
    → value_of s w ≡ r
    → (b' : Bindings) × (bind_word w r b ≡ some b') × More b' s
unfolding bind_word
bind-complete b s w r f p l m h = decide (eqb (value_of b w) 0)
    (λ d. rw d (set b (w - first_variable) (resource r), refl, λ v q. into (eqb-true (value_of b w) 0 d) v q))
    (λ d. let n : value_of b w ≢ 0 = eqb-false (value_of b w) 0 d in
    let g : value_of b w ≡ r = sym (value-more b s w m (omega arith)) ∙ h in
    rw (d, eq-eqb (value_of b w) r g) (b, refl, m))
  where
    into : value_of b w ≡ 0 → (v : ℕ) → 0 < bound_to (set b (w - first_variable) (resource r)) v
        → bound_to s v ≡ bound_to (set b (w - first_variable) (resource r)) v
    into z v q =
        let d = open-variable (length b) b w f z in
        decide (eqb v (w - first_variable))
        (λ g. let g' = eqb-true v (w - first_variable) g in let i = f.variable d in
        rw (g', bound-same b (w - first_variable) r i) (sym (value-variable s w d) ∙ h))
        (λ g. let n : v ≢ w - first_variable = eqb-false v (w - first_variable) g in
        let k = bound-other b (w - first_variable) v r n in rw k (m v (rw k at q)))

-- ---- a whole pattern

pub record Matched (x : QueryPattern) (t : Triple) (b b' : Bindings) : Type 0 where
  pub len : length b' ≡ length b
  pub more : More b b'
  pub reads : (p : Position) → at p (under b' x) ≡ at p t
  pub only : (v : ℕ) → bound_to b v ≡ 0 → occurs_in v x ≡ false → bound_to b' v ≡ 0

abbrev pub Fits3 : ℕ → QueryPattern → Type 0
Fits3 k x = (p : Position) → Fit k (word_at p x)

abbrev pub Known3 : Triple → Type 0
Known3 t = (p : Position) → 0 < at p t

pub more-trans : (a b d : Bindings) → More a b → More b d → More a d
more-trans a b d m n v q = n v (rw (m v q) q) ∙ m v q

pub after-some : {A B : Type 0} (o : Option A) (f : A → Option B) (z : B) → and_then o f ≡ some z → (a : A)
    × (o ≡ some a) × (f a ≡ some z)
after-some none f z e = none≢some e
after-some (some a) f z e = (a, refl, e)

pub match-matched : (x : QueryPattern) (t : Triple) (b b' : Bindings) → Fits3 (length b) x → Known3 t
    → match x t b ≡ some b' → Matched x t b b'
unfolding match under occurs_in
match-matched x t b b' f k e =
    let r1 = after-some (bind_word x.subject t.subject.0 b) _ b' e in
    let b1 = r1.0 in
    let r2 = after-some (bind_word x.predicate t.predicate.0 b1) _ b' r1.2 in
    let b2 = r2.0 in
    let w1 = bind-bound b x.subject t.subject.0 b1 (f Subject) r1.1 in
    let w2 = bind-bound b1 x.predicate t.predicate.0 b2 (rw w1.len (f Predicate)) r2.1 in
    let w3 = bind-bound b2 x.object t.object.0 b' (rw (w2.len, w1.len) (f Object)) r2.2 in
    let m12 = more-trans b1 b2 b' w2.more w3.more in
    record {
      len = w3.len ∙ w2.len ∙ w1.len;
      more = more-trans b b1 b' w1.more m12;
      reads = reads_at b1 b2 w1.reads w2.reads w3.reads m12 w3.more;
      only = λ v q g.
          let g1 = or_l (is_the v x.subject) _ g in let g23 = or_r (is_the v x.subject) _ g in
          w3.only v (w2.only v (w1.only v q g1) (or_l (is_the v x.predicate) _ g23))
          (or_r (is_the v x.predicate) _ g23);
    }
  where
    reads_at : (b1 b2 : Bindings) → value_of b1 x.subject ≡ t.subject.0
        → value_of b2 x.predicate ≡ t.predicate.0 → value_of b' x.object ≡ t.object.0 → More b1 b'
        → More b2 b'
        → (p : Position) → at p (under b' x) ≡ at p t
    reads_at b1 b2 h1 h2 h3 m1 m2 Subject = unfold under in (value-more b1 b' x.subject m1 (rw h1 (k Subject)) ∙ h1)
    reads_at b1 b2 h1 h2 h3 m1 m2 Predicate = unfold under in
        (value-more b2 b' x.predicate m2 (rw h2 (k Predicate)) ∙ h2)
    reads_at b1 b2 h1 h2 h3 m1 m2 Object = unfold under in h3

pub match-complete : (x : QueryPattern) (t : Triple) (b s : Bindings) → Fits3 (length b) x → Known3 t
    → length s ≡ length b → More b s → under s x ≡ t
    → (b' : Bindings) × (match x t b ≡ some b') × More b' s
unfolding match under
match-complete x t b s f k l m e =
    let r1 = bind-complete b s x.subject t.subject.0 (f Subject) (k Subject) l m
    (ap (λ (z : Triple). z.subject.0) e) in
    let b1 = r1.0 in
    let l1 = (bind-bound b x.subject t.subject.0 b1 (f Subject) r1.1).len in
    let r2 = bind-complete b1 s x.predicate t.predicate.0 (rw l1 (f Predicate)) (k Predicate) (rw l1 l)
    r1.2 (ap (λ (z : Triple). z.predicate.0) e) in
    let b2 = r2.0 in
    let l2 = (bind-bound b1 x.predicate t.predicate.0 b2 (rw l1 (f Predicate)) r2.1).len in
    let r3 = bind-complete b2 s x.object t.object.0 (rw (l2, l1) (f Object)) (k Object) (rw (l2, l1) l)
    r2.2 (ap (λ (z : Triple). z.object.0) e) in
    (r3.0, rw (r1.1, r2.1) r3.1, r3.2)
