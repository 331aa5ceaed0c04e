-- The chains stay as said: a new statement record, a record revived or retracted, a new resource record. Assumes
-- nothing.
use mathlib.Core.Path.{◌≡◌, refl, sym, ap, ◌∙◌}
use mathlib.Core.Logic.{◌≢◌}
use mathlib.Core.Bool.{Bool, true, false, cond, ◌&&◌}
use mathlib.Core.List.{List, []}
use Prim.Native.Nat.{ℕ, suc, ◌+◌, ◌-◌, ◌*◌, ◌≤◌, ◌<◌}
use native.Mathlib.Omega.{arith}
use lib.ListN.{length, set, length-set}
use lib.Seq.{sets}
use lib.Dec.{eqb}
use borrow.Author.Tests.{eqb-true, eqb-false, ne_eqb}
use Rattle.store.specs.declared.Position.{Position}
use Rattle.store.specs.declared.Triple.{Triple}
use Rattle.store.specs.Shared.{at, below}
use Rattle.store.specs.Tables.{off, statement_words, resource_words, term_at, flag_at, first_at, count_at, live_at}
use Rattle.store.specs.Statement.{append_record, link_record, tally}
use Rattle.store.specs.Dictionary.{fresh_record}
use Rattle.store.specs.Soundness.{holding, living, Linked}
use Rattle.store.proofs.Tests.{decide, off-lt, upto, upto-one}
use Rattle.store.proofs.Falling.{below-cong, below_none, head-suc, length-suc, length-turn}
use Rattle.store.proofs.Words.{append-length, append-term-old, append-next-old, append-flag-old, append-term}
use Rattle.store.proofs.Words.{append-next, append-flag, linked-length, linked-first, linked-count, flag-term}
use Rattle.store.proofs.Words.{flag-next, flag_same, flag-other, zero-links, grow-length, grow-old}
use Rattle.store.proofs.Words.{grow-new, linked-live, tally-length, tally-first, tally-count, tally-live}

-- the same resources up to n, the same chains there; with the same flags, the same live ones
pub chain-cong : (stm stm' : List ℕ) (p : Position) (y n : ℕ) → ((i : ℕ) → i < n → term_at stm' p i ≡ term_at stm p i)
    → below (holding stm' p y) n ≡ below (holding stm p y) n
unfolding holding
chain-cong stm stm' p y n h = below-cong _ _ n (λ i q. ap (λ (z : ℕ). eqb z y) (h i q))

pub live-cong : (stm stm' : List ℕ) (p : Position) (y n : ℕ) → ((i : ℕ) → i < n → flag_at stm' i ≡ flag_at stm i)
    → ((i : ℕ) → i < n → term_at stm' p i ≡ term_at stm p i) → below (living stm' p y) n ≡ below (living stm p y) n
unfolding living holding
live-cong stm stm' p y n f h = below-cong _ _ n (λ i q. rw (f i q, h i q))

and_none : (a b : Bool) → b ≡ false → a && b ≡ false
and_none true b e = e
and_none false b e = refl

less_one : (b : Bool) (n : ℕ) → cond b (cond b (suc n) n - 1) (cond b (suc n) n) ≡ n
less_one true n = omega arith
less_one false n = refl

-- a new record at the head of its three chains
module _ (r t : ℕ) (x : Triple) (res stm : List ℕ) (L : Linked r t res stm) (room : statement_words * suc t ≤ length stm)
    (pos : (p : Position) → 0 < at p x) (known : (p : Position) → at p x ≤ r) where
  abbrev stm' : List ℕ
  stm' = append_record t x res stm

  old-chain : (p : Position) (y n : ℕ) → n ≤ t → below (holding stm' p y) n ≡ below (holding stm p y) n
  old-chain p y n h = chain-cong stm stm' p y n (λ i q. append-term-old t x res stm p i (omega arith))

  old-live : (p : Position) (y n : ℕ) → n ≤ t → below (living stm' p y) n ≡ below (living stm p y) n
  old-live p y n h =
      live-cong stm stm' p y n (λ i q. append-flag-old t x res stm i (omega arith))
      (λ i q. append-term-old t x res stm p i (omega arith))

  room-linked : (p : Position) → resource_words * at p x ≤ length res
  room-linked p = omega (arith, known p, L.fit-resources)

  last-holds : (p : Position) (y : ℕ) → holding stm' p y t ≡ eqb (at p x) y
  unfolding holding
  last-holds p y = rw (append-term t x res stm room p)

  last-lives : (p : Position) (y : ℕ) → living stm' p y t ≡ eqb (at p x) y
  unfolding living
  last-lives p y = rw (append-flag t x res stm room) (last-holds p y)

  pub append-linked : Linked r (suc t) (link_record t x res) stm'
  append-linked = record {
    fit-resources = rw (linked-length t x res) L.fit-resources;
    fit-statements = rw (append-length t x res stm) room;
    low = λ p. upto _ t (λ i h. rw (append-term-old t x res stm p i h) (L.low p i h))
        (rw (append-term t x res stm room p) (pos p));
    high = λ p. upto _ t (λ i h. rw (append-term-old t x res stm p i h) (L.high p i h))
        (rw (append-term t x res stm room p) (known p));
    flag = upto _ t (λ i h. rw (append-flag-old t x res stm i h) (L.flag i h))
        (rw (append-flag t x res stm room) (omega arith));
    next = λ p. upto _ t
        (λ i h. rw (
          append-next-old t x res stm p i h,
          append-term-old t x res stm p i h,
          old-chain p (term_at stm p i) i (omega arith),
        )
        (L.next p i h))
        (rw (append-next t x res stm room p, append-term t x res stm room p, old-chain p (at p x) t (omega arith))
        (L.first p (at p x) (pos p) (known p)));
    first = λ p y h q. rw (
      linked-first t x res pos room-linked p y h,
      head-suc,
      last-holds p y,
      old-chain p y t (omega arith),
      L.first p y h q,
    );
    count = λ p y h q. rw (
      linked-count t x res pos room-linked p y h,
      length-suc,
      last-holds p y,
      old-chain p y t (omega arith),
      L.count p y h q,
    );
    live = λ p y h q. rw (
      linked-live t x res pos room-linked p y h,
      length-suc,
      last-lives p y,
      old-live p y t (omega arith),
      L.live p y h q,
    );
  }

-- a flag set to 0 or 1
module _ (stm : List ℕ) (i v : ℕ) where
  abbrev flagged : List ℕ
  flagged = set stm (statement_words * i + 6) v

  flag-chain : (p : Position) (y n : ℕ) → below (holding flagged p y) n ≡ below (holding stm p y) n
  flag-chain p y n = chain-cong stm flagged p y n (λ j q. flag-term stm i v p j)

  -- and three live counts moved by f, where that makes them right
  module _ (r t : ℕ) (f : ℕ → ℕ) (x : Triple) (res : List ℕ) (h : i < t) (L : Linked r t res stm)
      (terms : (p : Position) → term_at stm p i ≡ at p x) where
    low_x : (p : Position) → 0 < at p x
    low_x p = rw (← terms p) (L.low p i h)

    room-x : (p : Position) → resource_words * at p x ≤ length res
    room-x p = omega (arith, terms p, L.high p i h, L.fit-resources)

    flag-linked : v ≤ 1
        → ((p : Position) (y : ℕ) → 0 < y → y ≤ r → cond (eqb (at p x) y) (f (live_at res p y)) (live_at res p y)
        ≡ length (below (living flagged p y) t))
        → Linked r t (tally f x res) flagged
    flag-linked g lives = record {
      fit-resources = rw (tally-length f x res) L.fit-resources;
      fit-statements = rw length-set L.fit-statements;
      low = λ p j q. rw (flag-term stm i v p j) (L.low p j q);
      high = λ p j q. rw (flag-term stm i v p j) (L.high p j q);
      flag = λ j q.
          decide (eqb j i)
          (λ e. rw (eqb-true j i e, flag_same stm i v (omega (arith, L.fit-statements))) g)
          (λ e. rw (flag-other stm i v j (eqb-false j i e)) (L.flag j q));
      next = λ p j q. rw (flag-next stm i v p j, flag-term stm i v p j, flag-chain p (term_at stm p j) j)
          (L.next p j q);
      first = λ p y q z. rw (tally-first f x res low_x room-x p y q, flag-chain p y t) (L.first p y q z);
      count = λ p y q z. rw (tally-count f x res low_x room-x p y q, flag-chain p y t) (L.count p y q z);
      live = λ p y q z. tally-live f x res low_x room-x p y q ∙ lives p y q z;
    }

-- a retracted record made live, and a live one retracted: one live record more, or less, at each position
module _ (r t : ℕ) (x : Triple) (res stm : List ℕ) (i : ℕ) (h : i < t) (L : Linked r t res stm)
    (terms : (p : Position) → term_at stm p i ≡ at p x) where
  set_same : (v : ℕ) → flag_at (flagged stm i v) i ≡ v
  set_same v = flag_same stm i v (omega (arith, L.fit-statements))

  lives-other : (v : ℕ) (p : Position) (y j : ℕ) → j ≢ i → living (flagged stm i v) p y j ≡ living stm p y j
  unfolding living holding
  lives-other v p y j n = rw (flag-other stm i v j n, flag-term stm i v p j)

  -- a flag of 1 fails the test, a flag of 0 leaves the resource to decide
  lives-not : (w : List ℕ) (p : Position) (y : ℕ) → flag_at w i ≡ 1 → living w p y i ≡ false
  unfolding living
  lives-not w p y e = rw e

  lives_by : (w : List ℕ) (p : Position) (y : ℕ) → flag_at w i ≡ 0 → term_at w p i ≡ at p x
      → living w p y i ≡ eqb (at p x) y
  unfolding living holding
  lives_by w p y e d = rw (e, d)

  one-more-live : flag_at stm i ≡ 1 → (p : Position) (y : ℕ)
      → length (below (living (flagged stm i 0) p y) t)
      ≡ cond (eqb (at p x) y) (suc (length (below (living stm p y) t))) (length (below (living stm p y) t))
  one-more-live e p y =
      length-turn (living stm p y) (living (flagged stm i 0) p y) t i h (lives-not stm p y e) (lives-other 0 p y)
      ∙ ap (λ (b : Bool). let n = length (below (living stm p y) t) in cond b (suc n) n)
      (lives_by (flagged stm i 0) p y (set_same 0) (flag-term stm i 0 p i ∙ terms p))

  pub one-less-live : flag_at stm i ≡ 0 → (p : Position) (y : ℕ)
      → length (below (living stm p y) t)
      ≡ cond (eqb (at p x) y) (suc (length (below (living (flagged stm i 1) p y) t)))
      (length (below (living (flagged stm i 1) p y) t))
  one-less-live e p y =
      length-turn (living (flagged stm i 1) p y) (living stm p y) t i h (lives-not (flagged stm i 1) p y (set_same 1))
      (λ j n. sym (lives-other 1 p y j n))
      ∙ ap (λ (b : Bool). let n = length (below (living (flagged stm i 1) p y) t) in cond b (suc n) n)
      (lives_by stm p y e (terms p))

  pub revived-linked : flag_at stm i ≡ 1 → Linked r t (tally suc x res) (flagged stm i 0)
  revived-linked e =
      flag-linked stm i 0 r t suc x res h L terms (omega arith)
      (λ p y a b. rw (L.live p y a b) (sym (one-more-live e p y)))

  pub retracted-linked : flag_at stm i ≡ 0 → Linked r t (tally (λ n. n - 1) x res) (flagged stm i 1)
  retracted-linked e =
      flag-linked stm i 1 r t (λ n. n - 1) x res h L terms (omega arith)
      (λ p y a b. rw (L.live p y a b, one-less-live e p y)
      (less_one (eqb (at p x) y) (length (below (living (flagged stm i 1) p y) t))))

-- a new resource record: no statement holds it
module _ (r t : ℕ) (res stm : List ℕ) (L : Linked r t res stm) (room : resource_words * suc r ≤ length res)
    (o d : ℕ) where
  nobody : (p : Position) → below (holding stm p (suc r)) t ≡ []
  unfolding holding
  nobody p = below_none _ t (λ i q. ne_eqb (term_at stm p i) (suc r) (omega (arith, L.high p i q)))

  nobody-live : (p : Position) → below (living stm p (suc r)) t ≡ []
  unfolding living holding
  nobody-live p =
      below_none _ t (λ i q. and_none (eqb (flag_at stm i) 0) _
      (ne_eqb (term_at stm p i) (suc r) (omega (arith, L.high p i q))))

  pub grow-linked : Linked (suc r) t (sets res (resource_words * r) (fresh_record o d)) stm
  unfolding first_at count_at live_at
  grow-linked = record {
    fit-resources = rw (grow-length r res o d) room;
    fit-statements = L.fit-statements;
    low = L.low;
    high = λ p i q. omega (arith, L.high p i q);
    flag = L.flag;
    next = L.next;
    first = λ p. upto-one _ r
        (λ y h q. grow-old r res o d (off p) y (omega (arith, off-lt p)) h q ∙ L.first p y h q)
        (rw (nobody p) (grow-new r res o d room (off p) (omega (arith, off-lt p)) ∙ (zero-links o d p).0));
    count = λ p. upto-one _ r
        (λ y h q. grow-old r res o d (3 + off p) y (omega (arith, off-lt p)) h q ∙ L.count p y h q)
        (rw (nobody p) (grow-new r res o d room (3 + off p) (omega (arith, off-lt p)) ∙ (zero-links o d p).1));
    live = λ p. upto-one _ r
        (λ y h q. grow-old r res o d (8 + off p) y (omega (arith, off-lt p)) h q ∙ L.live p y h q)
        (rw (nobody-live p) (grow-new r res o d room (8 + off p) (omega (arith, off-lt p)) ∙ (zero-links o d p).2));
  }
