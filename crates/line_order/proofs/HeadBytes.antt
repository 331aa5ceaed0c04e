-- What is left of a line from a head on, one byte at a time: a law for each way out of the functions over heads.
-- Assumes nothing.
use mathlib.Core.Path.{◌≡◌, refl}
use mathlib.Core.Logic.{◌≢◌}
use mathlib.Core.List.{List, [], ◌∷◌, ◌++◌}
use Prim.Native.Nat.{ℕ, zero, suc, ◌+◌, ◌<◌}
use native.Mathlib.Omega.{arith}
use lib.ListN.{length, drop}
use Rattle.store.specs.declared.Position.{Position}
use Rattle.store.specs.declared.Position.TheVariants.{Subject, Predicate, Object}
use Rattle.store.specs.declared.Triple.{Triple}
use Rattle.store.specs.Tables.{word}
use Rattle.store.specs.Names.{up_to_zero}
use Rattle.lines.proofs.NamesTold.{name-end, name-on}
use Rattle.line_order.specs.declared.Head.{Head}
use Rattle.line_order.specs.declared.Head.TheVariants.{Name, Dot, Feed, End}
use Rattle.line_order.specs.Rests.{TripleNamed, after_name, rest_of, HeadClosed, first}
use Rattle.line_order.specs.Heads.{ByteAt, head_after, OneOn}
use Rattle.line_order.proofs.NameBytes.{closed_on}

-- ---- the byte at a head

module _ (text : List ℕ) {h : Head} {p : Position} {o : ℕ} (e : h ≡ Name p o) (closed : HeadClosed text h) where
  pub offset-inside : o < length text
  offset-inside = let d = rw e at closed in omega arith

  pub byte-blank : word text o ≡ 0 → ByteAt text h 32
  byte-blank z = record { is = λ res x. rw (e, name-end text o z) }

  pub byte-name : word text o ≢ 0 → ByteAt text h (word text o)
  byte-name n = record { is = λ res x. rw (e, name-on text o n) }

module _ {text : List ℕ} {h : Head} where
  pub byte-dot : h ≡ Dot → ByteAt text h 46
  byte-dot e = record { is = λ res x. rw e }

  pub byte-feed : h ≡ Feed → ByteAt text h 10
  byte-feed e = record { is = λ res x. rw e }

  pub byte-end : h ≡ End → ByteAt text h 0
  byte-end e = record { is = λ res x. rw e }

-- ---- one byte on

module _ (res text : List ℕ) (x : Triple) where
  after-rest : (p : Position) → rest_of res text x (head_after res x p) ≡ after_name res text x p
  after-rest Subject = refl
  after-rest Predicate = refl
  after-rest Object = refl

  after-closed : TripleNamed res text x → (p : Position) → HeadClosed text (head_after res x p)
  after-closed t Subject = t.closed Predicate
  after-closed t Predicate = t.closed Object
  after-closed t Object = tt

module _ {res text : List ℕ} {x : Triple} {h : Head} where
  module _ {p : Position} {o : ℕ} (e : h ≡ Name p o) (closed : HeadClosed text h) where
    pub on-blank : TripleNamed res text x → word text o ≡ 0 → {g : Head} → g ≡ head_after res x p
        → OneOn res text x h g
    on-blank t z q =
        record {
          closed = rw q (after-closed res text x t p);
          rest = rw (q, e, name-end text o z) (after-rest res text x p);
        }

    pub on-name : word text o ≢ 0 → OneOn res text x h (Name p (o + 1))
    on-name n =
        record {
          closed = closed_on text o (rw e at closed) n;
          rest = rw (e, name-on text o n);
        }

  pub on-dot : h ≡ Dot → OneOn res text x h Feed
  on-dot e = record { closed = tt; rest = rw e }

  pub on-feed : h ≡ Feed → OneOn res text x h End
  on-feed e = record { closed = tt; rest = rw e }

  pub on-end : h ≡ End → OneOn res text x h End
  on-end e = record { closed = tt; rest = rw e }

-- ---- the end

name-byte : (l s : List ℕ) → first (up_to_zero l ++ 32 ∷ s) ≢ 0
name-byte [] s e = omega arith
name-byte (zero ∷ l) s e = omega arith
name-byte (suc b ∷ l) s e = omega arith

-- no byte of a line is 0
pub rest-ends : (res text : List ℕ) (x : Triple) (h : Head) → first (rest_of res text x h) ≡ 0
    → rest_of res text x h ≡ []
rest-ends res text x (Name p o) e = absurd (name-byte (drop o text) (after_name res text x p) e)
rest-ends res text x Dot e = absurd (omega arith)
rest-ends res text x Feed e = absurd (omega arith)
rest-ends res text x End e = refl
