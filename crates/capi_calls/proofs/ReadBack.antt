-- The words of counters and cursors: how many there are, what was written is read back, and every word past them is
-- kept. Assumes nothing.
use mathlib.Core.Path.{◌≡◌, refl}
use mathlib.Core.List.{List, [], ◌∷◌}
use Prim.Native.Nat.{ℕ, ◌<◌}
use native.Mathlib.Omega.{arith}
use lib.ListN.{set, length-set}
use lib.Seq.{get_or-set_other}
use Rattle.store.specs.declared.Position.TheVariants.{Subject, Predicate, Object}
use Rattle.store.specs.declared.Chain.TheVariants.{All, By}
use Rattle.store.specs.Tables.{word}
use Rattle.capi_calls.specs.Words.{chain_word}
use Rattle.capi_calls.specs.Claims.{WidthsAre, CountersReadBack, CountersKeepTheRest, ChainsReadBack, CursorsReadBack}
use Rattle.capi_calls.specs.Claims.{CursorsKeepTheRest}

past : (w : List ℕ) (i k v : ℕ) → i < k → word (set w i v) k ≡ word w k
past w i k v h = get_or-set_other w i k v 0 (omega arith)

-- ---- widths

pub widths-are : WidthsAre
widths-are = refl

-- ---- counters

pub counters-read-back : CountersReadBack
counters-read-back [] c h = absurd (omega arith)
counters-read-back (x ∷ []) c h = absurd (omega arith)
counters-read-back (x ∷ y ∷ []) c h = absurd (omega arith)
counters-read-back (x ∷ y ∷ z ∷ []) c h = absurd (omega arith)
counters-read-back (x ∷ y ∷ z ∷ g ∷ w) c h = refl

pub counters-keep-the-rest : CountersKeepTheRest
counters-keep-the-rest w c = (
  simp length-set,
  λ i h. rw (
    past _ 3 i c.generation (omega arith),
    past _ 2 i c.text (omega arith),
    past _ 1 i c.statements (omega arith),
    past _ 0 i c.resources (omega arith),
  ),
)

-- ---- a cursor

pub chains-read-back : ChainsReadBack
chains-read-back All = (omega arith, refl)
chains-read-back (By Subject) = (omega arith, refl)
chains-read-back (By Predicate) = (omega arith, refl)
chains-read-back (By Object) = (omega arith, refl)

pub cursors-read-back : CursorsReadBack
cursors-read-back [] q h = absurd (omega arith)
cursors-read-back (x ∷ []) q h = absurd (omega arith)
cursors-read-back (x ∷ y ∷ []) q h = absurd (omega arith)
cursors-read-back (x ∷ y ∷ z ∷ []) q h = absurd (omega arith)
cursors-read-back (x ∷ y ∷ z ∷ k ∷ []) q h = absurd (omega arith)
cursors-read-back (x ∷ y ∷ z ∷ k ∷ n ∷ []) q h = absurd (omega arith)
cursors-read-back (x ∷ y ∷ z ∷ k ∷ n ∷ g ∷ w) q h = rw (chains-read-back q.chain).1

pub cursors-keep-the-rest : CursorsKeepTheRest
cursors-keep-the-rest w q = (
  simp length-set,
  λ i h. rw (
    past _ 5 i q.generation (omega arith),
    past _ 4 i q.next.0 (omega arith),
    past _ 3 i (chain_word q.chain) (omega arith),
    past _ 2 i q.pattern.object.0 (omega arith),
    past _ 1 i q.pattern.predicate.0 (omega arith),
    past _ 0 i q.pattern.subject.0 (omega arith),
  ),
)
