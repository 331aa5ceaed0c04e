-- A place once accepted stays accepted until a reclaim is answered, on any tables: no other call takes a record away or
-- changes its triple (`RecordsKept`). So a cursor that a next call answered is never refused 6 later (`KeptClaim`, put
-- together in `Onwards`). A sound store stays sound. Assumes nothing.
use mathlib.Core.Path.{◌≡◌, refl}
use mathlib.Core.Bool.{true}
use mathlib.Core.List.{List, [], ◌∷◌}
use Prim.Native.Nat.{ℕ, zero, suc, ◌≤◌, ◌<◌}
use native.Mathlib.Omega.{arith}
use Rattle.store.specs.declared.Chain.{Chain}
use Rattle.store.specs.declared.Chain.TheVariants.{All, By}
use Rattle.store.specs.declared.Counters.{Counters}
use Rattle.store.specs.declared.Triple.{Triple}
use Rattle.store.specs.Shared.{prev}
use Rattle.store.specs.Tables.{Tables}
use Rattle.store.specs.Model.{Call, intern, assert, retract, open', next, reclaim, by_value, updating}
use Rattle.store.specs.Walk.{holds_resource}
use Rattle.store.specs.Scan.{record_ok}
use Rattle.store.specs.Statement.{assert_updating_of, retract_updating_of}
use Rattle.store.specs.Soundness.{Sound}
use Rattle.store.specs.History.{Store, store, capacities_of, call_store}
use Rattle.store.specs.History.{store_after}
use Rattle.store.specs.Claims.{lists_of}
use Rattle.store.proofs.Tests.{known_more}
use Rattle.store.proofs.Words.{triple-same}
use Rattle.store.proofs.Histories.{call-agrees}
use Rattle.store.proofs.Onward.{RecordsKept}
use Rattle.store.proofs.Kept.{tidy-call, agreeing-sound}
use Rattle.store.proofs.Held.{sound-agrees, sound-tidy}
use Rattle.graph.specs.declared.QueryPattern.{QueryPattern}
use Rattle.graph.specs.declared.Level.{Level}
use Rattle.graph.specs.Query.{record_at, binds, asked, entered_ok, place_ok}
use Rattle.graph.specs.Place.{Place, start, inside, finish}
use Rattle.graph.specs.Claims.{SoundStore}
use Rattle.graph.proofs.Laws.{entered-tests, place-tests}
use Rattle.graph.proofs.Levels.{suc-prev}

module _ (r t : ℕ) (stm : List ℕ) (r' t' : ℕ) (stm' : List ℕ) (K : RecordsKept r t stm r' t' stm')
    (ps : List QueryPattern) where
  record-kept : (n : ℕ) → 0 < n → n ≤ t → record_at stm' n ≡ record_at stm n
  unfolding record_at
  record-kept n h q =
      let e = suc-prev n h in
      let i : prev n < t = omega arith in triple-same stm stm' (prev n) (λ p. K.terms p (prev n) i)

  binds-kept : (up : List Level) → entered_ok stm ps r t up ≡ true → binds stm' ps up ≡ binds stm ps up
  unfolding binds
  binds-kept [] o = refl
  binds-kept (e ∷ up) o = let f = (entered-tests r t stm ps e up).0 o in
      rw (record-kept e.statement.0 f.0.positive f.0.within, binds-kept up f.1)

  asked-kept : (up : List Level) → entered_ok stm ps r t up ≡ true → asked stm' ps up ≡ asked stm ps up
  unfolding asked
  asked-kept up o = rw (binds-kept up o)

  entered-kept : (up : List Level) → entered_ok stm ps r t up ≡ true → entered_ok stm' ps r' t' up ≡ true
  entered-kept [] o = unfold entered_ok in refl
  entered-kept (e ∷ up) o =
      let f = (entered-tests r t stm ps e up).0 o in
      let T = f.0 in
      let d = record-kept e.statement.0 T.positive T.within in
      (entered-tests r' t' stm' ps e up).1 (
        record {
          positive = T.positive;
          within = omega (arith, T.within, K.records);
          chain = rw (asked-kept up f.1) T.chain;
          resources = rw d (known_more r r' (record_at stm e.statement.0) K.resources T.resources);
          matched = rw (d, binds-kept up f.1) T.matched;
        },
        entered-kept up f.1,
      )

  next-kept : (ch : Chain) (x : Triple) (n : ℕ) → n ≤ t → record_ok stm ch x n ≡ true → record_ok stm' ch x n ≡ true
  unfolding record_ok holds_resource
  next-kept ch x zero h e = refl
  next-kept All x (suc i) h e = refl
  next-kept (By p) x (suc i) h e = rw (K.terms p i (omega arith)) e

  pub place_kept : (q : Place) → place_ok stm ps r t q ≡ true → place_ok stm' ps r' t' q ≡ true
  place_kept start o = unfold place_ok in refl
  place_kept (inside l up) o =
      let P = (place-tests r t stm ps l up).0 o in
      let d = asked-kept up P.entered in
      (place-tests r' t' stm' ps l up).1 (record {
        room = P.room;
        entered = entered-kept up P.entered;
        within = omega (arith, P.within, K.records);
        chain = rw d P.chain;
        next = rw d (next-kept l.chain (asked stm ps up) l.statement.0 P.within P.next);
      })
  place_kept finish o = unfold place_ok in refl

-- ---- a sound store stays sound

module _ (c : Counters) (m : Tables) (S : Sound c m) where
  sound-once : (a : Call) → SoundStore (call_store (store c m []) a).0
  sound-once a =
      let k = capacities_of m in
      let l = lists_of (store c m []) in
      agreeing-sound k _ _ (call-agrees k (store c m []) l (sound-agrees c m S) a).1
      (tidy-call l (sound-tidy c m S) k a)

-- the cursors of open listings do not matter
call-sound : (s : Store) → SoundStore s → (a : Call) → SoundStore (call_store s a).0
unfolding call_store assert_updating_of retract_updating_of
call-sound s S (intern w) = sound-once s.counters s.tables S (intern w)
call-sound s S (assert by_value x) = sound-once s.counters s.tables S (assert by_value x)
call-sound s S (assert updating x) = sound-once s.counters s.tables S (assert updating x)
call-sound s S (retract by_value x) = sound-once s.counters s.tables S (retract by_value x)
call-sound s S (retract updating x) = sound-once s.counters s.tables S (retract updating x)
call-sound s S (open' x) = S
call-sound s S (next j b) = S
call-sound s S reclaim = sound-once s.counters s.tables S reclaim

pub calls-sound : (s : Store) → SoundStore s → (a : List Call) → SoundStore (store_after s a)
unfolding store_after
calls-sound s S [] = S
calls-sound s S (a ∷ r) = calls-sound (call_store s a).0 (call-sound s S a) r
