-- A run of the code is the run of the claims: where a store agrees with plain lists, each contract leaves one store and
-- one reply, those of `call_store`. Assumes nothing.
use mathlib.Core.Path.{◌≡◌, sym, ap, ap₂, ◌∙◌, subst}
use mathlib.Core.List.{List, [], ◌∷◌}
use native.Mathlib.Omega.{arith}
use lib.Dec.{ltb}
use borrow.Author.Tests.{ltb-true, ltb-false}
use Rattle.store.specs.declared.Counters.{Counters}
use Rattle.store.specs.Shared.{max_reclaims}
use Rattle.store.specs.Tables.{Tables, after}
use Rattle.store.specs.Values.{Values, interned_values, asserted_values, retracted_values, opened_values}
use Rattle.store.specs.Values.{scanned_values, reclaimed_values}
use Rattle.store.specs.Model.{Model, Capacities, Call, by_value, updating, intern, assert, retract, open', next}
use Rattle.store.specs.Model.{reclaim, fresh_model, call_model, model_after}
use Rattle.store.specs.Statement.{Updated, counters_after}
use Rattle.store.specs.Reclaim.{reclaim_of, ReclaimAnswer}
use Rattle.store.specs.Soundness.{Sound}
use Rattle.store.specs.History.{Store, store, fresh_store, capacities_of, interned_counters, after_reclaim}
use Rattle.store.specs.History.{opened_cursors, moved_cursors, call_store, store_replies, store_after}
use Rattle.store.specs.Claims.{Holds}
use Rattle.store.specs.CodeRuns.{Ran, Run, CodeAgrees}
use Rattle.store.proofs.Tests.{decide, fits-parts}
use Rattle.store.proofs.Represented.{Agreeing}
use Rattle.store.proofs.Histories.{call-agrees, history-agrees, fresh-agrees}
use Rattle.store.proofs.Kept.{Tidy, tidy-call, tidy-history, tidy-fresh, agreeing-sound}
use Rattle.store.proofs.Held.{agreeing-holds}
use Rattle.std.specs.Prelude.{Option as Optional, Result}
use Rattle.store.specs.declared.Asserted.{Asserted}
use Rattle.store.specs.declared.Interned.{Interned}
use Rattle.store.specs.declared.Refusal.{Refusal}
use Rattle.store.specs.declared.ScanCursor.{ScanCursor}
use Rattle.store.specs.declared.Scanned.{Scanned}
use Rattle.store.specs.declared.StatementId.{StatementId}

-- on a sound store reclaim has one answer
reclaim-is : (c : Counters) (m m' : Tables) (a : Result Counters Refusal) → Sound c m → ReclaimAnswer c m m' a
    → after m' a ≡ reclaim_of c m
unfolding reclaim_of
reclaim-is c m m' a S A =
    decide (ltb c.generation max_reclaims)
    (λ e. A.exact S (ltb-true c.generation max_reclaims e))
    (λ e. A.limit S.capacity
    (omega (arith, ltb-false c.generation max_reclaims e, (fits-parts c m S.capacity).3))
    ∙ sym (rw (S.capacity, e)))

module _ (k : Capacities) (s : Store) (l : Model) (R : Agreeing k s l) (D : Tidy l) where
  abbrev c : Counters
  c = s.counters

  ran-is : (a : Call) (t : Store) (v : Values) → Ran s a t v → (t ≡ (call_store s a).0) × (v ≡ (call_store s a).1)
  unfolding call_store
  ran-is (intern w) t v h =
      let e = h.1.exact l.names R.named in (
        h.2 ∙ ap (λ (z : Tables × Result Interned Refusal). store (interned_counters c z.1) z.0 s.cursors) e,
        h.3 ∙ ap (λ (z : Tables × Result Interned Refusal). interned_values z.1) e,
      )
  ran-is (assert by_value x) t v h = (
    h.2 ∙ ap (λ (z : Tables × Result Asserted Refusal). store (counters_after c z.1) z.0 s.cursors) h.1,
    h.3 ∙ ap (λ (z : Tables × Result Asserted Refusal). asserted_values z.1) h.1,
  )
  ran-is (assert updating x) t v h = (
    h.2 ∙ ap (λ (z : Updated (Result Asserted Refusal)). store z.counters z.tables s.cursors) h.1,
    h.3 ∙ ap (λ (z : Updated (Result Asserted Refusal)). asserted_values z.reply) h.1,
  )
  ran-is (retract by_value x) t v h = (
    h.2 ∙ ap (λ (z : Tables × Result (Optional StatementId) Refusal). store c z.0 s.cursors) h.1,
    h.3 ∙ ap (λ (z : Tables × Result (Optional StatementId) Refusal). retracted_values z.1) h.1,
  )
  ran-is (retract updating x) t v h = (
    h.2 ∙ ap (λ (z : Updated (Result (Optional StatementId) Refusal)). store z.counters z.tables s.cursors) h.1,
    h.3 ∙ ap (λ (z : Updated (Result (Optional StatementId) Refusal)). retracted_values z.reply) h.1,
  )
  ran-is (open' x) t v h = (
    h.2 ∙ ap (λ (z : Result ScanCursor Refusal). store c s.tables (opened_cursors s.cursors z)) h.1,
    h.3 ∙ ap opened_values h.1,
  )
  ran-is (next j b) t v h = (
    h.2 ∙ ap (λ (z : Result Scanned Refusal). store c s.tables (moved_cursors s.cursors j z)) h.1,
    h.3 ∙ ap scanned_values h.1,
  )
  ran-is reclaim t v h =
      let e = reclaim-is c s.tables t.tables h.0 (agreeing-sound k s l R D) h.1 in (
        h.2 ∙ ap (λ (z : Tables × Result Counters Refusal). store (after_reclaim c z.1) z.0 s.cursors) e,
        h.3 ∙ ap (λ (z : Tables × Result Counters Refusal). reclaimed_values z.1) e,
      )

run_is : (k : Capacities) (s : Store) (l : Model) → Agreeing k s l → Tidy l
    → (calls : List Call) (t : Store) (vs : List Values)
    → Run s calls t vs → (t ≡ store_after s calls) × (vs ≡ store_replies s calls)
unfolding store_after store_replies
run_is k s l R D [] t vs h = h
run_is k s l R D (a ∷ calls) t vs h =
    let one = ran-is k s l R D a h.0 h.1 h.3 in
    let rest = run_is k (call_store s a).0 (call_model k l a).0
    (call-agrees k s l R a).1 (tidy-call l D k a) calls t h.2
    (subst (λ (u : Store). Run u calls t h.2) one.0 h.4) in
    (rest.0, h.5 ∙ ap₂ ◌∷◌ one.1 rest.1)

pub code-agrees : CodeAgrees
code-agrees m calls t vs h =
    let k = capacities_of m in
    let r = run_is k (fresh_store m) fresh_model (fresh-agrees m) tidy-fresh calls t vs h in
    let H = history-agrees k (fresh_store m) fresh_model (fresh-agrees m) calls in (
      r.1 ∙ H.0,
      subst (λ (u : Store). Holds u (model_after k fresh_model calls)) (sym r.0)
          (agreeing-holds k _ _ H.1 (tidy-history k fresh_model tidy-fresh calls)),
    )
