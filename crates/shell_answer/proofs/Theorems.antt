-- Every claim of this crate's `specs/` with its proof: a declaration of each type. Assumes nothing.
use Prim.Native.Nat.{◌≤◌}
use native.Mathlib.Omega.{arith}
use Rattle.store.specs.declared.Counters.{Counters}
use Rattle.store.specs.declared.Triple.{Triple}
use Rattle.store.specs.Shared.{max_statements}
use Rattle.store.specs.Tables.{Tables, triple_at}
use Rattle.store.specs.Model.{on_chain}
use Rattle.store.specs.Walk.{pick_chain}
use Rattle.store.specs.Soundness.{Sound}
use Rattle.store.proofs.Tests.{fits-parts}
use Rattle.store.proofs.Falling.{length-le}
use Rattle.graph.specs.Claims.{reading, scanning}
use Rattle.graph.specs.Work.{work_of, scan_work_of}
use Rattle.graph.proofs.Theorems.{query-reads, scan-reads}
use Rattle.shell_answer.specs.declared.Told.{Told}
use Rattle.shell_answer.specs.Told.{account}
use Rattle.shell_answer.specs.Claims.{ListRead, Whole, QuestionsAreReadThrough, ListsAreReadThrough}
use Rattle.shell_answer.proofs.Whole.{whole}

-- a scan visits each statement at most once
few : (c : Counters) (m : Tables) → Sound c m → (x : Triple) → scan_work_of c m x ≤ max_statements
few c m S x =
    omega (
      arith,
      (fits-parts c m S.capacity).1,
      length-le (λ i. on_chain (pick_chain m.resources x) x (triple_at m.statements i)) c.statements,
    )

pub questions-are-read-through : QuestionsAreReadThrough
questions-are-read-through c m S ws ok =
    let r = query-reads c m S ws ok in
    (r.1.0, r.1.1, λ t T. whole (reading c m ws) r.1.0 (work_of c m ws) r.1.2 r.2 (account t) (T.opened r.0))

pub lists-are-read-through : ListsAreReadThrough
lists-are-read-through c m S x known =
    let r = scan-reads c m S x known in
    let w : (t : Told) → ListRead c m x t → Whole r.all (scan_work_of c m x) (account t) =
    λ t T. whole (scanning c m x) r.all (scan_work_of c m x) r.read r.ends (account t) (T.opened r.opened) in
    (r.all, r.exactly, λ t T. (λ d. (w t T).ends d (omega (arith, few c m S x)), w t T))
