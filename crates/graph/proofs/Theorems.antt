-- Every claim of this crate's `specs/` with its proof: a declaration of each type. Assumes nothing.
use Rattle.graph.specs.Claims.{GraphClaim, WordsClaim, ReadingClaim, NextClaim, KeptClaim, BudgetClaim}
use Rattle.graph.specs.Claims.{SplitClaim, StaleClaim, RefusalsBare, ReclaimedClaim, ScanClaim}
use Rattle.graph.specs.LiveClaims.{LiveCountClaim, QueriesDoNotLook}
use Rattle.graph.specs.Claims.{WriteClaim, LoadClaim}
use Rattle.graph.specs.Standing.{PlaceClaim, BadPlaceClaim}
use Rattle.graph.specs.QueryRefusals.{RefusalsClaim}
use Rattle.graph.specs.Arranging.{ArrangementClaim, RearrangedClaim, MoreTriplesClaim, MonotoneClaim, KeyClaim}
use Rattle.graph.specs.Arranging.{ArrangedClaim, ArrangeRefuses, ArrangedReadingClaim}
use Rattle.graph.proofs.Names as names
use Rattle.graph.proofs.Accepted as accepted
use Rattle.graph.proofs.Calls as calls
use Rattle.graph.proofs.Generations as generations
use Rattle.graph.proofs.Refusals as refusals
use Rattle.graph.proofs.Onwards as onwards
use Rattle.graph.proofs.Budget as budget
use Rattle.graph.proofs.Standing as standing
use Rattle.graph.proofs.QueryRefusals as query-refusals
use Rattle.graph.proofs.Scans as scans
use Rattle.graph.proofs.Unseen as unseen
use Rattle.graph.proofs.Writes as writes
use Rattle.graph.proofs.Loads as loads
use Rattle.graph.proofs.Arrangements as arrangements
use Rattle.graph.proofs.Fronting as fronting

pub live-graph : GraphClaim
live-graph = names.live-graph

pub words-accepted : WordsClaim
words-accepted = accepted.words-accepted

pub query-reads : ReadingClaim
query-reads = calls.query-reads

pub next-onwards : NextClaim
next-onwards = onwards.next-onwards

pub cursor-kept : KeptClaim
cursor-kept = onwards.cursor-kept

pub stale-refused : StaleClaim
stale-refused = generations.stale-refused

pub place-stands : PlaceClaim
place-stands = standing.place-stands

pub bad-place : BadPlaceClaim
bad-place = standing.bad-place

pub refused-in-order : RefusalsClaim
refused-in-order = query-refusals.refused-in-order

pub refusals-bare : RefusalsBare
refusals-bare = refusals.refusals-bare

pub reclaimed-refused : ReclaimedClaim
reclaimed-refused = onwards.reclaimed-refused

pub within-budget : BudgetClaim
within-budget = budget.within-budget

pub budgets-add : SplitClaim
budgets-add = onwards.budgets-add

pub scan-reads : ScanClaim
scan-reads = scans.scan-reads

pub live-counts : LiveCountClaim
live-counts = scans.live-counts

pub queries-do-not-look : QueriesDoNotLook
queries-do-not-look = unseen.queries-do-not-look

pub graph-writes : WriteClaim
graph-writes = writes.writes

pub line-loads : LoadClaim
line-loads = loads.loads

pub same-patterns-same : ArrangementClaim
same-patterns-same = arrangements.same-patterns-same

pub rearranged-accepted : RearrangedClaim
rearranged-accepted = arrangements.rearranged

pub more-triples : MoreTriplesClaim
more-triples = arrangements.more-triples

pub one_more_lem : MonotoneClaim
one_more_lem = arrangements.one_more_lem

pub least-counts : KeyClaim
least-counts = fronting.keys

pub arranged-words : ArrangedClaim
arranged-words = fronting.arranges

pub arranged-refused : ArrangeRefuses
arranged-refused = fronting.arrange-refuses

pub arranged-reads : ArrangedReadingClaim
arranged-reads = fronting.arranged-reads
