-- Every claim of this crate's `specs/` with its proof: a declaration of each type. Assumes nothing.
use mathlib.Core.List.{[]}
use Rattle.store.specs.Model.{fresh_model}
use Rattle.store.specs.History.{store, fresh_store, capacities_of, store_after}
use Rattle.store.specs.Claims.{lists_of, HistoriesAgree, HistoriesStaySound, SoundStoresAgree, FreshIsSound}
use Rattle.store.specs.RefusalClaims.{RefusalsChangeNothing}
use Rattle.store.specs.Claims.{Finds, EndsOrSpends, VisitsAddUp}
use Rattle.store.specs.NameClaims.{RoundTrips, FindMeans, FindPlaces, PrefixMeans, SpellingsAgree}
use Rattle.store.specs.Pins.{KnownMeans}
use Rattle.store.specs.Pins.{WithinMeans, SameMeans, MatchesMeans, KindsPermittedMeans, BelowMeans, PicksLeast}
use Rattle.store.specs.RefusalClaims.{RefusalsAreBare, StaleRefused}
use Rattle.store.specs.Claims.{NoneIsMissed, ReadsOnWithBudget, StaleAfterReclaim}
use Rattle.store.specs.Pins.{FirstIsHighest}
use Rattle.store.specs.RefusalClaims.{BadRefused}
use Rattle.store.specs.Pins.{BelowFromOne, BelowFalls, LimitsAre, BytesMean, OrderMeans, LookupMeans}
use Rattle.store.specs.LiveClaims.{LiveCountsShown, LiveCountsAgree, ScansDoNotLook}
use Rattle.store.specs.RefusalClaims.{LiveAboveCount, LiveCountOfZero, ReadRefuses, NameRefuses}
use Rattle.store.specs.ReclaimClaims.{ReclaimKeeps, ReclaimWords, ForgetsRetracted, RoomAgain, NumberCounts}
use Rattle.store.specs.RefusalClaims.{FitsMeans, CapacityFirst}
use Rattle.store.specs.ReclaimClaims.{UnretractedMeans}
use Rattle.store.specs.RefusalClaims.{FindRefuses, PrefixRefuses, ReclaimRefuses}
use Rattle.store.specs.CodeRuns.{CodeAgrees}
use Rattle.store.proofs.Histories.{history-agrees, fresh-agrees}
use Rattle.store.proofs.Kept.{tidy-history, tidy-fresh, agreeing-sound}
use Rattle.store.proofs.Held.{agreeing-holds, sound-agrees, sound-tidy}
use Rattle.store.proofs.CodeAgrees as code
use Rattle.store.proofs.Falling as falling
use Rattle.store.proofs.Openings as openings
use Rattle.store.proofs.Reclaims as reclaims
use Rattle.store.proofs.Limits as limits
use Rattle.store.proofs.Refusals as refusals
use Rattle.store.proofs.LiveCounts as live
use Rattle.store.proofs.RoundTrips as trips
use Rattle.store.proofs.Prefixes as prefixes
use Rattle.store.proofs.Pins as pins
use Rattle.store.proofs.Order as order
use Rattle.store.proofs.Answers as answers

-- ---- histories

pub histories-agree : HistoriesAgree
histories-agree m calls = (history-agrees (capacities_of m) (fresh_store m) fresh_model (fresh-agrees m) calls).0

pub histories-stay-sound : HistoriesStaySound
histories-stay-sound m calls =
    let H = history-agrees (capacities_of m) (fresh_store m) fresh_model (fresh-agrees m) calls in
    agreeing-holds (capacities_of m) _ _ H.1 (tidy-history (capacities_of m) fresh_model tidy-fresh calls)

pub sound-stores-agree : SoundStoresAgree
sound-stores-agree c m S calls =
    let l = lists_of (store c m []) in
    let H = history-agrees (capacities_of m) (store c m []) l (sound-agrees c m S) calls in
    (H.0, agreeing-holds (capacities_of m) _ _ H.1 (tidy-history (capacities_of m) l (sound-tidy c m S) calls))

pub code-agrees : CodeAgrees
code-agrees = code.code-agrees

pub fresh-is-sound : FreshIsSound
fresh-is-sound m = agreeing-sound (capacities_of m) (fresh_store m) fresh_model (fresh-agrees m) tidy-fresh

pub fits-means : FitsMeans
fits-means = limits.fits-means

pub capacity-first : CapacityFirst
capacity-first = limits.capacity-first

pub refusals-change-nothing : RefusalsChangeNothing
refusals-change-nothing = refusals.refusals-change-nothing

-- ---- openings

pub reads-on-with-budget : ReadsOnWithBudget
reads-on-with-budget = openings.reads-on-with-budget

pub stale-after-reclaim : StaleAfterReclaim
stale-after-reclaim = openings.stale-after-reclaim

pub stale-refused : StaleRefused
stale-refused = limits.stale-refused

pub bad-refused : BadRefused
bad-refused = limits.bad-refused

pub finds : Finds
finds = openings.finds

pub none-is-missed : NoneIsMissed
none-is-missed = openings.none-is-missed

pub ends-or-spends : EndsOrSpends
ends-or-spends = openings.ends-or-spends

pub visits-add-up : VisitsAddUp
visits-add-up = openings.visits-add-up

-- ---- live counts

pub live-counts-shown : LiveCountsShown
live-counts-shown = live.live-counts-shown

pub live-counts-agree : LiveCountsAgree
live-counts-agree m calls y a b =
    let H = histories-stay-sound m calls in
    let s = store_after (fresh_store m) calls in
    rw (← H.statements) (live.live-counts-shown s.counters s.tables H.sound y a b)

pub live-above-count : LiveAboveCount
live-above-count = live.live-above-count

pub live-count-of-zero : LiveCountOfZero
live-count-of-zero = live.live-count-of-zero

pub scans-do-not-look : ScansDoNotLook
scans-do-not-look = live.scans-do-not-look

-- ---- a statement read, a name read

pub read-refuses : ReadRefuses
read-refuses = answers.read-refuses

pub name-refuses : NameRefuses
name-refuses = answers.name-refuses

-- ---- reclaim

pub number_counts : NumberCounts
number_counts = limits.number_counts

pub unretracted-means : UnretractedMeans
unretracted-means = limits.unretracted-means

pub find-refuses : FindRefuses
find-refuses = prefixes.find-refuses

pub prefix-refuses : PrefixRefuses
prefix-refuses = prefixes.prefix-refuses

pub reclaim-refuses : ReclaimRefuses
reclaim-refuses = limits.reclaim-refuses

pub reclaim-keeps : ReclaimKeeps
reclaim-keeps = reclaims.reclaim-keeps

pub reclaim-words : ReclaimWords
reclaim-words = reclaims.reclaim-words

pub forgets-retracted : ForgetsRetracted
forgets-retracted = reclaims.forgets-retracted

pub room-again : RoomAgain
room-again = reclaims.room-again

-- ---- numbers and names

pub round-trips : RoundTrips
round-trips = trips.round-trips

pub find-means : FindMeans
find-means = trips.find-means

pub find-places : FindPlaces
find-places = prefixes.find-places

pub prefix-means : PrefixMeans
prefix-means = prefixes.prefix-means

pub spellings-agree : SpellingsAgree
spellings-agree = trips.spellings-agree

-- ---- what stands on both sides

pub known-means : KnownMeans
known-means = pins.known-means

pub within-means : WithinMeans
within-means = pins.within-means

pub same-means : SameMeans
same-means = pins.same-means

pub matches-means : MatchesMeans
matches-means = pins.matches-means

pub kinds-permitted-means : KindsPermittedMeans
kinds-permitted-means = pins.kinds-permitted-means

pub below-means : BelowMeans
below-means = pins.below-means

pub below-from-one : BelowFromOne
below-from-one = pins.below-from-one

pub below-falls : BelowFalls
below-falls = falling.below-falling

pub first-is-highest : FirstIsHighest
first-is-highest = pins.first-is-highest

pub limits-are : LimitsAre
limits-are = pins.limits-are

pub bytes-mean : BytesMean
bytes-mean = pins.bytes-mean

pub order-means : OrderMeans
order-means = order.order-means

pub lookup-means : LookupMeans
lookup-means = pins.lookup-means

pub picks-least : PicksLeast
picks-least = pins.picks-least

pub refusals-are-bare : RefusalsAreBare
refusals-are-bare = refusals.refusals-are-bare
