-- One opening in a run of the store: what a next of it answers is what taking positions off its rest comes to, and the
-- rest is the chain at the opening without as many as were visited. So Finds, EndsOrSpends and VisitsAddUp. After a
-- reclaim there is no more to take: StaleAfterReclaim. Assumes nothing.
use mathlib.Core.Path.{◌≡◌, refl, sym, ap, ap₂, ◌∙◌, subst}
use mathlib.Core.Logic.{◌≢◌, ◌↔◌, ⊎_elim}
use mathlib.Core.Bool.{Bool, true, not, true≢false}
use mathlib.Core.List.{List, [], ◌∷◌, ◌++◌, Memᴰ}
use Prim.Native.Nat.{ℕ, zero, suc, ◌+◌, ◌-◌, ◌≤◌, ◌<◌}
use native.Mathlib.Omega.{arith}
use lib.ListN.{length, drop, length-append, length-map}
use lib.Seq.{get_or-append_seam}
use lib.Dec.{eqb}
use borrow.Author.Tests.{eq-eqb, ne_eqb, eqb-true, eqb-false}
use Rattle.store.specs.declared.Chain.{Chain}
use Rattle.store.specs.declared.Chain.TheVariants.{All, By}
use Rattle.store.specs.declared.Triple.{Triple}
use Rattle.store.specs.Shared.{at, within, agrees, prev, Entry, matches, pick}
use Rattle.store.specs.Values.{Values, placed, refused_with}
use Rattle.store.specs.Model.{Listing, Model, Capacities, Taken, found as took, ended as emptied}
use Rattle.store.specs.Model.{spent as stopped, open', next, fresh_model, entry, on_chain, holders}
use Rattle.store.specs.Model.{pick_model, listing, cursor_of, no_listing, leaving, read_rest, taken_values}
use Rattle.store.specs.Model.{take_from, turn, open_model, next_model, call_model, model_replies, model_after}
use Rattle.store.specs.History.{fresh_store, capacities_of, call_store}
use Rattle.store.specs.Claims.{Opening, store_then, opened, Accepted, opening_number, chain_then, store_now, visits_of}
use Rattle.store.specs.Claims.{visits_so_far, rest_now, reached, live_now, next_now, Latest, Exhausts}
use Rattle.store.specs.Pins.{Falling}
use Rattle.store.specs.Claims.{Shortest, unbound, bound, statements_in, Finds, EndsOrSpends, VisitsAddUp}
use Rattle.store.specs.Claims.{taken_so_far, reclaims_in, reclaims_since, Unreclaimed, NoneIsMissed}
use Rattle.store.specs.Claims.{ReadsOnWithBudget, StaleAfterReclaim}
use Rattle.store.proofs.Tests.{decide, off-lt, and_r}
use Rattle.store.proofs.Falling.{below-falling, below_in, all_pass}
use Rattle.store.proofs.Picking.{Picked, pick-picks, Bound, pick-bound}
use Rattle.store.proofs.Represented.{Agreeing, Same}
use Rattle.store.proofs.Histories.{call-agrees, history-agrees, fresh-agrees}
use Rattle.store.proofs.Taking.{Outcome, hits, ends, stops, outcome, falling-drop, mem-split}
use Rattle.store.proofs.Visits.{opening-after, visits-add}
use Rattle.store.proofs.Changes.{opening_of}
use Rattle.store.proofs.Onward.{calls-onward}
use Rattle.store.proofs.Held.{agreeing-statements}
use Rattle.store.proofs.Entries.{Grown, grown-trans, grown-call, grown-history}
use Rattle.store.proofs.Pins.{agrees_at}

-- ---- the plain lists' answers that are not refused

open-accepted : (s : Model) (x : Triple) → (open_model s x).1.refusal ≡ 0 → within (length s.names) x ≡ true
unfolding open_model
open-accepted s x = decide (within (length s.names) x) (λ e h. e) (λ e. rw e (λ h. absurd (omega (arith, h))))

open-lists : (s : Model) (x : Triple) → within (length s.names) x ≡ true
    → (open_model s x).0.listings ≡ s.listings ++ listing s.generation x s.entries ∷ []
unfolding open_model
open-lists s x e = rw e

open-values : (s : Model) (x : Triple) → within (length s.names) x ≡ true
    → (open_model s x).1 ≡ placed (cursor_of (listing s.generation x s.entries))
unfolding open_model
open-values s x e = rw e

taken-accepted : (g : Listing) (z : Taken) → (taken_values g z).refusal ≡ 0
taken-accepted g (took n v r) = refl
taken-accepted g (emptied v) = refl
taken-accepted g (stopped v r) = refl

-- a next is refused exactly without a budget or after a reclaim
next-stale : (s : Model) (j b : ℕ) → (opening_of s j).generation ≢ s.generation → (next_model s j b).1 ≡ refused_with 13
unfolding next_model
next-stale s j b h = rw (ne_eqb (opening_of s j).generation s.generation h)

-- what one says that is not
record Answered (s : Model) (j b : ℕ) : Type 0 where
  budget : 0 < b
  number : (opening_of s j).generation ≡ s.generation
  values : (next_model s j b).1 ≡ taken_values (opening_of s j) (take_from s.entries (opening_of s j) b)

next-answered : (s : Model) (j b : ℕ) → (next_model s j b).1.refusal ≡ 0 → Answered s j b
unfolding next_model turn
next-answered s j b h =
    decide (eqb (opening_of s j).generation s.generation)
    (λ d. decide (eqb b 0)
    (λ e. absurd (omega (arith, rw (d, e) at h)))
    (λ e. record {
      budget = omega (arith, eqb-false b 0 e);
      number = eqb-true (opening_of s j).generation s.generation d;
      values = rw (d, e);
    }))
    (λ d. absurd (omega (arith, rw d at h)))

next-budget : (s : Model) (j b : ℕ) → (0 < b) × ((opening_of s j).generation ≡ s.generation)
    → (next_model s j b).1.refusal ≡ 0
unfolding next_model turn
next-budget s j b h =
    rw (eq-eqb (opening_of s j).generation s.generation h.1, ne_eqb b 0 (omega (arith, h.0)))
    (taken-accepted (opening_of s j) (take_from s.entries (opening_of s j) b))

chain-of : (n : ℕ) (x : Triple) (l : List Entry) → (cursor_of (listing n x l)).chain ≡ pick_model x l
unfolding listing
chain-of n x l = refl

take-from : (n : ℕ) (l : List Entry) (x : Triple) (h : List Entry) (r : List ℕ) (b : ℕ)
    → take_from l (leaving (listing n x h) r) b ≡ read_rest (λ i. matches x (entry l i)) b r
unfolding take_from listing
take-from n l x h r b = refl

rest_of : (n : ℕ) (x : Triple) (l : List Entry) → (listing n x l).rest ≡ holders (pick_model x l) x l
unfolding listing
rest_of n x l = refl

-- a match is on the picked chain
matches-agrees : (x : Triple) (e : Entry) → matches x e ≡ true → agrees x e.spo ≡ true
unfolding matches
matches-agrees x e h = and_r (not e.retracted) _ h

agrees_on : (ch : Chain) (x t : Triple) → Bound ch x → agrees x t ≡ true → on_chain ch x t ≡ true
unfolding on_chain
agrees_on All x t b h = refl
agrees_on (By p) x t b h = eq-eqb (at p t) (at p x) (agrees_at x t h p b)

in-listing : (n : ℕ) (x : Triple) (l : List Entry) (i : ℕ) → i < length l → agrees x (entry l i).spo ≡ true
    → Memᴰ (suc i) (listing n x l).rest
unfolding listing holders pick_model
in-listing n x l i h e = below_in _ (length l) i h (agrees_on _ x (entry l i).spo (pick-bound x _) e)

holders-falling : (ch : Chain) (x : Triple) (l : List Entry) → Falling (holders ch x l)
unfolding holders
holders-falling ch x l = below-falling _ (length l)

-- ---- the run

module _ (o : Opening) (acc : Accepted o) where
  abbrev k : Capacities
  k = capacities_of o.over

  abbrev x : Triple
  x = o.pattern

  abbrev s0 : Model
  s0 = model_after k fresh_model o.before

  R0 : Agreeing k (store_then o) s0
  R0 = (history-agrees k (fresh_store o.over) fresh_model (fresh-agrees o.over) o.before).1

  abbrev s1 : Model
  s1 = (call_model k s0 (open' x)).0

  opened-same : Same k (opened o) (call_model k s0 (open' x))
  opened-same = call-agrees k (store_then o) s0 R0 (open' o.pattern)

  R1 : Agreeing k (opened o).0 s1
  R1 = opened-same.1

  inside : within (length s0.names) x ≡ true
  unfolding call_model
  inside = open-accepted s0 x (sym (ap (λ (v : Values). v.refusal) opened-same.0) ∙ acc)

  abbrev j : ℕ
  j = opening_number o

  j-is : j ≡ length s0.listings
  j-is = ap length R0.cursors ∙ length-map s0.listings cursor_of

  lists-one : s1.listings ≡ s0.listings ++ listing s0.generation x s0.entries ∷ []
  unfolding call_model
  lists-one = open-lists s0 x inside

  j-open : j < length s1.listings
  j-open = rw (lists-one, length-append) (omega (arith, j-is))

  at-opening : opening_of s1 j ≡ listing s0.generation x s0.entries
  at-opening =
      rw (lists-one, j-is) (get_or-append_seam s0.listings (listing s0.generation x s0.entries) [] no_listing)

  chain-is : chain_then o ≡ (listing s0.generation x s0.entries).rest
  unfolding call_model
  chain-is =
      ap₂ (λ (c : Chain) (l : List Entry). holders c o.pattern l)
      (ap (λ (v : Values). v.cursor.chain) (opened-same.0 ∙ open-values s0 x inside)
      ∙ chain-of s0.generation x s0.entries)
      (agreeing-statements k (store_then o) s0 R0)
      ∙ sym (rest_of s0.generation o.pattern s0.entries)

  abbrev s2 : Model
  s2 = model_after k s1 o.since

  R2 : Agreeing k (store_now o) s2
  R2 = (history-agrees k (opened o).0 s1 R1 o.since).1

  -- the opening's number of reclaims and the number now
  reclaims-same : reclaims_since o ≡ reclaims_in o.since (model_replies k s1 o.since)
  reclaims-same = ap (reclaims_in o.since) (history-agrees k (opened o).0 s1 R1 o.since).0

  open-number : (opened o).0.counters.generation ≡ (store_then o).counters.generation
  unfolding call_store
  open-number = refl

  number-now : s2.generation ≡ s0.generation + reclaims_since o
  number-now = omega (arith, R0.generation, R2.generation, open-number, (calls-onward (opened o).0 o.since).0)

  grown-now : Unreclaimed o → Grown s0.entries s2.entries
  grown-now u =
      grown-trans _ _ _ (grown-call k s0 (open' x) refl) (grown-history k s1 o.since (sym reclaims-same ∙ u))

  visits-same : visits_so_far o ≡ visits_of j o.since (model_replies k s1 o.since)
  visits-same = ap (visits_of (opening_number o) o.since) (history-agrees k (opened o).0 s1 R1 o.since).0

  at-now : opening_of s2 j ≡ leaving (listing s0.generation x s0.entries) (rest_now o)
  at-now =
      opening-after k s1 j o.since j-open
      ∙ ap₂ (λ (g : Listing) (v : ℕ). leaving g (drop v g.rest)) at-opening (sym visits-same)
      ∙ ap (λ (r : List ℕ). leaving (listing s0.generation x s0.entries) (drop (visits_so_far o) r)) (sym chain-is)

  abbrev live_at : ℕ → Bool
  live_at i = matches o.pattern (entry (statements_in (store_now o)) i)

  next-same : (b : ℕ) → next_now o b ≡ (next_model s2 j b).1
  unfolding call_model
  next-same b = (call-agrees k (store_now o) s2 R2 (next j b)).0

  number-then : (opening_of s2 j).generation ≡ s0.generation
  unfolding listing
  number-then = ap (λ (g : Listing). g.generation) at-now

  with-budget : (b : ℕ) → (next_now o b).refusal ≡ 0 ↔ (0 < b) × Unreclaimed o
  with-budget b =
      rw (next-same b) (
        λ h. let z = next-answered s2 j b h in (z.budget, omega (arith, z.number, number-then, number-now)),
        λ h. next-budget s2 j b (h.0, omega (arith, h.1, number-then, number-now)),
      )

  stale : 0 < reclaims_since o → (b : ℕ) → next_now o b ≡ refused_with 13
  stale h b = next-same b ∙ next-stale s2 j b (λ e. omega (arith, h, e, number-then, number-now))

  -- what a next answers
  next-is : (b : ℕ) → (next_now o b).refusal ≡ 0
      → next_now o b ≡ taken_values (opening_of s2 j) (read_rest live_at b (rest_now o))
  next-is b h =
      next-same b
      ∙ (next-answered s2 j b (sym (ap (λ (v : Values). v.refusal) (next-same b)) ∙ h)).values
      ∙ ap (taken_values (opening_of s2 j))
      (ap₂ (λ (l : List Entry) (g : Listing). take_from l g b) (sym (agreeing-statements k (store_now o) s2 R2)) at-now
      ∙ take-from s0.generation (statements_in (store_now o)) o.pattern s0.entries (rest_now o) b)

  rest-falling : Falling (rest_now o)
  rest-falling = falling-drop (visits_so_far o) (chain_then o) (holders-falling _ o.pattern _)

  outcome-now : (b : ℕ) → Outcome live_at b (rest_now o)
  outcome-now b = outcome live_at b (rest_now o) rest-falling

  -- ---- Finds

  module _ (b : ℕ) (h : (next_now o b).refusal ≡ 0) where
    answer : (z : Taken) → read_rest live_at b (rest_now o) ≡ z → next_now o b ≡ taken_values (opening_of s2 j) z
    answer z q = next-is b h ∙ ap (taken_values (opening_of s2 j)) q

    finds-by : (n : ℕ) → Outcome live_at b (rest_now o) → ((next_now o b).status ≡ 1) × ((next_now o b).number ≡ n)
        ↔ Latest (live_now o) (reached o b) n
    finds-by n (hits i v r q L) =
        let e = answer (took i v r) q in (
          λ z. subst (Latest (live_now o) (reached o b)) (sym (ap (λ (v : Values). v.number) e) ∙ z.1) L,
          λ K. (
            ap (λ (v : Values). v.status) e,
            ap (λ (v : Values). v.number) e ∙ omega (
              arith,
              K.latest i L.among L.passes,
              L.latest n K.among K.passes,
            ),
          ),
        )
    finds-by n (ends q none l) =
        let e = ap (λ (v : Values). v.status) (answer (emptied (length (rest_now o))) q) in
        (λ z. absurd (omega (arith, z.0, e)), λ K. absurd (true≢false (sym K.passes ∙ none n K.among)))
    finds-by n (stops q none l) =
        let e = ap (λ (v : Values). v.status) (answer (stopped b (drop b (rest_now o))) q) in
        (λ z. absurd (omega (arith, z.0, e)), λ K. absurd (true≢false (sym K.passes ∙ none n K.among)))

    exhausts-by : Outcome live_at b (rest_now o) → Exhausts o b
    exhausts-by (hits i v r q L) =
        let e = ap (λ (v : Values). v.status) (answer (took i v r) q) in
        record {
          ended = (λ z. absurd (omega (arith, z, e)), λ K. absurd (true≢false (sym L.passes ∙ K.0 i L.among)));
          ended-visits = λ z. absurd (omega (arith, z, e));
          spent = (λ z. absurd (omega (arith, z, e)), λ K. absurd (true≢false (sym L.passes ∙ K.0 i L.among)));
          spent-visits = λ z. absurd (omega (arith, z, e));
        }
    exhausts-by (ends q none l) =
        let a = answer (emptied (length (rest_now o))) q in
        let e = ap (λ (v : Values). v.status) a in
        record {
          ended = (λ z. (none, l), λ K. e);
          ended-visits = λ z. ap (λ (v : Values). v.visits) a;
          spent = (λ z. absurd (omega (arith, z, e)), λ K. absurd (omega (arith, K.1, l)));
          spent-visits = λ z. absurd (omega (arith, z, e));
        }
    exhausts-by (stops q none l) =
        let a = answer (stopped b (drop b (rest_now o))) q in
        let e = ap (λ (v : Values). v.status) a in
        record {
          ended = (λ z. absurd (omega (arith, z, e)), λ K. absurd (omega (arith, K.1, l)));
          ended-visits = λ z. absurd (omega (arith, z, e));
          spent = (λ z. (none, l), λ K. e);
          spent-visits = λ z. ap (λ (v : Values). v.visits) a;
        }

  -- ---- no match is missed

  on_chain_lem : Unreclaimed o → (n : ℕ) → 0 < n → n ≤ (store_then o).counters.statements → live_now o n ≡ true
      → Memᴰ n (chain_then o)
  on_chain_lem u n lo hi e =
      let i = n - 1 in
      let d : suc i ≡ n = omega arith in
      let q : i < length s0.entries = omega (arith, R0.size) in
      let m : matches x (entry s2.entries i) ≡ true =
      sym (ap₂ (λ (l : List Entry) (z : ℕ). matches x (entry l z)) (agreeing-statements k (store_now o) s2 R2)
      (prev-is n)) ∙ e in
      let a : agrees x (entry s0.entries i).spo ≡ true =
      ap (agrees x) (sym ((grown-now u).stays i q)) ∙ matches-agrees x (entry s2.entries i) m in
      rw chain-is (subst (λ (z : ℕ). Memᴰ z (listing s0.generation x s0.entries).rest) d
      (in-listing s0.generation x s0.entries i q a))
    where
      prev-is : (n : ℕ) → prev n ≡ n - 1
      prev-is zero = omega arith
      prev-is (suc n) = omega arith

  missed-none : Unreclaimed o → (n : ℕ) → 0 < n → n ≤ (store_then o).counters.statements → live_now o n ≡ true
      → ((i : ℕ) → Memᴰ i (taken_so_far o) → n < i) → Memᴰ n (rest_now o)
  missed-none u n lo hi e h =
      ⊎_elim (λ m. absurd (omega (arith, h n m))) (λ m. m)
      (mem-split (visits_so_far o) (chain_then o) n (on_chain_lem u n lo hi e))

  -- ---- the visits

  -- the visits so far and the rest make up the chain at the opening
  pub visits-and-rest : visits_so_far o + length (rest_now o) ≡ length (chain_then o)
  visits-and-rest =
      let sum = visits-add k s1 j o.since j-open in
      omega (
        arith,
        sum,
        visits-same,
        ap (λ (g : Listing). length g.rest) at-now,
        ap (λ (g : Listing). length g.rest) at-opening,
        ap length chain-is,
      )

  chain_length_lem : length (chain_then o) ≡ length (holders (pick_model o.pattern (statements_in (store_then o)))
      o.pattern (statements_in (store_then o)))
  chain_length_lem =
      ap length (chain-is ∙ rest_of s0.generation o.pattern s0.entries)
      ∙ ap (λ (l : List Entry). length (holders (pick_model o.pattern l) o.pattern l))
      (sym (agreeing-statements k (store_then o) s0 R0))

-- the picked chain is the shortest bound one
all-length : (x : Triple) (l : List Entry) → length (holders All x l) ≡ length l
unfolding holders on_chain
all-length x l = all_pass _ (length l) (λ i h. refl)

pub picked-shortest : (x : Triple) (l : List Entry) (v : ℕ) → v ≡ length (holders (pick_model x l) x l) → Shortest x l v
unfolding pick_model
picked-shortest x l v e =
    go (pick x (λ q. length (holders (By q) x l))) (pick-picks x (λ q. length (holders (By q) x l))) e
  where
    go : (ch : Chain) → Picked x (λ q. length (holders (By q) x l)) 3 ch → v ≡ length (holders ch x l) → Shortest x l v
    go All h d = unbound (λ q. h q (off-lt q)) (d ∙ all-length x l)
    go (By p) h d = bound p h.1.bound d (λ q z. omega (arith, d, h.1.least q (off-lt q) z))

-- ---- the claims

pub reads-on-with-budget : ReadsOnWithBudget
reads-on-with-budget o acc b = with-budget o acc b

pub stale-after-reclaim : StaleAfterReclaim
stale-after-reclaim o acc = stale o acc

pub finds : Finds
finds o acc b h n = finds-by o acc b h n (outcome-now o acc b)

pub none-is-missed : NoneIsMissed
none-is-missed o acc = missed-none o acc

pub ends-or-spends : EndsOrSpends
ends-or-spends o acc b h = exhausts-by o acc b h (outcome-now o acc b)

pub visits-add-up : VisitsAddUp
visits-add-up o acc b h e =
    let v = (ends-or-spends o acc b h).ended-visits e in
    picked-shortest o.pattern (statements_in (store_then o)) _
    (ap (λ (z : ℕ). visits_so_far o + z) v ∙ visits-and-rest o acc ∙ chain_length_lem o acc)
