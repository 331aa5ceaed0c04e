-- A pattern scan read through on a sound store gives exactly the live triples that match, each once, and ends
-- (`ScanClaim`); of one resource at one position it finds as many as the live count says (`LiveCountClaim`).
-- Assumes nothing.
use mathlib.Core.Path.{◌≡◌, refl, sym, ap, ◌∙◌}
use mathlib.Core.Logic.{◌≢◌, ◌⊎◌, inl, inr, ⊎_elim}
use mathlib.Core.Bool.{Bool, true, false, not, ◌&&◌, true≢false}
use mathlib.Core.List.Memᴰ
use mathlib.Core.List.{List, [], ◌∷◌, Memᴰ}
use mathlib.Core.Option.{some}
use Prim.Native.Nat.{ℕ, zero, suc, ◌+◌, ◌≤◌, ◌<◌}
use native.Mathlib.Omega.{arith}
use lib.ListN.{length}
use lib.Dec.{eqb}
use borrow.Author.Tests.{eqb-true, eqb-false, eq-eqb, ne_eqb, ltb-true, le-leb}
use Rattle.store.specs.declared.Position.{Position}
use Rattle.store.specs.declared.Position.TheVariants.{Subject, Predicate, Object}
use Rattle.store.specs.declared.Chain.{Chain}
use Rattle.store.specs.declared.Chain.TheVariants.{All, By}
use Rattle.store.specs.declared.Counters.{Counters}
use Rattle.store.specs.declared.Triple.{Triple}
use Rattle.store.specs.declared.ScanCursor.{ScanCursor}
use Rattle.store.specs.Shared.{at, within, agrees, below, head0, prev, matches}
use Rattle.store.specs.Tables.{Tables, triple_at, flag_at}
use Rattle.store.specs.Values.{scanned_values}
use Rattle.store.specs.Model.{on_chain, Taken, found as took, ended as emptied, spent as stopped, one_more, read_rest}
use Rattle.store.specs.Walk.{entry_at, pick_chain}
use Rattle.store.specs.Names.{name_at}
use Rattle.store.specs.Scan.{open_of, cursor_in, chain_ok, cursor_ok, walk_from, scanned_as, next_of}
use Rattle.store.specs.Soundness.{living, Sound}
use Rattle.store.proofs.Tests.{decide, and-of, within-high, within_of}
use Rattle.store.proofs.Falling.{below-cong, below-yes, below-no, below-nil, below_in, below_out, head-le, head-passes}
use Rattle.store.proofs.Words.{triple-at}
use Rattle.store.proofs.Walks.{as_step, take-hit, take-miss}
use Rattle.store.proofs.Picking.{pick-ok}
use Rattle.store.proofs.Pins.{matches-means}
use Rattle.store.proofs.LiveCounts.{counted_is}
use Rattle.store.proofs.Chains.{on_words, pick_chain-bound, chain-start, pickable-linked, walk-linked}
use Rattle.graph.specs.Work.{scan_work_of}
use Rattle.graph.specs.Order.{Descending}
use Rattle.graph.specs.Meaning.{RdfTriple, part_at}
use Rattle.graph.specs.Graph.{named, graph_of}
use Rattle.graph.specs.Claims.{Reply, scan_reply, read_on, AllPositive, named_at, Matches, AllMatches, scan_next}
use Rattle.graph.specs.Claims.{scanning, ScanClaim}
use Rattle.graph.specs.LiveClaims.{only, LiveCountClaim}
use Rattle.graph.proofs.Solve.{descending-nodup}
use Rattle.graph.proofs.Reading.{record-on}
use Rattle.graph.proofs.Names.{named-at, names_apart, live-graph}
use Rattle.graph.proofs.Solutions.{map-once}
use Rattle.graph.proofs.ReadThrough as read
use Rattle.graph.proofs.ReadThrough.{read_all, Told, told-ends, Leaves, told}
use Rattle.std.specs.Prelude.{Ok}

-- ---- positions

below-falling : (f : ℕ → Bool) (n : ℕ) → Descending (λ i. i ∷ []) (below f n)
below-falling f zero = rw (below-nil f) tt
below-falling f (suc n) =
    decide (f n)
    (λ e. rw (below-yes f n e)
    ((λ i k. let r = below_out f n i k in inl (omega (arith, r.1, r.2))), below-falling f n))
    (λ e. rw (below-no f n e) (below-falling f n))

-- ---- taking positions off a chain, against the positions that pass

module _ (f hit : ℕ → Bool) (on : (i : ℕ) → hit i ≡ true → f i ≡ true) where
  abbrev many : ℕ → ℕ
  many k = length (below f k)

  -- what is taken off the positions below k that are on the chain, with budget b
  abbrev Takes : ℕ → ℕ → Taken → Type 0
  Takes b k (took n v r) =
      (j : ℕ) × (j ≤ k) × (r ≡ below f j) × (below hit k ≡ n ∷ below hit j) × (v + many j ≡ many k) × (0 < v)
  Takes b k (emptied v) = (below hit k ≡ []) × (v ≡ many k)
  Takes b k (stopped v r) =
      (j : ℕ) × (j ≤ k) × (r ≡ below f j) × (below hit k ≡ below hit j) × (v + many j ≡ many k) × (v ≡ b) × (0 < many j)

  -- a position more, on another chain
  takes_skip : (b k : ℕ) (z : Taken) → below hit (suc k) ≡ below hit k → below f (suc k) ≡ below f k → Takes b k z
      → Takes b (suc k) z
  takes_skip b k (took n v r) e d t = (t.0, omega (arith, t.1), t.2, e ∙ t.3, rw d t.4, t.5)
  takes_skip b k (emptied v) e d t = (e ∙ t.0, rw d t.1)
  takes_skip b k (stopped v r) e d t = (t.0, omega (arith, t.1), t.2, e ∙ t.3, rw d t.4, t.5, t.6)

  -- a position more, visited and passed by
  takes-miss : (b k : ℕ) (z : Taken) → below hit (suc k) ≡ below hit k → below f (suc k) ≡ suc k ∷ below f k
      → Takes b k z
      → Takes (suc b) (suc k) (one_more z)
  takes-miss b k (took n v r) e d t =
      (t.0, omega (arith, t.1), t.2, e ∙ t.3, rw d (omega (arith, t.4)), omega arith)
  takes-miss b k (emptied v) e d t = (e ∙ t.0, rw d (omega (arith, t.1)))
  takes-miss b k (stopped v r) e d t =
      (t.0, omega (arith, t.1), t.2, e ∙ t.3, rw d (omega (arith, t.4)), omega (arith, t.5), t.6)

  off : (i : ℕ) → f i ≡ false → hit i ≡ false
  off i e = decide (hit i) (λ d. absurd (true≢false (sym (on i d) ∙ e))) (λ d. d)

  takes : (b k : ℕ) → Takes b k (read_rest hit b (below f k))
  takes b zero = rw (below-nil f) (none_left b)
    where
      none_left : (b : ℕ) → Takes b 0 (read_rest hit b [])
      none_left zero = unfold read_rest in (below-nil hit, rw (below-nil f))
      none_left (suc b) = unfold read_rest in (below-nil hit, rw (below-nil f))
  takes b (suc n) =
      decide (f n)
      (λ e. rw (below-yes f n e) (top b e (λ b. takes b n)))
      (λ e. rw (below-no f n e)
      (takes_skip b n (read_rest hit b (below f n)) (below-no hit n (off n e)) (below-no f n e) (takes b n)))
    where
      top : (b : ℕ) → f n ≡ true → ((b : ℕ) → Takes b n (read_rest hit b (below f n)))
          → Takes b (suc n) (read_rest hit b (suc n ∷ below f n))
      top zero e ih =
          unfold read_rest in
          (suc n, omega arith, sym (below-yes f n e), refl, omega arith, refl, rw (below-yes f n e) (omega arith))
      top (suc b) e ih =
          decide (hit n)
          (λ d. rw (take-hit hit b (suc n) (below f n) d)
          (n, omega arith, refl, below-yes hit n d, rw (below-yes f n e) (omega arith), omega arith))
          (λ d. rw (take-miss hit b (suc n) (below f n) d)
          (takes-miss b n (read_rest hit b (below f n)) (below-no hit n d) (below-yes f n e) (ih b)))

module _ (c : Counters) (m : Tables) (S : Sound c m) (x : Triple) (known : within c.resources x ≡ true) where
  abbrev hit : ℕ → Bool
  hit i = matches x (entry_at m.statements i)

  -- a triple with the pattern's resources, 0 standing for any
  abbrev Meets : Triple → Type 0
  Meets t = (p : Position) → (at p x ≡ 0) ⊎ (at p t ≡ at p x)

  matched : (i : ℕ) → hit i ≡ true → (flag_at m.statements i ≢ 1) × Meets (triple_at m.statements i)
  unfolding entry_at
  matched i e =
      let h = (matches-means x (entry_at m.statements i)).0 e in (
        eqb-false (flag_at m.statements i) 1 h.0,
        λ p. decide (eqb (at p x) 0) (λ d. inl (eqb-true (at p x) 0 d))
            (λ d. let n : at p x ≢ 0 = eqb-false (at p x) 0 d in inr (h.1 p (omega arith))),
      )

  matches-of : (i : ℕ) → flag_at m.statements i ≡ 0 → Meets (triple_at m.statements i) → hit i ≡ true
  unfolding entry_at
  matches-of i e h =
      let n : flag_at m.statements i ≢ 1 = omega arith in
      (matches-means x (entry_at m.statements i)).1
      (ne_eqb (flag_at m.statements i) 1 n, λ p q. ⊎_elim (λ d. absurd (omega arith)) (λ d. d) (h p))

  -- ---- one call, from a cursor on its chain

  module _ (ch : Chain) (picked : chain_ok ch x ≡ true) where
    abbrev F : ℕ → Bool
    F = on_words m.statements ch x

    bound_at : (p : Position) → chain_ok (By p) x ≡ true → 0 < at p x
    unfolding chain_ok
    bound_at p e = ltb-true 0 (at p x) e

    hit-on : (i : ℕ) → hit i ≡ true → F i ≡ true
    hit-on i e = one ch picked
      where
        one : (ch : Chain) → chain_ok ch x ≡ true → on_words m.statements ch x i ≡ true
        one All o = unfold on_chain in refl
        one (By p) o = two ((matched i e).1 p)
          where
            two : (at p x ≡ 0) ⊎ (at p (triple_at m.statements i) ≡ at p x)
                → on_words m.statements (By p) x i ≡ true
            two (inl d) = absurd (omega (arith, bound_at p o, d))
            two (inr d) = unfold on_chain in (eq-eqb _ _ d)

    -- the cursor at the positions below k
    abbrev here : ℕ → ScanCursor
    here k = cursor_in c.generation x ch (head0 (below F k))

    here-ok : (k : ℕ) → k ≤ c.statements → cursor_ok c m (here k) ≡ true
    unfolding cursor_ok
    here-ok k h =
        and-of _ _ known
        (and-of _ _ picked
        (and-of _ _ (le-leb (head0 (below F k)) c.statements (omega (arith, head-le F k)))
        (record-on m.statements ch x (head0 (below F k)) (λ i e. head-passes F k i e))))

    next-is : (k b : ℕ) → k ≤ c.statements → 0 < b
        → next_of c m (here k) b ≡ scanned_as (here k) (some (as_step (read_rest hit b (below F k))))
    unfolding next_of walk_from
    next-is k b h g =
        let n : b ≢ 0 = omega arith in
        rw (S.capacity, eq-eqb c.generation c.generation refl, here-ok k h, ne_eqb b 0 n)
        (ap (scanned_as (here k))
        (walk-linked c.resources c.statements m.resources m.statements S.linked ch x hit k b h))

    -- the visits left at the positions below k; no more calls do not end
    abbrev visits_at : ℕ → ℕ
    visits_at k = length (below F k)

    abbrev InTable : ℕ → Type 0
    InTable k = k ≤ c.statements

    abbrev LeavesAt : ℕ → Reply ℕ ScanCursor → Type 0
    LeavesAt k r = Leaves (scan_next c m) here (below hit) visits_at visits_at InTable k r

    leaves : (k b : ℕ) (z : Taken) → k ≤ c.statements → 0 < b → Takes F hit hit-on b k z
        → LeavesAt k (scan_reply (scanned_values (scanned_as (here k) (some (as_step z)))))
    leaves k b (took n v r) h g t = record {
      now = t.0;
      ok = omega (arith, t.1);
      unrefused = refl;
      reached = rw t.2;
      paid = t.4;
      comes = read.found refl t.3 (omega (arith, t.4, t.5));
    }
    leaves k b (emptied v) h g t = record {
      now = 0;
      ok = omega arith;
      unrefused = refl;
      reached = rw (below-nil F);
      paid = rw (below-nil F) (omega (arith, t.1));
      comes = read.ended refl t.0 (below-nil hit) (rw (below-nil F));
    }
    leaves k b (stopped v r) h g t = record {
      now = t.0;
      ok = omega (arith, t.1);
      unrefused = refl;
      reached = rw t.2;
      paid = t.4;
      comes = read.spent refl t.3 (omega (arith, t.4, t.5)) t.6;
    }

    next-leaves : (k b : ℕ) → k ≤ c.statements → 0 < b → LeavesAt k (scan_next c m (here k) b)
    next-leaves k b h g = rw (next-is k b h g) (leaves k b (read_rest hit b (below F k)) h g (takes F hit hit-on b k))

    told-from : (bs : List ℕ) (k : ℕ) → k ≤ c.statements → AllPositive bs
        → Told (below hit k) (visits_at k) (visits_at k) bs (read_on (scan_next c m) (here k) bs)
    told-from bs k h g = told (scan_next c m) here (below hit) visits_at visits_at InTable next-leaves bs k h g

  -- ---- from the opening on

  abbrev picked : Chain
  picked = pick_chain m.resources x

  picked-ok : chain_ok picked x ≡ true
  unfolding pick_chain
  picked-ok = pick-ok x _

  opens : open_of c m x ≡ Ok (here picked picked-ok c.statements)
  unfolding open_of
  opens =
      rw (
        S.capacity,
        known,
        pickable-linked c.resources c.statements m.resources m.statements S.linked x
            (within-high c.resources x known),
        chain-start c.resources c.statements m.resources m.statements S.linked picked x
            (pick_chain-bound m.resources x) (within-high c.resources x known),
      )

  -- every live statement that matches, falling
  abbrev every : List ℕ
  every = below hit c.statements

  -- a position that passes: a live statement that matches
  right-at : (n : ℕ) → Memᴰ n every → graph_of c m (named_at m n) × Matches m x (named_at m n)
  right-at n k =
      let r = below_out hit c.statements n k in
      let i = r.0 in
      let h = matched i r.3 in
      let f = S.linked.flag i r.2 in
      let e : prev n ≡ i = ap prev r.1 in (
        (i, (r.2, omega (arith, h.0)), ap (λ (z : ℕ). named m (triple_at m.statements z)) (sym e)),
        (λ p. rw e (one i p (h.1 p))),
      )
    where
      one : (i : ℕ) (p : Position) → (at p x ≡ 0) ⊎ (at p (triple_at m.statements i) ≡ at p x)
          → (at p x ≡ 0) ⊎ (name_at m (at p x) ≡ part_at p (named m (triple_at m.statements i)))
      one i p (inl d) = inl d
      one i p (inr d) = inr (ap (name_at m) (sym d) ∙ sym (named-at m (triple_at m.statements i) p))

  all-at : (y : RdfTriple) → graph_of c m y → Matches m x y → (n : ℕ) × Memᴰ n every × (named_at m n ≡ y)
  all-at y g M =
      let i = g.0 in
      (suc i, below_in hit c.statements i g.1.0 (matches-of i g.1.1 (λ p. one p (M p))), g.2)
    where
      one : (p : Position) → (at p x ≡ 0) ⊎ (name_at m (at p x) ≡ part_at p y)
          → (at p x ≡ 0) ⊎ (at p (triple_at m.statements g.0) ≡ at p x)
      one p (inl d) = inl d
      one p (inr d) =
          decide (eqb (at p x) 0)
          (λ e. inl (eqb-true (at p x) 0 e))
          (λ e. let n : at p x ≢ 0 = eqb-false (at p x) 0 e in
          inr (sym (names_apart c m S (at p x) (at p (triple_at m.statements g.0)) (omega arith)
          (within-high c.resources x known p)
          (rw (triple-at m.statements p g.0) (S.linked.low p g.0 g.1.0))
          (rw (triple-at m.statements p g.0) (S.linked.high p g.0 g.1.0))
          (d ∙ ap (part_at p) (sym g.2) ∙ named-at m (triple_at m.statements g.0) p))))

  -- two positions that pass, of one triple, are one
  apart : (n k : ℕ) → Memᴰ n every → Memᴰ k every → named_at m n ≡ named_at m k → n ≡ k
  apart n k a b e =
      let r = below_out hit c.statements n a in
      let s = below_out hit c.statements k b in
      let f = S.linked.flag r.0 r.2 in
      let g = S.linked.flag s.0 s.2 in
      let i : prev n ≡ r.0 = ap prev r.1 in
      let j : prev k ≡ s.0 = ap prev s.1 in
      let d : r.0 ≡ s.0 = (live-graph c m S).once r.0 s.0
      (r.2, omega (arith, (matched r.0 r.3).0)) (s.2, omega (arith, (matched s.0 s.3).0))
      (ap (λ (z : ℕ). named m (triple_at m.statements z)) (sym i) ∙ e
      ∙ ap (λ (z : ℕ). named m (triple_at m.statements z)) j) in
      r.1 ∙ ap suc d ∙ sym s.1

  all-match : AllMatches c m x every
  all-match = record {
    exact = λ y. (
      λ g. let r = all-at y g.0 g.1 in rw (← r.2) (Memᴰ.map (named_at m) r.1),
      λ k. let r = Memᴰ.of_map (named_at m) every k in rw (← r.2) (right-at r.0 r.1),
    );
    once = map-once (named_at m) every apart (descending-nodup (λ n. n ∷ []) every (below-falling hit c.statements));
    order = below-falling hit c.statements;
  }

  start-told : (bs : List ℕ) → AllPositive bs → Told every (scan_work_of c m x) (scan_work_of c m x) bs (scanning c m x bs)
  start-told bs h = rw opens (told-from picked picked-ok bs c.statements (omega arith) h)

pub scan-reads : ScanClaim
scan-reads c m S x known = record {
  opened = rw (opens c m S x known);
  all = every c m S x known;
  exactly = all-match c m S x known;
  read = λ bs h. (start-told c m S x known bs h).read;
  ends = told-ends (scanning c m x) (every c m S x known) (scan_work_of c m x) (scan_work_of c m x) (omega arith)
      (start-told c m S x known);
}

-- ---- live counts

and-true : (b : Bool) → b && true ≡ b
and-true true = refl
and-true false = refl

-- a triple agrees with such a pattern exactly if it has the resource there
agrees-only : (p : Position) (y : ℕ) (t : Triple) → 0 < y → agrees (only p y) t ≡ eqb (at p t) y
unfolding agrees
agrees-only Subject y t h = let n : y ≢ 0 = omega arith in rw (ne_eqb y 0 n) (and-true _)
agrees-only Predicate y t h = let n : y ≢ 0 = omega arith in rw (ne_eqb y 0 n) (and-true _)
agrees-only Object y t h = let n : y ≢ 0 = omega arith in rw (ne_eqb y 0 n)

only-within : (p : Position) (y r : ℕ) → y ≤ r → within r (only p y) ≡ true
only-within p y r h = within_of r (only p y) (λ q. low p q)
  where
    low : (p q : Position) → at q (only p y) ≤ r
    low Subject Subject = h
    low Subject Predicate = omega arith
    low Subject Object = omega arith
    low Predicate Subject = omega arith
    low Predicate Predicate = h
    low Predicate Object = omega arith
    low Object Subject = omega arith
    low Object Predicate = omega arith
    low Object Object = h

pub live-counts : LiveCountClaim
unfolding matches
live-counts c m S p y a b bs g e =
    let x = only p y in
    let k = only-within p y c.resources b in
    let L = S.linked in
    let same : below (hit c m S x k) c.statements ≡ below (living m.statements p y) c.statements =
    below-cong _ _ c.statements (λ i h.
    ap (λ (z : Bool). not (entry_at m.statements i).retracted && z)
    (agrees-only p y (entry_at m.statements i).spo a)
    ∙ counted_is m.statements p y i (L.flag i h)) in
    ap (λ (z : List ℕ). length z) (read_all (start-told c m S x k bs g).read e ∙ same) ∙ sym (L.live p y a b)
