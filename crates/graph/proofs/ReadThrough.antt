-- Calls one after another, of a query or of a scan, from what one call leaves: none is refused, what was found and what
-- is left are all there is, the visits add up, and the reading ends. Assumes nothing.
use mathlib.Core.Path.{◌≡◌, refl, sym, ap, ◌∙◌}
use mathlib.Core.Bool.{Bool, true, false, false≢true}
use mathlib.Core.List.{List, [], ◌∷◌, ◌++◌, append-nil}
use Prim.Native.Nat.{ℕ, ◌+◌, ◌≤◌, ◌<◌}
use native.Mathlib.Omega.{arith}
use lib.ListN.{length}
use Rattle.graph.specs.Claims.{Reply, read_on, AllPositive, found_in, has_ended, last_spent, visits_in, Read, Ends}

-- what one call comes to: ss is left before it, ss' and w' visits after it; at most k calls before it, k' after it, do
-- not end
pub data Comes {A Q : Type 0} (ss ss' : List A) (w' k k' : ℕ) (r : Reply A Q) : Type 0 where
  found : r.status ≡ 1 → ss ≡ r.value ∷ ss' → k' < k → Comes ss ss' w' k k' r
  ended : r.status ≡ 2 → ss ≡ [] → ss' ≡ [] → w' ≡ 0 → Comes ss ss' w' k k' r
  spent : r.status ≡ 3 → ss ≡ ss' → k' < k → 0 < w' → Comes ss ss' w' k k' r

-- what all the calls say where ss and w visits are left
pub record Told {A Q : Type 0} (ss : List A) (w k : ℕ) (bs : List ℕ) (rs : List (Reply A Q)) : Type 0 where
  pub read : Read rs ss
  pub few : visits_in rs ≤ w
  pub visits : has_ended rs ≡ true → visits_in rs ≡ w
  pub ends : k < length bs → has_ended rs ≡ true
  pub early : (y : Bool) → (y ≡ true → 0 < w) → last_spent y rs ≡ true → visits_in rs < w

nothing_left : {A : Type 0} (xs ys : List A) → [] ≡ xs ++ ys → ys ≡ []
nothing_left [] ys e = sym e
nothing_left (x ∷ xs) ys e = absurd (omega (arith, ap (λ (z : List _). length z) e))

-- all has been found once ended
pub read_all : {A Q : Type 0} {rs : List (Reply A Q)} {ss : List A} → Read rs ss → has_ended rs ≡ true → found_in rs ≡ ss
read_all {rs = rs} R e = sym (R.split ∙ ap (λ (z : List _). found_in rs ++ z) (R.ended e) ∙ append-nil (found_in rs))

module _ {A Q : Type 0} where
  told_none : (ss : List A) (w k : ℕ) → Told {A = A} {Q = Q} ss w k [] []
  unfolding found_in has_ended visits_in last_spent
  told_none ss w k = record {
    read = record { unrefused = tt; rest = ss; split = refl; ended = λ e. absurd (false≢true e) };
    few = omega arith;
    visits = λ e. absurd (false≢true e);
    ends = λ h. absurd (omega arith);
    early = λ y g e. g e;
  }

  told_more : (ss ss' : List A) (w w' k k' b : ℕ) (bs : List ℕ) (r : Reply A Q) (rs : List (Reply A Q)) → r.refusal ≡ 0
      → r.visits + w' ≡ w → Comes ss ss' w' k k' r → Told ss' w' k' bs rs → Told ss w k (b ∷ bs) (r ∷ rs)
  unfolding found_in has_ended visits_in last_spent
  told_more ss ss' w w' k k' b bs r rs z v (found s e h) T = record {
    read = record {
      unrefused = (z, T.read.unrefused);
      rest = T.read.rest;
      split = rw s (e ∙ ap (λ (l : List A). r.value ∷ l) T.read.split);
      ended = λ n. T.read.ended (rw s at n);
    };
    few = omega (arith, T.few);
    visits = λ n. omega (arith, T.visits (rw s at n));
    ends = λ n. rw s (T.ends (omega arith));
    early = λ y g n. omega (arith, T.early false (λ q. absurd (false≢true q)) (rw s at n));
  }
  told_more ss ss' w w' k k' b bs r rs z v (ended s e d o) T = record {
    read = record {
      unrefused = (z, T.read.unrefused);
      rest = T.read.rest;
      split = rw s (e ∙ sym d ∙ T.read.split);
      ended = λ n. nothing_left (found_in rs) T.read.rest (sym d ∙ T.read.split);
    };
    few = omega (arith, T.few);
    visits = λ n. omega (arith, T.few);
    ends = λ n. rw s;
    early = λ y g n. omega (arith, T.early false (λ q. absurd (false≢true q)) (rw s at n));
  }
  told_more ss ss' w w' k k' b bs r rs z v (spent s e h o) T = record {
    read = record {
      unrefused = (z, T.read.unrefused);
      rest = T.read.rest;
      split = rw s (e ∙ T.read.split);
      ended = λ n. T.read.ended (rw s at n);
    };
    few = omega (arith, T.few);
    visits = λ n. omega (arith, T.visits (rw s at n));
    ends = λ n. rw s (T.ends (omega arith));
    early = λ y g n. omega (arith, T.early true (λ q. o) (rw s at n));
  }

  pub told-ends : (read : List ℕ → List (Reply A Q)) (ss : List A) (n k : ℕ) → k ≤ n + 1
      → ((bs : List ℕ) → AllPositive bs → Told ss n k bs (read bs)) → Ends read n
  told-ends read ss n k h T = record {
    ends = λ bs p l. (T bs p).ends (omega arith);
    visits = λ bs p e. (T bs p).visits e;
    early = λ bs p e. (T bs p).early false (λ q. absurd (false≢true q)) e;
  }

-- places with their cursors, what is left at each, the visits left, how many calls from it do not end, and which of
-- them calls leave
module _ {A Q P : Type 0} (next : Q → ℕ → Reply A Q) (cursor : P → Q) (left : P → List A) (visits calls : P → ℕ)
    (Ok : P → Type 0) where
  -- the place from now on
  pub record Leaves (p : P) (r : Reply A Q) : Type 0 where
    pub now : P
    pub ok : Ok now
    pub unrefused : r.refusal ≡ 0
    pub reached : r.cursor ≡ cursor now
    pub paid : r.visits + visits now ≡ visits p
    pub comes : Comes (left p) (left now) (visits now) (calls p) (calls now) r

  pub told : ((p : P) (b : ℕ) → Ok p → 0 < b → Leaves p (next (cursor p) b)) → (bs : List ℕ) (p : P) → Ok p
      → AllPositive bs
      → Told (left p) (visits p) (calls p) bs (read_on next (cursor p) bs)
  unfolding read_on
  told step [] p o h = told_none (left p) (visits p) (calls p)
  told step (b ∷ bs) p o h =
      let L = step p b o h.0 in
      let q = L.now in
      told_more (left p) (left q) (visits p) (visits q) (calls p) (calls q) b bs (next (cursor p) b) _
      L.unrefused L.paid L.comes (rw (L.unrefused, L.reached) (told step bs q L.ok h.1))
