-- One opening of the plain lists over a list of calls: its pattern and chain stay, its rest loses as many as the
-- replies report visits. Assumes nothing.
use mathlib.Core.Path.{◌≡◌, refl, sym, ap, ◌∙◌}
use mathlib.Core.Logic.{◌≢◌}
use mathlib.Core.Bool.{false, cond}
use mathlib.Core.List.{List, [], ◌∷◌, ◌++◌}
use Prim.Native.Nat.{ℕ, ◌+◌, ◌<◌}
use native.Mathlib.Omega.{arith}
use lib.ListN.{length, drop, length-set, length-append, get_or-append}
use lib.Seq.{get_or-set_same, get_or-set_other, drop-drop}
use lib.Dec.{eqb}
use borrow.Author.Tests.{eqb-true, eqb-false}
use Rattle.store.specs.declared.Triple.{Triple}
use Rattle.store.specs.Values.{Values}
use Rattle.store.specs.Model.{with_listings, Model, Listing, Capacities, Taken, found as took, ended as emptied}
use Rattle.store.specs.Model.{spent as stopped, Call, intern, assert, retract, open', next, reclaim, no_listing}
use Rattle.store.specs.Model.{leaving, rest_of, taken_values, listing, take_from, turn, call_model, model_replies}
use Rattle.store.specs.Model.{model_after}
use Rattle.store.specs.Claims.{reads_on, visits_of}
use Rattle.store.proofs.Tests.{decide, cond-all}
use Rattle.store.proofs.Changes.{opening_of, Change, unchanged, new_name, new_entry, revived_entry, retracted_entry}
use Rattle.store.proofs.Changes.{new_opening, read_opening, reclaimed_all, change}
use Rattle.store.proofs.Walks.{visits_in, visits-rest}
use Rattle.store.proofs.Taking.{rest-drop}

pub taken-visits : (g : Listing) (z : Taken) → (taken_values g z).visits ≡ visits_in z
taken-visits g (took n v r) = refl
taken-visits g (emptied v) = refl
taken-visits g (stopped v r) = refl

take_rest : (s : Model) (g : Listing) (b : ℕ) → rest_of (take_from s.entries g b)
    ≡ drop (visits_in (take_from s.entries g b)) g.rest
unfolding take_from
take_rest s g b = rest-drop _ b g.rest

take-sum : (s : Model) (g : Listing) (b : ℕ)
    → visits_in (take_from s.entries g b) + length (rest_of (take_from s.entries g b)) ≡ length g.rest
unfolding take_from
take-sum s g b = visits-rest _ b g.rest

-- ---- one call

pub record Kept (j : ℕ) (a : Call) (s : Model) (o : Model × Values) : Type 0 where
  pub now : opening_of o.0 j ≡ leaving (opening_of s j) (drop (cond (reads_on j a) o.1.visits 0)
      (opening_of s j).rest)
  pub sum : cond (reads_on j a) o.1.visits 0 + length (opening_of o.0 j).rest ≡ length (opening_of s j).rest
  pub stays : j < length o.0.listings

module _ (s : Model) (j : ℕ) (h : j < length s.listings) where
  kept-untouched : (a : Call) (o : Model × Values) → reads_on j a ≡ false → o.0.listings ≡ s.listings → Kept j a s o
  kept-untouched a o e q = record { now = rw (e, q); sum = rw (e, q) (omega arith); stays = rw q h }

  kept-turn : (i b : ℕ) (g : Listing) → g ≡ opening_of s i → Kept j (next i b) s (turn s i g (take_from s.entries g b))
  unfolding turn
  kept-turn i b g q =
      decide (eqb i j)
      (λ e. let e' : i ≡ j = eqb-true i j e in
      record {
        now = rw (e, e')
            (get_or-set_same s.listings j (leaving g (rest_of z)) no_listing h
            ∙ ap (leaving g) (take_rest s g b ∙ ap (λ (v : ℕ). drop v g.rest) (sym (taken-visits g z)))
            ∙ ap (λ (y : Listing). leaving y (drop (taken_values g z).visits y.rest)) (rw e' at q));
        sum = rw (e, e')
            (omega (
              arith,
              ap (λ (y : Listing). length y.rest) (get_or-set_same s.listings j (leaving g (rest_of z)) no_listing h),
              ap (λ (y : Listing). length y.rest) (rw e' at q),
              taken-visits g z,
              take-sum s g b,
            ));
        stays = rw length-set h;
      })
      (λ e. let n : j ≢ i = (λ z. eqb-false i j e (sym z)) in
      record {
        now = rw e (get_or-set_other s.listings i j (leaving g (rest_of z)) no_listing n);
        sum = rw e
            (omega (
              arith,
              ap (λ (y : Listing). length y.rest)
                  (get_or-set_other s.listings i j (leaving g (rest_of z)) no_listing n),
            ));
        stays = rw length-set h;
      })
    where
      z : Taken
      z = take_from s.entries g b

  -- no visits, and the same openings
  kept_same : (a : Call) (v : Values) → v.visits ≡ 0 → Kept j a s (s, v)
  kept_same a v e = record {
    now = rw e (cond-all (λ (n : ℕ). opening_of s j ≡ leaving (opening_of s j) (drop n (opening_of s j).rest))
        (reads_on j a) 0 0 refl refl);
    sum = rw e (cond-all (λ (n : ℕ). n + length (opening_of s j).rest ≡ length (opening_of s j).rest)
        (reads_on j a) 0 0
        (omega arith) (omega arith));
    stays = h;
  }

  kept-open : (x : Triple) (v : Values)
      → Kept j (open' x) s (with_listings s (s.listings ++ listing s.generation x s.entries ∷ []), v)
  kept-open x v =
      let same = get_or-append s.listings (listing s.generation x s.entries ∷ []) no_listing j h in
      record {
        now = same;
        sum = omega (arith, ap (λ (y : Listing). length y.rest) same);
        stays = rw length-append (omega arith);
      }

  kept-changed : {a : Call} {o : Model × Values} → Change s a o → Kept j a s o
  kept-changed (unchanged a v p) = kept_same a v p
  kept-changed (new_name w v) = kept-untouched (intern w) _ refl refl
  kept-changed (new_entry f x v a b e) = kept-untouched (assert f x) _ refl refl
  kept-changed (revived_entry f x i v) = kept-untouched (assert f x) _ refl refl
  kept-changed (retracted_entry f x i v) = kept-untouched (retract f x) _ refl refl
  kept-changed (new_opening x v) = kept-open x v
  kept-changed (read_opening i b) = kept-turn i b (opening_of s i) refl
  kept-changed reclaimed_all = kept-untouched reclaim _ refl refl

  pub kept : (k : Capacities) (a : Call) → Kept j a s (call_model k s a)
  kept k a = kept-changed (change k s a)

-- ---- a list of calls

pub opening-after : (k : Capacities) (s : Model) (j : ℕ) (a : List Call) → j < length s.listings
    → opening_of (model_after k s a) j ≡ leaving (opening_of s j) (drop (visits_of j a (model_replies k s a))
    (opening_of s j).rest)
unfolding visits_of model_replies model_after
opening-after k s j [] h = refl
opening-after k s j (a ∷ r) h =
    let g = kept s j h k a in
    let v = cond (reads_on j a) (call_model k s a).1.visits 0 in
    let u = visits_of j r (model_replies k (call_model k s a).0 r) in
    opening-after k (call_model k s a).0 j r g.stays
    ∙ ap (λ (y : Listing). leaving y (drop u y.rest)) g.now
    ∙ ap (leaving (opening_of s j)) (drop-drop u v (opening_of s j).rest)

-- the visits reported and the rest left make up the rest there was
pub visits-add : (k : Capacities) (s : Model) (j : ℕ) (a : List Call) → j < length s.listings
    → visits_of j a (model_replies k s a) + length (opening_of (model_after k s a) j).rest
    ≡ length (opening_of s j).rest
unfolding visits_of model_replies model_after
visits-add k s j [] h = omega arith
visits-add k s j (a ∷ r) h =
    let g = kept s j h k a in
    let u = visits-add k (call_model k s a).0 j r g.stays in
    omega (arith, g.sum, u)
