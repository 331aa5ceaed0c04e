-- What taking positions off a falling rest comes to: the latest live one that the budget reaches, else ended or spent
-- by the rest's length; what is left is the rest without as many as were visited. Assumes nothing.
use mathlib.Core.Path.{◌≡◌, refl, sym, ap, ◌∙◌}
use mathlib.Core.Bool.{Bool, true, false, true≢false}
use mathlib.Core.List.Memᴰ
use mathlib.Core.List.{List, [], ◌∷◌, Memᴰ}
use mathlib.Core.Logic.{◌⊎◌, ⊎_elim, inl, inr}
use Prim.Native.Nat.{ℕ, zero, suc, ◌≤◌, ◌<◌}
use native.Mathlib.Omega.{arith}
use lib.ListN.{length, take, drop}
use Rattle.store.specs.Shared.{prev}
use Rattle.store.specs.Model.{found as took, ended as emptied, spent as stopped, one_more, read_rest, rest_of}
use Rattle.store.specs.Claims.{Latest, NoneOf}
use Rattle.store.specs.Pins.{Falling}
use Rattle.store.proofs.Tests.{decide}
use Rattle.store.proofs.Walks.{visits_in, rest_more, visits-more, take-hit, take-miss}

pub rest-drop : (live : ℕ → Bool) (b : ℕ) (l : List ℕ)
    → rest_of (read_rest live b l) ≡ drop (visits_in (read_rest live b l)) l
unfolding read_rest
rest-drop live zero [] = refl
rest-drop live zero (x ∷ xs) = refl
rest-drop live (suc b) [] = refl
rest-drop live (suc b) (x ∷ xs) =
    decide (live (prev x))
    (λ e. rw e)
    (λ e. rw (e, rest_more (read_rest live b xs), visits-more (read_rest live b xs)) (rest-drop live b xs))

-- ---- falling lists

pub mem-take : (b : ℕ) (l : List ℕ) (i : ℕ) → Memᴰ i (take b l) → Memᴰ i l
mem-take zero l i m = absurd (Memᴰ.not-nil m)
mem-take (suc b) [] i m = m
mem-take (suc b) (x ∷ xs) i m =
    ⊎_elim (λ e. Memᴰ.head e) (λ r. Memᴰ.tail (mem-take b xs i r)) (Memᴰ.cases_cons m)

-- what is in a list is among its first v or in what is left
pub mem-split : (v : ℕ) (l : List ℕ) (i : ℕ) → Memᴰ i l → Memᴰ i (take v l) ⊎ Memᴰ i (drop v l)
mem-split zero l i m = inr m
mem-split (suc v) [] i m = inr m
mem-split (suc v) (x ∷ xs) i m =
    ⊎_elim (λ e. inl (Memᴰ.head e))
    (λ r. ⊎_elim (λ q. inl (Memᴰ.tail q)) (λ q. inr q) (mem-split v xs i r))
    (Memᴰ.cases_cons m)

pub falling-drop : (v : ℕ) (l : List ℕ) → Falling l → Falling (drop v l)
falling-drop zero l f = f
falling-drop (suc v) [] f = f
falling-drop (suc v) (x ∷ xs) f = falling-drop v xs f.1

-- ---- the three outcomes

pub data Outcome (live : ℕ → Bool) (b : ℕ) (l : List ℕ) : Type 0 where
  hits : (n v : ℕ) (r : List ℕ) → read_rest live b l ≡ took n v r → Latest (λ n. live (prev n)) (take b l) n
      → Outcome live b l
  ends : read_rest live b l ≡ emptied (length l) → NoneOf (λ n. live (prev n)) (take b l) → length l ≤ b
      → Outcome live b l
  stops : read_rest live b l ≡ stopped b (drop b l) → NoneOf (λ n. live (prev n)) (take b l) → b < length l
      → Outcome live b l

module _ (live : ℕ → Bool) (b x : ℕ) (xs : List ℕ) (f : Falling (x ∷ xs)) where
  first-hit : live (prev x) ≡ true → Latest (λ n. live (prev n)) (x ∷ take b xs) x
  first-hit e = record {
    among = Memᴰ.head refl;
    passes = e;
    latest = λ i m t.
        ⊎_elim (λ q. omega (arith, q)) (λ r. omega (arith, f.0 i (mem-take b xs i r)))
        (Memᴰ.cases_cons m);
  }

  module _ (e : live (prev x) ≡ false) where
    not_first : (i : ℕ) → i ≡ x → live (prev i) ≡ true → ⊥
    not_first i q t = true≢false (sym t ∙ ap (λ (z : ℕ). live (prev z)) q ∙ e)

    none_more : NoneOf (λ n. live (prev n)) (take b xs) → NoneOf (λ n. live (prev n)) (x ∷ take b xs)
    none_more h i m = ⊎_elim (λ q. rw q e) (λ r. h i r) (Memᴰ.cases_cons m)

    later-hit : (n : ℕ) → Latest (λ n. live (prev n)) (take b xs) n → Latest (λ n. live (prev n)) (x ∷ take b xs) n
    later-hit n L = record {
      among = Memᴰ.tail L.among;
      passes = L.passes;
      latest = λ i m t. ⊎_elim (λ q. absurd (not_first i q t)) (λ r. L.latest i r t) (Memᴰ.cases_cons m);
    }

    one_on : Outcome live b xs → Outcome live (suc b) (x ∷ xs)
    one_on (hits n v r q L) = hits n (suc v) r (take-miss live b x xs e ∙ ap one_more q) (later-hit n L)
    one_on (ends q h l) = ends (take-miss live b x xs e ∙ ap one_more q) (none_more h) (omega arith)
    one_on (stops q h l) = stops (take-miss live b x xs e ∙ ap one_more q) (none_more h) (omega arith)

pub outcome : (live : ℕ → Bool) (b : ℕ) (l : List ℕ) → Falling l → Outcome live b l
outcome live zero [] f = ends (unfold read_rest in refl) (λ i m. absurd (Memᴰ.not-nil m)) (omega arith)
outcome live zero (x ∷ xs) f = stops (unfold read_rest in refl) (λ i m. absurd (Memᴰ.not-nil m)) (omega arith)
outcome live (suc b) [] f = ends (unfold read_rest in refl) (λ i m. absurd (Memᴰ.not-nil m)) (omega arith)
outcome live (suc b) (x ∷ xs) f =
    decide (live (prev x))
    (λ e. hits x 1 xs (take-hit live b x xs e) (first-hit live b x xs f e))
    (λ e. one_on live b x xs f e (outcome live b xs f.1))
