-- Words of a pattern moved to the front: the words up to its end turned by three. Assumes nothing.
use mathlib.Core.Path.{◌≡◌, refl, sym, ap, ◌∙◌}
use mathlib.Core.List.{List, [], ◌∷◌, ◌++◌, append_assoc}
use Prim.Native.Nat.{ℕ, zero, suc, ◌+◌, ◌-◌, ◌*◌, ◌≤◌, ◌<◌}
use native.Mathlib.Omega.{arith}
use native.Mathlib.Numerals.{add-one}
use lib.ListN.{length, take, drop, get_or, set, length-append, take-append-drop, get_or-append}
use lib.Seq.{take-suc, drop-cons, drop-drop, get_or-take, set_at, length-take-le}
use Rattle.std.proofs.lemmas.List.{drop-take, take-take}
use Rattle.graph.specs.Arranging.{to_front}

-- r is the words up to the end of pattern i with their last three in front
pub turned : (ws r : List ℕ) (i : ℕ) → 3 * i + 3 ≤ length ws
    → (let s = take (3 * (i + 1)) ws in r ≡ drop (length s - 3) s ++ take (length s - 3) s)
    → r ++ drop (3 * (i + 1)) ws ≡ to_front i ws
unfolding to_front
turned ws r i h e =
    let k = 3 * i in
    let q : 3 * (i + 1) ≡ k + 3 = omega arith in
    let n : length (take (k + 3) ws) - 3 ≡ k = omega (arith, length-take-le (k + 3) ws h) in
    let d : r ≡ drop k (take (k + 3) ws) ++ take k (take (k + 3) ws) = rw (q, n) at e in
    rw (q, d, drop-take k 3 ws, take-take k (k + 3) ws (omega arith))
    (append_assoc (take 3 (drop k ws)) (take k ws) (drop (k + 3) ws))

-- ---- the words before a pattern moved up by three one at a time, from the last

-- the words below the pattern at k, from j on, are moved
unfoldable pub moved : List ℕ → ℕ → ℕ → List ℕ
moved ws k j = take (j + 3) ws ++ (drop j (take k ws) ++ drop (k + 3) ws)

drop-taken : (k : ℕ) (ws : List ℕ) → drop k (take k ws) ≡ []
drop-taken zero ws = refl
drop-taken (suc k) [] = refl
drop-taken (suc k) (w ∷ ws) = drop-taken k ws

pub moved_none : (ws : List ℕ) (k : ℕ) → ws ≡ moved ws k k
unfolding moved
moved_none ws k = rw (drop-taken k ws) (sym (take-append-drop (k + 3) ws))

module _ (ws : List ℕ) (k j : ℕ) (h : j < k) (l : k + 3 ≤ length ws) where
  -- the word to move stands where it stood
  reads : get_or (moved ws k (j + 1)) j 0 ≡ get_or ws j 0
  unfolding moved
  reads =
      let n = length-take-le (j + 1 + 3) ws (omega arith) in
      get_or-append (take (j + 1 + 3) ws) (drop (j + 1) (take k ws) ++ drop (k + 3) ws) 0 j (omega arith)
      ∙ get_or-take (j + 1 + 3) ws j 0 (omega arith)

  step : set (moved ws k (j + 1)) (j + 3) (get_or ws j 0) ≡ moved ws k j
  unfolding moved
  step =
      let q : j + 1 + 3 ≡ suc (j + 3) = omega arith in
      let C = drop (k + 3) ws in
      let d : drop j (take k ws) ≡ get_or ws j 0 ∷ drop (j + 1) (take k ws) =
      drop-cons (take k ws) j 0 (omega (arith, length-take-le k ws (omega arith)))
      ∙ rw (get_or-take k ws j 0 h, add-one j) refl in
      rw (q, take-suc ws (j + 3) 0 (omega arith), d)
      (ap (λ (z : List ℕ). set z (j + 3) (get_or ws j 0))
      (append_assoc (take (j + 3) ws) (get_or ws (j + 3) 0 ∷ []) (drop (j + 1) (take k ws) ++ C))
      ∙ set_at (take (j + 3) ws) (get_or ws (j + 3) 0) (drop (j + 1) (take k ws) ++ C) (get_or ws j 0) (j + 3)
      (length-take-le (j + 3) ws (omega arith)))

  pub moved-turn : (w : List ℕ) → w ≡ moved ws k (j + 1) → set w (j + 3) (get_or w j 0) ≡ moved ws k j
  moved-turn w e = rw (e, reads) step

-- ---- the three words of the pattern

three-put : (ws r : List ℕ) (s p o : ℕ) → 3 ≤ length ws
    → set (set (set (take 3 ws ++ r) 0 s) 1 p) 2 o ≡ s ∷ p ∷ o ∷ r
three-put [] r s p o h = absurd (omega arith)
three-put (a ∷ []) r s p o h = absurd (omega arith)
three-put (a ∷ b ∷ []) r s p o h = absurd (omega arith)
three-put (a ∷ b ∷ d ∷ ws) r s p o h = refl

three-taken : (ws : List ℕ) (k : ℕ) → k + 3 ≤ length ws
    → take 3 (drop k ws) ≡ get_or ws k 0 ∷ get_or ws (k + 1) 0 ∷ get_or ws (k + 2) 0 ∷ []
three-taken ws k h =
    let a : k + 1 ≡ suc k = omega arith in
    let b : k + 2 ≡ suc (suc k) = omega arith in
    rw (
      a,
      b,
      drop-cons ws k 0 (omega arith),
      drop-cons ws (suc k) 0 (omega arith),
      drop-cons ws (suc (suc k)) 0
          (omega arith),
    )
    refl

pub moved-end : (ws w : List ℕ) (i k : ℕ) → k ≡ 3 * i → k + 3 ≤ length ws → w ≡ moved ws k 0
    → set (set (set w 0 (get_or ws k 0)) 1 (get_or ws (k + 1) 0)) 2 (get_or ws (k + 2) 0) ≡ to_front i ws
unfolding moved to_front
moved-end ws w i k e h d =
    rw (d, ← e) (three-put ws (take k ws ++ drop (k + 3) ws) _ _ _ (omega arith)
    ∙ ap (λ (z : List ℕ). z ++ (take k ws ++ drop (k + 3) ws)) (sym (three-taken ws k h)))

-- the first pattern stays first
pub first-stays : (i : ℕ) (ws : List ℕ) → i ≤ 0 → ws ≡ to_front i ws
unfolding to_front
first-stays i ws h = let z : i ≡ 0 = omega arith in rw z (sym (take-append-drop 3 ws))

pub front_length : (i : ℕ) (ws : List ℕ) → length (to_front i ws) ≡ length ws
unfolding to_front
front_length i ws =
    let k = 3 * i in
    let a = take 3 (drop k ws) in
    let b = take k ws in
    let d = drop (k + 3) ws in
    omega (
      arith,
      length-append a (b ++ d),
      length-append b d,
      length-append b (drop k ws),
      ap (λ (z : List ℕ). length z) (take-append-drop k ws),
      length-append a (drop 3 (drop k ws)),
      ap (λ (z : List ℕ). length z) (take-append-drop 3 (drop k ws)),
      ap (λ (z : List ℕ). length z) (drop-drop 3 k ws),
    )
