-- The stores of a new name, in the definitions' terms: the name's bytes, the record, the block move of the index.
-- Assumes nothing.
use Rattle.std.proofs.Common.{◌≡◌, refl, sym, ap, ◌∙◌, List, [], ◌∷◌, ◌++◌, ℕ, suc, zero, ◌+◌, ◌-◌, ◌<◌, ◌≤◌, arith, length, take, drop, set, replicate}
use Rattle.std.proofs.lemmas.List.{append-nil, drop-drop}
use Rattle.std.proofs.lemmas.List.Edits.{sets, sets-eq}
use borrow.Rule.Slice.PartMut.{put_mid}
use mathlib.Core.List.{append_assoc}
use native.Mathlib.Nat.{add-zero, add-suc, suc-add}
use lib.ListN.{drop_of_length-le, length-take, length-drop}
use lib.Seq.{paste, set_comm, set-set}
use Rattle.store.specs.Tables.{resource_words}
use Rattle.store.specs.Dictionary.{fresh_record, bring, insert_at}
use Rattle.table.proofs.Stores.{sets-snoc}

-- ---- a run of stores

-- the name copied into its part of the text, and the closing zero
pub name-end : (l w v : List ℕ) (b : ℕ) → b + length w < length l → v ≡ w
    → set (put_mid b (b + length w - b) l v) (b + length w) 0 ≡ sets l b (w ++ 0 ∷ [])
name-end l w v b h e =
    let k : b + length w - b ≡ length w = omega arith in
    let g : b + length w ≤ length l = omega arith in
    rw (sets-snoc w l b 0, sets-eq w l b g, e, k, drop-drop (length w) b l)
    (ap (λ (z : List ℕ). set z (b + length w) 0) (sym (append_assoc (take b l) w (drop (b + length w) l))))

-- a store before a run, and one within it
set_before : (vs l : List ℕ) (b j x : ℕ) → j < b → set (sets l b vs) j x ≡ sets (set l j x) b vs
set_before [] l b j x h = refl
set_before (v ∷ vs) l b j x h =
    set_before vs (set l b v) (suc b) j x (omega arith)
    ∙ ap (λ (z : List ℕ). sets z (suc b) vs) (set_comm l b j v x (omega arith))

set-within : (vs l : List ℕ) (b j x : ℕ) → j < length vs → set (sets l b vs) (b + j) x ≡ sets l b (set vs j x)
set-within [] l b j x h = absurd (omega arith)
set-within (v ∷ vs) l b zero x h =
    rw (add-zero, set_before vs (set l b v) (suc b) b x (omega arith), set-set l b v x)
set-within (v ∷ vs) l b (suc j) x h = rw (add-suc, ← suc-add) (set-within vs (set l b v) (suc b) j x (omega arith))

-- offset and kind into a record of zeros
pub record-end : (t l : List ℕ) (b o k : ℕ) → t ≡ sets l b (replicate resource_words 0)
    → set (set t (b + 6) o) (b + 7) k ≡ sets l b (fresh_record o k)
record-end t l b o k e =
    let z : List ℕ = replicate resource_words 0 in
    rw (e, set-within z l b 6 o (omega arith)) (set-within (set z 6 o) l b 7 k (omega arith))

-- ---- the block move

bring-is : (v n : ℕ) (l : List ℕ) → length l ≡ suc n → v ∷ take n l ≡ bring v n l
unfolding bring
bring-is v n [] h = absurd (omega arith)
bring-is v zero (x ∷ []) h = refl
bring-is v zero (x ∷ (y ∷ l)) h = absurd (omega arith)
bring-is v (suc n) (x ∷ l) h = ap (λ (z : List ℕ). v ∷ z) (bring-is x n l (omega arith))

-- the words but the last moved up by one, and v in front
pub move-end : (v : ℕ) (l m : List ℕ) → 0 < length l → m ≡ paste l 1 l (length l - 1 - 0) → set m 0 v ≡ bring v (length l - 1) l
move-end v [] m h e = absurd (omega arith)
move-end v (x ∷ l) m h e =
    let n : length (x ∷ l) - 1 - 0 ≡ length l = omega arith in
    let k : length (x ∷ l) - 1 ≡ length l = omega arith in
    let g : length (x ∷ l) ≤ 1 + length l = omega arith in
    rw (e, n, k, drop_of_length-le (x ∷ l) g, append-nil (take (length l) (x ∷ l))) (bring-is v (length l) (x ∷ l) refl)

-- ---- the part of the index that moves, put back

bring-part : (v n : ℕ) (l : List ℕ) → n < length l → bring v n (take (suc n) l) ++ drop (suc n) l ≡ bring v n l
unfolding bring
bring-part v n [] h = absurd (omega arith)
bring-part v zero (x ∷ l) h = refl
bring-part v (suc n) (x ∷ l) h = ap (λ (z : List ℕ). v ∷ z) (bring-part x n l (omega arith))

at_part : (k n v : ℕ) (l : List ℕ) → k + n < length l
    → take k l ++ (bring v n (take (suc n) (drop k l)) ++ drop (suc n) (drop k l)) ≡ insert_at k n v l
unfolding insert_at
at_part zero n v l h = bring-part v n l (omega arith)
at_part (suc k) n v [] h = absurd (omega arith)
at_part (suc k) n v (x ∷ l) h = ap (λ (z : List ℕ). x ∷ z) (at_part k n v l (omega arith))

-- the words k to r are lent, and come back with v in front
pub insert-part : (k r v : ℕ) (l ys : List ℕ) → k ≤ r → r < length l
    → ys ≡ bring v (length (take (r + 1 - k) (drop k l)) - 1) (take (r + 1 - k) (drop k l))
    → take k l ++ (ys ++ drop (r + 1 - k) (drop k l)) ≡ insert_at k (r - k) v l
insert-part k r v l ys a b e =
    let s : r + 1 - k ≡ suc (r - k) = omega arith in
    let n : length (take (r + 1 - k) (drop k l)) - 1 ≡ r - k = simp (length-take, length-drop) (omega arith) in
    rw (e, n, s) (at_part k (r - k) v l (omega arith))
