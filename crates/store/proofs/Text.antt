-- The text: names joined, each closed by a zero byte; a name is read back from its offset; one name more. Assumes
-- nothing.
use mathlib.Core.Path.{◌≡◌, refl, sym, ap, ap₂, ◌∙◌}
use mathlib.Core.Bool.{true}
use mathlib.Core.List.{List, [], ◌∷◌, ◌++◌, append_assoc}
use Prim.Native.Nat.{ℕ, zero, suc, ◌+◌, ◌-◌, ◌≤◌, ◌<◌}
use native.Mathlib.Omega.{arith}
use lib.ListN.{length, get_or, take, drop, length-append, take-append-drop, get_or-append}
use lib.Seq.{sets, sets-eq, split_at, drop_at, take_at, length-take-le, get_or-append_seam}
use Rattle.store.specs.Shared.{name_of, text_bytes}
use Rattle.store.specs.Names.{joined, up_to_zero}
use Rattle.store.proofs.Form.{clean}

pub joined-append : (a b : List (List ℕ)) → joined (a ++ b) ≡ joined a ++ joined b
unfolding joined
joined-append [] b = refl
joined-append (n ∷ a) b = rw (joined-append a b) (sym (append_assoc n (0 ∷ joined a) (joined b)))

pub joined_snoc : (ns : List (List ℕ)) (w : List ℕ) → joined (ns ++ w ∷ []) ≡ joined ns ++ (w ++ 0 ∷ [])
unfolding joined
joined_snoc ns w = joined-append ns (w ∷ [])

joined-cons : (n : List ℕ) (ns : List (List ℕ)) → joined (n ∷ ns) ≡ n ++ 0 ∷ joined ns
unfolding joined
joined-cons n ns = refl

-- the names' bytes plus 1 each are the joined text's length
pub joined_length : (ns : List (List ℕ)) → length (joined ns) ≡ text_bytes ns
unfolding joined text_bytes
joined_length [] = refl
joined_length (n ∷ ns) = length-append n (0 ∷ joined ns) ∙ omega (arith, joined_length ns)

pub bytes-snoc : (ns : List (List ℕ)) (w : List ℕ) → text_bytes (ns ++ w ∷ []) ≡ text_bytes ns + length w + 1
unfolding text_bytes
bytes-snoc [] w = omega arith
bytes-snoc (n ∷ ns) w = omega (arith, bytes-snoc ns w)

pub bytes-append : (a b : List (List ℕ)) → text_bytes (a ++ b) ≡ text_bytes a + text_bytes b
unfolding text_bytes
bytes-append [] b = omega arith
bytes-append (n ∷ a) b = omega (arith, bytes-append a b)

-- ---- reading back

pub up_to_zero-stops : (n r : List ℕ) → clean n ≡ true → up_to_zero (n ++ 0 ∷ r) ≡ n
up_to_zero-stops [] r e = refl
up_to_zero-stops (zero ∷ n) r e = cc
up_to_zero-stops (suc b ∷ n) r e = ap (λ (z : List ℕ). suc b ∷ z) (up_to_zero-stops n r e)

-- the text around the name in entry i
pub text-splits : (ns : List (List ℕ)) (text : List ℕ) (b i : ℕ) → take b text ≡ joined ns → i < length ns
    → text ≡ joined (take i ns) ++ (get_or ns i [] ++ 0 ∷ (joined (drop (suc i) ns) ++ drop b text))
text-splits ns text b i e h =
    sym (take-append-drop b text)
    ∙ ap (λ (z : List ℕ). z ++ drop b text)
    (e ∙ ap joined (split_at ns i [] h) ∙ joined-append (take i ns) _
    ∙ ap (λ (z : List ℕ). joined (take i ns) ++ z) (joined-cons (get_or ns i []) (drop (suc i) ns)))
    ∙ append_assoc (joined (take i ns)) _ _
    ∙ ap (λ (z : List ℕ). joined (take i ns) ++ z) (append_assoc (get_or ns i []) _ _)

-- what follows the name's offset: the name, a zero byte, the rest
pub text_at : (ns : List (List ℕ)) (text : List ℕ) (b i : ℕ) → take b text ≡ joined ns → i < length ns
    → drop (text_bytes (take i ns)) text ≡ get_or ns i [] ++ 0 ∷ (joined (drop (suc i) ns) ++ drop b text)
text_at ns text b i e h =
    ap (λ (z : List ℕ). drop (text_bytes (take i ns)) z) (text-splits ns text b i e h)
    ∙ drop_at (joined (take i ns)) _ (text_bytes (take i ns)) (joined_length (take i ns))

pub name-read : (ns : List (List ℕ)) (text : List ℕ) (b i : ℕ) → take b text ≡ joined ns → i < length ns
    → clean (get_or ns i []) ≡ true
    → up_to_zero (drop (text_bytes (take i ns)) text) ≡ get_or ns i []
name-read ns text b i e h c = ap up_to_zero (text_at ns text b i e h) ∙ up_to_zero-stops (get_or ns i []) _ c

-- the bytes up to a name's end are within the names' bytes
pub bytes_take : (ns : List (List ℕ)) (i : ℕ) → i < length ns
    → text_bytes (take i ns) + length (get_or ns i []) + 1 ≤ text_bytes ns
bytes_take ns i h =
    let s : text_bytes ns ≡ text_bytes (take i ns) + text_bytes (get_or ns i [] ∷ drop (suc i) ns) =
    ap text_bytes (split_at ns i [] h) ∙ bytes-append (take i ns) _ in
    let c : text_bytes (get_or ns i [] ∷ drop (suc i) ns)
    ≡ length (get_or ns i []) + 1 + text_bytes (drop (suc i) ns) = unfold text_bytes in refl in
    omega arith

-- ---- one name more

pub text-grows : (ns : List (List ℕ)) (text w : List ℕ) (b : ℕ) → take b text ≡ joined ns
    → b + length w + 1 ≤ length text
    → take (b + length w + 1) (sets text b (w ++ 0 ∷ [])) ≡ joined (ns ++ w ∷ [])
text-grows ns text w b e h =
    let n : length (w ++ 0 ∷ []) ≡ suc (length w) = simp length-append (omega arith) in
    rw (sets-eq (w ++ 0 ∷ []) text b (omega arith), joined_snoc ns w, ← e)
    (take_at (take b text ++ (w ++ 0 ∷ [])) _ (b + length w + 1)
    (length-append (take b text) _ ∙ ap₂ ◌+◌ (length-take-le b text (omega arith)) n ∙ omega arith))

pub name-old : (ns : List (List ℕ)) (w : List ℕ) (y : ℕ) → 0 < y → y ≤ length ns → name_of (ns ++ w ∷ []) y ≡ name_of ns y
unfolding name_of
name-old ns w y h q = get_or-append ns (w ∷ []) [] (y - 1) (omega arith)

pub name_new : (ns : List (List ℕ)) (w : List ℕ) → name_of (ns ++ w ∷ []) (suc (length ns)) ≡ w
unfolding name_of
name_new ns w = let e : suc (length ns) - 1 ≡ length ns = omega arith in rw (e, get_or-append_seam)

pub length-snoc : {A : Type 0} (l : List A) (w : A) → length (l ++ w ∷ []) ≡ suc (length l)
length-snoc l w = simp length-append (omega arith)

-- what holds of each name and of one more
pub snoc-all : (P : List ℕ → Type 0) (ns : List (List ℕ)) (w : List ℕ) → ((i : ℕ) → i < length ns → P (get_or ns i []))
    → P w
    → (i : ℕ) → i < length (ns ++ w ∷ []) → P (get_or (ns ++ w ∷ []) i [])
snoc-all P [] w h q zero g = q
snoc-all P [] w h q (suc i) g = absurd (omega arith)
snoc-all P (n ∷ ns) w h q zero g = h 0 (omega arith)
snoc-all P (n ∷ ns) w h q (suc i) g = snoc-all P ns w (λ j a. h (suc j) (omega arith)) q i (omega arith)
