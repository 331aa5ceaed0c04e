-- Permutations, as derivations: members and the absence of duplicates go along one, and two lists with the same members
-- and no duplicates are permutations of each other. Assumes nothing.
use mathlib.Core.Path.{◌≡◌, refl, sym, ap, ◌∙◌}
use Prim.Native.Nat.{suc}
use mathlib.Core.Logic.{⊎_elim}
use mathlib.Core.List.Memᴰ
use mathlib.Core.List.{List, [], ◌∷◌, Memᴰ}
use mathlib.Core.List.Permᴰ
use mathlib.Core.List.{Permᴰ}
use lib.ListN.{length}
use Rattle.graph.specs.Order.{NoDuplicates}

pub perm-member : {A : Type 0} {z : A} {a b : List A} → Permᴰ a b → Memᴰ z a → Memᴰ z b
perm-member Permᴰ.nil m = m
perm-member (Permᴰ.cons e d) m =
    ⊎_elim (λ q. Memᴰ.head (q ∙ e)) (λ n. Memᴰ.tail (perm-member d n)) (Memᴰ.cases_cons m)
perm-member (Permᴰ.swap e f) m =
    ⊎_elim (λ q. Memᴰ.tail (Memᴰ.head (q ∙ e)))
    (λ n. ⊎_elim (λ q. Memᴰ.head (q ∙ f)) (λ k. Memᴰ.tail (Memᴰ.tail k)) (Memᴰ.cases_cons n))
    (Memᴰ.cases_cons m)
perm-member (Permᴰ.trans d f) m = perm-member f (perm-member d m)

pub perm-once : {A : Type 0} {a b : List A} → Permᴰ a b → NoDuplicates a → NoDuplicates b
perm-once Permᴰ.nil n = tt
perm-once (Permᴰ.cons e d) n = (λ m. n.0 (Memᴰ.cast e (perm-member (Permᴰ.symm d) m)), perm-once d n.1)
perm-once (Permᴰ.swap e f) n = (
  λ m. ⊎_elim (λ q. n.0 (Memᴰ.head (e ∙ (sym q ∙ sym f)))) (λ k. n.1.0 (Memᴰ.cast f k))
      (Memᴰ.cases_cons m),
  (λ m. n.0 (Memᴰ.tail (Memᴰ.cast e m)), n.1.1),
)
perm-once (Permᴰ.trans d f) n = perm-once f (perm-once d n)

pub perm-length : {A : Type 0} {a b : List A} → Permᴰ a b → length a ≡ length b
perm-length Permᴰ.nil = refl
perm-length (Permᴰ.cons e d) = ap suc (perm-length d)
perm-length (Permᴰ.swap e f) = refl
perm-length (Permᴰ.trans d f) = perm-length d ∙ perm-length f

-- a member can be had first
pub taken : {A : Type 0} {x : A} {b : List A} → Memᴰ x b → (r : List A) × Permᴰ b (x ∷ r)
taken (Memᴰ.head {xs = r} e) = (r, Permᴰ.cons (sym e) (Permᴰ.refl r))
taken (Memᴰ.tail {x = y} m) =
    let t = taken m in (y ∷ t.0, Permᴰ.trans (Permᴰ.cons refl t.1) (Permᴰ.swap refl refl))

-- a member of a list without x that stands among x and others is one of the others
other : {A : Type 0} {x z : A} {l r : List A} → (Memᴰ x l → ⊥) → Memᴰ z l → Memᴰ z (x ∷ r)
    → Memᴰ z r
other n m k = ⊎_elim (λ e. absurd (n (Memᴰ.cast (sym e) m))) (λ q. q) (Memᴰ.cases_cons k)

empty : {A : Type 0} (b : List A) → ((x : A) → Memᴰ x b → ⊥) → Permᴰ [] b
empty [] h = Permᴰ.nil
empty (y ∷ b) h = absurd (h y (Memᴰ.head refl))

pub same-members : {A : Type 0} (a b : List A) → NoDuplicates a → NoDuplicates b
    → ((x : A) → (Memᴰ x a → Memᴰ x b) × (Memᴰ x b → Memᴰ x a)) → Permᴰ a b
same-members [] b n o h = empty b (λ x m. Memᴰ.not-nil ((h x).1 m))
same-members (x ∷ a) b n o h =
    let t = taken ((h x).0 (Memᴰ.head refl)) in
    let p = t.1 in
    let k = perm-once p o in
    let same : (z : _) → (Memᴰ z a → Memᴰ z t.0) × (Memᴰ z t.0 → Memᴰ z a) = λ z. (
      λ m. other n.0 m (perm-member p ((h z).0 (Memᴰ.tail m))),
      λ m. other k.0 m ((h z).1 (perm-member (Permᴰ.symm p) (Memᴰ.tail m))),
    ) in
    Permᴰ.trans (Permᴰ.cons refl (same-members a t.0 n.1 k.1 same)) (Permᴰ.symm p)
