-- Room for the names of a file: those entered so far, with some others, are a store's names, so that one more of these
-- has a number and bytes left. Assumes nothing.
use Prim.Native.Nat.{ℕ, ◌≤◌}
use mathlib.Core.Path.{◌≡◌, refl, ◌∙◌}
use mathlib.Core.Logic.{⊎_elim}
use mathlib.Core.List.{List, [], ◌∷◌, ◌++◌, append_assoc, Memᴰ}
use mathlib.Core.List.Memᴰ
use mathlib.Core.List.Permᴰ
use mathlib.Core.List.{Permᴰ}
use native.Mathlib.Omega.{arith}
use lib.ListN.{length, length-append}
use Rattle.store.specs.Shared.{text_bytes}
use Rattle.store.proofs.Text.{bytes-append}
use Rattle.graph.proofs.Permuted.{perm-member, taken}
pub use Rattle.graph.proofs.Permuted.{perm-length}

perm-bytes : {a b : List (List ℕ)} → Permᴰ a b → text_bytes a ≡ text_bytes b
unfolding text_bytes
perm-bytes Permᴰ.nil = refl
perm-bytes (Permᴰ.cons e d) = rw e (let h = perm-bytes d in omega arith)
perm-bytes (Permᴰ.swap e f) = rw (e, f) (omega arith)
perm-bytes (Permᴰ.trans d f) = perm-bytes d ∙ perm-bytes f

-- the names l, with some others, are the names ns, each as often
pub record Left (ns l : List (List ℕ)) : Type 0 where
  pub rest : List (List ℕ)
  pub all : Permᴰ ns (l ++ rest)

pub none_yet : (ns : List (List ℕ)) → Left ns []
none_yet ns = record { rest = ns; all = Permᴰ.refl ns }

-- one of them more
pub one_more_lem : (ns l : List (List ℕ)) (w : List ℕ) → Left ns l → Memᴰ w ns → (Memᴰ w l → ⊥)
    → Left ns (l ++ w ∷ [])
one_more_lem ns l w L m n =
    let r = ⊎_elim (λ k. absurd (n k)) (λ k. taken k) (Memᴰ.append_cases l (perm-member L.all m)) in
    record {
      rest = r.0;
      all = rw append_assoc (Permᴰ.trans L.all (Permᴰ.append_left l r.1));
    }

pub within-length : (ns l : List (List ℕ)) → Left ns l → length l ≤ length ns
within-length ns l L = omega (arith, perm-length L.all, length-append l L.rest)

pub within-bytes : (ns l : List (List ℕ)) → Left ns l → text_bytes l ≤ text_bytes ns
within-bytes ns l L = omega (arith, perm-bytes L.all, bytes-append l L.rest)
