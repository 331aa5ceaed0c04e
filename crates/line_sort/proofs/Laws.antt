-- For callers: what sorting keeps, over any order. Assumes nothing.
use mathlib.Core.Path.{◌≡◌, sym}
use mathlib.Core.List.{List}
use Prim.Native.Nat.{ℕ}
use lib.ListN.{length}
use Rattle.lines.proofs.LoadRoom.{perm-length}
use Rattle.line_sort.specs.Sorted.{All, Sorted}
use Rattle.line_sort.proofs.Lists.{all_same}

pub sorted-length : {R : ℕ → ℕ → Type 0} {before after : List ℕ} → Sorted R before after → length after ≡ length before
sorted-length s = sym (perm-length s.same)

pub sorted_all : {P : ℕ → Type 0} {R : ℕ → ℕ → Type 0} {before after : List ℕ} → Sorted R before after → All P before
    → All P after
sorted_all s a = all_same s.same a
