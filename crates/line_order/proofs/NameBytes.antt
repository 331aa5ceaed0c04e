-- A name closed by a zero byte is closed a byte on; what two names have in common. Assumes nothing.
use mathlib.Core.Path.{◌≡◌, ap, ◌∙◌}
use mathlib.Core.Logic.{◌≢◌}
use mathlib.Core.List.{List, ◌++◌}
use Prim.Native.Nat.{ℕ, ◌+◌}
use native.Mathlib.Omega.{arith}
use native.Mathlib.Nat.{add-zero}
use lib.ListN.{length}
use Rattle.store.specs.Tables.{word}
use Rattle.store.proofs.Order.{compare-tail}
use Rattle.lines.proofs.NamesTold.{name-on}
use Rattle.line_order.specs.Rests.{name_from, Closed}
use Rattle.line_order.specs.Heads.{Common}

pub closed_on : (text : List ℕ) (o : ℕ) → Closed text o → word text o ≢ 0 → Closed text (o + 1)
closed_on text o h n = let e = ap length (name-on text o n) in omega arith

-- ---- what two names have in common

pub common-none : (text : List ℕ) (i j : ℕ) → Closed text i → Closed text j → Common text i j 0
common-none text i j a b =
    record { one = rw (add-zero i) a; other = rw (add-zero j) b; decides = λ s t. rw (add-zero i, add-zero j) }

-- a byte more
pub common-on : {text : List ℕ} {i j k : ℕ} → Common text i j k → word text (i + k) ≢ 0
    → word text (i + k) ≡ word text (j + k) → Common text i j (k + 1)
common-on {text} {i} {j} {k} c n e =
    let m : word text (j + k) ≢ 0 = λ z. n (e ∙ z) in
    let f : i + k + 1 ≡ i + (k + 1) = omega arith in
    let g : j + k + 1 ≡ j + (k + 1) = omega arith in
    record {
      one = rw (← f) (closed_on text (i + k) c.one n);
      other = rw (← g) (closed_on text (j + k) c.other m);
      decides = λ s t.
          c.decides s t
          ∙ rw (name-on text (i + k) n, name-on text (j + k) m, f, g)
          (compare-tail (word text (i + k)) (word text (j + k)) (name_from text (i + (k + 1)) ++ s)
          (name_from text (j + (k + 1)) ++ t) e);
    }
