-- The order of lines, transitive and total over any lists of bytes, and which run is next by it. Assumes nothing.
use mathlib.Core.Path.{◌≡◌, refl, sym, ap, ◌∙◌}
use mathlib.Core.Bool.{Bool, true, false, true≢false, false≢true}
use mathlib.Core.List.{List}
use Prim.Native.Nat.{ℕ, ◌<◌}
use native.Mathlib.Omega.{arith}
use lib.ListN.{length, get_or}
use Rattle.store.specs.Names.{ByteOrdering, less, equal, more, compare_bytes}
use Rattle.store.proofs.Order.{flip, compare-flip}
use Rattle.lines.specs.Export.{not_more}
use Rattle.lines.proofs.Sorting.{not_more_lem, not-more-trans as order_trans}
use Rattle.line_order.specs.Rests.{line_in}
use Rattle.line_sort.specs.Sorted.{ByLine, Chosen, low}

-- ---- over any lists of bytes

not-more-trans : (u v w : List ℕ) → not_more (compare_bytes u v) ≡ true → not_more (compare_bytes v w) ≡ true
    → not_more (compare_bytes u w) ≡ true
not-more-trans u v w h g = (not_more_lem _).1 (order_trans u v w ((not_more_lem _).0 h) ((not_more_lem _).0 g))

flipped : (o : ByteOrdering) → not_more o ≡ false → not_more (flip o) ≡ true
flipped less e = absurd (true≢false e)
flipped equal e = absurd (true≢false e)
flipped more e = refl

not-more-total : (u v : List ℕ) → not_more (compare_bytes u v) ≡ false → not_more (compare_bytes v u) ≡ true
not-more-total u v e = ap not_more (compare-flip u v) ∙ flipped (compare_bytes u v) e

module _ (res stm text : List ℕ) where
  -- ---- over statements

  pub by-line-trans : (a b c : ℕ) → ByLine res stm text a b → ByLine res stm text b c → ByLine res stm text a c
  by-line-trans a b c = not-more-trans (line_in res stm text a) (line_in res stm text b) (line_in res stm text c)

  -- ---- which run is next, by what the tests found

  module _ (work : List ℕ) (i j mid : ℕ) where
    pub left_out : i ≡ mid → j < length work → Chosen res stm text work i j mid false
    left_out e h = record { lefts = λ t. absurd (false≢true t); rights = λ _. (h, λ g. absurd (omega arith)) }

    pub right-out : i < mid → j ≡ length work → Chosen res stm text work i j mid true
    right-out h e = record { lefts = λ _. (h, λ g. absurd (omega arith)); rights = λ f. absurd (true≢false f) }

    -- the lines of the next numbers of the two runs
    abbrev left-line : List ℕ
    left-line = line_in res stm text (low (get_or work i 0))

    abbrev right-line : List ℕ
    right-line = line_in res stm text (low (get_or work j 0))

    pub by-line : (r : Bool) → i < mid → j < length work → r ≡ not_more (compare_bytes left-line right-line)
        → Chosen res stm text work i j mid r
    by-line r h g e = record {
      lefts = λ t. (h, λ _. sym e ∙ t);
      rights = λ f. (g, λ _. not-more-total left-line right-line (sym e ∙ f));
    }
