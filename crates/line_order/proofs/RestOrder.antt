-- The order of two rests by their first bytes, 0 at an end, and both rests turn by turn. Assumes nothing.
use mathlib.Core.Path.{◌≡◌, refl, sym, ap, ap₂, ◌∙◌}
use mathlib.Core.Logic.{◌≢◌}
use mathlib.Core.Bool.{Bool, true, false}
use mathlib.Core.List.{List, [], ◌∷◌}
use Prim.Native.Nat.{ℕ, ◌<◌, ◌≤◌}
use native.Mathlib.Omega.{arith}
use lib.ListN.{length, drop}
use Rattle.store.specs.declared.Triple.{Triple}
use Rattle.store.specs.Names.{less, more, compare_bytes}
use Rattle.store.proofs.Order.{compare-less, compare-more, compare-tail}
use Rattle.lines.specs.Export.{not_more}
use Rattle.line_order.specs.declared.Head.{Head}
use Rattle.line_order.specs.Rests.{rest_of, HeadClosed, first}
use Rattle.line_order.specs.Heads.{ByteAt, OneOn}
use Rattle.line_order.proofs.HeadBytes.{rest-ends}

-- ---- by the first bytes

first-less : (s t : List ℕ) → first s < first t → compare_bytes s t ≡ less
unfolding compare_bytes
first-less s [] h = absurd (omega arith)
first-less [] (b ∷ t) h = refl
first-less (a ∷ s) (b ∷ t) h = compare-less a b s t h

first_more : (s t : List ℕ) → first t < first s → compare_bytes s t ≡ more
unfolding compare_bytes
first_more [] t h = absurd (omega arith)
first_more (a ∷ s) [] h = refl
first_more (a ∷ s) (b ∷ t) h = compare-more a b s t h

first-same : (s t : List ℕ) → first s ≡ first t → first s ≢ 0
    → compare_bytes s t ≡ compare_bytes (drop 1 s) (drop 1 t)
first-same [] t e n = absurd (n refl)
first-same (a ∷ s) [] e n = absurd (n e)
first-same (a ∷ s) (b ∷ t) e n = compare-tail a b s t e

shorter : (s : List ℕ) → first s ≢ 0 → length (drop 1 s) < length s
shorter [] n = absurd (n refl)
shorter (a ∷ s) n = omega arith

-- ---- both rests, turn by turn

-- from p and q on the rests are in the order of those from a and b on
pub record Going (res text : List ℕ) (x y : Triple) (a b p q : Head) : Type 0 where
  pub closed-x : HeadClosed text p
  pub closed-y : HeadClosed text q
  pub same : compare_bytes (rest_of res text x a) (rest_of res text y b)
      ≡ compare_bytes (rest_of res text x p) (rest_of res text y q)

pub goes : {res text : List ℕ} {x y : Triple} {a b : Head} → HeadClosed text a → HeadClosed text b
    → Going res text x y a b a b
goes h k = record { closed-x = h; closed-y = k; same = refl }

module _ {res text : List ℕ} {x y : Triple} {a b p q : Head} (g : Going res text x y a b p q) {u v : ℕ}
    (first-x : ByteAt text p u) (first-y : ByteAt text q v) where
  abbrev s : List ℕ
  s = rest_of res text x p

  abbrev t : List ℕ
  t = rest_of res text y q

  abbrev asked : Bool
  asked = not_more (compare_bytes (rest_of res text x a) (rest_of res text y b))

  at_x : u ≡ first s
  at_x = first-x.is res x

  at_y : v ≡ first t
  at_y = first-y.is res y

  pub goes-less : u < v → true ≡ asked
  goes-less h = let d = at_x in let e = at_y in sym (ap not_more (g.same ∙ first-less s t (omega arith)))

  pub goes-more : v < u → false ≡ asked
  goes-more h = let d = at_x in let e = at_y in sym (ap not_more (g.same ∙ first_more s t (omega arith)))

  -- a byte 0 at both: both have ended
  pub goes-ends : u ≤ v → v ≤ u → u ≡ 0 → true ≡ asked
  unfolding compare_bytes
  goes-ends h k z =
      let d = at_x in
      let e = at_y in
      sym (ap not_more (g.same
      ∙ ap₂ compare_bytes (rest-ends res text x p (omega arith)) (rest-ends res text y q (omega arith))))

  pub goes_on : u ≤ v → v ≤ u → u ≢ 0 → {m n : Head} → OneOn res text x p m → OneOn res text y q n
      → Going res text x y a b m n
  goes_on h k z c d =
      let i = at_x in
      let j = at_y in
      record {
        closed-x = c.closed;
        closed-y = d.closed;
        same =
            g.same ∙ first-same s t (omega arith) (λ e. z (i ∙ e))
            ∙ ap₂ compare_bytes (sym c.rest) (sym d.rest);
      }

-- a byte is taken at each turn
pub falls : {res text : List ℕ} {x : Triple} {p m : Head} {u : ℕ} → ByteAt text p u → u ≢ 0 → OneOn res text x p m
    → length (rest_of res text x m) < length (rest_of res text x p)
falls {res} {text} {x} {p} f z c = rw c.rest (shorter (rest_of res text x p) (λ e. z (f.is res x ∙ e)))
