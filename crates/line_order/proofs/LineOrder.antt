-- The order of two lines from the name at a position on: what the names have in common, and names that are the same.
-- Assumes nothing.
use mathlib.Core.Path.{◌≡◌, refl, sym, ap, ap₂, ◌∙◌}
use mathlib.Core.Bool.{Bool, true}
use mathlib.Core.List.{List, [], ◌∷◌, ◌++◌}
use Prim.Native.Nat.{ℕ, ◌+◌, ◌-◌}
use Rattle.store.specs.declared.Position.{Position}
use Rattle.store.specs.declared.Position.TheVariants.{Subject, Predicate, Object}
use Rattle.store.specs.declared.Triple.{Triple}
use Rattle.store.specs.Shared.{at}
use Rattle.store.specs.Tables.{offset_at, triple_at}
use Rattle.store.specs.Names.{ByteOrdering, compare_bytes, name_at}
use Rattle.store.proofs.Order.{compare-tail, compare_refl}
use Rattle.table.specs.Held.{ResourceHeld}
use Rattle.graph.specs.Graph.{named}
use Rattle.lines.specs.Export.{line_of, line_at, not_more}
use Rattle.line_order.specs.declared.Head.TheVariants.{Name}
use Rattle.line_order.specs.Rests.{line_in, name_from, Closed, TripleNamed, after_name, rest_of, head_at}
use Rattle.line_order.specs.Heads.{Common}

-- ---- from the name at a position on

module _ {res text : List ℕ} {x : Triple} (t : TripleNamed res text x) (p : Position) where
  pub held_at : {n : ℕ} → n ≡ at p x → ResourceHeld res n
  held_at e = rw e (t.held.each p)

  pub closed_at : {o : ℕ} → o ≡ offset_at res (at p x) → Closed text o
  closed_at e = rw e (t.closed p)

same-front : (u v w : List ℕ) → compare_bytes (u ++ v) (u ++ w) ≡ compare_bytes v w
same-front [] v w = refl
same-front (b ∷ u) v w = compare-tail b b (u ++ v) (u ++ w) refl ∙ same-front u v w

-- the lines of x and y from the name at a position on
abbrev pub from : List ℕ → List ℕ → Triple → Triple → Position → ByteOrdering
from res text x y p = compare_bytes (rest_of res text x (head_at res x p)) (rest_of res text y (head_at res y p))

module _ (res text : List ℕ) (x y : Triple) (p : Position) where
  abbrev s : List ℕ
  s = after_name res text x p

  abbrev t : List ℕ
  t = after_name res text y p

  -- what is left after the bytes in common decides
  pub past-common : {i j k : ℕ} {r : Bool} → i ≡ offset_at res (at p x) → j ≡ offset_at res (at p y) → Common text i j k
      → r ≡ not_more (compare_bytes (rest_of res text x (Name p (i + k))) (rest_of res text y (Name p (j + k))))
      → r ≡ not_more (from res text x y p)
  past-common e d c h = rw (← e, ← d) (h ∙ ap not_more (sym (c.decides (32 ∷ s) (32 ∷ t))))

  -- one number has one name
  same_name : at p x ≡ at p y → from res text x y p ≡ compare_bytes s t
  same_name e =
      rw e (same-front (name_from text (offset_at res (at p y))) (32 ∷ s) (32 ∷ t) ∙ compare-tail 32 32 s t refl)

-- ---- the lines of two statements, by the first numbers that differ

-- x and y are the triples of statements m and n
pub record Read (stm : List ℕ) (m n : ℕ) (x y : Triple) : Type 0 where
  pub one : x ≡ triple_at stm (m - 1)
  pub other : y ≡ triple_at stm (n - 1)

pub named_in : {res text : List ℕ} {x z : Triple} → TripleNamed res text z → x ≡ z → TripleNamed res text x
named_in t e = rw e t

line-rest : (res stm text : List ℕ) (n : ℕ)
    → line_in res stm text n ≡ rest_of res text (triple_at stm (n - 1)) (head_at res (triple_at stm (n - 1)) Subject)
unfolding line_at line_of named name_at
line-rest res stm text n = refl

module _ (res text : List ℕ) {stm : List ℕ} {m n : ℕ} {x y : Triple} (l : Read stm m n x y) where
  abbrev asked : ByteOrdering
  asked = compare_bytes (line_in res stm text m) (line_in res stm text n)

  from-subject : asked ≡ from res text x y Subject
  from-subject = rw (l.one, l.other) (ap₂ compare_bytes (line-rest res stm text m) (line-rest res stm text n))

  pub by-subject : {r : Bool} → r ≡ not_more (from res text x y Subject) → r ≡ not_more asked
  by-subject h = h ∙ ap not_more (sym from-subject)

  module _ (s : x.subject.0 ≡ y.subject.0) where
    from-predicate : asked ≡ from res text x y Predicate
    from-predicate = from-subject ∙ same_name res text x y Subject s

    pub by-predicate : {r : Bool} → r ≡ not_more (from res text x y Predicate) → r ≡ not_more asked
    by-predicate h = h ∙ ap not_more (sym from-predicate)

    module _ (p : x.predicate.0 ≡ y.predicate.0) where
      from-object : asked ≡ from res text x y Object
      from-object = from-predicate ∙ same_name res text x y Predicate p

      pub by-object : {r : Bool} → r ≡ not_more (from res text x y Object) → r ≡ not_more asked
      by-object h = h ∙ ap not_more (sym from-object)

      -- the same triple twice
      pub by-none : x.object.0 ≡ y.object.0 → true ≡ not_more asked
      by-none o = sym (ap not_more (from-object ∙ same_name res text x y Object o ∙ compare_refl (46 ∷ 10 ∷ [])))
