-- What the functions over heads ensure: the byte read, the head one byte on, the bytes that two names have in common.
-- Assumes nothing.
use Rattle.std.specs.Prelude.{◌≡◌, List, ◌++◌, ℕ, ◌+◌, drop}
use Rattle.store.specs.declared.Position.{Position}
use Rattle.store.specs.declared.Position.TheVariants.{Subject, Predicate, Object}
use Rattle.store.specs.declared.Triple.{Triple}
use Rattle.store.specs.Names.{compare_bytes}
use Rattle.line_order.specs.declared.Head.{Head}
use Rattle.line_order.specs.declared.Head.TheVariants.{Dot}
use Rattle.line_order.specs.Rests.{name_from, Closed, rest_of, HeadClosed, head_at, first}

-- b is the first byte of what is left from a head on, whatever the triple
pub record ByteAt (text : List ℕ) (h : Head) (b : ℕ) : Type 0 where
  pub is : (res : List ℕ) (x : Triple) → b ≡ first (rest_of res text x h)

-- the head after the blank that follows the name at a position
abbrev pub head_after : List ℕ → Triple → Position → Head
head_after res x Subject = head_at res x Predicate
head_after res x Predicate = head_at res x Object
head_after res x Object = Dot

-- g stands one byte after h
pub record OneOn (res text : List ℕ) (x : Triple) (h g : Head) : Type 0 where
  pub closed : HeadClosed text g
  pub rest : rest_of res text x g ≡ drop 1 (rest_of res text x h)

-- the names at i and j have their first k bytes in common: whatever follows them, what is left from there decides
pub record Common (text : List ℕ) (i j k : ℕ) : Type 0 where
  pub one : Closed text (i + k)
  pub other : Closed text (j + k)
  pub decides : (s t : List ℕ)
      → compare_bytes (name_from text i ++ s) (name_from text j ++ t)
      ≡ compare_bytes (name_from text (i + k) ++ s) (name_from text (j + k) ++ t)
