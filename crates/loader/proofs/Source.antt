-- All lines of a source, one after another: what holds before a line holds after it, at the next, and at the source's end. Assumes nothing.
use mathlib.Core.Path.{◌≡◌, refl, sym, ap, ◌∙◌}
use mathlib.Core.List.{List, []}
use Prim.Native.Nat.{ℕ, zero, suc, ◌+◌, ◌≤◌}
use native.Mathlib.Omega.{arith}
use lib.ListN.{length}
use borrow.Author.Tests.{lt-ltb, le-ltb}
use Rattle.store.specs.declared.Counters.{Counters}
use Rattle.store.specs.declared.ScanCursor.{ScanCursor}
use Rattle.store.specs.Tables.{Tables}
use Rattle.store.specs.Soundness.{Sound}
use Rattle.store.specs.History.{Store, store}
use Rattle.ntriples.specs.declared.Line.{Line}
use Rattle.ntriples.specs.declared.Line.TheVariants as answer
use Rattle.graph.specs.Claims.{SoundStore}
use Rattle.graph.proofs.Theorems.{line-loads}
use Rattle.lines.specs.Claims.{names_in}
use Rattle.loader.specs.Lines.{Came, line_at, load_line_of, lines_from, load_lines_of, LoadsLines}
use Rattle.loader.specs.Steps.{Takes, Ends}
use Rattle.loader.proofs.Inside.{read-moves}

line-sound : (s : Store) → SoundStore s → (text : List ℕ) (line : Line) → SoundStore (load_line_of s text line).0
unfolding load_line_of
line-sound s S text answer.End = S
line-sound s S text answer.Nothing = S
line-sound s S text (answer.Refused k) = S
line-sound s S text (answer.Triple x y z) = (line-loads s S (names_in text x y z)).0.sound

-- the lines before a position have been loaded, which led from c and m to d and m'
pub record SoFar (c : Counters) (m : Tables) (text : List ℕ) (d : Counters) (m' : Tables) (from : ℕ) : Type 0 where
  pub sound : Sound c m → Sound d m'
  pub onward : Sound c m → (qs : List ScanCursor)
      → (n : ℕ) × (length text ≤ from + n) × (load_lines_of (store c m qs) text ≡ lines_from n (store d m' qs) text from)

pub so-far-none : (c : Counters) (m : Tables) (text : List ℕ) (from : ℕ) → from ≡ 0 → SoFar c m text c m from
so-far-none c m text from e = record { sound = λ S. S; onward = λ S qs. (length text, omega arith, rw e refl) }

module _ (c : Counters) (m : Tables) (text : List ℕ) (d : Counters) (m' : Tables) (from : ℕ) (F : SoFar c m text d m' from) where
  module _ (e : Counters) (m'' : Tables) (next : ℕ) (N : Ends text from next) (K : Takes d m' m'' text from e) where
    after : Sound d m' → (qs : List ScanCursor) → store e m'' qs ≡ (load_line_of (store d m' qs) text (line_at text from)).0
    after S qs = ap (λ (w : Store × Came). w.0) (K.loads.sound S qs)

    one_line : (n : ℕ) → Sound d m' → (qs : List ScanCursor) → length text ≤ from + n
        → (k : ℕ) × (length text ≤ next + k) × (lines_from n (store d m' qs) text from ≡ lines_from k (store e m'' qs) text next)
    unfolding lines_from
    one_line zero S qs h = let b = N.before-end in absurd (omega arith)
    one_line (suc n) S qs h = let b = read-moves N in (
      n,
      omega (arith, b.0),
      rw (lt-ltb from (length text) N.before-end, ← after S qs, ← N.moved) refl,
    )

    pub so_far_more : SoFar c m text e m'' next
    so_far_more = record {
      sound = λ S. rw (← after (F.sound S) []) at (line-sound (store d m' []) (F.sound S) text (line_at text from));
      onward = λ S qs.
          let a = F.onward S qs in
          let b = one_line a.0 (F.sound S) qs a.1 in
          (b.0, b.1, a.2 ∙ b.2);
    }

  none_left : (n : ℕ) (s : Store) → length text ≤ from → lines_from n s text from ≡ s
  unfolding lines_from
  none_left zero s h = refl
  none_left (suc n) s h = rw (le-ltb from (length text) h)

  pub so-far-all : length text ≤ from → LoadsLines c m m' text d
  so-far-all h = record { sound = λ S qs. let a = F.onward S qs in sym (a.2 ∙ none_left a.0 (store d m' qs) h) }
