-- Next of a pattern scan moves the cursor's record and nothing else of it: the whole cursor written over its words is the
-- write of that one word. Assumes nothing.
use mathlib.Core.Path.{◌≡◌, refl, sym, ap, ◌∙◌}
use mathlib.Core.List.{List}
use mathlib.Core.Option.{Option, none, some}
use Prim.Native.Nat.{ℕ, zero, suc, ◌≤◌}
use native.Mathlib.Omega.{arith}
use lib.ListN.{set}
use lib.Dec.{eqb, leb}
use lib.Seq.{set-get_or, get_or-set_other}
use borrow.Author.Tests.{leb-true}
use Rattle.store.specs.declared.Counters.{Counters}
use Rattle.store.specs.declared.ScanCursor.{ScanCursor}
use Rattle.store.specs.declared.Refusal.{Refusal}
use Rattle.store.specs.declared.Refusal.TheVariants.{Capacity, BadCursor, NoBudget, StaleCursor}
use Rattle.store.specs.Tables.{Tables, word, fits}
use Rattle.store.specs.Walk.{Step, found, ended, spent}
use Rattle.store.specs.Scan.{cursor_in, cursor_ok, walk_from, next_of, scanned_as}
use Rattle.store.specs.Values.{scanned_values}
use Rattle.store.proofs.Numbers.{refusal-positive}
use Rattle.store.proofs.Tests.{decide, cond-all}
use Rattle.capi_calls.specs.Words.{chain_of, chain_word, cursor_from, with_cursor, misread, next_from}
use Rattle.std.specs.Prelude.{Err, Result}
use Rattle.store.specs.declared.Scanned.{Scanned}

-- a chain word of at most 3 is the word of its chain
chain-word : (k : ℕ) → k ≤ 3 → chain_word (chain_of k) ≡ k
chain-word zero h = refl
chain-word (suc zero) h = refl
chain-word (suc (suc zero)) h = refl
chain-word (suc (suc (suc zero))) h = refl
chain-word (suc (suc (suc (suc k)))) h = absurd (omega arith)

module _ (w : List ℕ) where
  -- the cursor that the words tell, with its record at r
  abbrev at-record : ℕ → ScanCursor
  at-record r = let q = cursor_from w in cursor_in q.generation q.pattern q.chain r

  record-word : (r : ℕ) → word w 3 ≤ 3 → with_cursor w (at-record r) ≡ set w 4 r
  record-word r h =
      rw (set-get_or w 0 0, set-get_or w 1 0, set-get_or w 2 0, chain-word (word w 3) h, set-get_or w 3 0)
      (ap (set (set w 4 r) 5) (sym (get_or-set_other w 4 5 r 0 (λ e. omega (arith, e)))) ∙ set-get_or (set w 4 r) 5 0)

  -- the cursor that s answers, written over the words, is a write of its record alone
  abbrev pub OneWord : Result Scanned Refusal → Type 0
  OneWord s = (scanned_values s).refusal ≡ 0
      → with_cursor w (scanned_values s).cursor ≡ set w 4 (scanned_values s).cursor.next.0

  refused : (e : Refusal) → OneWord (Err e)
  refused e h = absurd (refusal-positive e h)

  walked : word w 3 ≤ 3 → (z : Option Step) → OneWord (scanned_as (cursor_from w) z)
  walked h none e = absurd (omega (arith, e))
  walked h (some (found n v r)) e = record-word r h
  walked h (some (ended v)) e = record-word 0 h
  walked h (some (spent v r)) e = record-word r h

  pub next-one-word : (c : Counters) (m : Tables) (b : ℕ) → OneWord (next_from c m w b)
  unfolding next_from next_of
  next-one-word c m b =
      let q = cursor_from w in
      decide (leb (word w 3) 3)
      (λ l. rw l (cond-all OneWord (fits c m) _ _
      (cond-all OneWord (eqb (word w 5) c.generation) _ _
      (cond-all OneWord (cursor_ok c m q) _ _
      (cond-all OneWord (eqb b 0) _ _ (refused NoBudget) (walked (leb-true (word w 3) 3 l) (walk_from c m q b)))
      (refused BadCursor)) (refused StaleCursor)) (refused Capacity)))
      (λ l. rw l (refused (misread c m w)))
