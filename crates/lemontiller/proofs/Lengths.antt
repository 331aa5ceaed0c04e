-- What a call comes to by the lengths of the slices that it is lent: too short, or with room. Assumes nothing.
use mathlib.Core.Path.{◌≡◌, sym, ◌∙◌}
use mathlib.Core.Bool.{Bool, true, false}
use mathlib.Core.List.{List}
use Prim.Native.Nat.{ℕ, ◌<◌, ◌≤◌}
use lib.ListN.{length}
use lib.Dec.{ltb}
use Rattle.store.proofs.Tests.{decide}
use borrow.Author.Tests.{lt-ltb, le-ltb}
use Rattle.capi_calls.specs.Words.{counter_words, if_short, if_any_short, long_enough}
use Rattle.term.proofs.Names.{never}

-- ---- counters and a reply, or counters and a cursor

module _ {A : Type 0} (cw : List ℕ) (n : ℕ) (w : List ℕ) (s a : A) where
  pub short-counters : length cw < counter_words → s ≡ if_short cw n w s a
  unfolding if_short
  short-counters h = simp (lt-ltb (length cw) counter_words h)

  pub short-reply : counter_words ≤ length cw → length w < n → s ≡ if_short cw n w s a
  unfolding if_short
  short-reply h k = simp (le-ltb (length cw) counter_words h, lt-ltb (length w) n k)

  pub room : counter_words ≤ length cw → n ≤ length w → a ≡ if_short cw n w s a
  unfolding if_short
  room h k = simp (le-ltb (length cw) counter_words h, le-ltb (length w) n k)

-- a contract that says something only where there is room
pub no-room : {A : Type 0} {b : Bool} → b ≡ false → b ≡ true → A
no-room h e = never (sym h ∙ e)

module _ {A : Type 0} (cw : List ℕ) (n : ℕ) (w : List ℕ) where
  -- and only where there is none
  pub some-room : counter_words ≤ length cw → n ≤ length w → long_enough cw n w ≡ false → A
  some-room h k e = never (sym (room cw n w false true h k ∙ e))

  pub short : (s a : A) → long_enough cw n w ≡ false → s ≡ if_short cw n w s a
  unfolding if_short
  short s a h =
      decide (ltb (length cw) counter_words)
      (λ l. rw l)
      (λ l. decide (ltb (length w) n) (λ k. rw (l, k)) (λ k. no-room h (rw (l, k))))

-- ---- counters, a cursor and a reply

module _ {A : Type 0} (cw : List ℕ) (k : ℕ) (q : List ℕ) (n : ℕ) (w : List ℕ) (s a : A) where
  pub any-short : long_enough cw n w ≡ false → s ≡ if_any_short cw k q n w s a
  unfolding if_any_short if_short
  any-short h =
      decide (ltb (length q) k)
      (λ i. decide (ltb (length cw) counter_words) (λ l. rw l) (λ l. rw (l, i)))
      (λ i. rw i (short cw n w s a h))

  pub any-short-counters : length cw < counter_words → s ≡ if_any_short cw k q n w s a
  unfolding if_any_short
  any-short-counters h = simp (lt-ltb (length cw) counter_words h)

  pub any-short-cursor : counter_words ≤ length cw → length q < k → s ≡ if_any_short cw k q n w s a
  unfolding if_any_short
  any-short-cursor h i = simp (le-ltb (length cw) counter_words h, lt-ltb (length q) k i)

  pub any-short-reply : counter_words ≤ length cw → k ≤ length q → length w < n → s ≡ if_any_short cw k q n w s a
  unfolding if_any_short
  any-short-reply h i j = simp (le-ltb (length cw) counter_words h, le-ltb (length q) k i, lt-ltb (length w) n j)

  pub any-room : counter_words ≤ length cw → k ≤ length q → n ≤ length w → a ≡ if_any_short cw k q n w s a
  unfolding if_any_short
  any-room h i j = simp (le-ltb (length cw) counter_words h, le-ltb (length q) k i, le-ltb (length w) n j)
