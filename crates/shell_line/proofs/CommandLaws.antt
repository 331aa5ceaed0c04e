-- Laws of `specs/Commands`: the command of a line whose first byte that is not white stands at i. Assumes nothing.
use Prim.Native.Nat.{ℕ, ◌≤◌, ◌<◌}
use mathlib.Core.Path.{◌≡◌}
use mathlib.Core.List.{List, [], ◌∷◌}
use mathlib.Core.Bool.{true, false}
use lib.Dec.{eqb}
use lib.ListN.{length, get_or}
use lib.Seq.{slice}
use borrow.Author.Tests.{lt-ltb, le-ltb, eq-eqb}
use Rattle.term.specs.Bytes.{among}
use Rattle.shell_line.specs.Ends.{white_end}
use Rattle.shell_line.specs.Commands.{words, named, word_to, word_at, all_of, command_at, command_of}
use Rattle.shell_line.specs.declared.command.Command.{Command}
use Rattle.shell_line.specs.declared.command.Command.TheVariants as command

module _ (line : List ℕ) (i : ℕ) (e : i ≡ white_end line 0) where
  pub blank-line : length line ≤ i → all_of command.Nothing i ≡ command_of line
  unfolding command_of command_at
  blank-line h = rw (← e, le-ltb i (length line) h)

  module _ (h : i < length line) where
    pub comment-line : get_or line i 0 ≡ 35 → all_of command.Nothing i ≡ command_of line
    unfolding command_of command_at
    comment-line b = rw (← e, lt-ltb i (length line) h, eq-eqb (get_or line i 0) 35 b)

    module _ (c : eqb (get_or line i 0) 35 ≡ false) where
      pub question-line : among (60 ∷ 95 ∷ 34 ∷ 63 ∷ []) (get_or line i 0) ≡ true → all_of command.Question i ≡ command_of line
      unfolding command_of command_at
      question-line q = rw (← e, lt-ltb i (length line) h, c, q)

      pub word_line : among (60 ∷ 95 ∷ 34 ∷ 63 ∷ []) (get_or line i 0) ≡ false → (k : Command) (w : List ℕ) (t r : ℕ)
          → t ≡ word_to line i → w ≡ slice i t line → k ≡ named w words → r ≡ white_end line t
          → record { command = k; start = i; rest = r } ≡ command_of line
      unfolding command_of command_at word_at
      word_line q k w t r ht hw hk hr = rw (hk, hw, hr, ht, ← e, lt-ltb i (length line) h, c, q)
