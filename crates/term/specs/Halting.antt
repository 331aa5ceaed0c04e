-- Where a scan must halt, and what it then has read, in the grammar's words; and what is proved of the scanner, for the
-- proofs of lines and of the store. The proofs are in `proofs/Names.antt`, `WellFormed.antt` and `Halts.antt`. Assumes
-- nothing.
use Rattle.std.specs.Prelude.{◌+◌, ◌≤◌, ◌≡◌, ◌∷◌, ◌++◌, ◌⊎◌, ◌↔◌}
use Rattle.term.specs.Prelude.{ℕ, zero, suc, List, [], Bool, true, false, length, take}
use Rattle.term.specs.Grammar.{Name}
use Rattle.term.specs.Scanner.{run_of, whole_of, first_kind_of, kind_of, halt_of, longest_of}
use Rattle.term.specs.declared.production.Halt.{Halt}
use Rattle.term.specs.declared.production.Scan.TheVariants.{Start, Dot}

-- some name begins with p
pub record Begins (p : List ℕ) : Type 0 where
  pub kind : ℕ
  pub rest : List ℕ
  pub name : Name kind (p ++ rest)

-- A scan of s, whose first byte has the offset i, halts at h: some name begins with the bytes before, they lead to the
-- place, and no name begins with one byte more.
pub record Breaks (i : ℕ) (s : List ℕ) (h : Halt) : Type 0 where
  pub front : List ℕ
  pub back : List ℕ
  pub splits : s ≡ front ++ back
  pub offset : h.at ≡ i + length front
  pub place : h.state ≡ run_of Start front
  pub begins : Begins front
  pub breaks : (b : ℕ) (r : List ℕ) → back ≡ b ∷ r → Begins (front ++ (b ∷ [])) → ⊥

-- n is the length of the longest name that begins s, or 0 if there is none
pub record LongestName (s : List ℕ) (n : ℕ) : Type 0 where
  pub within : n ≤ length s
  pub whole : (n ≡ 0) ⊎ ((k : ℕ) × Name k (take n s))
  pub longest : (m k : ℕ) → m ≤ length s → Name k (take m s) → m ≤ n

-- The scanner accepts exactly the grammar's names.
abbrev pub ScannerIsGrammar : Type 0
ScannerIsGrammar = (s : List ℕ) → (whole_of (run_of Start s) ≡ true) ↔ Name (first_kind_of s) s

-- Kinds are 1, 2, 3; 0 is none.
abbrev pub KindAtMostThree : Type 0
KindAtMostThree = (limit : ℕ) (s : List ℕ) → kind_of limit s ≤ 3

-- no byte is 0
abbrev pub clean : List ℕ → Bool
clean [] = true
clean (zero ∷ r) = false
clean (suc b ∷ r) = clean r

-- A name has no byte 0, so that 0 can close it in the text, and two bytes at least.
abbrev pub NameIsClean : Type 0
NameIsClean = (limit : ℕ) (s : List ℕ) → (kind_of limit s ≡ 0 → ⊥) → clean s ≡ true

abbrev pub NameHasTwoBytes : Type 0
NameHasTwoBytes = (limit : ℕ) (s : List ℕ) → (kind_of limit s ≡ 0 → ⊥) → 2 ≤ length s

-- A scan halts before the first byte that continues no name. Where it has read a byte, that byte gives the kind.
abbrev pub HaltIsFirstBreak : Type 0
HaltIsFirstBreak = (i : ℕ) (s : List ℕ) → Breaks i s (halt_of Start i s)

abbrev pub BeginningHasOneKind : Type 0
BeginningHasOneKind = (b : ℕ) (p : List ℕ) (x : Begins (b ∷ p)) → x.kind ≡ first_kind_of (b ∷ p)

-- The longest name before the halt ends there if the place is whole, and one byte before if the place is a lone dot.
abbrev pub LongestIsLongest : Type 0
LongestIsLongest = (s : List ℕ) → LongestName s (longest_of 0 0 Start s)

abbrev pub LongestEndsByHalt : Type 0
LongestEndsByHalt = (s : List ℕ) → longest_of 0 0 Start s ≤ (halt_of Start 0 s).at

abbrev pub WholeAtHalt : Type 0
WholeAtHalt = (s : List ℕ) → whole_of (halt_of Start 0 s).state ≡ true → longest_of 0 0 Start s ≡ (halt_of Start 0 s).at

abbrev pub WholeBeforeDot : Type 0
WholeBeforeDot = (s : List ℕ) → (halt_of Start 0 s).state ≡ Dot → longest_of 0 0 Start s + 1 ≡ (halt_of Start 0 s).at
