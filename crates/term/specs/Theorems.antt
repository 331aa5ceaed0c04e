-- What is proved of names (paper 01, "Names"; paper 02, note 7). The proofs are in `proofs/Names.antt`, `WellFormed.antt` and
-- `Shortened.antt`. `Spelling.antt` has the grammar's second reading, `Halting.antt` what is proved of the scanner. Assumes nothing.
use Rattle.std.specs.Prelude.{◌≤◌, ◌≡◌, ◌++◌, ◌↔◌}
use Rattle.term.specs.Prelude.{ℕ, List, false, length}
use Rattle.term.specs.Grammar.{Name, WellFormed, name_limit}
use Rattle.term.specs.Scanner.{first_kind_of, kind_of, number_of, refusal_of}
use Rattle.term.specs.Canonical.{string_ending, writes_string, canonical}
use Rattle.term.specs.declared.NameKind.{NameKind}
use Rattle.std.specs.declared.option.Option.{Option}

-- The first byte gives the kind, so a name has one kind.
abbrev pub KindIsFirstByte : Type 0
KindIsFirstByte = (k : ℕ) (s : List ℕ) → Name k s → first_kind_of s ≡ k

-- The kind found is k exactly of the names of kind k within the limit.
abbrev pub KindIsGrammar : Type 0
KindIsGrammar = (limit k : ℕ) (s : List ℕ) → 1 ≤ k → (kind_of limit s ≡ k) ↔ ((length s ≤ limit) × Name k s)

-- Some kind is found exactly of the well-formed names.
abbrev pub KindIsWellFormed : Type 0
KindIsWellFormed = (s : List ℕ) → (kind_of name_limit s ≡ 0 → ⊥) ↔ WellFormed s

-- The answer of `kind_of_name` is refusal 2 exactly where the name is not well formed.
abbrev pub RefusedIsMalformed : Type 0
RefusedIsMalformed =
    (r : Option NameKind) (s : List ℕ) → number_of r ≡ kind_of name_limit s → (refusal_of r ≡ 2) ↔ (WellFormed s → ⊥)

-- The step to one spelling takes the string ending off, and does nothing to bytes that do not end so.
abbrev pub CanonicalDrops : Type 0
CanonicalDrops = (x : List ℕ) → canonical (x ++ string_ending) ≡ x

abbrev pub CanonicalKeeps : Type 0
CanonicalKeeps = (w : List ℕ) → ((x : List ℕ) → w ≡ x ++ string_ending → ⊥) → canonical w ≡ w

-- What it leaves of a name w: a name within the same limit, of the same kind, without the string ending, so that the
-- step is done once. Only a literal has that ending.
pub record Canonical (limit : ℕ) (w : List ℕ) : Type 0 where
  pub kind : kind_of limit (canonical w) ≡ kind_of limit w
  pub ending : writes_string (canonical w) ≡ false
  pub once : canonical (canonical w) ≡ canonical w
  pub other : (kind_of limit w ≡ 3 → ⊥) → canonical w ≡ w

abbrev pub CanonicalName : Type 0
CanonicalName = (limit : ℕ) (w : List ℕ) → (kind_of limit w ≡ 0 → ⊥) → Canonical limit w
