-- What is told of a reading, of a query or of a scan, that was read through: how many calls were made, and what their replies come to.
-- Assumes nothing.
use Rattle.std.specs.Prelude.{◌≡◌, ◌≢◌, ◌∷◌, ◌≤◌}
use Rattle.store.specs.Prelude.{Bool, true, false, cond, List, [], ℕ, suc, length, eqb, replicate}
use Rattle.graph.specs.Claims.{Reply, found_in, has_ended, visits_in}
use Rattle.store.specs.Values.{refusal_number}
use Rattle.shell_answer.specs.declared.Told.{Told}
use Rattle.shell_answer.specs.declared.End.{End}
use Rattle.shell_answer.specs.declared.End.TheVariants.{Refused, Ended, Unwritten, Stopped}

-- as many records as one call may visit; as many calls as a reading may take
abbrev pub budget : ℕ
budget = 4096

abbrev pub max_calls : ℕ
max_calls = 4503599627370495

-- as many calls, each with that budget
abbrev pub budgets : ℕ → List ℕ
budgets n = replicate n budget

-- The refusal's number, or 0; whether the reading has ended; how many were found, and the visits made; and whether all that was found was
-- written.
pub record Account : Type 0 where
  pub refusal : ℕ
  pub ended : Bool
  pub found : ℕ
  pub visits : ℕ
  pub written : Bool

abbrev pub refusal_at : End → ℕ
refusal_at (Refused e) = refusal_number e
refusal_at Ended = 0
refusal_at Unwritten = 0
refusal_at Stopped = 0

abbrev pub is_ended : End → Bool
is_ended (Refused e) = false
is_ended Ended = true
is_ended Unwritten = false
is_ended Stopped = false

abbrev pub is_written : End → Bool
is_written (Refused e) = true
is_written Ended = true
is_written Unwritten = false
is_written Stopped = true

-- what the code tells
abbrev pub account : Told → Account
account t =
    record { refusal = refusal_at t.end; ended = is_ended t.end; found = t.found; visits = t.visits; written = is_written t.end }

module _ {A Q : Type 0} where
  -- the number of the first refusal, or 0
  unfoldable pub refusal_in : List (Reply A Q) → ℕ
  refusal_in [] = 0
  refusal_in (r ∷ rs) = cond (eqb r.refusal 0) (refusal_in rs) r.refusal

  -- what these replies come to, and whether all that was found was written
  abbrev pub told_of : List (Reply A Q) → Bool → Account
  told_of rs w =
      record { refusal = refusal_in rs; ended = has_ended rs; found = length (found_in rs); visits = visits_in rs; written = w }

  -- Told of the replies to some calls, no fewer than it takes: unless one was refused or has ended, or what was found could not be written,
  -- `max_calls` were made.
  pub record TellsOf (read : List ℕ → List (Reply A Q)) (t : Account) : Type 0 where
    pub calls : ℕ
    pub few : calls ≤ max_calls
    pub tells : t ≡ told_of (read (budgets calls)) t.written
    pub stops : t.refusal ≡ 0 → t.ended ≡ false → t.written ≡ true → calls ≡ max_calls
    -- what could not be written is what the last call found
    pub unwritten : t.written ≡ false → (n : ℕ) × (calls ≡ suc n) × (t.found ≡ suc (length (found_in (read (budgets n)))))

  -- From the opening's refusal, or 0: refused, with nothing found and no visits; or told of the reading.
  pub record ReadThrough (opening : ℕ) (read : List ℕ → List (Reply A Q)) (t : Account) : Type 0 where
    pub unopened : opening ≢ 0 → t ≡ record { refusal = opening; ended = false; found = 0; visits = 0; written = true }
    pub opened : opening ≡ 0 → TellsOf read t
