-- What is told from the opening: its refusal, or what is told of the reading from the cursor opened. Assumes nothing.
use mathlib.Core.Path.{◌≡◌, refl, sym, ap, ◌∙◌}
use mathlib.Core.Bool.{true, false}
use mathlib.Core.List.{List}
use Prim.Native.Nat.{ℕ}
use Rattle.store.proofs.Numbers.{refusal-positive}
use Rattle.store.specs.declared.Counters.{Counters}
use Rattle.store.specs.declared.Refusal.{Refusal}
use Rattle.store.specs.declared.ScanCursor.{ScanCursor}
use Rattle.store.specs.declared.Triple.{Triple}
use Rattle.store.specs.Tables.{Tables}
use Rattle.store.specs.Values.{refusal_number, opened_values}
use Rattle.store.specs.Scan.{open_of}
use Rattle.graph.specs.declared.QueryCursor.{QueryCursor}
use Rattle.graph.specs.Values.{query_opened_values}
use Rattle.graph.specs.Query.{open_query_of}
use Rattle.graph.specs.Claims.{Reply, read_on, next_reply, scan_next}
use Rattle.shell_answer.specs.declared.Told.{Told}
use Rattle.shell_answer.specs.declared.End.TheVariants.{Refused as EndRefused}
use Rattle.shell_answer.specs.Told.{Account, account, TellsOf, ReadThrough}
use Rattle.shell_answer.specs.Claims.{QuestionRead, ListRead}
use Rattle.std.specs.Prelude.{Err, Ok, Result}

-- a refusal of this number
abbrev unread : ℕ → Account
unread e = record { refusal = e; ended = false; found = 0; visits = 0; written = true }

abbrev unread_told : Refusal → Told
unread_told y = record { end = EndRefused y; found = 0; visits = 0 }

module _ {A Q : Type 0} {opening : ℕ} where
  refused : {read : List ℕ → List (Reply A Q)} (x : Refusal) {e : ℕ} → opening ≡ refusal_number x → e ≡ refusal_number x
      → ReadThrough opening read (unread e)
  refused x z d = record { unopened = λ o. rw (z, d); opened = λ o. absurd (refusal-positive x (sym z ∙ o)) }

  opened : (next : Q → ℕ → Reply A Q) {start q : Q} {t : Account} → opening ≡ 0 → start ≡ q → TellsOf (read_on next q) t
      → ReadThrough opening (read_on next start) t
  opened next z e T = record { unopened = λ o. absurd (o z); opened = λ o. rw e T }

module _ (c : Counters) (m : Tables) (x : Triple) where
  pub list-refused : (y : Refusal) → open_of c m x ≡ Err y → ListRead c m x (unread_told y)
  list-refused y o = refused y (ap (λ (s : Result ScanCursor Refusal). (opened_values s).refusal) o) refl

  pub list-opened : {q : ScanCursor} (t : Told) → open_of c m x ≡ Ok q → TellsOf (read_on (scan_next c m) q) (account t) → ListRead c m x t
  list-opened t o T =
      opened (scan_next c m) (ap (λ (s : Result ScanCursor Refusal). (opened_values s).refusal) o)
      (ap (λ (s : Result ScanCursor Refusal). (opened_values s).cursor) o) T

module _ (c : Counters) (m : Tables) (ws : List ℕ) where
  pub question-refused : (y : Refusal) → open_query_of c m ws ≡ Err y → QuestionRead c m ws (unread_told y)
  question-refused y o = refused y (ap (λ (s : Result QueryCursor Refusal). (query_opened_values s).refusal) o) refl

  pub question-opened : {q : QueryCursor} (t : Told) → open_query_of c m ws ≡ Ok q
      → TellsOf (read_on (next_reply c m ws) q) (account t) → QuestionRead c m ws t
  question-opened t o T =
      opened (next_reply c m ws) (ap (λ (s : Result QueryCursor Refusal). (query_opened_values s).refusal) o)
      (ap (λ (s : Result QueryCursor Refusal). (query_opened_values s).cursor) o) T
