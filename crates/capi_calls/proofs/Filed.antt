-- Writing the file of statements for C: what is given back and left, on any tables. It uses the closed runs, so that they
-- are reported first where a definition is wrong. Assumes nothing.
use mathlib.Core.Path.{◌≡◌, refl, sym, ap, ◌∙◌}
use mathlib.Core.Logic.{◌≢◌, ◌⊎◌, inl, inr, ⊎_elim}
use mathlib.Core.List.{List, [], ◌∷◌}
use Prim.Native.Nat.{ℕ, ◌≤◌, ◌<◌}
use native.Mathlib.Omega.{arith}
use lib.ListN.{length, replicate, set}
use lib.Dec.{ltb}
use borrow.Author.Tests.{ltb-true, ltb-false}
use Rattle.store.specs.declared.Counters.{Counters}
use Rattle.store.specs.declared.Refusal.{Refusal}
use Rattle.store.specs.declared.Refusal.TheVariants.{Capacity, Damaged, ExportSpace}
use Rattle.store.specs.Tables.{Tables, word}
use Rattle.store.proofs.Numbers.{refusal-range, refusal-positive}
use Rattle.store.proofs.Tests.{decide}
use Rattle.std.specs.Prelude.{Result, Ok, Err}
use Rattle.lines.specs.Export.{Written, written, over, file_of, export_of}
use Rattle.lines.proofs.ExportAnswers.{ways}
use Rattle.capi_calls.specs.Words.{counter_words, number_reply_words, too_short, counters_of, if_short, export_answer, filed}
use Rattle.capi_calls.specs.Words.{exported_as}
use Rattle.capi_calls.specs.Calls.{export_call}
use Rattle.capi_calls.specs.Claims.{bare_file, Unanswered, UnansweredExport, Exports, AnsweredExport}
use Rattle.capi_calls.proofs.Unanswered.{not_short, or_short}

-- ---- what the operation leaves: all as it was beside a refusal, or the file

abbrev Refuses : List ℕ → List ℕ → Written → Type 0
Refuses out work z = (e : Refusal) × (z ≡ written out work (Err e))

abbrev the_file : Counters → Tables → List ℕ → List ℕ → Written
the_file c m out work = written (over (file_of c m) out) (over (replicate c.statements 0) work) (Ok (length (file_of c m)))

export-cases : (c : Counters) (m : Tables) (out work : List ℕ)
    → Refuses out work (export_of c m out work) ⊎ (export_of c m out work ≡ the_file c m out work)
export-cases c m out work =
    ways c m out work (λ z. Refuses out work z ⊎ (z ≡ the_file c m out work))
    (λ f. inl (Capacity, refl)) (λ f n. inl (Damaged, refl)) (λ f n s. inl (ExportSpace, refl)) (λ f n s. inr refl)

-- ---- not answered

filed-bare : (out work w : List ℕ) (z : Written) → Refuses out work z ⊎ ((n : ℕ) × (z.reply ≡ Ok n))
    → Unanswered (exported_as w z) (bare_file number_reply_words out work w)
filed-bare out work w z (inl (e, r)) h = rw (r, not_short e)
filed-bare out work w z (inr (n, r)) h = absurd (h (ap (λ (a : Result ℕ Refusal). (export_answer a).result) r))

pub unanswered-export : UnansweredExport
unfolding export_call
unanswered-export cw m out work w =
    let c = counters_of cw in
    or_short (bare_file number_reply_words out work w) cw w number_reply_words refl
    (filed-bare out work w (export_of c m out work)
    (⊎_elim (λ r. inl r) (λ f. inr (length (file_of c m), ap (λ (z : Written). z.reply) f)) (export-cases c m out work)))

-- ---- by the lengths of counters and reply

abbrev Short : List ℕ → List ℕ → Type 0
Short cw w = (length cw < counter_words) ⊎ (length w < number_reply_words)

-- s where one of them is too short, else a
by_lengths : {A : Type 0} (cw w : List ℕ) (s a : A)
    → (Short cw w × (if_short cw number_reply_words w s a ≡ s))
    ⊎ ((counter_words ≤ length cw) × (number_reply_words ≤ length w) × (if_short cw number_reply_words w s a ≡ a))
unfolding if_short
by_lengths cw w s a =
    decide (ltb (length cw) counter_words)
    (λ h. inl (inl (ltb-true (length cw) counter_words h), rw h))
    (λ h. decide (ltb (length w) number_reply_words)
    (λ g. inl (inr (ltb-true (length w) number_reply_words g), rw (h, g)))
    (λ g. inr (ltb-false (length cw) counter_words h, ltb-false (length w) number_reply_words g, rw (h, g))))

-- the one word of the reply
one_word : (w : List ℕ) (n : ℕ) → 1 ≤ length w → word (set w 0 n) 0 ≡ n
one_word [] n h = absurd (omega arith)
one_word (x ∷ w) n h = refl

-- no number of the paper is 100
not-100 : (a : Result ℕ Refusal) → (export_answer a).result ≢ 100
not-100 (Ok n) = λ e. absurd (omega (arith, e))
not-100 (Err e) = λ d. let r = refusal-range e in omega (arith, r.1)

module _ (cw : List ℕ) (m : Tables) (out work w : List ℕ) where
  abbrev c : Counters
  c = counters_of cw

  short-exports : {z : ℕ × (List ℕ × (List ℕ × List ℕ))} → z ≡ filed too_short out work w → Short cw w → Exports cw m out work w z
  short-exports e h = rw e record {
    short = (λ _. h, λ _. refl);
    number = λ d. absurd (d refl);
    size = λ d. absurd (omega (arith, d));
    file = λ d. absurd (omega (arith, d));
    zeroed = λ d. absurd (omega (arith, d));
  }

  -- answered, it is the file
  is-file : (export_answer (export_of c m out work).reply).result ≡ 0 → export_of c m out work ≡ the_file c m out work
  is-file d =
      ⊎_elim (λ (r : Refuses out work (export_of c m out work)).
      absurd (refusal-positive r.0 (sym (ap (λ (z : Written). (export_answer z.reply).result) r.1) ∙ d)))
      (λ f. f) (export-cases c m out work)

  long-exports : {z : ℕ × (List ℕ × (List ℕ × List ℕ))} → z ≡ exported_as w (export_of c m out work)
      → counter_words ≤ length cw → number_reply_words ≤ length w → Exports cw m out work w z
  long-exports e h g = rw e record {
    short = (
      λ d. absurd (not-100 (export_of c m out work).reply d),
      ⊎_elim (λ s. absurd (omega arith)) (λ s. absurd (omega arith)),
    );
    number = λ _. refl;
    size = λ d. one_word w (export_answer (export_of c m out work).reply).number g
        ∙ ap (λ (z : Written). (export_answer z.reply).number) (is-file d);
    file = λ d. ap (λ (z : Written). z.out) (is-file d);
    zeroed = λ d. ap (λ (z : Written). z.work) (is-file d);
  }

pub answered-export : AnsweredExport
unfolding export_call
answered-export cw m out work w =
    ⊎_elim (λ s. short-exports cw m out work w s.1 s.0) (λ l. long-exports cw m out work w l.2 l.0 l.1)
    (by_lengths cw w (filed too_short out work w) (exported_as w (export_of (counters_of cw) m out work)))
