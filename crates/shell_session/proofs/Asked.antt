-- What is told of a question or a list whose names are known is told of what was typed; where one is unknown, nothing solves it and nothing
-- matches. Assumes nothing.
use Rattle.std.proofs.Common.{◌≡◌, ℕ, Bool, true, false, ◌≢◌, List, [], map, sym, refl, ◌∙◌, ne_eqb}
use mathlib.Core.List.Memᴰ
use lib.ListN.{length-map}
use Rattle.store.specs.declared.Counters.{Counters}
use Rattle.store.specs.Tables.{Tables}
use Rattle.store.specs.Soundness.{Sound}
use Rattle.graph.specs.Graph.{mapping_of}
use Rattle.graph.specs.Work.{work_of}
use Rattle.graph.specs.Claims.{named_at}
use Rattle.shell_line.specs.Questions.{Standing, Read, parts_of, question, list}
use Rattle.shell_words.specs.declared.Words.{Words}
use Rattle.shell_words.specs.Words.{WordsAre}
use Rattle.shell_words.specs.Claims.{asked, listed}
use Rattle.shell_words.proofs.Theorems.{question-means, solutions-as-typed, unknown-has-none, list-means}
use Rattle.shell_answer.specs.declared.Told.{Told}
use Rattle.shell_answer.specs.Claims.{QuestionRead, ListRead}
use Rattle.shell_answer.proofs.Theorems.{questions-are-read-through, lists-are-read-through}
use Rattle.shell_answer.specs.Told.{account}
use Rattle.shell_session.specs.Asked.{Answered, Matched, none_told, asked_work}

module _ (c : Counters) (m : Tables) (S : Sound c m) (line : List ℕ) (from : ℕ) (s : Standing) (w : Words)
    (W : WordsAre c m line s.parts w) where
  no-work : w.unknown ≢ 0 → asked_work c m line s.parts ≡ 0
  unfolding asked_work
  no-work n = rw (ne_eqb _ 0 (λ z. n (W.unknown ∙ z)))

  all-work : w.unknown ≡ 0 → asked_work c m line s.parts ≡ work_of c m (asked s w)
  unfolding asked_work
  all-work z = rw (sym W.unknown ∙ z, W.words)

  module _ (e : parts_of question line from ≡ Read s) where
    pub none_answers : w.unknown ≢ 0 → (b : Bool) → Answered c m line s.parts (none_told b)
    none_answers n true = record {
      unrefused = refl;
      solutions = [];
      exact = λ μ. (λ h. absurd (unknown-has-none c m S line from s e w W n μ h), λ h. absurd (Memᴰ.not-nil h));
      once = tt;
      found = λ z. refl;
      visits = λ z. sym (no-work n);
      ends = λ d k. refl;
    }
    none_answers n false = record {
      unrefused = refl;
      solutions = [];
      exact = λ μ. (λ h. absurd (unknown-has-none c m S line from s e w W n μ h), λ h. absurd (Memᴰ.not-nil h));
      once = tt;
      found = λ z. refl;
      visits = λ z. sym (no-work n);
      ends = λ d k. d;
    }

    pub reading-answers : w.unknown ≡ 0 → (t : Told) → QuestionRead c m (asked s w) t → Answered c m line s.parts (account t)
    reading-answers z t T =
        let M = question-means c m S line from s e w W z in
        let R = questions-are-read-through c m S (asked s w) M.0 in
        let A = R.2 t T in
        record {
          unrefused = A.unrefused;
          solutions = map (mapping_of m) R.0;
          exact = solutions-as-typed c m S line from s e w W z R.0 R.1;
          once = R.1.once;
          found = λ d. A.found d ∙ sym (length-map R.0 (mapping_of m));
          visits = λ d. A.visits d ∙ sym (all-work z);
          ends = λ d k. A.ends d (rw (all-work z) at k);
        }

  module _ (e : parts_of list line from ≡ Read s) where
    pub none-match : w.unknown ≢ 0 → (b : Bool) → Matched c m line s.parts (none_told b)
    none-match n true = record {
      unrefused = refl;
      ended = λ d. refl;
      triples = [];
      exact = λ y. (λ h. absurd ((list-means c m S line from s e w W).1 n y h.0 h.1), λ h. absurd (Memᴰ.not-nil h));
      once = tt;
      found = λ d. refl;
    }
    none-match n false = record {
      unrefused = refl;
      ended = λ d. d;
      triples = [];
      exact = λ y. (λ h. absurd ((list-means c m S line from s e w W).1 n y h.0 h.1), λ h. absurd (Memᴰ.not-nil h));
      once = tt;
      found = λ d. refl;
    }

    pub reading-matches : w.unknown ≡ 0 → (t : Told) → ListRead c m (listed w) t → Matched c m line s.parts (account t)
    reading-matches z t T =
        let M = (list-means c m S line from s e w W).0 z in
        let R = lists-are-read-through c m S (listed w) M.0 in
        let A = R.2 t T in
        record {
          unrefused = A.1.unrefused;
          ended = A.0;
          triples = map (named_at m) R.0;
          exact = λ y. (
            λ h. (R.1.exact y).0 (h.0, (M.1 y).1 h.1),
            λ k. let g = (R.1.exact y).1 k in (g.0, (M.1 y).0 g.1),
          );
          once = R.1.once;
          found = λ d. A.1.found d ∙ sym (length-map R.0 (named_at m));
        }
