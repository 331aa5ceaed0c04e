-- A refusal changes nothing: the contract of `load_whole` read by its outcome; and why a triple is refused. Assumes nothing.
use mathlib.Core.Path.{◌≡◌, refl, sym, ap, ◌∙◌}
use mathlib.Core.Logic.{◌≢◌}
use mathlib.Core.List.{List, []}
use Prim.Native.Nat.{ℕ}
use lib.Dec.{eqb}
use borrow.Author.Tests.{eqb-true, eqb-false}
use Rattle.store.specs.declared.ScanCursor.{ScanCursor}
use Rattle.store.specs.History.{Store, store}
use Rattle.store.proofs.Tests.{decide}
use Rattle.ntriples.specs.declared.Line.{Line}
use Rattle.loader.specs.Lines.{Came, came, load_line_of, refusal_in, Exact}
use Rattle.whole_line.specs.Whole.{whole_line_of}
use Rattle.whole_line.specs.Claims.{RefusedChangesNothing, RefusedForRoom}
use Rattle.whole_line.proofs.Exactly as exactly

-- the whole line's refusal is the load's; refused, it leaves the store, and else it is the load
refused-kept : (s : Store) (text : List ℕ) (line : Line) → refusal_in (whole_line_of s text line).1 ≢ 0
    → (whole_line_of s text line).0 ≡ s
unfolding whole_line_of
refused-kept s text line =
    decide (eqb (refusal_in (load_line_of s text line).1) 0)
    (λ e. rw e (λ h. absurd (h (eqb-true _ 0 e))))
    (λ e. rw e (λ h. refl))

loaded-is : (s : Store) (text : List ℕ) (line : Line) → refusal_in (whole_line_of s text line).1 ≡ 0
    → whole_line_of s text line ≡ load_line_of s text line
unfolding whole_line_of
loaded-is s text line =
    decide (eqb (refusal_in (load_line_of s text line).1) 0)
    (λ e. rw e (λ h. refl))
    (λ e. rw e (λ h. absurd (eqb-false _ 0 e h)))

pub refused-changes-nothing : RefusedChangesNothing
refused-changes-nothing c m m' text line r S L =
    let e = L.sound S in
    let outcome : (qs : List ScanCursor) → refusal_in (whole_line_of (store c m qs) text line).1 ≡ refusal_in (came r.outcome) =
    λ qs. ap (λ (a : Store × Came). refusal_in a.1) (sym (e qs)) in
    record {
      refused = λ h.
          let k : store r.counters m' [] ≡ store c m [] =
          ap (λ (a : Store × Came). a.0) (e []) ∙ refused-kept (store c m []) text line (λ z. h (sym (outcome []) ∙ z)) in
          (ap (λ (s : Store). s.tables) k, ap (λ (s : Store). s.counters) k);
      loaded = λ h.
          let f : Exact c m m' text line r = λ qs. e qs ∙ loaded-is (store c m qs) text line (outcome qs ∙ h) in
          record { sound = λ T. f; capacity = λ q. f; unread = λ q. f };
    }

pub refused-for-room : RefusedForRoom
refused-for-room = exactly.refused-for-room
