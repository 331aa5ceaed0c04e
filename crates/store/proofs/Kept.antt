-- What the plain lists keep: known numbers, permitted kinds, no triple twice; so a store that agrees with them is
-- sound after any list of calls. Assumes nothing.
use mathlib.Core.Path.{◌≡◌, ◌∙◌}
use mathlib.Core.Logic.{◌≢◌}
use mathlib.Core.Bool.{Bool, true, false}
use mathlib.Core.List.{List, [], ◌∷◌, ◌++◌}
use Prim.Native.Nat.{ℕ, ◌<◌}
use native.Mathlib.Omega.{arith}
use lib.ListN.{length, length-append, get_or-append}
use lib.Seq.{get_or-append_seam}
use Rattle.term.specs.Canonical.{canonical}
use Rattle.store.specs.declared.Position.TheVariants.{Subject, Predicate}
use Rattle.store.specs.declared.Triple.{Triple}
use Rattle.store.specs.Shared.{known, same, kinds_permitted, Entry}
use Rattle.store.specs.Model.{Listing, Model, Capacities, Call, entry, lookup}
use Rattle.store.specs.Values.{Values}
use Rattle.store.specs.Model.{mark, turn, fresh_model, call_model, model_after, with_names, with_entries, with_listings}
use Rattle.store.specs.Model.{unretracted, reclaimed}
use Rattle.store.specs.Soundness.{Sound}
use Rattle.store.specs.History.{Store}
use Rattle.store.proofs.Tests.{upto, known-low, known-high, known_more, same_self}
use Rattle.store.proofs.Falling.{head-pos}
use Rattle.store.proofs.Text.{name-old, length-snoc}
use Rattle.store.proofs.Represented.{Agreeing, fits-agrees, spo-agrees, mark-length, mark-spo}
use Rattle.store.proofs.Unretracted.{origin, origin-in, origin-reads, origin-rises}
use Rattle.store.proofs.StatementsAgree.{permitted-agrees}
pub use Rattle.store.proofs.Changes.{kind_in}
use Rattle.store.proofs.Changes.{Change, unchanged, new_name, new_entry, revived_entry, retracted_entry, new_opening}
use Rattle.store.proofs.Changes.{read_opening, reclaimed_all, change}

pub record Tidy (s : Model) : Type 0 where
  pub inside : (i : ℕ) → i < length s.entries → known (length s.names) (entry s.entries i).spo ≡ true
  pub kinds : (i : ℕ) → i < length s.entries → kinds_permitted (kind_in s) (entry s.entries i).spo ≡ true
  pub once : (i j : ℕ) → i < j → j < length s.entries → (entry s.entries i).spo ≢ (entry s.entries j).spo

-- a triple that is not found is not there
pub absent : (x : Triple) (l : List Entry) → lookup x l ≡ 0 → (i : ℕ) → i < length l → (entry l i).spo ≢ x
unfolding lookup
absent x l e i h d =
    omega (arith, head-pos (λ i. same x (entry l i).spo) (length l) i h (same_self x (entry l i).spo d), e)

abbrev more : Model → Triple → List Entry
more s x = s.entries ++ record { spo = x; retracted = false } ∷ []

module _ (s : Model) (D : Tidy s) where
  tidy-append : (x : Triple) → known (length s.names) x ≡ true → kinds_permitted (kind_in s) x ≡ true
      → lookup x s.entries ≡ 0
      → Tidy (with_entries s (more s x))
  tidy-append x k a e = record {
    inside = λ i h. upto (λ i. known (length s.names) (entry (more s x) i).spo ≡ true) (length s.entries)
        (λ i q. rw get_or-append (D.inside i q)) (rw get_or-append_seam k) i (omega (arith, simp length-append at h));
    kinds = λ i h. upto (λ i. kinds_permitted (kind_in s) (entry (more s x) i).spo ≡ true) (length s.entries)
        (λ i q. rw get_or-append (D.kinds i q)) (rw get_or-append_seam a) i (omega (arith, simp length-append at h));
    once = λ i j h g. upto (λ j. (i : ℕ) → i < j → (entry (more s x) i).spo ≢ (entry (more s x) j).spo)
        (length s.entries)
        (λ j q i h. let q' : i < length s.entries = omega arith in
        rw (get_or-append s.entries _ _ i q', get_or-append s.entries _ _ j q) (D.once i j h q))
        (λ i h. rw (get_or-append s.entries _ _ i h, get_or-append_seam) (absent x s.entries e i h))
        j (omega (arith, simp length-append at g)) i h;
  }

  tidy-mark : (i : ℕ) (b : Bool)
      → Tidy (with_entries s (mark s.entries i b))
  tidy-mark i b =
      let n = mark-length s.entries i b in
      record {
        inside = λ j h.
            let h' : j < length s.entries = omega arith in rw (mark-spo s.entries i j b h') (D.inside j h');
        kinds = λ j h.
            let h' : j < length s.entries = omega arith in rw (mark-spo s.entries i j b h') (D.kinds j h');
        once = λ j m h g.
            let g' : m < length s.entries = omega arith in
            let h' : j < length s.entries = omega arith in
            rw (mark-spo s.entries i j b h', mark-spo s.entries i m b g') (D.once j m h g');
      }

  tidy-name : (w : List ℕ) → Tidy (with_names s (s.names ++ w ∷ []))
  unfolding kinds_permitted
  tidy-name w = record {
    inside = λ i h. known_more (length s.names) _ _ (omega (arith, length-snoc s.names w)) (D.inside i h);
    kinds = λ i h.
        let x = (entry s.entries i).spo in
        let k = D.inside i h in
        rw (
          name-old s.names w x.subject.0 (known-low _ x k Subject) (known-high _ x k Subject),
          name-old s.names w x.predicate.0 (known-low _ x k Predicate) (known-high _ x k Predicate),
        )
        (D.kinds i h);
    once = D.once;
  }

  tidy-listings : (g : List Listing) → Tidy (with_listings s g)
  tidy-listings g = record { inside = D.inside; kinds = D.kinds; once = D.once }

  -- an entry that is kept was there, and in the same order
  tidy-reclaimed : Tidy (reclaimed s)
  tidy-reclaimed =
      let l = s.entries in
      record {
        inside = λ i h. rw (origin-reads l i h) (D.inside (origin l i) (origin-in l i h));
        kinds = λ i h. rw (origin-reads l i h) (D.kinds (origin l i) (origin-in l i h));
        once = λ i j h g.
            let q : i < length (unretracted l) = omega arith in
            rw (origin-reads l i q, origin-reads l j g)
            (D.once (origin l i) (origin l j) (origin-rises l i j h g) (origin-in l j g));
      }

  tidy-changed : {a : Call} {o : Model × Values} → Change s a o → Tidy o.0
  unfolding turn
  tidy-changed (unchanged a v p) = D
  tidy-changed (new_name w v) = tidy-name (canonical w)
  tidy-changed (new_entry f x v a b e) = tidy-append x a b e
  tidy-changed (revived_entry f x i v) = tidy-mark i false
  tidy-changed (retracted_entry f x i v) = tidy-mark i true
  tidy-changed (new_opening x v) = tidy-listings _
  tidy-changed (read_opening j b) = tidy-listings _
  tidy-changed reclaimed_all = tidy-reclaimed

  pub tidy-call : (k : Capacities) (a : Call) → Tidy (call_model k s a).0
  tidy-call k a = tidy-changed (change k s a)

pub tidy-history : (k : Capacities) (s : Model) → Tidy s → (a : List Call) → Tidy (model_after k s a)
unfolding model_after
tidy-history k s D [] = D
tidy-history k s D (a ∷ r) = tidy-history k (call_model k s a).0 (tidy-call s D k a) r

pub tidy-fresh : Tidy fresh_model
tidy-fresh = record {
  inside = λ i h. absurd (omega arith);
  kinds = λ i h. absurd (omega arith);
  once = λ i j h g. absurd (omega arith);
}

-- ---- a store that agrees with tidy lists is sound

pub agreeing-sound : (k : Capacities) (c : Store) (s : Model) → Agreeing k c s → Tidy s
    → Sound c.counters c.tables
agreeing-sound k c s R D = record {
  capacity = fits-agrees k c s R;
  linked = R.linked;
  kinds = λ i h.
      let q : i < length s.entries = omega (arith, R.size) in
      rw (← spo-agrees k c s R i h)
      (permitted-agrees k c s R (entry s.entries i).spo (rw R.named.size (D.inside i q)) ∙ D.kinds i q);
  once = λ i j h g. rw (← spo-agrees k c s R i (omega arith), ← spo-agrees k c s R j g)
      (D.once i j h (omega (arith, R.size)));
  names = s.names;
  named = R.named;
}
