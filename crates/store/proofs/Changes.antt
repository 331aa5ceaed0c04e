-- What a call of the plain lists leaves, told once for whoever asks what a call keeps: the lists as they were, or one
-- of seven changes. Assumes nothing.
use mathlib.Core.Path.{◌≡◌, refl}
use mathlib.Core.Bool.{true, false, ◌&&◌}
use mathlib.Core.List.{List, [], ◌∷◌, ◌++◌}
use Prim.Native.Nat.{ℕ, zero, suc}
use lib.ListN.{length, get_or}
use lib.Dec.{eqb, leb, ltb}
use Rattle.term.specs.Scanner.{first_kind_of}
use Rattle.term.specs.Canonical.{canonical}
use Rattle.store.specs.declared.Triple.{Triple}
use Rattle.store.specs.Shared.{known, within, kinds_permitted, well_formed, name_of, text_bytes, max_reclaims}
use Rattle.store.specs.Shared.{lookup_name}
use Rattle.store.specs.Values.{Values, refused_with, numbered, counted}
use Rattle.store.specs.Model.{Model, Listing, Capacities, Form, Call, intern, assert, retract, open', next}
use Rattle.store.specs.Model.{reclaim, totals, with_names, intern_name, intern_model, entry, lookup, mark}
use Rattle.store.specs.Model.{with_entries, put, assert_model, retract_entry, retract_model, listing, with_listings}
use Rattle.store.specs.Model.{open_model, no_listing, take_from, turn, next_model, reclaimed, reclaim_model, call_model}
use Rattle.store.proofs.Tests.{decide}

-- the kind of a number, by the list of names
abbrev pub kind_in : Model → ℕ → ℕ
kind_in s y = first_kind_of (name_of s.names y)

abbrev pub opening_of : Model → ℕ → Listing
opening_of s j = get_or s.listings j no_listing

pub data Change (s : Model) : Call → Model × Values → Type 0 where
  -- refused, or nothing to do
  unchanged : (a : Call) (v : Values) → v.visits ≡ 0 → Change s a (s, v)
  -- a name more
  new_name : (w : List ℕ) (v : Values) → Change s (intern w) (with_names s (s.names ++ canonical w ∷ []), v)
  -- a triple more, a triple live again, a triple retracted
  new_entry : (f : Form) (x : Triple) (v : Values) → known (length s.names) x ≡ true
      → kinds_permitted (kind_in s) x ≡ true
      → lookup x s.entries ≡ 0
      → Change s (assert f x) (with_entries s (s.entries ++ record { spo = x; retracted = false } ∷ []), v)
  revived_entry : (f : Form) (x : Triple) (i : ℕ) (v : Values)
      → Change s (assert f x) (with_entries s (mark s.entries i false), v)
  retracted_entry : (f : Form) (x : Triple) (i : ℕ) (v : Values)
      → Change s (retract f x) (with_entries s (mark s.entries i true), v)
  -- an opening more, an opening read on
  new_opening : (x : Triple) (v : Values)
      → Change s (open' x) (with_listings s (s.listings ++ listing s.generation x s.entries ∷ []), v)
  read_opening : (j b : ℕ) → Change s (next j b) (turn s j (opening_of s j) (take_from s.entries (opening_of s j) b))
  -- the retracted entries forgotten
  reclaimed_all : Change s reclaim (reclaimed s, counted 0 0 (totals (reclaimed s)))

module _ (k : Capacities) (s : Model) where
  change-name : (w : List ℕ) (t : ℕ) → Change s (intern w) (intern_name k s (canonical w) t)
  unfolding intern_name
  change-name w zero =
      decide (ltb (length s.names) k.resources && leb (text_bytes (s.names ++ canonical w ∷ [])) k.text)
      (λ e. rw e (new_name w _)) (λ e. rw e (unchanged (intern w) (refused_with 3) refl))
  change-name w (suc i) = unchanged (intern w) (counted 0 (suc i) (totals s)) refl

  change-put : (f : Form) (x : Triple) → known (length s.names) x ≡ true → kinds_permitted (kind_in s) x ≡ true
      → (t : ℕ)
      → lookup x s.entries ≡ t → Change s (assert f x) (put k s x t)
  unfolding put
  change-put f x a b zero e =
      decide (ltb (length s.entries) k.statements)
      (λ d. rw d (new_entry f x _ a b e)) (λ d. rw d (unchanged (assert f x) (refused_with 3) refl))
  change-put f x a b (suc i) e =
      decide (entry s.entries i).retracted
      (λ d. rw d (revived_entry f x i _)) (λ d. rw d (unchanged (assert f x) (counted 2 (suc i) (totals s)) refl))

  change-entry : (f : Form) (x : Triple) (t : ℕ) → Change s (retract f x) (retract_entry s t)
  unfolding retract_entry
  change-entry f x zero = unchanged (retract f x) (numbered 0) refl
  change-entry f x (suc i) =
      decide (entry s.entries i).retracted
      (λ d. rw d (unchanged (retract f x) (numbered 0) refl)) (λ d. rw d (retracted_entry f x i _))

  pub change : (a : Call) → Change s a (call_model k s a)
  unfolding call_model intern_model assert_model retract_model open_model next_model reclaim_model
  change (intern w) =
      decide (well_formed w)
      (λ e. rw e (change-name w (lookup_name (canonical w) s.names)))
      (λ e. rw e (unchanged (intern w) (refused_with 2) refl))
  change (assert f x) =
      decide (known (length s.names) x)
      (λ a. rw a (decide (kinds_permitted (kind_in s) x)
      (λ b. rw b (change-put f x a b (lookup x s.entries) refl))
      (λ b. rw b (unchanged (assert f x) (refused_with 5) refl))))
      (λ a. rw a (unchanged (assert f x) (refused_with 4) refl))
  change (retract f x) =
      decide (known (length s.names) x)
      (λ a. rw a (change-entry f x (lookup x s.entries)))
      (λ a. rw a (unchanged (retract f x) (refused_with 4) refl))
  change (open' x) =
      decide (within (length s.names) x)
      (λ e. rw e (new_opening x _)) (λ e. rw e (unchanged (open' x) (refused_with 4) refl))
  change (next j b) =
      decide (eqb (opening_of s j).generation s.generation)
      (λ d. rw d (decide (eqb b 0)
      (λ e. rw e (unchanged (next j b) (refused_with 7) refl))
      (λ e. rw e (read_opening j b))))
      (λ d. rw d (unchanged (next j b) (refused_with 13) refl))
  change reclaim =
      decide (ltb s.generation max_reclaims)
      (λ e. rw e reclaimed_all) (λ e. rw e (unchanged reclaim (refused_with 14) refl))
