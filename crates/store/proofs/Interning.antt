-- What intern writes on any tables, by where its search ended: only the index, the new record and the text past B; a
-- refusal writes nothing (paper 01, the checklist's first point). Assumes nothing.
use mathlib.Core.Path.{◌≡◌, refl}
use mathlib.Core.List.{List, [], ◌∷◌, ◌++◌}
use Prim.Native.Nat.{ℕ, suc, ◌-◌}
use lib.Seq.{length-sets}
use Rattle.term.specs.Scanner.{first_kind_of}
use Rattle.term.specs.Canonical.{canonical}
use Rattle.store.specs.declared.Counters.{Counters}
use Rattle.store.specs.declared.Refusal.{Refusal}
use Rattle.store.specs.declared.Refusal.TheVariants.{Capacity, Malformed}
use Rattle.store.specs.Tables.{Tables, fits}
use Rattle.store.specs.Shared.{well_formed}
use Rattle.store.specs.Dictionary.{room_for, with_name, intern_as, intern_of, InternWrites, index_place_of}
use Rattle.store.proofs.Tests.{decide, cond-all}
use Rattle.store.proofs.Words.{grow-length, grow-before, grow-after, get_d_sets_before}
use Rattle.store.proofs.Index.{insert-length}
use Rattle.std.specs.Prelude.{Err, Ok, Result}
use Rattle.store.specs.declared.Interned.{Interned}
use Rattle.store.specs.declared.Lookup.{Lookup}
use Rattle.store.specs.declared.Lookup.TheVariants.{Absent, Number}

pub writes_nothing : (c : Counters) (m : Tables) → InternWrites c m m
writes_nothing c m = record {
  same-statements = refl;
  same-resources = refl;
  same_index = refl;
  same_text = refl;
  low-resources = λ i h. refl;
  high-resources = λ i h. refl;
  low-text = λ i h. refl;
}

-- one name more, at any position of the index
pub name-writes : (c : Counters) (m : Tables) (w : List ℕ) (k : ℕ) → InternWrites c m (with_name c m w k)
name-writes c m w k = record {
  same-statements = refl;
  same-resources = grow-length c.resources m.resources c.text (first_kind_of w);
  same_index = insert-length k (c.resources - k) (suc c.resources) m.index;
  same_text = length-sets m.text c.text (w ++ 0 ∷ []);
  low-resources = λ i h. grow-before c.resources m.resources c.text (first_kind_of w) i h;
  high-resources = λ i h. grow-after c.resources m.resources c.text (first_kind_of w) i h;
  low-text = λ i h. get_d_sets_before (w ++ 0 ∷ []) m.text c.text i 0 h;
}

pub intern-as-writes : (c : Counters) (m : Tables) (w : List ℕ) (x : Result Lookup Refusal)
    → InternWrites c m (intern_as c m w x).0
unfolding intern_as
intern-as-writes c m w (Ok (Number n k)) = writes_nothing c m
intern-as-writes c m w (Ok (Absent k)) =
    decide (room_for c m w) (λ e. rw e (name-writes c m w k)) (λ e. rw e (writes_nothing c m))
intern-as-writes c m w (Err e) = writes_nothing c m

pub intern-as-refused : (c : Counters) (m : Tables) (w : List ℕ) (x : Result Lookup Refusal) (q : Refusal)
    → (intern_as c m w x).1 ≡ Err q
    → (intern_as c m w x).0 ≡ m
unfolding intern_as
intern-as-refused c m w (Ok (Number n k)) q = λ e. refl
intern-as-refused c m w (Ok (Absent k)) q = decide (room_for c m w) (λ d. rw d (λ e. cc)) (λ d. rw d (λ e. refl))
intern-as-refused c m w (Err e) q = λ e. refl

-- what holds of a refusal that leaves the tables, and by where the name stands, holds of the call
pub intern-all : (c : Counters) (m : Tables) (w : List ℕ) (P : Tables × Result Interned Refusal → Type 0)
    → ((q : Refusal) → P (m, Err q)) → ((x : Result Lookup Refusal) → P (intern_as c m (canonical w) x))
    → P (intern_of c m w)
unfolding intern_of
intern-all c m w P refused by =
    cond-all P (fits c m) _ _
    (cond-all P (well_formed w) _ _ (by (index_place_of c m (canonical w))) (refused Malformed))
    (refused Capacity)

pub intern-refused : (c : Counters) (m : Tables) (w : List ℕ) (q : Refusal) → (intern_of c m w).1 ≡ Err q
    → (intern_of c m w).0 ≡ m
intern-refused c m w =
    intern-all c m w (λ (z : Tables × Result Interned Refusal). (q : Refusal) → z.1 ≡ Err q → z.0 ≡ m) (λ r q e. refl)
    (intern-as-refused c m (canonical w))
