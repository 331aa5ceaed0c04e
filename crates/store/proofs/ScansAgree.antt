-- Open and next of a pattern scan on states that agree: the same values, and the states after them agree. Assumes
-- nothing.
use mathlib.Core.Path.{◌≡◌, refl, sym, ap, ◌∙◌}
use mathlib.Core.Bool.{true}
use mathlib.Core.List.{List, [], ◌∷◌, ◌++◌, map}
use mathlib.Core.Option.{some}
use Prim.Native.Nat.{ℕ, zero, suc, ◌≤◌}
use native.Mathlib.Omega.{arith}
use lib.ListN.{length, get_or, set, get_or-map}
use lib.Dec.{eqb}
use borrow.Author.Tests.{eqb-true, le-leb}
use Rattle.store.specs.declared.Counters.{Counters}
use Rattle.store.specs.declared.Position.{Position}
use Rattle.store.specs.declared.Triple.{Triple}
use Rattle.store.specs.declared.ScanCursor.{ScanCursor}
use Rattle.store.specs.Shared.{at, within, below, head0, matches}
use Rattle.store.specs.Tables.{Tables}
use Rattle.store.specs.Values.{Values, no_cursor, placed, opened_values, scanned_values}
use Rattle.store.specs.Model.{Listing, Model, Capacities, Taken, found as took, ended as emptied}
use Rattle.store.specs.Model.{spent as stopped, entry, holders, pick_model, listing, cursor_of, with_listings}
use Rattle.store.specs.Model.{open_model, no_listing, leaving, rest_of, taken_values, take_from, turn, next_model}
use Rattle.store.specs.Walk.{entry_at, pick_chain, start_of}
use Rattle.store.specs.Scan.{cursor_in, open_of, record_ok, cursor_ok, walk_from, scanned_as, next_of}
use Rattle.store.specs.History.{Store, store, opened_cursors, moved_cursors}
use Rattle.store.proofs.Tests.{and-of, within-high, within_of}
use Rattle.store.proofs.Falling.{head-le, head-passes}
use Rattle.store.proofs.Walks.{as_step, Part, rest-chain, take-cong}
use Rattle.store.proofs.Picking.{pick-ok}
use Rattle.store.proofs.Chains.{on_words, pick_chain-bound, chain-holds-resource, chain-start, walk-linked}
use Rattle.store.proofs.Chains.{pickable-linked}
use Rattle.store.proofs.Represented.{on_list, Good, Agreeing, Same, same_cond, fits-agrees, chain-agrees}
use Rattle.store.proofs.Represented.{holders-agree, pick-agrees, Standing, standing-none}
use Rattle.std.specs.Prelude.{Result}
use Rattle.store.specs.declared.Refusal.{Refusal}
use Rattle.store.specs.declared.Scanned.{Scanned}

-- ---- lists of openings

pub all_snoc : {A : Type 0} (P : A → Type 0) (d : A) (l : List A) (g : A) → P d → ((j : ℕ) → P (get_or l j d)) → P g
    → (j : ℕ) → P (get_or (l ++ g ∷ []) j d)
all_snoc P d [] g n h q zero = q
all_snoc P d [] g n h q (suc j) = n
all_snoc P d (x ∷ l) g n h q zero = h 0
all_snoc P d (x ∷ l) g n h q (suc j) = all_snoc P d l g n (λ i. h (suc i)) q j

pub all_set : {A : Type 0} (P : A → Type 0) (d : A) (l : List A) (i : ℕ) (g : A) → ((j : ℕ) → P (get_or l j d)) → P g
    → (j : ℕ) → P (get_or (set l i g) j d)
all_set P d [] i g h q j = h j
all_set P d (x ∷ l) zero g h q zero = q
all_set P d (x ∷ l) zero g h q (suc j) = h (suc j)
all_set P d (x ∷ l) (suc i) g h q zero = h 0
all_set P d (x ∷ l) (suc i) g h q (suc j) = all_set P d l i g (λ n. h (suc n)) q j

map_snoc : {A B : Type 0} (f : A → B) (l : List A) (g : A) → map f (l ++ g ∷ []) ≡ map f l ++ f g ∷ []
map_snoc f [] g = refl
map_snoc f (x ∷ l) g = rw (map_snoc f l g)

map-set : {A B : Type 0} (f : A → B) (l : List A) (i : ℕ) (g : A) → map f (set l i g) ≡ set (map f l) i (f g)
map-set f [] i g = refl
map-set f (x ∷ l) zero g = refl
map-set f (x ∷ l) (suc i) g = rw (map-set f l i g)

-- ---- the state and the values after a reply

abbrev pub opened : Store → Result ScanCursor Refusal → Store × Values
opened c a = (store c.counters c.tables (opened_cursors c.cursors a), opened_values a)

abbrev pub scanned : Store → ℕ → Result Scanned Refusal → Store × Values
scanned c j a = (store c.counters c.tables (moved_cursors c.cursors j a), scanned_values a)

-- what a walk answers, as taking positions off the rest tells it
pub taken-values : (g : Listing) (z : Taken) → scanned_values (scanned_as (cursor_of g) (some (as_step z)))
    ≡ taken_values g z
taken-values g (took n v r) = refl
taken-values g (emptied v) = refl
taken-values g (stopped v r) = refl

pub taken-cursors : (qs : List ScanCursor) (j : ℕ) (g : Listing) (z : Taken)
    → moved_cursors qs j (scanned_as (cursor_of g) (some (as_step z))) ≡ set qs j (cursor_of (leaving g (rest_of z)))
taken-cursors qs j g (took n v r) = refl
taken-cursors qs j g (emptied v) = refl
taken-cursors qs j g (stopped v r) = refl

module _ (k : Capacities) (c : Store) (s : Model) (R : Agreeing k c s) where
  abbrev n : Counters
  n = c.counters

  abbrev m : Tables
  m = c.tables

  cursors-agree : (qs : List ScanCursor) (gs : List Listing) → qs ≡ map cursor_of gs
      → ((j : ℕ) → Standing (length s.names) s.entries s.generation (get_or gs j no_listing))
      → Agreeing k (store n m qs) (with_listings s gs)
  cursors-agree qs gs e h = record {
    named = R.named;
    size = R.size;
    linked = R.linked;
    reads = R.reads;
    cursors = e;
    generation = R.generation;
    good = h;
    room-resources = R.room-resources;
    room-statements = R.room-statements;
    room-text = R.room-text;
    in-resources = R.in-resources;
    in-statements = R.in-statements;
    in-text = R.in-text;
    in-generation = R.in-generation;
  }

  -- ---- open

  abbrev first : Triple → ScanCursor
  first x = cursor_in n.generation x (pick_chain m.resources x)
      (start_of n.statements m.resources (pick_chain m.resources x) x)

  first-agrees : (x : Triple) → ((p : Position) → at p x ≤ n.resources)
      → first x ≡ cursor_of (listing s.generation x s.entries)
  unfolding listing
  first-agrees x h =
      rw (
        chain-start _ _ _ _ R.linked (pick_chain m.resources x) x (pick_chain-bound m.resources x) h,
        pick-agrees k c s R x h,
        holders-agree k c s R (pick_model x s.entries) x,
        R.generation,
      )

  listing-good : (x : Triple) → ((p : Position) → at p x ≤ n.resources)
      → Good (length s.names) s.entries (listing s.generation x s.entries)
  unfolding listing holders pick_model
  listing-good x h =
      record {
        small = λ p. rw (← R.named.size) (h p);
        picked = pick-ok x _;
        top = length s.entries;
        top-le = omega arith;
        rest-is = refl;
      }

  listing-stands : (x : Triple) → ((p : Position) → at p x ≤ n.resources)
      → Standing (length s.names) s.entries s.generation (listing s.generation x s.entries)
  listing-stands x h = (unfold listing in (omega arith), λ e. listing-good x h)

  pub open-agrees : (x : Triple) → Same k (opened c (open_of n m x)) (open_model s x)
  unfolding open_of open_model
  open-agrees x =
      rw (fits-agrees k c s R)
      (same_cond k (opened c) (within n.resources x) (within (length s.names) x) _ _ _ _
      (ap (λ (z : ℕ). within z x) R.named.size)
      (λ e. let h = within-high n.resources x e in
      rw (pickable-linked _ _ _ _ R.linked x h) (
        ap placed (first-agrees x h),
        cursors-agree _ _ (rw (first-agrees x h, R.cursors)
            (sym (map_snoc cursor_of s.listings (listing s.generation x s.entries))))
            (all_snoc (Standing (length s.names) s.entries s.generation) no_listing s.listings _
            (standing-none (length s.names) s.entries s.generation) R.good (listing-stands x h)),
      ))
      (λ e. (refl, R)))

  -- ---- next

  cursor-at : (j : ℕ) → get_or c.cursors j no_cursor ≡ cursor_of (get_or s.listings j no_listing)
  cursor-at j = rw R.cursors (get_or-map cursor_of s.listings j no_listing)

  module _ (g : Listing) (G : Good (length s.names) s.entries g) where
    top-le : G.top ≤ n.statements
    top-le = omega (arith, G.top-le, R.size)

    rest-agrees : g.rest ≡ below (on_words m.statements g.chain g.pattern) G.top
    rest-agrees = G.rest-is ∙ chain-agrees k c s R g.chain g.pattern G.top top-le

    record-ok : (i : ℕ) → head0 g.rest ≡ i → record_ok m.statements g.chain g.pattern i ≡ true
    unfolding record_ok
    record-ok zero e = refl
    record-ok (suc i) e =
        chain-holds-resource m.statements g.chain g.pattern i
        (head-passes (on_words m.statements g.chain g.pattern) G.top i (rw rest-agrees at e))

    -- refusal 6 never comes
    cursor-ok : cursor_ok n m (cursor_of g) ≡ true
    unfolding cursor_ok
    cursor-ok =
        and-of _ _ (within_of n.resources g.pattern (λ p. rw R.named.size (G.small p)))
        (and-of _ _ G.picked
        (and-of _ _
        (le-leb (head0 g.rest) n.statements
        (rw rest-agrees (omega (arith, head-le (on_words m.statements g.chain g.pattern) G.top, top-le))))
        (record-ok (head0 g.rest) refl)))

    walk-agrees : (b : ℕ) → walk_from n m (cursor_of g) b ≡ some (as_step (take_from s.entries g b))
    unfolding walk_from take_from
    walk-agrees b =
        rw rest-agrees
        (walk-linked _ _ _ _ R.linked g.chain g.pattern
        (λ i. matches g.pattern (entry_at m.statements i)) G.top b top-le
        ∙ ap (λ (z : Taken). some (as_step z))
        (take-cong _ _ _ b G.top (λ i q. ap (matches g.pattern) (sym (R.reads i (omega (arith, top-le)))))))

    left-good : (b : ℕ) → Good (length s.names) s.entries (leaving g (rest_of (take_from s.entries g b)))
    unfolding take_from Part
    left-good b =
        let h = rest-chain (on_list s.entries g.chain g.pattern)
        (λ i. matches g.pattern (entry s.entries i)) b G.top in
        record {
          small = G.small;
          picked = G.picked;
          top = h.0;
          top-le = omega (arith, h.1, G.top-le);
          rest-is = rw G.rest-is h.2;
        }

    turn-agrees : g.generation ≤ s.generation → (j b : ℕ)
        → Same k (scanned c j (scanned_as (cursor_of g) (walk_from n m (cursor_of g) b))) (turn s j g
        (take_from s.entries g b))
    unfolding turn
    turn-agrees le j b =
        rw (walk-agrees b) (
          taken-values g (take_from s.entries g b),
          cursors-agree _ _ (taken-cursors c.cursors j g (take_from s.entries g b)
              ∙ ap (λ (z : List ScanCursor). set z j (cursor_of (leaving g (rest_of (take_from s.entries g b)))))
              R.cursors
              ∙ sym (map-set cursor_of s.listings j (leaving g (rest_of (take_from s.entries g b)))))
              (all_set (Standing (length s.names) s.entries s.generation) no_listing s.listings j _ R.good
              (le, λ e. left-good b)),
        )

  pub next-agrees : (j b : ℕ) → Same k (scanned c j (next_of n m (get_or c.cursors j no_cursor) b)) (next_model s j b)
  unfolding next_of next_model
  next-agrees j b =
      let g = get_or s.listings j no_listing in
      rw (fits-agrees k c s R, cursor-at j)
      (same_cond k (scanned c j) (eqb g.generation n.generation) (eqb g.generation s.generation) _ _ _ _
      (ap (eqb g.generation) R.generation)
      (λ d. let G = (R.good j).1 (eqb-true g.generation n.generation d ∙ R.generation) in
      rw (cursor-ok g G)
      (same_cond k (scanned c j) (eqb b 0) (eqb b 0) _ _ _ _ refl (λ e. (refl, R))
      (λ e. turn-agrees g G (R.good j).0 j b)))
      (λ d. (refl, R)))
