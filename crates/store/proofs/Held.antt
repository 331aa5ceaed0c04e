-- The lists read off a store: of a store that agrees with plain lists they are these lists; of a sound store they agree
-- with it. Assumes nothing.
use mathlib.Core.Path.{◌≡◌, refl, sym, ap, ◌∙◌, subst}
use mathlib.Core.Bool.{true, false}
use mathlib.Core.List.{List, [], ◌∷◌, ◌++◌}
use Prim.Native.Nat.{ℕ, zero, suc, ◌-◌, ◌≤◌, ◌<◌}
use native.Mathlib.Omega.{arith}
use lib.ListN.{length, get_or, length-append, get_or-append}
use lib.Seq.{get_or-append_seam, ext_get_or}
use Rattle.store.specs.declared.Counters.{Counters}
use Rattle.store.specs.Shared.{known, max_reclaims, Entry, name_of}
use Rattle.store.specs.Tables.{Tables, resource_capacity, statement_capacity, text_capacity, triple_at}
use Rattle.store.specs.Values.{no_triple}
use Rattle.store.specs.Model.{Model, Capacities, entry}
use Rattle.store.specs.Walk.{entry_at}
use Rattle.store.specs.Names.{Named, name_at, names_up_to}
use Rattle.store.specs.Soundness.{Sound}
use Rattle.store.specs.History.{Store, store, capacities_of}
use Rattle.store.specs.Claims.{entries_up_to, statements_in, names_in, lists_of, Holds}
use Rattle.store.proofs.Tests.{upto, fits-parts}
use Rattle.store.proofs.Chains.{entry_known}
use Rattle.store.proofs.Represented.{Agreeing, totals-agree, standing-none}
use Rattle.store.proofs.StatementsAgree.{permitted-agrees}
use Rattle.store.proofs.NamesAgree.{name-at}
use Rattle.store.proofs.Kept.{Tidy, agreeing-sound}

-- ---- statements

pub entries-length : (stm : List ℕ) (n : ℕ) → length (entries_up_to stm n) ≡ n
unfolding entries_up_to
entries-length stm zero = refl
entries-length stm (suc n) = rw length-append (omega (arith, entries-length stm n))

pub entries_at : (stm : List ℕ) (n i : ℕ) → i < n → entry (entries_up_to stm n) i ≡ entry_at stm i
unfolding entries_up_to
entries_at stm zero i h = absurd (omega arith)
entries_at stm (suc n) i h =
    upto (λ i. entry (entries_up_to stm n ++ entry_at stm n ∷ []) i ≡ entry_at stm i) n
    (λ i q. let q' : i < length (entries_up_to stm n) = omega (arith, entries-length stm n) in
    rw get_or-append (entries_at stm n i q))
    (last (entries_up_to stm n) (entries-length stm n)) i h
  where
    last : (l : List Entry) → length l ≡ n → entry (l ++ entry_at stm n ∷ []) n ≡ entry_at stm n
    last l e = rw (← e, get_or-append_seam)

-- ---- names

names-length : (m : Tables) (n : ℕ) → length (names_up_to m n) ≡ n
unfolding names_up_to
names-length m zero = refl
names-length m (suc n) = rw length-append (omega (arith, names-length m n))

names_at : (m : Tables) (n i : ℕ) → i < n → get_or (names_up_to m n) i [] ≡ name_at m (suc i)
unfolding names_up_to
names_at m zero i h = absurd (omega arith)
names_at m (suc n) i h =
    upto (λ i. get_or (names_up_to m n ++ name_at m (suc n) ∷ []) i [] ≡ name_at m (suc i)) n
    (λ i q. let q' : i < length (names_up_to m n) = omega (arith, names-length m n) in
    rw get_or-append (names_at m n i q))
    (last (names_up_to m n) (names-length m n)) i h
  where
    last : (l : List (List ℕ)) → length l ≡ n → get_or (l ++ name_at m (suc n) ∷ []) n [] ≡ name_at m (suc n)
    last l e = rw (← e, get_or-append_seam)

-- a sound dictionary's names are those read off it
pub named-names : (ns : List (List ℕ)) (c : Counters) (m : Tables) → Named ns c m → names_up_to m c.resources ≡ ns
named-names ns c m N =
    ext_get_or [] (names_up_to m c.resources) ns (names-length m c.resources ∙ N.size)
    (λ i h. let q : i < c.resources = omega (arith, names-length m c.resources) in
    names_at m c.resources i q ∙ name-at ns c m N (suc i) (omega arith) q ∙ shift i)
  where
    shift : (i : ℕ) → name_of ns (suc i) ≡ get_or ns i []
    shift i = unfold name_of in (let e : suc i - 1 ≡ i = omega arith in rw e)

-- ---- a store that agrees with plain lists

pub agreeing-statements : (k : Capacities) (c : Store) (s : Model) → Agreeing k c s → statements_in c ≡ s.entries
agreeing-statements k c s R =
    ext_get_or (record { spo = no_triple; retracted = false }) (statements_in c) s.entries
    (entries-length c.tables.statements c.counters.statements ∙ R.size)
    (λ i h. let q : i < c.counters.statements = omega
    (arith, entries-length c.tables.statements c.counters.statements) in
    entries_at c.tables.statements c.counters.statements i q ∙ sym (R.reads i q))

pub agreeing-holds : (k : Capacities) (c : Store) (s : Model) → Agreeing k c s → Tidy s → Holds c s
agreeing-holds k c s R D = record {
  sound = agreeing-sound k c s R D;
  counters = totals-agree k c s R;
  names = named-names s.names c.counters c.tables R.named;
  statements = agreeing-statements k c s R;
  cursors = R.cursors;
}

-- ---- a sound store

module _ (c : Counters) (m : Tables) (S : Sound c m) where
  abbrev here : Store
  here = store c m []

  pub sound-agrees : Agreeing (capacities_of m) here (lists_of here)
  sound-agrees = record {
    named = subst (λ (ns : List (List ℕ)). Named ns c m) (sym (named-names S.names c m S.named)) S.named;
    size = sym (entries-length m.statements c.statements);
    linked = S.linked;
    reads = λ i h. entries_at m.statements c.statements i h;
    cursors = refl;
    generation = refl;
    good = λ j. standing-none (length (names_in here)) (statements_in here) c.generation;
    room-resources = refl;
    room-statements = refl;
    room-text = refl;
    in-resources = within.0;
    in-statements = within.1;
    in-text = within.2;
    in-generation = within.3;
  }
    where
      within : (c.resources ≤ resource_capacity m) × (c.statements ≤ statement_capacity m) × (c.text ≤ text_capacity m)
          × (c.generation ≤ max_reclaims)
      within = fits-parts c m S.capacity

  spo-at : (i : ℕ) → i < c.statements → (entry (statements_in here) i).spo ≡ triple_at m.statements i
  spo-at i h = unfold entry_at in (ap (λ (e : Entry). e.spo) (entries_at m.statements c.statements i h))

  inside : (i : ℕ) → i < c.statements → known (length (names_in here)) (triple_at m.statements i) ≡ true
  inside i h = rw (names-length m c.resources) (entry_known _ _ _ _ S.linked i h)

  pub sound-tidy : Tidy (lists_of here)
  sound-tidy =
      let n = entries-length m.statements c.statements in
      record {
        inside = λ i h. let q : i < c.statements = omega arith in rw (spo-at i q) (inside i q);
        kinds = λ i h.
            let q : i < c.statements = omega arith in
            rw (spo-at i q)
            (sym (permitted-agrees (capacities_of m) here (lists_of here) sound-agrees (triple_at m.statements i)
            (entry_known _ _ _ _ S.linked i q))
            ∙ S.kinds i q);
        once = λ i j h g.
            let q : j < c.statements = omega arith in
            let q' : i < c.statements = omega arith in
            rw (spo-at i q', spo-at j q) (S.once i j h q);
      }
