-- Names on states that agree: what the text and the index say is what the list says; intern gives the same values, and
-- the states after it agree. Assumes nothing.
use mathlib.Core.Path.{◌≡◌, refl, sym, ap, ap₂, ◌∙◌}
use mathlib.Core.Logic.{◌≢◌}
use mathlib.Core.Bool.{true, false, ◌&&◌}
use mathlib.Core.List.{List, [], ◌∷◌, ◌++◌}
use Prim.Native.Nat.{ℕ, zero, suc, ◌+◌, ◌*◌, ◌-◌, ◌≤◌, ◌<◌}
use native.Mathlib.Omega.{arith}
use lib.ListN.{length, get_or}
use lib.Seq.{length-sets, take-append-le, take_at}
use lib.Dec.{leb, ltb}
use borrow.Author.Tests.{leb-true, ltb-true, lt-ltb}
use Rattle.term.specs.Bytes.{eq_bytes}
use Rattle.term.specs.Scanner.{first_kind_of}
use Rattle.term.specs.Canonical.{canonical}
use Rattle.term.proofs.Booleans.{eq_bytes-is, eq_bytes-refl}
use Rattle.store.specs.declared.Counters.{Counters}
use Rattle.store.specs.Shared.{well_formed, name_of, text_bytes, lookup_name}
use Rattle.store.specs.Tables.{Tables, word, resource_words, resource_capacity, text_capacity, offset_at, kind_at}
use Rattle.store.specs.Values.{Values, counted, interned_values}
use Rattle.store.specs.Model.{Model, Capacities, totals, with_names, intern_name, intern_model}
use Rattle.store.specs.Dictionary.{rank, place_at, index_place_of}
use Rattle.store.specs.Names.{storable, compare_bytes, equal, is_less, Named, name_at}
use Rattle.store.specs.Dictionary.{room_for, one_name_more, with_name, intern_as, intern_of}
use Rattle.store.specs.History.{Store, store, interned_counters}
use Rattle.store.proofs.Tests.{decide, upto-one, and_l, and_r, and-of}
use Rattle.store.proofs.Falling.{below-cong}
use Rattle.store.proofs.Pins.{listed, not-missed}
use Rattle.store.proofs.Order.{compare-equal}
use Rattle.store.proofs.Words.{grow-length, grow-old, grow-new}
use Rattle.store.proofs.Links.{grow-linked}
use Rattle.store.proofs.Form.{form-clean, storable-formed, canonical-storable}
use Rattle.store.proofs.Text.{bytes-snoc, name-read, text-grows, name-old, name_new, length-snoc, snoc-all}
use Rattle.store.proofs.Index.{insert-length, at-rank-is, index-grows}
use Rattle.store.proofs.Represented.{Agreeing, Same, same_cond, fits-agrees, totals-agree, standing-grow}
use Rattle.std.specs.Prelude.{Ok, Result}
use Rattle.store.specs.declared.Interned.{Interned}
use Rattle.store.specs.declared.Lookup.TheVariants.{Absent, Number}
use Rattle.store.specs.declared.Refusal.{Refusal}

-- ---- a sound dictionary's names, read from the text

module _ (ns : List (List ℕ)) (c : Counters) (m : Tables) (N : Named ns c m) where
  pub name-at : (y : ℕ) → 0 < y → y ≤ c.resources → name_at m y ≡ name_of ns y
  unfolding name_at name_of
  name-at y h q =
      let g : y - 1 < length ns = omega (arith, N.size) in
      rw (N.offsets y h q) (name-read ns m.text c.text (y - 1) N.spelled g
      (form-clean (get_or ns (y - 1) []) (storable-formed (get_or ns (y - 1) []) (N.well (y - 1) g))))

  pub name-indexed : (i : ℕ) → i < c.resources → name_at m (word m.index i) ≡ name_of ns (word m.index i)
  name-indexed i h = name-at (word m.index i) (N.index.low i h) (N.index.high i h)

  pub rank-at : (w : List ℕ)
      → rank (name_at m) m.index c.resources w ≡ rank (name_of ns) m.index c.resources w
  unfolding rank
  rank-at w = ap length (below-cong _ _ c.resources
      (λ i h. ap (λ (z : List ℕ). is_less (compare_bytes z w)) (name-indexed i h)))

  module _ (w : List ℕ) where
    abbrev kk : ℕ
    kk = rank (name_of ns) m.index c.resources w

    name-is : (i : ℕ) → lookup_name w ns ≡ suc i → name_of ns (suc i) ≡ w
    unfolding name_of
    name-is i e = let q : suc i - 1 ≡ i = omega arith in rw q (listed w ns i e).1

    -- a listed name stands at its rank
    pub listed_at : (i : ℕ) → lookup_name w ns ≡ suc i → (kk < c.resources) × (word m.index kk ≡ suc i)
    listed_at i e =
        at-rank-is (name_of ns) m.index c.resources N.index w (suc i) (omega arith)
        (omega (arith, N.size, (listed w ns i e).0)) (name-is i e)

    -- a name that is not listed is no number's
    pub unlisted : lookup_name w ns ≡ 0 → (y : ℕ) → 0 < y → y ≤ c.resources → name_of ns y ≡ w → ⊥
    unfolding name_of
    unlisted e y h q d = omega (arith, not-missed w ns (y - 1) (omega (arith, N.size)) d, e)

    pub missed : lookup_name w ns ≡ 0 → kk < c.resources → compare_bytes (name_of ns (word m.index kk)) w ≢ equal
    missed e h d = unlisted e (word m.index kk) (N.index.low kk h) (N.index.high kk h) (compare-equal _ w d)

    hit-test : (i : ℕ) → lookup_name w ns ≡ suc i → ltb kk c.resources && eq_bytes (name_at m (word m.index kk)) w
        ≡ true
    hit-test i e =
        and-of _ _ (lt-ltb kk c.resources (listed_at i e).0)
        (rw ((listed_at i e).1, name-at (suc i) (omega arith) (omega (arith, N.size, (listed w ns i e).0)), name-is i e)
        (eq_bytes-refl w))

    miss-test : lookup_name w ns ≡ 0 → ltb kk c.resources && eq_bytes (name_at m (word m.index kk)) w ≡ false
    miss-test e =
        decide (ltb kk c.resources)
        (λ d. let h = ltb-true kk c.resources d in
        let lo = N.index.low kk h in
        let hi = N.index.high kk h in
        rw (d, name-indexed kk h)
        (decide (eq_bytes (name_of ns (word m.index kk)) w) (λ q. absurd (unlisted e _ lo hi (eq_bytes-is _ w q)))
        (λ q. q)))
        (λ d. rw d)

    -- where a name stands, by the list
    pub place-listed : (i : ℕ) → lookup_name w ns ≡ suc i → index_place_of c m w ≡ Ok (Number (record { 0 = suc i }) kk)
    unfolding index_place_of place_at
    place-listed i e = rw (rank-at w, hit-test i e, (listed_at i e).1)

    pub place-unlisted : lookup_name w ns ≡ 0 → index_place_of c m w ≡ Ok (Absent kk)
    unfolding index_place_of place_at
    place-unlisted e = rw (rank-at w, miss-test e)

-- ---- one name more

module _ (ns : List (List ℕ)) (c : Counters) (m : Tables) (N : Named ns c m) (w : List ℕ) (wf : storable w ≡ true)
    (e : lookup_name w ns ≡ 0) (gr : c.resources < resource_capacity m)
    (gb : c.text + length w + 1 ≤ text_capacity m) where
  abbrev kk' : ℕ
  kk' = rank (name_of ns) m.index c.resources w

  pub named-grows : Named (ns ++ w ∷ []) (one_name_more c w) (with_name c m w kk')
  unfolding offset_at kind_at
  named-grows =
      let room : resource_words * suc c.resources ≤ length m.resources = omega arith in
      let gw = grow-old c.resources m.resources c.text (first_kind_of w) in
      let gn = grow-new c.resources m.resources c.text (first_kind_of w) room in
      record {
        size = rw (length-snoc ns w) (ap suc N.size);
        bytes = rw (bytes-snoc ns w, N.bytes);
        spelled = text-grows ns m.text w c.text N.spelled (omega arith);
        well = snoc-all (λ n. storable n ≡ true) ns w N.well wf;
        offsets = upto-one _ c.resources
            (λ y h q. gw 6 y (omega arith) h q ∙ N.offsets y h q
            ∙ ap text_bytes (sym (take-append-le (y - 1) ns (w ∷ []) (omega (arith, N.size)))))
            (gn 6 (omega arith) ∙ N.bytes ∙ ap text_bytes (sym
            (take_at ns (w ∷ []) (suc c.resources - 1) (omega (arith, N.size)))));
        kinds = upto-one _ c.resources
            (λ y h q. gw 7 y (omega arith) h q ∙ N.kinds y h q
            ∙ ap first_kind_of (sym (name-old ns w y h (omega (arith, N.size)))))
            (gn 7 (omega arith)
            ∙ ap first_kind_of (sym (ap (λ (z : ℕ). name_of (ns ++ w ∷ []) (suc z)) N.size ∙ name_new ns w)));
        index = index-grows (name_of ns) (name_of (ns ++ w ∷ [])) m.index c.resources w N.index (omega arith)
            (λ y h q. name-old ns w y h (omega (arith, N.size))) (rw N.size (name_new ns w)) (missed ns c m N w e);
      }

-- ---- the call

abbrev pub interned : Store → Tables × Result Interned Refusal → Store × Values
interned c a = (store (interned_counters c.counters a.1) a.0 c.cursors, interned_values a.1)

module _ (k : Capacities) (c : Store) (s : Model) (R : Agreeing k c s) (w : List ℕ) (wf : storable w ≡ true) where
  abbrev n : Counters
  n = c.counters

  abbrev m : Tables
  m = c.tables

  abbrev at-rank : ℕ
  at-rank = rank (name_of s.names) m.index n.resources w

  grown-agrees : lookup_name w s.names ≡ 0 → n.resources < resource_capacity m
      → n.text + length w + 1 ≤ text_capacity m
      → Agreeing k (store (one_name_more n w) (with_name n m w at-rank) c.cursors) (with_names s (s.names ++ w ∷ []))
  grown-agrees e gr gb = record {
    named = named-grows s.names n m R.named w wf e gr gb;
    size = R.size;
    linked = grow-linked n.resources n.statements m.resources m.statements R.linked (omega arith)
        n.text (first_kind_of w);
    reads = R.reads;
    cursors = R.cursors;
    generation = R.generation;
    good = λ j. standing-grow (length s.names) (length (s.names ++ w ∷ [])) s.entries s.entries
        s.generation _
        (omega (arith, length-snoc s.names w)) (omega arith) (λ i q. refl) (R.good j);
    room-resources = rw (
      grow-length n.resources m.resources n.text (first_kind_of w),
      insert-length at-rank (n.resources - at-rank) (suc n.resources) m.index,
    ) R.room-resources;
    room-statements = R.room-statements;
    room-text = rw (length-sets m.text n.text (w ++ 0 ∷ [])) R.room-text;
    in-resources = rw R.room-resources gr;
    in-statements = R.in-statements;
    in-text = rw R.room-text gb;
    in-generation = R.in-generation;
  }

  new-values : Agreeing k (store (one_name_more n w) (with_name n m w at-rank) c.cursors)
      (with_names s (s.names ++ w ∷ []))
      → counted 0 (suc n.resources) (one_name_more n w)
      ≡ counted 0 (length (s.names ++ w ∷ [])) (totals (with_names s (s.names ++ w ∷ [])))
  new-values z = ap₂ (counted 0) z.named.size (totals-agree k _ _ z)

  room-agrees : room_for n m w ≡ ltb (length s.names) k.resources && leb (text_bytes (s.names ++ w ∷ [])) k.text
  unfolding room_for
  room-agrees =
      ap₂ ◌&&◌ (ap₂ ltb R.named.size (sym R.room-resources))
      (ap₂ leb (ap (λ (z : ℕ). z + length w + 1) R.named.bytes ∙ sym (bytes-snoc s.names w))
      (sym R.room-text))

  name-agrees : (i : ℕ) → lookup_name w s.names ≡ i
      → Same k (interned c (intern_as n m w (index_place_of n m w))) (intern_name k s w i)
  unfolding intern_as intern_name
  name-agrees (suc i) e =
      rw (place-listed s.names n m R.named w i e) (ap (counted 0 (suc i)) (totals-agree k c s R), R)
  name-agrees zero e =
      rw (place-unlisted s.names n m R.named w e)
      (same_cond k (interned c) (room_for n m w) _ _ _ _ _ room-agrees
      (λ d. let z = grown-agrees e (room-r d) (room-b d) in (new-values z, z))
      (λ d. (refl, R)))
    where
      room-r : room_for n m w ≡ true → n.resources < resource_capacity m
      room-r d = unfold room_for in (ltb-true n.resources (resource_capacity m) (and_l _ _ d))

      room-b : room_for n m w ≡ true → n.text + length w + 1 ≤ text_capacity m
      room-b d = unfold room_for in (leb-true (n.text + length w + 1) (text_capacity m)
          (and_r (ltb n.resources (resource_capacity m)) _ d))

pub intern-agrees : (k : Capacities) (c : Store) (s : Model) → Agreeing k c s → (w : List ℕ)
    → Same k (interned c (intern_of c.counters c.tables w)) (intern_model k s w)
unfolding intern_of intern_model
intern-agrees k c s R w =
    rw (fits-agrees k c s R)
    (same_cond k (interned c) (well_formed w) (well_formed w) _ _ _ _ refl
    (λ e. name-agrees k c s R (canonical w) (canonical-storable w e) (lookup_name (canonical w) s.names) refl)
    (λ e. (refl, R)))
