-- The check decides soundness (`specs/Claims.antt`): each of its tests says yes exactly where its part of the
-- definition holds, on every input; so fresh counters pass, and every store that a list of calls leaves. Assumes
-- nothing.
use mathlib.Core.Path.{◌≡◌, refl, sym, ap}
use mathlib.Core.Bool.{true, ◌&&◌, false≢true}
use mathlib.Core.List.{List}
use mathlib.Core.Option.{Option, none, some}
use Prim.Native.Nat.{ℕ, suc, ◌+◌, ◌-◌, ◌*◌, ◌≤◌, ◌<◌}
use native.Mathlib.Omega.{arith}
use lib.ListN.{length, take, length-take}
use lib.Dec.{eqb, leb}
use borrow.Author.Tests.{eqb-true, eq-eqb, leb-true, le-leb}
use Rattle.store.specs.declared.Counters.{Counters}
use Rattle.store.specs.declared.Position.{Position}
use Rattle.store.specs.Shared.{all3, known, kinds_permitted, fresh_counters, name_of}
use Rattle.store.specs.Lists.{all_below}
use Rattle.store.specs.Tables.{Tables, fits, resource_words, statement_words, next_at, flag_at, triple_at, first_at, count_at}
use Rattle.store.specs.Tables.{kind_at, live_at}
use Rattle.store.specs.Names.{Named, Indexed}
use Rattle.store.specs.Soundness.{holding, is_live, Linked, Sound}
use Rattle.store.specs.History.{fresh_store, store_after}
use Rattle.store.proofs.Theorems.{fresh-is-sound, histories-stay-sound}
use Rattle.store.proofs.Tests.{and_l, and_r, and-of, all3-at, all3-of, known-low, known-high, known_of}
use Rattle.store.proofs.Words.{triple-at}
use Rattle.table.proofs.Capacity.{fits-room}
use Rattle.integrity.specs.Tests.{sum_to, chain_length, chain_live, is_count}
use Rattle.integrity.specs.Names.{names_ok}
use Rattle.integrity.specs.Index.{index_ok}
use Rattle.integrity.specs.Records.{record_ok, chain_counts, chain_sound, chains_sound, stands_once, records_ok}
use Rattle.integrity.specs.Check.{check_of}
use Rattle.integrity.specs.Claims.{CheckDecides, FreshPasses, HistoriesPass}
use Rattle.integrity.proofs.Ranges.{all-at, all_of}
use Rattle.integrity.proofs.Linking.{Cheap, Ranged, cheap-linked, linked-cheap, linked-ranged}
use Rattle.integrity.proofs.Text.{Read, names_from, names-read, read_names, name-at}
use Rattle.integrity.proofs.Rising.{Standing, index-indexed, indexed-ok}
use Rattle.integrity.proofs.Once.{all_once, once-all}

-- ---- names

module _ (c : Counters) (m : Tables) (ns : List (List ℕ)) where
  abbrev used : List ℕ
  used = take c.text m.text

  read-standing : Read m.resources used c.resources 1 0 ns → Standing c.resources m.resources used (name_of ns)
  unfolding name_of
  read-standing R y a b =
      let e : 1 + (y - 1) ≡ y = omega arith in
      let o = rw e at (R.offsets (y - 1) (omega arith)) in
      rw o (name-at m.resources used c.resources 1 0 ns R (y - 1) (omega arith))

  read_named : c.text ≤ length m.text → Read m.resources used c.resources 1 0 ns
      → Indexed (name_of ns) m.index c.resources → Named ns c m
  unfolding name_of
  read_named fit R X =
      let l : length used ≡ c.text = simp length-take (omega arith) in
      record {
        size = sym R.size;
        bytes = omega (arith, R.bytes, l);
        spelled = R.spelled;
        well = λ i h. R.well i (omega (arith, R.size));
        offsets = λ y a b.
            let e : 1 + (y - 1) ≡ y = omega arith in
            let z = R.offsets (y - 1) (omega arith) in
            omega (arith, rw e at z);
        kinds = λ y a b. let e : 1 + (y - 1) ≡ y = omega arith in rw e at (R.kinds (y - 1) (omega arith));
        index = X;
      }

  named-read : c.text ≤ length m.text → Named ns c m → Read m.resources used c.resources 1 0 ns
  unfolding name_of
  named-read fit N =
      let l : length used ≡ c.text = simp length-take (omega arith) in
      record {
        size = sym N.size;
        bytes = omega (arith, N.bytes, l);
        spelled = N.spelled;
        well = λ i h. N.well i (omega (arith, N.size));
        offsets = λ i h.
            let e : 1 + i - 1 ≡ i = omega arith in
            let z = N.offsets (1 + i) (omega arith) (omega arith) in
            omega (arith, rw e at z);
        kinds = λ i h. let e : 1 + i - 1 ≡ i = omega arith in rw e at (N.kinds (1 + i) (omega arith) (omega arith));
      }

-- ---- records

module _ (r t : ℕ) (res stm : List ℕ) where
  abbrev pub Each : Type 0
  Each = all_below (record_ok r res stm) t ≡ true

  pub record-known : Each → (i : ℕ) → i < t → known r (triple_at stm i) ≡ true
  unfolding record_ok
  record-known e i h = and_l (known r (triple_at stm i)) _ (all-at _ t e i h)

  record-rest : Each → (i : ℕ) → i < t → kinds_permitted (kind_at res) (triple_at stm i) && leb (flag_at stm i) 1 ≡ true
  unfolding record_ok
  record-rest e i h =
      and_r (known r (triple_at stm i)) (kinds_permitted (kind_at res) (triple_at stm i) && leb (flag_at stm i) 1) (all-at _ t e i h)

  record-permitted : Each → (i : ℕ) → i < t → kinds_permitted (kind_at res) (triple_at stm i) ≡ true
  record-permitted e i h = and_l (kinds_permitted (kind_at res) (triple_at stm i)) _ (record-rest e i h)

  records-ranged : resource_words * r ≤ length res → statement_words * t ≤ length stm → Each → Ranged r t res stm
  records-ranged a b e = record {
    fit-resources = a;
    fit-statements = b;
    low = λ p i h. rw triple-at at (known-low r (triple_at stm i) (record-known e i h) p);
    high = λ p i h. rw triple-at at (known-high r (triple_at stm i) (record-known e i h) p);
    flag = λ i h. leb-true (flag_at stm i) 1 (and_r (kinds_permitted (kind_at res) (triple_at stm i)) _ (record-rest e i h));
  }

  ranged-records : Ranged r t res stm → ((i : ℕ) → i < t → kinds_permitted (kind_at res) (triple_at stm i) ≡ true) → Each
  unfolding record_ok
  ranged-records G k =
      all_of _ t (λ i h. and-of _ _
      (known_of r (triple_at stm i) (λ p. rw triple-at (G.low p i h)) (λ p. rw triple-at (G.high p i h)))
      (and-of _ _ (k i h) (le-leb (flag_at stm i) 1 (G.flag i h))))

  is-count : (o : Option ℕ) (n : ℕ) → is_count o n ≡ true → o ≡ some n
  is-count none n e = absurd (false≢true e)
  is-count (some m) n e = ap some (eqb-true m n e)

  chain-each : (p : Position) → chains_sound r t res stm p ≡ true → (y : ℕ) → 0 < y → y ≤ r → chain_sound t res stm p y ≡ true
  unfolding chains_sound
  chain-each p e y lo hi =
      let q : suc (y - 1) ≡ y = omega arith in
      let a = and_l (all_below (λ i. chain_sound t res stm p (suc i)) r) _ e in
      rw q at (all-at (λ i. chain_sound t res stm p (suc i)) r a (y - 1) (omega arith))

  chain-start : (p : Position) (y : ℕ) → chain_sound t res stm p y ≡ true → first_at res p y ≤ t
  unfolding chain_sound
  chain-start p y e = leb-true (first_at res p y) t (and_l _ _ e)

  chain-rest : (p : Position) (y : ℕ) → chain_sound t res stm p y ≡ true
      → is_count (chain_length (next_at stm p) (holding stm p y) t (first_at res p y)) (count_at res p y)
      && eqb (chain_live (next_at stm p) (is_live stm) t (first_at res p y)) (live_at res p y)
      ≡ true
  unfolding chain_sound chain_counts
  chain-rest p y e = and_r (leb (first_at res p y) t) _ e

  chain_length_lem : (p : Position) (y : ℕ) → chain_sound t res stm p y ≡ true
      → chain_length (next_at stm p) (holding stm p y) t (first_at res p y) ≡ some (count_at res p y)
  chain_length_lem p y e =
      is-count (chain_length (next_at stm p) (holding stm p y) t (first_at res p y)) (count_at res p y)
      (and_l _ _ (chain-rest p y e))

  chain-lives : (p : Position) (y : ℕ) → chain_sound t res stm p y ≡ true
      → chain_live (next_at stm p) (is_live stm) t (first_at res p y) ≡ live_at res p y
  chain-lives p y e =
      eqb-true (chain_live (next_at stm p) (is_live stm) t (first_at res p y)) (live_at res p y)
      (and_r (is_count (chain_length (next_at stm p) (holding stm p y) t (first_at res p y)) (count_at res p y)) _
      (chain-rest p y e))

  chains-cheap : (p : Position) → chains_sound r t res stm p ≡ true → Cheap r t res stm p
  unfolding chains_sound
  chains-cheap p e = record {
    start = λ y a b. chain-start p y (chain-each p e y a b);
    chain = λ y a b. chain_length_lem p y (chain-each p e y a b);
    lives = λ y a b. chain-lives p y (chain-each p e y a b);
    total = eqb-true (sum_to (count_at res p) r) t (and_r (all_below (λ i. chain_sound t res stm p (suc i)) r) _ e);
  }

  cheap-chains : (p : Position) → Cheap r t res stm p → chains_sound r t res stm p ≡ true
  unfolding chains_sound chain_sound chain_counts
  cheap-chains p C =
      and-of _ _
      (all_of _ r (λ i h. and-of _ _
      (le-leb (first_at res p (suc i)) t (C.start (suc i) (omega arith) (omega arith)))
      (and-of (is_count (chain_length (next_at stm p) (holding stm p (suc i)) t (first_at res p (suc i))) (count_at res p (suc i))) _
      (rw (C.chain (suc i) (omega arith) (omega arith)) (eq-eqb (count_at res p (suc i)) (count_at res p (suc i)) refl))
      (eq-eqb _ (live_at res p (suc i)) (C.lives (suc i) (omega arith) (omega arith))))))
      (eq-eqb (sum_to (count_at res p) r) t C.total)

  -- ---- the three tests of the records together

  abbrev Once : Type 0
  Once = (i j : ℕ) → i < j → j < t → triple_at stm i ≡ triple_at stm j → ⊥

  abbrev Permitted : Type 0
  Permitted = (i : ℕ) → i < t → kinds_permitted (kind_at res) (triple_at stm i) ≡ true

  records-sound : resource_words * r ≤ length res → statement_words * t ≤ length stm → records_ok r t res stm ≡ true
      → Linked r t res stm × Permitted × Once
  unfolding records_ok
  records-sound a b e =
      let e1 = and_l (all_below (record_ok r res stm) t) _ e in
      let f = and_r (all_below (record_ok r res stm) t) (all3 (chains_sound r t res stm) && all_below (stands_once res stm) t) e in
      let e2 = and_l (all3 (chains_sound r t res stm)) _ f in
      let e3 = and_r (all3 (chains_sound r t res stm)) _ f in
      let L = cheap-linked r t res stm (records-ranged a b e1) (λ p. chains-cheap p (all3-at (chains_sound r t res stm) e2 p)) in
      (L, record-permitted e1, all_once r t res stm L e3)

  sound-records : Linked r t res stm → Permitted → Once → records_ok r t res stm ≡ true
  unfolding records_ok
  sound-records L k o =
      and-of _ _ (ranged-records (linked-ranged r t res stm L) k)
      (and-of _ _ (all3-of (chains_sound r t res stm) (λ p. cheap-chains p (linked-cheap r t res stm L p))) (once-all r t res stm L o))

-- ---- yes exactly then

module _ (c : Counters) (m : Tables) where
  check_sound : check_of c m ≡ true → Sound c m
  unfolding check_of
  check_sound e =
      let u = take c.text m.text in
      let e0 = and_l (fits c m) _ e in
      let f = and_r (fits c m) _ e in
      let e1 = and_l (names_ok m.resources u c.resources 1 0) _ f in
      let g = and_r (names_ok m.resources u c.resources 1 0) _ f in
      let e2 = and_l (index_ok c.resources m.resources m.index u) _ g in
      let e3 = and_r (index_ok c.resources m.resources m.index u) _ g in
      let room = fits-room c m e0 in
      let ns = names_from m.resources u c.resources 0 in
      let R = names-read m.resources u c.resources 1 0 e1 in
      let X = index-indexed c.resources m.resources m.index u (name_of ns) (read-standing c m ns R) room.in-index e2 in
      let S = records-sound c.resources c.statements m.resources m.statements
      room.in-resources room.in-statements e3 in
      record {
        capacity = e0;
        linked = S.0;
        kinds = S.1;
        once = S.2;
        names = ns;
        named = read_named c m ns room.in-text R X;
      }

  sound-check : Sound c m → check_of c m ≡ true
  unfolding check_of
  sound-check S =
      let u = take c.text m.text in
      let ns = S.names in
      let room = fits-room c m S.capacity in
      let R = named-read c m ns room.in-text S.named in
      and-of _ _ S.capacity
      (and-of _ _ (read_names m.resources u c.resources 1 0 ns R)
      (and-of _ _ (indexed-ok c.resources m.resources m.index u (name_of ns) (read-standing c m ns R) S.named.index)
      (sound-records c.resources c.statements m.resources m.statements S.linked S.kinds S.once)))

pub check-decides : CheckDecides
check-decides c m = (check_sound c m, sound-check c m)

-- ---- the stores of histories

pub fresh-passes : FreshPasses
fresh-passes m = sound-check fresh_counters m (fresh-is-sound m)

pub histories-pass : HistoriesPass
histories-pass m calls =
    let s = store_after (fresh_store m) calls in
    sound-check s.counters s.tables (histories-stay-sound m calls).sound
