-- Names by their beginning (02, note 4). On a sound store find tells where a name stands in the index or would stand, and
-- enter puts it there; a listing has exactly the names that begin so, in byte order. On any tables both are refused in
-- the paper's order and stay within R. Assumes nothing.
use mathlib.Core.Path.{◌≡◌, refl, sym, ap, ap₂, ◌∙◌, subst}
use mathlib.Core.Logic.{◌≢◌, ⊎_elim, inl, inr}
use mathlib.Core.Bool.{Bool, true, false, false≢true}
use mathlib.Core.List.{List, [], ◌∷◌, ◌++◌, Memᴰ}
use Prim.Native.Nat.{ℕ, zero, suc, ◌+◌, ◌-◌, ◌≤◌, ◌<◌}
use native.Mathlib.Omega.{arith}
use lib.ListN.{length, take, drop, length-append, length-take, length-drop, get_or-append, get_or-eq_default}
use lib.Seq.{length-take-le, take_all, get_or-take, get_or-drop, get_or-append-add}
use lib.Dec.{eqb, leb}
use borrow.Author.Tests.{eqb-true, eq-eqb, ltb-true, leb-true, leb-false, le-leb, lt-leb}
use Rattle.term.specs.Canonical.{canonical}
use Rattle.store.specs.declared.Counters.{Counters}
use Rattle.store.specs.declared.Refusal.{Refusal}
use Rattle.store.specs.declared.Refusal.TheVariants.{Capacity, Malformed, Damaged}
use Rattle.store.specs.declared.Lookup.TheVariants.{Number, Absent}
use Rattle.store.specs.Shared.{well_formed, name_of, lookup_name}
use Rattle.store.specs.Lists.{keep}
use Rattle.store.specs.Tables.{Tables, word, fits, resource_capacity}
use Rattle.store.specs.Values.{lookup_values, lookup_position, interned_values, prefixed_values}
use Rattle.store.specs.Names.{Named, Indexed, less, is_less, compare_bytes, name_at}
use Rattle.store.specs.Dictionary.{rank, index_place_of, found_at, find_of, room_for, intern_as, intern_of}
use Rattle.store.specs.Prefix.{begins, prefix_list, filled, told, listed, prefix_of, PrefixAnswer}
use Rattle.store.specs.Soundness.{Sound}
use Rattle.store.specs.NameClaims.{StandsAt, FindPlaces, AllWithPrefix, PrefixMeans}
use Rattle.store.specs.RefusalClaims.{FindRefuses, PrefixRefuses}
use Rattle.store.proofs.Tests.{decide, and_l, and_r, and-of}
use Rattle.store.proofs.Pins.{mem-at, at_mem}
use Rattle.store.proofs.Index.{index-complete, rank-le, rank-before, rank-not-before, insert-here}
use Rattle.store.proofs.NamesAgree.{name-indexed, rank-at, listed_at, place-listed, place-unlisted}
use Rattle.store.proofs.RoundTrips.{find-listed, find-unlisted, found-values}
use Rattle.std.specs.Prelude.{Err, Ok, Result}
use Rattle.store.specs.declared.Interned.{Interned}
use Rattle.store.specs.declared.Lookup.{Lookup}

-- ---- where a name stands

module _ (c : Counters) (m : Tables) (S : Sound c m) (w : List ℕ) (f : well_formed w ≡ true) where
  abbrev ns : List (List ℕ)
  ns = S.names

  abbrev N : Named ns c m
  N = S.named

  abbrev n : List ℕ
  n = canonical w

  -- its rank among the names of the list
  abbrev kk : ℕ
  kk = rank (name_of ns) m.index c.resources n

  position-is : lookup_position (find_of c m w) ≡ kk
  position-is = go (lookup_name n ns) refl
    where
      go : (i : ℕ) → lookup_name n ns ≡ i → lookup_position (find_of c m w) ≡ kk
      go zero e = ap lookup_position (find-unlisted c m S w f e) ∙ rank-at ns c m N n
      go (suc i) e = ap lookup_position (find-listed c m S w i f e) ∙ rank-at ns c m N n

  before-it : (i : ℕ) → i < c.resources → is_less (compare_bytes (name_at m (word m.index i)) n)
      ≡ is_less (compare_bytes (name_of ns (word m.index i)) n)
  before-it i h = ap (λ (z : List ℕ). is_less (compare_bytes z n)) (name-indexed ns c m N i h)

  -- what holds of the position after enter
  abbrev EnteredAt : Tables × Result Interned Refusal → Type 0
  EnteredAt z = (interned_values z.1).refusal ≡ 0 → word z.0.index kk ≡ (interned_values z.1).number

  intern-is : intern_of c m w ≡ intern_as c m n (index_place_of c m n)
  unfolding intern_of
  intern-is = rw (S.capacity, f)

  entered-as : (i : ℕ) → lookup_name n ns ≡ i → EnteredAt (intern_as c m n (index_place_of c m n))
  unfolding intern_as
  entered-as (suc i) e = rw (place-listed ns c m N n i e) (λ q. (listed_at ns c m N n i e).1)
  entered-as zero e =
      rw (place-unlisted ns c m N n e)
      (decide (room_for c m n)
      (λ d. rw d (λ q. insert-here kk (c.resources - kk) (suc c.resources) m.index (room d)))
      (λ d. rw d (λ q. absurd (omega arith))))
    where
      room : room_for c m n ≡ true → kk < length m.index
      room d = unfold room_for in (omega (
        arith,
        ltb-true c.resources (resource_capacity m) (and_l _ _ d),
        rank-le (name_of ns) m.index c.resources n,
      ))

  found-at : (i : ℕ) → lookup_name n ns ≡ i → ((lookup_values (find_of c m w)).number ≡ 0 → ⊥)
      → (kk < c.resources) × (word m.index kk ≡ (lookup_values (find_of c m w)).number)
  found-at zero e q = absurd (q (ap (λ a. (lookup_values a).number) (find-unlisted c m S w f e)))
  found-at (suc i) e q = rw (find-listed c m S w i f e) (listed_at ns c m N n i e)

  stands : StandsAt c m w kk
  stands = record {
    within = rank-le (name_of ns) m.index c.resources n;
    before = λ i h. rw (name-indexed ns c m N i (omega (arith, h, rank-le (name_of ns) m.index c.resources n)))
        (rank-before (name_of ns) m.index c.resources N.index n i h);
    onward = λ i h g e. false≢true (sym (before-it i g
        ∙ rank-not-before (name_of ns) m.index c.resources N.index n i h g) ∙ ap is_less e);
    found = found-at (lookup_name n ns) refl;
    entered = subst EnteredAt (sym intern-is) (entered-as (lookup_name n ns) refl);
  }

pub find-places : FindPlaces
find-places c m S w f = rw (position-is c m S w f) (stands c m S w f)

-- ---- a name that begins so

pub begins-of : (w rest : List ℕ) → begins w (w ++ rest) ≡ true
unfolding begins
begins-of [] rest = refl
begins-of (x ∷ w) rest = and-of (eqb x x) _ (eq-eqb x x refl) (begins-of w rest)

pub begins-is : (w n : List ℕ) → begins w n ≡ true → (rest : List ℕ) × (n ≡ w ++ rest)
unfolding begins
begins-is [] n e = (n, refl)
begins-is (x ∷ w) [] e = absurd (false≢true e)
begins-is (x ∷ w) (y ∷ n) e =
    let p = begins-is w n (and_r (eqb x y) _ e) in (p.0, ap₂ ◌∷◌ (sym (eqb-true x y (and_l (eqb x y) _ e))) p.1)

-- ---- what passes a test, in order

pub keep-yes : {A : Type 0} (f : A → Bool) (x : A) (xs : List A) → f x ≡ true → keep f (x ∷ xs) ≡ x ∷ keep f xs
unfolding keep
keep-yes f x xs e = rw e

pub keep-no : {A : Type 0} (f : A → Bool) (x : A) (xs : List A) → f x ≡ false → keep f (x ∷ xs) ≡ keep f xs
unfolding keep
keep-no f x xs e = rw e

pub keep-in : {A : Type 0} (f : A → Bool) (l : List A) (y : A) → Memᴰ y l → f y ≡ true → Memᴰ y (keep f l)
keep-in f [] y m e = absurd (mathlib.Core.List.Memᴰ.not-nil m)
keep-in f (x ∷ xs) y m e =
    ⊎_elim
    (λ q. rw (keep-yes f x xs (ap f (sym q) ∙ e)) (mathlib.Core.List.Memᴰ.head q))
    (λ r. let t = keep-in f xs y r e in
    decide (f x) (λ d. rw (keep-yes f x xs d) (mathlib.Core.List.Memᴰ.tail t)) (λ d. rw (keep-no f x xs d) t))
    (mathlib.Core.List.Memᴰ.cases_cons m)

pub keep_out : {A : Type 0} (f : A → Bool) (l : List A) (y : A) → Memᴰ y (keep f l) → Memᴰ y l × (f y ≡ true)
unfolding keep
keep_out f [] y m = absurd (mathlib.Core.List.Memᴰ.not-nil m)
keep_out f (x ∷ xs) y m =
    let later : Memᴰ y (keep f xs) → Memᴰ y (x ∷ xs) × (f y ≡ true) =
    λ r. (mathlib.Core.List.Memᴰ.tail (keep_out f xs y r).0, (keep_out f xs y r).1) in
    decide (f x)
    (λ d. ⊎_elim (λ q. (mathlib.Core.List.Memᴰ.head q, ap f q ∙ d)) later (mathlib.Core.List.Memᴰ.cases_cons (rw d at m)))
    (λ d. later (rw d at m))

-- ---- numbers whose names rise: each name less than every later one

abbrev Rising : (ℕ → List ℕ) → List ℕ → Type 0
Rising name [] = Unit {0}
Rising name (x ∷ xs) = ((y : ℕ) → Memᴰ y xs → compare_bytes (name x) (name y) ≡ less) × Rising name xs

rising-of : (name : ℕ → List ℕ) (l : List ℕ)
    → ((i j : ℕ) → i < j → j < length l → compare_bytes (name (word l i)) (name (word l j)) ≡ less) → Rising name l
rising-of name [] h = tt
rising-of name (x ∷ xs) h = (
  λ y m. let p = at_mem 0 y xs m in
      subst (λ (z : ℕ). compare_bytes (name x) (name z) ≡ less) p.2
      (h 0 (suc p.0) (omega arith) (omega (arith, p.1))),
  rising-of name xs (λ i j a b. h (suc i) (suc j) (omega arith) (omega arith)),
)

rising-at : (name : ℕ → List ℕ) (l : List ℕ) → Rising name l → (i j : ℕ) → i < j → j < length l
    → compare_bytes (name (word l i)) (name (word l j)) ≡ less
rising-at name [] r i j a b = absurd (omega arith)
rising-at name (x ∷ xs) r i zero a b = absurd (omega arith)
rising-at name (x ∷ xs) r zero (suc j) a b = r.0 (word xs j) (mem-at 0 xs j (omega arith))
rising-at name (x ∷ xs) r (suc i) (suc j) a b = rising-at name xs r.1 i j (omega arith) (omega arith)

-- fewer of them rise too
rising-keep : (name : ℕ → List ℕ) (f : ℕ → Bool) (l : List ℕ) → Rising name l → Rising name (keep f l)
rising-keep name f [] r = unfold keep in tt
rising-keep name f (x ∷ xs) r =
    let t = rising-keep name f xs r.1 in
    decide (f x)
    (λ d. rw (keep-yes f x xs d) ((λ y m. r.0 y (keep_out f xs y m).0), t))
    (λ d. rw (keep-no f x xs d) t)

-- ---- the listing

module _ (c : Counters) (m : Tables) (S : Sound c m) (w : List ℕ) where
  abbrev I : Indexed (name_of S.names) m.index c.resources
  I = S.named.index

  -- the index, as far as it is used
  abbrev used : List ℕ
  used = take c.resources m.index

  used-length : length used ≡ c.resources
  used-length = length-take-le c.resources m.index I.fit

  used-at : (i : ℕ) → i < c.resources → word used i ≡ word m.index i
  used-at i h = get_or-take c.resources m.index i 0 h

  -- its members are the numbers 1 .. R
  used-in : (y : ℕ) → 0 < y → y ≤ c.resources → Memᴰ y used
  used-in y a b =
      let p = index-complete (name_of S.names) m.index c.resources I y a b in
      mathlib.Core.List.Memᴰ.cast (sym (used-at p.0 p.1 ∙ p.2)) (mem-at 0 used p.0 (omega (arith, used-length, p.1)))

  used-out : (y : ℕ) → Memᴰ y used → (0 < y) × (y ≤ c.resources)
  used-out y e =
      let p = at_mem 0 y used e in
      let h : p.0 < c.resources = omega (arith, used-length, p.1) in
      let q : word m.index p.0 ≡ y = sym (used-at p.0 h) ∙ p.2 in
      (omega (arith, q, I.low p.0 h), omega (arith, q, I.high p.0 h))

  used-rises : Rising (name_at m) used
  used-rises =
      rising-of (name_at m) used (λ i j a b.
      let h : j < c.resources = omega (arith, used-length, b) in
      let g : i < c.resources = omega (arith, a, h) in
      rw (used-at i g, used-at j h, name-indexed S.names c m S.named i g, name-indexed S.names c m S.named j h)
      (I.rise i j a h))

  all-with-prefix : AllWithPrefix c m w (prefix_list c m w)
  unfolding prefix_list
  all-with-prefix = record {
    exact = λ y. (
      λ e. let p = keep_out (λ y. begins w (name_at m y)) used y e in
          let q = used-out y p.0 in (q.0, q.1, begins-is w (name_at m y) p.1),
      λ h. keep-in (λ y. begins w (name_at m y)) used y (used-in y h.0 h.1)
          (ap (begins w) h.2.1 ∙ begins-of w h.2.0),
    );
    rising = rising-at (name_at m) (prefix_list c m w) (rising-keep (name_at m) (λ y. begins w (name_at m y)) used used-rises);
  }

-- ---- what is written

pub filled-length : (out l : List ℕ) → length (filled out l) ≡ length out
unfolding filled
filled-length out l =
    omega (
      arith,
      length-append (take (length out) l) (drop (length l) out),
      length-take (length out) l,
      length-drop (length l) out,
    )

pub filled-first : (out l : List ℕ) (i : ℕ) → i < length l → i < length out → word (filled out l) i ≡ word l i
unfolding filled
filled-first out l i h g =
    get_or-append (take (length out) l) (drop (length l) out) 0 i (omega (arith, length-take (length out) l))
    ∙ get_or-take (length out) l i 0 g

pub filled-past : (out l : List ℕ) (i : ℕ) → length l ≤ i → word (filled out l) i ≡ word out i
filled-past out l i h =
    decide (leb (length l) (length out))
    (λ e. fits_in (leb-true (length l) (length out) e))
    (λ e. let g : length out ≤ i = omega (arith, leb-false (length l) (length out) e) in
    get_or-eq_default (filled out l) 0 (omega (arith, filled-length out l)) ∙ sym (get_or-eq_default out 0 g))
  where
    fits_in : length l ≤ length out → word (filled out l) i ≡ word out i
    fits_in g = unfold filled in (
        let e : length l + (i - length l) ≡ i = omega arith in
        let a : word (l ++ drop (length l) out) (length l + (i - length l)) ≡ word out (length l + (i - length l)) =
        get_or-append-add l (drop (length l) out) (i - length l) 0 ∙ get_or-drop (length l) out (i - length l) 0 in
        rw (take_all (length out) l g) (rw e at a)
        )

pub prefix-means : PrefixMeans
unfolding prefix_of
prefix-means c m S w out = (
  λ h. (
    prefix_list c m w,
    all-with-prefix c m S w,
    rw (S.capacity, le-leb (length w) 255 h) (record {
      total = refl;
      size = filled-length out (prefix_list c m w);
      first = filled-first out (prefix_list c m w);
      past = filled-past out (prefix_list c m w);
    }),
  ),
  λ h. rw (S.capacity, lt-leb (length w) 255 h) (refl, refl),
)

-- ---- on any tables

pub find-refuses : FindRefuses
find-refuses c m w a F = record {
  one = λ e. ap lookup_values (F.capacity e);
  two = λ e d. ap lookup_values (F.malformed e d);
  other = λ e d. ⊎_elim (λ q. inl (ap lookup_values q))
      (λ q. inr (
        q.0,
        ap lookup_values q.2 ∙ found-values q.0 q.1,
        q.3,
        omega (arith, ap lookup_position q.2, found-position q.0 q.1, q.4),
        λ h. omega (arith, ap lookup_position q.2, found-position q.0 q.1, q.5 h),
      )) (F.bounded e d);
  bare = bare a;
}
  where
    found-position : (n k : ℕ) → lookup_position (found_at n k) ≡ k
    found-position zero k = refl
    found-position (suc n) k = refl

    bare : (b : Result Lookup Refusal) → (lookup_values b).refusal ≢ 0 → lookup_position b ≡ 0
    bare (Ok (Number y k)) h = absurd (h refl)
    bare (Ok (Absent k)) h = absurd (h refl)
    bare (Err r) h = refl

-- by what was told, the lent words have their length, and a refusal leaves them
module _ (out out' : List ℕ) (a : Result ℕ Refusal) where
  abbrev Leaves : Type 0
  Leaves = (length out' ≡ length out) × ((prefixed_values a).refusal ≢ 0 → out' ≡ out)

  words_are : {z : List ℕ × Result ℕ Refusal} → told out' a ≡ z → out' ≡ z.0
  words_are e = ap (λ (z : List ℕ × Result ℕ Refusal). z.0) e

  answer-is : {z : List ℕ × Result ℕ Refusal} → told out' a ≡ z → a ≡ z.1
  answer-is e = ap (λ (z : List ℕ × Result ℕ Refusal). z.1) e

  left : (r : Refusal) → told out' a ≡ told out (Err r) → Leaves
  left r e = (ap length (words_are e), λ h. words_are e)

  filled_in : (l : List ℕ) → told out' a ≡ listed out l → Leaves
  filled_in l e = (
    ap length (words_are e) ∙ filled-length out l,
    λ h. absurd (h (ap (λ (b : Result ℕ Refusal). (prefixed_values b).refusal) (answer-is e))),
  )

leaves : (c : Counters) (m : Tables) (w out out' : List ℕ) (a : Result ℕ Refusal) → PrefixAnswer c m w out out' a
    → Leaves out out' a
leaves c m w out out' a P =
    decide (fits c m)
    (λ f. decide (leb (length w) 255)
    (λ g. ⊎_elim (left out out' a Damaged) (λ q. filled_in out out' a q.0 q.1)
    (P.bounded f (leb-true (length w) 255 g)))
    (λ g. left out out' a Malformed (P.malformed f (leb-false (length w) 255 g))))
    (λ f. left out out' a Capacity (P.capacity f))

pub prefix-refuses : PrefixRefuses
prefix-refuses c m w out out' a P = record {
  one = λ e. ap prefixed_values (answer-is out out' a (P.capacity e));
  two = λ e d. ap prefixed_values (answer-is out out' a (P.malformed e d));
  other = λ e d. ⊎_elim (λ q. inl (ap prefixed_values (answer-is out out' a q)))
      (λ q. inr (
        length q.0,
        ap prefixed_values (answer-is out out' a q.1),
        q.2,
        λ i h. ap (λ (z : List ℕ). word z i) (words_are out out' a q.1) ∙ filled-past out q.0 i h,
      )) (P.bounded e d);
  size = (leaves c m w out out' a P).0;
  kept = (leaves c m w out out' a P).1;
}
