-- On a sound store numbers and names go both ways: name of a number answers the span of its bytes, find answers its
-- number, and distinct numbers have distinct names. Assumes nothing.
use mathlib.Core.Path.{◌≡◌, refl, sym, ap, ap₂, ◌∙◌, subst}
use mathlib.Core.Logic.{◌≢◌}
use mathlib.Core.Bool.{true, false}
use mathlib.Core.List.{List, [], ◌∷◌, ◌++◌}
use mathlib.Core.Option.{some}
use Prim.Native.Nat.{ℕ, zero, suc, ◌+◌, ◌-◌, ◌≤◌, ◌<◌}
use native.Mathlib.Omega.{arith}
use lib.ListN.{length, get_or, take, drop}
use lib.Seq.{get_or-drop, drop-drop, take-append_seam}
use borrow.Author.Tests.{eq-eqb, ne_eqb, lt-ltb}
use Rattle.term.specs.Bytes.{eq_bytes}
use Rattle.term.specs.Grammar.{name_limit}
use Rattle.term.specs.Canonical.{writes_string, canonical}
use Rattle.term.proofs.Booleans.{eq_bytes-refl, eq_bytes-not}
use Rattle.store.specs.declared.Counters.{Counters}
use Rattle.store.specs.declared.ResourceId.{ResourceId}
use Rattle.store.specs.declared.Refusal.TheVariants.{Malformed, UnknownNumber}
use Rattle.store.specs.declared.Lookup.TheVariants.{Number, Absent}
use Rattle.store.specs.Shared.{well_formed, name_of, lookup_name}
use Rattle.store.specs.Tables.{Tables, word, offset_at}
use Rattle.store.specs.Model.{intern_model}
use Rattle.store.specs.Reading.{in_range, zero_from, name_span_of}
use Rattle.store.specs.Dictionary.{position_of, found_at, find_of, intern_of}
use Rattle.store.specs.Names.{storable, Named, joined, names_up_to}
use Rattle.store.specs.Values.{numbered, lookup_values, name_values}
use Rattle.store.specs.Soundness.{Sound}
use Rattle.store.specs.NameClaims.{NamedAs, FoundAs, RoundTrips, FindMeans, SpellingsAgree}
use Rattle.store.proofs.Tests.{decide, range-of, range-in}
use Rattle.store.proofs.Falling.{head-unique}
use Rattle.store.proofs.Form.{clean, form-clean, form-short, storable-formed, storable-plain, storable-kept}
use Rattle.store.proofs.Text.{text_at, bytes_take}
use Rattle.store.proofs.Index.{names-distinct}
use Rattle.store.proofs.Pins.{listed}
use Rattle.store.proofs.NamesAgree.{name-at}
use Rattle.store.proofs.Held.{named-names}
use Rattle.std.specs.Prelude.{Result, Ok, Err}
use Rattle.store.specs.declared.Lookup.{Lookup}
use Rattle.store.specs.declared.Refusal.{Refusal}
use Rattle.store.specs.Replies.{span_as}

-- ---- the zero byte that closes a name

first_of : (t : List ℕ) (o b : ℕ) (r : List ℕ) → drop o t ≡ b ∷ r → word t o ≡ b
first_of t o b r e =
    let z : o + 0 ≡ o = omega arith in
    rw (← z) (sym (get_or-drop o t 0 0) ∙ ap (λ (l : List ℕ). get_or l 0 0) e)

rest_of : (t : List ℕ) (o b : ℕ) (r : List ℕ) → drop o t ≡ b ∷ r → drop (o + 1) t ≡ r
rest_of t o b r e = sym (drop-drop 1 o t) ∙ ap (λ (l : List ℕ). drop 1 l) e

pub zero-found : (t : List ℕ) (e left o : ℕ) → o < e → word t o ≡ 0 → zero_from t e (suc left) o ≡ some o
unfolding zero_from
zero-found t e left o h z = rw (zero_from, lt-ltb o e h, eq-eqb (word t o) 0 z)

pub zero-later : (t : List ℕ) (e left o : ℕ) → o < e → word t o ≢ 0
    → zero_from t e (suc left) o ≡ zero_from t e left (o + 1)
unfolding zero_from
zero-later t e left o h z = rw (zero_from, lt-ltb o e h, ne_eqb (word t o) 0 z)

pub zero-closes : (n : List ℕ) (t : List ℕ) (r : List ℕ) (e left o : ℕ) → clean n ≡ true → drop o t ≡ n ++ 0 ∷ r
    → length n < left
    → o + length n < e → zero_from t e left o ≡ some (o + length n)
zero-closes [] t r e zero o c d s h = absurd (omega arith)
zero-closes [] t r e (suc left) o c d s h =
    zero-found t e left o (omega arith) (first_of t o 0 r d) ∙ ap some (omega arith)
zero-closes (zero ∷ n) t r e left o c d s h = absurd (let z : ◌≡◌ {A = ℕ} 0 1 = cc in omega arith)
zero-closes (suc b ∷ n) t r e zero o c d s h = absurd (omega arith)
zero-closes (suc b ∷ n) t r e (suc left) o c d s h =
    let f = first_of t o (suc b) (n ++ 0 ∷ r) d in
    zero-later t e left o (omega arith) (λ z. omega (arith, z, f))
    ∙ zero-closes n t r e left (o + 1) c (rest_of t o (suc b) (n ++ 0 ∷ r) d) (omega arith) (omega arith)
    ∙ ap some (omega arith)

-- ---- a sound dictionary

module _ (c : Counters) (m : Tables) (S : Sound c m) where
  abbrev ns : List (List ℕ)
  ns = S.names

  abbrev N : Named ns c m
  N = S.named

  -- the bytes at a name's offset
  bytes-at : (y : ℕ) → 0 < y → y ≤ c.resources
      → drop (offset_at m.resources y) m.text
      ≡ name_of ns y ++ 0 ∷ (joined (drop (suc (y - 1)) ns) ++ drop c.text m.text)
  unfolding name_of
  bytes-at y a b = rw (N.offsets y a b) (text_at ns m.text c.text (y - 1) N.spelled (omega (arith, N.size)))

  pub name-storable : (y : ℕ) → 0 < y → y ≤ c.resources → storable (name_of ns y) ≡ true
  unfolding name_of
  name-storable y a b = N.well (y - 1) (omega (arith, N.size))

  name-formed : (y : ℕ) → 0 < y → y ≤ c.resources → well_formed (name_of ns y) ≡ true
  name-formed y a b = storable-formed (name_of ns y) (name-storable y a b)

  pub name-kept : (y : ℕ) → 0 < y → y ≤ c.resources → canonical (name_of ns y) ≡ name_of ns y
  name-kept y a b = storable-kept (name_of ns y) (name-storable y a b)

  name-ends : (y : ℕ) → 0 < y → y ≤ c.resources → offset_at m.resources y + length (name_of ns y) < c.text
  unfolding name_of
  name-ends y a b = rw (N.offsets y a b) (omega (arith, bytes_take ns (y - 1) (omega (arith, N.size)), N.bytes))

  -- name of a number answers its span
  pub span_of : (y : ResourceId) → 0 < y.0 → y.0 ≤ c.resources
      → name_span_of c m y ≡ span_as (offset_at m.resources y.0) (length (name_of ns y.0))
  unfolding name_span_of
  span_of y a b =
      let o = offset_at m.resources y.0 in
      let l = length (name_of ns y.0) in
      let z : zero_from m.text c.text (name_limit + 1) o ≡ some (o + l) =
      zero-closes (name_of ns y.0) m.text _ c.text (name_limit + 1) o (form-clean _ (name-formed y.0 a b))
      (bytes-at y.0 a b)
      (omega (arith, form-short _ (name-formed y.0 a b))) (name-ends y.0 a b) in
      let d : o + l - o ≡ l = omega arith in
      rw (S.capacity, range-of c.resources y.0 a b, z, d)

  -- and its bytes are the name
  pub named-as : (y : ResourceId) → 0 < y.0 → y.0 ≤ c.resources → NamedAs c m y (name_of ns y.0)
  named-as y a b = record {
    start = offset_at m.resources y.0;
    size = length (name_of ns y.0);
    answer = span_of y a b;
    bytes = rw (bytes-at y.0 a b) (take-append_seam (name_of ns y.0) _);
  }

  pub distinct-names : (y z : ℕ) → 0 < y → y ≤ c.resources → 0 < z → z ≤ c.resources → name_of ns y ≡ name_of ns z
      → y ≡ z
  distinct-names = names-distinct (name_of ns) m.index c.resources N.index

  -- a name is listed under its number
  pub lookup-name : (y : ℕ) → 0 < y → y ≤ c.resources → lookup_name (name_of ns y) ns ≡ y
  unfolding lookup_name name_of
  lookup-name y a b =
      head-unique (λ i. eq_bytes (get_or ns i []) (get_or ns (y - 1) [])) (length ns) (y - 1) (omega (arith, N.size))
      (eq_bytes-refl (get_or ns (y - 1) []))
      (λ j h g. eq_bytes-not (get_or ns j []) (get_or ns (y - 1) []) (λ e. apart j h g e))
      ∙ omega arith
    where
      apart : (j : ℕ) → y - 1 < j → j < length ns → get_or ns j [] ≡ get_or ns (y - 1) [] → ⊥
      apart j h g e =
          let s : suc j - 1 ≡ j = omega arith in
          let d : get_or ns (suc j - 1) [] ≡ get_or ns (y - 1) [] = rw s e in
          omega (arith, distinct-names (suc j) y (omega arith) (omega (arith, N.size)) a b (unfold name_of in d))

  -- find, by the list
  pub find-listed : (w : List ℕ) (i : ℕ) → well_formed w ≡ true → lookup_name (canonical w) ns ≡ suc i
      → find_of c m w ≡ Ok (Number (record { 0 = suc i }) (position_of c m (canonical w)))
  unfolding find_of
  find-listed w i f e = rw (S.capacity, f, named-names ns c m N, e)

  pub find-unlisted : (w : List ℕ) → well_formed w ≡ true → lookup_name (canonical w) ns ≡ 0
      → find_of c m w ≡ Ok (Absent (position_of c m (canonical w)))
  unfolding find_of
  find-unlisted w f e = rw (S.capacity, f, named-names ns c m N, e)

  find-malformed : (w : List ℕ) → well_formed w ≡ false → find_of c m w ≡ Err Malformed
  unfolding find_of
  find-malformed w f = rw (S.capacity, f)

  -- a listed name is found in either spelling
  find-canonical : (w : List ℕ) (y : ResourceId) → well_formed w ≡ true → 0 < y.0 → y.0 ≤ c.resources
      → name_of ns y.0 ≡ canonical w → FoundAs c m w y
  find-canonical w y f a b e =
      let s : suc (y.0 - 1) ≡ y.0 = omega arith in
      let k = position_of c m (canonical w) in (
        k,
        find-listed w (y.0 - 1) f (rw (← e) (lookup-name y.0 a b) ∙ sym s)
            ∙ ap (λ (n : ℕ). Ok (Number (record { 0 = n }) k)) s,
      )

  pub find-name : (y : ResourceId) → 0 < y.0 → y.0 ≤ c.resources → FoundAs c m (name_of ns y.0) y
  find-name y a b = find-canonical (name_of ns y.0) y (name-formed y.0 a b) a b (sym (name-kept y.0 a b))

  -- what find answers is the number of that name
  pub number_is : (y z : ResourceId) (j k : ℕ) → ◌≡◌ {A = Result Lookup Refusal} (Ok (Number y j)) (Ok (Number z k)) → y ≡ z
  number_is y z j k e = cc

  found-formed : (w : List ℕ) (y : ResourceId) → FoundAs c m w y → well_formed w ≡ true
  found-formed w y (k, e) =
      decide (well_formed w) (λ f. f)
      (λ f. let d = find-malformed w f in absurd (let z : ◌≡◌ {A = ℕ} 0 1 = cc in omega arith))

  found_number : (w : List ℕ) (y : ResourceId) → FoundAs c m w y
      → (0 < y.0) × (y.0 ≤ c.resources) × (name_of ns y.0 ≡ canonical w)
  found_number w y e = go (found-formed w y e) (lookup_name (canonical w) ns) refl
    where
      name-of : (i : ℕ) → name_of ns (suc i) ≡ get_or ns i []
      name-of i = unfold name_of in (let s : suc i - 1 ≡ i = omega arith in rw s)

      go : well_formed w ≡ true → (n : ℕ) → lookup_name (canonical w) ns ≡ n
          → (0 < y.0) × (y.0 ≤ c.resources) × (name_of ns y.0 ≡ canonical w)
      go f zero q = let d = sym e.1 ∙ find-unlisted w f q in absurd (let z : ◌≡◌ {A = ℕ} 0 1 = cc in omega arith)
      go f (suc i) q =
          let d : y ≡ record { 0 = suc i } = number_is y (record { 0 = suc i }) e.0 _ (sym e.1 ∙ find-listed w i f q) in
          let l = listed (canonical w) ns i q in
          rw d (omega arith, omega (arith, l.0, N.size), name-of i ∙ l.1)

  -- a number with a name is in range
  out_of_range : (y : ResourceId) → in_range c.resources y.0 ≡ false → name_span_of c m y ≡ Err UnknownNumber
  unfolding name_span_of
  out_of_range y e = rw (S.capacity, e)

  span-start : (a b d e : ℕ) → span_as a b ≡ span_as d e → (a ≡ d) × (b ≡ e)
  span-start a b d e h = (ap (λ r. (name_values r).start) h, ap (λ r. (name_values r).size) h)

  in-range : (y : ResourceId) (a n : ℕ) → name_span_of c m y ≡ span_as a n → (0 < y.0) × (y.0 ≤ c.resources)
  in-range y a n e =
      decide (in_range c.resources y.0)
      (range-in c.resources y.0)
      (λ d. let z = out_of_range y d in absurd (let q : ◌≡◌ {A = ℕ} 0 1 = cc in omega arith))

  pub named-is : (y : ResourceId) (w : List ℕ) → NamedAs c m y w
      → (0 < y.0) × (y.0 ≤ c.resources) × (name_of ns y.0 ≡ w)
  named-is y w W =
      let r = in-range y W.start W.size W.answer in
      let T = named-as y r.0 r.1 in
      let s = span-start _ _ _ _ (sym T.answer ∙ W.answer) in
      (r.0, r.1, sym T.bytes ∙ ap₂ (λ (o l : ℕ). take l (drop o m.text)) s.0 s.1 ∙ W.bytes)

-- find, by values
pub found-values : (n k : ℕ) → lookup_values (found_at n k) ≡ numbered n
found-values zero k = refl
found-values (suc n) k = refl

pub find-means : FindMeans
unfolding find_of
find-means c m S w = (
  λ f. rw (S.capacity, f),
  λ f. rw (S.capacity, f) (found-values (lookup_name (canonical w) (names_up_to m c.resources)) (position_of c m (canonical w))),
)

pub round-trips : RoundTrips
round-trips c m S = record {
  there = λ y a b. rw (name-at S.names c m S.named y.0 a b) (named-as c m S y a b, find-name c m S y a b);
  back = λ w y. (
    λ e.
        let f = found_number c m S w y e in
        (found-formed c m S w y e, subst (NamedAs c m y) f.2 (named-as c m S y f.0 f.1)),
    λ h. let a = named-is c m S y (canonical w) h.1 in find-canonical c m S w y h.0 a.0 a.1 a.2,
  );
  plain = λ y w A.
      let a = named-is c m S y w A in
      ap writes_string (sym a.2) ∙ storable-plain _ (name-storable c m S y.0 a.0 a.1);
  distinct = λ y z v w A B e.
      let a = named-is c m S y v A in
      let b = named-is c m S z w B in
      ap (λ (n : ℕ). record { 0 = n }) (distinct-names c m S y.0 z.0 a.0 a.1 b.0 b.1
      (sym (name-kept c m S y.0 a.0 a.1) ∙ ap canonical a.2 ∙ e ∙ ap canonical (sym b.2)
      ∙ name-kept c m S z.0 b.0 b.1));
}

pub spellings-agree : SpellingsAgree
unfolding find_of intern_of intern_model
spellings-agree v w f g e = record {
  found = λ c m. rw (f, g, e);
  entered = λ c m. rw (f, g, e);
  listed = λ k s. rw (f, g, e);
}
