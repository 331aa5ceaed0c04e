-- The contracts of find and intern, put together from the search: exact where the dictionary is sound, within the bound
-- on any tables, one law for each way out of the code. Assumes nothing.
use mathlib.Core.Path.{◌≡◌, refl, sym, ap, ◌∙◌, subst}
use mathlib.Core.Logic.{◌⊎◌, inl, inr}
use mathlib.Core.Bool.{Bool, true, false, not, true≢false, and-true}
use mathlib.Core.List.{List}
use Prim.Native.Nat.{ℕ, suc, zero, ◌+◌, ◌<◌, ◌≤◌}
use native.Mathlib.Omega.{arith}
use lib.ListN.{length}
use lib.Dec.{leb, ltb}
use borrow.Author.Tests.{lt-ltb, le-ltb, ltb-true, le-leb}
use Rattle.term.specs.Scanner.{kind_of, first_kind_of}
use Rattle.term.specs.Canonical.{canonical}
use Rattle.std.specs.Prelude.{Option as Optional}
use Rattle.std.specs.Option.{is_some}
use Rattle.term.specs.declared.NameKind.{NameKind}
use Rattle.term.specs.declared.NameKind.TheVariants.{Iri, Blank, Literal}
use Rattle.term.specs.Scanner.{number_of}
use Rattle.store.specs.declared.Counters.{Counters}
use Rattle.store.specs.declared.Refusal.TheVariants.{Capacity, Malformed, Full, Damaged}
use Rattle.store.specs.declared.Lookup.TheVariants.{Number, Absent}
use Rattle.store.specs.Tables.{Tables, tables, after, fits, word, resource_capacity, statement_capacity, text_capacity}
use Rattle.store.specs.Shared.{max_reclaims, well_formed, lookup_name}
use Rattle.store.specs.Reading.{in_range}
use Rattle.store.specs.Dictionary.{PlaceWithin, position_of, index_place_of, found_at, find_of, FindAnswer, room_for, one_name_more}
use Rattle.store.specs.Names.{Named, names_up_to}
use Rattle.store.specs.Dictionary.{intern_as, intern_of, InternWrites, InternAnswer}
use Rattle.store.proofs.Tests.{decide, and_l, and_r}
use Rattle.store.proofs.Form.{form-clean, form-short, canonical-formed, canonical-kind}
use Rattle.store.proofs.Interning.{writes_nothing, intern-as-writes, intern-as-refused}
use Rattle.store.proofs.NamesAgree.{rank-at, place-listed, place-unlisted}
use Rattle.store.proofs.Held.{named-names}
use Rattle.table.proofs.Capacity.{fits-room}
use Rattle.table.proofs.Held.{from_one, up-to}
use Rattle.dictionary.specs.Search.{Readable, probe_of, middle, search_of, searched}
use Rattle.dictionary.specs.Extend.{HasRoom, Extended}
use Rattle.std.proofs.Common.{Option, Some, None, Ordering, Less, Equal, Greater}
use Rattle.dictionary.proofs.Named.{searched-is}
use Rattle.std.specs.Prelude.{Err, Ok, Result}
use Rattle.store.specs.Replies.{entered_as}
use Rattle.store.specs.declared.Interned.{Interned}
use Rattle.store.specs.declared.Lookup.{Lookup}
use Rattle.store.specs.declared.Refusal.{Refusal}

-- ---- the search on any tables: a number in 1..R at an entry of the index, a position within it, or damage

unreadable-same : None ≡ Some Equal → ⊥
unreadable-same e = let z : ◌≡◌ {A = ℕ} 0 1 = cc in omega arith

module _ (c : Counters) (res idx text w : List ℕ) where
  probe-range : (k : ℕ) → probe_of c res idx text w k ≡ Some Equal → in_range c.resources (word idx k) ≡ true
  unfolding probe_of
  probe-range k =
      decide (in_range c.resources (word idx k)) (λ q. rw q (λ e. refl)) (λ q. rw q (λ e. absurd (unreadable-same e)))

  abbrev Bounded : ℕ → Type 0
  Bounded f =
      (lo hi : ℕ) → lo ≤ hi → hi ≤ c.resources → PlaceWithin c.resources (search_of c res idx text w f lo hi)

  bounded-turn : (f lo hi : ℕ) → Bounded f → lo < hi → hi ≤ c.resources → (o : Option Ordering)
      → probe_of c res idx text w (middle lo hi) ≡ o
      → PlaceWithin c.resources (search_of c res idx text w (suc f) lo hi)
  unfolding search_of
  bounded-turn f lo hi ih lt b (Some Less) e = rw (search_of, lt-ltb lo hi lt, e) (ih (middle lo hi + 1) hi (omega arith) b)
  bounded-turn f lo hi ih lt b (Some Greater) e =
      rw (search_of, lt-ltb lo hi lt, e) (ih lo (middle lo hi) (omega arith) (omega arith))
  bounded-turn f lo hi ih lt b (Some Equal) e =
      let p = probe-range (middle lo hi) e in
      rw (search_of, lt-ltb lo hi lt, e) (from_one _ _ p, up-to _ _ p, omega arith)
  bounded-turn f lo hi ih lt b None e = rw (search_of, lt-ltb lo hi lt, e) refl

  bounded : (f : ℕ) → Bounded f
  unfolding search_of
  bounded zero lo hi a b = omega arith
  bounded (suc f) lo hi a b =
      decide (ltb lo hi)
      (λ q. bounded-turn f lo hi (bounded f) (ltb-true lo hi q) b (probe_of c res idx text w (middle lo hi)) refl)
      (λ q. rw (search_of, q) (omega arith))

  searched-within : PlaceWithin c.resources (searched c res idx text w)
  searched-within = bounded 16 0 c.resources (omega arith) (omega arith)

-- where the search of a store's index ends
module _ (c : Counters) (m : Tables) (w : List ℕ) where
  abbrev pub place : Result Lookup Refusal
  place = searched c m.resources m.index m.text w

  place-within : PlaceWithin c.resources place
  place-within = searched-within c m.resources m.index m.text w

  pub miss-within : (k : ℕ) → Ok (Absent k) ≡ place → k ≤ c.resources
  miss-within k e = rw (← e) at place-within

-- ---- the tests of the code

-- they are passed: within capacity, the name well formed, and n what is left of it without the string ending
pub record Tested (c : Counters) (m : Tables) (w n : List ℕ) : Type 0 where
  pub fit : fits c m ≡ true
  pub well : well_formed w ≡ true
  pub left : n ≡ canonical w

pub malformed : (w : List ℕ) (k : ℕ) → k ≡ kind_of 255 w → k ≡ 0 → well_formed w ≡ false
unfolding well_formed
malformed w k e z = le-ltb 0 (kind_of 255 w) (omega arith)

pub formed : (w : List ℕ) (k : ℕ) → k ≡ kind_of 255 w → (k ≡ 0 → ⊥) → well_formed w ≡ true
unfolding well_formed
formed w k e z = lt-ltb 0 (kind_of 255 w) (omega (arith, e))

-- by the kind that is told, or none
pub no-kind : (w : List ℕ) (o : Optional NameKind) (b : Bool) → number_of o ≡ kind_of 255 w → is_some o ≡ not b → b ≡ true
    → well_formed w ≡ false
unfolding number_of
no-kind w None b e n q = malformed w 0 e refl
no-kind w (Some k) b e n q = absurd (true≢false (n ∙ ap not q))

pub some-kind : (w : List ℕ) (o : Optional NameKind) (b : Bool) → number_of o ≡ kind_of 255 w → is_some o ≡ not b → b ≡ false
    → well_formed w ≡ true
unfolding number_of
some-kind w None b e n q = absurd (true≢false (sym (n ∙ ap not q)))
some-kind w (Some Iri) b e n q = formed w 1 e (λ z. omega arith)
some-kind w (Some Blank) b e n q = formed w 2 e (λ z. omega arith)
some-kind w (Some Literal) b e n q = formed w 3 e (λ z. omega arith)

module _ (c : Counters) (m : Tables) where
  pub readable : fits c m ≡ true → Readable c m.resources m.index m.text
  readable f =
      let r = fits-room c m f in
      record { few = r.few-resources; in-resources = r.in-resources; in-index = r.in-index; in-text = r.in-text }

  -- room for one name more is refusal 1 of the counters with one name more
  pub room-grown : (w : List ℕ) → fits c m ≡ true → room_for c m w ≡ fits (one_name_more c w) m
  unfolding fits room_for
  room-grown w f =
      let r = and_r (leb c.resources (resource_capacity m)) _ f in
      let t = and_l (leb c.statements (statement_capacity m)) _ r in
      let g = le-leb c.generation max_reclaims (fits-room c m f).few-reclaims in
      rw (t, g, and-true (leb (c.text + length w + 1) (text_capacity m)))

  pub has_room : (w : List ℕ) (k : ℕ) → fits (one_name_more c w) m ≡ true → k ≤ c.resources
      → HasRoom c m.resources m.index m.text w k
  has_room w k f h =
      let r = fits-room (one_name_more c w) m f in
      record {
        few = omega (arith, r.few-resources);
        in-resources = r.in-resources;
        in-index = omega (arith, r.in-index);
        in-text = omega (arith, r.in-text);
        within = h;
      }

-- ---- find

-- on a sound dictionary the place in the index is the position among the names
found-is : (ns : List (List ℕ)) (c : Counters) (m : Tables) → Named ns c m → (w : List ℕ)
    → index_place_of c m w ≡ found_at (lookup_name w (names_up_to m c.resources)) (position_of c m w)
found-is ns c m N w = rw (named-names ns c m N) (go (lookup_name w ns) refl)
  where
    go : (n : ℕ) → lookup_name w ns ≡ n → index_place_of c m w ≡ found_at (lookup_name w ns) (position_of c m w)
    go zero e = rw (place-unlisted ns c m N w e, e, rank-at ns c m N w)
    go (suc i) e = rw (place-listed ns c m N w i e, e, rank-at ns c m N w)

place_is : (ns : List (List ℕ)) (c : Counters) (m : Tables) → Named ns c m → (w : List ℕ) → fits c m ≡ true
    → well_formed w ≡ true → place c m (canonical w) ≡ index_place_of c m (canonical w)
place_is ns c m N w f b =
    searched-is ns c m N (canonical w) (form-clean (canonical w) (canonical-formed w b))
    (fits-room c m f).few-resources

-- on any tables a number found is in 1..R, and its position within the index
abbrev WithinNumbers : ℕ → Result Lookup Refusal → Type 0
WithinNumbers r a = (a ≡ Err Damaged) ⊎ ((n k : ℕ) × (a ≡ found_at n k) × (n ≤ r) × (k ≤ r) × (0 < n → k < r))

number_at : (n k : ℕ) → 0 < n → Ok (Number (record { 0 = n }) k) ≡ found_at n k
number_at zero k h = absurd (omega arith)
number_at (suc n) k h = refl

found_within : (r : ℕ) (x : Result Lookup Refusal) → PlaceWithin r x → WithinNumbers r x
found_within r (Ok (Number n k)) h = inr (n.0, k, number_at n.0 k h.0, h.1, omega arith, λ z. h.2)
found_within r (Ok (Absent k)) h = inr (0, k, refl, omega arith, h, λ z. absurd (omega arith))
found_within r (Err e) h = inl (ap Err h)

module _ (c : Counters) (m : Tables) (w : List ℕ) (a : Result Lookup Refusal) where
  pub find-capacity : fits c m ≡ false → a ≡ Err Capacity → FindAnswer c m w a
  unfolding find_of
  find-capacity f e = record {
    capacity = λ g. e;
    malformed = λ g. absurd (true≢false (sym g ∙ f));
    exact = λ ns N. e ∙ rw f;
    bounded = λ g. absurd (true≢false (sym g ∙ f));
  }

  pub find-malformed : fits c m ≡ true → well_formed w ≡ false → a ≡ Err Malformed → FindAnswer c m w a
  unfolding find_of
  find-malformed f b e = record {
    capacity = λ g. absurd (true≢false (sym f ∙ g));
    malformed = λ g h. e;
    exact = λ ns N. e ∙ rw (f, b);
    bounded = λ g h. absurd (true≢false (sym h ∙ b));
  }

  found-canonical : fits c m ≡ true → well_formed w ≡ true → a ≡ place c m (canonical w) → FindAnswer c m w a
  unfolding find_of
  found-canonical f b e = record {
    capacity = λ g. absurd (true≢false (sym f ∙ g));
    malformed = λ g h. absurd (true≢false (sym b ∙ h));
    exact = λ ns N. e ∙ rw (f, b) (place_is ns c m N w f b ∙ found-is ns c m N (canonical w));
    bounded = λ g h. subst (WithinNumbers c.resources) (sym e)
        (found_within c.resources (place c m (canonical w)) (place-within c m (canonical w)));
  }

  pub find-searched : (n : List ℕ) → Tested c m w n → a ≡ place c m n → FindAnswer c m w a
  find-searched n t e = found-canonical t.fit t.well (rw t.left at e)

-- ---- intern

module _ (c : Counters) (m m' : Tables) (w : List ℕ) (a : Result Interned Refusal) where
  tables-are : {o : Tables × Result Interned Refusal} → after m' a ≡ o → m' ≡ o.0
  tables-are e = ap (λ (z : Tables × Result Interned Refusal). z.0) e

  writes_as : {o : Tables × Result Interned Refusal} → after m' a ≡ o → InternWrites c m o.0 → InternWrites c m m'
  writes_as e = subst (InternWrites c m) (sym (tables-are e))

  pub intern-capacity : fits c m ≡ false → after m' a ≡ after m (Err Capacity) → InternAnswer c m m' w a
  unfolding intern_of
  intern-capacity f e = record {
    capacity = λ g. e;
    malformed = λ g. absurd (true≢false (sym g ∙ f));
    exact = λ ns N. e ∙ rw f;
    bounded = λ g. absurd (true≢false (sym g ∙ f));
    writes = writes_as e (writes_nothing c m);
    refused = λ q g. tables-are e;
  }

  pub intern-malformed : fits c m ≡ true → well_formed w ≡ false → after m' a ≡ after m (Err Malformed)
      → InternAnswer c m m' w a
  unfolding intern_of
  intern-malformed f b e = record {
    capacity = λ g. absurd (true≢false (sym f ∙ g));
    malformed = λ g h. e;
    exact = λ ns N. e ∙ rw (f, b);
    bounded = λ g h. absurd (true≢false (sym h ∙ b));
    writes = writes_as e (writes_nothing c m);
    refused = λ q g. tables-are e;
  }

  abbrev found : Result Lookup Refusal
  found = place c m (canonical w)

  interned-canonical : fits c m ≡ true → well_formed w ≡ true → after m' a ≡ intern_as c m (canonical w) found
      → InternAnswer c m m' w a
  unfolding intern_of
  interned-canonical f b e = record {
    capacity = λ g. absurd (true≢false (sym f ∙ g));
    malformed = λ g h. absurd (true≢false (sym b ∙ h));
    exact = λ ns N. e ∙ rw (f, b) (ap (intern_as c m (canonical w)) (place_is ns c m N w f b));
    bounded = λ g h. (found, e, place-within c m (canonical w));
    writes = writes_as e (intern-as-writes c m (canonical w) found);
    refused = λ q g. tables-are e
        ∙ intern-as-refused c m (canonical w) found q (sym (ap (λ (o : Tables × Result Interned Refusal). o.1) e) ∙ g);
  }

  pub intern-searched : (n : List ℕ) → Tested c m w n → after m' a ≡ intern_as c m n (place c m n)
      → InternAnswer c m m' w a
  intern-searched n t e = interned-canonical t.fit t.well (rw t.left at e)

module _ (c : Counters) (m : Tables) (w n : List ℕ) (t : Tested c m w n) where
  pub left-short : length n ≤ 255
  left-short = rw t.left (form-short (canonical w) (canonical-formed w t.well))

  pub intern-full : (k : ℕ) → Ok (Absent k) ≡ place c m n → fits (one_name_more c n) m ≡ false
      → InternAnswer c m m w (Err Full)
  unfolding intern_as
  intern-full k s g = intern-searched c m m w (Err Full) n t (rw (← s, room-grown c m n t.fit, g))

  -- the three writes are the definition's
  pub intern-new : (k d : ℕ) (res' idx' text' : List ℕ) (grown : Counters) → Ok (Absent k) ≡ place c m n
      → fits (one_name_more c n) m ≡ true → grown ≡ one_name_more c n → d ≡ kind_of 255 w
      → Extended c m.resources res' m.index idx' m.text text' n k d
      → InternAnswer c m (tables res' m.statements idx' text') w (entered_as (record { 0 = grown.resources }) grown)
  unfolding intern_as
  intern-new k d res' idx' text' grown s g e q x =
      let kind : d ≡ first_kind_of n = q ∙ (canonical-kind w t.well ∙ ap first_kind_of (sym t.left)) in
      intern-searched c m (tables res' m.statements idx' text') w _ n t
      (rw (← s, room-grown c m n t.fit, g, e, x.new-record, x.new-entry, x.new-name, kind))
