-- The second opening: its keys (`KeyClaim`), its words (`ArrangedClaim`), its refusals (`ArrangeRefuses`), and what
-- is read from it (`ArrangedReadingClaim`). Assumes nothing.
use mathlib.Core.Path.{◌≡◌, refl, sym, ap, ◌∙◌}
use mathlib.Core.Logic.{◌⊎◌, inl, inr, ◌↔◌}
use mathlib.Core.Bool.{Bool, true, false, ◌||◌, true≢false}
use mathlib.Core.List.Memᴰ
use mathlib.Core.List.{List, [], ◌∷◌, ◌++◌, Memᴰ}
use mathlib.Core.List.Permᴰ
use mathlib.Core.List.{Permᴰ}
use Prim.Native.Nat.{ℕ, suc, ◌*◌, ◌≤◌, ◌<◌, min}
use native.Mathlib.Omega.{arith}
use lib.ListN.{length, drop}
use lib.Seq.{take_at, drop_at, drop-drop}
use lib.Dec.{leb}
use borrow.Author.Tests.{leb-true, leb-false, le-leb}
use Rattle.store.specs.declared.Position.{Position}
use Rattle.store.specs.declared.Position.TheVariants.{Subject, Predicate, Object}
use Rattle.store.specs.declared.Counters.{Counters}
use Rattle.store.specs.declared.Refusal.TheVariants.{Capacity, BadQuery, Damaged}
use Rattle.store.specs.Shared.{all3}
use Rattle.store.specs.Tables.{Tables, fits, count_at}
use Rattle.store.specs.Soundness.{Sound}
use Rattle.store.proofs.Tests.{decide, and_l, and_r, and-of, all3-at, all3-of}
use Rattle.store.proofs.Falling.{length-le}
use Rattle.graph.specs.declared.QueryPattern.{QueryPattern}
use Rattle.std.specs.Prelude.{Result, Ok, Err}
use Rattle.store.specs.declared.Refusal.{Refusal}
use Rattle.graph.specs.declared.QueryCursor.{QueryCursor}
use Rattle.graph.specs.Words.{variables, is_variable, word_at, patterns_of, words_ok}
use Rattle.graph.specs.Query.{open_query_of}
use Rattle.graph.specs.Place.{start_cursor}
use Rattle.graph.specs.Values.{query_opened_values}
use Rattle.graph.specs.Meaning.{TriplePattern}
use Rattle.graph.specs.Graph.{graph_of, query_of}
use Rattle.graph.specs.Claims.{read_on, next_reply, reading}
use Rattle.graph.specs.Arranging.{countable, all_countable, count_or, key_of, none_below, least_at, to_front, arranged}
use Rattle.graph.specs.Arranging.{ArrangedOpening, arranged_with, arrange_of, arrange_refusal, SamePatterns, LeastCount, KeyClaim, Fronted}
use Rattle.graph.specs.Arranging.{IsArranged, ArrangedClaim, CountAbove, ArrangeRefuses, arranged_reading}
use Rattle.graph.specs.Arranging.{ArrangedReads, ArrangedReadingClaim}
use Rattle.graph.proofs.Solve.{Every, every-member, every_of}
use Rattle.graph.proofs.InOrder.{in_order, in_order_lem}
use Rattle.graph.proofs.Laws.{patterns-length}
use Rattle.graph.proofs.Bind.{Fits3}
use Rattle.graph.proofs.Levels.{LowWords}
use Rattle.graph.proofs.Permuted.{perm-length}
use Rattle.graph.proofs.Accepted.{words-accepted}
use Rattle.graph.proofs.Calls.{fit, low, query-reads}
use Rattle.graph.proofs.Arrangements.{same-patterns-same, rearranged, same-solves, same-terms}

-- ---- tests

all3-not : (f : Position → Bool) → all3 f ≡ false → (p : Position) × (f p ≡ false)
all3-not f e =
    decide (f Subject)
    (λ a. decide (f Predicate) (λ b. (Object, rw (a, b) at e)) (λ b. (Predicate, b)))
    (λ a. (Subject, a))

or-not : (a b : Bool) → a || b ≡ false → (a ≡ false) × (b ≡ false)
or-not true b e = absurd (true≢false e)
or-not false b e = (refl, e)

-- ---- keys

least-of : {P : Type 0} (a b d : ℕ) → (min a (min b d) ≡ a → P) → (min a (min b d) ≡ b → P) → (min a (min b d) ≡ d → P) → P
least-of a b d f g h =
    decide (leb a (min b d))
    (λ e. f (omega (arith, leb-true a (min b d) e)))
    (λ e. decide (leb b d)
    (λ q. g (omega (arith, leb-false a (min b d) e, leb-true b d q)))
    (λ q. h (omega (arith, leb-false a (min b d) e, leb-false b d q))))

module _ (t : ℕ) (res : List ℕ) where
  or-false : (a b : Bool) → a ≡ false → a || b ≡ true → b ≡ true
  or-false true b e h = absurd (true≢false e)
  or-false false b e h = h

  pub counts-low : (x : QueryPattern) → countable t res x ≡ true → (p : Position) → is_variable (word_at p x) ≡ false
      → count_at res p (word_at p x) ≤ t
  unfolding countable
  counts-low x h p e =
      leb-true _ t (or-false (is_variable (word_at p x)) _ e
      (all3-at (λ p. is_variable (word_at p x) || leb (count_at res p (word_at p x)) t) h p))

  abbrev costs : QueryPattern → Position → ℕ
  costs x p = count_or t res p (word_at p x)

  cost-variable : (x : QueryPattern) (p : Position) → is_variable (word_at p x) ≡ true → costs x p ≡ t
  unfolding count_or
  cost-variable x p e = rw e

  cost-number : (x : QueryPattern) (p : Position) → is_variable (word_at p x) ≡ false
      → costs x p ≡ count_at res p (word_at p x)
  unfolding count_or
  cost-number x p e = rw e

  key-low : (x : QueryPattern) (p : Position) → key_of t res x ≤ costs x p
  unfolding key_of
  key-low x Subject = omega arith
  key-low x Predicate = omega arith
  key-low x Object = omega arith

  key_one : (x : QueryPattern) → (p : Position) × (key_of t res x ≡ costs x p)
  unfolding key_of
  key_one x =
      least-of (costs x Subject) (costs x Predicate) (costs x Object) (λ e. (Subject, e)) (λ e. (Predicate, e))
      (λ e. (Object, e))

  -- no count of a pattern is above T
  abbrev Counted : QueryPattern → Type 0
  Counted x = (p : Position) → is_variable (word_at p x) ≡ false → count_at res p (word_at p x) ≤ t

  cost-le : (x : QueryPattern) → Counted x → (p : Position) → costs x p ≤ t
  cost-le x h p =
      decide (is_variable (word_at p x))
      (λ e. omega (arith, cost-variable x p e))
      (λ e. omega (arith, cost-number x p e, h p e))

  key-least : (x : QueryPattern) → Counted x → LeastCount t res x (key_of t res x)
  key-least x h =
      let k = key_one x in
      record {
        variables = λ v. k.1 ∙ cost-variable x k.0 (v k.0);
        least = λ p e. omega (arith, key-low x p, cost-number x p e);
        attained = λ p e. decide (is_variable (word_at k.0 x))
            (λ d. (
              p,
              e,
              by-bounds _ _ _ (omega (arith, key-low x p, cost-number x p e))
                  (h p e) (k.1 ∙ cost-variable x k.0 d),
            ))
            (λ d. (k.0, d, k.1 ∙ cost-number x k.0 d));
      }
    where
      by-bounds : (a b t : ℕ) → a ≤ b → b ≤ t → a ≡ t → a ≡ b
      by-bounds a b t h g e = omega arith

  key-le : (x : QueryPattern) → Counted x → key_of t res x ≤ t
  key-le x h = omega (arith, key-low x Subject, cost-le x h Subject)

pub keys : KeyClaim
keys t res x h = (key-least t res x h, key-le t res x h)

-- ---- the first pattern of least key

-- the pattern at i is the first of least key
record Least (key : QueryPattern → ℕ) (ps : List QueryPattern) (i : ℕ) : Type 0 where
  first : QueryPattern
  before : List QueryPattern
  after : List QueryPattern
  given : ps ≡ before ++ (first ∷ after)
  place : length before ≡ i
  earlier : (y : QueryPattern) → Memᴰ y before → key first < key y
  later : (y : QueryPattern) → Memᴰ y after → key first ≤ key y

module _ (key : QueryPattern → ℕ) where
  -- no pattern of the list has a lower key
  least-all : {ps : List QueryPattern} {i : ℕ} (L : Least key ps i) (y : QueryPattern) → Memᴰ y ps
      → key L.first ≤ key y
  least-all L y m = one (Memᴰ.append_cases L.before (rw L.given at m))
    where
      two : (y ≡ L.first) ⊎ Memᴰ y L.after → key L.first ≤ key y
      two (inl e) = rw e (omega arith)
      two (inr n) = L.later y n

      one : Memᴰ y L.before ⊎ Memᴰ y (L.first ∷ L.after) → key L.first ≤ key y
      one (inl n) = omega (arith, L.earlier y n)
      one (inr n) = two (Memᴰ.cases_cons n)

  least_first : (x : QueryPattern) (ps : List QueryPattern) → ((y : QueryPattern) → Memᴰ y ps → key x ≤ key y)
      → Least key (x ∷ ps) 0
  least_first x ps h = record {
    first = x;
    before = [];
    after = ps;
    given = refl;
    place = refl;
    earlier = λ y m. absurd (Memᴰ.not-nil m);
    later = h;
  }

  -- a pattern more before them, of a key above one of theirs
  least-later : (x y : QueryPattern) {ps : List QueryPattern} {i : ℕ} → Least key ps i → Memᴰ y ps → key y < key x
      → Least key (x ∷ ps) (suc i)
  least-later x y L n h = record {
    first = L.first;
    before = x ∷ L.before;
    after = L.after;
    given = ap (λ (z : List QueryPattern). x ∷ z) L.given;
    place = ap suc L.place;
    earlier = λ z m. one z (Memᴰ.cases_cons m);
    later = L.later;
  }
    where
      one : (z : QueryPattern) → (z ≡ x) ⊎ Memᴰ z L.before → key L.first < key z
      one z (inl e) = rw e (omega (arith, least-all L y n))
      one z (inr k) = L.earlier z k

module _ (t : ℕ) (res : List ℕ) where
  abbrev key : QueryPattern → ℕ
  key = key_of t res

  none_below_lem : (k : ℕ) (ps : List QueryPattern) → none_below t res k ps ≡ true → Every (λ y. k ≤ key y) ps
  unfolding none_below
  none_below_lem k [] e = tt
  none_below_lem k (x ∷ ps) e = (leb-true k (key x) (and_l (leb k (key x)) _ e), none_below_lem k ps (and_r (leb k (key x)) _ e))

  pub one_below : (k : ℕ) (ps : List QueryPattern) → none_below t res k ps ≡ false
      → (y : QueryPattern) × Memᴰ y ps × (key y < k)
  unfolding none_below
  one_below k [] e = absurd (true≢false e)
  one_below k (x ∷ ps) e =
      decide (leb k (key x))
      (λ d. let r = one_below k ps (rw d at e) in (r.0, Memᴰ.tail r.1, r.2))
      (λ d. (x, Memᴰ.head refl, leb-false k (key x) d))

  pub least-here : (x : QueryPattern) (ps : List QueryPattern) → none_below t res (key x) ps ≡ true
      → least_at t res (x ∷ ps) ≡ 0
  unfolding least_at
  least-here x ps e = rw e

  pub least_on : (x : QueryPattern) (ps : List QueryPattern) → none_below t res (key x) ps ≡ false
      → least_at t res (x ∷ ps) ≡ suc (least_at t res ps)
  unfolding least_at
  least_on x ps e = rw e

  -- a pattern and those after it, with what is known of these
  least-turn : (x : QueryPattern) (ps : List QueryPattern)
      → ((y : QueryPattern) → Memᴰ y ps → Least key ps (least_at t res ps)) → Least key (x ∷ ps) (least_at t res (x ∷ ps))
  least-turn x ps f =
      decide (none_below t res (key x) ps)
      (λ e. rw (least-here x ps e) (least_first key x ps (λ y m.
      every-member (λ y. key x ≤ key y) ps y (none_below_lem (key x) ps e) m)))
      (λ e. let r = one_below (key x) ps e in
      rw (least_on x ps e) (least-later key x r.0 (f r.0 r.1) r.1 r.2))

  least-is : (x : QueryPattern) (ps : List QueryPattern) → Least key (x ∷ ps) (least_at t res (x ∷ ps))
  least-is x [] = least-turn x [] (λ y m. absurd (Memᴰ.not-nil m))
  least-is x (y ∷ ps) = least-turn x (y ∷ ps) (λ z m. least-is y ps)

-- ---- words of patterns

unfoldable pub words_of : List QueryPattern → List ℕ
words_of [] = []
words_of (x ∷ ps) = x.subject ∷ x.predicate ∷ x.object ∷ words_of ps

pub words-of : (ws : List ℕ) → length ws ≡ 3 * length (patterns_of ws) → words_of (patterns_of ws) ≡ ws
unfolding patterns_of words_of
words-of [] e = refl
words-of (a ∷ []) e = absurd (omega arith)
words-of (a ∷ b ∷ []) e = absurd (omega arith)
words-of (a ∷ b ∷ d ∷ ws) e = ap (λ (z : List ℕ). a ∷ b ∷ d ∷ z) (words-of ws (omega arith))

pub patterns-of : (ps : List QueryPattern) → patterns_of (words_of ps) ≡ ps
unfolding patterns_of words_of
patterns-of [] = refl
patterns-of (x ∷ ps) = ap (λ (z : List QueryPattern). x ∷ z) (patterns-of ps)

words_append : (ps qs : List QueryPattern) → words_of (ps ++ qs) ≡ words_of ps ++ words_of qs
unfolding words_of
words_append [] qs = refl
words_append (x ∷ ps) qs = ap (λ (z : List ℕ). x.subject ∷ x.predicate ∷ x.object ∷ z) (words_append ps qs)

words-length : (ps : List QueryPattern) → length (words_of ps) ≡ 3 * length ps
unfolding words_of
words-length [] = refl
words-length (x ∷ ps) = omega (arith, words-length ps)

front-words : (before after : List QueryPattern) (x : QueryPattern)
    → to_front (length before) (words_of (before ++ (x ∷ after))) ≡ words_of (x ∷ (before ++ after))
unfolding to_front words_of
front-words before after x =
    let n = words-length before in
    let w = words_append before (x ∷ after) in
    let d : drop (3 * length before) (words_of before ++ words_of (x ∷ after)) ≡ words_of (x ∷ after) =
    drop_at (words_of before) (words_of (x ∷ after)) (3 * length before) n in
    rw (
      w,
      ← drop-drop 3 (3 * length before) (words_of before ++ words_of (x ∷ after)),
      d,
      take_at (words_of before) (words_of (x ∷ after)) (3 * length before) n,
      words_append before after,
    )

-- ---- the words answered

all-countable : (t : ℕ) (res : List ℕ) (ps : List QueryPattern) → all_countable t res ps ≡ true
    → Every (λ x. countable t res x ≡ true) ps
unfolding all_countable
all-countable t res [] e = tt
all-countable t res (x ∷ ps) e = (and_l (countable t res x) _ e, all-countable t res ps (and_r (countable t res x) _ e))

of-countable : (t : ℕ) (res : List ℕ) (ps : List QueryPattern) → Every (λ x. countable t res x ≡ true) ps
    → all_countable t res ps ≡ true
unfolding all_countable
of-countable t res [] h = refl
of-countable t res (x ∷ ps) h = and-of _ _ h.0 (of-countable t res ps h.1)

-- the patterns with one put first
pub record Put (t : ℕ) (res : List ℕ) (ps : List QueryPattern) (ws' : List ℕ) : Type 0 where
  pub order : List QueryPattern
  pub written : ws' ≡ words_of order
  pub permuted : Permᴰ ps order
  pub fronted : (ps ≡ []) ⊎ Fronted (key_of t res) ps order

module _ (t : ℕ) (res : List ℕ) where
  front_of : (ps : List QueryPattern) (i : ℕ) → Least (key_of t res) ps i → Put t res ps (to_front i (words_of ps))
  front_of ps i L = record {
    order = L.first ∷ (L.before ++ L.after);
    written = ap (λ (z : ℕ). to_front z (words_of ps)) (sym L.place)
        ∙ ap (λ (z : List QueryPattern). to_front (length L.before) (words_of z)) L.given
        ∙ front-words L.before L.after L.first;
    permuted = rw L.given (Permᴰ.middle L.first L.before L.after);
    fronted = inr (record {
      first = L.first;
      before = L.before;
      after = L.after;
      given = L.given;
      put = refl;
      earlier = L.earlier;
      later = L.later;
    });
  }

  put_of : (ps : List QueryPattern) → Put t res ps (to_front (least_at t res ps) (words_of ps))
  put_of [] = record {
    order = [];
    written = unfold to_front words_of least_at in refl;
    permuted = Permᴰ.refl [];
    fronted = inl refl;
  }
  put_of (x ∷ ps) = front_of (x ∷ ps) (least_at t res (x ∷ ps)) (least-is t res x ps)

-- ---- each way of the second opening

module _ (c : Counters) (m : Tables) (ws : List ℕ) where
  abbrev counted : Bool
  counted = all_countable c.statements m.resources (patterns_of ws)

  pub arrange-capacity : fits c m ≡ false → arrange_of c m ws ≡ arranged_with ws (Err Capacity)
  unfolding arrange_of
  arrange-capacity e = rw e

  pub arrange-words : fits c m ≡ true → words_ok c.resources ws ≡ false
      → arrange_of c m ws ≡ arranged_with ws (Err BadQuery)
  unfolding arrange_of
  arrange-words e f = rw (e, f)

  pub arrange-damaged : fits c m ≡ true → words_ok c.resources ws ≡ true → counted ≡ false
      → arrange_of c m ws ≡ arranged_with ws (Err Damaged)
  unfolding arrange_of
  arrange-damaged e f g = rw (e, f, g)

  pub arrange-opened : fits c m ≡ true → words_ok c.resources ws ≡ true → counted ≡ true
      → arrange_of c m ws
      ≡ arranged_with (arranged c.statements m.resources ws) (Ok (start_cursor c.generation))
  unfolding arrange_of
  arrange-opened e f g = rw (e, f, g)

  -- the refusal's number by the reply
  number-of : (r : ArrangedOpening) → arrange_of c m ws ≡ r
      → arrange_refusal c m ws ≡ (query_opened_values r.opened).refusal
  number-of r e = ap (λ (z : ArrangedOpening). (query_opened_values z.opened).refusal) e

  pub arrange-unrefused : fits c m ≡ true → words_ok c.resources ws ≡ true → counted ≡ true
      → arrange_refusal c m ws ≡ 0
  arrange-unrefused e f g = number-of _ (arrange-opened e f g)

  -- and by the three tests
  refusal_is : arrange_refusal c m ws ≡ in_order 8 (fits c m) (words_ok c.resources ws) counted
  refusal_is =
      decide (fits c m)
      (λ e. decide (words_ok c.resources ws)
      (λ f. decide counted
      (λ g. number-of _ (arrange-opened e f g) ∙ rw (e, f, g))
      (λ g. number-of _ (arrange-damaged e f g) ∙ rw (e, f, g)))
      (λ f. number-of _ (arrange-words e f) ∙ rw (e, f)))
      (λ e. number-of _ (arrange-capacity e) ∙ rw e)

  -- ---- not refused

  module _ (e : fits c m ≡ true) (f : words_ok c.resources ws ≡ true) (g : counted ≡ true) where
    abbrev ws' : List ℕ
    ws' = arranged c.statements m.resources ws

    three-each : length ws ≡ 3 * length (patterns_of ws)
    three-each = let A = (words-accepted c.resources ws).0 f in
        omega (arith, A.three-each, (patterns-length ws).0, (patterns-length ws).1)

    put_first : Put c.statements m.resources (patterns_of ws) ws'
    unfolding arranged
    put_first =
        rw (words-of ws three-each) at (put_of c.statements m.resources (patterns_of ws))

    same-order : patterns_of ws' ≡ put_first.order
    same-order = ap patterns_of put_first.written ∙ patterns-of put_first.order

    same_length : length ws' ≡ length ws
    same_length =
        omega (
          arith,
          ap (λ (z : List ℕ). length z) put_first.written,
          words-length put_first.order,
          perm-length put_first.permuted,
          three-each,
        )

    permuted : Permᴰ (patterns_of ws) (patterns_of ws')
    permuted = rw same-order put_first.permuted

    words-kept : words_ok c.resources ws' ≡ true
    words-kept = (rearranged c.resources ws ws' f permuted same_length).0

    opens_as : Ok (start_cursor c.generation) ≡ open_query_of c m ws'
    unfolding open_query_of
    opens_as = rw (e, words-kept)

    is-arranged : IsArranged c m ws ws'
    is-arranged = record {
      words = words-kept;
      length-kept = same_length;
      permuted = permuted;
      fronted = rw same-order put_first.fronted;
      opens = rw (arrange-opened e f g) opens_as;
    }

    arranged-words : (arrange_of c m ws).words ≡ ws'
    arranged-words = rw (arrange-opened e f g)

    pub arranged_is : IsArranged c m ws (arrange_of c m ws).words
    arranged_is = rw arranged-words is-arranged

pub arranges : ArrangedClaim
arranges c m ws h =
    let w = (in_order_lem 8 (λ e. omega arith) (λ e. omega arith) (λ e. omega arith) (fits c m) (words_ok c.resources ws)
    (counted c m ws)).3.0 (sym (refusal_is c m ws) ∙ h) in
    arranged_is c m ws w.0 w.1 w.2

-- ---- refusals

module _ (t : ℕ) (res : List ℕ) where
  above_at : (x : QueryPattern) → countable t res x ≡ false
      → (p : Position) × (is_variable (word_at p x) ≡ false) × (t < count_at res p (word_at p x))
  unfolding countable
  above_at x e =
      let r = all3-not (λ p. is_variable (word_at p x) || leb (count_at res p (word_at p x)) t) e in
      let q = or-not (is_variable (word_at r.0 x)) _ r.1 in
      (r.0, q.0, leb-false (count_at res r.0 (word_at r.0 x)) t q.1)

  count-above : (ps : List QueryPattern) → all_countable t res ps ≡ false
      → (x : QueryPattern) × Memᴰ x ps × (p : Position) × (is_variable (word_at p x) ≡ false)
      × (t < count_at res p (word_at p x))
  unfolding all_countable
  count-above [] e = absurd (true≢false e)
  count-above (x ∷ ps) e =
      decide (countable t res x)
      (λ d. let r = count-above ps (rw d at e) in (r.0, Memᴰ.tail r.1, r.2, r.3, r.4))
      (λ d. let r = above_at x d in (x, Memᴰ.head refl, r.0, r.1, r.2))

pub arrange-refuses : ArrangeRefuses
arrange-refuses c m ws =
    let a = fits c m in
    let b = words_ok c.resources ws in
    let d = counted c m ws in
    let W = in_order_lem 8 (λ e. omega arith) (λ e. omega arith) (λ e. omega arith) a b d in
    let n = refusal_is c m ws in
    let none : d ≡ true → CountAbove c.statements m.resources ws → ⊥ = λ g x.
    omega (
      arith,
      x.4,
      counts-low c.statements m.resources x.0
          (every-member (λ x. countable c.statements m.resources x ≡ true) (patterns_of ws) x.0
          (all-countable c.statements m.resources (patterns_of ws) g) x.1) x.2 x.3,
    ) in
    rw n (record {
      capacity = W.0;
      words = W.1;
      damaged = (
        (λ e. let r = W.2.0 e in (r.0, r.1, count-above c.statements m.resources (patterns_of ws) r.2)),
        (λ r. W.2.1 (r.0, r.1, decide d (λ g. absurd (none g r.2)) (λ g. g))),
      );
      accepted = (
        (λ e. let r = W.3.0 e in (r.0, r.1, none r.2)),
        (λ r. W.3.1 (
          r.0,
          r.1,
          decide d (λ g. g) (λ g.
              absurd (r.2 (count-above c.statements m.resources (patterns_of ws) g))),
        )),
      );
      bare = λ h. decide a
          (λ e. decide b
          (λ f. decide d
          (λ g. absurd (h (W.3.1 (e, f, g))))
          (λ g. rw (arrange-damaged c m ws e f g) (refl, refl)))
          (λ f. rw (arrange-words c m ws e f) (refl, refl)))
          (λ e. rw (arrange-capacity c m ws e) (refl, refl));
    })

-- ---- on a sound store

module _ (c : Counters) (m : Tables) (S : Sound c m) (ws : List ℕ) (f : words_ok c.resources ws ≡ true) where
  sound-countable : counted c m ws ≡ true
  sound-countable =
      of-countable c.statements m.resources (patterns_of ws)
      (every_of (λ x. countable c.statements m.resources x ≡ true) (patterns_of ws) (λ x k. one x k))
    where
      one : (x : QueryPattern) → Memᴰ x (patterns_of ws) → countable c.statements m.resources x ≡ true
      one x k = unfold countable in
          (all3-of (λ p. is_variable (word_at p x) || leb (count_at m.resources p (word_at p x)) c.statements)
          (λ p. decide (is_variable (word_at p x))
          (λ e. rw e)
          (λ e. let w = word_at p x in
          let g = every-member (λ x. LowWords c.resources x) (patterns_of ws) x (low c m S ws f) k p e in
          let h = (every-member (λ x. Fits3 variables x) (patterns_of ws) x (fit c m S ws f) k p).number e in
          rw (e, S.linked.count p w h g) (le-leb _ c.statements (length-le _ c.statements)))))

  abbrev answer : List ℕ
  answer = (arrange_of c m ws).words

  arranged-here : IsArranged c m ws answer
  arranged-here = arranged_is c m ws S.capacity f sound-countable

  reading-is : (bs : List ℕ) → arranged_reading c m ws bs ≡ reading c m answer bs
  reading-is bs = ap (λ (o : Result QueryCursor Refusal). read_on (next_reply c m answer) (query_opened_values o).cursor bs) arranged-here.opens

  same-patterns : SamePatterns ws answer
  same-patterns = (rearranged c.resources ws answer f arranged-here.permuted arranged-here.length-kept).1

  reads-arranged : ArrangedReads c m ws
  reads-arranged =
      let w = arranged-here.words in
      let R = query-reads c m S answer w in
      let T = same-patterns-same c m S ws answer f w same-patterns in
      record {
        unrefused = arrange-unrefused c m ws S.capacity f sound-countable;
        all = R.1.0;
        exactly = R.1.1;
        read = λ bs h. rw (reading-is bs) (R.1.2 bs h);
        ends = record {
          ends = λ bs h l. rw (reading-is bs) (R.2.ends bs h l);
          visits = λ bs h. rw (reading-is bs) (R.2.visits bs h);
          early = λ bs h. rw (reading-is bs) (R.2.early bs h);
        };
        same = λ bs bs' h p. rw (reading-is bs') (λ e. T.same bs bs' h (p, e));
        given = λ μ. (
          (λ W. (R.1.1.exact μ).0 (same-solves (graph_of c m) (query_of m ws) (query_of m answer) μ (terms ws answer same-patterns) W)),
          (λ k. same-solves (graph_of c m) (query_of m answer) (query_of m ws) μ (terms answer ws (λ x. ((same-patterns x).1, (same-patterns x).0)))
              ((R.1.1.exact μ).1 k)),
        );
      }
    where
      terms : (ws ws' : List ℕ) → SamePatterns ws ws' → (p : TriplePattern)
          → Memᴰ p (query_of m ws) ↔ Memᴰ p (query_of m ws')
      terms ws ws' h p = (
        same-terms m (patterns_of ws) (patterns_of ws') (λ x. (h x).0) p,
        same-terms m (patterns_of ws') (patterns_of ws) (λ x. (h x).1) p,
      )

pub arranged-reads : ArrangedReadingClaim
arranged-reads = reads-arranged
