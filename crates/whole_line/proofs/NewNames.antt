-- Laws for the code that tells new names: bytes compared one by one, what a find says, a name after others, the counters with the names
-- that are new. Assumes nothing.
use mathlib.Core.Path.{◌≡◌, refl, sym, ap, ◌∙◌}
use mathlib.Core.Logic.{◌≢◌}
use mathlib.Core.Bool.{Bool, true, false, cond, false≢true}
use mathlib.Core.List.{List, [], ◌∷◌, ◌++◌}
use Prim.Native.Nat.{ℕ, zero, suc, ◌+◌, ◌≤◌, ◌<◌}
use native.Mathlib.Omega.{arith}
use native.Mathlib.Numerals.{add-one}
use lib.ListN.{length, get_or, get_or-append}
use lib.Seq.{ext_get_or, get_or-append_seam}
use lib.Dec.{eqb}
use borrow.Author.Tests.{ne_eqb, eq-eqb}
use Rattle.term.specs.Bytes.{eq_bytes}
use Rattle.term.proofs.Booleans.{eq_bytes-is, eq_bytes-refl, eq_bytes-not}
use Rattle.store.specs.declared.Counters.{Counters}
use Rattle.store.specs.declared.ResourceId.{ResourceId}
use Rattle.store.specs.declared.Refusal.{Refusal}
use Rattle.store.specs.declared.Lookup.TheVariants.{Number, Absent}
use Rattle.term.specs.Grammar.{name_limit}
use Rattle.store.specs.Shared.{max_resources, max_text, text_bytes, lookup_name, below}
use Rattle.store.specs.Tables.{Tables, fits}
use Rattle.store.specs.Names.{Named, storable}
use Rattle.store.specs.Dictionary.{found_at, find_of, FindAnswer, one_name_more}
use Rattle.store.specs.Statement.{one_statement_more}
use Rattle.store.proofs.Tests.{decide, upto}
use Rattle.store.proofs.Falling.{below-cong}
use Rattle.store.proofs.Text.{length-snoc, bytes-snoc}
use Rattle.store.proofs.Form.{form-short, storable-formed, storable-kept}
use Rattle.store.proofs.Held.{named-names}
use Rattle.whole_line.specs.Room.{with_new, names_with, three_names, is_new, counters_with, room_with, Storable}
use Rattle.whole_line.specs.Room.{NewAnswer, NamesAnswer, RoomAnswer}
use Rattle.std.specs.Prelude.{Err, Ok, Result}
use Rattle.store.specs.declared.Lookup.{Lookup}

-- ---- the same bytes

pub record SameSoFar (a b : List ℕ) (i : ℕ) : Type 0 where
  pub long : length a ≡ length b
  pub within : i ≤ length a
  pub bytes : (j : ℕ) → j < i → get_or a j 0 ≡ get_or b j 0

pub same-short : (a b : List ℕ) → length a ≢ length b → false ≡ eq_bytes a b
same-short a b h = sym (eq_bytes-not a b (λ e. h (ap length e)))

pub same_differs : (a b : List ℕ) (i : ℕ) → get_or a i 0 ≢ get_or b i 0 → false ≡ eq_bytes a b
same_differs a b i h = sym (eq_bytes-not a b (λ e. h (ap (λ (w : List ℕ). get_or w i 0) e)))

module _ {a b : List ℕ} where
  pub same-begins : length a ≡ length b → SameSoFar a b 0
  same-begins e = record { long = e; within = omega arith; bytes = λ j h. absurd (omega arith) }

  pub same-turns : {i : ℕ} → SameSoFar a b i → i < length a → get_or a i 0 ≡ get_or b i 0 → SameSoFar a b (i + 1)
  same-turns {i} S h e = record {
    long = S.long;
    within = omega arith;
    bytes = λ j q. upto (λ j. get_or a j 0 ≡ get_or b j 0) i S.bytes e j (omega arith);
  }

  pub same_ends : {i : ℕ} → SameSoFar a b i → length a ≤ i → true ≡ eq_bytes a b
  same_ends S h = let e = ext_get_or 0 a b S.long (λ j q. S.bytes j (omega arith)) in rw e (sym (eq_bytes-refl b))

-- ---- a name that is new

abbrev is_absent : Result Lookup Refusal → Bool
is_absent (Ok (Number n k)) = false
is_absent (Ok (Absent k)) = true
is_absent (Err e) = false

absent-zero : (n k : ℕ) → is_absent (found_at n k) ≡ eqb n 0
absent-zero zero k = refl
absent-zero (suc n) k = sym (ne_eqb (suc n) 0 (λ e. omega arith))

find-tells : (ns : List (List ℕ)) (c : Counters) (m : Tables) (w : List ℕ) → Named ns c m → fits c m ≡ true → storable w ≡ true
    → is_absent (find_of c m w) ≡ eqb (lookup_name w ns) 0
unfolding find_of
find-tells ns c m w N f s =
    rw (f, storable-formed w s, storable-kept w s, named-names ns c m N) (absent-zero (lookup_name w ns) _)

module _ {c : Counters} {m : Tables} {w : List ℕ} where
  found-new : {a : Result Lookup Refusal} {r : Bool} → FindAnswer c m w a → storable w ≡ true → r ≡ is_absent a → NewAnswer c m [] w r
  unfolding is_new
  found-new F s e = record {
    exact = λ ns N f. e ∙ (ap is_absent (F.exact ns N) ∙ find-tells ns c m w N f s);
  }

  pub new-absent : {a : Result Lookup Refusal} {k : ℕ} → FindAnswer c m w a → storable w ≡ true → a ≡ Ok (Absent k) → NewAnswer c m [] w true
  new-absent F s e = found-new F s (ap is_absent (sym e))

  pub new-number : {a : Result Lookup Refusal} {n : ResourceId} {k : ℕ} → FindAnswer c m w a → storable w ≡ true → a ≡ Ok (Number n k)
      → NewAnswer c m [] w false
  new-number F s e = found-new F s (ap is_absent (sym e))

  pub new-refused : {a : Result Lookup Refusal} {q : Refusal} → FindAnswer c m w a → storable w ≡ true → a ≡ Err q
      → NewAnswer c m [] w false
  new-refused F s e = found-new F s (ap is_absent (sym e))

  -- after another
  pub new-same : {v : List ℕ} {vs : List (List ℕ)} {b : Bool} → b ≡ eq_bytes v w → b ≡ true → NewAnswer c m (v ∷ vs) w false
  unfolding is_new
  new-same e t = record { exact = λ ns N f. rw (← e, t) }

  pub new-other : {v : List ℕ} {vs : List (List ℕ)} {b r : Bool} → b ≡ eq_bytes v w → b ≡ false → NewAnswer c m vs w r
      → NewAnswer c m (v ∷ vs) w r
  unfolding is_new
  new-other e t A = record { exact = λ ns N f. A.exact ns N f ∙ rw (← e, t) }

-- ---- the names with one more

lookup-snoc : (ns : List (List ℕ)) (v w : List ℕ)
    → lookup_name w (ns ++ v ∷ []) ≡ cond (eq_bytes v w) (suc (length ns)) (lookup_name w ns)
unfolding lookup_name below
lookup-snoc ns v w =
    let old = below-cong (λ i. eq_bytes (get_or (ns ++ v ∷ []) i []) w) (λ i. eq_bytes (get_or ns i []) w) (length ns)
    (λ i h. ap (λ (z : List ℕ). eq_bytes z w) (get_or-append ns (v ∷ []) [] i h)) in
    rw (length-snoc ns v, get_or-append_seam, old)
    (decide (eq_bytes v w) (λ e. rw e) (λ e. rw e))

-- a name is not listed once another is entered exactly if it is no other's and was not listed
listed-with : (ns : List (List ℕ)) (v w : List ℕ)
    → eqb (lookup_name w (with_new ns v)) 0 ≡ cond (eq_bytes v w) false (eqb (lookup_name w ns) 0)
unfolding with_new
listed-with ns v w =
    decide (eqb (lookup_name v ns) 0)
    (λ e. rw (e, lookup-snoc ns v w)
    (decide (eq_bytes v w) (λ q. rw q (ne_eqb (suc (length ns)) 0 (λ z. omega arith))) (λ q. rw q)))
    (λ e. rw e (decide (eq_bytes v w) (λ q. rw q (rw (eq_bytes-is v w q) at e)) (λ q. rw q)))

new_is : (ns vs : List (List ℕ)) (w : List ℕ) → is_new ns vs w ≡ eqb (lookup_name w (names_with ns vs)) 0
unfolding is_new names_with
new_is ns [] w = refl
new_is ns (v ∷ vs) w = rw (new_is ns vs w) (sym (listed-with (names_with ns vs) v w))

-- ---- the counters with one more

with-bounds : (d g : Counters) (w : List ℕ) (b : Bool) → g ≡ cond b (one_name_more d w) d → length w ≤ name_limit
    → (g.resources ≤ d.resources + 1) × (g.text ≤ d.text + 256)
with-bounds d g w true e h = rw e (omega arith, omega arith)
with-bounds d g w false e h = rw e (omega arith, omega arith)

pub short-name : (w : List ℕ) → storable w ≡ true → length w ≤ name_limit
short-name w s = form-short w (storable-formed w s)

-- what `with_name` asks, for the second name and for the third
abbrev Asks : Counters → List ℕ → Type 0
Asks d w = (length w ≤ name_limit) × (d.resources ≤ max_resources + 2) × (d.text ≤ max_text + 512)

module _ (c : Counters) {one : Counters} {s p o : List ℕ} (a : Bool) (H : Storable s p o) (r : c.resources ≤ max_resources)
    (t : c.text ≤ max_text) (e : one ≡ cond a (one_name_more c s) c) where
  pub asks-second : Asks one p
  asks-second =
      let g = with-bounds c one s a e (short-name s H.subject) in (short-name p H.predicate, omega arith, omega arith)

  pub asks-third : {two : Counters} (b : Bool) → two ≡ cond b (one_name_more one p) one → Asks two o
  asks-third {two} b f =
      let g = with-bounds c one s a e (short-name s H.subject) in
      let k = with-bounds one two p b f (short-name p H.predicate) in (short-name o H.object, omega arith, omega arith)

same-counters : (c : Counters) (r b : ℕ) → c.resources ≡ r → c.text ≡ b
    → c ≡ record { resources = r; statements = c.statements; text = b; generation = c.generation }
same-counters c r b e f = rw (← e, ← f)

one_more_lem : (c : Counters) (ns : List (List ℕ)) (w : List ℕ)
    → one_name_more (counters_with c ns) w ≡ counters_with c (ns ++ w ∷ [])
one_more_lem c ns w = rw (length-snoc ns w, bytes-snoc ns w)

grows : (c : Counters) (ns vs : List (List ℕ)) (w : List ℕ) (b : Bool) → b ≡ is_new ns vs w
    → cond b (one_name_more (counters_with c (names_with ns vs)) w) (counters_with c (names_with ns vs))
    ≡ counters_with c (names_with ns (w ∷ vs))
unfolding names_with with_new
grows c ns vs w b e =
    rw (e, new_is ns vs w)
    (decide (eqb (lookup_name w (names_with ns vs)) 0) (λ q. rw q (one_more_lem c (names_with ns vs) w)) (λ q. rw q))

named-counters : (c : Counters) (m : Tables) (ns : List (List ℕ)) → Named ns c m → c ≡ counters_with c (names_with ns [])
unfolding names_with
named-counters c m ns N = same-counters c (length ns) (text_bytes ns) N.size N.bytes

step : (c : Counters) (ns vs : List (List ℕ)) (w : List ℕ) (x y : Counters) (t : Bool) → x ≡ counters_with c (names_with ns vs)
    → t ≡ is_new ns vs w → y ≡ cond t (one_name_more x w) x → y ≡ counters_with c (names_with ns (w ∷ vs))
step c ns vs w x y t h k z = z ∙ (rw h (grows c ns vs w t k))

pub names_more : {c : Counters} {m : Tables} {s p o : List ℕ} {a b d : Bool} {one two three : Counters}
    → NewAnswer c m [] s a → NewAnswer c m (s ∷ []) p b → NewAnswer c m (p ∷ s ∷ []) o d
    → one ≡ cond a (one_name_more c s) c → two ≡ cond b (one_name_more one p) one → three ≡ cond d (one_name_more two o) two
    → NamesAnswer c m (three_names s p o) three
names_more {c} {m} {s} {p} {o} {a} {b} {d} {one} {two} {three} A B D e f g = record {
  exact = λ ns N q.
      let h₁ = step c ns [] s c one a (named-counters c m ns N) (A.exact ns N q) e in
      let h₂ = step c ns (s ∷ []) p one two b h₁ (B.exact ns N q) f in
      step c ns (p ∷ s ∷ []) o two three d h₂ (D.exact ns N q) g;
}

-- what the code answers at a negated test
pub not_more_lem : (b : Bool) (c : Counters) (w : List ℕ) → b ≡ false → c ≡ cond b (one_name_more c w) c
not_more_lem b c w h = rw h

pub is-more : (b : Bool) (c : Counters) (w : List ℕ) → b ≡ true
    → ◌≡◌ {A = Counters}
    (record { resources = c.resources + 1; statements = c.statements; text = c.text + length w + 1; generation = c.generation })
    (cond b (one_name_more c w) c)
is-more b c w h = rw (h, add-one c.resources)

-- ---- room

-- d, with one statement more than c
abbrev with_statement : Counters → Counters → Counters
with_statement c d =
    record { resources = d.resources; statements = c.statements + 1; text = d.text; generation = d.generation }

more-fits : (c d : Counters) (m : Tables) (ns : List (List ℕ)) → d ≡ counters_with c ns
    → fits (with_statement c d) m ≡ fits (one_statement_more (counters_with c ns)) m
more-fits c d m ns e = rw (e, add-one c.statements)

module _ {c : Counters} {m : Tables} {ws : List (List ℕ)} where
  pub room-capacity : fits c m ≡ false → RoomAnswer c m ws true
  room-capacity f = record { exact = λ ns N q. absurd (false≢true (sym f ∙ q)); capacity = λ q. refl }

  module _ {d : Counters} (D : NamesAnswer c m ws d) where
    abbrev with_all : List (List ℕ) → List (List ℕ)
    with_all ns = names_with ns ws

    how-many : (ns : List (List ℕ)) → Named ns c m → fits c m ≡ true → d.resources ≡ length (with_all ns)
    how-many ns N q = ap (λ (x : Counters). x.resources) (D.exact ns N q)

    pub room-none : d.resources ≡ c.resources → RoomAnswer c m ws true
    unfolding room_with
    room-none e = record {
      exact = λ ns N q. rw (eq-eqb (length (with_all ns)) c.resources (sym (how-many ns N q) ∙ e));
      capacity = λ q. refl;
    }

    pub room-more : {r : Bool} → fits c m ≡ true → d.resources ≢ c.resources → r ≡ fits (with_statement c d) m
        → RoomAnswer c m ws r
    unfolding room_with
    room-more f h e = record {
      exact = λ ns N q.
          e ∙ (more-fits c d m (with_all ns) (D.exact ns N q)
          ∙ sym (rw (ne_eqb (length (with_all ns)) c.resources (λ z. h (how-many ns N q ∙ z)))));
      capacity = λ q. absurd (false≢true (sym q ∙ f));
    }
