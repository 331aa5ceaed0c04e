-- A query's words in order, and calls one after another with no change between: on a sound store what they find is a
-- first part of the enumeration (`solve`), all of it once they have ended, and they end (`ReadingClaim`).
-- Assumes nothing.
use mathlib.Core.Path.{◌≡◌, refl, ap, ◌∙◌}
use mathlib.Core.Logic.{inl, inr}
use mathlib.Core.Bool.{true, false}
use mathlib.Core.List.{List, [], ◌∷◌}
use Prim.Native.Nat.{ℕ, suc, ◌*◌, ◌≤◌, ◌<◌}
use native.Mathlib.Omega.{arith}
use lib.ListN.{length}
use lib.Dec.{eqb, leb}
use borrow.Author.Tests.{leb-true, leb-false}
use Rattle.store.specs.declared.Position.{Position}
use Rattle.store.specs.declared.Position.TheVariants.{Subject, Predicate, Object}
use Rattle.store.specs.declared.Counters.{Counters}
use Rattle.store.specs.Tables.{Tables, fits}
use Rattle.store.specs.Walk.{entry_at}
use Rattle.store.specs.Soundness.{Sound}
use Rattle.store.proofs.Tests.{and_l, and_r, fits-parts}
use Rattle.graph.specs.declared.QueryPattern.{QueryPattern}
use Rattle.std.specs.Prelude.{Ok}
use Rattle.graph.specs.declared.QueryCursor.{QueryCursor}
use Rattle.std.specs.Prelude.{Result}
use Rattle.store.specs.declared.Refusal.{Refusal}
use Rattle.graph.specs.declared.QueryAnswer.{QueryAnswer}
use Rattle.graph.specs.Words.{max_patterns, variables, first_variable, is_variable, word_ok, all_ok, words_ok}
use Rattle.graph.specs.Place.{Place, start, inside, finish, start_cursor, cursor_at}
use Rattle.graph.specs.Words.{patterns_of, pattern, Bindings, unbound, under}
use Rattle.graph.specs.Query.{Answer, refused, found, ended, spent, answer_of, open_query_of, packed, next_query_of}
use Rattle.graph.specs.Values.{query_values}
use Rattle.graph.specs.Order.{Descending, record_of, statements_of}
use Rattle.graph.specs.Claims.{Reply, query_reply, AllPositive, statement_numbers, AllInOrder, next_reply, reading}
use Rattle.graph.specs.Claims.{ReadingClaim}
use Rattle.graph.proofs.Accepted.{Word, word-means}
use Rattle.graph.proofs.Laws.{Shallow, place-cursor}
use Rattle.graph.proofs.Refusals.{resumes}
use Rattle.graph.proofs.Generations.{cursor-number, own-number, read-on}
use Rattle.graph.proofs.Bind.{word_at, Fit}
use Rattle.graph.proofs.Solve.{solve, AllFit, solve-descending, statements, number_of, descending-map}
use Rattle.graph.proofs.Solve.{descending-nodup}
use Rattle.graph.proofs.Levels.{AllLow}
use Rattle.graph.specs.Work.{work_of}
use Rattle.graph.proofs.Reading.{left_at, toil_at, visits_at, Reached, Outcome, go-outcome, reached-ok}
use Rattle.graph.proofs.Solutions.{positive, single, exactly, once-as-mappings}
use Rattle.graph.proofs.ReadThrough as read
use Rattle.graph.proofs.ReadThrough.{Told, told-ends, Leaves, told}

-- ---- words in order

word_fit : (r w : ℕ) → r < first_variable → word_ok r w ≡ true → Fit variables w × (is_variable w ≡ false → w ≤ r)
word_fit r w h e = one (word-means r w e)
  where
    one : Word r w → Fit variables w × (is_variable w ≡ false → w ≤ r)
    one (inl d) = (
      record { number = λ q. d.0; variable = λ q. absurd (omega (arith, d.1, leb-true first_variable w q)) },
      λ q. d.1,
    )
    one (inr d) = (
      record {
        number = λ q. absurd (omega (arith, d.2, leb-false first_variable w q));
        variable = λ q. omega (arith, d.1, d.2);
      },
      λ q. absurd (omega (arith, d.2, leb-false first_variable w q)),
    )

abbrev WordFit : ℕ → ℕ → Type 0
WordFit r w = Fit variables w × (is_variable w ≡ false → w ≤ r)

words-fit : (r : ℕ) (ws : List ℕ) → r < first_variable → all_ok r ws ≡ true → AllFit variables (patterns_of ws)
    × AllLow r (patterns_of ws)
unfolding patterns_of all_ok
words-fit r [] h e = (tt, tt)
words-fit r (a ∷ []) h e = (tt, tt)
words-fit r (a ∷ b ∷ []) h e = (tt, tt)
words-fit r (a ∷ b ∷ d ∷ ws) h e =
    let e1 = and_l (word_ok r a) _ e in
    let r1 = and_r (word_ok r a) _ e in
    let e2 = and_l (word_ok r b) _ r1 in
    let r2 = and_r (word_ok r b) _ r1 in
    let e3 = and_l (word_ok r d) _ r2 in
    let r3 = and_r (word_ok r d) _ r2 in
    let k = words-fit r ws h r3 in (
      ((λ p. fit3 p (word_fit r a h e1) (word_fit r b h e2) (word_fit r d h e3)), k.0),
      ((λ p. low3 p (word_fit r a h e1) (word_fit r b h e2) (word_fit r d h e3)), k.1),
    )
  where
    fit3 : (p : Position) → WordFit r a → WordFit r b → WordFit r d → Fit variables (word_at p (pattern a b d))
    fit3 Subject x y z = x.0
    fit3 Predicate x y z = y.0
    fit3 Object x y z = z.0

    low3 : (p : Position) → WordFit r a → WordFit r b → WordFit r d
        → is_variable (word_at p (pattern a b d)) ≡ false → word_at p (pattern a b d) ≤ r
    low3 Subject x y z = x.1
    low3 Predicate x y z = y.1
    low3 Object x y z = z.1

fits-small : (c : Counters) (m : Tables) → fits c m ≡ true → c.resources < first_variable
fits-small c m e = omega (arith, (fits-parts c m e).0)

words-all : (r : ℕ) (ws : List ℕ) → words_ok r ws ≡ true → all_ok r ws ≡ true
unfolding words_ok
words-all r ws e = and_r (leb (length (patterns_of ws)) max_patterns) _
    (and_r (eqb (3 * length (patterns_of ws)) (length ws)) _ e)

pub words-few : (r : ℕ) (ws : List ℕ) → words_ok r ws ≡ true → length (patterns_of ws) ≤ max_patterns
unfolding words_ok
words-few r ws e =
    leb-true (length (patterns_of ws)) max_patterns (and_l (leb (length (patterns_of ws)) max_patterns) _
    (and_r (eqb (3 * length (patterns_of ws)) (length ws)) _ e))

pub words-fitting : (c : Counters) (m : Tables) (ws : List ℕ) → fits c m ≡ true → words_ok c.resources ws ≡ true
    → AllFit variables (patterns_of ws) × AllLow c.resources (patterns_of ws)
words-fitting c m ws f w = words-fit c.resources ws (fits-small c m f) (words-all c.resources ws w)

pub statements-are : (t : ℕ) (stm : List ℕ) (ps : List QueryPattern) (s : Bindings)
    → statements (entry_at stm) t ps s ≡ statements_of t stm ps s
unfolding statements statements_of number_of record_of entry_at
statements-are t stm [] s = refl
statements-are t stm (x ∷ ps) s = ap (λ (z : List ℕ). record_of t stm (under s x) ∷ z) (statements-are t stm ps s)

module _ (c : Counters) (m : Tables) (S : Sound c m) (ws : List ℕ) (words : words_ok c.resources ws ≡ true) where
  pub fit : AllFit variables (patterns_of ws)
  fit = (words-fitting c m ws S.capacity words).0

  pub low : AllLow c.resources (patterns_of ws)
  low = (words-fitting c m ws S.capacity words).1

  -- all solutions, in order
  abbrev pub everything : List Bindings
  everything = solve (entry_at m.statements) c.statements (patterns_of ws) unbound

  abbrev left_from : Place → List Bindings
  left_from q = left_at c.resources c.statements m.resources m.statements (patterns_of ws) q

  abbrev visits_from : Place → ℕ
  visits_from q = visits_at c.resources c.statements m.resources m.statements (patterns_of ws) q

  abbrev toil_from : Place → ℕ
  toil_from q = toil_at c.resources c.statements m.resources m.statements (patterns_of ws) q

  abbrev pub At : Place → Type 0
  At q = Reached c.resources c.statements m.resources m.statements (patterns_of ws) q

  abbrev Comes : Place → ℕ → Answer → Type 0
  Comes q b a =
      Outcome c.resources c.statements m.resources m.statements (patterns_of ws) 0 b (left_from q)
      (visits_from q) (toil_from q) a

  -- ---- one call

  pub reached-shallow : (q : Place) → At q → Shallow q
  reached-shallow start R = tt
  reached-shallow (inside l up) R = omega (arith, R.0.room, words-few c.resources ws words)
  reached-shallow finish R = tt

  pub next-comes : (q : Place) (b : ℕ) → At q → 0 < b → Comes q b (answer_of c m ws q b)
  next-comes q b R h =
      let o = reached-ok c.resources c.statements m.resources m.statements (patterns_of ws)
      S.linked fit low q R in
      rw (resumes c m ws q b (record { capacity = S.capacity; words = words; place = o; budget = h }))
      (go-outcome c.resources c.statements m.resources m.statements (patterns_of ws)
      S.linked fit low q b R h)

  -- with the number of reclaims
  abbrev cursor_here : Place → QueryCursor
  cursor_here q = cursor_at c.generation q

  abbrev pack : Answer → Result QueryAnswer Refusal
  pack a = packed c.generation a

  pub next-is : (q : Place) (b : ℕ) → Shallow q → next_query_of c m ws (cursor_here q) b ≡ pack (answer_of c m ws q b)
  next-is q b h =
      read-on c m ws (cursor_here q) b (own-number c m ws (cursor_here q) (cursor-number c.generation q))
      ∙ ap (λ (z : Place). pack (answer_of c m ws z b)) (place-cursor c.generation q h)

  -- ---- the calls that follow

  abbrev LeavesAt : Place → Reply Bindings QueryCursor → Type 0
  LeavesAt q r = Leaves (next_reply c m ws) cursor_here left_from visits_from toil_from At q r

  none_left : (left_from finish ≡ []) × (visits_from finish ≡ 0)
  unfolding left_at visits_at
  none_left = (refl, refl)

  leaves : (q : Place) (b : ℕ) (a : Answer) → Comes q b a → 0 < b → LeavesAt q (query_reply (query_values (pack a)))
  unfolding packed
  leaves q b (refused n) o h = absurd o
  leaves q b (found s v q') o h = record {
    now = q';
    ok = o.1;
    unrefused = refl;
    reached = refl;
    paid = omega (arith, o.3);
    comes = read.found refl o.0 o.2;
  }
  leaves q b (ended v) o h = record {
    now = finish;
    ok = tt;
    unrefused = refl;
    reached = refl;
    paid = omega (arith, o.1, none_left.1);
    comes = read.ended refl o.0 none_left.0 none_left.1;
  }
  leaves q b (spent v q') o h = record {
    now = q';
    ok = o.1;
    unrefused = refl;
    reached = refl;
    paid = omega (arith, o.3);
    comes = read.spent refl o.0 (omega (arith, o.2)) o.5;
  }

  next-leaves : (q : Place) (b : ℕ) → At q → 0 < b → LeavesAt q (next_reply c m ws (cursor_here q) b)
  next-leaves q b R h = rw (next-is q b (reached-shallow q R)) (leaves q b (answer_of c m ws q b) (next-comes q b R h) h)

  -- ---- from the start

  opens : open_query_of c m ws ≡ Ok (start_cursor c.generation)
  unfolding open_query_of
  opens = rw (S.capacity, words)

  pub start-told : (bs : List ℕ) → AllPositive bs
      → Told everything (work_of c m ws) (suc (work_of c m ws)) bs (reading c m ws bs)
  unfolding left_at visits_at toil_at cursor_at
  start-told bs h =
      rw opens (told (next_reply c m ws) cursor_here left_from visits_from toil_from At next-leaves bs start tt h)

  pub everything-order : Descending (statement_numbers c m ws) everything
  everything-order =
      let e = statements-are c.statements m.statements (patterns_of ws) in
      descending-map (statements (entry_at m.statements) c.statements (patterns_of ws))
      (statement_numbers c m ws) everything (λ x y a b q. rw (← e y, ← e x) q)
      (solve-descending (entry_at m.statements) c.statements (positive c m S) (single c m S)
      (patterns_of ws) unbound fit)

  pub in_order_lem : AllInOrder c m ws everything
  in_order_lem = record {
    exact = exactly c m S (patterns_of ws) fit low;
    once = once-as-mappings c m S (patterns_of ws) fit low everything (λ s k. k)
        (descending-nodup (statement_numbers c m ws) everything everything-order);
    order = everything-order;
  }

-- demand 2, queries: exactly the solutions, each once, in order
pub query-reads : ReadingClaim
query-reads c m S ws words = (
  rw (opens c m S ws words),
  (everything c m S ws words, in_order_lem c m S ws words, λ bs h. (start-told c m S ws words bs h).read),
  told-ends (reading c m ws) (everything c m S ws words) (work_of c m ws) (suc (work_of c m ws)) (omega arith)
      (start-told c m S ws words),
)
