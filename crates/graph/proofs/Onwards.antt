-- One next call from any cursor that refusals 13 and 6 accept answers from the solutions holding at the call, at or
-- after the cursor's place (`NextClaim`); a cursor answered is never refused 6 later (`KeptClaim`), and is refused 13
-- once a reclaim was answered since (`ReclaimedClaim`); with no change between, budgets add up (`SplitClaim`).
-- Assumes nothing.
use mathlib.Core.Path.{◌≡◌, refl, sym, ap, ◌∙◌, fun_ext}
use mathlib.Core.Logic.{◌≢◌, inl, inr}
use mathlib.Core.Bool.{Bool, true, false, cond, true≢false}
use mathlib.Core.List.{List, [], ◌∷◌}
use Prim.Native.Nat.{ℕ, zero, suc, ◌+◌, ◌<◌}
use native.Mathlib.Omega.{arith}
use lib.ListN.{length}
use lib.Dec.{eqb}
use borrow.Author.Tests.{eqb-true, eqb-false, eq-eqb, ne_eqb}
use Rattle.store.specs.declared.Counters.{Counters}
use Rattle.store.specs.declared.ScanCursor.{ScanCursor}
use Rattle.store.specs.declared.Refusal.TheVariants.{Damaged, StaleCursor}
use Rattle.store.specs.Tables.{Tables, fits}
use Rattle.store.specs.Model.{Call}
use Rattle.store.specs.History.{Store, store, store_replies, store_after}
use Rattle.store.specs.Soundness.{Sound}
use Rattle.store.specs.Claims.{reclaims_in}
use Rattle.store.proofs.Tests.{decide, and_l, and_r, and-of, cond-all}
use Rattle.graph.specs.declared.QueryPattern.{QueryPattern}
use Rattle.graph.specs.declared.Level.{Level}
use Rattle.graph.specs.declared.QueryCursor.{QueryCursor}
use Rattle.std.specs.Prelude.{Result}
use Rattle.store.specs.declared.Refusal.{Refusal}
use Rattle.graph.specs.declared.QueryAnswer.{QueryAnswer}
use Rattle.graph.specs.Query.{Turn, bad, go, whole, Answer, refused, found, ended, spent, remains, intact, pruned}
use Rattle.graph.specs.Place.{Place, start, inside, finish, place_as, place_of, cursor_at}
use Rattle.graph.specs.Words.{words_ok, patterns_of, Bindings, unbound}
use Rattle.graph.specs.Query.{place_ok, enter, walk, begun, resume, answer_of, packed, stale, open_query_of}
use Rattle.graph.specs.Query.{next_query_of}
use Rattle.graph.specs.Values.{QueryValues, query_opened_values, query_values}
use Rattle.graph.specs.Order.{numbers_on, at_or_after, onwards_of}
use Rattle.store.specs.Lists.{keep}
use Rattle.graph.specs.Claims.{statement_numbers, accepted, onwards_from, Answers, NextClaim}
use Rattle.graph.specs.Claims.{KeptClaim, ReclaimedClaim, more_visits, SplitClaim}
use Rattle.graph.proofs.Laws.{Shallow, place-cursor, place-tests, walk-ended, walk-bad, walk-go, walk-whole}
use Rattle.graph.proofs.Laws.{walk_turn}
use Rattle.graph.proofs.Refusals.{says, Passed, resumes, answer-cases, answer-not, number-not}
use Rattle.graph.proofs.Generations.{cursor-number, NotRefused, own-number, read-on, unrefused-read}
use Rattle.graph.proofs.Generations.{stale-number}
use Rattle.graph.proofs.Reading.{Reached, Outcome, walk-outcome, intact-ok, pruned-same}
use Rattle.graph.proofs.Place.{from_place, Gives, any_place, place-keeps}
use Rattle.store.proofs.Onward.{calls-keep, calls-onward}
use Rattle.graph.proofs.Later.{place_kept, calls-sound}
use Rattle.graph.proofs.Accepted.{words_more}
use Rattle.graph.proofs.Solutions.{single}
use Rattle.graph.proofs.Calls.{words-few, statements-are, fit, low, everything, in_order_lem, next-is}

-- ---- an accepted place fits its cursor

accepted-shallow : (c : Counters) (m : Tables) (ws : List ℕ) → words_ok c.resources ws ≡ true → (q : Place)
    → place_ok m.statements (patterns_of ws) c.resources c.statements q ≡ true → Shallow q
accepted-shallow c m ws words start o = tt
accepted-shallow c m ws words (inside l up) o =
    let P = (place-tests c.resources c.statements m.statements (patterns_of ws) l up).0 o in
    omega (arith, P.room, words-few c.resources ws words)
accepted-shallow c m ws words finish o = tt

module _ (c : Counters) (m : Tables) (S : Sound c m) (ws : List ℕ) (words : words_ok c.resources ws ≡ true) where
  abbrev all : List Bindings
  all = everything c m S ws words

  abbrev Ok : Place → Type 0
  Ok q = place_ok m.statements (patterns_of ws) c.resources c.statements q ≡ true

  abbrev after : Place → List Bindings
  after q = onwards_of (statement_numbers c m ws) all q

  abbrev from : Place → List Bindings
  from q = from_place c.resources c.statements m.resources m.statements (patterns_of ws) q

  from-after : (q : Place) → Ok q → from q ≡ after q
  from-after start o = unfold from_place onwards_of in refl
  from-after (inside l up) o =
      place-keeps c.resources c.statements m.resources m.statements (patterns_of ws) S.linked
      (fit c m S ws words) (low c m S ws words)
      (single c m S) l up o
      ∙ same_test (fun_ext (statements-are c.statements m.statements (patterns_of ws)))
    where
      same_test : {f g : Bindings → List ℕ} → f ≡ g
          → keep (λ s. at_or_after (numbers_on up (l.statement.0 ∷ [])) (f s)) all ≡ onwards_of g all (inside l up)
      same_test e = unfold onwards_of in (rw e)
  from-after finish o = unfold from_place onwards_of in refl

  answer-gives : (q : Place) (b : ℕ) → Ok q → 0 < b
      → Gives c.resources c.statements m.resources m.statements (patterns_of ws) q b (answer_of c m ws q b)
  answer-gives q b o h =
      rw (resumes c m ws q b (record { capacity = S.capacity; words = words; place = o; budget = h }))
      (any_place c.resources c.statements m.resources m.statements (patterns_of ws) S.linked
      (fit c m S ws words) (low c m S ws words) q b o h)

  -- with the number of reclaims
  abbrev cursor_here : Place → QueryCursor
  cursor_here q = cursor_at c.generation q

  abbrev pack : Answer → Result QueryAnswer Refusal
  pack a = packed c.generation a

  -- the cursor answered stands for the place
  place_ok_lem : (q : Place) → Ok q → Ok (place_of (cursor_here q))
  place_ok_lem q o = rw (place-cursor c.generation q (accepted-shallow c m ws words q o)) o

  cursor-ok : (q : Place) → Ok q → accepted c m ws (cursor_here q) ≡ true
  cursor-ok q o =
      and-of _ _ (eq-eqb (cursor_here q).generation c.generation (cursor-number c.generation q)) (place_ok_lem q o)

  cursor-after : (q : Place) → Ok q → onwards_from c m ws all (cursor_here q) ≡ after q
  cursor-after q o = ap after (place-cursor c.generation q (accepted-shallow c m ws words q o))

  ended-place : place_of (cursor_here finish) ≡ finish
  unfolding place_as cursor_at
  ended-place = refl

  ended-after : onwards_from c m ws all (cursor_here finish) ≡ []
  unfolding onwards_of place_as cursor_at
  ended-after = refl

  answers_of : (q : QueryCursor) (b : ℕ) (a : Answer) → Ok (place_of q)
      → Gives c.resources c.statements m.resources m.statements (patterns_of ws) (place_of q) b a
      → Answers c m ws all q b (query_values (pack a))
  unfolding packed
  answers_of q b (refused e) o g = absurd g
  answers_of q b (found s v q') o g = record {
    unrefused = refl;
    status = inl refl;
    found = λ e. sym (from-after (place_of q) o) ∙ g.0
        ∙ ap (λ (z : List Bindings). s ∷ z) (from-after q' g.1 ∙ sym (cursor-after q' g.1));
    ended = λ e. absurd (omega arith);
    spent = λ e. absurd (omega arith);
    kept = cursor-ok q' g.1;
  }
  answers_of q b (ended v) o g = record {
    unrefused = refl;
    status = inr (inl refl);
    found = λ e. absurd (omega arith);
    ended = λ e. (sym (from-after (place_of q) o) ∙ g, ended-place, ended-after);
    spent = λ e. absurd (omega arith);
    kept = cursor-ok finish (unfold place_ok in refl);
  }
  answers_of q b (spent v q') o g = record {
    unrefused = refl;
    status = inr (inr refl);
    found = λ e. absurd (omega arith);
    ended = λ e. absurd (omega arith);
    spent = λ e. (
      sym (from-after (place_of q) o) ∙ g.0 ∙ from-after q' g.1 ∙ sym (cursor-after q' g.1),
      omega (arith, g.2),
    );
    kept = cursor-ok q' g.1;
  }

  next-answers : (q : QueryCursor) (b : ℕ) → accepted c m ws q ≡ true → 0 < b
      → Answers c m ws all q b (query_values (next_query_of c m ws q b))
  next-answers q b o h =
      let g = eqb-true q.generation c.generation (and_l _ _ o) in
      let p : Ok (place_of q) = and_r (eqb q.generation c.generation) _ o in
      rw (read-on c m ws q b (own-number c m ws q g))
      (answers_of q b (answer_of c m ws (place_of q) b) p (answer-gives (place_of q) b p h))

pub next-onwards : NextClaim
next-onwards c m S ws words = (everything c m S ws words, in_order_lem c m S ws words, next-answers c m S ws words)

-- ---- a call that is not refused has passed the tests

passed : (c : Counters) (m : Tables) (ws : List ℕ) (q : Place) (b : ℕ) → NotRefused (answer_of c m ws q b)
    → Passed c m ws q b
passed c m ws q b =
    answer-cases c m ws q b (λ a. NotRefused a → Passed c m ws q b) (λ f n. absurd n) (λ w n. absurd n)
    (λ o n. absurd n) (λ z n. absurd n) (λ P n. P)

-- ---- refusal 6 is given by its test alone

module _ (c : Counters) (m : Tables) (ws : List ℕ) (q : QueryCursor) (b : ℕ) where
  -- what the cursor comes to, with the store's own number or another
  abbrev outcome : Answer
  outcome = cond (stale c m ws q) (refused StaleCursor) (answer_of c m ws (place_of q) b)

  -- its place is accepted: not 6, whatever its number
  never-six : place_ok m.statements (patterns_of ws) c.resources c.statements (place_of q) ≡ true
      → (query_values (next_query_of c m ws q b)).refusal ≢ 6
  unfolding next_query_of
  never-six o = number-not 6 c.generation outcome (omega arith)
      (cond-all (λ (a : Answer). says 6 a ≡ false) (stale c m ws q) _ _ refl
      (answer-not 6 (omega arith) (omega arith) (omega arith) (omega arith) c m ws (place_of q) b (inl o)))

  -- with another number: 1, 8 or 13
  other-not-six : q.generation ≢ c.generation → says 6 outcome ≡ false
  unfolding stale answer_of
  other-not-six n =
      decide (fits c m)
      (λ f. decide (words_ok c.resources ws)
      (λ w. rw (f, w, ne_eqb q.generation c.generation n))
      (λ w. rw (f, w)))
      (λ f. rw f)

  other-never-six : q.generation ≢ c.generation → (query_values (next_query_of c m ws q b)).refusal ≢ 6
  unfolding next_query_of
  other-never-six n = number-not 6 c.generation outcome (omega arith) (other-not-six n)

-- ---- a cursor answered, after any calls

module _ (c : Counters) (m : Tables) (S : Sound c m) (ws : List ℕ) (q : QueryCursor) (b : ℕ)
    (u : (query_values (next_query_of c m ws q b)).refusal ≡ 0) where
  -- the call's answer as a place, and the cursor from now on
  abbrev first : Answer
  first = answer_of c m ws (place_of q) b

  abbrev now : QueryCursor
  now = (query_values (next_query_of c m ws q b)).cursor

  tests : Passed c m ws (place_of q) b
  tests = passed c m ws (place_of q) b (unrefused-read c m ws q b u).1

  first-is : next_query_of c m ws q b ≡ packed c.generation first
  first-is = read-on c m ws q b (unrefused-read c m ws q b u).0

  now-ok : accepted c m ws now ≡ true
  now-ok =
      ap (λ (a : Result QueryAnswer Refusal). accepted c m ws (query_values a).cursor) first-is
      ∙ (answers_of c m S ws tests.words q b first tests.place
      (answer-gives c m S ws tests.words (place_of q) b tests.place tests.budget)).kept

  now-number : now.generation ≡ c.generation
  now-number = eqb-true now.generation c.generation (and_l _ _ now-ok)

  now-place : place_ok m.statements (patterns_of ws) c.resources c.statements (place_of now) ≡ true
  now-place = and_r (eqb now.generation c.generation) _ now-ok

  module _ (qs : List ScanCursor) (calls : List Call) (b' : ℕ) where
    -- the store after the calls, and how many reclaims of them were answered
    abbrev then : Store
    then = store_after (store c m qs) calls

    abbrev reclaimed : ℕ
    reclaimed = reclaims_in calls (store_replies (store c m qs) calls)

    not-reclaimed : c.generation ≡ then.counters.generation → reclaimed ≡ 0
    not-reclaimed e = omega (arith, (calls-onward (store c m qs) calls).0)

    -- no reclaim: the place is still accepted; else the numbers differ
    kept : (query_values (next_query_of then.counters then.tables ws now b')).refusal ≢ 6
    kept =
        decide (eqb c.generation then.counters.generation)
        (λ e. let K = calls-keep (store c m qs) calls (not-reclaimed (eqb-true _ _ e)) in
        never-six then.counters then.tables ws now b'
        (place_kept c.resources c.statements m.statements then.counters.resources
        then.counters.statements then.tables.statements K.0 (patterns_of ws) (place_of now) now-place))
        (λ e. other-never-six then.counters then.tables ws now b'
        (λ d. eqb-false c.generation then.counters.generation e (sym now-number ∙ d)))

pub cursor-kept : KeptClaim
cursor-kept c m S ws q b u qs calls b' = kept c m S ws q b u qs calls b'

module _ (c : Counters) (m : Tables) (S : Sound c m) (ws : List ℕ) (qs : List ScanCursor) (calls : List Call)
    (h : 0 < reclaims_in calls (store_replies (store c m qs) calls)) (b' : ℕ) where
  abbrev later : Store
  later = store_after (store c m qs) calls

  -- words stay accepted, the store stays sound, and the number has risen
  gone : (now : QueryCursor) → words_ok c.resources ws ≡ true → now.generation ≡ c.generation
      → (query_values (next_query_of later.counters later.tables ws now b')).refusal ≡ 13
  gone now w e =
      let o = calls-onward (store c m qs) calls in
      stale-number later.counters later.tables ws now b' (calls-sound (store c m qs) S calls).capacity
      (words_more c.resources later.counters.resources ws o.1 w)
      (λ d. omega (arith, o.0, e, d, h))

opened-words : (c : Counters) (m : Tables) (ws : List ℕ) → (query_opened_values (open_query_of c m ws)).refusal ≡ 0
    → (words_ok c.resources ws ≡ true) × ((query_opened_values (open_query_of c m ws)).cursor.generation ≡ c.generation)
unfolding open_query_of
opened-words c m ws =
    decide (fits c m)
    (λ f. rw f (decide (words_ok c.resources ws)
    (λ w. rw w (λ d. (refl, refl)))
    (λ w. rw w (λ d. absurd (omega arith)))))
    (λ f. rw f (λ d. absurd (omega arith)))

pub reclaimed-refused : ReclaimedClaim
reclaimed-refused c m S ws qs calls h b' = (
  λ d. let o = opened-words c m ws d in gone c m S ws qs calls h b' (query_opened_values (open_query_of c m ws)).cursor o.0 o.1,
  λ q b u. gone c m S ws qs calls h b' (query_values (next_query_of c m ws q b)).cursor (tests c m S ws q b u).words
      (now-number c m S ws q b u),
)

-- ---- budgets add up

abbrev plus : ℕ → Answer → Answer
plus w (refused e) = refused e
plus w (found s v q) = found s (w + v) q
plus w (ended v) = ended (w + v)
plus w (spent v q) = spent (w + v) q

packed-plus : (g w : ℕ) (a : Answer) → NotRefused a
    → query_values (packed g (plus w a)) ≡ more_visits w (query_values (packed g a))
unfolding packed
packed-plus g w (refused e) n = absurd n
packed-plus g w (found s v q) n = refl
packed-plus g w (ended v) n = refl
packed-plus g w (spent v q) n = refl

abbrev is_spent_answer : Answer → Bool
is_spent_answer (refused e) = false
is_spent_answer (found s v q) = false
is_spent_answer (ended v) = false
is_spent_answer (spent v q) = true

spent-only : (a : Answer) (v : ℕ) (q : Place) {P : Type 0} → is_spent_answer a ≡ false → a ≡ spent v q → P
spent-only a v q z e = absurd (true≢false (sym (ap is_spent_answer e) ∙ z))

module _ (r t : ℕ) (res stm : List ℕ) (ps : List QueryPattern) where
  walk-plus : (b : ℕ) (l : Level) (up : List Level) (w v : ℕ)
      → walk r t res stm ps b l up (w + v) ≡ plus w (walk r t res stm ps b l up v)
  walk-plus zero l up w v = unfold walk in (decide (remains stm l up) (λ e. rw e) (λ e. rw e))
  walk-plus (suc b) l up w v =
      let k : w + v + 1 ≡ w + (v + 1) = omega arith in
      walk_turn r t res stm ps l up v (λ a. walk r t res stm ps (suc b) l up (w + v) ≡ plus w a) b
      (λ e. walk-ended r t res stm ps l up (w + v) b e)
      (λ n top e d. walk-bad r t res stm ps l up (w + v) b n top e d)
      (λ n top n' top' e d. walk-go r t res stm ps l up (w + v) b n top n' top' e d
      ∙ ap (λ (z : ℕ). walk r t res stm ps b n' top' z) k ∙ walk-plus b n' top' w (v + 1))
      (λ n top s n' top' e d. walk-whole r t res stm ps l up (w + v) b n top s n' top' e d
      ∙ ap (λ (z : ℕ). found s z (inside n' top')) k)

  -- where the first budget is spent, the walk with both goes on as the second
  abbrev Splits : ℕ → ℕ → Level → List Level → ℕ → ℕ → Place → Type 0
  Splits b b' l up v v' q =
      (l' : Level) × (up' : List Level) × (q ≡ inside l' up')
      × (walk r t res stm ps (b + b') l up v ≡ walk r t res stm ps b' l' up' v')

  walk_split : (b b' : ℕ) (l : Level) (up : List Level) (v v' : ℕ) (q : Place)
      → walk r t res stm ps b l up v ≡ spent v' q → Splits b b' l up v v' q
  walk_split zero b' l up v v' q =
      unfold walk in (decide (remains stm l up)
      (λ e. rw e (λ d. at_once d))
      (λ e. rw e (λ d. spent-only (ended v) v' q refl d)))
    where
      at_once : spent v (inside l up) ≡ spent v' q → Splits 0 b' l up v v' q
      at_once d =
          let x : v ≡ v' = cc in
          let y : inside l up ≡ q = cc in
          let z : 0 + b' ≡ b' = omega arith in (
            l,
            up,
            sym y,
            ap (λ (k : ℕ). walk r t res stm ps k l up v) z
                ∙ ap (λ (k : ℕ). walk r t res stm ps b' l up k) x,
          )
  walk_split (suc b) b' l up v v' q =
      let more : suc b + b' ≡ suc (b + b') = omega arith in
      walk_turn r t res stm ps l up v (λ a. a ≡ spent v' q → Splits (suc b) b' l up v v' q) b
      (λ e k. spent-only (ended v) v' q refl k)
      (λ n top e d k. spent-only (refused Damaged) v' q refl k)
      (λ n top n' top' e d k. let w = walk_split b b' n' top' (v + 1) v' q k in (
        w.0,
        w.1,
        w.2,
        ap (λ (z : ℕ). walk r t res stm ps z l up v) more
            ∙ walk-go r t res stm ps l up v (b + b') n top n' top' e d ∙ w.3,
      ))
      (λ n top s n' top' e d k. spent-only (found s (v + 1) (inside n' top')) v' q refl k)

  abbrev Resumes : ℕ → ℕ → Place → ℕ → Place → Type 0
  Resumes b b' p v q =
      (l' : Level) × (up' : List Level) × (q ≡ inside l' up')
      × (resume r t res stm ps p (b + b') ≡ walk r t res stm ps b' l' up' v)

  begun-split : (b b' : ℕ) (g : Turn) (v : ℕ) (q : Place) → begun r t res stm ps b g ≡ spent v q
      → (l' : Level) × (up' : List Level) × (q ≡ inside l' up')
      × (begun r t res stm ps (b + b') g ≡ walk r t res stm ps b' l' up' v)
  unfolding begun
  begun-split b b' bad v q e = spent-only (refused Damaged) v q refl e
  begun-split b b' (go l up) v q e = walk_split b b' l up 0 v q e
  begun-split b b' (whole s l up) v q e = spent-only (refused Damaged) v q refl e

  resume-split : (b b' : ℕ) (p : Place) (v : ℕ) (q : Place) → resume r t res stm ps p b ≡ spent v q
      → Resumes b b' p v q
  unfolding resume
  resume-split b b' start v q =
      decide (eqb (length ps) 0)
      (λ e. rw e (λ d. spent-only (found unbound 0 finish) v q refl d))
      (λ e. rw e (λ d. begun-split b b' (enter r t res stm ps []) v q d))
  resume-split b b' (inside l up) v q =
      decide (intact stm up)
      (λ e. rw e (λ d. walk_split b b' (pruned stm l up).0 (pruned stm l up).1 0 v q d))
      (λ e. rw e (λ d. spent-only (refused Damaged) v q refl d))
  resume-split b b' finish v q = λ d. spent-only (ended 0) v q refl d

spent-answer : (g : ℕ) (a : Answer) → (query_values (packed g a)).status ≡ 3 → (v : ℕ) × (q : Place) × (a ≡ spent v q)
unfolding packed
spent-answer g (refused e) d = absurd (omega arith)
spent-answer g (found s v q) d = absurd (omega arith)
spent-answer g (ended v) d = absurd (omega arith)
spent-answer g (spent v q) d = (v, q, refl)

outcome-fine : (r t : ℕ) (res stm : List ℕ) (ps : List QueryPattern) (v₀ b : ℕ) (ss : List Bindings) (w k : ℕ)
    (a : Answer)
    → Outcome r t res stm ps v₀ b ss w k a → NotRefused a
outcome-fine r t res stm ps v₀ b ss w k (refused e) o = o
outcome-fine r t res stm ps v₀ b ss w k (found s v q) o = tt
outcome-fine r t res stm ps v₀ b ss w k (ended v) o = tt
outcome-fine r t res stm ps v₀ b ss w k (spent v q) o = tt

module _ (c : Counters) (m : Tables) (S : Sound c m) (ws : List ℕ) (words : words_ok c.resources ws ≡ true) where
  abbrev go_on : Place → ℕ → Answer
  go_on q b = resume c.resources c.statements m.resources m.statements (patterns_of ws) q b

  abbrev step-on : ℕ → Level → List Level → ℕ → Answer
  step-on b l up v = walk c.resources c.statements m.resources m.statements (patterns_of ws) b l up v

  abbrev Here : Place → Type 0
  Here q = Reached c.resources c.statements m.resources m.statements (patterns_of ws) q

  -- from a place that calls leave, the walk goes on at once
  goes_on : (l : Level) (up : List Level) (b : ℕ) → Here (inside l up) → go_on (inside l up) b ≡ step-on b l up 0
  unfolding resume
  goes_on l up b R =
      rw (
        intact-ok c.resources c.statements m.resources m.statements (patterns_of ws) S.linked
            (fit c m S ws words) (low c m S ws words) up R.1,
        pruned-same c.resources c.statements m.resources m.statements (patterns_of ws) S.linked
            (fit c m S ws words) (low c m S ws words) l up R.1,
      )

  step-fine : (l : Level) (up : List Level) (b : ℕ) → Here (inside l up) → NotRefused (step-on b l up 0)
  step-fine l up b R =
      outcome-fine c.resources c.statements m.resources m.statements (patterns_of ws) 0 b _ _ _
      (step-on b l up 0)
      (walk-outcome c.resources c.statements m.resources m.statements (patterns_of ws) S.linked
      (fit c m S ws words) (low c m S ws words)
      b l up 0 R.0 R.1)

  -- with the number of reclaims
  abbrev cursor_now : Place → QueryCursor
  cursor_now q = cursor_at c.generation q

  abbrev pack_now : Answer → QueryValues
  pack_now a = query_values (packed c.generation a)

  abbrev next_now : Place → ℕ → QueryValues
  next_now q b = query_values (next_query_of c m ws (cursor_now q) b)

  -- the second call, from the place the first has left
  second : (l : Level) (up : List Level) (b v : ℕ) → Here (inside l up)
      → place_ok m.statements (patterns_of ws) c.resources c.statements (inside l up) ≡ true → 0 < b
      → pack_now (step-on b l up v) ≡ more_visits v (next_now (inside l up) b)
  second l up b v R o h =
      let P : Passed c m ws (inside l up) b =
      record { capacity = S.capacity; words = words; place = o; budget = h } in
      let z : v + 0 ≡ v = omega arith in
      ap (λ (k : ℕ). pack_now (step-on b l up k)) (sym z)
      ∙ ap pack_now (walk-plus c.resources c.statements m.resources m.statements (patterns_of ws) b l up v 0)
      ∙ packed-plus c.generation v (step-on b l up 0) (step-fine l up b R)
      ∙ ap (λ (a : Answer). more_visits v (pack_now a)) (sym (goes_on l up b R) ∙ sym (resumes c m ws (inside l up) b P))
      ∙ ap (λ (a : Result QueryAnswer Refusal). more_visits v (query_values a))
      (sym (next-is c m S ws words (inside l up) b (accepted-shallow c m ws words (inside l up) o)))

  both : (q : Place) (b b' v : ℕ) (q' : Place) → Passed c m ws q b → 0 < b' → answer_of c m ws q b ≡ spent v q'
      → pack_now (answer_of c m ws q (b + b')) ≡ more_visits v (next_now q' b')
  both q b b' v q' P h e =
      let g : Gives c.resources c.statements m.resources m.statements (patterns_of ws) q b (spent v q') =
      rw e at (answer-gives c m S ws words q b P.place P.budget) in
      let P' : Passed c m ws q (b + b') =
      record { capacity = P.capacity; words = P.words; place = P.place; budget = omega (arith, P.budget) } in
      let w = resume-split c.resources c.statements m.resources m.statements (patterns_of ws) b b' q v q'
      (sym (resumes c m ws q b P) ∙ e) in
      ap pack_now (resumes c m ws q (b + b') P' ∙ w.3)
      ∙ second w.0 w.1 b' v (rw w.2 at g.3) (rw w.2 at g.1) h
      ∙ ap (λ (p : Place). more_visits v (next_now p b')) (sym w.2)

pub budgets-add : SplitClaim
unfolding packed
budgets-add c m S ws q b b' h e =
    let k₀ = spent-answer c.generation (outcome c m ws q b) (unfold next_query_of in e) in
    let f = (unrefused-read c m ws q b (unfold next_query_of in (rw k₀.2))).0 in
    let n = read-on c m ws q b f in
    let k = spent-answer c.generation (answer_of c m ws (place_of q) b)
    (ap (λ (z : Result QueryAnswer Refusal). (query_values z).status) (sym n) ∙ e) in
    let P = passed c m ws (place_of q) b (rw k.2 tt) in
    ap query_values (read-on c m ws q (b + b') f)
    ∙ both c m S ws P.words (place_of q) b b' k.0 k.1 P h k.2
    ∙ ap (λ (z : Result QueryAnswer Refusal). more_visits (query_values z).visits (query_values (next_query_of c m ws (query_values z).cursor b')))
    (sym (n ∙ ap (λ (z : Answer). packed c.generation z) k.2))
