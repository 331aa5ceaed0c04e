-- Laws for the code that loads a line: the names of its parts entered one after another up to the first refusal, and what holds at each way
-- out. Soundness is kept by each name entered; where a counter is over its capacity the first name is refused. Assumes nothing.
use mathlib.Core.Path.{◌≡◌, refl, sym, ap, ◌∙◌}
use mathlib.Core.Logic.{◌⊎◌, inl, inr}
use mathlib.Core.Bool.{false}
use mathlib.Core.List.{List, [], ◌∷◌, ◌++◌}
use Prim.Native.Nat.{ℕ, suc, ◌+◌, ◌≤◌, ◌<◌}
use native.Mathlib.Omega.{arith}
use native.Mathlib.Numerals.{add-one}
use lib.ListN.{length, take, drop, get_or, set}
use lib.Seq.{drop-cons, take-suc-set, take_all}
use lib.Dec.{eqb}
use borrow.Author.Tests.{le-leb, lt-leb}
use Rattle.term.specs.Grammar.{name_limit}
use Rattle.store.specs.declared.Counters.{Counters}
use Rattle.store.specs.declared.ResourceId.{ResourceId}
use Rattle.store.specs.declared.ScanCursor.{ScanCursor}
use Rattle.store.specs.declared.Triple.{Triple}
use Rattle.store.specs.declared.Refusal.{Refusal}
use Rattle.store.specs.declared.Refusal.TheVariants.{BadLine}
use Rattle.store.specs.Shared.{unless}
use Rattle.store.specs.Tables.{Tables, after, fits}
use Rattle.store.specs.Values.{Values, refusal_number, refused_with, interned_values, asserted_values}
use Rattle.store.specs.Model.{by_value, intern, assert}
use Rattle.store.specs.Dictionary.{intern_of, InternAnswer}
use Rattle.store.specs.Statement.{assert_of, counters_after}
use Rattle.store.specs.Soundness.{Sound}
use Rattle.store.specs.History.{Store, store, interned_counters, call_store}
use Rattle.ntriples.specs.declared.Span.{Span}
use Rattle.ntriples.specs.declared.Line.{Line}
use Rattle.ntriples.specs.declared.Line.TheVariants as answer
use Rattle.ntriples.specs.Grammar.{bytes_of}
use Rattle.ntriples.specs.Reader.{read_of}
use Rattle.graph.specs.Claims.{loading, load_of}
use Rattle.store.proofs.Numbers.{refuses}
use Rattle.graph.proofs.Theorems.{graph-writes}
use Rattle.lines.specs.Claims.{names_in}
use Rattle.loader.specs.declared.line.Outcome.{Outcome}
use Rattle.loader.specs.declared.line.Outcome.TheVariants.{Nothing}
use Rattle.loader.specs.declared.line.LineLoaded.{LineLoaded}
use Rattle.loader.proofs.Inside.{no_part}
use Rattle.loader.specs.Lines.{line_limit, content_of, line_at, came, outcome_of, ended, reported, load_line_of, Loads}
use Rattle.loader.specs.Steps.{refused_line, asserted_line}
use Rattle.std.specs.Prelude.{Err, Ok, Result}
use Rattle.store.specs.declared.Asserted.TheVariants.{New, Already, Revived}
use Rattle.store.specs.Replies.{entered_as}
use Rattle.store.specs.declared.Asserted.{Asserted}
use Rattle.store.specs.declared.Interned.{Interned}

abbrev pub Ready : Counters → Tables → Type 0
Ready c m = Sound c m ⊎ (fits c m ≡ false)

abbrev answered : Store → Values → Store × Values
answered s v = (s, v)

-- a line asserted, in the values of the call
asserted_values-are : (c : Counters) (a : Result Asserted Refusal)
    → ((asserted_line c a).counters ≡ counters_after c a) × (came (asserted_line c a).outcome ≡ outcome_of (asserted_values a))
asserted_values-are c (Ok (New n d)) = (refl, refl)
asserted_values-are c (Ok (Already n d)) = (refl, refl)
asserted_values-are c (Ok (Revived n d)) = (refl, refl)
asserted_values-are c (Err e) = (refl, rw (refuses e) refl)

-- ---- one name entered

enter-exact : (c : Counters) (m m' : Tables) (w : List ℕ) (a : Result Interned Refusal) → Ready c m → InternAnswer c m m' w a → after m' a ≡ intern_of c m w
unfolding intern_of
enter-exact c m m' w a (inl S) I = I.exact S.names S.named
enter-exact c m m' w a (inr f) I = I.capacity f ∙ rw f

entered : (c : Counters) (m m' : Tables) (w : List ℕ) (a : Result Interned Refusal) → after m' a ≡ intern_of c m w → (qs : List ScanCursor)
    → call_store (store c m qs) (intern w) ≡ answered (store (interned_counters c a) m' qs) (interned_values a)
unfolding call_store
entered c m m' w a e qs = rw (← e)

number-refused : {C : Type 0} (n : ResourceId) (d : Counters) (e : Refusal) → entered_as n d ≡ Err e → C
number-refused n d e h = let z : ◌≡◌ {A = ℕ} 0 1 = cc in absurd (omega arith)

-- a store stays ready
ready_on : (c d : Counters) (m m' : Tables) (w : List ℕ) (n : ResourceId) → Ready c m → InternAnswer c m m' w (entered_as n d) → Ready d m'
ready_on c d m m' w n (inl S) I =
    inl (rw (entered c m m' w (entered_as n d) (enter-exact c m m' w (entered_as n d) (inl S) I) []) at ((graph-writes (store c m []) S).enters w).sound)
ready_on c d m m' w n (inr f) I = number-refused n d _ (ap (λ (x : Tables × Result Interned Refusal). x.1) (I.capacity f))

-- ---- the parts, one after another

abbrev pub no_id : ResourceId
no_id = record { 0 = 0 }

abbrev pub triple_of : List ResourceId → Triple
triple_of ids = record { subject = get_or ids 0 no_id; predicate = get_or ids 1 no_id; object = get_or ids 2 no_id }

-- the names of the parts entered and asserted, after those with these numbers
unfoldable pub load_from : List ℕ → List Span → List ResourceId → Store → Store × Values
load_from text [] ids s = call_store s (assert by_value (triple_of ids))
load_from text (p ∷ ps) ids s =
    let a = call_store s (intern (bytes_of text p)) in
    unless (eqb a.1.refusal 0) a (load_from text ps (ids ++ record { 0 = a.1.number } ∷ []) a.0)

load_from_lem : (text : List ℕ) (x y z : Span) (s : Store) → load_of s (names_in text x y z) ≡ load_from text (x ∷ y ∷ z ∷ []) [] s
unfolding loading load_from
load_from_lem text x y z s = refl

-- the names of the first i parts have been entered, which led from c and m to d and m'
pub record Entering (text : List ℕ) (parts : List Span) (c : Counters) (m : Tables) (ids : List ResourceId) (d : Counters)
    (m' : Tables) (i : ℕ) : Type 0 where
  pub ready : Ready c m → Ready d m'
  pub onward : Ready c m → (qs : List ScanCursor)
      → load_from text parts [] (store c m qs) ≡ load_from text (drop i parts) (take i ids) (store d m' qs)

module _ {text : List ℕ} {parts : List Span} {c : Counters} {m : Tables} {ids : List ResourceId} {d : Counters} {m' : Tables} {i : ℕ}
    (E : Entering text parts c m ids d m' i) where
  -- what is left to do
  abbrev rest : List ScanCursor → Store × Values
  rest qs = load_from text (drop i parts) (take i ids) (store d m' qs)

  -- a line with these parts, once the rest is done
  loads-by : {m'' : Tables} {x y z : Span} → parts ≡ x ∷ y ∷ z ∷ [] → (r : LineLoaded)
      → (Ready c m → (qs : List ScanCursor) → ended (store r.counters m'' qs) (came r.outcome) ≡ reported (rest qs))
      → Loads c m m'' text (answer.Triple x y z) r
  unfolding load_line_of
  loads-by {m''} {x} {y} {z} p r f =
      let whole : Ready c m → (qs : List ScanCursor)
      → ended (store r.counters m'' qs) (came r.outcome) ≡ reported (load_of (store c m qs) (names_in text x y z)) =
      λ R qs. f R qs ∙ ap reported (sym (E.onward R qs)
      ∙ (ap (λ (ps : List Span). load_from text ps [] (store c m qs)) p ∙ sym (load_from_lem text x y z (store c m qs))))
      in
      record { sound = λ S. whole (inl S); capacity = λ e. whole (inr e); unread = λ h. absurd (h x y z refl) }

  -- the turn at part i
  module _ (h : i < length parts) where
    abbrev name : List ℕ
    name = bytes_of text (get_or parts i no_part)

    next-part : (qs : List ScanCursor) → rest qs ≡ load_from text (get_or parts i no_part ∷ drop (suc i) parts) (take i ids) (store d m' qs)
    next-part qs = ap (λ (ps : List Span). load_from text ps (take i ids) (store d m' qs)) (drop-cons parts i no_part h)

    rest-entered : (m'' : Tables) (n : ResourceId) (k : Counters) (qs : List ScanCursor) → after m'' (entered_as n k) ≡ intern_of d m' name
        → i < length ids → rest qs ≡ load_from text (drop (i + 1) parts) (take (i + 1) (set ids i n)) (store k m'' qs)
    unfolding load_from
    rest-entered m'' n k qs e g = next-part qs ∙ rw (entered d m' m'' name (entered_as n k) e qs, add-one i, take-suc-set ids i n g) refl

    pub entering-more : {m'' : Tables} {a : Result Interned Refusal} {n : ResourceId} {k : Counters} → InternAnswer d m' m'' name a → a ≡ entered_as n k
        → i < length ids → Entering text parts c m (set ids i n) k m'' (i + 1)
    entering-more {m''} {a} {n} {k} I e g =
        let J : InternAnswer d m' m'' name (entered_as n k) = (rw e at I) in
        record {
          ready = λ R. ready_on d k m' m'' name n (E.ready R) J;
          onward = λ R qs. E.onward R qs ∙ rest-entered m'' n k qs (enter-exact d m' m'' name (entered_as n k) (E.ready R) J) g;
        }

    rest-refused : (m'' : Tables) (e : Refusal) (qs : List ScanCursor) → after m'' (Err e) ≡ intern_of d m' name
        → rest qs ≡ answered (store d m'' qs) (refused_with (refusal_number e))
    unfolding load_from
    rest-refused m'' e qs f = next-part qs ∙ rw (entered d m' m'' name (Err e) f qs, refuses e) refl

    pub loads-refused : {m'' : Tables} {x y z : Span} {a : Result Interned Refusal} {e : Refusal} {r : LineLoaded} → parts ≡ x ∷ y ∷ z ∷ []
        → InternAnswer d m' m'' name a → a ≡ Err e → r ≡ refused_line d e → Loads c m m'' text (answer.Triple x y z) r
    loads-refused {m''} {e = e} p I f g =
        let J : InternAnswer d m' m'' name (Err e) = (rw f at I) in
        rw g (loads-by p (refused_line d e) (λ R qs.
        rw (rest-refused m'' e qs (enter-exact d m' m'' name (Err e) (E.ready R) J), refuses e) refl))

  -- all names entered
  asserted : (m'' : Tables) (a : Result Asserted Refusal) (qs : List ScanCursor) → after m'' a ≡ assert_of d m' (triple_of ids)
      → call_store (store d m' qs) (assert by_value (triple_of ids)) ≡ answered (store (counters_after d a) m'' qs) (asserted_values a)
  unfolding call_store
  asserted m'' a qs e = rw (← e)

  pub loads-asserted : {m'' : Tables} {x y z : Span} {r : LineLoaded} → parts ≡ x ∷ y ∷ z ∷ [] → (a : Result Asserted Refusal) → i ≡ 3
      → length ids ≡ 3 → after m'' a ≡ assert_of d m' (triple_of ids) → r ≡ asserted_line d a → Loads c m m'' text (answer.Triple x y z) r
  unfolding load_from
  loads-asserted {m''} p a h k e g =
      let v = asserted_values-are d a in
      rw g (loads-by p (asserted_line d a) (λ R qs. rw (h, p, take_all 3 ids (omega arith), asserted m'' a qs e, v.0, v.1) refl))

-- ---- no triple

module _ {c : Counters} {m : Tables} {text : List ℕ} {line : Line} where
  loads-kept : (o : Result Outcome Refusal) → ((qs : List ScanCursor) → ended (store c m qs) (came o) ≡ load_line_of (store c m qs) text line)
      → Loads c m m text line record { counters = c; outcome = o }
  loads-kept o f = record { sound = λ S. f; capacity = λ e. f; unread = λ h. f }

  pub loads-end : line ≡ answer.End → Loads c m m text line record { counters = c; outcome = Ok Nothing }
  unfolding load_line_of
  loads-end e = loads-kept (Ok Nothing) (λ qs. rw e refl)

  pub loads-nothing : line ≡ answer.Nothing → Loads c m m text line record { counters = c; outcome = Ok Nothing }
  unfolding load_line_of
  loads-nothing e = loads-kept (Ok Nothing) (λ qs. rw e refl)

  pub loads-bad : {k : ℕ} {r : LineLoaded} → line ≡ answer.Refused k → r ≡ refused_line c BadLine → Loads c m m text line r
  unfolding load_line_of
  loads-bad e f = rw f (loads-kept (Err BadLine) (λ qs. rw e refl))

pub loads-as : {c : Counters} {m m' : Tables} {text : List ℕ} {a b : Line} {r : LineLoaded} → a ≡ b → Loads c m m' text b r
    → Loads c m m' text a r
loads-as e h = rw e h

-- ---- the limit

line-over : (text : List ℕ) (from n : ℕ) → n ≡ content_of text from → line_limit < n → line_at text from ≡ answer.Refused line_limit
unfolding line_at
line-over text from n e h = rw (← e, lt-leb n line_limit h)

line-within : (text : List ℕ) (from n : ℕ) → n ≡ content_of text from → n ≤ line_limit → line_at text from ≡ (read_of name_limit text from).line
unfolding line_at
line-within text from n e h = rw (← e, le-leb n line_limit h)

module _ {c : Counters} {m : Tables} {text : List ℕ} (from : ℕ) {n : ℕ} {r : LineLoaded} (e : n ≡ content_of text from) where
  pub loads-over : line_limit < n → r ≡ refused_line c BadLine → Loads c m m text (line_at text from) r
  loads-over h f = loads-bad (line-over text from n e h) f

  pub loads-within : {m' : Tables} {line : Line} → n ≤ line_limit → line ≡ (read_of name_limit text from).line
      → Loads c m m' text line r → Loads c m m' text (line_at text from) r
  loads-within h f L = loads-as (line-within text from n e h ∙ sym f) L
