-- A line loaded whole, by what the room test says: with room the load is that of the loading program, and a refusal then finds the store
-- as it was, for no name was new; without room the load is refused 3. Assumes nothing.
use mathlib.Core.Path.{◌≡◌, refl, sym, ap, ◌∙◌}
use mathlib.Core.Logic.{◌≢◌, ◌⊎◌, inl, inr}
use mathlib.Core.Bool.{Bool, true, false, cond, false≢true}
use mathlib.Core.List.{List, []}
use Prim.Native.Nat.{ℕ, zero, suc, ◌≤◌}
use native.Mathlib.Omega.{arith}
use lib.ListN.{length}
use lib.Dec.{eqb, ltb}
use borrow.Author.Tests.{eqb-true, eqb-false, ne_eqb, ltb-true, ltb-false}
use Rattle.term.specs.Grammar.{name_limit}
use Rattle.store.specs.declared.Counters.{Counters}
use Rattle.store.specs.declared.ScanCursor.{ScanCursor}
use Rattle.store.specs.Shared.{lookup_name}
use Rattle.store.specs.Tables.{Tables, fits}
use Rattle.store.specs.Values.{Values}
use Rattle.store.specs.Names.{Named, storable}
use Rattle.store.specs.Model.{Model, Capacities, by_value, intern, assert}
use Rattle.store.specs.Dictionary.{intern_as, intern_of}
use Rattle.store.specs.Statement.{one_statement_more}
use Rattle.store.specs.Soundness.{Sound}
use Rattle.store.specs.History.{Store, store, capacities_of, call_store}
use Rattle.store.specs.Claims.{lists_of}
use Rattle.store.proofs.Tests.{decide, fits-parts, fits-of}
use Rattle.store.proofs.Text.{length-snoc}
use Rattle.store.proofs.Form.{storable-formed, storable-kept}
use Rattle.store.proofs.NamesAgree.{place-listed}
use Rattle.store.proofs.Represented.{Agreeing}
use Rattle.store.proofs.Held.{sound-agrees, sound-tidy}
use Rattle.store.proofs.Theorems.{refusals-change-nothing, capacity-first}
use Rattle.ntriples.specs.declared.Span.{Span}
use Rattle.ntriples.specs.declared.Line.{Line}
use Rattle.ntriples.specs.declared.Line.TheVariants as answer
use Rattle.ntriples.specs.Grammar.{bytes_of}
use Rattle.ntriples.specs.Reader.{read_of}
use Rattle.graph.specs.Meaning.{RdfTriple}
use Rattle.graph.specs.Claims.{loading, load_of, load_model}
use Rattle.lines.specs.Claims.{names_in}
use Rattle.std.specs.Prelude.{Err}
use Rattle.store.specs.declared.Refusal.TheVariants.{Full}
use Rattle.loader.specs.declared.line.LineLoaded.{LineLoaded}
use Rattle.loader.specs.Lines.{Came, ended, outcome_of, load_line_of, refusal_in, Loads}
use Rattle.whole_line.specs.Whole.{whole_line_of, LoadsWhole}
use Rattle.whole_line.specs.Room.{with_new, names_with, names_last_first, counters_with, room_with, room_for_line, Storable, LineAnswer}
use Rattle.whole_line.proofs.LineParts.{first-loads, parts_held}
use Rattle.whole_line.proofs.RoomMeans.{roomy, roomy-parts, roomy_of, grows, full-names, room-for-all, full-statements}

-- ---- names that are listed are entered without a change

intern-kept : (c : Counters) (m : Tables) (qs : List ScanCursor) (ns : List (List ℕ)) → fits c m ≡ true → Named ns c m → (w : List ℕ)
    → storable w ≡ true → (t : ℕ) → lookup_name w ns ≡ t → lookup_name w ns ≢ 0
    → (call_store (store c m qs) (intern w)).0 ≡ store c m qs
unfolding call_store intern_of intern_as
intern-kept c m qs ns f N w s zero e h = absurd (h e)
intern-kept c m qs ns f N w s (suc i) e h =
    rw (f, storable-formed w s, storable-kept w s, place-listed ns c m N w i e) refl

load_kept : (s : Store) (y : RdfTriple) → (call_store s (intern y.subject)).0 ≡ s → (call_store s (intern y.predicate)).0 ≡ s
    → (call_store s (intern y.object)).0 ≡ s → (load_of s y).1.refusal ≢ 0 → (load_of s y).0 ≡ s
unfolding loading
load_kept s y ka kb kd =
    rw (ka, kb, kd)
    (decide (eqb (call_store s (intern y.subject)).1.refusal 0)
    (λ p. rw p (decide (eqb (call_store s (intern y.predicate)).1.refusal 0)
    (λ q. rw q (decide (eqb (call_store s (intern y.object)).1.refusal 0)
    (λ r. rw r (refusals-change-nothing s (assert by_value _)))
    (λ r. rw r (λ h. refl))))
    (λ q. rw q (λ h. refl))))
    (λ p. rw p (λ h. refl)))

first-refused : (s : Store) (y : RdfTriple) → (call_store s (intern y.subject)).1.refusal ≢ 0 → (load_of s y).0 ≡ s
unfolding loading
first-refused s y h = rw (ne_eqb _ 0 h) (refusals-change-nothing s (intern y.subject) h)

-- ---- room and the load of a triple

pub three-of : (n : ℕ) → (n ≡ 0) ⊎ (n ≡ 3) → n ≢ 0 → n ≡ 3
three-of n (inl e) h = absurd (h e)
three-of n (inr e) h = e

module _ (c : Counters) (m : Tables) (S : Sound c m) (qs : List ScanCursor) (y : RdfTriple)
    (Y : Storable y.subject y.predicate y.object) where
  abbrev s : Store
  s = store c m qs

  abbrev k : Capacities
  k = capacities_of m

  abbrev l : Model
  l = lists_of s

  R : Agreeing k (store c m []) l
  R = sound-agrees c m S

  abbrev f₁ : List (List ℕ)
  f₁ = with_new l.names y.subject

  abbrev f₂ : List (List ℕ)
  f₂ = with_new f₁ y.predicate

  abbrev f₃ : List (List ℕ)
  f₃ = with_new f₂ y.object

  pub with_all : names_with l.names (names_last_first y) ≡ f₃
  unfolding names_with
  with_all = refl

  pub fit : roomy k l.names ≡ true
  fit =
      let h = fits-parts c m S.capacity in
      roomy_of k l.names (omega (arith, h.0, R.named.size)) (omega (arith, h.2, R.named.bytes))

  -- no more names than before: each is listed
  pub none-new : length f₃ ≡ length l.names
      → (lookup_name y.subject l.names ≢ 0) × (lookup_name y.predicate l.names ≢ 0) × (lookup_name y.object l.names ≢ 0)
  none-new e =
      let G₁ = grows l.names y.subject in
      let G₂ = grows f₁ y.predicate in
      let G₃ = grows f₂ y.object in
      let a : lookup_name y.subject l.names ≢ 0 =
      λ z. omega (arith, e, ap length (G₁.new z) ∙ length-snoc l.names y.subject, G₂.longer, G₃.longer) in
      let b : lookup_name y.predicate f₁ ≢ 0 =
      λ z. omega (arith, e, ap length (G₂.new z) ∙ length-snoc f₁ y.predicate, G₁.longer, G₃.longer) in
      let d : lookup_name y.object f₂ ≢ 0 =
      λ z. omega (arith, e, ap length (G₃.new z) ∙ length-snoc f₂ y.object, G₁.longer, G₂.longer) in
      let e₁ : f₁ ≡ l.names = G₁.old a in
      let e₂ : f₂ ≡ l.names = G₂.old b ∙ e₁ in
      (a, (λ z. b (ap (lookup_name y.predicate) e₁ ∙ z)), (λ z. d (ap (lookup_name y.object) e₂ ∙ z)))

  all-kept : length f₃ ≡ length l.names → (load_of s y).1.refusal ≢ 0 → (load_of s y).0 ≡ s
  all-kept e =
      let n = none-new e in
      let N = R.named in
      load_kept s y
      (intern-kept c m qs l.names S.capacity N y.subject Y.subject _ refl n.0)
      (intern-kept c m qs l.names S.capacity N y.predicate Y.predicate _ refl n.1)
      (intern-kept c m qs l.names S.capacity N y.object Y.object _ refl n.2)

  module _ (listed : (load_of s y).1 ≡ (load_model k l y).1)
      (room : ((load_of s y).1.refusal ≡ 0) ⊎ ((load_of s y).1.refusal ≡ 3)) where
    fits_all : fits (one_statement_more (counters_with c f₃)) m ≡ true → (load_of s y).1.refusal ≡ 0
    fits_all e =
        let h = fits-parts (one_statement_more (counters_with c f₃)) m e in
        let r = roomy_of k f₃ h.0 h.2 in
        rw listed (room-for-all k l (sound-tidy c m S) y Y fit r (omega (arith, h.1, R.size)) (rw listed at room))

    fits_not : fits (one_statement_more (counters_with c f₃)) m ≡ false → length f₃ ≢ length l.names → (load_of s y).1.refusal ≡ 3
    fits_not e n =
        three-of _ room (rw listed (decide (roomy k f₃)
        (λ r. full-statements k l (sound-tidy c m S) y Y fit r n (over r))
        (λ r. full-names k l (sound-tidy c m S) y Y fit r)))
      where
        over : roomy k f₃ ≡ true → k.statements ≤ length l.entries
        over r =
            let p = roomy-parts k f₃ r in
            decide (ltb c.statements k.statements)
            (λ q. absurd (false≢true (sym e ∙ fits-of (one_statement_more (counters_with c f₃)) m p.0 (ltb-true _ _ q) p.1
            (fits-parts c m S.capacity).3)))
            (λ q. omega (arith, ltb-false c.statements k.statements q, R.size))

    pub with-room : room_with c m (names_with l.names (names_last_first y)) ≡ true → (load_of s y).1.refusal ≢ 0 → (load_of s y).0 ≡ s
    unfolding room_with
    with-room e h =
        decide (eqb (length f₃) c.resources)
        (λ q. all-kept (eqb-true _ _ q ∙ R.named.size) h)
        (λ q. absurd (h (fits_all (rw (with_all, q) at e))))

    pub without-room : room_with c m (names_with l.names (names_last_first y)) ≡ false → (load_of s y).1.refusal ≡ 3
    unfolding room_with
    without-room e =
        decide (eqb (length f₃) c.resources)
        (λ q. absurd (false≢true (sym (rw (with_all, q) at e))))
        (λ q. fits_not (rw (with_all, q) at e) (λ z. eqb-false _ _ q (z ∙ sym R.named.size)))

-- ---- a line

status-only : (b : Bool) (o q : Came) → refusal_in o ≡ 0 → refusal_in q ≡ 0 → refusal_in (cond b o q) ≡ 0
status-only true o q e f = e
status-only false o q e f = f

pub refusal_is : (v : Values) → refusal_in (outcome_of v) ≡ v.refusal
refusal_is v =
    decide (eqb v.refusal 0)
    (λ e. rw e (status-only (eqb v.status 1) _ _ refl (status-only (eqb v.status 2) _ _ refl refl) ∙ sym (eqb-true v.refusal 0 e)))
    (λ e. rw e)

refused-three : (v : Values) → v.refusal ≡ 3 → outcome_of v ≡ Came.Refused 3
refused-three v e = rw (ne_eqb v.refusal 0 (λ z. omega arith), e)

-- a refused load that leaves the store is the whole line's
whole-kept : (s : Store) (text : List ℕ) (line : Line)
    → (refusal_in (load_line_of s text line).1 ≢ 0 → (load_line_of s text line).0 ≡ s) → load_line_of s text line ≡ whole_line_of s text line
unfolding whole_line_of
whole-kept s text line h =
    let a = load_line_of s text line in
    decide (eqb (refusal_in a.1) 0)
    (λ e. rw e)
    (λ e. rw e (ap (λ (t : Store). ended t a.1) (h (eqb-false _ 0 e))))

whole-three : (s : Store) (text : List ℕ) (line : Line) → (load_line_of s text line).1 ≡ Came.Refused 3
    → ended s (Came.Refused 3) ≡ whole_line_of s text line
unfolding whole_line_of
whole-three s text line e = rw e

abbrev Read : List ℕ → Line → Type 0
Read text line = (read_of name_limit text 0).line ≡ line

module _ (c : Counters) (m : Tables) (text : List ℕ) (qs : List ScanCursor) where
  abbrev here : Store
  here = store c m qs

  triple-kept : (x y z : Span) → ((load_of here (names_in text x y z)).1.refusal ≢ 0 → (load_of here (names_in text x y z)).0 ≡ here)
      → load_line_of here text (answer.Triple x y z) ≡ whole_line_of here text (answer.Triple x y z)
  unfolding load_line_of
  triple-kept x y z h =
      whole-kept here text (answer.Triple x y z)
      (λ r. h (λ e. r (refusal_is (load_of here (names_in text x y z)).1 ∙ e)))

  -- where no triple was read
  none_kept : (line : Line) → ((x y z : Span) → line ≢ answer.Triple x y z) → load_line_of here text line ≡ whole_line_of here text line
  unfolding load_line_of
  none_kept answer.End h = whole-kept here text answer.End (λ r. refl)
  none_kept answer.Nothing h = whole-kept here text answer.Nothing (λ r. refl)
  none_kept (answer.Refused k) h = whole-kept here text (answer.Refused k) (λ r. refl)
  none_kept (answer.Triple x y z) h = absurd (h x y z refl)

  -- over capacity the first name is refused
  over-kept : fits c m ≡ false → (line : Line) → load_line_of here text line ≡ whole_line_of here text line
  unfolding load_line_of
  over-kept f answer.End = whole-kept here text answer.End (λ r. refl)
  over-kept f answer.Nothing = whole-kept here text answer.Nothing (λ r. refl)
  over-kept f (answer.Refused k) = whole-kept here text (answer.Refused k) (λ r. refl)
  over-kept f (answer.Triple x y z) =
      triple-kept x y z (λ r. first-refused here (names_in text x y z)
      (λ q. omega (arith, ap (λ (v : Values). v.refusal) (capacity-first here (intern (bytes_of text x)) f), q)))

  module _ (S : Sound c m) where
    abbrev ns : List (List ℕ)
    ns = (lists_of here).names

    sound-kept : (line : Line) → Read text line → room_for_line ns c m text line ≡ true
        → load_line_of here text line ≡ whole_line_of here text line
    unfolding load_line_of
    sound-kept answer.End e h = whole-kept here text answer.End (λ r. refl)
    sound-kept answer.Nothing e h = whole-kept here text answer.Nothing (λ r. refl)
    sound-kept (answer.Refused k) e h = whole-kept here text (answer.Refused k) (λ r. refl)
    sound-kept (answer.Triple x y z) e h =
        let L = (first-loads text x y z e here S).1 in
        triple-kept x y z (with-room c m S qs (names_in text x y z) (parts_held text x y z e) L.listed L.room h)

    sound-three : (line : Line) → Read text line → room_for_line ns c m text line ≡ false
        → ended here (Came.Refused 3) ≡ whole_line_of here text line
    unfolding load_line_of
    sound-three answer.End e h = absurd (false≢true (sym h))
    sound-three answer.Nothing e h = absurd (false≢true (sym h))
    sound-three (answer.Refused k) e h = absurd (false≢true (sym h))
    sound-three (answer.Triple x y z) e h =
        let L = (first-loads text x y z e here S).1 in
        whole-three here text (answer.Triple x y z)
        (refused-three (load_of here (names_in text x y z)).1
        (without-room c m S qs (names_in text x y z) (parts_held text x y z e) L.listed L.room h))

-- ---- for the code

module _ {c : Counters} {m : Tables} {text : List ℕ} {line : Line} {b : Bool} (e : line ≡ (read_of name_limit text 0).line)
    (A : LineAnswer c m text line b) where
  abbrev first : Line
  first = (read_of name_limit text 0).line

  A' : LineAnswer c m text first b
  A' = rw e at A

  told : (S : Sound c m) (qs : List ScanCursor) → b ≡ room_for_line (lists_of (store c m qs)).names c m text first
  told S qs = A'.exact (lists_of (store c m qs)).names (sound-agrees c m S).named S.capacity

  pub loads-whole : {m' : Tables} {r : LineLoaded} → b ≡ true → Loads c m m' text first r → LoadsWhole c m m' text first r
  loads-whole t L = record {
    sound = λ S qs. L.sound S qs ∙ sound-kept c m text qs S first refl (sym (told S qs) ∙ t);
    capacity = λ f qs. L.capacity f qs ∙ over-kept c m text qs f first;
    unread = λ h qs. L.unread h qs ∙ none_kept c m text qs first h;
  }

  pub refuses-whole : b ≡ false → LoadsWhole c m m text first (record { counters = c; outcome = Err Full })
  refuses-whole t = record {
    sound = λ S qs. sound-three c m text qs S first refl (sym (told S qs) ∙ t);
    capacity = λ f. absurd (false≢true (sym t ∙ A'.capacity f));
    unread = λ h. absurd (false≢true (sym t ∙ A'.unread h));
  }
