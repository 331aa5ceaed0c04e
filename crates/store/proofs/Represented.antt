-- States that agree: a store over tables that hold what plain lists say, cursors and openings one by one, and what the
-- definitions come to on such a store. Assumes nothing.
use mathlib.Core.Path.{◌≡◌, refl, sym, ap, ◌∙◌}
use mathlib.Core.Logic.{◌≢◌}
use mathlib.Core.Bool.{Bool, true, false, cond}
use mathlib.Core.List.{List, map}
use mathlib.Core.Option.{some}
use Prim.Native.Nat.{ℕ, suc, ◌≤◌, ◌<◌}
use native.Mathlib.Omega.{arith}
use lib.ListN.{length, get_or, length-set}
use lib.Seq.{get_or-set_same, get_or-set_other}
use lib.Dec.{eqb}
use borrow.Author.Tests.{eqb-true, eqb-false}
use Rattle.store.specs.declared.Counters.{Counters}
use Rattle.store.specs.declared.Position.{Position}
use Rattle.store.specs.declared.Position.TheVariants.{Subject, Predicate, Object}
use Rattle.store.specs.declared.Chain.{Chain}
use Rattle.store.specs.declared.Chain.TheVariants.{All, By}
use Rattle.store.specs.declared.Triple.{Triple}
use Rattle.store.specs.Shared.{at, known, same, below, head0, max_reclaims, Entry, text_bytes}
use Rattle.store.specs.Tables.{Tables, tables, offset_at, kind_at, fits, resource_capacity, statement_capacity}
use Rattle.store.specs.Tables.{text_capacity, term_at, flag_at, triple_at}
use Rattle.store.specs.Values.{Values}
use Rattle.store.specs.Model.{Listing, Model, Capacities, entry, lookup, mark, on_chain, holders}
use Rattle.store.specs.Model.{pick_model, cursor_of, no_listing, totals, read_rest}
use Rattle.store.specs.Walk.{entry_at, pick_chain, pickable, Step, found_in}
use Rattle.store.specs.Statement.{seek, countable, locate}
use Rattle.store.specs.Scan.{chain_ok}
use Rattle.store.specs.Names.{Named}
use Rattle.store.specs.Soundness.{Linked}
use Rattle.store.specs.History.{Store}
use Rattle.store.proofs.Tests.{decide, fits-of, all3-at, known-high, same_at}
use Rattle.store.proofs.Falling.{below-cong, head-le, head-passes}
use Rattle.store.proofs.Words.{triple-at}
use Rattle.store.proofs.Walks.{as_step, found_as, hit-chain}
use Rattle.store.proofs.Picking.{pick-cong}
use Rattle.store.proofs.Chains.{on_words, pick_chain-bound, chain-holding, chain-start, walk-linked}
use Rattle.store.proofs.Chains.{pickable-linked, countable-linked}

-- the test of a chain, over the plain list
abbrev pub on_list : List Entry → Chain → Triple → ℕ → Bool
on_list l ch x i = on_chain ch x (entry l i).spo

-- an opening, whatever was asserted or retracted since: its rest is its chain up to some entry
pub record Good (r : ℕ) (l : List Entry) (g : Listing) : Type 0 where
  pub small : (p : Position) → at p g.pattern ≤ r
  pub picked : chain_ok g.chain g.pattern ≡ true
  pub top : ℕ
  pub top-le : top ≤ length l
  pub rest-is : g.rest ≡ below (on_list l g.chain g.pattern) top

-- an opening in a store reclaimed n times: good if it was opened since the last reclaim
abbrev pub Standing : ℕ → List Entry → ℕ → Listing → Type 0
Standing r l n g = (g.generation ≤ n) × (g.generation ≡ n → Good r l g)

pub record Agreeing (k : Capacities) (c : Store) (s : Model) : Type 0 where
  pub named : Named s.names c.counters c.tables
  pub size : c.counters.statements ≡ length s.entries
  pub linked : Linked c.counters.resources c.counters.statements c.tables.resources c.tables.statements
  pub generation : c.counters.generation ≡ s.generation
  pub reads : (i : ℕ) → i < c.counters.statements → entry s.entries i ≡ entry_at c.tables.statements i
  pub cursors : c.cursors ≡ map cursor_of s.listings
  pub good : (j : ℕ) → Standing (length s.names) s.entries s.generation (get_or s.listings j no_listing)
  -- the plain lists' capacities are the tables'
  pub room-resources : k.resources ≡ resource_capacity c.tables
  pub room-statements : k.statements ≡ statement_capacity c.tables
  pub room-text : k.text ≡ text_capacity c.tables
  -- so that refusal 1 never comes
  pub in-resources : c.counters.resources ≤ k.resources
  pub in-statements : c.counters.statements ≤ k.statements
  pub in-text : c.counters.text ≤ k.text
  pub in-generation : c.counters.generation ≤ max_reclaims

abbrev counts : ℕ → ℕ → ℕ → ℕ → Counters
counts r t b g = record { resources = r; statements = t; text = b; generation = g }

-- the names stay where offsets and kinds do, whatever the statements are
pub named-stays : (ns : List (List ℕ)) (c : Counters) (m : Tables) (t g : ℕ) (res stm : List ℕ)
    → ((y : ℕ) → 0 < y → offset_at res y ≡ offset_at m.resources y)
    → ((y : ℕ) → 0 < y → kind_at res y ≡ kind_at m.resources y) → Named ns c m
    → Named ns (counts c.resources t c.text g) (tables res stm m.index m.text)
named-stays ns c m t g res stm o k N = record {
  size = N.size;
  bytes = N.bytes;
  spelled = N.spelled;
  well = N.well;
  offsets = λ y h q. o y h ∙ N.offsets y h q;
  kinds = λ y h q. k y h ∙ N.kinds y h q;
  index = N.index;
}

-- two answers agree, and the states that they leave
abbrev pub Same : Capacities → Store × Values → Model × Values → Type 0
Same k a b = (a.1 ≡ b.1) × Agreeing k a.0 b.0

-- tests that agree, case by case; f makes an operation's reply a state and its values
pub same_cond : {A : Type 0} (k : Capacities) (f : A → Store × Values) (b b' : Bool) (x y : A) (x' y' : Model × Values)
    → b ≡ b'
    → (b ≡ true → Same k (f x) x') → (b ≡ false → Same k (f y) y') → Same k (f (cond b x y)) (cond b' x' y')
same_cond k f true b' x y x' y' e h g = rw (← e) (h refl)
same_cond k f false b' x y x' y' e h g = rw (← e) (g refl)

-- ---- what the definitions come to

pub located : (c : Counters) (m : Tables) (x : Triple) (z : Step) → pickable c.statements m.resources x ≡ true
    → countable m.resources x ≡ true
    → seek c m x ≡ some z
    → locate c m x ≡ some (found_in z)
unfolding locate
located c m x z a d b = rw (locate, a, d, b)

pub same-on : (ch : Chain) (x t : Triple) → same x t ≡ true → on_chain ch x t ≡ true
unfolding same on_chain
same-on All x t h = refl
same-on (By p) x t h = all3-at (λ p. eqb (at p t) (at p x)) h p

module _ (k : Capacities) (c : Store) (s : Model) (R : Agreeing k c s) where
  abbrev r : ℕ
  r = c.counters.resources

  abbrev t : ℕ
  t = c.counters.statements

  abbrev res : List ℕ
  res = c.tables.resources

  abbrev stm : List ℕ
  stm = c.tables.statements

  pub fits-agrees : fits c.counters c.tables ≡ true
  fits-agrees =
      fits-of c.counters c.tables (rw (← R.room-resources) R.in-resources)
      (rw (← R.room-statements) R.in-statements)
      (rw (← R.room-text) R.in-text) R.in-generation

  pub totals-agree : c.counters ≡ totals s
  totals-agree =
      ap (λ (n : ℕ). counts n t c.counters.text c.counters.generation) R.named.size
      ∙ ap (λ (n : ℕ). counts (length s.names) n c.counters.text c.counters.generation) R.size
      ∙ ap (λ (n : ℕ). counts (length s.names) (length s.entries) n c.counters.generation) R.named.bytes
      ∙ ap (counts (length s.names) (length s.entries) (text_bytes s.names)) R.generation

  pub spo-agrees : (i : ℕ) → i < t → (entry s.entries i).spo ≡ triple_at stm i
  unfolding entry_at
  spo-agrees i h = ap (λ (e : Entry). e.spo) (R.reads i h)

  pub mark-agrees : (i : ℕ) → i < t → eqb (flag_at stm i) 1 ≡ (entry s.entries i).retracted
  unfolding entry_at
  mark-agrees i h = ap (λ (e : Entry). e.retracted) (sym (R.reads i h))

  pub chain-agrees : (ch : Chain) (x : Triple) (n : ℕ) → n ≤ t
      → below (on_list s.entries ch x) n ≡ below (on_words stm ch x) n
  chain-agrees ch x n h = below-cong _ _ n (λ i q. ap (on_chain ch x) (spo-agrees i (omega arith)))

  pub holders-agree : (ch : Chain) (x : Triple) → holders ch x s.entries ≡ below (on_words stm ch x) t
  unfolding holders
  holders-agree ch x = rw (← R.size) (chain-agrees ch x t (omega arith))

  pub lookup-agrees : (x : Triple) → head0 (below (λ i. same x (triple_at stm i)) t) ≡ lookup x s.entries
  unfolding lookup
  lookup-agrees x = rw (← R.size) (ap head0 (below-cong _ _ t (λ i q. ap (same x) (sym (spo-agrees i q)))))

  pub lookup-le : (x : Triple) → lookup x s.entries ≤ t
  unfolding lookup
  lookup-le x = rw R.size (head-le _ (length s.entries))

  pub pick-agrees : (x : Triple) → ((p : Position) → at p x ≤ r) → pick_chain res x ≡ pick_model x s.entries
  unfolding pick_chain pick_model
  pick-agrees x h =
      pick-cong x _ _ (λ q b. R.linked.count q (at q x) b (h q)
      ∙ ap length (sym (chain-holding stm q x t) ∙ sym (holders-agree (By q) x)))

  -- the walk of assert and retract comes to the triple's position, or 0
  seek-takes : (x : Triple) → ((p : Position) → at p x ≤ r)
      → seek c.counters c.tables x
      ≡ some (as_step (read_rest (λ i. same x (triple_at stm i)) t (below (on_words stm (pick_chain res x) x) t)))
  unfolding seek
  seek-takes x h =
      rw (chain-start _ _ _ _ R.linked (pick_chain res x) x (pick_chain-bound res x) h)
      (walk-linked _ _ _ _ R.linked (pick_chain res x) x (λ i. same x (triple_at stm i)) t t (omega arith))

  pub locate-agrees : (x : Triple) → known r x ≡ true
      → locate c.counters c.tables x ≡ some (lookup x s.entries)
  locate-agrees x e =
      let h = known-high r x e in
      located c.counters c.tables x _ (pickable-linked _ _ _ _ R.linked x h)
      (countable-linked _ _ _ _ R.linked x e)
      (seek-takes x h)
      ∙ ap some
      (found_as (read_rest (λ i. same x (triple_at stm i)) t (below (on_words stm (pick_chain res x) x) t))
      ∙ hit-chain (on_words stm (pick_chain res x) x) (λ i. same x (triple_at stm i)) t t (omega arith)
      (λ i q. same-on (pick_chain res x) x (triple_at stm i))
      ∙ lookup-agrees x)

  -- the entry found holds the triple
  pub found-holds : (x : Triple) (i : ℕ) → lookup x s.entries ≡ suc i → (p : Position) → term_at stm p i ≡ at p x
  found-holds x i e p =
      sym (triple-at stm p i)
      ∙ same_at x (triple_at stm i) (head-passes (λ i. same x (triple_at stm i)) t i (lookup-agrees x ∙ e)) p

-- ---- marks

pub mark-length : (l : List Entry) (i : ℕ) (b : Bool) → length (mark l i b) ≡ length l
unfolding mark
mark-length l i b = simp length-set

pub mark-same : (l : List Entry) (i : ℕ) (b : Bool) → i < length l
    → entry (mark l i b) i ≡ record { spo = (entry l i).spo; retracted = b }
unfolding mark
mark-same l i b h = rw get_or-set_same

pub mark-other : (l : List Entry) (i j : ℕ) (b : Bool) → j ≢ i → entry (mark l i b) j ≡ entry l j
unfolding mark
mark-other l i j b h = rw get_or-set_other

pub mark-spo : (l : List Entry) (i j : ℕ) (b : Bool) → j < length l → (entry (mark l i b) j).spo ≡ (entry l j).spo
mark-spo l i j b h =
    decide (eqb j i)
    (λ e. let q : j ≡ i = eqb-true j i e in rw (← q, mark-same l j b h))
    (λ e. rw (mark-other l i j b (eqb-false j i e)))

-- ---- openings

-- an opening is as good after a change of the entries that keeps the triples
pub good-grow : (r r' : ℕ) (l l' : List Entry) (g : Listing) → r ≤ r' → length l ≤ length l'
    → ((i : ℕ) → i < length l → (entry l' i).spo ≡ (entry l i).spo) → Good r l g → Good r' l' g
good-grow r r' l l' g a b h G = record {
  small = λ p. omega (arith, G.small p);
  picked = G.picked;
  top = G.top;
  top-le = omega (arith, G.top-le);
  rest-is = G.rest-is ∙ below-cong _ _ G.top (λ i q. ap (on_chain g.chain g.pattern)
      (sym (h i (omega (arith, G.top-le)))));
}

pub standing-grow : (r r' : ℕ) (l l' : List Entry) (n : ℕ) (g : Listing) → r ≤ r' → length l ≤ length l'
    → ((i : ℕ) → i < length l → (entry l' i).spo ≡ (entry l i).spo) → Standing r l n g → Standing r' l' n g
standing-grow r r' l l' n g a b h G = (G.0, λ e. good-grow r r' l l' g a b h (G.1 e))

pub good_none : (r : ℕ) (l : List Entry) → Good r l no_listing
unfolding chain_ok below
good_none r l = record { small = λ p. zero-small p; picked = refl; top = 0; top-le = omega arith; rest-is = refl }
  where
    zero-small : (p : Position) → at p no_listing.pattern ≤ r
    zero-small Subject = omega arith
    zero-small Predicate = omega arith
    zero-small Object = omega arith

pub standing-none : (r : ℕ) (l : List Entry) (n : ℕ) → Standing r l n no_listing
standing-none r l n = (omega arith, λ e. good_none r l)
