-- The searches within the index on any tables, and the contract of the listing: exact where the dictionary is sound,
-- within the bound elsewhere, one law for each way out of the code. Assumes nothing.
use mathlib.Core.Path.{◌≡◌, refl, sym, ap, ap₂, ◌∙◌}
use mathlib.Core.Logic.{inl, inr}
use mathlib.Core.Bool.{Bool, true, false, true≢false}
use mathlib.Core.List.{List}
use Prim.Native.Nat.{ℕ, suc, zero, ◌+◌, ◌-◌, ◌<◌, ◌≤◌}
use native.Mathlib.Omega.{arith}
use lib.ListN.{length, take, drop, length-take, length-drop}
use lib.Dec.{ltb}
use borrow.Author.Tests.{lt-ltb, ltb-true, le-leb, lt-leb}
use Rattle.term.specs.Grammar.{name_limit}
use Rattle.store.specs.declared.Counters.{Counters}
use Rattle.store.specs.declared.Refusal.TheVariants.{Capacity, Malformed, Damaged}
use Rattle.store.specs.Tables.{Tables, fits}
use Rattle.store.specs.Names.{Named}
use Rattle.store.specs.Prefix.{told, listed, filled, prefix_list, prefix_of, PrefixAnswer}
use Rattle.store.proofs.Tests.{decide}
use Rattle.table.proofs.Capacity.{fits-room}
use Rattle.dictionary.specs.Search.{middle}
use Rattle.prefix.specs.Boundary.{probe_of, boundary_of, boundary_from, up_to, on_from, run_of}
use Rattle.std.proofs.Common.{Option, Some, None, Ordering, Less, Equal, Greater}
use Rattle.prefix.specs.declared.boundary.Edge.{Edge}
use Rattle.prefix.specs.declared.boundary.Run.{Run}
use Rattle.prefix.proofs.Runs.{run_is, list-is}
use Rattle.std.specs.Prelude.{Err, Ok}

-- ---- on any tables

-- a boundary from k to r, and a position from it to r
abbrev pub EdgeWithin : ℕ → ℕ → Option Edge → Type 0
EdgeWithin k r (Some b) = (k ≤ b.below) × (b.below ≤ b.top) × (b.top ≤ r)
EdgeWithin k r None = Unit {0}

module _ (c : Counters) (res idx text w : List ℕ) (after : Bool) (first end : ℕ) where
  abbrev Bounded : ℕ → Type 0
  Bounded f = (lo hi z : ℕ) → first ≤ lo → lo ≤ hi → hi ≤ z → z ≤ end
      → EdgeWithin first end (boundary_of c res idx text w after f lo hi z)

  bounded-turn : (f lo hi z : ℕ) → Bounded f → first ≤ lo → lo < hi → hi ≤ z → z ≤ end → (o : Option Ordering)
      → probe_of c res idx text w after (middle lo hi) ≡ o
      → EdgeWithin first end (boundary_of c res idx text w after (suc f) lo hi z)
  unfolding boundary_of
  bounded-turn f lo hi z ih a lt b d (Some Less) e =
      rw (boundary_of, lt-ltb lo hi lt, e) (ih (middle lo hi + 1) hi z (omega arith) (omega arith) b d)
  bounded-turn f lo hi z ih a lt b d (Some Equal) e =
      rw (boundary_of, lt-ltb lo hi lt, e) (ih lo (middle lo hi) z a (omega arith) (omega arith) d)
  bounded-turn f lo hi z ih a lt b d (Some Greater) e =
      rw (boundary_of, lt-ltb lo hi lt, e)
      (ih lo (middle lo hi) (middle lo hi) a (omega arith) (omega arith) (omega arith))
  bounded-turn f lo hi z ih a lt b d None e = rw (boundary_of, lt-ltb lo hi lt, e) tt

  bounded : (f : ℕ) → Bounded f
  unfolding boundary_of
  bounded zero lo hi z a b d r = (a, omega arith, r)
  bounded (suc f) lo hi z a b d r =
      decide (ltb lo hi)
      (λ q. bounded-turn f lo hi z (bounded f) a (ltb-true lo hi q) d r (probe_of c res idx text w after (middle lo hi))
      refl)
      (λ q. rw (boundary_of, q) (a, omega arith, r))

  from-within : first ≤ end → EdgeWithin first end (boundary_from c res idx text w after first end)
  from-within h = bounded 16 first end end (omega arith) h (omega arith) (omega arith)

  pub edge-within : (b : Edge) → Some b ≡ boundary_from c res idx text w after first end → first ≤ end
      → (first ≤ b.below) × (b.below ≤ b.top) × (b.top ≤ end)
  edge-within b e h = rw (← e) at (from-within h)

-- ---- the ways out of the two searches

module _ (c : Counters) (res idx text w : List ℕ) where
  abbrev first-search : Option Edge
  first-search = boundary_from c res idx text w false 0 c.resources

  pub run_none : None ≡ first-search → None ≡ run_of c res idx text w
  unfolding run_of
  run_none e = rw (← e)

  pub run-open : (a : Edge) → Some a ≡ first-search → None ≡ boundary_from c res idx text w true a.below a.top
      → None ≡ run_of c res idx text w
  unfolding run_of
  run-open a e d = rw (← e, ← d)

  pub run-between : (a b : Edge) → Some a ≡ first-search → Some b ≡ boundary_from c res idx text w true a.below a.top
      → Some (record { start = a.below; end = b.below }) ≡ run_of c res idx text w
  unfolding run_of
  run-between a b e d = rw (← e, ← d)

  abbrev RunWithin : ℕ → Option Run → Type 0
  RunWithin r (Some run) = (run.start ≤ run.end) × (run.end ≤ r)
  RunWithin r None = Unit {0}

  both-within : (r : ℕ) (g : ℕ → ℕ → Option Edge) → ((k z : ℕ) → k ≤ z → z ≤ r → EdgeWithin k z (g k z)) → (s : Option Edge)
      → EdgeWithin 0 r s → RunWithin r (on_from g s)
  both-within r g h (Some d) b = go (g d.below d.top) (h d.below d.top b.1 b.2)
    where
      go : (s : Option Edge) → EdgeWithin d.below d.top s → RunWithin r (up_to d.below s)
      go (Some y) a = (a.0, omega (arith, a.1, a.2, b.2))
      go None a = tt
  both-within r g h None b = tt

  pub run-within : (run : Run) → Some run ≡ run_of c res idx text w → (run.start ≤ run.end) × (run.end ≤ c.resources)
  unfolding run_of
  run-within run e =
      let b = both-within c.resources (λ k z. boundary_from c res idx text w true k z)
      (λ k z h g. from-within c res idx text w true k z h) first-search
      (from-within c res idx text w false 0 c.resources (omega arith)) in
      rw (← e) at b

-- ---- the listing

abbrev part : List ℕ → ℕ → ℕ → List ℕ
part idx lo hi = take (hi - lo) (drop lo idx)

part_length : (idx : List ℕ) (lo hi : ℕ) → lo ≤ hi → hi ≤ length idx → length (part idx lo hi) ≡ hi - lo
part_length idx lo hi a b = simp (length-take, length-drop) (omega arith)

module _ (c : Counters) (m : Tables) (w out : List ℕ) where
  abbrev found : Option Run
  found = run_of c m.resources m.index m.text w

  pub prefix-capacity : fits c m ≡ false → PrefixAnswer c m w out out (Err Capacity)
  unfolding prefix_of
  prefix-capacity f = record {
    capacity = λ g. refl;
    malformed = λ g. absurd (true≢false (sym g ∙ f));
    exact = λ ns N. rw f;
    bounded = λ g. absurd (true≢false (sym g ∙ f));
  }

  pub prefix-malformed : fits c m ≡ true → name_limit < length w → PrefixAnswer c m w out out (Err Malformed)
  unfolding prefix_of
  prefix-malformed f l = record {
    capacity = λ g. absurd (true≢false (sym f ∙ g));
    malformed = λ g h. refl;
    exact = λ ns N. rw (f, lt-leb (length w) name_limit l);
    bounded = λ g h. absurd (omega arith);
  }

  module _ (f : fits c m ≡ true) (short : length w ≤ name_limit) where
    few : c.resources ≤ 65535
    few = (fits-room c m f).few-resources

    -- past the tests the definition lists
    lists : prefix_of c m w out ≡ listed out (prefix_list c m w)
    unfolding prefix_of
    lists = rw (f, le-leb (length w) name_limit short)

    pub prefix-damaged : None ≡ found → PrefixAnswer c m w out out (Err Damaged)
    prefix-damaged e = record {
      capacity = λ g. absurd (true≢false (sym f ∙ g));
      malformed = λ g h. absurd (omega arith);
      exact = λ ns N. absurd (never _ (e ∙ run_is ns c m N w few));
      bounded = λ g h. inl refl;
    }
      where
        never : (r : Run) → None ≡ Some r → ⊥
        never r q = let z : ◌≡◌ {A = ℕ} 0 1 = cc in omega arith

    pub prefix-listed : (run : Run) (out' : List ℕ) → Some run ≡ found → out' ≡ filled out (part m.index run.start run.end)
        → PrefixAnswer c m w out out' (Ok (run.end - run.start))
    prefix-listed run out' e d = record {
      capacity = λ g. absurd (true≢false (sym f ∙ g));
      malformed = λ g h. absurd (omega arith);
      exact = λ ns N. as-listed ∙ exactly ns N;
      bounded = λ g h. inr (part m.index run.start run.end, as-listed, omega (arith, size, b.1));
    }
      where
        b : (run.start ≤ run.end) × (run.end ≤ c.resources)
        b = run-within c m.resources m.index m.text w run e

        size : length (part m.index run.start run.end) ≡ run.end - run.start
        size = part_length m.index run.start run.end b.0 (omega (arith, b.1, (fits-room c m f).in-index))

        as-listed : told out' (Ok (run.end - run.start)) ≡ listed out (part m.index run.start run.end)
        as-listed = rw (d, size)

        ends : (r s : Run) → Some r ≡ Some s → (r.start ≡ s.start) × (r.end ≡ s.end)
        ends r s q = let e : r ≡ s = cc in (ap (λ (x : Run). x.start) e, ap (λ (x : Run). x.end) e)

        exactly : (ns : List (List ℕ)) → Named ns c m → listed out (part m.index run.start run.end) ≡ prefix_of c m w out
        exactly ns N =
            let q = ends run _ (e ∙ run_is ns c m N w few) in
            sym (lists ∙ ap (listed out) (list-is ns c m N w few ∙ ap₂ (part m.index) (sym q.0) (sym q.1)))
