-- The triples of a store's live statements: their lines are the live lines, their members are the graph, and on a sound
-- store each is there once. Assumes nothing.
use Prim.Native.Nat.{ℕ, suc, ◌-◌}
use mathlib.Core.Path.{◌≡◌, sym, ap, ◌∙◌}
use mathlib.Core.Logic.{◌↔◌}
use mathlib.Core.List.Memᴰ
use mathlib.Core.List.{List, [], ◌∷◌, map, map-map, Memᴰ}
use native.Mathlib.Omega.{arith}
use borrow.Author.Tests.{eq-eqb, eqb-true}
use Rattle.store.specs.declared.Counters.{Counters}
use Rattle.store.specs.Tables.{Tables, triple_at, flag_at}
use Rattle.store.specs.Pins.{Falling}
use Rattle.store.specs.Soundness.{Sound, is_live}
use Rattle.store.proofs.Falling.{below_in, below_out, below-falling}
use Rattle.graph.specs.Meaning.{RdfTriple}
use Rattle.graph.specs.Order.{NoDuplicates}
use Rattle.graph.specs.Graph.{named, LiveAt, graph_of}
use Rattle.graph.proofs.Solutions.{map-once}
use Rattle.graph.proofs.Theorems.{live-graph}
use Rattle.lines.specs.Export.{line_of, line_at, live_numbers, live_lines}

-- as in `LineTriple`: a definition that changes an answer is refused in the closed runs first

-- what falls has no duplicates
falling-once : (ns : List ℕ) → Falling ns → NoDuplicates ns
falling-once [] f = tt
falling-once (n ∷ ns) f = (λ k. omega (arith, f.0 n k), falling-once ns f.1)

module _ (c : Counters) (m : Tables) where
  -- the triple of statement n, and those of the live statements
  abbrev triple_of : ℕ → RdfTriple
  triple_of n = named m (triple_at m.statements (n - 1))

  abbrev pub live_triples : List RdfTriple
  live_triples = map triple_of (live_numbers c m)

  pub live-lines : live_lines c m ≡ map line_of live_triples
  unfolding line_at
  live-lines = sym (map-map line_of triple_of (live_numbers c m))

  -- a number of the list is that of a live statement
  live-number : (n : ℕ) → Memᴰ n (live_numbers c m) → LiveAt c m (n - 1) × (n ≡ suc (n - 1))
  live-number n d =
      let r = below_out (is_live m.statements) c.statements n d in
      let e : n - 1 ≡ r.0 = omega (arith, r.1) in
      rw e ((r.2, eqb-true (flag_at m.statements r.0) 0 r.3), r.1)

  pub live_members : (y : RdfTriple) → Memᴰ y live_triples ↔ graph_of c m y
  live_members y = (
    λ d. let r = Memᴰ.of_map triple_of (live_numbers c m) d in (r.0 - 1, (live-number r.0 r.1).0, r.2),
    λ g. let i = g.0 in
        let e : suc i - 1 ≡ i = omega arith in
        Memᴰ.cast (sym (ap (λ (z : ℕ). named m (triple_at m.statements z)) e ∙ g.2))
        (Memᴰ.map triple_of (below_in (is_live m.statements) c.statements i g.1.0
        (eq-eqb (flag_at m.statements i) 0 g.1.1))),
  )

  pub live-once : Sound c m → NoDuplicates live_triples
  live-once S =
      map-once triple_of (live_numbers c m)
      (λ n k a b e.
      let p = live-number n a in
      let q = live-number k b in
      p.1 ∙ (ap suc ((live-graph c m S).once (n - 1) (k - 1) p.0 q.0 e) ∙ sym q.1))
      (falling-once (live_numbers c m) (below-falling (is_live m.statements) c.statements))
