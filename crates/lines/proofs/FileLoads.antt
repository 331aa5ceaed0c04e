-- The file of a sound store, loaded into a fresh one of the same capacities, gives the same graph again (`FileLoads`).
-- Assumes nothing.
use Prim.Native.Nat.{ℕ, ◌-◌, ◌≤◌, ◌<◌}
use mathlib.Core.Path.{◌≡◌, refl, sym, ap, ◌∙◌}
use mathlib.Core.Logic.{◌↔◌}
use mathlib.Core.List.Memᴰ
use mathlib.Core.List.Permᴰ
use mathlib.Core.List.{List, [], ◌∷◌, map, Memᴰ, Permᴰ}
use native.Mathlib.Omega.{arith}
use lib.ListN.{length, length-append, length-map}
use Rattle.store.specs.declared.Counters.{Counters}
use Rattle.store.specs.declared.Position.{Position}
use Rattle.store.specs.Shared.{at, name_of, text_bytes}
use Rattle.store.specs.Tables.{Tables, triple_at}
use Rattle.store.specs.Model.{Capacities}
use Rattle.store.specs.Names.{name_at}
use Rattle.store.specs.Soundness.{Sound, is_live}
use Rattle.store.specs.History.{fresh_store, capacities_of}
use Rattle.store.proofs.Tests.{fits-parts}
use Rattle.store.proofs.Falling.{length-le}
use Rattle.store.proofs.Form.{storable-formed, storable-kept}
use Rattle.store.proofs.NamesAgree.{name-at}
use Rattle.store.proofs.RoundTrips.{name-storable}
use Rattle.store.proofs.Pins.{mem-at}
use Rattle.graph.specs.Meaning.{RdfTriple, part_at}
use Rattle.graph.specs.Graph.{named, graph_of}
use Rattle.graph.proofs.Names.{named-at, term-low, term-high}
use Rattle.graph.proofs.Permuted.{perm-member, perm-length, perm-once}
use Rattle.graph.proofs.Theorems.{live-graph}
use Rattle.lines.specs.Export.{line_of, live_numbers, sort_lines, join_lines, file_of}
use Rattle.lines.specs.ExportClaims.{LoadsBack, FileLoads, load_text}
use Rattle.lines.proofs.LiveLines.{live_triples, live-lines, live_members, live-once}
use Rattle.lines.proofs.Sorting.{sort-means}
use Rattle.lines.proofs.LoadModel.{Listed}
use Rattle.lines.proofs.LoadStep.{Fit, begins, stage-sound}
use Rattle.lines.proofs.LoadText.{AllLoaded, Ready, load-all}

-- ---- the file's triples

-- the lines ls are those of the triples xs in another order
pub record Reordered (xs : List RdfTriple) (ls : List (List ℕ)) : Type 0 where
  pub triples : List RdfTriple
  pub order : Permᴰ xs triples
  pub lines : ls ≡ map line_of triples

-- lines in another order are those of the triples in another order
reordered : (xs : List RdfTriple) {k l : List (List ℕ)} → Permᴰ k l → k ≡ map line_of xs → Reordered xs l
reordered [] Permᴰ.nil q = record { triples = []; order = Permᴰ.nil; lines = refl }
reordered (x ∷ xs) Permᴰ.nil q = absurd (omega (arith, ap length q))
reordered [] (Permᴰ.cons e d) q = absurd (omega (arith, ap length q))
reordered (x ∷ xs) (Permᴰ.cons e d) q =
    let r = reordered xs d cc in
    let f = r.lines in
    record { triples = x ∷ r.triples; order = Permᴰ.cons refl r.order; lines = cc }
reordered [] (Permᴰ.swap e f) q = absurd (omega (arith, ap length q))
reordered (x ∷ []) (Permᴰ.swap e f) q = absurd (omega (arith, ap length q))
reordered (x ∷ y ∷ xs) (Permᴰ.swap e f) q =
    record { triples = y ∷ x ∷ xs; order = Permᴰ.swap refl refl; lines = cc }
reordered xs (Permᴰ.trans d f) q =
    let r = reordered xs d q in
    let s = reordered r.triples f r.lines in
    record { triples = s.triples; order = Permᴰ.trans r.order s.order; lines = s.lines }

-- each line has a byte
lines_long : (ys : List RdfTriple) → length ys ≤ length (join_lines (map line_of ys))
unfolding join_lines line_of
lines_long [] = omega arith
lines_long (y ∷ ys) = let h = lines_long ys in simp length-append (omega arith)

module _ (c : Counters) (m : Tables) where
  pub sorted : Reordered (live_triples c m) (sort_lines (map line_of (live_triples c m)))
  sorted = reordered (live_triples c m) (sort-means (map line_of (live_triples c m))).0 refl

  -- the live triples in the order of their lines
  abbrev pub file_triples : List RdfTriple
  file_triples = sorted.triples

  pub file-is : file_of c m ≡ join_lines (map line_of file_triples)
  unfolding file_of
  file-is = ap (λ (z : List (List ℕ)). join_lines (sort_lines z)) (live-lines c m) ∙ ap join_lines sorted.lines

  file-length : length file_triples ≡ length (live_numbers c m)
  file-length = sym (perm-length sorted.order) ∙ length-map (live_numbers c m) _

  file-members : (y : RdfTriple) → Memᴰ y file_triples ↔ graph_of c m y
  file-members y = (
    λ d. (live_members c m y).0 (perm-member (Permᴰ.symm sorted.order) d),
    λ g. perm-member sorted.order ((live_members c m y).1 g),
  )

-- ---- on a sound store

module _ (c : Counters) (m : Tables) (S : Sound c m) where
  name-listed : (y : ℕ) → 0 < y → y ≤ c.resources → Listed S.names (name_at m y)
  unfolding name_of
  name-listed y a b =
      let s = name-storable c m S y a b in
      rw (name-at S.names c m S.named y a b) record {
        formed = storable-formed (name_of S.names y) s;
        short = storable-kept (name_of S.names y) s;
        listed = mem-at [] S.names (y - 1) (omega (arith, S.named.size));
      }

  part-listed : (i : ℕ) → i < c.statements → (p : Position)
      → Listed S.names (part_at p (named m (triple_at m.statements i)))
  part-listed i h p =
      rw (named-at m (triple_at m.statements i) p)
      (name-listed (at p (triple_at m.statements i)) (term-low c m S p i h) (term-high c m S p i h))

  pub file-fits : (y : RdfTriple) → Memᴰ y (file_triples c m) → Fit S.names y
  file-fits y d =
      let g = (file-members c m y).0 d in
      record { triple = (live-graph c m S).graph y g; each = λ p. rw g.2 at (part-listed g.0 g.1.0 p) }

  module _ (m' : Tables) (e : capacities_of m' ≡ capacities_of m) where
    abbrev k : Capacities
    k = capacities_of m'

    -- the fresh store has room for as many as were held
    room : (length S.names ≤ k.resources) × (text_bytes S.names ≤ k.text) × (c.statements ≤ k.statements)
    room =
        let f = fits-parts c m S.capacity in
        let a = ap (λ (z : Capacities). z.resources) e in
        let b = ap (λ (z : Capacities). z.text) e in
        let d = ap (λ (z : Capacities). z.statements) e in (
          omega (arith, f.0, S.named.size),
          omega (arith, f.2, S.named.bytes),
          omega (arith, f.1),
        )

    ready : Ready k S.names (file_triples c m) []
    ready = record {
      fits = file-fits;
      apart = λ y d n. Memᴰ.not-nil n;
      once = perm-once (sorted c m).order (live-once c m S);
      room = omega (arith, file-length c m, length-le (is_live m.statements) c.statements, room.2);
    }

    all-loaded : AllLoaded k S.names (file_triples c m) [] (load_text (fresh_store m') (file_of c m))
    all-loaded =
        load-all k S.names room.0 room.1 (file_of c m) (file_triples c m) (length (file_of c m)) (fresh_store m')
        [] 0 (file-is c m) (rw (file-is c m) (lines_long (file_triples c m))) (begins m' S.names) ready

    loads-back : LoadsBack c m (load_text (fresh_store m') (file_of c m))
    loads-back =
        let A = all-loaded in
        let P = Permᴰ.reverse (file_triples c m) in
        record {
          lines = A.lines ∙ file-length c m;
          new = A.new;
          statements = A.stage.agrees.size ∙ (A.stage.count ∙ (perm-length P ∙ file-length c m));
          sound = stage-sound k S.names _ _ A.stage;
          graph = λ z. (
            λ g. (file-members c m z).0 (perm-member P ((A.stage.graph z).0 g)),
            λ g. (A.stage.graph z).1 (perm-member (Permᴰ.symm P) ((file-members c m z).1 g)),
          );
        }

pub file-loads : FileLoads
file-loads c m S m' e = loads-back c m S m' e
