-- Two sound stores with the same graph give equal files: their live triples are a permutation of each other, so their live
-- lines are, and sorting does not see the order. Assumes nothing.
use mathlib.Core.List.Permᴰ
use mathlib.Core.List.{Permᴰ}
use Rattle.store.specs.declared.Counters.{Counters}
use Rattle.store.specs.Tables.{Tables}
use Rattle.store.specs.Soundness.{Sound}
use Rattle.graph.specs.Graph.{graph_of}
use Rattle.graph.specs.Claims.{SameGraph}
use Rattle.graph.proofs.Permuted.{same-members}
use Rattle.lines.specs.Export.{line_of, live_lines}
use Rattle.lines.specs.ExportClaims.{SameGraphSameFile}
use Rattle.lines.proofs.LiveLines.{live_triples, live-lines, live_members, live-once}
use Rattle.lines.proofs.FileMeans.{same-lines-same-file}

same-graph-lines : (c c' : Counters) (m m' : Tables) → Sound c m → Sound c' m'
    → SameGraph (graph_of c m) (graph_of c' m') → Permᴰ (live_lines c m) (live_lines c' m')
same-graph-lines c c' m m' S S' h =
    rw (live-lines c m, live-lines c' m')
    (Permᴰ.map line_of (same-members (live_triples c m) (live_triples c' m') (live-once c m S) (live-once c' m' S')
    (λ y. (
      λ d. (live_members c' m' y).1 ((h y).0 ((live_members c m y).0 d)),
      λ d. (live_members c m y).1 ((h y).1 ((live_members c' m' y).0 d)),
    ))))

pub same-graph-same-file : SameGraphSameFile
same-graph-same-file c c' m m' S S' h = same-lines-same-file c c' m m' (same-graph-lines c c' m m' S S' h)
