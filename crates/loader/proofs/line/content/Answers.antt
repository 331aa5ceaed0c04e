-- By what the line ends in. Assumes nothing.
use mathlib.Core.List.{[], ◌∷◌}
use native.Mathlib.Omega.{arith}
use Rattle.std.specs.Prelude.{None, Some}
use Rattle.std.proofs.lemmas.Bool.Decides.{Decides-eqb}
use Rattle.std.proofs.lemmas.Slice.Eq.{strip_suffix_is}
use Rattle.loader.proofs.Endings.{line-ended}
use Rattle.loader.proofs.Inside.{read-moves}
use Rattle.loader.proofs.line.content.Goals as goal

pub slice_bounds-line-count : goal.slice_bounds-line-count
slice_bounds-line-count c = omega (arith, (read-moves c.requires).0)

pub slice_bounds-line-start : goal.slice_bounds-line-start
slice_bounds-line-start c = omega (arith, (read-moves c.requires).0)

pub slice_bounds-line-end : goal.slice_bounds-line-end
slice_bounds-line-end c = (read-moves c.requires).1

pub returns-in-None : goal.returns-in-None
returns-in-None c =
    (line-ended c.requires).plain (strip_suffix_is Decides-eqb _ (10 ∷ []) None c.in-None.ensures.cases)

pub returns-in-None-strip_suffix : goal.returns-in-None-strip_suffix
returns-in-None-strip_suffix c =
    (line-ended c.requires).lf _ (strip_suffix_is Decides-eqb _ (10 ∷ []) (Some c.in-Some.ended) c.in-Some.ensures.cases)
    (strip_suffix_is Decides-eqb _ (13 ∷ []) None c.in-None-strip_suffix.ensures.cases)

pub returns-in-Some-strip_suffix : goal.returns-in-Some-strip_suffix
returns-in-Some-strip_suffix c =
    (line-ended c.requires).crlf _ _ (strip_suffix_is Decides-eqb _ (10 ∷ []) (Some c.in-Some.ended) c.in-Some.ensures.cases)
    (strip_suffix_is Decides-eqb _ (13 ∷ []) (Some c.in-Some-strip_suffix.shorter) c.in-Some-strip_suffix.ensures.cases)
