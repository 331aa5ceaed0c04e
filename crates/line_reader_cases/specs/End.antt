-- Whether a reader's answer is that the text has ended. Assumes nothing.
use Rattle.std.specs.Prelude.{Bool, true, false}
use Rattle.ntriples.specs.declared.Line.{Line}
use Rattle.ntriples.specs.declared.Line.TheVariants.{End, Nothing, Triple, Refused}

abbrev pub is_end : Line → Bool
is_end End = true
is_end Nothing = false
is_end (Triple s p o) = false
is_end (Refused k) = false
