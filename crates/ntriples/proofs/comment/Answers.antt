-- A run of bytes of one class. Assumes nothing.
use Rattle.ntriples.specs.Grammar.{comment_byte}
use Rattle.ntriples.proofs.Runs.{run-is}
use Rattle.ntriples.proofs.comment.Goals as goal

pub returns : goal.returns
returns c = run-is comment_byte c.requires (c.run_end.ensures.end comment_byte (λ b r q. search q))
