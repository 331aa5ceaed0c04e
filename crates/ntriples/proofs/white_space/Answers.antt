-- A run of bytes of one class. Assumes nothing.
use Rattle.ntriples.specs.Grammar.{white}
use Rattle.ntriples.proofs.Runs.{run-is}
use Rattle.ntriples.proofs.white_space.Goals as goal

pub returns : goal.returns
returns c = run-is white c.requires (c.run_end.ensures.end white (λ b r q. search q))
