use native.Mathlib.Omega.{arith}
use Rattle.pattern_level.proofs.LevelLaws.{written_copied}
use Rattle.pattern_level.proofs.level.written.Goals as goal

pub returns : goal.returns
returns c = rw c.copy_from_slice.ensures.after (written_copied c.args.levels c.args.d c.requires (omega arith))
