-- Whether a part is a name. Assumes nothing.
use Rattle.std.proofs.Common.{ap, ◌∙◌}
use Rattle.shell_words.specs.Words.{is_name}
use Rattle.shell_words.proofs.is_name.Goals as goal

pub returns : goal.returns
returns c = c.begins_name.ensures ∙ ap is_name c.part_of.ensures
