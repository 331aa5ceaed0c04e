-- The words with one more. Assumes nothing.
use Rattle.shell_words.proofs.WordLaws.{word_set}
use Rattle.shell_words.proofs.with_word.Goals as goal

pub returns : goal.returns
returns c = word_set c.args.w c.args.i c.args.v
