use Rattle.tick_core.proofs.Standing.{tag_of-word_number}
use Rattle.tick_core.proofs.law.cells_have_words.Goals as goal

pub returns : goal.returns
returns c = tag_of-word_number
