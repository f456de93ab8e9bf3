-- The next world follows, by the lemma.
use Rattle.sgl_typed.proofs.NextWorld.{next-follows}
use Rattle.sgl_typed.proofs.law.next_worlds_follow.Goals as goal

pub returns : goal.returns
returns c = next-follows
