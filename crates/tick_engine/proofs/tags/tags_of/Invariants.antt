use Rattle.std.proofs.Common.{◌≡◌, take}
use Rattle.tick_postprocess.specs.Answer.{tags_of}
use Rattle.tick_engine.proofs.tags.tags_of.Given as goal

abbrev pub invariant-loop-effect : goal.invariant-loop-effect
invariant-loop-effect l = l.tags ≡ tags_of (take l.effect-index l.effects)
