use Rattle.std.proofs.Common.{◌∙◌, ap}
use Rattle.rand_core.specs.Stream.{next_u64}
use Rattle.rand_core.specs.Steps.{stream_of}
use Rattle.rand_xoshiro.specs.SplitMix64.{mix_u64}
use Rattle.sgl_typed.specs.Draw.{split}
use Rattle.tick_random.proofs.draw.first_word.Goals as goal

pub returns : goal.returns
unfolding next_u64 stream_of split
returns c = ap (λ p. p.0) c.next_u64.ensures ∙ ap (λ x. (mix_u64 x).0) c.seed_from_u64.ensures.same
