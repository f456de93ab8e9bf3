-- The arguments so far were read.
use Rattle.std.proofs.Common.{◌≡◌, length, map, take}
use Rattle.sgl_typed.specs.Aggregate.{simple_value}
use Rattle.battle_algebra.specs.Meaning.{Frame}
use Rattle.plan_executor.proofs.setting.read_written.Given as goal

abbrev pub invariant-loop-number : goal.invariant-loop-number
invariant-loop-number l = record {
  room : length l.args ≡ 16;
  read : (f : Frame) → take l.number l.args ≡ map (simple_value f) (take l.number l.exprs);
}
