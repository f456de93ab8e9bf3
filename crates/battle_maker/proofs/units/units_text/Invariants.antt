use Rattle.std.proofs.Common.{◌≡◌, ◌+◌, ◌*◌, ◌≤◌, length}
use Rattle.battle_maker.specs.Sample.{units_text}
use Rattle.battle_maker.proofs.units.units_text.Given as goal

abbrev pub invariant-loop-before : goal.invariant-loop-before
invariant-loop-before l = record {
  text : l.text.items ≡ units_text l.before l.number;
  short : length l.text.items ≤ 22 + 105 * l.before;
}
