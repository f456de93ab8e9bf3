-- The keys so far are numbered.
use Rattle.std.proofs.Common.{◌≡◌, map, take}
use Rattle.row_groups.specs.Keys.{IsNumbering}
use Rattle.row_groups.proofs.Holding.{number_in}
use Rattle.row_groups.proofs.numbering.number_keys.Given as goal

abbrev pub invariant-loop-key : goal.invariant-loop-key
invariant-loop-key l = record {
  keys : IsNumbering l.numbers (take l.key-index l.keys);
  each : l.groups.items ≡ map (number_in l.numbers) (take l.key-index l.keys);
}
