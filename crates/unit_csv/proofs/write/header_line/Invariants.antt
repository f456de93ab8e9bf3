use Rattle.std.proofs.Common.{◌≡◌, ◌+◌, ◌*◌, ◌≤◌, ◌++◌, drop, codes, length}
use Rattle.unit_csv.specs.Lines.{names_text}
use Rattle.unit_csv.proofs.write.header_line.Given as goal

abbrev pub invariant-loop-name : goal.invariant-loop-name
invariant-loop-name l = record {
  text : l.line.items ++ names_text (drop l.name-index l.names) ≡ codes "key" ++ names_text l.names;
  short : length l.line.items ≤ 3 + 32 * l.name-index;
}
