use Rattle.std.proofs.Common.{◌≡◌, drop}
use Rattle.unit_csv.specs.Units.{stands_in}
use Rattle.unit_csv.proofs.columns.is_const.Given as goal

abbrev pub invariant-loop-attribute : goal.invariant-loop-attribute
invariant-loop-attribute l = stands_in l.name (drop l.attribute-index l.consts) ≡ stands_in l.name l.consts
