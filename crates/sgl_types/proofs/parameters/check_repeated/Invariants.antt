use Rattle.std.proofs.Common.{◌≡◌, [], drop}
use Rattle.sgl_types.specs.Findings.{noted}
use Rattle.sgl_types.specs.Items.{repeated}
use Rattle.sgl_types.proofs.parameters.check_repeated.Given as goal

abbrev pub invariant-loop-name : goal.invariant-loop-name
invariant-loop-name l = noted l.found (repeated l.seen (drop l.name-index l.names)) ≡ noted l.initial.found (repeated [] l.names)
