use Rattle.std.proofs.Common.{◌≡◌, [], drop}
use Rattle.sgl_types.specs.Findings.{noted}
use Rattle.sgl_types.specs.Items.{repeated, assigned_names}
use Rattle.sgl_types.proofs.post_rules.check_assigned_twice.Given as goal

abbrev pub invariant-loop-rule : goal.invariant-loop-rule
invariant-loop-rule l = noted l.found (repeated l.seen (assigned_names (drop l.rule-index l.rules))) ≡ noted l.initial.found (repeated [] (assigned_names l.rules))
