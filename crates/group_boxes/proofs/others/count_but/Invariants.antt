use Rattle.std.proofs.Common.{◌≡◌}
use Rattle.std.specs.List.{range_with_len, sum_by}
use Rattle.group_boxes.specs.Points.{count_but}
use Rattle.group_boxes.proofs.others.count_but.Given as goal

abbrev pub invariant-loop-group : goal.invariant-loop-group
invariant-loop-group l = l.count ≡ sum_by (count_but l.part.boxes.now l.across l.down l.own) (range_with_len 0 l.group)
