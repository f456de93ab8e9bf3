-- What is asked of points, and when a mark answers for them.
use Rattle.std.specs.Prelude.{int_lt, Bool, true, false, not, List, Option, Some, None, option_map, if◌then◌else◌}
use Rattle.std.specs.Ordering.{is_gt}
use Rattle.nearest_tree.specs.declared.mark.Mark.{Mark}
use Rattle.nearest_tree.specs.declared.near.Near.{Near}
use Rattle.nearest_tree.specs.declared.node.Node.{Node}
use Rattle.nearest_tree.specs.declared.point.NearPoint.{NearPoint}
use Rattle.nearest_tree.specs.declared.query.Query.{Query}
use Rattle.nearest_tree.specs.Marks.{box_distance, is_wide}
use Rattle.nearest_tree.specs.Keys.{key_without}
use Rattle.nearest_tree.specs.Nearest.{near_cmp, nearest_of}

-- the answer of points
abbrev pub answer_of : Query → List NearPoint → Option Near
answer_of query points = nearest_of query.x query.y query.other_than points

-- the nearest that a point under a mark can be: as near as its box, with the least key of those that are not left out
abbrev pub bound_of : Query → Mark → Option Near
bound_of query mark = option_map (λ key. record { distance = box_distance query.x query.y mark; key = key }) (key_without query.other_than mark.keys)

-- whether a bound tells that nothing is nearer than what was found
abbrev pub is_passed : Option Near → Option Near → Bool
is_passed found None = true
is_passed None (Some bound) = false
is_passed (Some near) (Some bound) = not (is_gt (near_cmp near bound))

-- whether the place lies before the root, by the side in which the points of its tree differ most
abbrev pub lies_before : Query → Node → Bool
lies_before query root = if is_wide root.mark then int_lt query.x root.point.x else int_lt query.y root.point.y
