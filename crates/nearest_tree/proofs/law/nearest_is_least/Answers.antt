use Rattle.std.proofs.Common.{map}
use Rattle.std.specs.List.{filter}
use Rattle.sgl_values.proofs.LeastLaws.{least_is, least_none}
use Rattle.nearest_tree.specs.Nearest.{near_cmp, is_other_than, near_of}
use Rattle.nearest_tree.proofs.NearLaws.{near_laws}
use Rattle.nearest_tree.proofs.Passing.{map-none}
use Rattle.nearest_tree.proofs.law.nearest_is_least.Goals as goal

pub returns-clause-least : goal.returns-clause-least
returns-clause-least c x y other points = least_is near_cmp near_laws.total (map (near_of x y) (filter (is_other_than other) points))

pub returns-clause-none : goal.returns-clause-none
returns-clause-none c x y other points none =
    map-none (near_of x y) (filter (is_other_than other) points) (least_none near_cmp (map (near_of x y) (filter (is_other_than other) points)) none)
