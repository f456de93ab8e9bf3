-- The nearer of two: the order of what is near is total, and equals are one.
use Rattle.std.specs.Prelude.{Option}
use Rattle.sgl_values.specs.Least.{lesser_of}
use Rattle.sgl_values.proofs.LeastLaws.{LesserLaws, keyed_laws}
use Rattle.nearest_tree.specs.declared.near.Near.{Near}
use Rattle.nearest_tree.specs.Nearest.{near_cmp}

abbrev pub nearer : Option Near → Option Near → Option Near
nearer = lesser_of near_cmp

pub near_laws : LesserLaws near_cmp
near_laws = keyed_laws (λ near. near.distance) (λ near. near.key) (λ a b distance key i. record { distance = distance i; key = key i })
