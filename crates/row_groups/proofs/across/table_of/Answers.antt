use Rattle.std.proofs.Common.{ap, arith, length}
use Rattle.std.proofs.lemmas.List.Sorted.{length_permutation}
use Rattle.row_groups.proofs.across.table_of.Goals as goal

pub build-requires-clause-few : goal.build-requires-clause-few
build-requires-clause-few c =
    omega (arith, length_permutation _ _ c.in_ok-in_order.ensures.permutation, ap length c.as_slice.ensures.value, c.in_ok-values.ensures.few)
