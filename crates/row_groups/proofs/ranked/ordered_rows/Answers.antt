-- The rows are those of all groups, in another order.
use Rattle.std.proofs.Common.{◌<◌, List, ap, arith, length, subst, sym}
use Rattle.std.specs.Prelude.{All}
use Rattle.std.specs.List.Sorted.{IsPermutation}
use Rattle.std.proofs.lemmas.List.Sorted.{All-permutation}
use Rattle.row_groups.specs.declared.ranked.Ranked.{Ranked}
use Rattle.row_groups.specs.Ranked.{IsAcross}
use Rattle.row_groups.proofs.Ranking.{hold_sorted}
use Rattle.row_groups.proofs.ranked.ordered_rows.Goals as goal

pub in_order-requires-clause-few : goal.in_order-requires-clause-few
in_order-requires-clause-few c = omega (arith, ap length c.as_slice.ensures.value, c.in_ok-all.ensures.few)

pub in_order-requires-clause-groups : goal.in_order-requires-clause-groups
in_order-requires-clause-groups c =
    let Below : Ranked → Type 0 = λ one. one.group < 65536 in
    subst (All Below) (sym c.as_slice.ensures.value) c.in_ok-all.ensures.groups

pub returns : goal.returns
returns c =
    let world = c.args.world.now.world in
    let all = c.in_ok-all.all.items in
    let ranked = c.in_ok-ordered.ordered.ranked.items in
    let moved : IsPermutation all ranked = subst (λ (l : List Ranked). IsPermutation l ranked) c.as_slice.ensures.value c.in_ok-ordered.ensures.permutation in
    record {
      held = record { held = hold_sorted c.args.axis c.args.across world all ranked c.args.groups.now.lists moved c.in_ok-all.ensures.held };
      each = All-permutation (IsAcross c.args.across world) all ranked moved c.in_ok-all.ensures.each;
      rising = c.in_ok-ordered.ensures.rising;
      ends = c.in_ok-ordered.ensures.ends;
    }
