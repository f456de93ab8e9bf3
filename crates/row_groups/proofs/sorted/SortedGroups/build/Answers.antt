use Rattle.std.proofs.Common.{◌≤◌, ◌∙◌, List, ℤ, ap, length, map}
use Rattle.std.proofs.lemmas.Result.{IfOk-at_ok}
use Rattle.std.specs.List.Sorted.{IsPermutation}
use Rattle.row_groups.specs.declared.ranked.Ranked.{Ranked}
use Rattle.row_groups.specs.Across.{rank_in, values_across}
use Rattle.row_groups.specs.Ordered.{AreOrdered}
use Rattle.row_groups.proofs.Crossing.{all-among}
use Rattle.row_groups.proofs.sorted.SortedGroups.build.Goals as goal

pub invariant_of-result : goal.invariant_of-result
invariant_of-result g c =
    let world = c.args.world.now.world in
    let table = c.in_ok-table.table in
    let parts = c.rows_and_table-ordered.ensures in
    let ordered = IfOk-at_ok (AreOrdered c.args.groups.now c.args.axis c.args.across world) c.in_ok-ranked.was parts.rows in
    let Few : List ℤ → Type 0 = λ table. length table ≤ 65536 in
    let Values : List ℤ → Type 0 = λ table. IsPermutation (values_across c.args.across world) table in
    record {
      rising = ordered.rising;
      rows = c.in_ok-rows.ensures ∙ ap (map (λ (r : Ranked). r.row)) c.as_slice.ensures.value;
      ranks = c.in_ok-ranks.ensures ∙ ap (map (rank_in table)) c.as_slice-2.ensures.value;
      few = IfOk-at_ok Few c.in_ok-table.was parts.few;
      among = all-among c.args.across world c.in_ok-ranked.field-0.ranked.items table ordered.each (IfOk-at_ok Values c.in_ok-table.was parts.table);
      ends = ordered.ends;
    }

pub returns : goal.returns
returns g c =
    let world = c.args.world.now.world in
    (IfOk-at_ok (AreOrdered c.args.groups.now c.args.axis c.args.across world) c.in_ok-ranked.was c.rows_and_table-ordered.ensures.rows).held
