-- One group more.
use Rattle.std.proofs.Common.{◌<◌, ◌≤◌, ◌+◌, ◌∙◌, ap, arith, get_or, length, List, map, subst, sym, take, [], ℕ, ◌++◌}
use Rattle.std.specs.Prelude.{All}
use Rattle.std.proofs.lemmas.List.{map-append}
use Rattle.std.proofs.lemmas.List.Elements.{All-append, All-map}
use Rattle.row_groups.specs.declared.ranked.Ranked.{Ranked}
use Rattle.row_groups.specs.Ranked.{HoldGroups, ranked_row}
use Rattle.row_groups.proofs.Counting.{ArePlaced, placed_few, placed_more}
use Rattle.row_groups.proofs.Ranking.{back, hold_all, hold_more}
use Rattle.row_groups.proofs.ranked.ranked_rows.Goals as goal

pub loop-group-preserved : goal.loop-group-preserved
loop-group-preserved c =
    let lists = c.args.groups.now.lists in
    let group = c.loop-group.group in
    let ranked = ranked_row c.args.axis c.args.across c.args.world.now.world group in
    let rows : List ℕ = get_or lists group [] in
    let before = c.loop-group.ranked.items in
    let P : List Ranked → Type 0 = λ l. HoldGroups l (take (group + 1) lists) c.args.axis c.args.across c.args.world.now.world in
    let Within : Ranked → Type 0 = λ one. one.group < 65536 in
    let below : c.loop-group.group < 65536 = omega (arith, c.loop-group-test.true, c.len-group-end.ensures.few) in
    let row_of = λ (r : Ranked). r.row in
    let named = ap (map row_of) c.in_ok-push_group.ensures.made ∙ map-append row_of before (map ranked rows)
    ∙ ap (λ l. map row_of before ++ l) (back c.args.axis c.args.across c.args.world.now.world group rows) in
    record {
      held = subst P (sym c.in_ok-push_group.ensures.made)
          (hold_more c.args.axis c.args.across c.args.world.now.world before lists group (omega (arith, c.loop-group-test.true, c.len-group-end.ensures.value)) c.loop-group.invariant.held);
      each = c.in_ok-push_group.ensures.each;
      groups = subst (All Within) (sym c.in_ok-push_group.ensures.made)
          (All-append Within before (map ranked rows) c.loop-group.invariant.groups (All-map Within ranked rows (λ k d inside. below)));
      placed = subst (ArePlaced lists (group + 1)) (sym named) (placed_more lists group (map row_of before) c.are_apart.ensures c.loop-group.invariant.placed);
    }

pub returns-clause-held : goal.returns-clause-held
returns-clause-held c =
    hold_all c.args.axis c.args.across c.args.world.now.world c.loop-group.ranked.items c.args.groups.now.lists c.loop-group.group (omega (arith, c.loop-group-test.false, c.loop-group.auto.group-end, c.len-group-end.ensures.value)) c.loop-group.invariant.held

pub returns-clause-few : goal.returns-clause-few
returns-clause-few c =
    let size = length c.args.world.now.world.rows in
    let most : length c.loop-group.ranked.items ≤ length c.args.world.now.world.rows =
    placed_few c.args.groups.now.lists c.loop-group.group size c.loop-group.ranked.items c.loop-group.invariant.placed (λ k d inside. (c.loop-group.invariant.each k d inside).0) in
    omega (arith, most, c.len.ensures.value, c.len.ensures.few)
