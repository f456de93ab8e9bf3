use Rattle.std.proofs.Common.{replicate, sym, ap, ◌∙◌}
use Rattle.row_groups.proofs.Alike.{groups_alike}
use Rattle.row_groups.proofs.numbering.number_alike.Goals as goal

pub returns : goal.returns
returns c =
    let rows = c.args.world.now.world.rows in
    let keys = c.in_ok-numbers.ensures.keys rows (sym c.len.ensures.value) in
    record {
      keys = keys;
      each = c.in_ok-groups.ensures.items_if_clones_equal (λ y is. is) ∙ ap (λ n. replicate n 0) c.len-2.ensures.value ∙ groups_alike c.in_ok-numbers.numbers rows c.in_ok-numbers.ensures.one keys;
    }
