use Rattle.std.proofs.Common.{List, Option, ◌+◌, sym, subst}
use Rattle.index_set.specs.Kept.{AreKept}
use Rattle.index_set.specs.declared.ranged.RangedAt.{RangedAt}
use Rattle.index_set.proofs.Ranging.{kept_more}
use Rattle.index_set.proofs.parts.index_aggs.Goals as goal

pub loop-number-preserved : goal.loop-number-preserved
loop-number-preserved g c =
    let shelf = c.range_of.new.shelf in
    let rows = c.args.of.now.world.now.world.rows in
    record {
      shelf = c.in_ok-range_of.ensures.shelf;
      kept = subst (λ (kept : List (Option RangedAt)). AreKept shelf kept (c.loop-number.number + 1) c.args.of.now.script.now rows) (sym c.in_ok-push.ensures.items)
          (kept_more c.loop-number.shelf shelf c.args.of.now.script.now rows c.loop-number.kept.items c.loop-number.number c.in_ok-range_of.field-0 c.in_ok-range_of.ensures.grows
          c.loop-number.invariant.kept c.in_ok-range_of.ensures.kept);
    }
