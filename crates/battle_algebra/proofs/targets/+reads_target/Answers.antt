use Rattle.std.proofs.Common.{refl, ap, sym, ◌∙◌}
use Rattle.std.specs.Prelude.{◌||◌}
use Rattle.battle_algebra.specs.Ways.{reads_target}
use Rattle.battle_algebra.proofs.RightSides.{target_binary}
use Rattle.battle_algebra.proofs.targets.+reads_target.Goals as goal

pub returns-then-reads_target : goal.returns-then-reads_target
returns-then-reads_target t c =
    c.if-reads_target.true ∙ ap (λ b. b || reads_target c.in-Binary.right) (sym c.if-reads_target.true)
    ∙ target_binary c.args.expr.now c.in-Binary.left c.in-Binary.right c.get-in-Binary.result.now c.in-Binary.right c.in-Binary.op c.in-Binary.place
    c.reads_target-in-Binary.result (reads_target c.in-Binary.right) c.in-Binary.is c.get-in-Binary.ensures refl c.reads_target-in-Binary.ensures refl

pub returns-else-reads_target : goal.returns-else-reads_target
returns-else-reads_target t c =
    ap (λ b. b || c.reads_target-else-reads_target.result) (sym c.if-reads_target.false)
    ∙ target_binary c.args.expr.now c.in-Binary.left c.in-Binary.right c.get-in-Binary.result.now c.get-else-reads_target.result.now c.in-Binary.op c.in-Binary.place
    c.reads_target-in-Binary.result c.reads_target-else-reads_target.result c.in-Binary.is c.get-in-Binary.ensures c.get-else-reads_target.ensures c.reads_target-in-Binary.ensures c.reads_target-else-reads_target.ensures
