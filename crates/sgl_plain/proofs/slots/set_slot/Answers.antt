use Rattle.std.proofs.Common.{◌<◌, ◌∷◌, [], length, arith}
use Rattle.sgl_plain.proofs.Logs.{set_back}
use Rattle.sgl_plain.proofs.slots.set_slot.Goals as goal

pub returns-in_ok-push-clause-logged : goal.returns-in_ok-push-clause-logged
returns-in_ok-push-clause-logged c =
    let within : c.args.slot < length c.args.slots.now.values.items = omega (arith, c.if-at-len.true, c.len.ensures) in
    record {
      more = record { slot = c.args.slot; value = c.index.result.now } ∷ [];
      log = c.in_ok-push.ensures.items;
      undone = set_back c.args.slots.now.values.items c.args.slot c.args.value c.index.result.now within c.index.ensures;
    }
