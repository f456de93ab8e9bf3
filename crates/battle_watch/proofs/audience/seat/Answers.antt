use Rattle.std.proofs.Common.{◌≡◌, ◌∙◌, ◌+◌, [], ◌∷◌, length, sym, ap, subst, arith}
use Rattle.std.specs.Prelude.{All}
use Rattle.std.proofs.lemmas.List.Elements.{All-push}
use Rattle.std.proofs.Math.ListN.{length-append}
use Rattle.battle_watch.specs.Watching.{HasLooked}
use Rattle.battle_watch.proofs.audience.seat.Goals as goal

pub loop-spectator-preserved : goal.loop-spectator-preserved
loop-spectator-preserved g c =
    let held = c.loop-spectator.invariant in
    let pushed = c.in_ok-push.ensures.items in
    let one : length c.push.new.self.items ≡ length c.loop-spectator.seated.items + 1 =
    ap length pushed ∙ length-append c.loop-spectator.seated.items (c.in_ok-new.field-0 ∷ []) in
    let less : length c.loop-spectator.spectators ≡ length c.pop.new.self + 1 =
    ap length c.in-Some.ensures ∙ length-append c.pop.new.self (c.in-Some.spectator ∷ []) in
    record {
      counted = omega (arith, held.counted, one, less);
      numbered = omega (arith, held.numbered, one);
      fresh = subst (All (HasLooked 0 (c.args.looks + 1))) (sym pushed)
          (All-push (HasLooked 0 (c.args.looks + 1)) c.loop-spectator.seated.items c.in_ok-new.field-0 held.fresh c.in_ok-new.ensures);
    }
