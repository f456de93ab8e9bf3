-- One more event leads on, lets nothing fall, and leaves all spectators.
use Rattle.std.proofs.Common.{◌≡◌, ◌+◌, ◌∙◌, ◌≤◌, true, take, get_or, length, sym, ap, subst, le_trans, List, ◌∷◌, [], ◌++◌, arith}
use Rattle.std.proofs.lemmas.List.{take_more}
use Rattle.world_publish.specs.Machine.{Stand, Leads, is_allowed, after, seen_by}
use Rattle.world_publish.specs.declared.machine.StandEvent.{StandEvent}
use Rattle.world_publish.specs.declared.machine.StandEvent.TheVariants.{Publish}
use Rattle.world_publish.proofs.Events.{Leads-push, none_falls, none_leaves}
use Rattle.world_publish.proofs.stand_core.StandCore.play.Goals as goal

pub loop-at-preserved : goal.loop-at-preserved
loop-at-preserved c =
    let events : List StandEvent = c.args.events.now in
    let at = c.loop-at.at in
    let event = get_or events at Publish in
    let more : take (at + 1) events ≡ take at events ++ event ∷ [] = take_more events at Publish (omega (arith, c.loop-at-test.true)) in
    let ok : is_allowed c.loop-at.self event ≡ true = sym c.allows.ensures ∙ c.if-not-allows.false in
    let followed : c.follow.new.self ≡ after c.loop-at.self event = c.follow.ensures in
    record {
      led = subst (Leads c.args.self.now (take (at + 1) events)) (sym followed) (subst (λ es. Leads c.args.self.now es (after c.loop-at.self event)) (sym more)
          (Leads-push c.args.self.now (take at events) c.loop-at.self event c.loop-at.invariant.led ok));
      falls = λ spectator. subst (λ s. seen_by c.args.self.now spectator ≤ seen_by s spectator) (sym followed)
          (le_trans (c.loop-at.invariant.falls spectator) (none_falls c.loop-at.self event ok spectator));
      spectators = ap (λ (s : Stand). length s.seen) followed ∙ none_leaves c.loop-at.self event ∙ c.loop-at.invariant.spectators;
    }
