use Rattle.std.proofs.Common.{◌≡◌, ℕ, ◌+◌, ◌<◌, ◌++◌, ◌∷◌, [], true, length, get_or, drop, sym, ap, ◌∙◌, subst, arith}
use Rattle.std.specs.Prelude.{Option}
use Rattle.std.proofs.lemmas.Grind.{common_steps}
use Rattle.std.proofs.lemmas.List.{get_or_default, length_push}
use Rattle.tick_core.specs.Core.{Core, splits}
use Rattle.tick_core.specs.Events.{is_allowed, after}
use Rattle.tick_core.specs.Plays.{run, answers_of, first_bad, StandsBehind}
use Rattle.tick_core.specs.declared.event.CoreEvent.{CoreEvent}
use Rattle.tick_core.specs.declared.event.CoreEvent.TheVariants.{Claim}
use Rattle.tick_core.proofs.Playing.{run-next, answers-next, first_bad-next, stands-next, splits-after, table_through}
use Rattle.tick_core.proofs.core_tick.CoreTick.play.Goals as goal

pub loop-at-preserved : goal.loop-at-preserved
loop-at-preserved c =
    let events = c.args.events.now in
    let at : ℕ = c.loop-at.at in
    let core : Core = c.loop-at.self in
    let old : Core = c.args.self.now in
    let inv = c.loop-at.invariant in
    let answers = c.loop-at.answers.items in
    let event : CoreEvent = get_or events at (Claim 0) in
    let inside : at < length events = omega arith in
    let is : event ≡ get_or events at event = get_or_default events at (Claim 0) event inside in
    let allowed : is_allowed event core ≡ true = sym c.if-not-allows.ensures.value in
    let next : c.befall.new.self ≡ after event core = c.in-Ok-befall.ensures.event in
    let fits = c.push.ensures.succeeds (omega (arith, inv.room, inv.counted, inside, c.loop-at.answers.ok)) in
    let items : c.push.new.self.items ≡ answers ++ c.in-Ok-befall.answer ∷ [] = grind (arith, common_steps, fits) in
    let count : length c.push.new.self.items ≡ length answers + 1 = ap length items ∙ length_push answers c.in-Ok-befall.answer in
    let told : c.push.new.self.items ≡ answers ++ _ ∷ [] = items ∙ ap (λ (a : Option ℕ). answers ++ a ∷ []) c.in-Ok-befall.ensures.answer in
    let after_splits = splits-after event core in
    let same_splits = ap splits next in
    record {
      state = ap (run (drop (at + 1) events)) next ∙ run-next events at event core inside is ∙ inv.state;
      told = (λ k. told k ++ answers_of (drop (at + 1) events) (next k)) ∙ answers-next events at event core inside is answers ∙ inv.told;
      bad = ap (first_bad (at + 1) (drop (at + 1) events)) next ∙ first_bad-next events at event core inside is allowed ∙ inv.bad;
      stands = subst (StandsBehind events (at + 1) old) (sym next) (stands-next events at event core inside is old inv.stands allowed);
      few = omega (arith, inv.few, after_splits, same_splits);
      room = omega (arith, inv.room, c.push.ensures.capacity);
      counted = omega (arith, count, inv.counted);
      table = table_through inv.table c.befall.ensures.table;
      fair = c.befall.ensures.fair;
    }
