use Rattle.std.proofs.Common.{◌≡◌, [], length, map, sym, subst}
use Rattle.std.specs.Prelude.{MatchOption}
use Rattle.sgl_outside.proofs.Writes.{writes_nothing}
use Rattle.battle_watch.specs.Watches.{AreWatches}
use Rattle.battle_watch.proofs.Looks.{no_watches, watches_of}
use Rattle.battle_watch.proofs.audience.end_watch.Goals as goal

pub returns-in-Some : goal.returns-in-Some
returns-in-Some g c =
    let seated = c.look_last.new.watches.items in
    (map (λ watch. watch.notes) seated, watches_of g.C.Course.worlds (length c.args.watches.items) c.args.looks seated c.look_last.ensures.full c.look_last.ensures.ended, c.write_watches.ensures)

pub returns-in-None : goal.returns-in-None
returns-in-None g c =
    let none : length c.args.watches.items ≡ 0 =
    subst (λ stage. MatchOption stage (length c.args.watches.items ≡ 0) (λ shown. shown ≡ length g.C.Course.worlds)) c.in-None.is c.requires.stage in
    ([], subst (λ n. AreWatches g.C.Course.worlds n c.args.looks []) (sym none) (no_watches g.C.Course.worlds c.args.looks), writes_nothing (g.O.Sink.written c.args.out.now) (g.O.Sink.faults c.args.out.now) tt)
