use Rattle.std.proofs.Common.{◌+◌, ◌++◌, map, drop, subst, arith}
use Rattle.std.proofs.KnownBytes.{Appends-trans}
use Rattle.sgl_outside.specs.Sinks.{AppendsPrefix}
use Rattle.sgl_outside.proofs.Writes.{prefix_after, prefix_more, rose_later}
use Rattle.battle_report.specs.RunLines.{watch_line}
use Rattle.battle_watch.specs.Watches.{watch_text}
use Rattle.battle_watch.proofs.Lines.{watch_more}
use Rattle.battle_watch.proofs.audience.write_watches.Goals as goal

pub returns-in-Err : goal.returns-in-Err
returns-in-Err g c =
    let held = c.loop-number.invariant in
    let cut = c.in-Err.ensures.cut in
    let n = c.loop-number.number in
    let watches = c.args.watches.now.items in
    let line = watch_line n c.notes.result.now in
    record {
      later = omega (arith, held.later, c.in-Err.ensures.later);
      whole = tt;
      cut = (
        rose_later _ _ _ held.later cut.0,
        subst (AppendsPrefix (g.O.Sink.written c.args.out.now) (g.O.Sink.written c.write_watch.new.out))
            (watch_more watches n _ c.notes.result.now held.done (omega arith) c.index.ensures c.notes.ensures held.text)
            (prefix_more _ _ (held.done ++ line) (watch_text (n + 1) (drop (n + 1) (map (λ watch. watch.notes) watches)))
            (prefix_after _ (g.O.Sink.written c.loop-number.out) _ held.done line held.wrote cut.1)),
      );
    }

pub loop-number-preserved : goal.loop-number-preserved
loop-number-preserved g c =
    let held = c.loop-number.invariant in
    let n = c.loop-number.number in
    let line = watch_line n c.notes.result.now in
    record {
      done = held.done ++ line;
      wrote = Appends-trans _ (g.O.Sink.written c.loop-number.out) _ held.done line held.wrote c.in_default.ensures.whole;
      text = watch_more c.args.watches.now.items n _ c.notes.result.now held.done (omega arith) c.index.ensures c.notes.ensures held.text;
      later = omega (arith, held.later, c.in_default.ensures.later);
    }
