-- Position 0 is the start of the run, and a run has at most 10,001 worlds.
use Rattle.std.proofs.Common.{◌+◌, ◌≤◌, length, sym, ap, subst, arith}
use Rattle.std.specs.Prelude.{All}
use Rattle.std.proofs.lemmas.List.Elements.{All-nil}
use Rattle.world_publish.specs.Showing.{IsEntry, Waits}
use Rattle.world_publish.proofs.Runs.{first_entry, worlds_few}
use Rattle.world_publish.proofs.opening.stand.Goals as goal

pub start_writer-requires : goal.start_writer-requires
start_writer-requires g c =
    subst (λ all. IsEntry all 0 c.args.start.now.world) (sym c.requires.all) (first_entry c.args.script.now c.args.start.now.world c.args.seed c.args.items c.args.ticks)

pub invariant_of-publisher : goal.invariant_of-publisher
invariant_of-publisher g c =
    let few : length g.C.Course.worlds ≤ c.args.ticks + 1 = subst (λ all. length all ≤ c.args.ticks + 1) (sym c.requires.all) (worlds_few c.args.script.now c.args.start.now.world c.args.seed c.args.items c.args.ticks) in (
      ap (λ n. n + 1) c.in_ok-writer.ensures.shown,
      omega (arith, few, c.requires.ticks),
      subst (All (Waits g.C.Course.worlds 1)) (sym c.in_ok-writer.ensures.none) (All-nil (Waits g.C.Course.worlds 1)),
    )
