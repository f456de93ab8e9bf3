use Rattle.std.proofs.Common.{◌∙◌, sym}
use Rattle.sgl_typed.specs.Tick.{after_cells, combined_from}
use Rattle.tick_postprocess.specs.Answer.{told}
use Rattle.tick_engine.proofs.Ticks.{items, over_limit, faulty_item, no_fault, words_of_tick}
use Rattle.tick_engine.proofs.Words.{refused_so}
use Rattle.tick_engine.proofs.ending.end_tick.Goals as goal

pub returns-in-Over-clause-fault : goal.returns-in-Over-clause-fault
returns-in-Over-clause-fault g c =
    over_limit c.args.run.now.tick.script.now c.args.run.now.tick.world.now.world c.args.run.now.tick.seed c.args.run.now.limit c.args.combined.now c.args.summary c.requires.told c.in-Over.is

pub returns-in-Some-clause-fault : goal.returns-in-Some-clause-fault
returns-in-Some-clause-fault g c =
    faulty_item c.args.run.now.tick.script.now c.args.run.now.tick.world.now.world c.args.run.now.tick.seed c.args.run.now.limit c.args.combined.now c.args.summary c.requires.told c.in-Counted.items c.in-Counted.least c.in-Counted.is c.in-Some.item c.in-Some.is

pub returns-in-Ok-clause-next : goal.returns-in-Ok-clause-next
returns-in-Ok-clause-next g c =
    let script = c.args.run.now.tick.script.now in
    let world = c.args.run.now.tick.world.now.world in
    no_fault script world c.args.run.now.tick.seed c.args.run.now.limit c.args.combined.now c.args.summary c.requires.told c.in-Counted.items c.in-Counted.least c.in-Counted.is c.in-None.is
    ∙ sym (c.in-Ok.ensures.told (items script world c.args.run.now.tick.seed c.args.run.now.limit c.args.combined.now c.args.summary c.requires.told)
    (words_of_tick script world c.args.run.now.tick.seed c.args.run.now.limit c.args.combined.now c.args.summary c.requires.told c.in-Counted.items c.in-Counted.least c.in-Counted.is c.combined_words_stand.ensures c.requires.limit))

pub returns-in-Err-clause-fault : goal.returns-in-Err-clause-fault
returns-in-Err-clause-fault g c =
    let script = c.args.run.now.tick.script.now in
    let world = c.args.run.now.tick.world.now.world in
    let all = items script world c.args.run.now.tick.seed c.args.run.now.limit c.args.combined.now c.args.summary c.requires.told in
    no_fault script world c.args.run.now.tick.seed c.args.run.now.limit c.args.combined.now c.args.summary c.requires.told c.in-Counted.items c.in-Counted.least c.in-Counted.is c.in-None.is
    ∙ refused_so (after_cells script world c.args.run.now.tick.seed (combined_from script all 0 world.rows)) (told c.in-Err.fault) c.told.result
    (c.in-Err.ensures.told all
    (words_of_tick script world c.args.run.now.tick.seed c.args.run.now.limit c.args.combined.now c.args.summary c.requires.told c.in-Counted.items c.in-Counted.least c.in-Counted.is c.combined_words_stand.ensures c.requires.limit))
    c.told.ensures.told
