use Rattle.battle_words.specs.declared.command_line.Input.TheVariants as inputs
use Rattle.battle_host.proofs.Starts.{script_tells, tells, units_refused}
use Rattle.battle_host.proofs.start.start_files.Goals as goal

pub returns-in-Err-clause-refused : goal.returns-in-Err-clause-refused
returns-in-Err-clause-refused g c = λ seed.
    script_tells (g.F.Folder.faults c.args.folder.now) (g.F.Folder.faults c.start_script.new.folder) c.args.script_name.now c.args.units_name.now seed (g.F.Folder.held c.args.folder.now)
    c.unread.result c.in-Err.status c.unread.ensures.status c.unread.ensures.schema c.in-Err.ensures.refused

pub returns-in-Err-start_units-clause-refused : goal.returns-in-Err-start_units-clause-refused
returns-in-Err-start_units-clause-refused g c = λ seed.
    tells (inputs.Files c.args.script_name.now c.args.units_name.now) seed (g.F.Folder.held c.args.folder.now) (g.F.Folder.faults c.args.folder.now) (g.F.Folder.faults c.start_units.new.folder)
    c.without_units.result c.in-Ok.compiled.script.schema c.in-Err-start_units.status c.without_units.ensures.status c.without_units.ensures.schema
    (units_refused (g.F.Folder.faults c.args.folder.now) (g.F.Folder.faults c.start_script.new.folder) (g.F.Folder.faults c.start_units.new.folder)
    c.args.script_name.now c.args.units_name.now seed c.in-Ok.compiled.script (g.F.Folder.held c.args.folder.now) (g.F.Folder.held c.start_script.new.folder)
    c.in-Err-start_units.status c.start_script.ensures.held c.start_script.ensures.later c.in-Ok.ensures.passes c.in-Err-start_units.ensures.refused)
