use Rattle.unit_csv.proofs.WorldLines.{second_of_three, three_texts}
use Rattle.battle_report.proofs.line.put_name.Goals as goal

pub returns-in-Ok-put : goal.returns-in-Ok-put
returns-in-Ok-put g c =
    three_texts _ _ _ _ _ _ _ _ c.args.before.now c.args.name.now c.args.after.now _ _ _ c.in-Ok.ensures c.in-Ok-put.ensures c.put-in-Ok-put.ensures

pub returns-in-Err-put : goal.returns-in-Err-put
returns-in-Err-put g c = second_of_three _ _ _ _ _ _ c.args.before.now c.args.name.now c.args.after.now _ _ c.in-Ok.ensures c.in-Err-put.ensures
