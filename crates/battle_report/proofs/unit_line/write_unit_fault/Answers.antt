use Rattle.battle_report.proofs.unit_line.write_unit_fault.Goals as goal

pub returns-in-BadNumber : goal.returns-in-BadNumber
returns-in-BadNumber g c = rw c.in-BadNumber.is c.put_field.ensures

pub returns-in-OutOfRange : goal.returns-in-OutOfRange
returns-in-OutOfRange g c = rw c.in-OutOfRange.is c.put_field-in-OutOfRange.ensures

pub returns-in-BadKey : goal.returns-in-BadKey
returns-in-BadKey g c = rw c.in-BadKey.is c.put_number-in-BadKey.ensures

pub returns-in-TwiceKey : goal.returns-in-TwiceKey
returns-in-TwiceKey g c = rw c.in-TwiceKey.is c.put_number-in-TwiceKey.ensures
