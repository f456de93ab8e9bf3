use Rattle.battle_report.proofs.tick_line.write_tick_fault.Goals as goal

pub returns-in-Post : goal.returns-in-Post
returns-in-Post g c = rw c.in-Post.is c.put_fault-in-Post.ensures
