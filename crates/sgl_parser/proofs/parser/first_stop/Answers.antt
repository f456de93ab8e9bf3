use Rattle.sgl_parser.proofs.Shaping.{items_shape}
use Rattle.sgl_parser.proofs.parser.first_stop.Goals.{in-Ok, in-Err}
use Rattle.sgl_parser.proofs.parser.first_stop.Goals as goal

pub returns-clause-none : goal.returns-clause-none
returns-clause-none c = elim c.match-items.branch [ in-Ok w ↦ rw w.result-is (items_shape w.in-Ok.ensures.spells) | in-Err w ↦ rw w.result-is tt ]
