use Rattle.sgl_parser.proofs.Names.{name_is_text}
use Rattle.sgl_parser.proofs.reading.Reader.name.Goals as goal

pub unreachable-requires : goal.unreachable-requires
unreachable-requires c = c.in_default.ensures.cases.0 (name_is_text c.requires.slice c.requires.kind)
