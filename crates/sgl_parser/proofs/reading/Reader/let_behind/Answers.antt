use Rattle.std.proofs.Common.{rules}
use Rattle.sgl_parser.proofs.Returns.{stopped}
use Rattle.sgl_parser.proofs.reading.Reader.let_behind.Goals as goal

pub returns : goal.returns
returns c = record {
  passes = c.in_ok-assigned.ensures.passes;
  spells = c.in_ok-assigned.ensures.spells.0;
  shorter = search rules;
  of = search rules;
}

pub returns-in_err-assigned : goal.returns-in_err-assigned
returns-in_err-assigned c = stopped c.from_residual.result _ _ _ c.from_residual.ensures.1 c.in_err-assigned.ensures
