use Rattle.std.proofs.Common.{◌≤◌, length, sym, arith}
use Rattle.sgl_parser.proofs.Answering.{few}
use Rattle.sgl_parser.proofs.parser.syntax_fault.Goals as goal

pub number_within-token-requires : goal.number_within-token-requires
number_within-token-requires c =
    let all : length c.args.tokens.now.list ≤ c.in-Some.last.now.end = few c.args.text.now c.args.tokens.now.list _ c.in-Some.last.now c.requires.tokens (sym (rw c.as_slice.ensures at c.in-Some.ensures.value)) in
    omega (arith, c.requires.within)
