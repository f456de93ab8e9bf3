use Rattle.std.proofs.Common.{refl, subst, arith}
use Rattle.sgl_lexer.proofs.Within.{tokens_within}
use Rattle.sgl_parser.specs.ItemShape.{HasScriptShape}
use Rattle.sgl_parser.specs.Shape.{kinds_of}
use Rattle.sgl_parser.proofs.Answering.{front_slices, kinds_of_front, broken_front, left_before, fault_before, deep_behind, deep_behind_whole}
use Rattle.sgl_parser.proofs.parser.deep_fault.Goals as goal

pub first_stop-requires : goal.first_stop-requires
first_stop-requires c = rw c.as_slice-list.ensures (front_slices c.args.text.now c.args.tokens.now.list c.args.at (tokens_within c.args.text.now c.args.tokens.now.list _ c.requires.tokens))

pub overflow_sub-at : goal.overflow_sub-at
overflow_sub-at c =
    let broken = rw (c.in-Some-Syntax.field-0-is, c.as_slice-list.ensures) at c.in-Some-Syntax.ensures.stop in
    left_before (kinds_of c.args.tokens.now.list) c.args.at c.in-Some-Syntax.left c.requires.deep (broken_front c.args.tokens.now.list c.args.at c.in-Some-Syntax.left broken)

pub returns-then-left-eq0 : goal.returns-then-left-eq0
returns-then-left-eq0 c =
    let broken = rw (c.in-Some-Syntax.field-0-is, c.as_slice-list.ensures, c.if-left-eq0.true) at c.in-Some-Syntax.ensures.stop in
    rw c.too_deep-then-left-eq0.ensures (c.args.at, deep_behind (kinds_of c.args.tokens.now.list) c.args.at c.requires.deep (broken_front c.args.tokens.now.list c.args.at 0 broken), refl)

pub returns-in-None : goal.returns-in-None
returns-in-None c =
    let whole = rw c.as_slice-list.ensures at c.in-None.ensures.none in
    rw c.too_deep.ensures (c.args.at, deep_behind_whole (kinds_of c.args.tokens.now.list) c.args.at c.requires.deep (subst HasScriptShape (kinds_of_front c.args.tokens.now.list c.args.at) whole), refl)

pub returns-else-left-eq0 : goal.returns-else-left-eq0
returns-else-left-eq0 c =
    let broken = rw (c.in-Some-Syntax.field-0-is, c.as_slice-list.ensures) at c.in-Some-Syntax.ensures.stop in
    rw c.syntax_fault.ensures (fault_before (kinds_of c.args.tokens.now.list) c.args.at c.requires.deep c.in-Some-Syntax.left _ (broken_front c.args.tokens.now.list c.args.at c.in-Some-Syntax.left broken) (omega (arith, c.if-left-eq0.false)) refl, refl)
