use Rattle.std.proofs.Common.{subst}
use Rattle.sgl_parser.proofs.Sequences.{absent_breaks}
use Rattle.sgl_parser.proofs.ItemStarts.{item_finishes, items_exclude, item_returns}
use Rattle.sgl_parser.proofs.TokenKinds.{kinds-length}
use Rattle.sgl_parser.specs.Shape.{kinds_of}
use Rattle.sgl_parser.specs.Breaks.{NotAt, Breaks}
use Rattle.sgl_parser.specs.ItemShape.{ItemShape}
use Rattle.sgl_lexer.specs.declared.lexeme.TokenKind.TheVariants as kinds
use Rattle.sgl_lexer.specs.declared.vocabulary.Word.TheVariants as words
use Rattle.sgl_parser.proofs.reading.Reader.item.Goals as goal

pub returns-in-Some : goal.returns-in-Some
returns-in-Some c = item_returns words.Attr (λ to s. tt) c.in-Some.ensures.list c.in-Some.ensures.kind _ c.attribute.result c.attribute.ensures

pub returns-in-Some-eat : goal.returns-in-Some-eat
returns-in-Some-eat c = item_returns words.Aggregate (λ to s. tt) c.in-Some-eat.ensures.list c.in-Some-eat.ensures.kind _ c.aggregate.result c.aggregate.ensures

pub returns-in-Some-eat-2 : goal.returns-in-Some-eat-2
returns-in-Some-eat-2 c = item_returns words.Action (λ to s. s) c.in-Some-eat-2.ensures.list c.in-Some-eat-2.ensures.kind _ c.action.result c.action.ensures

pub returns-in-Some-eat-3 : goal.returns-in-Some-eat-3
returns-in-Some-eat-3 c = item_returns words.Routine (λ to s. tt) c.in-Some-eat-3.ensures.list c.in-Some-eat-3.ensures.kind _ c.routine.result c.routine.ensures

pub returns-in-Some-eat-4 : goal.returns-in-Some-eat-4
returns-in-Some-eat-4 c = item_returns words.Main (λ to s. tt) c.in-Some-eat-4.ensures.list c.in-Some-eat-4.ensures.kind _ c.main.result c.main.ensures

pub returns-in-Some-eat-5 : goal.returns-in-Some-eat-5
returns-in-Some-eat-5 c = item_returns words.Post (λ to s. tt) c.in-Some-eat-5.ensures.list c.in-Some-eat-5.ensures.kind _ c.post.result c.post.ensures

pub returns : goal.returns
returns c =
    subst (Breaks ItemShape (NotAt (kinds.Word words.On)) (kinds_of c.args.tokens.now)) (kinds-length c.args.tokens.now)
    (absent_breaks item_finishes (items_exclude c.args.tokens.now c.in_default.ensures.none c.in_default-eat.ensures.none c.in_default-eat-2.ensures.none c.in_default-eat-3.ensures.none c.in_default-eat-4.ensures.none c.in_default-eat-5.ensures.none))
