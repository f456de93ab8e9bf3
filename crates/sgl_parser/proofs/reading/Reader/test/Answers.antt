use Rattle.std.proofs.Common.{ap, length, arith}
use Rattle.sgl_parser.proofs.Sequences.{Excludes, left_breaks, right_breaks, left_passes, right_passes, narrower_breaks, narrower_passes}
use Rattle.sgl_parser.proofs.Parts.{lift_broken, behind, pass_behind, other_at, not_here, at_none}
use Rattle.std.proofs.lemmas.Result.{MatchResult-weaker}
use Rattle.sgl_parser.specs.ItemShape.{CircleShape, ComparisonShape}
use Rattle.sgl_parser.specs.Shape.{kinds_of}
use Rattle.sgl_parser.specs.Scripts.{by_circle, by_comparison}
use Rattle.sgl_lexer.specs.declared.lexeme.TokenKind.TheVariants as kinds
use Rattle.sgl_lexer.specs.declared.vocabulary.Word.TheVariants as words
use Rattle.sgl_parser.proofs.reading.Reader.test.Goals as goal

pub returns-in-Some : goal.returns-in-Some
returns-in-Some c =
    let no_comparison : Excludes ComparisonShape (kinds_of c.args.tokens.now) = at_none kinds.Name _ (kinds_of c.args.tokens.now) (other_at kinds.Name (kinds.Word words.Within) c.in-Some.ensures.list c.in-Some.ensures.kind (λ e. cc)) in
    MatchResult-weaker c.circle.result c.circle.ensures (λ found h. record {
      passes = left_passes no_comparison (pass_behind c.in-Some.ensures.list c.in-Some.ensures.kind (narrower_passes (λ to s. tt) h.passes));
      spells = rw c.in-Some.ensures.list (by_circle c.in-Some.ensures.kind h.spells);
      shorter = omega (arith, h.shorter, ap length c.in-Some.ensures.list);
      of = h.of;
    }) (λ stop h. lift_broken stop (λ n f. left_breaks no_comparison n (behind n c.in-Some.ensures.list c.in-Some.ensures.kind (narrower_breaks (λ to s. tt) n f))) h)

pub returns : goal.returns
returns c =
    let no_circle = not_here {G = CircleShape} c.args.tokens.now c.in_default.ensures.none in
    MatchResult-weaker c.comparison.result c.comparison.ensures (λ found h. record {
      passes = right_passes no_circle h.passes;
      spells = by_comparison h.spells;
      shorter = h.shorter;
      of = h.of;
    }) (λ stop h. lift_broken stop (right_breaks no_circle) h)
