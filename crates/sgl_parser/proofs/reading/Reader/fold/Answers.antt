use Rattle.std.proofs.Common.{refl, ap, length, arith}
use Rattle.sgl_parser.proofs.Sequences.{Excludes, left_breaks, right_breaks, left_passes, right_passes, one_excludes, either_excludes}
use Rattle.sgl_parser.proofs.Parts.{lift_broken, behind, pass_behind, other_at, none_at, not_here, at_none}
use Rattle.std.proofs.lemmas.Result.{MatchResult-weaker}
use Rattle.sgl_parser.specs.ItemShape.{CountShape, NearestShape, MeasureShape}
use Rattle.sgl_parser.specs.Shape.{kinds_of}
use Rattle.sgl_parser.specs.Operators.{is_fold}
use Rattle.sgl_parser.specs.Scripts.{by_count, by_nearest, by_measure}
use Rattle.sgl_lexer.specs.declared.lexeme.TokenKind.TheVariants as kinds
use Rattle.sgl_lexer.specs.declared.vocabulary.Word.TheVariants as words
use Rattle.sgl_parser.proofs.reading.Reader.fold.Goals as goal

pub returns-in-Some : goal.returns-in-Some
returns-in-Some c =
    let no_nearest = at_none (kinds.Word words.Nearest) NearestShape (kinds_of c.args.tokens.now) (other_at (kinds.Word words.Nearest) (kinds.Word words.Count) c.in-Some.ensures.list c.in-Some.ensures.kind (λ e. cc)) in
    let no_measure : Excludes MeasureShape (kinds_of c.args.tokens.now) = one_excludes (kinds_of c.args.tokens.now) (none_at is_fold (kinds.Word words.Count) c.in-Some.ensures.list c.in-Some.ensures.kind refl) in
    let others = either_excludes (kinds_of c.args.tokens.now) no_nearest no_measure in
    MatchResult-weaker c.count.result c.count.ensures (λ found h. record {
      passes = left_passes others (pass_behind c.in-Some.ensures.list c.in-Some.ensures.kind h.passes);
      spells = rw c.in-Some.ensures.list (by_count c.in-Some.ensures.kind h.spells);
      shorter = omega (arith, h.shorter, ap length c.in-Some.ensures.list);
      of = h.of;
    }) (λ stop h. lift_broken stop (λ n f. left_breaks others n (behind n c.in-Some.ensures.list c.in-Some.ensures.kind f)) h)

pub returns-in-Some-eat : goal.returns-in-Some-eat
returns-in-Some-eat c =
    let no_count = not_here {G = CountShape} c.args.tokens.now c.in_default.ensures.none in
    let no_measure : Excludes MeasureShape (kinds_of c.args.tokens.now) = one_excludes (kinds_of c.args.tokens.now) (none_at is_fold (kinds.Word words.Nearest) c.in-Some-eat.ensures.list c.in-Some-eat.ensures.kind refl) in
    MatchResult-weaker c.nearest.result c.nearest.ensures (λ found h. record {
      passes = right_passes no_count (left_passes no_measure (pass_behind c.in-Some-eat.ensures.list c.in-Some-eat.ensures.kind h.passes));
      spells = rw c.in-Some-eat.ensures.list (by_nearest c.in-Some-eat.ensures.kind h.spells);
      shorter = omega (arith, h.shorter, ap length c.in-Some-eat.ensures.list);
      of = h.of;
    }) (λ stop h. lift_broken stop (λ n f. right_breaks no_count n (left_breaks no_measure n (behind n c.in-Some-eat.ensures.list c.in-Some-eat.ensures.kind f))) h)

pub returns : goal.returns
returns c =
    let no_count = not_here {G = CountShape} c.args.tokens.now c.in_default.ensures.none in
    let no_nearest = not_here {G = NearestShape} c.args.tokens.now c.in_default-eat.ensures.none in
    MatchResult-weaker c.measure.result c.measure.ensures (λ found h. record {
      passes = right_passes no_count (right_passes no_nearest h.passes);
      spells = by_measure h.spells;
      shorter = h.shorter;
      of = h.of;
    }) (λ stop h. lift_broken stop (λ n f. right_breaks no_count n (right_breaks no_nearest n f)) h)
