use Rattle.std.proofs.Common.{◌≡◌, ◌∙◌, ◌<◌, ◌++◌, ℕ, List, [], ◌∷◌, ap, arith, get_or, length, map, subst, sym, take}
use Rattle.std.proofs.lemmas.List.{map_push, take_more}
use Rattle.extreme_sweep.specs.declared.layout.Layout.{Layout}
use Rattle.extreme_sweep.specs.declared.layout.Span.{Span}
use Rattle.extreme_sweep.specs.declared.window.Window.{Window}
use Rattle.extreme_sweep.specs.Answers.{least_at, window_at, AreSpans}
use Rattle.extreme_sweep.specs.Ranking.{pair_of}
use Rattle.extreme_sweep.specs.Sweeping.{laid_points, IsSpan}
use Rattle.extreme_sweep.proofs.piece.Piece.ranks.Goals as goal

pub index-requires : goal.index-requires
index-requires c = omega (arith, c.loop-number-test.true, c.in_ok-spans.ensures.count)

-- the span that was read is that of the window in turn
spanned : (layout : Layout) (windows : List Window) (turns : List ℕ) (spans : List Span) (k : ℕ) (span : Span) → AreSpans layout windows turns spans → k < length turns → span ≡ get_or spans k span
    → IsSpan layout (window_at windows (get_or turns k 0)) span
spanned layout windows turns spans k span are inside is =
    subst (IsSpan layout (window_at windows (get_or turns k 0))) (sym is) (are.each k span (omega (arith, inside, are.count)))

pub answer-requires-clause-span : goal.answer-requires-clause-span
answer-requires-clause-span c =
    let turn = get_or c.args.self.turns.now c.loop-number.number 0 in
    (window_at c.args.self.windows.now turn, spanned c.args.self.layout.now c.args.self.windows.now c.args.self.turns.now c.in_ok-spans.spans.items c.loop-number.number c.index.result.now c.in_ok-spans.ensures c.loop-number-test.true c.index.ensures)

pub loop-number-preserved : goal.loop-number-preserved
loop-number-preserved c =
    let pair = pair_of c.args.self.layout.now.ranked.items in let least = least_at (laid_points c.args.self.layout.now) c.args.self.windows.now in
    let turns = c.args.self.turns.now in let k = c.loop-number.number in let ranks = c.loop-number.ranks.items in
    let turn = get_or turns k 0 in
    let is = spanned c.args.self.layout.now c.args.self.windows.now c.args.self.turns.now c.in_ok-spans.spans.items c.loop-number.number c.index.result.now c.in_ok-spans.ensures c.loop-number-test.true c.index.ensures in
    record {
      sweeper = c.answer.ensures.sweeper;
      found = ap (map pair) c.in_ok-push.ensures.items ∙ map_push pair ranks c.answer.result
          ∙ (λ i. c.loop-number.invariant.found i ++ c.answer.ensures.value (window_at c.args.self.windows.now turn) is i ∷ [])
          ∙ sym (ap (map least) (take_more turns k 0 c.loop-number-test.true) ∙ map_push least (take k turns) turn);
    }
