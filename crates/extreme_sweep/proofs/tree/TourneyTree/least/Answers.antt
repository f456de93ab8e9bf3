-- The places before the whole blocks, those of the blocks, and those behind them.
use Rattle.std.proofs.Common.{◌≡◌, ◌∙◌, ◌+◌, ◌-◌, ◌*◌, ◌/◌, ◌<◌, length, ap, arith}
use Rattle.std.specs.Prelude.{slice_range}
use Rattle.extreme_sweep.specs.Places.{least_between}
use Rattle.extreme_sweep.specs.Tree.{least_of_nodes}
use Rattle.extreme_sweep.proofs.Blocks.{least_at, least-parts, least-blocks}
use Rattle.extreme_sweep.proofs.PairLaws.{lesser}
use Rattle.extreme_sweep.proofs.tree.TourneyTree.least.Goals as goal

pub returns : goal.returns
returns c =
    let t = c.self.inside in let i = c.args.i in let j = c.args.j in let other = c.args.other_than in
    let first = i / 16 + 1 in let last = j / 16 in let places = t.places.items in let blocks = t.blocks in
    let inside : j < length places = omega (arith, c.requires.last, ap length c.self.view_is) in
    let begin : first * 16 ≡ 16 * first = omega arith in
    let end : last * 16 ≡ 16 * last = omega arith in
    let count : (blocks + last) - (blocks + first) ≡ last - first = omega arith in
    let whole : first + (last - first) ≡ last = omega arith in
    let before : c.least_of_places-before.result ≡ least_at other (slice_range places i (16 * first)) =
    c.least_of_places-before.ensures ∙ (λ k. least_at other (slice_range (c.deref-2.ensures.value k) i (begin k))) in
    let between : c.least_of_span-between.result ≡ least_at other (slice_range places (16 * first) (16 * last)) =
    c.least_of_span-between.ensures ∙ (λ k. least_of_nodes other (c.as_slice.ensures.value k) (blocks + first) (count k))
    ∙ least-blocks blocks places t.nodes.items c.self.invariant other first (last - first) (omega (arith, inside, c.self.invariant.covered))
    ∙ ap (λ n. least_at other (slice_range places (16 * first) (16 * n))) whole in
    let behind : c.least_of_places-behind.result ≡ least_at other (slice_range places (16 * last) (j + 1)) =
    c.least_of_places-behind.ensures ∙ (λ k. least_at other (slice_range (c.deref-3.ensures.value k) (end k) (j + 1))) in
    c.lesser-2.ensures ∙ (λ k. lesser ((c.lesser.ensures ∙ (λ l. lesser (before l) (between l))) k) (behind k))
    ∙ least-parts other places i (16 * first) (16 * last) (j + 1) (omega arith) (omega arith) (omega arith)
    ∙ ap (λ l. least_between l i j other) c.self.view_is
