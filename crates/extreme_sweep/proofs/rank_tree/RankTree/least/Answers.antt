-- The places before the whole blocks, those of the blocks, and those behind them.
use Rattle.std.proofs.Common.{◌≡◌, ◌∙◌, ◌+◌, ◌-◌, ◌*◌, ◌/◌, ◌<◌, length, map, ap, arith, subst, sym}
use Rattle.std.proofs.lemmas.List.{length-map}
use Rattle.std.specs.Prelude.{slice_range}
use Rattle.extreme_sweep.specs.Ranks.{pair_of_rank, rank_entry, rank_entries, unpacked, ArePlaced}
use Rattle.extreme_sweep.specs.Tree.{least_of_nodes}
use Rattle.extreme_sweep.proofs.Blocks.{least_at, least-parts, least-blocks}
use Rattle.extreme_sweep.proofs.Packing.{pair-min, part-entries}
use Rattle.extreme_sweep.proofs.PairLaws.{lesser}
use Rattle.extreme_sweep.proofs.Grouping.{placed-part}
use Rattle.extreme_sweep.proofs.rank_tree.RankTree.least.Goals as goal

pub returns-then-last-first : goal.returns-then-last-first
returns-then-last-first c = λ all tree.
    let places = c.args.self.now.places.items in let i = c.args.i in let j = c.args.j in let other = c.args.other_than in
    c.least_of_places.ensures all (subst (λ l. ArePlaced all (slice_range c.args.groups.now i (j + 1)) (slice_range l i (j + 1))) (sym c.deref.ensures.value)
    (placed-part all c.args.groups.now places tree.placed i (j + 1) (omega (arith, c.requires.order)) (omega (arith, c.requires.last))))
    ∙ (λ k. least_at other (rank_entries all (slice_range (c.deref.ensures.value k) i (j + 1)))) ∙ ap (least_at other) (part-entries all places i (j + 1))

pub returns : goal.returns
returns c = λ all tree.
    let t = c.args.self.now in let groups = c.args.groups.now in let i = c.args.i in let j = c.args.j in let other = c.args.other_than in
    let first = i / 16 + 1 in let last = j / 16 in let places = t.places.items in let blocks = t.blocks in
    let entries = rank_entries all places in
    let inside : j < length entries = omega (arith, c.requires.last, length-map places (rank_entry all)) in
    let begin : first * 16 ≡ 16 * first = omega arith in
    let end : last * 16 ≡ 16 * last = omega arith in
    let count : (blocks + last) - (blocks + first) ≡ last - first = omega arith in
    let whole : first + (last - first) ≡ last = omega arith in
    let before : pair_of_rank c.least_of_places-before.result ≡ least_at other (slice_range entries i (16 * first)) =
    c.least_of_places-before.ensures all (subst (λ l. ArePlaced all (slice_range groups i (first * 16)) (slice_range l i (first * 16))) (sym c.deref-2.ensures.value)
    (placed-part all groups places tree.placed i (first * 16) (omega arith) (omega (arith, c.requires.last))))
    ∙ (λ k. least_at other (rank_entries all (slice_range (c.deref-2.ensures.value k) i (begin k)))) ∙ ap (least_at other) (part-entries all places i (16 * first)) in
    let between : pair_of_rank c.least_of_span-between.result ≡ least_at other (slice_range entries (16 * first) (16 * last)) =
    c.least_of_span-between.ensures ∙ (λ k. least_of_nodes other (map unpacked (c.as_slice.ensures.value k)) (blocks + first) (count k))
    ∙ least-blocks blocks entries (map unpacked t.nodes.items) tree.tournament other first (last - first) (omega (arith, inside, tree.tournament.covered))
    ∙ ap (λ n. least_at other (slice_range entries (16 * first) (16 * n))) whole in
    let behind : pair_of_rank c.least_of_places-behind.result ≡ least_at other (slice_range entries (16 * last) (j + 1)) =
    c.least_of_places-behind.ensures all (subst (λ l. ArePlaced all (slice_range groups (last * 16) (j + 1)) (slice_range l (last * 16) (j + 1))) (sym c.deref-3.ensures.value)
    (placed-part all groups places tree.placed (last * 16) (j + 1) (omega arith) (omega (arith, c.requires.last))))
    ∙ (λ k. least_at other (rank_entries all (slice_range (c.deref-3.ensures.value k) (end k) (j + 1)))) ∙ ap (least_at other) (part-entries all places (16 * last) (j + 1)) in
    ap pair_of_rank c.min-2.ensures ∙ pair-min c.min.result c.least_of_places-behind.result
    ∙ (λ k. lesser ((ap pair_of_rank c.min.ensures ∙ pair-min c.least_of_places-before.result c.least_of_span-between.result ∙ (λ l. lesser (before l) (between l))) k) (behind k))
    ∙ least-parts other entries i (16 * first) (16 * last) (j + 1) (omega arith) (omega arith) (omega arith)
