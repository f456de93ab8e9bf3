use Rattle.std.proofs.Common.{◌≡◌, ◌∙◌, ◌≤◌, replicate, length, ap, arith}
use Rattle.std.proofs.lemmas.List.{length-map}
use Rattle.std.specs.Prelude.{ℕ, ℤ}
use Rattle.extreme_sweep.specs.declared.window.SweepPoint.{SweepPoint}
use Rattle.extreme_sweep.specs.Ranks.{no_rank}
use Rattle.extreme_sweep.specs.Ranking.{entries_at}
use Rattle.extreme_sweep.specs.Slots.{point_at}
use Rattle.extreme_sweep.specs.Sweeping.{groups_of, laid_points}
use Rattle.extreme_sweep.proofs.Holding.{holds-none}
use Rattle.extreme_sweep.proofs.RankOrder.{entries-none}
use Rattle.extreme_sweep.proofs.sweeper.Sweeper.new.Goals as goal

pub overflow_cast-len : goal.overflow_cast-len
overflow_cast-len c = record { fits = omega (arith, c.requires.few, c.len.ensures) }

pub new-requires : goal.new-requires
new-requires c = omega (arith, c.requires.few, c.len.ensures)

pub returns : goal.returns
returns c =
    let layout = c.args.layout.now in let laid = c.requires in
    let count : c.len.result ≡ length (laid_points layout) = omega (arith, c.len.ensures, length-map layout.ranks.items (λ (rank : ℕ). point_at layout.ranked.items rank)) in
    let group : SweepPoint → ℤ = λ p. p.entry.group in
    let few : length (groups_of layout) ≤ 65536 = omega (arith, length-map layout.ranked.items group, laid.all, laid.few) in
    let all : length layout.groups.items ≡ c.len.result = omega (arith, ap length laid.groups, length-map (laid_points layout) group, count) in
    record {
      laid = laid;
      order = omega arith;
      last = omega arith;
      tree_is = c.in_ok-tree.ensures.tree (groups_of layout) layout.groups.items few all;
      holds = holds-none (laid_points layout) laid.rank (entries_at layout.ranked.items c.in_ok-tree.tree.places.items)
          (ap (entries_at layout.ranked.items) (c.in_ok-tree.ensures.places ∙ ap (λ n. replicate n no_rank) count) ∙ entries-none layout.ranked.items (length (laid_points layout)) (omega (arith, laid.all, laid.few)));
    }
