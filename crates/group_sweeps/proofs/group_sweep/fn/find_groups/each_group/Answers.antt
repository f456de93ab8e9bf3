use Rattle.std.proofs.Common.{◌∙◌, ℕ, List, [], get_or, length, map, subst}
use Rattle.group_sweeps.specs.Finds.{AreFoundFor, point_by}
use Rattle.group_sweeps.proofs.Rounds.{askers_are}
use Rattle.group_sweeps.proofs.group_sweep.fn.find_groups.each_group.Goals as goal

pub returns : goal.returns
returns g c =
    let of = c.captures.of.now in
    let world = of.world.now.world in
    let asks = of.asks.now in
    let group = c.args.group in
    let rows = c.in_ok-rows.rows.items in
    let points = map (point_by of.sides world) (get_or of.groups.now.lists group []) in
    record {
      askers = askers_are asks group rows (c.in_ok-rows.ensures ∙ c.of.ensures.rows ∙ c.requires.links.linked group);
      found = subst (λ (rs : List ℕ). AreFoundFor world points asks rs (length rs) c.in_ok-found.found.items) c.as_slice.ensures.value c.in_ok-found.ensures;
    }
