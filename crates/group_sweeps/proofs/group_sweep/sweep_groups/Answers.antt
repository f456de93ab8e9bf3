-- One group more has put what it found.
use Rattle.std.proofs.Common.{◌<◌, ◌∙◌, ℕ, List, [], ap, get_or, length, map, refl, subst, sym}
use Rattle.std.specs.Prelude.{All}
use Rattle.group_sweeps.specs.declared.found.Found.{Found}
use Rattle.group_sweeps.specs.Finds.{AreFoundFor, point_by}
use Rattle.group_sweeps.proofs.Making.{one_found}
use Rattle.group_sweeps.proofs.Rounds.{askers_within, round}
use Rattle.group_sweeps.proofs.group_sweep.sweep_groups.Goals as goal

pub put_found-requires-clause-own : goal.put_found-requires-clause-own
put_found-requires-clause-own g c =
    let one = one_found c.args.of.now.world.now.world (point_by c.args.of.now.sides c.args.of.now.world.now.world) c.args.of.now.groups.now.lists c.args.of.now.asks.now (length c.args.of.now.groups.now.lists) c.in_ok-all.all.items
    c.deref-one-items.result.now c.loop-one.one-index c.one-item.result c.in_ok-all.ensures c.deref-one-items.ensures.value c.loop-one-test.true c.one-item.is in
    ap length c.as_slice-in-loop-one.ensures.value ∙ one.found.all ∙ sym (ap length c.as_slice.ensures.value)

pub put_found-requires-clause-found : goal.put_found-requires-clause-found
put_found-requires-clause-found g c =
    let one = one_found c.args.of.now.world.now.world (point_by c.args.of.now.sides c.args.of.now.world.now.world) c.args.of.now.groups.now.lists c.args.of.now.asks.now (length c.args.of.now.groups.now.lists) c.in_ok-all.all.items
    c.deref-one-items.result.now c.loop-one.one-index c.one-item.result c.in_ok-all.ensures c.deref-one-items.ensures.value c.loop-one-test.true c.one-item.is in
    let P : ℕ → Type 0 = λ n. All (λ row. row < n) c.as_slice.result.now in
    subst P (sym c.loop-one.invariant.size) (askers_within c.args.of.now.asks.now c.loop-one.one-index c.as_slice.result.now (c.as_slice.ensures.value ∙ one.askers))

pub loop-one-preserved : goal.loop-one-preserved
loop-one-preserved g c =
    let world = c.args.of.now.world.now.world in
    let point = point_by c.args.of.now.sides world in
    let lists = c.args.of.now.groups.now.lists in
    let asks = c.args.of.now.asks.now in
    let group = c.loop-one.one-index in
    let rows = c.as_slice.result.now in
    let own = c.as_slice-in-loop-one.result.now in
    let one = one_found world point lists asks (length lists) c.in_ok-all.all.items c.deref-one-items.result.now group c.one-item.result c.in_ok-all.ensures c.deref-one-items.ensures.value
    c.loop-one-test.true c.one-item.is in
    let points = map point (get_or lists group []) in
    let P : List ℕ → Type 0 = λ rs. AreFoundFor world points asks rs (length rs) c.one-item.result.found.items in
    let Q : List Found → Type 0 = λ fs. AreFoundFor world points asks rows (length rows) fs in
    let found = subst Q (sym c.as_slice-in-loop-one.ensures.value) (subst P (sym c.as_slice.ensures.value) one.found) in
    record {
      size = c.put_found.ensures.size ∙ c.loop-one.invariant.size;
      all = round world point lists asks group rows points c.loop-one.found c.put_found.new.found (c.as_slice.ensures.value ∙ one.askers) refl c.loop-one.invariant.all
          (c.put_found.ensures.each world points asks found) c.put_found.ensures.others;
    }
