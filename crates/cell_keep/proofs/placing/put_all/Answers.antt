use Rattle.std.proofs.Common.{◌≡◌, ◌∙◌, ◌<◌, ap, arith, get_or, length, subst, sym, ⊎_elim, List, ℕ, [], ◌∷◌, ◌++◌, map, take}
use Rattle.std.specs.Prelude.{Contains}
use Rattle.std.proofs.lemmas.List.{get_or_default, length-set, map_more, take_all}
use Rattle.cell_links.specs.Links.{IsLinked}
use Rattle.cell_keep.specs.Grid.{cell_of, list_of}
use Rattle.cell_keep.specs.declared.point.KeepPoint.{KeepPoint}
use Rattle.cell_keep.specs.Rows.{no_point}
use Rattle.cell_keep.proofs.Holding.{all_placed, all_stored, placed_more, stored_more}
use Rattle.cell_keep.proofs.placing.put_all.Goals as goal

pub put-requires-clause-row : goal.put-requires-clause-row
put-requires-clause-row c =
    let was = c.loop-place.invariant in
    let row = c.index-row.result.now in
    let below : c.loop-place.place < length c.loop-place.held.order.items = omega (arith, c.loop-place-test.true, was.each) in
    omega (arith, was.rows, was.inside row (c.loop-place.place, below, sym c.index-row.ensures))

pub index_mut-requires : goal.index_mut-requires
index_mut-requires c =
    let was = c.loop-place.invariant in
    let row = c.index-row.result.now in
    let below : c.loop-place.place < length c.loop-place.held.order.items = omega (arith, c.loop-place-test.true, was.each) in
    omega (arith, was.store, c.loop-place.held.points.ok, was.inside row (c.loop-place.place, below, sym c.index-row.ensures))

pub loop-place-preserved : goal.loop-place-preserved
loop-place-preserved c =
    let was = c.loop-place.invariant in
    let j = c.loop-place.place in
    let new = c.args.new.now in
    let order = c.loop-place.held.order.items in
    let points = c.loop-place.held.points.items in
    let row = c.index-row.result.now in
    let point = c.index-new-place.result in
    let below : j < length order = omega (arith, c.loop-place-test.true, was.each) in
    let inside : j < length new = omega (arith, c.loop-place-test.true) in
    let there : Contains order row = (j, below, sym c.index-row.ensures) in
    let is : row ≡ get_or order j 0 = c.index-row.ensures ∙ get_or_default order j row 0 below in
    let read : point ≡ get_or new j no_point = c.index-new-place.is ∙ get_or_default new j point no_point inside in
    let list : c.list_of.result ≡ list_of (cell_of (get_or new j no_point)) =
    c.list_of.ensures.value ∙ ap list_of (c.cell_of.ensures ∙ ap cell_of (c.index-new-place.is ∙ get_or_default new j c.index-new-place.result no_point inside)) in
    record {
      order = was.order;
      rows = c.put.ensures.rows ∙ was.rows;
      full = c.put.ensures.full ∙ was.full;
      store = length-set points row point ∙ was.store;
      each = was.each;
      inside = was.inside;
      once = was.once;
      keys = c.push_reserved.ensures.items ∙ (ap (λ (l : List ℕ). l ++ point.key ∷ []) was.keys
          ∙ (ap (λ (p : KeepPoint). map (λ (q : KeepPoint). q.key) (take j new) ++ p.key ∷ []) c.index-new-place.is
          ∙ sym (map_more (λ (q : KeepPoint). q.key) new j point inside)));
      room = omega (arith, c.push_reserved.ensures.capacity, was.room);
      within = λ r linked. ⊎_elim (λ (same : r ≡ row). subst (Contains order) (sym same) there) (λ (before : IsLinked c.loop-place.held.links r). was.within r before) (c.put.ensures.within r linked);
      stored = stored_more new order j row was.once below is points point (omega (arith, was.inside row there, was.store)) read was.stored;
      placed = placed_more new order j row was.once below is c.loop-place.held.links c.put.new.links c.list_of.result list c.put.ensures.placed c.put.ensures.others was.placed;
    }

pub returns-clause-points : goal.returns-clause-points
returns-clause-points c =
    let was = c.loop-place.invariant in
    all_stored c.loop-place.held c.args.new.now was.each (λ i below. was.stored i (omega (arith, below, c.loop-place-test.false)))

pub returns-clause-placed : goal.returns-clause-placed
returns-clause-placed c =
    let was = c.loop-place.invariant in
    record {
      rows = was.rows;
      full = was.full;
      store = was.store;
      few = omega (arith, was.each, c.requires.few);
      inside = was.inside;
      once = was.once;
      placed = all_placed c.loop-place.held c.args.new.now was.each (λ i below. was.stored i (omega (arith, below, c.loop-place-test.false)))
          (λ i below. was.placed i (omega (arith, below, c.loop-place-test.false)));
      keys = was.keys ∙ (ap (map (λ (q : KeepPoint). q.key)) (take_all c.loop-place.place c.args.new.now (omega (arith, c.loop-place-test.false)))
          ∙ ap (map (λ (q : KeepPoint). q.key)) (sym (all_stored c.loop-place.held c.args.new.now was.each (λ i below. was.stored i (omega (arith, below, c.loop-place-test.false))))));
      within = was.within;
    }
