-- Each spot brings the spread of its point, and each point has a spot.
use Rattle.std.proofs.Common.{◌≡◌, ◌∙◌, ℕ, List, ◌+◌, ◌<◌, ◌≤◌, length, get_or, sym, ap, subst, refl, arith}
use Rattle.area_effects.specs.declared.point.AreaPoint.{AreaPoint}
use Rattle.area_effects.specs.declared.spot.Spot.{Spot}
use Rattle.area_effects.specs.Rooms.{HasRoom}
use Rattle.area_effects.specs.Sweeping.{StandsAt}
use Rattle.area_effects.specs.Tables.{IsCounted, Puts}
use Rattle.area_effects.proofs.Finding.{axis-length, axis-ranked, rank-below, spreading-first, spreading-counted, spreading-more, sums-all, counts-all}
use Rattle.area_effects.proofs.tables.Tables.spread.Goals as goal

abbrev spot_in : List Spot → ℕ → Spot
spot_in spots k = get_or spots k record { place = 0; rank = 0; point = 0 }

pub begin-requires-clause-xs : goal.begin-requires-clause-xs
begin-requires-clause-xs c =
    let layout = c.args.layout.now in axis-ranked (λ (point : AreaPoint). point.x) layout.points.items layout.xs.numbers.items c.requires.layout.xs c.requires.layout.few

pub begin-requires-clause-ys : goal.begin-requires-clause-ys
begin-requires-clause-ys c =
    let layout = c.args.layout.now in axis-ranked (λ (point : AreaPoint). point.y) layout.points.items layout.ys.numbers.items c.requires.layout.ys c.requires.layout.few

pub begin-requires-clause-room : goal.begin-requires-clause-room
begin-requires-clause-room c =
    let layout = c.args.layout.now in let tables = c.requires.tables in
    let long = axis-length (λ (point : AreaPoint). point.y) layout.points.items layout.ys.numbers.items c.requires.layout.ys in
    let room : HasRoom (length layout.ys.numbers.items) (length c.args.boxes.now) c.args.self.now.sweep = record {
      edges = omega (arith, tables.sweep.edges, c.requires.boxes);
      amounts = omega (arith, tables.sweep.amounts, c.requires.points, long);
      counts = omega (arith, tables.sweep.counts, c.requires.points, long);
    } in
    subst (HasRoom (length layout.ys.numbers.items) (length c.args.boxes.now)) (sym c.clear.ensures.sweep) room

pub loop-spot-init : goal.loop-spot-init
loop-spot-init c =
    let layout = c.args.layout.now in let boxes = c.args.boxes.now in let cleared = c.clear.ensures in let old = c.requires.tables in
    let room : HasRoom c.clear.new.self.points c.clear.new.self.boxes c.clear.new.self.sweep =
    subst (HasRoom c.clear.new.self.points c.clear.new.self.boxes) (sym cleared.sweep)
    (subst (λ n. HasRoom n c.clear.new.self.boxes c.args.self.now.sweep) (sym cleared.room) (subst (λ n. HasRoom c.args.self.now.points n c.args.self.now.sweep) (sym cleared.room_boxes) old.sweep)) in
    let long : c.len.result ≡ length layout.points.items = omega (arith, c.len.ensures, layout.points.ok) in
    record {
      spreading = spreading-first layout c.requires.layout boxes _
          (record {
            few_points = omega (arith, cleared.room, old.few_points);
            few_boxes = omega (arith, cleared.room_boxes, old.few_boxes);
            sweep = c.begin.ensures.room _ _ room;
            sums = omega (arith, cleared.room, cleared.sums_room, old.sums);
            counts = omega (arith, cleared.room, cleared.counts_room, old.counts);
          })
          c.begin.ensures.sweep c.begin.ensures.first c.begin.ensures.edges c.begin.ensures.ranks (omega (arith, cleared.sums, long)) (omega (arith, cleared.counts, long));
      points = refl;
      boxes = refl;
    }

pub put-requires-clause-rank : goal.put-requires-clause-rank
put-requires-clause-rank c =
    let layout = c.args.layout.now in let k = c.loop-spot.spot-index in
    let inside : k < length layout.spots.items = omega (arith, ap length c.deref-spot-items.ensures.value, c.loop-spot-test.true) in
    omega (arith, ap (λ spots. (spot_in spots k).rank) c.deref-spot-items.ensures.value, rank-below layout c.requires.layout k inside, c.loop-spot.invariant.spreading.ranks, c.advance.ensures.goes_on.ranks)

pub put-requires-clause-counted : goal.put-requires-clause-counted
put-requires-clause-counted c =
    let layout = c.args.layout.now in let k = c.loop-spot.spot-index in let sweep = c.advance.new.self in let spots-are = c.deref-spot-items.ensures.value in
    let inside : k < length layout.spots.items = omega (arith, ap length spots-are, c.loop-spot-test.true) in
    let stands = subst (λ spots. StandsAt (spot_in spots k).place sweep) spots-are c.advance.ensures.stands in
    subst (λ spots. IsCounted sweep ((spot_in spots k).rank + 1)) (sym spots-are)
    (spreading-counted layout c.requires.layout c.args.boxes.now k c.loop-spot.self sweep c.loop-spot.invariant.spreading inside c.advance.ensures.goes_on stands
    (omega (arith, c.requires.boxes, c.requires.tables.few_boxes)))

pub loop-spot-preserved : goal.loop-spot-preserved
loop-spot-preserved c =
    let layout = c.args.layout.now in let k = c.loop-spot.spot-index in let sweep = c.advance.new.self in let spots-are = c.deref-spot-items.ensures.value in
    let tables = c.loop-spot.self in let now = c.loop-spot.invariant in
    let inside : k < length layout.spots.items = omega (arith, ap length spots-are, c.loop-spot-test.true) in
    let stands = subst (λ spots. StandsAt (spot_in spots k).place sweep) spots-are c.advance.ensures.stands in
    let puts = subst (λ spots. Puts (spot_in spots k) (record tables { sweep = sweep }) c.put.new.self) spots-are c.put.ensures in
    record {
      spreading = spreading-more layout c.requires.layout c.args.boxes.now k tables sweep c.put.new.self now.spreading inside c.advance.ensures.goes_on stands puts;
      points = puts.room ∙ now.points;
      boxes = puts.room_boxes ∙ now.boxes;
    }

pub returns-clause-spread : goal.returns-clause-spread
returns-clause-spread c =
    let layout = c.args.layout.now in let boxes = c.args.boxes.now in let tables = c.loop-spot.self in let now = c.loop-spot.invariant in
    let last : length layout.spots.items ≤ c.loop-spot.spot-index = omega (arith, ap length c.deref-spot-items.ensures.value, c.loop-spot-test.false) in
    let sums = sums-all layout c.requires.layout boxes c.loop-spot.spot-index tables now.spreading last in
    let counts = counts-all layout c.requires.layout boxes c.loop-spot.spot-index tables now.spreading last in
    λ i. record { points = (now.points ∙ c.clear.ensures.room) i; boxes = (now.boxes ∙ c.clear.ensures.room_boxes) i; sums = sums i; counts = counts i }
