use Rattle.std.proofs.Common.{rules, ◌≡◌, ◌∙◌, arith, ap, min, length, take, drop, refl, slice_get, Some}
use Rattle.std.proofs.lemmas.Option.{slice_get_read}
use Rattle.sgl_outside.proofs.LeftBytes.{moves_front}
use Rattle.sgl_outside.proofs.shelves.Shelf.read.Goals as goal

pub returns-clause-moves : goal.returns-clause-moves
returns-clause-moves c =
    let shelf = c.args.self.now in
    let count = c.copy_front-count.result in
    let buf = c.copy_front-count.new.buf in
    let file = c.in-Some-get.field-0.now in
    let rest : c.rest_from.result.now ≡ drop shelf.at file.1 = search rules in
    let found = c.in-Some-get.ensures.lookup in
    let here : slice_get shelf.files c.in-Some.place ≡ Some file =
    rw c.as_slice.ensures at (slice_get_read c.as_slice.result.now _ c.in-Some.place file refl found.3.0 found.1) in
    let moved = c.copy_front-count.ensures in
    let many : count ≡ min (length (drop shelf.at file.1)) (length buf) = omega (arith, moved.count, ap length rest, c.copy_front-count.auto.buf) in
    rw c.in-Some.is (moves_front shelf.files c.in-Some.place shelf.at count c.args.name.now buf file here (search rules) many (moved.front ∙ ap (take count) rest))
