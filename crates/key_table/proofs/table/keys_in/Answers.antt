use Rattle.std.proofs.Common.{◌≡◌, pos, map, ap, ◌∙◌, arith}
use Rattle.std.proofs.lemmas.List.{take_all}
use Rattle.key_table.proofs.Rising.{IsRising-keys}
use Rattle.key_table.specs.Keys.{keys_of}
use Rattle.key_table.proofs.table.keys_in.Goals as goal

pub returns-clause-rising : goal.returns-clause-rising
returns-clause-rising c =
    let rows = c.args.world.now.world.rows in
    let all : c.loop-row.keys.items ≡ keys_of c.args.world.now.world =
    c.loop-row.invariant
    ∙ ap (map (λ row. pos row.key)) (take_all c.loop-row.row rows (omega (arith, c.loop-row-test.false, c.len-row-end.ensures.value))) in
    rw all (IsRising-keys rows 0 c.len.ensures.table.fits.rising)
