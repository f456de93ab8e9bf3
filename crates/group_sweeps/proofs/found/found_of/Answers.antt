use Rattle.std.proofs.Common.{Option, subst, sym}
use Rattle.extreme_sweep.specs.declared.pair.Pair.{Pair}
use Rattle.group_sweeps.specs.declared.found.Found.TheVariants.{Row as ARow}
use Rattle.group_sweeps.specs.Found.{IsFoundOf}
use Rattle.group_sweeps.proofs.Finding.{found_row}
use Rattle.group_sweeps.proofs.found.found_of.Goals as goal

pub returns-in-Some-find : goal.returns-in-Some-find
returns-in-Some-find c =
    let P : Option Pair → Type 0 = λ o. IsFoundOf c.args.world.now.world o (ARow c.in-Some-find.row) in
    subst P (sym c.in-Some.is) (found_row c.args.world.now.world c.in-Some-find.row c.in-Some.pair c.len.ensures.table.fits.rising c.in-Some-find.ensures.inside c.in-Some-find.ensures.found)
