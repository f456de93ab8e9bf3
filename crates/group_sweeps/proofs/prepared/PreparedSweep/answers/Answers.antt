use Rattle.std.proofs.Common.{◌≡◌, ◌++◌, List, ap, arith, drop, length, subst, sym, take}
use Rattle.std.proofs.lemmas.List.{take_at}
use Rattle.sgl_typed.specs.Aggregate.{aggregate}
use Rattle.group_sweeps.specs.declared.ask.Ask.{Ask}
use Rattle.group_sweeps.specs.declared.found.Found.{Found}
use Rattle.group_sweeps.specs.declared.sides.Sides.{Sides}
use Rattle.group_sweeps.specs.Acting.{acting}
use Rattle.group_sweeps.specs.Extremes.{sides_of, target_of}
use Rattle.group_sweeps.specs.Faults.{ArePut}
use Rattle.group_sweeps.specs.Finds.{FindsAll, found_at, point_by}
use Rattle.group_sweeps.specs.Found.{found_value}
use Rattle.group_sweeps.proofs.Joining.{swept_answers}
use Rattle.group_sweeps.proofs.prepared.PreparedSweep.answers.Goals as goal

pub returns : goal.returns
returns g c = λ script seed args is.
    let a = c.args in
    let world = a.world.now.world in
    let agg = a.agg.now in
    let lists = a.groups.now.lists in
    let asks = a.self.now.asks.items in
    let old = c.in_ok-found.found.items in
    let new = c.put_faults.new.found in
    let faults = c.in_ok-faults.faults.items in
    let whole : take c.in_ok-found.found.len (new ++ drop (length new) old) ≡ new = take_at new (drop (length new) old) c.in_ok-found.found.len
    (omega (arith, c.in_ok-found.found.ok.0, c.in_ok-faults.ensures.size, ap length c.as_mut_slice.ensures.value)) in
    let finds = subst (λ (l : List Ask). FindsAll world (point_by (sides_of agg) world) lists l (length lists) old) c.as_slice-asks.ensures.value
    (subst (λ (sides : Sides). FindsAll world (point_by sides world) lists c.as_slice-asks.result.now (length lists) old) c.sides_of-sides.ensures c.in_ok-found.ensures.each) in
    let put = subst (λ (l : List Ask). ArePut l (length l) faults old new) c.as_slice-asks.ensures.value
    (subst (λ (l : List Found). ArePut c.as_slice-asks.result.now (length c.as_slice-asks.result.now) faults l new) c.as_mut_slice.ensures.value c.in_ok-faults.ensures) in
    record {
      each = λ row inside.
          subst (λ (found : List Found). found_value world (target_of agg.kind agg.attr) agg.otherwise faults (found_at found row) ≡ aggregate agg (acting script world seed row args) (acting script world seed row args).slots)
          (sym whole)
          (swept_answers script world a.world.now.width seed agg args a.groups.now asks old new faults c.requires.extreme c.requires.few c.requires.boxed c.len.ensures.table.fits.rows_fit c.requires.groups
          is.asks finds put row inside);
    }
