-- The worlds of a run: the first, and how many there are.
use Rattle.std.proofs.Common.{◌+◌, ◌≤◌, ℕ, zero, suc, length, refl, zero-le, Result, Ok, Err, arith}
use Rattle.sgl_values.specs.World.{World}
use Rattle.sgl_typed.specs.declared.script.TScript.{TScript}
use Rattle.sgl_typed.specs.declared.tick_fault.TickFault.{TickFault}
use Rattle.sgl_typed.specs.Tick.{Run, run_on, tick, worlds}
use Rattle.world_publish.specs.Showing.{IsEntry}

pub first_entry : (script : TScript) (world : World) (seed limit ticks : ℕ) → IsEntry (worlds script world seed limit ticks).worlds 0 world
first_entry script world seed limit zero = refl
first_entry script world seed limit (suc ticks) = refl

run_few : (go : World → Run) (n : ℕ) → ((next : World) → length (go next).worlds ≤ n) → (r : Result World TickFault) → length (run_on go r).worlds ≤ n
run_few go n few (Ok next) = few next
run_few go n few (Err fault) = zero-le

-- at most one world more than there are ticks
pub worlds_few : (script : TScript) (world : World) (seed limit ticks : ℕ) → length (worlds script world seed limit ticks).worlds ≤ ticks + 1
worlds_few script world seed limit zero = omega arith
worlds_few script world seed limit (suc ticks) =
    let rest : length (run_on (λ next. worlds script next seed limit ticks) (tick script world seed limit)).worlds ≤ ticks + 1 =
    run_few (λ next. worlds script next seed limit ticks) (ticks + 1) (λ next. worlds_few script next seed limit ticks) (tick script world seed limit) in
    omega (arith, rest)
