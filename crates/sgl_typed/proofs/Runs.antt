-- The worlds of a run are those of its ticks.
use Rattle.std.proofs.Common.{◌≡◌, ℕ, zero, suc, ◌<◌, length, Option, Some, None, Result, Ok, Err, refl, ◌∙◌, ap, subst, arith}
use Rattle.std.specs.Prelude.{slice_get}
use Rattle.sgl_values.specs.World.{World}
use Rattle.sgl_typed.specs.declared.script.TScript.{TScript}
use Rattle.sgl_typed.specs.declared.tick_fault.TickFault.{TickFault}
use Rattle.sgl_typed.specs.Laws.{RunsAreTicks}
use Rattle.sgl_typed.specs.Tick.{Run, before, run_on, tick, worlds}

abbrev there : Option World → World → World
there None other = other
there (Some world) other = world

module _ (script : TScript) (seed limit : ℕ) where
  abbrev run : World → ℕ → Run
  run world ticks = worlds script world seed limit ticks

  -- the run behind a tick
  abbrev behind : ℕ → Result World TickFault → Run
  behind ticks = run_on (λ next. run next ticks)

  pub starts : (world : World) (ticks : ℕ) → slice_get (run world ticks).worlds 0 ≡ Some world
  starts world zero = refl
  starts world (suc ticks) = refl

  pub goes-on : (ticks t : ℕ) (world old next : World) → t < ticks → slice_get (run world ticks).worlds t ≡ Some old → tick script old seed limit ≡ Ok next
      → slice_get (run world ticks).worlds (suc t) ≡ Some next
  goes-on zero t world old next lt at ticked = absurd (omega (arith, lt))
  goes-on (suc ticks) zero world old next lt at ticked =
      let same : world ≡ old = ap (λ found. there found world) at in
      ap (λ r. slice_get (behind ticks r).worlds 0) (ap (λ w. tick script w seed limit) same ∙ ticked) ∙ starts next ticks
  goes-on (suc ticks) (suc t) world old next lt at ticked =
      step (tick script world seed limit) (λ w found. goes-on ticks t w old next (omega (arith, lt)) found ticked) at
    where
      step : (r : Result World TickFault)
          → ((w : World) → slice_get (run w ticks).worlds t ≡ Some old → slice_get (run w ticks).worlds (suc t) ≡ Some next)
          → slice_get (behind ticks r).worlds t ≡ Some old → slice_get (behind ticks r).worlds (suc t) ≡ Some next
      step (Ok w) more found = more w found
      step (Err fault) more found = absurd (cc)

  -- a run that ends behind this world with this refusal
  abbrev EndsWith : Run → ℕ → TickFault → Type 0
  EndsWith all t fault = (length all.worlds ≡ suc t) × (all.end ≡ Some fault)

  pub ends : (ticks t : ℕ) (world old : World) (fault : TickFault) → t < ticks → slice_get (run world ticks).worlds t ≡ Some old → tick script old seed limit ≡ Err fault
      → EndsWith (run world ticks) t fault
  ends zero t world old fault lt at ticked = absurd (omega (arith, lt))
  ends (suc ticks) zero world old fault lt at ticked =
      let same : world ≡ old = ap (λ found. there found world) at in
      let refused : tick script world seed limit ≡ Err fault = ap (λ w. tick script w seed limit) same ∙ ticked in
      (ap (λ r. suc (length (behind ticks r).worlds)) refused, ap (λ r. (behind ticks r).end) refused)
  ends (suc ticks) (suc t) world old fault lt at ticked =
      step (tick script world seed limit) (λ w found. ends ticks t w old fault (omega (arith, lt)) found ticked) at
    where
      step : (r : Result World TickFault) → ((w : World) → slice_get (run w ticks).worlds t ≡ Some old → EndsWith (run w ticks) t fault) → slice_get (behind ticks r).worlds t ≡ Some old → EndsWith (before world (behind ticks r)) (suc t) fault
      step (Ok w) more found = let rest = more w found in (ap suc rest.0, rest.1)
      step (Err refusal) more found = absurd (cc)

pub runs_tick : RunsAreTicks
runs_tick = record {
  first = λ script world seed limit ticks. starts script seed limit world ticks;
  next = λ script world seed limit ticks t old next lt at ticked.
      subst (λ n. slice_get (worlds script world seed limit ticks).worlds n ≡ Some next) (omega arith) (goes-on script seed limit ticks t world old next lt at ticked);
  refused = λ script world seed limit ticks t old fault lt at ticked.
      let parts = ends script seed limit ticks t world old fault lt at ticked in (omega (arith, parts.0), parts.1);
}
