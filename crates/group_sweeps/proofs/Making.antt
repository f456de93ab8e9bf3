-- What threads have found, group by group.
use Rattle.std.proofs.Common.{◌≡◌, ℕ, ◌<◌, List, length, get_or, ap, sym, ◌∙◌, subst, arith}
use Rattle.sgl_values.specs.World.{World}
use Rattle.extreme_sweep.specs.declared.window.SweepPoint.{SweepPoint}
use Rattle.row_groups.specs.Made.{AreMade}
use Rattle.group_sweeps.specs.declared.ask.Ask.{Ask}
use Rattle.group_sweeps.specs.declared.group_sweep.GroupFound.{GroupFound}
use Rattle.group_sweeps.specs.Finds.{IsGroupFound}

module _ (world : World) (point : ℕ → SweepPoint) (members : List (List ℕ)) (asks : List Ask) where
  -- what one of them has found
  pub one_found : (count : ℕ) (made all : List GroupFound) (group : ℕ) (one : GroupFound) → AreMade (IsGroupFound world point members asks) count made → all ≡ made
      → group < length all → one ≡ get_or all group one → IsGroupFound world point members asks group one
  one_found count made all group one are same inside is =
      let P : GroupFound → Type 0 = λ f. IsGroupFound world point members asks group f in
      subst P (sym (is ∙ ap (λ l. get_or l group one) same)) (are.each group one (omega (arith, inside, ap length same, are.full)))
