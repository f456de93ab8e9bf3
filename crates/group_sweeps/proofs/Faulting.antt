-- What was found, with the faults in their places.
use Rattle.std.proofs.Common.{◌≡◌, List, [], ◌∷◌, Option, None, Some, ap, arith, length, refl, subst, suc, sym, ◌∙◌}
use Rattle.std.proofs.lemmas.List.Elements.{All-append, All-nil}
use Rattle.std.specs.List.{All, flat_map}
use Rattle.sgl_values.specs.World.{World}
use Rattle.sgl_values.specs.declared.fault.Fault.{Fault as AFault}
use Rattle.sgl_values.specs.declared.fault.Val.TheVariants.{F}
use Rattle.sgl_typed.specs.declared.script.TAgg.{TAgg}
use Rattle.sgl_typed.specs.Aggregate.{aggregate}
use Rattle.sgl_typed.specs.Value.{Context}
use Rattle.sgl_evaluate.specs.Rights.{first_fault_of}
use Rattle.sgl_evaluate.proofs.RightSides.{aggregate_fault}
use Rattle.group_sweeps.specs.declared.ask.Ask.{Ask}
use Rattle.group_sweeps.specs.declared.found.Found.{Found}
use Rattle.group_sweeps.specs.declared.found.Found.TheVariants.{Row as ARow, Nothing, Fault}
use Rattle.group_sweeps.specs.Extremes.{target_of}
use Rattle.group_sweeps.specs.Asks.{no_ask}
use Rattle.group_sweeps.specs.Faults.{ArePut, HasNone}
use Rattle.group_sweeps.specs.Finds.{found_at}
use Rattle.group_sweeps.specs.Found.{IsFaultOf, IsPut, fault_at, found_value}

fault-value : (agg : TAgg) (world : World) (faults : List AFault) (fault : AFault) (found : Found) → IsFaultOf faults fault found
    → found_value world (target_of agg.kind agg.attr) agg.otherwise faults found ≡ F fault
fault-value agg world faults fault (Fault k) h = ap fault_at h
fault-value agg world faults fault (ARow k) h = absurd h
fault-value agg world faults fault Nothing h = absurd h

pub put_value : (agg : TAgg) (c : Context) (faults : List AFault) (old new : Found) (f : Option AFault) → f ≡ first_fault_of c agg.tests → IsPut f faults old new
    → (None ≡ first_fault_of c agg.tests → found_value c.world (target_of agg.kind agg.attr) agg.otherwise faults old ≡ aggregate agg c c.slots)
    → found_value c.world (target_of agg.kind agg.attr) agg.otherwise faults new ≡ aggregate agg c c.slots
put_value agg c faults old new None none put value = ap (found_value c.world (target_of agg.kind agg.attr) agg.otherwise faults) put ∙ value none
put_value agg c faults old new (Some fault) some put value = fault-value agg c.world faults fault new put ∙ aggregate_fault agg c fault some

-- where no row has a fault, there is none to put
pub none_put : (asks : List Ask) (found : List Found) → HasNone asks → ArePut asks (length asks) [] found found
none_put asks found none = record {
  size = refl;
  few = omega arith;
  done = λ row below. subst (λ (f : Option AFault). IsPut f [] (found_at found row) (found_at found row)) (sym (none row no_ask below)) refl;
  rest = λ row later. refl;
}

-- none of the rows of lists side by side has a fault
pub joined_none : (lists : List (List Ask)) → All HasNone lists → HasNone (flat_map (λ l. l) lists)
joined_none [] all = All-nil (λ (ask : Ask). ask.fault ≡ None)
joined_none (asks ∷ lists) all =
    All-append (λ (ask : Ask). ask.fault ≡ None) asks (flat_map (λ l. l) lists) (all 0 asks (omega arith)) (joined_none lists (λ k d below. all (suc k) d (omega arith)))
