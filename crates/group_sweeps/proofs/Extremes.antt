-- The value of an extreme from what a sweep found.
use Rattle.std.proofs.Common.{◌≡◌, ℤ, Bool, true, false, List, Option, None, Some, refl, ap, ◌∙◌}
use Rattle.std.specs.Prelude.{filter, Contains}
use Rattle.std.specs.Cmp.{IsTotalOrder}
use Rattle.std.specs.Option.{option_map}
use Rattle.std.proofs.lemmas.Bool.{false≢true}
use Rattle.std.proofs.lemmas.Cmp.{int_cmp_total, nat_cmp_total, on_total, then_total, back_total}
use Rattle.std.proofs.lemmas.List.Elements.{All-contains, All-filter, All-contains_itself}
use Rattle.sgl_values.specs.Least.{least_of}
use Rattle.sgl_values.specs.World.{Row, World}
use Rattle.sgl_values.proofs.LeastLaws.{least_is}
use Rattle.sgl_values.specs.declared.fault.Fault.{Fault as AFault}
use Rattle.sgl_values.specs.declared.fault.Val.TheVariants.{N}
use Rattle.sgl_values.specs.declared.operator.FoldKind.{FoldKind}
use Rattle.sgl_values.specs.declared.operator.FoldKind.TheVariants.{Count, Sum, Min, Max, Lowest, Highest, Nearest}
use Rattle.sgl_typed.specs.declared.script.Attr.{Attr}
use Rattle.sgl_typed.specs.declared.script.TAgg.{TAgg}
use Rattle.sgl_typed.specs.Aggregate.{aggregate, found_or, made}
use Rattle.sgl_typed.specs.Value.{Context, attribute}
use Rattle.sgl_evaluate.specs.Rights.{first_fault_of, passes_each}
use Rattle.sgl_evaluate.proofs.RightSides.{aggregate_fold}
use Rattle.group_sweeps.specs.declared.found.Found.{Found}
use Rattle.group_sweeps.specs.declared.found.Found.TheVariants.{Row as ARow, Nothing, Fault}
use Rattle.group_sweeps.specs.Extremes.{is_extreme, is_falling, order_of, pair_of, target_of}
use Rattle.group_sweeps.specs.Found.{IsFoundOf, IsRowOf, found_value}

order_total : (falling : Bool) (attr : Attr) → IsTotalOrder (order_of falling attr)
order_total false attr = then_total (on_total (attribute attr) int_cmp_total) (on_total (λ (row : Row). row.key) nat_cmp_total)
order_total true attr = then_total (back_total (on_total (attribute attr) int_cmp_total)) (on_total (λ (row : Row). row.key) nat_cmp_total)

pair-key : (falling : Bool) (attr : Attr) (row : Row) → row.key ≡ (pair_of falling attr row).key
pair-key false attr row = refl
pair-key true attr row = refl

row-value : (world : World) (target : Attr) (otherwise : ℤ) (faults : List AFault) (found : Found) (row : Row) → IsRowOf world found row → found_value world target otherwise faults found ≡ N (attribute target row)
row-value world target otherwise faults (ARow number) row is = ap (λ (r : Row). N (attribute target r)) is
row-value world target otherwise faults Nothing row is = absurd is
row-value world target otherwise faults (Fault number) row is = absurd is

module _ (world : World) (falling : Bool) (attr target : Attr) (otherwise : ℤ) (faults : List AFault) (p : Row → Bool) (found : Found) where
  least-value : (o : Option Row) → least_of (order_of falling attr) (filter p world.rows) ≡ o → IsFoundOf world (option_map (pair_of falling attr) o) found
      → found_value world target otherwise faults found ≡ found_or target otherwise o
  least-value None is right = ap (found_value world target otherwise faults) right
  least-value (Some row) is right =
      let among = least_is (order_of falling attr) (order_total falling attr) (filter p world.rows) row is in
      let inside = All-contains (Contains world.rows) (filter p world.rows) row (All-filter p (Contains world.rows) world.rows (All-contains_itself world.rows)) among.among in
      row-value world target otherwise faults found row (right row inside (pair-key falling attr row))

  extreme-value : IsFoundOf world (option_map (pair_of falling attr) (least_of (order_of falling attr) (filter p world.rows))) found
      → found_value world target otherwise faults found ≡ found_or target otherwise (least_of (order_of falling attr) (filter p world.rows))
  extreme-value right = least-value (least_of (order_of falling attr) (filter p world.rows)) refl right

made-extreme : (kind : FoldKind) (agg : TAgg) (unit : Row) (rows : List Row) → is_extreme kind ≡ true
    → found_or (target_of kind agg.attr) agg.otherwise (least_of (order_of (is_falling kind) agg.attr) rows) ≡ made kind agg unit rows
made-extreme Count agg unit rows h = absurd (false≢true h)
made-extreme Sum agg unit rows h = absurd (false≢true h)
made-extreme Nearest agg unit rows h = absurd (false≢true h)
made-extreme Min agg unit rows h = refl
made-extreme Max agg unit rows h = refl
made-extreme Lowest agg unit rows h = refl
made-extreme Highest agg unit rows h = refl

-- what a sweep found is the value of the aggregate
pub found_is : (agg : TAgg) (c : Context) (faults : List AFault) (found : Found) → is_extreme agg.kind ≡ true → None ≡ first_fault_of c agg.tests
    → IsFoundOf c.world (option_map (pair_of (is_falling agg.kind) agg.attr) (least_of (order_of (is_falling agg.kind) agg.attr) (filter (passes_each c agg.tests) c.world.rows))) found
    → found_value c.world (target_of agg.kind agg.attr) agg.otherwise faults found ≡ aggregate agg c c.slots
found_is agg c faults found extreme none right =
    aggregate_fold agg c (found_value c.world (target_of agg.kind agg.attr) agg.otherwise faults found) none
    (extreme-value c.world (is_falling agg.kind) agg.attr (target_of agg.kind agg.attr) agg.otherwise faults (passes_each c agg.tests) found right
    ∙ made-extreme agg.kind agg c.unit (filter (passes_each c agg.tests) c.world.rows) extreme)
