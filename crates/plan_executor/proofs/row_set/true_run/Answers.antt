use Rattle.std.proofs.Common.{◌≡◌, ◌+◌, ◌<◌, ◌^◌, ℕ, Bool, true, false, eqb, List, map, pos, ap, sym, ◌∙◌, refl, subst, arith, w64}
use mir.Val.{bool_byte}
use lib.Lanes.{mask_l}
use Rattle.std.specs.Ordering.{int_eq}
use Rattle.std.proofs.lemmas.List.{get_or-map, length-map}
use Rattle.std.proofs.lemmas.Simd.{bitmask_splat, mask_l-lt}
use Rattle.sgl_lanes.specs.Lanes.{has, lane_of}
use Rattle.plan_executor.proofs.RowSets.{has_mask}
use Rattle.plan_executor.proofs.row_set.true_run.Goals as goal

abbrev is_one : ℕ → Bool
is_one n = eqb n 1

one_told : (t : Bool) → is_one (bool_byte t) ≡ t
one_told true = refl
one_told false = refl

pub returns-clause-rows : goal.returns-clause-rows
returns-clause-rows c k below =
    let it = c.loop-place.invariant in
    let run : List ℕ = c.loop-place.run in
    let long = it.long in
    ap (λ n. has n k) (bitmask_splat w64 eqb run 8 1 long (omega arith))
    ∙ has_mask (map is_one run) k ∙ get_or-map is_one run k 0 false (omega (arith, long, below)) ∙ ap is_one (it.are k (omega (arith, below, c.loop-place-test.false)))
    ∙ one_told (int_eq (lane_of c.args.numbers.now (c.args.first + k)) (pos 1))

pub returns-clause-small : goal.returns-clause-small
returns-clause-small c =
    let run : List ℕ = c.loop-place.run in
    let long = c.loop-place.invariant.long in
    subst (λ (n : ℕ). n < 256) (sym (bitmask_splat w64 eqb run 8 1 long (omega arith)))
    (subst (λ (n : ℕ). mask_l (map is_one run) < 2 ^ n) (length-map run is_one ∙ long) (mask_l-lt (map is_one run)))
