-- The first of rising numbers is not above any.
use Rattle.std.proofs.Common.{◌≡◌, ℤ, ◌≤ℤ◌, get_or, pos, subst, arith, rules, sym, ◌∙◌}
use Rattle.std.proofs.lemmas.Int.{to_z-of_z}
use Rattle.std.proofs.lemmas.List.{get_or_default}
use mir.Val.{SFits, to_z, of_z}
use mir.Syntax.{w64}
use Rattle.rank_table.proofs.buckets.least_of.Goals as goal

pub returns-else-is_empty : goal.returns-else-is_empty
returns-else-is_empty c k d low high =
    let first = get_or c.args.values.now 0 (pos 0) in
    let fits : SFits w64 first = search rules in
    let same : get_or c.args.values.now 0 d ≡ to_z w64 (of_z w64 first) = get_or_default c.args.values.now 0 d (pos 0) (omega (arith, high)) ∙ sym (to_z-of_z w64 first fits) in
    subst (λ (z : ℤ). z ≤ℤ get_or c.args.values.now k d) same (c.requires 0 k d low high)
