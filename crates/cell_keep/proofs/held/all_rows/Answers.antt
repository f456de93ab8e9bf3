use Rattle.std.proofs.Common.{◌≡◌, ◌∙◌, ◌++◌, List, ℕ, ap, arith, drop, length, subst, sym, take}
use Rattle.std.specs.List.{range_with_len}
use Rattle.std.specs.List.Sorted.{IsPermutation}
use Rattle.std.proofs.lemmas.List.{append-nil, drop_all, take_all}
use Rattle.cell_keep.proofs.held.all_rows.Goals as goal

pub returns : goal.returns
returns c =
    let rows = range_with_len 0 c.args.rows in
    let all = c.in_ok-all.all in
    let turned = c.reverse.new.self in
    let many : length turned ≡ length all.items = c.reverse.ensures.len ∙ ap length c.as_mut_slice.ensures.value in
    let is : take all.len (turned ++ drop (length turned) all.items) ≡ turned =
    ap (λ (l : List ℕ). take all.len (turned ++ l)) (drop_all (length turned) all.items (omega (arith, many)))
    ∙ (ap (take all.len) (append-nil turned) ∙ take_all all.len turned (omega (arith, many, all.ok))) in
    subst (IsPermutation rows) (sym is) (subst (λ (l : List ℕ). IsPermutation l turned) (c.as_mut_slice.ensures.value ∙ c.in_ok-all.ensures) c.reverse.ensures.permutation)
