-- What is told of two lists of items is told of both together.
use Rattle.std.proofs.Common.{◌≡◌, ℕ, ◌+◌, nat_lt, cond, Bool, true, false, ◌&&◌, List, [], ◌∷◌, ◌++◌, length-append, sym, refl, ap, ◌∙◌, arith}
use Rattle.std.specs.Prelude.{Option}
use Rattle.std.proofs.lemmas.List.{append-nil}
use Rattle.std.proofs.lemmas.List.Concat.{flat_map-append}
use Rattle.std.proofs.lemmas.Bool.Decides.{nat_tests}
use Rattle.sgl_values.specs.Least.{lesser_of}
use Rattle.sgl_values.specs.ItemOrder.{item_fault_cmp}
use Rattle.sgl_values.specs.declared.item.Item.{Item}
use Rattle.sgl_values.specs.declared.item.ItemFault.{ItemFault}
use Rattle.tick_core.specs.declared.event.Give.{Give}
use Rattle.tick_core.proofs.Standing.{gives-joined}
use Rattle.task_board.specs.declared.summary.Summary.{Summary}
use Rattle.task_board.specs.declared.summary.Summary.TheVariants.{Over, Counted}
use Rattle.task_scratch.specs.Job.{Job}
use Rattle.task_scratch.proofs.Joining.{fit-append, least-append}
use Rattle.task_board.specs.Job.{items_of}
use Rattle.task_board.specs.Summing.{Whole, Tells, both_of}

whole-case : (job : Job) (gives others : List Give) (xs ys : List Item) (a b : ℕ) (least other : Option ItemFault) → Whole job a least gives xs → Whole job b other others ys
    → (t : Bool) → nat_lt job.limit (a + b) ≡ t
    → Tells job (cond t Over (Counted (a + b) (lesser_of item_fault_cmp least other))) (gives ++ others) (xs ++ ys)
whole-case job gives others xs ys a b least other one two true is =
    let x = one.count_is in
    let y = two.count_is in
    let l = length-append xs ys in
    grind (arith, nat_tests, is, x, y, l)
whole-case job gives others xs ys a b least other one two false is =
    let x = one.count_is in
    let y = two.count_is in
    let l = length-append xs ys in
    record {
      count_is = omega (arith, x, y, l);
      within = grind (arith, nat_tests, is);
      least_is = (λ i. lesser_of item_fault_cmp (one.least_is i) (two.least_is i)) ∙ sym (least-append xs ys);
      fit = fit-append xs ys ∙ (λ i. one.fit i && two.fit i);
      stand = gives-joined job.rows job.tags gives others xs ys one.stand two.stand;
    }

-- what two summaries tell, both tell together
pub tells_both : (job : Job) (one two : Summary) (gives others : List Give) (xs ys : List Item) → Tells job one gives xs → Tells job two others ys
    → Tells job (both_of job.limit one two) (gives ++ others) (xs ++ ys)
tells_both job Over two gives others xs ys first second = let l = length-append xs ys in omega (arith, first, l)
tells_both job (Counted a least) Over gives others xs ys first second = let l = length-append xs ys in omega (arith, second, l)
tells_both job (Counted a least) (Counted b other) gives others xs ys first second =
    whole-case job gives others xs ys a b least other first second (nat_lt job.limit (a + b)) refl

pub items_of-push : (job : Job) (claimed : List ℕ) (task : ℕ) → items_of job (claimed ++ task ∷ []) ≡ items_of job claimed ++ job.items task
items_of-push job claimed task = flat_map-append job.items claimed (task ∷ []) ∙ ap (λ (l : List Item). items_of job claimed ++ l) (append-nil (job.items task))
