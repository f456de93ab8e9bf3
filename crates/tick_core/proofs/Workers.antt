-- What the workers of a tick did together: in the order of the tasks, whoever claimed them.
use Rattle.std.proofs.Common.{◌≡◌, ℕ, List, [], ◌∷◌, refl, sym, ap, ◌∙◌}
use Rattle.std.specs.Prelude.{All, Option}
use Rattle.std.specs.List.{range_with_len, flat_map}
use Rattle.std.proofs.lemmas.List.Concat.{flat_map-append}
use Rattle.std.proofs.lemmas.List.Elements.{All-head, All-tail}
use Rattle.sgl_values.specs.Cells.{amounts}
use Rattle.sgl_values.specs.Totals.{total}
use Rattle.sgl_values.specs.declared.fault.Tag.{Tag}
use Rattle.sgl_values.specs.declared.item.Item.{Item}
use Rattle.effect_combine.specs.Words.{start_of, merged, word_of, word_for}
use Rattle.effect_combine.specs.Combined.{tag_at}
use Rattle.effect_combine.proofs.Merging.{merged_assoc, merged_comm}
use Rattle.tick_core.specs.Core.{Worker, work, claimed_by_all, given_by_all}
use Rattle.tick_core.specs.Laws.{ClaimsStandInOrder, StandsForClaims, TotalsIgnoreOrder, TotalsJoin, WorkersStandForAll}
use Rattle.tick_core.specs.Standing.{StandForItems}
use Rattle.tick_core.proofs.Gathering.{total_merged-append}
use Rattle.tick_core.proofs.Orders.{total-once}
use Rattle.tick_core.proofs.Standing.{amounts-append, gives-joined}
use Rattle.tick_core.proofs.Totals.{total-flat_map}

pub total_in_any_order : (B : Type 0) → TotalsIgnoreOrder B
total_in_any_order B op end worth assoc comm claimed count once = total-once op end worth assoc comm claimed count once

pub total_joined : (B : Type 0) → TotalsJoin B
total_joined B op end worth assoc none [] others = sym (none (total op end worth others))
total_joined B op end worth assoc none (task ∷ claimed) others =
    ap (op (worth task)) (total_joined B op end worth assoc none claimed others)
    ∙ sym (assoc (worth task) (total op end worth claimed) (total op end worth others))

-- the word of a cell, task by task
module _ (items_of : ℕ → List Item) (tag : Tag) (row attr : ℕ) where
  word_tasks : (tasks : List ℕ) → word_for tag (amounts (flat_map items_of tasks) row attr) ≡ total (merged tag) (start_of tag) (λ task. word_for tag (amounts (items_of task) row attr)) tasks
  word_tasks = total-flat_map (merged tag) (start_of tag) (λ items. word_for tag (amounts items row attr)) items_of refl
      (λ xs ys. ap (word_for tag) (amounts-append xs ys row attr) ∙ total_merged-append tag (word_of tag) (amounts xs row attr) (amounts ys row attr))

pub claims-stand : ClaimsStandInOrder
claims-stand rows tags items_of gives claimed count once stand row attr row_in attr_in =
    let tag : Tag = tag_at tags attr in
    stand row attr row_in attr_in
    ∙ word_tasks items_of tag row attr claimed
    ∙ total-once (merged tag) (start_of tag) (λ task. word_for tag (amounts (items_of task) row attr)) (merged_assoc tag) (merged_comm tag) claimed count once
    ∙ sym (word_tasks items_of tag row attr (range_with_len 0 count))

-- what all gave stands for the items of what all claimed
workers_together : (rows : ℕ) (tags : List Tag) (items_of : ℕ → List Item) (workers : List (Option Worker)) → All (λ worker. StandsForClaims rows tags items_of (work worker)) workers
    → StandForItems rows tags (given_by_all workers) (flat_map items_of (claimed_by_all workers))
workers_together rows tags items_of [] each row attr row_in attr_in = refl
workers_together rows tags items_of (worker ∷ workers) each row attr row_in attr_in =
    let first : List Item = flat_map items_of (work worker).claimed in
    let rest : List Item = flat_map items_of (claimed_by_all workers) in
    gives-joined rows tags (work worker).gives (given_by_all workers) first rest
    (All-head (λ w. StandsForClaims rows tags items_of (work w)) worker workers each)
    (workers_together rows tags items_of workers (All-tail (λ w. StandsForClaims rows tags items_of (work w)) worker workers each)) row attr row_in attr_in
    ∙ ap (λ (items : List Item). word_for (tag_at tags attr) (amounts items row attr)) (sym (flat_map-append items_of (work worker).claimed (claimed_by_all workers)))

pub workers-stand : WorkersStandForAll
workers-stand rows tags items_of workers count each once =
    claims-stand rows tags items_of (given_by_all workers) (claimed_by_all workers) count once (workers_together rows tags items_of workers each)
