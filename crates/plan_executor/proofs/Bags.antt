-- Items in another order.
use Rattle.std.proofs.Common.{◌≡◌, ℕ, ◌+◌, nat_lt, Bool, true, false, ◌&&◌, List, [], ◌∷◌, ◌++◌, length, length-append, refl, ap, sym, subst, ◌∙◌, arith}
use Rattle.std.specs.Prelude.{None, flat_map}
use Rattle.std.specs.List.{list_all}
use Rattle.std.specs.List.Sorted.{IsPermutation}
use Rattle.sgl_values.specs.Cells.{amounts}
use Rattle.sgl_values.specs.Least.{least_of, lesser_of}
use Rattle.sgl_values.specs.ItemOrder.{item_fault_cmp}
use Rattle.sgl_values.specs.Totals.{total}
use Rattle.sgl_values.specs.declared.fault.Tag.{Tag}
use Rattle.sgl_values.specs.declared.item.Item.{Item}
use Rattle.sgl_values.proofs.LeastLaws.{fault_assoc, fault_comm}
use Rattle.sgl_values.proofs.Permutations.{total-IsPermutation}
use Rattle.sgl_typed.specs.Tick.{item_faults}
use Rattle.effect_combine.specs.Combined.{tag_at}
use Rattle.effect_combine.specs.Words.{merged, start_of, word_for, word_of}
use Rattle.effect_combine.proofs.Merging.{merged_assoc, merged_comm}
use Rattle.tick_core.proofs.Gathering.{total_merged-append}
use Rattle.task_scratch.specs.Job.{item_fits}
use Rattle.task_scratch.proofs.Joining.{least-append, fit-append}
use Rattle.tick_core.proofs.Standing.{amounts-append}
use Rattle.plan_executor.specs.Sinking.{Bounds, State, Pushes}

-- all that a task tells and gives is the same of both
pub record Alike (xs ys : List Item) : Type 0 where
  pub long : length ys ≡ length xs
  pub least : least_of item_fault_cmp (item_faults ys) ≡ least_of item_fault_cmp (item_faults xs)
  pub fit : list_all item_fits ys ≡ list_all item_fits xs
  pub words : (tag : Tag) (row attr : ℕ) → word_for tag (amounts ys row attr) ≡ word_for tag (amounts xs row attr)

word_append : (tag : Tag) (row attr : ℕ) (xs ys : List Item) → word_for tag (amounts (xs ++ ys) row attr) ≡ merged tag (word_for tag (amounts xs row attr)) (word_for tag (amounts ys row attr))
word_append tag row attr xs ys =
    ap (word_for tag) (amounts-append xs ys row attr) ∙ total_merged-append tag (word_of tag) (amounts xs row attr) (amounts ys row attr)

-- items that are told and given in another order
pub pushes_alike : (bounds : Bounds) (old new : State) (xs ys : List Item) → Alike xs ys → Pushes bounds old new xs → Pushes bounds old new ys
pushes_alike bounds old new xs ys alike pushes = record {
  pushes = λ before start items holds.
      let done = pushes.pushes before start items holds in
      let long : length (items ++ xs) ≡ length (items ++ ys) = length-append items xs ∙ ap (λ n. length items + n) (sym alike.long) ∙ sym (length-append items ys) in
      record {
        gives = done.gives;
        added = done.added;
        over = done.over ∙ ap (λ n. nat_lt bounds.limit (before + n)) long;
        whole = λ within.
            let whole = done.whole within in
            record {
              counted = whole.counted ∙ ap (λ n. before + n) long;
              least = whole.least ∙ least-append items xs ∙ ap (lesser_of item_fault_cmp (least_of item_fault_cmp (item_faults items))) (sym alike.least) ∙ sym (least-append items ys);
              fit = fit-append items ys ∙ ap (λ b. list_all item_fits items && b) alike.fit ∙ sym (fit-append items xs) ∙ whole.fit;
              stand = λ row attr in_rows in_tags.
                  let tag = tag_at bounds.tags attr in
                  whole.stand row attr in_rows in_tags ∙ word_append tag row attr items xs
                  ∙ ap (merged tag (word_for tag (amounts items row attr))) (sym (alike.words tag row attr)) ∙ sym (word_append tag row attr items ys);
            };
      };
}

-- what is summed up of the lists of rows is the same of the rows in another order
module _ {B : Type 0} (op : B → B → B) (end : B) (worth : List Item → B) (none : worth [] ≡ end) (both : (xs ys : List Item) → worth (xs ++ ys) ≡ op (worth xs) (worth ys))
    (assoc : (a b c : B) → op (op a b) c ≡ op a (op b c)) (comm : (a b : B) → op a b ≡ op b a) {A : Type 0} (give : A → List Item) where
  as_total : (rows : List A) → worth (flat_map give rows) ≡ total op end (λ row. worth (give row)) rows
  as_total [] = none
  as_total (row ∷ rows) = both (give row) (flat_map give rows) ∙ ap (op (worth (give row))) (as_total rows)

  moved : (xs ys : List A) → IsPermutation xs ys → worth (flat_map give ys) ≡ worth (flat_map give xs)
  moved xs ys bag = as_total ys ∙ total-IsPermutation op end (λ row. worth (give row)) assoc comm xs ys bag ∙ sym (as_total xs)

and_assoc : (a b c : Bool) → ((a && b) && c) ≡ (a && (b && c))
and_assoc true b c = refl
and_assoc false b c = refl

and_comm : (a b : Bool) → (a && b) ≡ (b && a)
and_comm true true = refl
and_comm true false = refl
and_comm false true = refl
and_comm false false = refl

-- rows in another order give alike
pub alike_rows : {A : Type 0} (give : A → List Item) (xs ys : List A) → IsPermutation xs ys → Alike (flat_map give xs) (flat_map give ys)
alike_rows give xs ys bag = record {
  long = moved (λ (a b : ℕ). a + b) 0 length refl length-append (λ a b c. omega arith) (λ a b. omega arith) give xs ys bag;
  least = moved (lesser_of item_fault_cmp) None (λ items. least_of item_fault_cmp (item_faults items)) refl least-append fault_assoc fault_comm give xs ys bag;
  fit = moved (λ (a b : Bool). a && b) true (list_all item_fits) refl fit-append and_assoc and_comm give xs ys bag;
  words = λ tag row attr. moved (merged tag) (start_of tag) (λ items. word_for tag (amounts items row attr)) refl (word_append tag row attr) (merged_assoc tag) (merged_comm tag) give xs ys bag;
}

-- so do items in another order
pub alike_moved : (xs ys : List Item) → IsPermutation xs ys → Alike xs ys
alike_moved xs ys bag =
    subst (λ l. Alike l ys) (alone xs) (subst (Alike (flat_map (λ (x : Item). x ∷ []) xs)) (alone ys) (alike_rows (λ (x : Item). x ∷ []) xs ys bag))
  where
    alone : (items : List Item) → flat_map (λ (x : Item). x ∷ []) items ≡ items
    alone [] = refl
    alone (item ∷ items) = ap (λ l. item ∷ l) (alone items)
