-- What is told of the items of claimed tasks is told of those of all tasks in order.
use Rattle.std.proofs.Common.{◌≡◌, ℕ, zero, suc, ◌+◌, ◌*◌, ◌<◌, ◌==◌, nat_lt, cond, Bool, true, false, ◌&&◌, true≢false, List, [], ◌∷◌, length, length-append, sym, refl, ap, ◌∙◌, subst, arith}
use Rattle.std.specs.Prelude.{None, slice_index}
use Rattle.std.specs.List.{list_all, range_with_len}
use Rattle.sgl_values.specs.Amounts.{Amount, is_amount}
use Rattle.sgl_values.specs.Cells.{amounts}
use Rattle.sgl_values.specs.Totals.{IsCommutative, total}
use Rattle.sgl_values.specs.Least.{least_of, lesser_of}
use Rattle.sgl_values.specs.ItemOrder.{item_fault_cmp}
use Rattle.sgl_values.specs.declared.fault.Tag.{Tag}
use Rattle.sgl_values.specs.declared.item.Item.{Item}
use Rattle.sgl_values.specs.declared.item.Item.TheVariants.{Effect, Faulty}
use Rattle.sgl_values.proofs.LeastLaws.{fault_assoc, fault_comm}
use Rattle.sgl_typed.specs.Tick.{item_faults}
use Rattle.effect_combine.specs.Words.{start_of, merged, word_of, word_for}
use Rattle.effect_combine.specs.Combined.{CellWords, tag_at}
use Rattle.effect_combine.proofs.Merging.{merged_assoc, merged_comm}
use Rattle.tick_core.specs.Fair.{gathered}
use Rattle.tick_core.proofs.Gathering.{times, plus_assoc, plus_comm, total_merged-append}
use Rattle.tick_core.proofs.Orders.{total-once}
use Rattle.tick_core.proofs.Standing.{amounts-append, tag_of-word_number}
use Rattle.effect_board.specs.declared.view.View.{View}
use Rattle.effect_board.specs.Rule.{Ends}
use Rattle.task_board.specs.declared.summary.Summary.{Summary}
use Rattle.task_board.specs.declared.summary.Summary.TheVariants.{Over, Counted}
use Rattle.task_scratch.specs.Job.{Job, capped, item_fits}
use Rattle.task_board.specs.Job.{items_of, all_items, reach_of}
use Rattle.task_board.specs.Summing.{Reaches, Tells, Totals}
use Rattle.task_scratch.proofs.Joining.{and_assoc, fit-append, least-append}

and_comm : IsCommutative (λ (a b : Bool). a && b)
and_comm true true = refl
and_comm true false = refl
and_comm false true = refl
and_comm false false = refl

module _ (job : Job) where
  length_total : (ts : List ℕ) → length (items_of job ts) ≡ total (λ (a b : ℕ). a + b) 0 (λ t. length (job.items t)) ts
  length_total [] = refl
  length_total (t ∷ ts) = length-append (job.items t) (items_of job ts) ∙ ap (λ (n : ℕ). length (job.items t) + n) (length_total ts)

  least_total : (ts : List ℕ) → least_of item_fault_cmp (item_faults (items_of job ts)) ≡ total (lesser_of item_fault_cmp) None (λ t. least_of item_fault_cmp (item_faults (job.items t))) ts
  least_total [] = refl
  least_total (t ∷ ts) = least-append (job.items t) (items_of job ts) ∙ ap (lesser_of item_fault_cmp (least_of item_fault_cmp (item_faults (job.items t)))) (least_total ts)

  fit_total : (ts : List ℕ) → list_all item_fits (items_of job ts) ≡ total (λ (a b : Bool). a && b) true (λ t. list_all item_fits (job.items t)) ts
  fit_total [] = refl
  fit_total (t ∷ ts) = fit-append (job.items t) (items_of job ts) ∙ ap (λ (b : Bool). list_all item_fits (job.items t) && b) (fit_total ts)

  word_total : (tag : Tag) (row attr : ℕ) (ts : List ℕ)
      → word_for tag (amounts (items_of job ts) row attr) ≡ total (merged tag) (start_of tag) (λ t. word_for tag (amounts (job.items t) row attr)) ts
  word_total tag row attr [] = refl
  word_total tag row attr (t ∷ ts) =
      ap (word_for tag) (amounts-append (job.items t) (items_of job ts) row attr)
      ∙ total_merged-append tag (word_of tag) (amounts (job.items t) row attr) (amounts (items_of job ts) row attr)
      ∙ ap (merged tag (word_for tag (amounts (job.items t) row attr))) (word_total tag row attr ts)

  module _ (claimed : List ℕ) (n : ℕ) (once : (x : ℕ) → times x claimed ≡ cond (nat_lt x n) 1 0) where
    abbrev below : List ℕ
    below = range_with_len 0 n

    pub length_once : length (items_of job claimed) ≡ length (items_of job below)
    length_once = length_total claimed ∙ total-once (λ (a b : ℕ). a + b) 0 (λ t. length (job.items t)) plus_assoc plus_comm claimed n once ∙ sym (length_total below)

    pub least_once : least_of item_fault_cmp (item_faults (items_of job claimed)) ≡ least_of item_fault_cmp (item_faults (items_of job below))
    least_once =
        least_total claimed
        ∙ total-once (lesser_of item_fault_cmp) None (λ t. least_of item_fault_cmp (item_faults (job.items t))) fault_assoc fault_comm claimed n once
        ∙ sym (least_total below)

    pub fit_once : list_all item_fits (items_of job claimed) ≡ list_all item_fits (items_of job below)
    fit_once = fit_total claimed ∙ total-once (λ (a b : Bool). a && b) true (λ t. list_all item_fits (job.items t)) and_assoc and_comm claimed n once ∙ sym (fit_total below)

    pub word_once : (tag : Tag) (row attr : ℕ) → word_for tag (amounts (items_of job claimed) row attr) ≡ word_for tag (amounts (items_of job below) row attr)
    word_once tag row attr =
        word_total tag row attr claimed
        ∙ total-once (merged tag) (start_of tag) (λ t. word_for tag (amounts (job.items t) row attr)) (merged_assoc tag) (merged_comm tag) claimed n once
        ∙ sym (word_total tag row attr below)

    pub reach_once : (node : ℕ) → reach_of job node claimed ≡ reach_of job node below
    reach_once node = total-once (λ (a b : ℕ). a + b) 0 (λ t. job.reach t node) plus_assoc plus_comm claimed n once

-- ---- the amounts of a cell are numbers of the language

both : (a b : Bool) → (a && b) ≡ true → (a ≡ true) × (b ≡ true)
both true b h = (refl, h)
both false b h = absurd (true≢false (sym h))

fitting : (b : Bool) (amount : Amount) (more : List Amount) → is_amount amount ≡ true → list_all is_amount more ≡ true → list_all is_amount (cond b (amount ∷ more) more) ≡ true
fitting true amount more one rest = ap (λ (t : Bool). t && list_all is_amount more) one ∙ rest
fitting false amount more one rest = rest

pub amounts_fit : (items : List Item) (row attr : ℕ) → list_all item_fits items ≡ true → list_all is_amount (amounts items row attr) ≡ true
amounts_fit [] row attr fit = refl
amounts_fit (Effect r a amount ∷ items) row attr fit =
    let parts = both (is_amount amount) (list_all item_fits items) fit in
    fitting ((r == row) && (a == attr)) amount (amounts items row attr) parts.0 (amounts_fit items row attr parts.1)
amounts_fit (Faulty fault ∷ items) row attr fit = amounts_fit items row attr fit

word_inside : (n r rows a : ℕ) → r < rows → a < n → r * n + a < rows * n
word_inside n r zero a p q = absurd (omega (arith, p))
word_inside n zero (suc rows) a p q = omega (arith, q)
word_inside n (suc r) (suc rows) a p q = let h = word_inside n r rows a (omega (arith, p)) q in omega (arith, h)

-- the summary of the last seat and the words at the end are true of the items of all tasks
pub told : (job : Job) (table : CellWords) (view : View) (summary : Summary) → Ends job.count job.rows job.tags view table → 0 < view.misses
    → Tells job summary view.gives (items_of job view.claimed) → Totals job table summary (all_items job)
told job table view Over ends missed tells =
    let next : ends.next ≡ job.count = ends.all missed in
    let same = length_once job view.claimed job.count (λ x. ends.once x ∙ ap (λ (n : ℕ). cond (nat_lt x n) 1 0) next) in
    subst (λ (n : ℕ). job.limit < n) same tells
told job table view (Counted count least) ends missed tells =
    let next : ends.next ≡ job.count = ends.all missed in
    let once : (x : ℕ) → times x view.claimed ≡ cond (nat_lt x job.count) 1 0 = λ x. ends.once x ∙ ap (λ (n : ℕ). cond (nat_lt x n) 1 0) next in
    record {
      count_is = tells.count_is ∙ length_once job view.claimed job.count once;
      within = tells.within;
      least_is = tells.least_is ∙ least_once job view.claimed job.count once;
      combines = record {
        rows_are = ends.rows_are;
        width_is = ends.width_is;
        words = λ row attr row_in attr_in.
            ap (λ (w : ℕ). slice_index table.words (row * w + attr)) ends.width_is
            ∙ ends.words (row * length job.tags + attr) (word_inside (length job.tags) row job.rows attr row_in attr_in)
            ∙ ap (λ (tag : Tag). gathered tag (row * length job.tags + attr) view.gives) (tag_of-word_number job.tags row attr attr_in)
            ∙ tells.stand row attr row_in attr_in
            ∙ word_once job view.claimed job.count once (tag_at job.tags attr) row attr;
        numbers = λ row attr row_in attr_in. amounts_fit (all_items job) row attr (sym (fit_once job view.claimed job.count once) ∙ tells.fit);
      };
    }

-- and so are the counts of the nodes
pub reached : (job : Job) (table : CellWords) (view : View) (summary : Summary) (reach : List ℕ) → Ends job.count job.rows job.tags view table → 0 < view.misses
    → Reaches job summary reach view.claimed → Reaches job summary reach (range_with_len 0 job.count)
reached job table view Over reach ends missed reaches = tt
reached job table view (Counted count least) reach ends missed reaches = λ node.
    let next : ends.next ≡ job.count = ends.all missed in
    reaches node ∙ ap capped (reach_once job view.claimed job.count (λ x. ends.once x ∙ ap (λ (n : ℕ). cond (nat_lt x n) 1 0) next) node)
