-- A tick by what is told of its items.
use Rattle.std.proofs.Common.{◌≡◌, ◌∙◌, ◌<◌, ◌≤◌, ℕ, Bool, true, false, List, Option, None, Some, Result, Err, length, sym, ap, subst, cond, refl, arith}
use Rattle.std.specs.Prelude.{nat_lt}
use Rattle.std.proofs.lemmas.Bool.Decides.{nat_tests}
use Rattle.effect_combine.specs.Combined.{CellWords}
use Rattle.effect_combine.specs.Laws.{CombinedWordsStand}
use Rattle.sgl_values.specs.ItemOrder.{item_fault_cmp}
use Rattle.sgl_values.specs.Least.{least_of}
use Rattle.sgl_values.specs.World.{World}
use Rattle.sgl_values.specs.declared.item.Item.{Item}
use Rattle.sgl_values.specs.declared.item.ItemFault.{ItemFault}
use Rattle.sgl_typed.specs.declared.script.TScript.{TScript}
use Rattle.sgl_typed.specs.declared.tick_fault.TickFault.{TickFault}
use Rattle.sgl_typed.specs.declared.tick_fault.TickFault.TheVariants as ticks
use Rattle.sgl_typed.specs.Items.{tick_items}
use Rattle.sgl_typed.specs.Tick.{after_cells, combined_from, item_faults, script_fault, tick, unless}
use Rattle.tick_postprocess.specs.Answer.{AreWords, tags_of}
use Rattle.task_board.specs.declared.summary.Summary.{Summary}
use Rattle.task_board.specs.declared.summary.Summary.TheVariants.{Over, Counted}
use Rattle.task_board.specs.Job.{all_items}
use Rattle.task_board.specs.Summing.{Counts, Totals}
use Rattle.plan_executor.specs.PlanJob.{job_of}
use Rattle.tick_engine.specs.Jobs.{IsTold}
use Rattle.tick_engine.proofs.Orders.{tick_same}
use Rattle.tick_engine.proofs.Words.{words_stand}

module _ (script : TScript) (world : World) (seed limit : ℕ) (table : CellWords) (summary : Summary) (told : IsTold script world seed limit table summary) where
  abbrev pub items : List Item
  items = all_items (job_of script told.plan world seed limit)

  abbrev behind : Result World TickFault
  behind = after_cells script world seed (combined_from script items 0 world.rows)

  abbrev by_number : Bool → Result World TickFault
  by_number over = cond over (Err (ticks.Items limit)) (unless (script_fault (least_of item_fault_cmp (item_faults items))) behind)

  same : tick script world seed limit ≡ by_number (nat_lt limit (length items))
  same = sym (tick_same (tick_items script world seed) items told.are script world seed limit)

  pub over_limit : summary ≡ Over → tick script world seed limit ≡ Err (ticks.Items limit)
  over_limit is =
      let past : limit < length items = subst (λ (s : Summary). Totals (job_of script told.plan world seed limit) table s items) is told.totals in
      let test : nat_lt limit (length items) ≡ true = grind (arith, nat_tests, past) in
      same ∙ ap by_number test

  module _ (count : ℕ) (least : Option ItemFault) (is : summary ≡ Counted count least) where
    counts : Counts (job_of script told.plan world seed limit) table count least items
    counts = subst (λ (s : Summary). Totals (job_of script told.plan world seed limit) table s items) is told.totals

    within : tick script world seed limit ≡ unless (script_fault least) behind
    within =
        let number = counts.count_is in
        let few = counts.within in
        let test : nat_lt limit (length items) ≡ false = grind (arith, nat_tests, number, few) in
        same ∙ ap by_number test ∙ ap (λ o. unless (script_fault o) behind) (sym counts.least_is)

    pub faulty_item : (fault : ItemFault) → least ≡ Some fault → tick script world seed limit ≡ Err (ticks.Script fault.key fault.fault)
    faulty_item fault some = within ∙ ap (λ o. unless (script_fault o) behind) some

    pub no_fault : least ≡ None → tick script world seed limit ≡ behind
    no_fault none = within ∙ ap (λ o. unless (script_fault o) behind) none

    -- the words stand for the items of the tick
    pub words_of_tick : CombinedWordsStand → limit ≤ 8000000 → AreWords script.schema.effects table items
    words_of_tick law few =
        let number = counts.count_is in
        let inside = counts.within in
        words_stand law (length world.rows) script.schema.effects (tags_of script.schema.effects) items table refl counts.combines (omega (arith, few, number, inside))
