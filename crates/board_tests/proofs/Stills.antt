-- The idle script is written out, and in its run nothing but the tick changes.
use Rattle.std.proofs.Common.{◌≡◌, ◌∙◌, ◌+◌, ◌≤◌, ℕ, zero, suc, pos, true, List, [], ◌∷◌, ◌++◌, refl, ap, subst, sym, None, Ok, arith}
use Rattle.std.specs.Prelude.{Option, Some, not}
use denote.Hole.Carrier.{hidden}
use Rattle.sgl_values.specs.World.{Row, World}
use Rattle.sgl_typed.specs.Items.{items, start}
use Rattle.sgl_typed.specs.Tick.{after_cells, after_items, after_post, assigned, cells_from, fault_of, faults_of, is_met, new_row, post_context, post_faults_or, Posted, removal_value, run_on, spawn_faults, spawn_rules, spawn_value, tick, with_values, worlds}
use Rattle.sgl_typed.specs.Value.{Context}
use Rattle.sgl_typed.specs.WrittenOut.{is_written_out}
use Rattle.sgl_typed.specs.declared.script.TExpr.{TExpr}
use Rattle.sgl_typed.specs.declared.script.TExpr.TheBlock.{shape-the_row-TExpr-0, hidden-the_row-TExpr-0, shape-the_row-TExpr-1, hidden-the_row-TExpr-1}
use Rattle.sgl_typed.specs.declared.script.TRule.{TRule}
use Rattle.sgl_typed.specs.declared.script.TScript.{TScript}
use Rattle.sgl_typed.specs.declared.script.TSpawn.{TSpawn}
use Rattle.sgl_typed.specs.declared.script.TStmt.TheBlock.{shape-the_row-TStmt-0, hidden-the_row-TStmt-0}
use Rattle.world_publish.specs.Showing.{IsEntry}
use Rattle.board_tests.specs.Still.{still_at}

pub written_out_of : (s : TScript) → s.routines ≡ [] → s.main ≡ [] → s.slots ≡ 0 → is_written_out s ≡ true
unfolding is_written_out shape-the_row-TExpr-0 hidden-the_row-TExpr-0 shape-the_row-TExpr-1 hidden-the_row-TExpr-1 shape-the_row-TStmt-0 hidden-the_row-TStmt-0 hidden
written_out_of s routines main slots = rw (routines, main, slots) refl

-- a script that does nothing
pub record IsIdle (script : TScript) : Type 0 where
  pub effects : script.schema.effects ≡ []
  pub main : script.main ≡ []
  pub rules : script.rules ≡ []
  pub spawn : script.spawn ≡ None
  pub removal : script.removal ≡ None

-- a row behind the `post` of these parts, with its contexts
abbrev posted_by : (Row → Context) → Row → List TRule → Option TSpawn → Option TExpr → Posted
posted_by context first rules spawn removal =
    let before = context first in
    let row = new_row before rules in
    let after = context row in
    let spawning = spawn_value spawn after in
    let block = assigned after (spawn_rules spawn) in
    let removed = removal_value removal after in
    record {
      faults = post_faults_or (faults_of (assigned before rules)) (spawn_faults spawning (faults_of block) ++ fault_of removed);
      stays = not (is_met removed);
      row = row;
      spawns = is_met spawning;
      child = with_values block row.values;
    }

still_tick : (script : TScript) (n : ℕ) → IsIdle script → tick script (still_at n) 0 1 ≡ Ok (still_at (n + 1))
still_tick script n idle =
    let world : World = still_at n in
    let unit : Row = record { key = 5; values = pos 7 ∷ [] } in
    ap (λ main. after_items script world 0 1 (items main (start script world 0 unit) ++ [])) idle.main
    ∙ ap (λ effects. after_cells script world 0 (record { row = unit; cells = cells_from [] 0 0 effects } ∷ [])) idle.effects
    ∙ (λ i. after_post world (posted_by (post_context script world 0 []) unit (idle.rules i) (idle.spawn i) (idle.removal i) ∷ []))

still_entries : (script : TScript) (n ticks position : ℕ) → IsIdle script → position ≤ ticks → IsEntry (worlds script (still_at n) 0 1 ticks).worlds position (still_at (n + position))
still_entries script n zero zero idle inside = let e : n ≡ n + 0 = omega arith in ap (λ k. Some (still_at k)) e
still_entries script n zero (suc position) idle inside = absurd (omega arith)
still_entries script n (suc ticks) zero idle inside = let e : n ≡ n + 0 = omega arith in ap (λ k. Some (still_at k)) e
still_entries script n (suc ticks) (suc position) idle inside =
    let later : IsEntry (worlds script (still_at (n + 1)) 0 1 ticks).worlds position (still_at (n + 1 + position)) = still_entries script (n + 1) ticks position idle (omega arith) in
    let same : n + 1 + position ≡ n + suc position = omega arith in
    subst (λ k. IsEntry (worlds script (still_at n) 0 1 (suc ticks)).worlds (suc position) (still_at k)) same
    (subst (λ r. IsEntry (run_on (λ next. worlds script next 0 1 ticks) r).worlds position (still_at (n + 1 + position))) (sym (still_tick script n idle)) later)

-- the run of these lists, whatever the start is called
pub entry_of : (all : List World) (script : TScript) (start : World) (ticks position : ℕ) → IsIdle script → all ≡ (worlds script start 0 1 ticks).worlds → start ≡ still_at 0 → position ≤ ticks
    → IsEntry all position (still_at position)
entry_of all script start ticks position idle is begins inside =
    let plain : 0 + position ≡ position = omega arith in
    subst (λ list. IsEntry list position (still_at position)) (sym (is ∙ ap (λ world. (worlds script world 0 1 ticks).worlds) begins))
    (subst (λ n. IsEntry (worlds script (still_at 0) 0 1 ticks).worlds position (still_at n)) plain (still_entries script 0 ticks position idle inside))
