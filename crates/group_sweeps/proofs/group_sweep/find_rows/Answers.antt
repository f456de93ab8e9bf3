-- What is found for each window is found for the row that asks for it.
use Rattle.std.proofs.Common.{◌≡◌, ◌∙◌, ◌++◌, List, length, get_or, map, take, drop, ap, sym, subst, arith}
use Rattle.std.proofs.lemmas.List.{get_or-map, take_at}
use Rattle.extreme_sweep.specs.declared.window.Window.{Window}
use Rattle.extreme_sweep.specs.Windows.{least_inside}
use Rattle.group_sweeps.specs.Asks.{no_window, window_at}
use Rattle.group_sweeps.specs.declared.found.Found.{Found}
use Rattle.group_sweeps.specs.declared.found.Found.TheVariants.{Nothing}
use Rattle.group_sweeps.specs.Finds.{AreFoundFor, found_at}
use Rattle.group_sweeps.specs.Found.{IsFoundOf}
use Rattle.group_sweeps.proofs.group_sweep.find_rows.Goals as goal

pub returns : goal.returns
returns g c =
    let world = c.args.of.now.world.now.world in
    let rows = c.args.rows.now in
    let points = c.args.laid.now in
    let asks = c.args.of.now.asks.now in
    let found = c.find_beside.new.found in
    let windows : c.as_slice-windows.result.now ≡ map (window_at asks) rows = c.as_slice-windows.ensures.value ∙ c.in_ok-copied.ensures in
    let given : length c.as_mut_slice.result.now ≡ length rows =
    omega (arith, ap length c.as_mut_slice.ensures.value, c.in_ok-found.found.ok.0, c.in_ok-found.ensures.len) in
    let long : length found ≡ length rows = c.find_beside.ensures.long ∙ given in
    let whole : take c.in_ok-found.found.len (found ++ drop (length found) c.in_ok-found.found.items) ≡ found =
    take_at found (drop (length found) c.in_ok-found.found.items) c.in_ok-found.found.len
    (omega (arith, long, c.in_ok-found.ensures.len, c.in_ok-found.found.ok.0)) in
    subst (λ (l : List Found). AreFoundFor world points asks rows (length rows) l) (sym whole) record {
      all = long;
      each = λ k below.
          let own : get_or c.as_slice-windows.result.now k no_window ≡ window_at asks (get_or rows k 0) =
          ap (λ l. get_or l k no_window) windows ∙ get_or-map (window_at asks) rows k 0 no_window below in
          subst (λ (w : Window). IsFoundOf world (least_inside points w) (found_at found k)) own (c.find_beside.ensures.each k no_window Nothing (omega (arith, below, given)));
    }
