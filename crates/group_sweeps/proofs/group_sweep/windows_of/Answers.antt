-- Each window stands in its place.
use Rattle.std.proofs.Common.{◌≡◌, ◌∙◌, ◌++◌, ap, arith, drop, length, map, sym, take}
use Rattle.std.proofs.lemmas.List.{get_or-map, length-map, same_lists, take_at}
use Rattle.group_sweeps.specs.Asks.{window_at}
use Rattle.group_sweeps.proofs.group_sweep.windows_of.Goals as goal

pub returns : goal.returns
returns g c =
    let rows = c.args.rows.now in
    let asks = c.args.asks.now in
    let old = c.in_ok-windows.windows.items in
    let new = c.copy_beside.new.windows in
    let given : length c.as_mut_slice.result.now ≡ length rows =
    omega (arith, ap length c.as_mut_slice.ensures.value, c.in_ok-windows.windows.ok.0, c.in_ok-windows.ensures.len) in
    let long : length new ≡ length rows = c.copy_beside.ensures.long ∙ given in
    let whole : take c.in_ok-windows.windows.len (new ++ drop (length new) old) ≡ new = take_at new (drop (length new) old) c.in_ok-windows.windows.len
    (omega (arith, long, c.in_ok-windows.ensures.len, c.in_ok-windows.windows.ok.0)) in
    whole ∙ same_lists new (map (window_at asks) rows) (long ∙ sym (length-map rows (window_at asks)))
    (λ k d below. c.copy_beside.ensures.each k d (omega (arith, below, long, given)) ∙ sym (get_or-map (window_at asks) rows k 0 d (omega (arith, below, long))))
