use Rattle.std.proofs.Common.{◌∙◌, List, pos, slice_index_or, ap, arith}
use Rattle.std.specs.Prelude.{◌&&◌}
use Rattle.std.specs.Result.{result_unwrap_or}
use Rattle.std.proofs.Math.ListN.{length-set}
use Rattle.std.proofs.lemmas.Bool.{and_parts}
use Rattle.sgl_values.specs.Amounts.{Amount}
use Rattle.sgl_values.specs.Cells.{combination}
use Rattle.sgl_lanes.specs.Lanes.{lane_of}
use Rattle.effect_combine.specs.Standing.{StandsFor}
use Rattle.tick_postprocess.specs.Blocks.{IsPut}
use Rattle.tick_postprocess.proofs.CellSteps.{one_more_set, put_of, put_weaker}
use Rattle.tick_postprocess.proofs.cells.put_each.Goals as goal

pub loop-lane-preserved : goal.loop-lane-preserved
loop-lane-preserved c =
    let tag = c.args.tag in
    let init = c.args.init in
    let words = c.args.words.now in
    let out = c.loop-lane.out in
    let lane = c.loop-lane.lane in
    let inv = c.loop-lane.invariant in
    let exact = c.loop-lane.exact in
    let ok = c.is_ok-exact.result in
    let outcome = c.finish-outcome.result in
    let number = c.unwrap_or.result in
    let is = c.unwrap_or.ensures ∙ ap (λ d. result_unwrap_or outcome d) c.zero.ensures in
    record {
      full = length-set out lane number ∙ inv.full;
      put = λ k amounts below stands.
          one_more_set (λ j n. (given : List Amount) → StandsFor tag (slice_index_or words j 0) given → IsPut (combination tag init given) n (exact && ok))
          out lane number (pos 0) (omega (arith, inv.full, c.loop-lane-test.true))
          (λ j lt given stand. put_weaker (combination tag init given) (lane_of out j) exact (exact && ok) (λ h. (and_parts exact ok h).0) (inv.put j given lt stand))
          (λ given stand.
          put_weaker (combination tag init given) number ok (exact && ok) (λ h. (and_parts exact ok h).1)
          (put_of (combination tag init given) number outcome ok (c.finish-outcome.ensures.cell given stand) is c.is_ok-exact.ensures.value))
          k below amounts stands;
    }
