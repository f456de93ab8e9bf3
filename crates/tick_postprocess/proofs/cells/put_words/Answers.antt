use Rattle.std.proofs.Common.{◌≡◌, ◌+◌, ◌-◌, ◌*◌, inl, inr, ap, ◌∙◌, subst, arith, slice_index_or}
use Rattle.std.proofs.lemmas.Bool.{cases_lt}
use Rattle.effect_combine.specs.Combined.{word_at}
use Rattle.tick_postprocess.proofs.cells.put_words.Goals as goal

pub loop-four-preserved : goal.loop-four-preserved
loop-four-preserved c =
    let done = 4 * c.loop-four.four in
    record {
      full = c.put_four.array_long;
      words = λ lane below. elim (cases_lt lane done) [
        | inl earlier ↦ c.put_four.ensures.before lane earlier ∙ c.loop-four.invariant.words lane earlier
        | inr past ↦
            let k = lane - done in
            let is : done + k ≡ lane = omega (arith, past) in
            let row : c.args.first + done + k ≡ c.args.first + lane = omega (arith, past) in
            subst (λ n. slice_index_or c.put_four.new.words n 0 ≡ word_at c.args.combined.now (c.args.first + lane) c.args.attr) is
            (c.put_four.ensures.put k (omega (arith, below, past)) ∙ ap (λ n. word_at c.args.combined.now n c.args.attr) row)
      ];
    }
