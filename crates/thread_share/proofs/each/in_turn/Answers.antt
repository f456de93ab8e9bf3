use Rattle.std.proofs.Common.{◌≡◌, ◌+◌, ◌<◌, ℕ, get_or, length, length-set, sym, subst, ◌∙◌, inl, inr, arith}
use Rattle.std.specs.Prelude.{slice_set}
use Rattle.std.specs.Fork.{ChangesAt}
use Rattle.std.proofs.lemmas.Bool.{cases_lt}
use Rattle.std.proofs.lemmas.List.{get_or-set_same, get_or-set_other, get_or_default}
use Rattle.thread_share.proofs.each.in_turn.Goals as goal

pub loop-k-preserved : goal.loop-k-preserved
loop-k-preserved g c =
    let k = c.loop-k.k in let xs = c.args.s.now in let ys = c.loop-k.s in let y = c.at_one.new.it in let old = c.loop-k.invariant in
    let R : ℕ → g.row.T.Denot → g.row.T.Denot → Type 0 = λ j. ChangesAt g.F.Fn c.args.f.now (c.args.base + j) in
    let inside : k < length ys = omega (arith, c.loop-k-test.true, old.len) in
    record {
      len = length-set ys k y ∙ old.len;
      later = λ j d h. get_or-set_other ys k j y d (λ e. omega (arith, h, e)) ∙ old.later j d (omega (arith, h));
      done = λ j d h. elim (cases_lt j k) [
        | inl low ↦ subst (R j (get_or xs j d)) (sym (get_or-set_other ys k j y d (λ e. omega (arith, low, e)))) (old.done j d low)
        | inr high ↦
            let here : k ≡ j = omega (arith, h, high) in
            subst (λ i. R i (get_or xs i d) (get_or (slice_set ys k y) i d)) here
            (subst (R k (get_or xs k d)) (sym (get_or-set_same ys k y d inside))
            (subst (λ x. R k x y) (get_or_default ys k _ d inside ∙ old.later k d (omega arith)) c.at_one.ensures))
      ];
    }
