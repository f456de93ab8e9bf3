use Rattle.std.proofs.Common.{◌≡◌, ◌+◌, get_or, refl, subst, arith}
use Rattle.std.specs.Fork.{ChangesAt}
use Rattle.thread_share.proofs.each.for_each_mut.Goals as goal

pub returns-else-threads : goal.returns-else-threads
returns-else-threads g c i d below =
    let here : 0 + i ≡ i = omega arith in
    (refl, subst (λ k. ChangesAt g.F.Fn c.args.f.now k (get_or c.args.s.now i d) (get_or c.each_from.new.s i d)) here (c.each_from.ensures.each i d below))
