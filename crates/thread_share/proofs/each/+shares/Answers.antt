use Rattle.std.proofs.Common.{◌≡◌, ◌+◌, length, ap, arith}
use Rattle.std.specs.Fork.{AcceptsAt, ChangesAt}
use Rattle.std.proofs.lemmas.List.{length-append}
use Rattle.thread_share.proofs.Parts.{at_both, at_rest}
use Rattle.thread_share.proofs.each.+shares.Goals as goal

pub each_from-both_parts-requires-clause-rest : goal.each_from-both_parts-requires-clause-rest
each_from-both_parts-requires-clause-rest g t c κs within =
    let cut = c.split_at_mut-first in
    let from : c.args.base + c.args.size ≡ c.args.base + length cut.result.0.now = omega (arith, cut.ensures.front_len) in
    at_rest (AcceptsAt g.F.Fn c.args.f.now) c.args.base c.args.s.now cut.result.0.now cut.result.1.now cut.ensures.value (c.args.base + c.args.size) from c.requires.accepts

pub each_from-returns : goal.each_from-returns
each_from-returns g t c =
    let cut = c.split_at_mut-first in
    let first = c.both_parts.ensures.first in let rest = c.both_parts.ensures.rest in
    let xs = cut.result.0.now in let ys = cut.result.1.now in
    let from : c.args.base + c.args.size ≡ c.args.base + length xs = omega (arith, cut.ensures.front_len) in
    record {
      len = omega (arith, ap length cut.ensures.value, length-append xs ys, length-append c.both_parts.new.first c.both_parts.new.rest, first.len, rest.len);
      each = at_both (ChangesAt g.F.Fn c.args.f.now) c.args.base c.args.s.now xs ys c.both_parts.new.first c.both_parts.new.rest cut.ensures.value (c.args.base + c.args.size) from first.len first.each rest.each;
    }
