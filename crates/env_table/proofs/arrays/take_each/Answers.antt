use Rattle.std.proofs.Common.{◌≡◌, ◌+◌, ◌-◌, ◌*◌, ◌/◌, ◌∙◌, ap, length, arith}
use Rattle.env_table.proofs.Columns.{next_place, take_join}
use Rattle.env_table.proofs.arrays.take_each.Goals as goal

pub take_some-requires-clause-inside : goal.take_some-requires-clause-inside
take_some-requires-clause-inside c k lt =
    let n = c.loop-group.group * 4 in
    let here = c.requires.inside (n + k) (omega (arith, lt, c.loop-group-test.true)) in
    omega (arith, here, next_place c.args.from c.args.width n k)

pub loop-group-preserved : goal.loop-group-preserved
loop-group-preserved c =
    let inv = c.loop-group.invariant in
    let put = c.take_some.ensures in
    record {
      long = put.length ∙ inv.long;
      put = λ k d lt. take_join c.args.values.now c.loop-group.out c.take_some.new.out c.args.from c.args.width (c.loop-group.group * 4) 4 inv.put put.put put.before k d (omega (arith, lt));
    }

pub take_some-requires-then-place-count-clause-inside : goal.take_some-requires-then-place-count-clause-inside
take_some-requires-then-place-count-clause-inside c k lt =
    let n = length c.args.out.now / 4 * 4 in
    let here = c.requires.inside (n + k) (omega (arith, lt)) in
    omega (arith, here, next_place c.args.from c.args.width n k)

pub returns-then-place-count-clause-put : goal.returns-then-place-count-clause-put
returns-then-place-count-clause-put c k d lt =
    let inv = c.loop-group.invariant in
    let put = c.take_some-then-place-count.ensures in
    let n = length c.args.out.now / 4 * 4 in
    let last : c.loop-group.group * 4 ≡ n = ap (λ g. g * 4) (omega (arith, c.loop-group-test.false, c.loop-group.auto.group-end)) in
    take_join c.args.values.now c.loop-group.out c.take_some-then-place-count.new.out c.args.from c.args.width n (length c.args.out.now - n)
    (λ j e below. inv.put j e (omega (arith, below, last))) put.put put.before k d (omega (arith, lt, c.if-place-count.true))
