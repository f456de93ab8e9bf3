use Rattle.std.proofs.Common.{◌≡◌, ◌+◌, ◌-◌, ◌*◌, ◌/◌, ◌∙◌, ap, arith}
use Rattle.env_table.proofs.Columns.{next_place, put_join}
use Rattle.env_table.proofs.arrays.put_each.Goals as goal

pub loop-group-preserved : goal.loop-group-preserved
loop-group-preserved c =
    let inv = c.loop-group.invariant in
    let put = c.put_some.ensures in
    let n = c.loop-group.group * 4 in
    let from = c.args.from in
    let width = c.args.width in
    record {
      long = put.length ∙ inv.long;
      put = λ k d lt. put_join c.loop-group.values c.put_some.new.values c.args.column.now from width c.args.lane n 4 c.requires.narrow.0 inv.put put.put put.other k d (omega (arith, lt));
      other = λ i d apart.
          put.other i d (λ k lt same. apart (n + k) (omega (arith, lt)) (same ∙ next_place from width n k))
          ∙ inv.other i d (λ k lt. apart k (omega (arith, lt)));
    }

pub returns-then-place-count-clause-put : goal.returns-then-place-count-clause-put
returns-then-place-count-clause-put c k d lt =
    let inv = c.loop-group.invariant in
    let put = c.put_some-then-place-count.ensures in
    let n = c.args.count / 4 * 4 in
    let last : c.loop-group.group * 4 ≡ n = ap (λ g. g * 4) (omega (arith, c.loop-group-test.false, c.loop-group.auto.group-end)) in
    put_join c.loop-group.values c.put_some-then-place-count.new.values c.args.column.now c.args.from c.args.width c.args.lane n (c.args.count - n) c.requires.narrow.0
    (λ j e below. inv.put j e (omega (arith, below, last))) put.put put.other k d (omega (arith, lt, c.if-place-count.true))

pub returns-then-place-count-clause-other : goal.returns-then-place-count-clause-other
returns-then-place-count-clause-other c i d apart =
    let inv = c.loop-group.invariant in
    let put = c.put_some-then-place-count.ensures in
    let n = c.args.count / 4 * 4 in
    let last : c.loop-group.group * 4 ≡ n = ap (λ g. g * 4) (omega (arith, c.loop-group-test.false, c.loop-group.auto.group-end)) in
    put.other i d (λ k lt same. apart (n + k) (omega (arith, lt, c.if-place-count.true)) (same ∙ next_place c.args.from c.args.width n k))
    ∙ inv.other i d (λ k lt. apart k (omega (arith, lt, last, c.if-place-count.true)))
