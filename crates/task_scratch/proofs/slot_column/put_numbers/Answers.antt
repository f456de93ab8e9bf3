-- The set of all rows leaves none outside, and from row to row of another each has its number.
use Rattle.std.proofs.Common.{◌≡◌, ◌<◌, ℕ, ℤ, pos, List, length, get_or, slice_set, true, false, inl, inr, w64, ap, sym, ◌∙◌, arith}
use Rattle.std.specs.Int.{trailing_zeros}
use Rattle.std.proofs.Math.ListN.{length-set}
use Rattle.std.proofs.lemmas.Bool.{cases_eq, cases_lt, false≢true}
use Rattle.std.proofs.lemmas.List.{get_or_default, get_or_past, get_or-set_same, get_or-set_other}
use Rattle.effect_board.proofs.LaneSets as rows
use Rattle.sgl_lanes.specs.Lanes.{has, lane_of}
use Rattle.sgl_lanes.proofs.LaneSets.{has_all}
use Rattle.task_scratch.proofs.slot_column.put_numbers.Goals as goal

past : (numbers into : List ℤ) (k : ℕ) → length numbers ≡ 64 → length into ≡ 64 → has 18446744073709551615 k ≡ false → lane_of numbers k ≡ lane_of into k
past numbers into k long same outside = elim (cases_lt k 64) [
  | inl below ↦ let all : has 18446744073709551615 k ≡ true = has_all k below in absurd (cc)
  | inr behind ↦ get_or_past numbers k (pos 0) (omega (arith, long, behind)) ∙ sym (get_or_past into k (pos 0) (omega (arith, same, behind)))
]

pub returns-then-mask-eq18446744073709551615-clause-outside :
    goal.returns-then-mask-eq18446744073709551615-clause-outside
returns-then-mask-eq18446744073709551615-clause-outside c k outside =
    ap (λ (list : List ℤ). lane_of list k) c.copy_each.ensures
    ∙ past c.args.numbers.now c.args.into.now k c.told-numbers c.told-into (sym (whole outside))
  where
    whole : has c.args.mask k ≡ false → false ≡ has 18446744073709551615 k
    whole is = rw (sym c.if-mask-eq18446744073709551615.true) (sym is)

put_here : (into numbers : List ℤ) (row k : ℕ) (none : ℤ) → k ≡ row → row < length into → row < length numbers → lane_of (slice_set into row (get_or numbers row none)) k ≡ lane_of numbers k
put_here into numbers row k none same inside known =
    ap (lane_of (slice_set into row (get_or numbers row none))) same ∙ get_or-set_same into row (get_or numbers row none) (pos 0) inside
    ∙ get_or_default numbers row none (pos 0) known ∙ sym (ap (lane_of numbers) same)

pub loop-left-preserved : goal.loop-left-preserved
unfolding has
loop-left-preserved c =
    let a = c.args in
    let it = c.loop-left.invariant in
    let left = c.loop-left.left in
    let next = c.loop-left.next in
    let into : List ℤ = c.loop-left.into in
    let row : ℕ = trailing_zeros w64 left in
    let few : left < 18446744073709551616 = omega (arith, c.loop-left.auto.left-fits) in
    let some : 0 < left = omega (arith, c.loop-left-test.true) in
    let inside : row < 64 = rows.inside a.mask left next few some it.rest in
    let own = rows.taken a.mask left next few some it.rest in
    let between = rows.between a.mask left next few some it.rest in
    let long = it.long in
    let told = c.told-numbers in
    let none = c.index-numbers-row.result in
    let number : ℤ = get_or a.numbers.now row none in
    record {
      long = length-set into row number ∙ long;
      next = omega (arith, inside);
      rest = rows.less a.mask left next few some it.rest;
      inside = λ k below in_set. elim (cases_eq k row) [
        | inl same ↦ put_here into a.numbers.now row k none same (omega (arith, inside, long)) (omega (arith, inside, told))
        | inr apart ↦ get_or-set_other into row k number (pos 0) apart ∙ elim (cases_lt k next) [
          | inl earlier ↦ it.inside k earlier in_set
          | inr later ↦ absurd (false≢true (sym (between k later (omega (arith, below, apart))) ∙ in_set))
        ]
      ];
      outside = λ k out. get_or-set_other into row k number (pos 0) (λ same. false≢true (sym out ∙ ap (has a.mask) same ∙ own)) ∙ it.outside k out;
    }

pub loop-left-smaller : goal.loop-left-smaller
loop-left-smaller c =
    let it = c.loop-left.invariant in
    let left = c.loop-left.left in
    let few : left < 18446744073709551616 = omega (arith, c.loop-left.auto.left-fits) in
    let some : 0 < left = omega (arith, c.loop-left-test.true) in
    let inside = rows.inside c.args.mask left c.loop-left.next few some it.rest in
    let from = rows.from_next c.args.mask left c.loop-left.next few some it.rest in
    omega (arith, inside, from)

pub returns-clause-inside : goal.returns-clause-inside
unfolding has
returns-clause-inside c k below own =
    let it = c.loop-left.invariant in
    elim (cases_lt k c.loop-left.next) [
      | inl earlier ↦ it.inside k earlier own
      | inr later ↦ absurd (false≢true (sym (rows.none_left c.args.mask c.loop-left.left c.loop-left.next (omega (arith, c.loop-left-test.false)) it.rest k later below) ∙ own))
    ]
