use Rattle.std.proofs.Common.{◌≡◌, ◌∙◌, ◌<◌, ◌≤◌, ◌≤ℤ◌, ℤ, pos, negsuc, sym, arith, length, get_or}
use Rattle.std.specs.Prelude.{unsigned_abs}
use Rattle.std.proofs.lemmas.Int.{ints}
use Rattle.std.proofs.lemmas.List.{take_all, get_or_read}
use Rattle.std.proofs.lemmas.List.Elements.{All-more, All-same}
use Rattle.env_table.proofs.arrays.tell_range.Goals as goal

within : (z : ℤ) → negsuc 999999999999 ≤ℤ z → z ≤ℤ pos 1000000000000 → unsigned_abs z ≤ 1000000000000
within z low high = omega (arith, ints)

pub loop-value-preserved : goal.loop-value-preserved
loop-value-preserved c =
    let i = c.loop-value.value-index in
    let inside : i < length c.args.vals.now = omega arith in
    let same : c.get.result ≡ get_or c.args.vals.now i (pos 0) = c.get.ensures.value ∙ get_or_read c.args.vals.now i c.value-item.result inside c.value-item.is (pos 0) in
    All-more (λ z. unsigned_abs z ≤ 1000000000000) c.args.vals.now i (pos 0) inside c.loop-value.invariant
    (rw (← same) (within c.get.result c.get.ensures.low c.get.ensures.high))

pub returns : goal.returns
returns c =
    All-same (λ z. unsigned_abs z ≤ 1000000000000) c.args.vals.now _ (sym (take_all c.loop-value.value-index c.args.vals.now (omega arith))) c.loop-value.invariant
