use Rattle.std.proofs.Common.{◌≤◌, ◌^◌, arith, lit<}
use Rattle.std.proofs.Math.Nat.{pow-le-pow_right}
use Rattle.sgl_lexer.proofs.scanner.number.Goals as goal

pub overflow_mul-value : goal.overflow_mul-value
overflow_mul-value c =
    let few : 10 ^ c.loop-digit.digit-index ≤ 10 ^ 18 = pow-le-pow_right (lit< tt) {i = c.loop-digit.digit-index} {j = 18} (omega arith) in
    omega arith

pub overflow_add-value : goal.overflow_add-value
overflow_add-value c =
    let few : 10 ^ c.loop-digit.digit-index ≤ 10 ^ 18 = pow-le-pow_right (lit< tt) {i = c.loop-digit.digit-index} {j = 18} (omega arith) in
    omega (arith, c.from.ensures)
