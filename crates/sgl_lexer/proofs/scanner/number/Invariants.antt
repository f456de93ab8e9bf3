use Rattle.std.proofs.Common.{◌≡◌, ◌<◌, ◌^◌, drop}
use Rattle.sgl_lexer.specs.Kinds.{number_behind}
use Rattle.sgl_lexer.proofs.scanner.number.Given as goal

abbrev pub invariant-loop-digit : goal.invariant-loop-digit
invariant-loop-digit l = record {
  small : l.value < 10 ^ l.digit-index;
  rest : number_behind l.value (drop l.digit-index l.digits) ≡ number_behind 0 l.digits;
}
