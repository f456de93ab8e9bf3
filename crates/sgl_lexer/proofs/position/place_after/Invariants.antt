use Rattle.std.proofs.Common.{◌≡◌, ◌+◌, ◌≤◌, drop}
use Rattle.sgl_lexer.specs.Places.{place_after}
use Rattle.sgl_lexer.proofs.position.place_after.Given as goal

-- what is left leads to the place behind all bytes
abbrev pub invariant-loop-byte : goal.invariant-loop-byte
invariant-loop-byte l = record {
  rest : place_after l.here (drop l.byte-index l.bytes) ≡ place_after l.fn.place l.bytes;
  line : l.here.line ≤ l.fn.place.line + l.byte-index;
  col : l.here.col ≤ l.fn.place.col + l.byte-index + 1;
}
