use Rattle.std.proofs.Common.{◌≡◌, ◌+◌, ◌*◌, length, min, arith}
use Rattle.std.specs.Prelude.{slice_range}
use Rattle.extreme_sweep.proofs.piece.turns_in.Goals as goal

pub returns-clause-piece : goal.returns-clause-piece
returns-clause-piece c =
    let turns = c.args.turns.now in
    let first : c.min-first.result ≡ min (c.args.piece * c.args.size) (length turns) = omega (arith, c.min-first.ensures, c.saturating_mul.ensures) in
    let end : c.min-end.result ≡ min (min (c.args.piece * c.args.size) (length turns) + c.args.size) (length turns) = omega (arith, first, c.min-end.ensures, c.saturating_add.ensures) in
    (λ i. slice_range turns (first i) (end i))
