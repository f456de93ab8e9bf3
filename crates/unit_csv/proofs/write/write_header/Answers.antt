-- The names are few and short, as those of every schema.
use Rattle.std.proofs.Common.{◌≤◌, List, ℕ, ap, arith, length, subst, sym}
use Rattle.std.specs.Prelude.{All}
use Rattle.unit_csv.proofs.Schemas.{few_consts, short_consts}
use Rattle.unit_csv.proofs.write.write_header.Goals as goal

pub header_line-line-requires-clause-few : goal.header_line-line-requires-clause-few
header_line-line-requires-clause-few g c = omega (arith, few_consts c.args.schema.now, ap length c.as_slice.ensures)

pub header_line-line-requires-clause-short : goal.header_line-line-requires-clause-short
header_line-line-requires-clause-short g c = subst (All (λ (name : List ℕ). length name ≤ 31)) (sym c.as_slice.ensures) (short_consts c.args.schema.now)
