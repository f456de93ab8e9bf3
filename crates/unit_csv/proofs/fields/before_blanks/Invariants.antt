use Rattle.std.proofs.Common.{◌≡◌, length, reverse}
use Rattle.unit_csv.specs.Fields.{past_blanks}
use Rattle.unit_csv.proofs.fields.before_blanks.Given as goal

abbrev pub invariant-blanks : goal.invariant-blanks
invariant-blanks l = past_blanks (reverse l.rest) ≡ past_blanks (reverse l.fn.text)

abbrev pub decreases-blanks : goal.decreases-blanks
decreases-blanks l = length l.rest
