use Rattle.std.proofs.Common.{◌≡◌, length}
use Rattle.unit_csv.specs.Fields.{past_blanks}
use Rattle.unit_csv.proofs.fields.past_blanks.Given as goal

abbrev pub invariant-blanks : goal.invariant-blanks
invariant-blanks l = past_blanks l.rest ≡ past_blanks l.fn.text

abbrev pub decreases-blanks : goal.decreases-blanks
decreases-blanks l = length l.rest
