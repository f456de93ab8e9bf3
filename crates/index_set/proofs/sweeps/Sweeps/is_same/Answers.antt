use Rattle.std.proofs.Common.{ap, sym, ◌∙◌}
use Rattle.std.specs.Option.{option_copied}
use Rattle.index_set.proofs.sweeps.Sweeps.is_same.Goals as goal

pub returns-in-Some : goal.returns-in-Some
returns-in-Some c = λ same. record {
  kept = c.in-Some.found.now;
  at = sym c.get.ensures ∙ ap option_copied c.in-Some.is;
  same = c.is_call_of.ensures same;
}
