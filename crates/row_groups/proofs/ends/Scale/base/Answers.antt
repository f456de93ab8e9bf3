use mir.Syntax.{w64}
use Rattle.std.proofs.Common.{◌≤◌, ◌*◌, ◌∙◌, ap, arith, to_z}
use Rattle.std.proofs.lemmas.Int.{ints, to_z_pos}
use Rattle.std.proofs.lemmas.Nat.{mul-le}
use Rattle.row_groups.proofs.ends.Scale.base.Goals as goal

pub returns-clause-few : goal.returns-clause-few
returns-clause-few c =
    let wide : c.args.self.now.width ≤ 2000000000002 = omega (arith, ints) in
    mul-le c.args.group c.args.self.now.width 65536 2000000000002 c.requires.group wide

pub returns-clause-value : goal.returns-clause-value
returns-clause-value c =
    let few = returns-clause-few c in
    ap (λ n. to_z w64 (n * c.args.self.now.width)) c.from.ensures ∙ to_z_pos w64 (c.args.group * c.args.self.now.width) (omega (arith, few))
