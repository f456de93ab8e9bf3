use Rattle.std.proofs.Common.{◌≡◌, ◌∙◌, ℤ, pos, subst, sym}
use Rattle.std.proofs.lemmas.Int.{rem_is}
use Rattle.std.specs.Prelude.{◌≤ℤ◌, int_rem}
use mir.Syntax.{w64}
use Rattle.battle_maker.specs.Sample.{drawn}
use Rattle.battle_maker.proofs.Lines.{drawn-low, drawn-high}
use Rattle.battle_maker.proofs.units.drawn.Goals as goal

pub returns-clause-low : goal.returns-clause-low
returns-clause-low c =
    let number = drawn c.args.number c.args.key c.args.index c.args.count in
    let rest = rem_is w64 c.get.result c.from.result record { sfits = c.get.type_inv } record { sfits = c.from.type_inv } in
    let same : int_rem c.get.result c.from.result ≡ number = cc in
    subst (λ (z : ℤ). pos 0 ≤ℤ z) (sym (rest ∙ same)) (drawn-low c.args.number c.args.key c.args.index c.args.count)

pub returns-clause-high : goal.returns-clause-high
returns-clause-high c =
    let number = drawn c.args.number c.args.key c.args.index c.args.count in
    let rest = rem_is w64 c.get.result c.from.result record { sfits = c.get.type_inv } record { sfits = c.from.type_inv } in
    let same : int_rem c.get.result c.from.result ≡ number = cc in
    subst (λ (z : ℤ). z ≤ℤ pos c.args.count) (sym (rest ∙ same)) (drawn-high c.args.number c.args.key c.args.index c.args.count c.requires)
