use Rattle.std.proofs.Common.{◌∙◌, ◌++◌, ◌∷◌, ap}
use Rattle.std.specs.Fmt.{signed_decimal}
use Rattle.std.specs.Prelude.{ℤ, decimal, pos, ◌%◌, ◌+◌}
use Rattle.std.proofs.lemmas.Int.{to_z-of_z}
use mir.Syntax.{w64}
use Rattle.battle_maker.specs.Sample.{drawn, health}
use Rattle.battle_maker.proofs.Lines.{line_made}
use Rattle.battle_maker.proofs.units.unit_line.Goals as goal

pub returns-clause-text : goal.returns-clause-text
returns-clause-text c =
    let number = c.args.number in
    let key = c.args.key in
    let shown = λ (z : ℤ). 44 ∷ signed_decimal z in
    line_made c.new-line.result.items c.push_number.new.line.items c.push_signed_behind.new.line.items c.push_signed_behind-2.new.line.items c.push_signed_behind-3.new.line.items
    c.push_signed_behind-4.new.line.items c.push.new.self.items
    (decimal key) (signed_decimal (pos (key % 2 + 1))) (signed_decimal (drawn number key 0 4096)) (signed_decimal (drawn number key 1 4096)) (signed_decimal (health number key))
    c.new-line.ensures
    (c.push_number.ensures.text ∙ ap (λ n. c.new-line.result.items ++ decimal n) c.from.ensures)
    (c.push_signed_behind.ensures.text ∙ ap (λ z. c.push_number.new.line.items ++ shown z) (to_z-of_z w64 c.from-2.result (record { sfits = c.from-2.type_inv }) ∙ c.from-2.ensures))
    (c.push_signed_behind-2.ensures.text ∙ ap (λ z. c.push_signed_behind.new.line.items ++ shown z) (to_z-of_z w64 c.drawn.result (record { sfits = c.drawn.type_inv }) ∙ c.drawn.ensures.value))
    (c.push_signed_behind-3.ensures.text ∙ ap (λ z. c.push_signed_behind-2.new.line.items ++ shown z) (to_z-of_z w64 c.drawn-2.result (record { sfits = c.drawn-2.type_inv }) ∙ c.drawn-2.ensures.value))
    (c.push_signed_behind-4.ensures.text ∙ ap (λ z. c.push_signed_behind-3.new.line.items ++ shown z) (to_z-of_z w64 c.health.result (record { sfits = c.health.type_inv }) ∙ c.health.ensures))
    c.push.ensures.items
