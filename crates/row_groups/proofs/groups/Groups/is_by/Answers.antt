-- Attributes are compared one by one.
use Rattle.std.proofs.Common.{◌≡◌, ◌∙◌, ap, refl, sym, Decides}
use Rattle.std.specs.Cmp.Lexicographic.{pointwise_decides}
use Rattle.std.proofs.lemmas.Bool.{false≢true}
use Rattle.std.proofs.lemmas.Bool.Decides.{Decides-eqb}
use Rattle.sgl_typed.specs.contracts.script.AttrPartialEq.TheImpl as equality
use Rattle.sgl_typed.specs.declared.script.Attr.{Attr}
use Rattle.sgl_typed.specs.declared.script.Attr.TheVariants.{Key, Const}
use Rattle.row_groups.specs.Groups.{Grouping}
use Rattle.row_groups.proofs.groups.Groups.is_by.Goals as goal

decides_attr : (a b : Attr) → Decides (equality.eq-value.it a b) (a ≡ b)
decides_attr Key Key = (λ e. refl, λ e. refl)
decides_attr Key (Const n) = (λ e. absurd (false≢true e), λ e. cc)
decides_attr (Const n) Key = (λ e. absurd (false≢true e), λ e. cc)
decides_attr (Const n) (Const m) = (λ e. ap Const ((Decides-eqb n m).0 e), λ e. (Decides-eqb n m).1 cc)

pub returns : goal.returns
returns c =
    let shown = c.as_slice.ensures ∙ ap (λ (groups : Grouping). groups.attrs) c.self.view_is in
    let same = pointwise_decides decides_attr c.as_slice.result.now c.args.attrs.now in
    (λ yes. sym shown ∙ same.0 (sym c.eq.ensures ∙ yes), λ is. c.eq.ensures ∙ same.1 (shown ∙ is))
