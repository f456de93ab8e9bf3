use Rattle.std.proofs.Common.{rules, ◌≡◌, ℕ, ℤ, ◌≤◌, true, List, unsigned_abs, sym, ap, ◌∙◌, subst, w64}
use Rattle.std.proofs.lemmas.Int.{to_z-of_z}
use Rattle.std.specs.Int.{int_wrapping_add}
use Rattle.std.specs.List.{list_all}
use Rattle.sgl_values.specs.Amounts.{Amount, is_amount}
use Rattle.sgl_values.specs.Cells.{combination}
use Rattle.sgl_values.specs.declared.fault.Tag.{Tag}
use Rattle.sgl_values.specs.declared.fault.Tag.TheVariants.{Min, Max, Top}
use Rattle.effect_combine.specs.Words.{word_for}
use Rattle.effect_combine.specs.Standing.{StandsFor, least_in, greatest_in, top_in}
use Rattle.effect_combine.proofs.Finishing.{near, sum_is, least_is, greatest_is, top_is}
use Rattle.effect_combine.proofs.finished.total_of.Goals as goal

-- what a word tells in the arm of its tag is the combination of its amounts
in_arm : (arm : Tag) (of : ℤ → ℕ → ℤ) (init : ℤ) (amounts : List Amount) → (list_all is_amount amounts ≡ true → of init (word_for arm amounts) ≡ combination arm init amounts)
    → (tag : Tag) (start : ℤ) (word : ℕ) → tag ≡ arm → start ≡ init → StandsFor tag word amounts → of start word ≡ combination tag init amounts
in_arm arm of init amounts told tag start word is same stands =
    let read : word ≡ word_for arm amounts = stands.is ∙ ap (λ (t : Tag). word_for t amounts) is in
    (λ i. of (same i) (read i)) ∙ told stands.numbers ∙ ap (λ (t : Tag). combination t init amounts) (sym is)

pub returns-in-Sum-clause-total : goal.returns-in-Sum-clause-total
returns-in-Sum-clause-total c amounts stands =
    let fit : unsigned_abs c.args.init ≤ 1000000000000 = subst (λ (z : ℤ). unsigned_abs z ≤ 1000000000000) c.get-start.ensures.value (near c.get-start.result c.get-start.ensures.low c.get-start.ensures.high) in
    (λ i. int_wrapping_add w64 (c.get-start.ensures.value i) (c.cast_signed.ensures i))
    ∙ sum_is c.args.init c.args.word amounts fit (subst (λ (t : Tag). StandsFor t c.args.word amounts) c.in-Sum.is stands)
    ∙ ap (λ (t : Tag). combination t c.args.init amounts) (sym c.in-Sum.is)

pub returns-in-Min-clause-total : goal.returns-in-Min-clause-total
returns-in-Min-clause-total c amounts stands =
    to_z-of_z w64 c.least.result (search rules) ∙ c.least.ensures
    ∙ in_arm Min least_in c.args.init amounts (least_is c.args.init amounts) _ _ _ c.in-Min.is (to_z-of_z w64 c.get-start.result (search rules) ∙ c.get-start.ensures.value) stands

pub returns-in-Max-clause-total : goal.returns-in-Max-clause-total
returns-in-Max-clause-total c amounts stands =
    to_z-of_z w64 c.greatest.result (search rules) ∙ c.greatest.ensures
    ∙ in_arm Max greatest_in c.args.init amounts (greatest_is c.args.init amounts) _ _ _ c.in-Max.is (to_z-of_z w64 c.get-start.result (search rules) ∙ c.get-start.ensures.value) stands

pub returns-in-Top-clause-total : goal.returns-in-Top-clause-total
returns-in-Top-clause-total c amounts stands =
    to_z-of_z w64 c.top.result (search rules) ∙ c.top.ensures
    ∙ in_arm Top top_in c.args.init amounts (top_is c.args.init amounts) _ _ _ c.in-Top.is (to_z-of_z w64 c.get-start.result (search rules) ∙ c.get-start.ensures.value) stands
