-- Expressions that read the new numbers have the kinds of the old ones.
use Rattle.std.proofs.Common.{◌≡◌, ℕ, ◌<◌, true, List, [], ◌∷◌, map, slice_get, Option, Some, None, refl, ap, sym, ◌∙◌}
use Rattle.std.specs.List.{list_all}
use Rattle.std.specs.Prelude.{◌&&◌, nat_lt}
use Rattle.std.proofs.lemmas.Bool.{and_parts, false≢true}
use Rattle.sgl_typed.specs.declared.script.Attr.{Attr}
use Rattle.sgl_typed.specs.declared.script.Attr.TheVariants.{Key, Const}
use Rattle.sgl_typed.specs.declared.script.Kind.{Kind}
use Rattle.sgl_typed.specs.declared.script.Kind.TheVariants.{Numeric, Logical}
use Rattle.sgl_typed.specs.declared.script.TExpr.{TExpr, Row_of-TExpr, end_of-TExpr, more_of-TExpr}
use Rattle.sgl_typed.specs.declared.script.TExpr.TheVariants.{Number, Truth, Slot, Unit as OfUnit, Target, Combined, Random, Agg', Neg', Not', Binary'}
use Rattle.sgl_typed.specs.WellFormed.{Body, slot_kind, has_attr, kind_if, is_number, is_truth, operation_kind, fit, kind_of, kinds_of, is_formed}
use Rattle.sgl_typed.proofs.Equations.{kind-Neg, kind-Not, kind-Binary, kind-Agg}
use Rattle.sgl_typed.proofs.Scope.{formed_if, number_formed, truth_formed, BothFormed, both_formed, fit_numbers}
use Rattle.sgl_expand.specs.declared.numbers.Numbered.{Numbered}
use Rattle.sgl_typed.specs.Renamed.{all_renamed}
use Rattle.sgl_expand.specs.Written.{number_of, renumbered}

-- ---- kinds

abbrev pub HasKind : Option Kind → Type 0
HasKind k = (kind : Kind) × (k ≡ Some kind)

pub kind-of-formed : (k : Option Kind) → is_formed k ≡ true → HasKind k
kind-of-formed None h = absurd (false≢true h)
kind-of-formed (Some kind) h = (kind, refl)

-- ---- the old body and the new one

-- nothing but the slots differs
pub record SameBut (base b : Body) : Type 0 where
  pub consts : b.consts ≡ base.consts
  pub effects : b.effects ≡ base.effects
  pub target : b.has_target ≡ base.has_target
  pub aggs : b.aggs ≡ base.aggs

-- all slots of a scope are below a number
abbrev pub Below : ℕ → List (ℕ × Kind) → Type 0
Below next slots = (slot : ℕ) (kind : Kind) → slot_kind slot slots ≡ Some kind → slot < next

-- a slot in the old scope has a number in the new one, of the same kind; all numbers are below the next one
pub record Matches (base : Body) (known : List Numbered) (b b' : Body) (next : ℕ) : Type 0 where
  pub old : SameBut base b
  pub new : SameBut base b'
  pub slots : (slot : ℕ) (kind : Kind) → slot_kind slot b.slots ≡ Some kind → slot_kind (number_of known slot) b'.slots ≡ Some kind
  pub below : Below next b'.slots

same-attr : (base b b' : Body) → SameBut base b → SameBut base b' → (attr : Attr) → has_attr b' attr ≡ has_attr b attr
same-attr base b b' s t Key = refl
same-attr base b b' s t (Const i) = ap (nat_lt i) (t.consts ∙ sym s.consts)

mutual
  pub same-kind : (base : Body) (known : List Numbered) (b b' : Body) (next : ℕ) → Matches base known b b' next → (e : TExpr) → is_formed (kind_of b e) ≡ true → kind_of b' (renumbered known e) ≡ kind_of b e
  same-kind base known b b' next m (Number n) h = refl
  same-kind base known b b' next m (Truth t) h = refl
  same-kind base known b b' next m (Slot i) h =
      let found = kind-of-formed (slot_kind i b.slots) h in
      m.slots i found.0 found.1 ∙ sym found.1
  same-kind base known b b' next m (OfUnit attr) h = ap (λ has. kind_if has Numeric) (same-attr base b b' m.old m.new attr)
  same-kind base known b b' next m (Target attr) h = λ i. kind_if ((m.new.target ∙ sym m.old.target) i && same-attr base b b' m.old m.new attr i) Numeric
  same-kind base known b b' next m (Combined j) h = ap (λ effects. kind_if (nat_lt j effects) Numeric) (m.new.effects ∙ sym m.old.effects)
  same-kind base known b b' next m (Random j) h = refl
  same-kind base known b b' next m (Agg' agg shape args place) h =
      kind-Agg b' record { agg = agg; args = all_renamed (number_of known) args; place = place }
      ∙ (λ i. kind_if (fit (slice_get ((m.new.aggs ∙ sym m.old.aggs) i) agg) (same-kinds base known b b' next m args (fit_numbers (slice_get b.aggs agg) (kinds_of b args) (formed_if _ Numeric h)) i)) Numeric)
  same-kind base known b b' next m (Neg' shape (more_of-TExpr inner end_of-TExpr)) h =
      kind-Neg b' (renumbered known inner)
      ∙ ap (λ k. kind_if (is_number k) Numeric) (same-kind base known b b' next m inner (number_formed (kind_of b inner) (formed_if _ Numeric h)))
  same-kind base known b b' next m (Not' shape (more_of-TExpr inner end_of-TExpr)) h =
      kind-Not b' (renumbered known inner)
      ∙ ap (λ k. kind_if (is_truth k) Logical) (same-kind base known b b' next m inner (truth_formed (kind_of b inner) (formed_if _ Logical h)))
  same-kind base known b b' next m (Binary' op shape (more_of-TExpr left end_of-TExpr) shape' (more_of-TExpr right end_of-TExpr) place) h =
      let formed : BothFormed (kind_of b left) (kind_of b right) = both_formed op (kind_of b left) (kind_of b right) h in
      kind-Binary b' op (renumbered known left) (renumbered known right) place
      ∙ (λ i. operation_kind op (same-kind base known b b' next m left formed.0 i) (same-kind base known b b' next m right formed.1 i))

  same-kinds : {m' : _} → (base : Body) (known : List Numbered) (b b' : Body) (next : ℕ) → Matches base known b b' next → (row : Row_of-TExpr m') → list_all is_number (kinds_of b row) ≡ true
      → map (kind_of b') (all_renamed (number_of known) row) ≡ kinds_of b row
  same-kinds base known b b' next m end_of-TExpr h = refl
  same-kinds base known b b' next m (more_of-TExpr e rest) h =
      let parts : (is_number (kind_of b e) ≡ true) × (list_all is_number (kinds_of b rest) ≡ true) = and_parts _ _ h in
      λ i. same-kind base known b b' next m e (number_formed (kind_of b e) parts.0) i ∷ same-kinds base known b b' next m rest parts.1 i

pub same-kinds-all : (base : Body) (known : List Numbered) (b b' : Body) (next : ℕ) → Matches base known b b' next → (es : List TExpr) → list_all is_number (map (kind_of b) es) ≡ true
    → map (kind_of b') (map (renumbered known) es) ≡ map (kind_of b) es
same-kinds-all base known b b' next m [] h = refl
same-kinds-all base known b b' next m (e ∷ es) h =
    let parts : (is_number (kind_of b e) ≡ true) × (list_all is_number (map (kind_of b) es) ≡ true) = and_parts _ _ h in
    λ i. same-kind base known b b' next m e (number_formed (kind_of b e) parts.0) i ∷ same-kinds-all base known b b' next m es parts.1 i
