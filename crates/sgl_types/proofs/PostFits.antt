-- A `post` that breaks no rule is well-formed once resolved, and assigns no attribute twice.
use Rattle.std.proofs.Common.{◌≡◌, ℕ, ◌+◌, ◌≤◌, ◌==◌, ◌&&◌, ◌||◌, not, Bool, true, false, List, [], ◌∷◌, ◌++◌, map, length, nat_lt, is_some, Option, Some, None, bytes_eq, if◌then◌else◌, refl, ap, sym, ◌∙◌, arith}
use Rattle.std.specs.List.{list_all, list_any}
use Rattle.std.proofs.lemmas.Bool.{ne_eqb}
use Rattle.std.proofs.lemmas.Slice.Eq.{bytes_eq-Decides}
use Rattle.sgl_values.specs.declared.place.Place.{Place}
use Rattle.sgl_tree.specs.declared.expression.Expr.{Expr}
use Rattle.sgl_tree.specs.declared.item.Rule.{Rule}
use Rattle.sgl_tree.specs.declared.item.Spawn.{Spawn}
use Rattle.sgl_typed.specs.declared.script.Kind.TheVariants.{Numeric, Logical}
use Rattle.sgl_typed.specs.declared.schema.Schema.{Schema}
use Rattle.sgl_typed.specs.SchemaForm.{differ}
use Rattle.sgl_typed.specs.WellFormed.{is_number, kind_of as formed, post_body, rules_fit, spawn_fits, removal_fits}
use Rattle.sgl_types.specs.declared.declared.AttrName.{AttrName}
use Rattle.sgl_types.specs.declared.declared.AttrName.TheVariants.{Const}
use Rattle.sgl_types.specs.declared.finding.TypeKind.TheVariants.{Twice}
use Rattle.sgl_types.specs.Faults.{operand_faults}
use Rattle.sgl_types.specs.Rules.{fault_if}
use Rattle.sgl_types.specs.Items.{Setting, post_scope, is_in, repeated, assigned_faults, assigned_names, rule_faults, rules_faults, assignments_faults, spawn_faults, removal_faults, post_faults}
use Rattle.sgl_types.specs.Index.{position_from}
use Rattle.sgl_types.specs.Scope.{Scope, attribute_of}
use Rattle.sgl_types.specs.TypedItems.{const_number, typed_rule, typed_rules, spawn_in, typed_spawn, removal_in, typed_removal}
use Rattle.sgl_types.proofs.Matches.{Matches}
use Rattle.sgl_types.proofs.Fits.{neither}
use Rattle.sgl_types.proofs.Fronts.{Fronts, const-position}
use Rattle.sgl_types.proofs.ItemFits.{fails, number-fits, truth-fits}
use Rattle.sgl_types.proofs.Parts.{post-matches}

-- ---- one place, one name

from-low : (b : Bool) (n i : ℕ) (rest : Option ℕ) → (rest ≡ Some i → n + 1 ≤ i) → (if b then Some n else rest) ≡ Some i → n ≤ i
from-low true n i rest h e = let same : n ≡ i = cc in omega arith
from-low false n i rest h e = let le : n + 1 ≤ i = h e in omega arith

pub position_from-low : (n : ℕ) (name : List ℕ) (names : List (List ℕ)) (i : ℕ) → position_from n name names ≡ Some i → n ≤ i
position_from-low n name [] i e = absurd (cc)
position_from-low n name (other ∷ more) i e = from-low (bytes_eq other name) n i (position_from (n + 1) name more) (position_from-low (n + 1) name more i) e

pub above_itself : (n i : ℕ) → n ≡ i → n + 1 ≤ i → ⊥
above_itself n i e le = omega arith

same-at : (b c : Bool) (n i : ℕ) (other name name' : List ℕ) (rest rest' : Option ℕ) → (b ≡ true → other ≡ name) → (c ≡ true → other ≡ name')
    → (rest ≡ Some i → n + 1 ≤ i) → (rest' ≡ Some i → n + 1 ≤ i) → (rest ≡ Some i → rest' ≡ Some i → name ≡ name')
    → (if b then Some n else rest) ≡ Some i → (if c then Some n else rest') ≡ Some i → name ≡ name'
same-at true true n i other name name' rest rest' p q low low' more e f = sym (p refl) ∙ q refl
same-at true false n i other name name' rest rest' p q low low' more e f = absurd (above_itself n i (cc) (low' f))
same-at false true n i other name name' rest rest' p q low low' more e f = absurd (above_itself n i (cc) (low e))
same-at false false n i other name name' rest rest' p q low low' more e f = more e f

same-place : (n : ℕ) (name name' : List ℕ) (names : List (List ℕ)) (i : ℕ) → position_from n name names ≡ Some i → position_from n name' names ≡ Some i → name ≡ name'
same-place n name name' [] i e f = absurd (cc)
same-place n name name' (other ∷ more) i e f =
    same-at (bytes_eq other name) (bytes_eq other name') n i other name name' (position_from (n + 1) name more) (position_from (n + 1) name' more)
    ((bytes_eq-Decides other name).0) ((bytes_eq-Decides other name').0)
    (position_from-low (n + 1) name more i) (position_from-low (n + 1) name' more i) (same-place (n + 1) name name' more i) e f

-- ---- what is in a list that grows

some-if : (b : Bool) (n : ℕ) (rest rest' : Option ℕ) → (is_some rest ≡ true → is_some rest' ≡ true) → is_some (if b then Some n else rest) ≡ true → is_some (if b then Some n else rest') ≡ true
some-if true n rest rest' h e = refl
some-if false n rest rest' h e = h e

still-in : (n : ℕ) (name other : List ℕ) (names : List (List ℕ)) → is_some (position_from n name names) ≡ true → is_some (position_from n name (names ++ other ∷ [])) ≡ true
still-in n name other [] e = absurd (cc)
still-in n name other (x ∷ names) e =
    some-if (bytes_eq x name) n (position_from (n + 1) name names) (position_from (n + 1) name (names ++ other ∷ [])) (still-in (n + 1) name other names) e

here-if : (b : Bool) (n : ℕ) (rest : Option ℕ) → (b ≡ false → is_some rest ≡ true) → is_some (if b then Some n else rest) ≡ true
here-if true n rest h = refl
here-if false n rest h = h refl

now-in : (n : ℕ) (name : List ℕ) (names : List (List ℕ)) → is_some (position_from n name (names ++ name ∷ [])) ≡ true
now-in n name [] = here-if (bytes_eq name name) n None (λ f. absurd (let t : bytes_eq name name ≡ true = (bytes_eq-Decides name name).1 refl in cc))
now-in n name (x ∷ names) = here-if (bytes_eq x name) n (position_from (n + 1) name (names ++ name ∷ [])) (λ f. now-in (n + 1) name names)

-- ---- assignments

assigned-const : (name : AttrName) (place : Place) → assigned_faults name place ≡ [] → name ≡ Const (const_number name)
assigned-const (Const i) place e = refl
assigned-const name place e = absurd (cc)

abbrev stands_for : Scope → Rule → AttrName
stands_for s rule = attribute_of s.all s.earlier rule.attr.text

abbrev number_of : Scope → Rule → ℕ
number_of s rule = const_number (stands_for s rule)

rule-const : (s : Scope) (rule : Rule) → rule_faults s rule ≡ [] → stands_for s rule ≡ Const (number_of s rule)
rule-const s rule none =
    assigned-const (stands_for s rule) rule.attr.place (neither (assigned_faults (stands_for s rule) rule.attr.place) (operand_faults Numeric s rule.value) none).0

-- two rules with one number have one name
one-name : (s : Scope) (a b : Rule) → rule_faults s a ≡ [] → rule_faults s b ≡ [] → number_of s a ≡ number_of s b → a.attr.text ≡ b.attr.text
one-name s a b p q e =
    same-place 0 a.attr.text b.attr.text s.earlier.consts (number_of s a)
    (const-position s.all s.earlier a.attr.text (number_of s a) (rule-const s a p))
    (const-position s.all s.earlier b.attr.text (number_of s b) (rule-const s b q) ∙ ap (λ n. Some n) (sym e))

both_false : (x y : Bool) → x ≡ false → y ≡ false → (x || y) ≡ false
both_false x y p q = λ i. p i || q i

-- a rule whose name stands before others that do not repeat has a number of its own
none-equal : (s : Scope) (rule : Rule) (before : List (List ℕ)) (rules : List Rule) → rule_faults s rule ≡ [] → is_in rule.attr.text before ≡ true
    → repeated before (assigned_names rules) ≡ [] → rules_faults s rules ≡ []
    → list_any (λ m. number_of s rule == m) (map (number_of s) rules) ≡ false
none-equal s rule before [] ok there none fine = refl
none-equal s rule before (other ∷ more) ok there none fine =
    let apart = neither (fault_if (is_in other.attr.text before) Twice other.attr.place) (repeated (before ++ other.attr.text ∷ []) (assigned_names more)) none in
    let each = neither (rule_faults s other) (rules_faults s more) fine in
    let new : is_in other.attr.text before ≡ false = fails (is_in other.attr.text before) Twice other.attr.place apart.0 in
    both_false (number_of s rule == number_of s other) (list_any (λ m. number_of s rule == m) (map (number_of s) more))
    (ne_eqb (number_of s rule) (number_of s other) (λ e. let t : is_in other.attr.text before ≡ true = ap (λ n. is_in n before) (sym (one-name s rule other ok each.0 e)) ∙ there in let no : true ≡ false = sym t ∙ new in cc))
    (none-equal s rule (before ++ other.attr.text ∷ []) more ok (still-in 0 rule.attr.text other.attr.text before there) apart.1 each.1)

numbers-differ : (s : Scope) (before : List (List ℕ)) (rules : List Rule) → repeated before (assigned_names rules) ≡ [] → rules_faults s rules ≡ [] → differ (map (number_of s) rules) ≡ true
numbers-differ s before [] none fine = refl
numbers-differ s before (rule ∷ more) none fine =
    let apart = neither (fault_if (is_in rule.attr.text before) Twice rule.attr.place) (repeated (before ++ rule.attr.text ∷ []) (assigned_names more)) none in
    let each = neither (rule_faults s rule) (rules_faults s more) fine in
    λ i. not (none-equal s rule (before ++ rule.attr.text ∷ []) more each.0 (now-in 0 rule.attr.text before) apart.1 each.1 i)
    && numbers-differ s (before ++ rule.attr.text ∷ []) more apart.1 each.1 i

attrs-of : (s : Scope) (rules : List Rule) → map (λ rule. rule.attr) (map (typed_rule s) rules) ≡ map (number_of s) rules
attrs-of s [] = refl
attrs-of s (rule ∷ more) = ap (λ ns. number_of s rule ∷ ns) (attrs-of s more)

rules-fit : (s : Scope) (schema : Schema) → Matches s (post_body schema) → (rules : List Rule) → rules_faults s rules ≡ []
    → list_all (λ rule. nat_lt rule.attr (length schema.consts) && is_number (formed (post_body schema) rule.value)) (map (typed_rule s) rules) ≡ true
rules-fit s schema m [] fine = refl
rules-fit s schema m (rule ∷ more) fine =
    let each = neither (rule_faults s rule) (rules_faults s more) fine in
    let parts = neither (assigned_faults (stands_for s rule) rule.attr.place) (operand_faults Numeric s rule.value) each.0 in
    λ i. (m.consts rule.attr.text (number_of s rule) (rule-const s rule each.0) i && number-fits s (post_body schema) m rule.value parts.1 i) && rules-fit s schema m more each.1 i

block-fits : (s : Scope) (schema : Schema) → Matches s (post_body schema) → (rules : List Rule) → assignments_faults s rules ≡ [] → rules_fit schema (map (typed_rule s) rules) ≡ true
block-fits s schema m rules none =
    let parts = neither (repeated [] (assigned_names rules)) (rules_faults s rules) none in
    λ i. rules-fit s schema m rules parts.1 i && (ap differ (attrs-of s rules) ∙ numbers-differ s [] rules parts.0 parts.1) i

spawn-fits : (s : Scope) (schema : Schema) → Matches s (post_body schema) → (spawn : Option Spawn) → spawn_faults s spawn ≡ [] → spawn_fits schema (spawn_in s spawn) ≡ true
spawn-fits s schema m None none = refl
spawn-fits s schema m (Some spawn) none =
    let parts = neither (operand_faults Logical s spawn.cond) (assignments_faults s spawn.rules) none in
    λ i. truth-fits s (post_body schema) m spawn.cond parts.0 i && block-fits s schema m spawn.rules parts.1 i

removal-fits : (s : Scope) (schema : Schema) → Matches s (post_body schema) → (removal : Option Expr) → removal_faults s removal ≡ [] → removal_fits schema (removal_in s removal) ≡ true
removal-fits s schema m None none = refl
removal-fits s schema m (Some e) none = truth-fits s (post_body schema) m e none

-- the parts of a `post` fit, each by itself
pub record PostParts (g : Setting) (schema : Schema) (rules : List Rule) (spawn : Option Spawn) (removal : Option Expr) : Type 0 where
  pub rules-fit : rules_fit schema (typed_rules g rules) ≡ true
  pub spawn-fit : spawn_fits schema (typed_spawn g spawn) ≡ true
  pub removal-fit : removal_fits schema (typed_removal g removal) ≡ true

pub post-fits : (g : Setting) (schema : Schema) → Fronts g.earlier g.all → length schema.consts ≡ length g.all.consts → length schema.effects ≡ length g.all.effects
    → (place : Place) (rules : List Rule) (spawn : Option Spawn) (removal : Option Expr) → post_faults g place rules spawn removal ≡ [] → PostParts g schema rules spawn removal
post-fits g schema f long many place rules spawn removal none =
    let s = post_scope g in
    let m = post-matches g schema f long many in
    let twice = fault_if g.earlier.has_post Twice place in
    let three = neither (twice ++ assignments_faults s rules ++ spawn_faults s spawn) (removal_faults s removal) none in
    let two = neither (twice ++ assignments_faults s rules) (spawn_faults s spawn) three.0 in
    let one = neither twice (assignments_faults s rules) two.0 in
    record { rules-fit = block-fits s schema m rules one.1; spawn-fit = spawn-fits s schema m spawn two.1; removal-fit = removal-fits s schema m removal three.1 }
