-- The type rules, each by its kind. A rule is told what stands at a place, and gives the fault of that place or none.
-- Where each rule is asked is said by `Faults`, `Statements` and `Items`.
use Rattle.std.specs.Prelude.{ℕ, ◌==◌, nat_le, Bool, true, false, List, [], ◌∷◌, Option, Some, None}
use Rattle.sgl_values.specs.declared.fault.Tag.{Tag}
use Rattle.sgl_values.specs.declared.fault.Tag.TheVariants.{Top}
use Rattle.sgl_values.specs.declared.operator.FoldKind.{FoldKind}
use Rattle.sgl_values.specs.declared.operator.FoldKind.TheVariants.{Count, Sum}
use Rattle.sgl_values.specs.declared.place.Place.{Place}
use Rattle.sgl_typed.specs.declared.script.Kind.{Kind}
use Rattle.sgl_typed.specs.declared.script.Kind.TheVariants.{Numeric, Logical}
use Rattle.sgl_types.specs.declared.declared.AttrName.{AttrName}
use Rattle.sgl_types.specs.declared.declared.AttrName.TheVariants.{Key, Const, Effect}
use Rattle.sgl_types.specs.declared.finding.Finding.{Finding}
use Rattle.sgl_types.specs.declared.finding.TypeKind.{TypeKind}
use Rattle.sgl_types.specs.declared.finding.TypeKind.TheVariants.{UnknownName, UsedBeforeDefined, Twice, WrongCount, WantsNumber, WantsTruth, EffectRead, ConstWritten, NotConstTarget, NoMain, TwoMains, ElseMissing, ElseUnwanted, LiteralRange, TooMany, ByMissing, ByUnwanted}
use Rattle.sgl_types.specs.Findings.{finding}

abbrev pub fault_if : Bool → TypeKind → Place → List Finding
fault_if false kind place = []
fault_if true kind place = finding kind place ∷ []

abbrev pub fault_unless : Bool → TypeKind → Place → List Finding
fault_unless true kind place = []
fault_unless false kind place = finding kind place ∷ []

-- 1. at a name that may not stand there, and is no later declaration of the right sort
abbrev pub unknown_name : Bool → Place → List Finding
unknown_name may_stand place = fault_unless may_stand UnknownName place

-- 2. at the name of an attribute or of a definition of the right sort that is declared only in this item or a later one
abbrev pub used_before_defined : Bool → Place → List Finding
used_before_defined is_later place = fault_if is_later UsedBeforeDefined place

-- 3. at a name that is taken: an attribute named as an earlier one or `key`, a definition named as an earlier one, a
-- parameter, scanned row or let named as a local name in scope, an attribute assigned before among the rules of `post` or
-- among those of `spawn when`; and at a second `post`
abbrev pub twice : Bool → Place → List Finding
twice is_taken place = fault_if is_taken Twice place

-- 4. at the name called, where the arguments behind the unit are not as many as the parameters behind the unit
abbrev pub wrong_count : ℕ → ℕ → Place → List Finding
wrong_count args params place = fault_unless (args == params) WrongCount place

-- 5. at a truth that stands where a number is wanted
abbrev pub wants_number : Kind → Place → List Finding
wants_number Numeric place = []
wants_number Logical place = finding WantsNumber place ∷ []

-- 6. at a number that stands where a truth is wanted
abbrev pub wants_truth : Kind → Place → List Finding
wants_truth Numeric place = finding WantsTruth place ∷ []
wants_truth Logical place = []

-- 7. at an effect attribute behind a dot
abbrev pub effect_read : AttrName → Place → List Finding
effect_read (Effect i) place = finding EffectRead place ∷ []
effect_read name place = []

-- 8. at a const attribute or `key` left of `<-`
abbrev pub const_written : AttrName → Place → List Finding
const_written Key place = finding ConstWritten place ∷ []
const_written (Const i) place = finding ConstWritten place ∷ []
const_written name place = []

-- 9. at an effect attribute or `key` left of `=` in `post`
abbrev pub not_const_target : AttrName → Place → List Finding
not_const_target Key place = finding NotConstTarget place ∷ []
not_const_target (Effect i) place = finding NotConstTarget place ∷ []
not_const_target name place = []

-- 10. at the end of the text, where there is no `main`
abbrev pub no_main : Bool → Place → List Finding
no_main has_main end = fault_unless has_main NoMain end

-- 11. at a `main` behind another
abbrev pub two_mains : Bool → Place → List Finding
two_mains is_second place = fault_if is_second TwoMains place

-- an extreme of no row, or its key, is what stands behind `else`
abbrev pub has_else : FoldKind → Bool
has_else Count = false
has_else Sum = false
has_else kind = true

-- 12. at the word of a `min`, `max`, `lowest`, `highest` or `nearest` without `else`
abbrev pub else_missing : FoldKind → Place → List Finding
else_missing kind word = fault_if (has_else kind) ElseMissing word

-- 13. at the `else` of a `count` or `sum`
abbrev pub else_unwanted : FoldKind → Place → List Finding
else_unwanted kind place = fault_unless (has_else kind) ElseUnwanted place

-- 14. at a number above the greatest that may stand there: 10^12, or 65,535 in `random`
abbrev pub literal_range : ℕ → ℕ → Place → List Finding
literal_range most value place = fault_unless (nat_le value most) LiteralRange place

-- 15. at the name, or the word `on`, of one more than may be: behind 32 const attributes, 16 effect attributes,
-- 64 aggregates, 64 clauses of the script, or 16 parameters behind the unit of one definition
abbrev pub too_many : Bool → Place → List Finding
too_many is_full place = fault_if is_full TooMany place

-- amounts for such an attribute have a priority
abbrev pub has_priority : Tag → Bool
has_priority Top = true
has_priority tag = false

-- 16. at a `top` attribute left of `<-` that is written without `by`
abbrev pub by_missing : Option Tag → Place → List Finding
by_missing None place = []
by_missing (Some tag) place = fault_if (has_priority tag) ByMissing place

-- 17. at the word `by` where a `sum`, `min` or `max` attribute is written
abbrev pub by_unwanted : Option Tag → Place → List Finding
by_unwanted None word = []
by_unwanted (Some tag) word = fault_unless (has_priority tag) ByUnwanted word
