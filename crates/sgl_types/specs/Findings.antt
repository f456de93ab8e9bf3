-- What breaks a type rule, and which of it comes first.
use Rattle.std.specs.Prelude.{ℕ, ◌≡◌, ◌==◌, ◌&&◌, ◌||◌, nat_lt, Bool, false, List, [], ◌∷◌, Option, Some, None, ◌⊎◌, if◌then◌else◌}
use Rattle.sgl_values.specs.declared.place.Place.{Place}
use Rattle.sgl_types.specs.declared.finding.TypeKind.{TypeKind}
use Rattle.sgl_types.specs.declared.finding.TypeKind.TheVariants.{UnknownName, UsedBeforeDefined, Twice, WrongCount, WantsNumber, WantsTruth, EffectRead, ConstWritten, NotConstTarget, NoMain, TwoMains, ElseMissing, ElseUnwanted, LiteralRange, TooMany, ByMissing, ByUnwanted}
use Rattle.sgl_types.specs.declared.finding.Finding.{Finding}

abbrev pub finding : TypeKind → Place → Finding
finding kind place = record { kind = kind; place = place }

abbrev pub kind_number : TypeKind → ℕ
kind_number UnknownName = 0
kind_number UsedBeforeDefined = 1
kind_number Twice = 2
kind_number WrongCount = 3
kind_number WantsNumber = 4
kind_number WantsTruth = 5
kind_number EffectRead = 6
kind_number ConstWritten = 7
kind_number NotConstTarget = 8
kind_number NoMain = 9
kind_number TwoMains = 10
kind_number ElseMissing = 11
kind_number ElseUnwanted = 12
kind_number LiteralRange = 13
kind_number TooMany = 14
kind_number ByMissing = 15
kind_number ByUnwanted = 16

-- by line, then by column, then by kind
abbrev pub is_before : Finding → Finding → Bool
is_before f g =
    nat_lt f.place.line g.place.line
    || ((f.place.line == g.place.line)
    && (nat_lt f.place.col g.place.col
    || ((f.place.col == g.place.col) && nat_lt (kind_number f.kind) (kind_number g.kind))))

abbrev pub earlier : Option Finding → Finding → Finding
earlier None f = f
earlier (Some g) f = if is_before f g then f else g

-- the first of what was found before and of these
abbrev pub noted : Option Finding → List Finding → Option Finding
noted first [] = first
noted first (f ∷ fs) = noted (Some (earlier first f)) fs

abbrev pub IsOneOf : Finding → List Finding → Type 0
IsOneOf f [] = ⊥
IsOneOf f (g ∷ gs) = (f ≡ g) ⊎ IsOneOf f gs

abbrev pub NoneBefore : Finding → List Finding → Type 0
NoneBefore f [] = Unit {0}
NoneBefore f (g ∷ gs) = (is_before g f ≡ false) × NoneBefore f gs

-- one of these, and none of these stands before it
pub record IsFirst (f : Finding) (fs : List Finding) : Type 0 where
  pub among : IsOneOf f fs
  pub first : NoneBefore f fs
