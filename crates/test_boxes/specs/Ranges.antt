-- The range tests of an attribute, as a span of values.
use Rattle.std.specs.Prelude.{◌≡◌, ℤ, ◌&&◌, Bool, true, List, Option, if◌then◌else◌}
use Rattle.std.specs.List.{list_all}
use Rattle.sgl_values.specs.Range.{in_range, is_between}
use Rattle.sgl_typed.specs.declared.script.Attr.{Attr}
use Rattle.sgl_typed.specs.declared.script.TTest.{TTest}
use Rattle.sgl_typed.specs.declared.script.TTest.TheVariants.{Compare, Within}
use Rattle.sgl_typed.specs.Value.{compares}
use Rattle.battle_algebra.specs.Ways.{is_along}
use Rattle.test_boxes.specs.declared.span.Span.{Span}

-- whether a number passes a comparison, given its right side; a circle compares no number
abbrev pub meets_number : TTest → ℤ → ℤ → Bool
meets_number (Compare attr op right) v z = compares op v z
meets_number (Within x y radius) v z = true

-- a number passes the test, where that is a range test of the attribute
abbrev pub meets_along : Option Attr → (TTest → ℤ) → ℤ → TTest → Bool
meets_along axis right v test = if is_along axis test then meets_number test v (right test) else true

-- a number passes each range test of the attribute
abbrev pub passes_along : Option Attr → (TTest → ℤ) → List TTest → ℤ → Bool
passes_along axis right tests v = list_all (meets_along axis right v) tests

-- the numbers from the low one to the high one, both included; none, where the low one is above the high one
abbrev pub holds : Span → ℤ → Bool
holds span v = is_between span.low span.high v

-- of the values of the language, the span holds those that pass the range tests of the attribute
abbrev pub IsSpan : Span → Option Attr → (TTest → ℤ) → List TTest → Type 0
IsSpan span axis right tests = (v : ℤ) → holds span v ≡ (in_range v && passes_along axis right tests v)
