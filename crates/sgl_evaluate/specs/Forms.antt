-- Right sides that an attribute of the acting unit decides.
use Rattle.std.specs.Prelude.{◌≡◌, ℕ, ℤ, pos, ◌<◌, ◌≤◌, ◌&&◌, Bool, true, false, All, List, length, take, slice_get, slice_index_or, Option, None, Some}
use Rattle.sgl_values.specs.World.{Row}
use Rattle.sgl_values.specs.declared.operator.BinOp.{BinOp}
use Rattle.sgl_values.specs.declared.operator.BinOp.TheVariants.{Add, Sub, Mul}
use Rattle.sgl_values.specs.declared.fault.Val.{Val}
use Rattle.sgl_values.specs.declared.fault.Val.TheVariants.{N}
use Rattle.sgl_typed.specs.declared.script.Attr.TheVariants.{Const}
use Rattle.sgl_typed.specs.declared.script.TExpr.{TExpr, end_of-TExpr, more_of-TExpr}
use Rattle.sgl_typed.specs.declared.script.TExpr.TheVariants.{Number as Literal, Slot, Unit as Acting, Binary'}
use Rattle.sgl_typed.specs.declared.script.TTest.{TTest}
use Rattle.sgl_typed.specs.Aggregate.{right_side, simple_value}
use Rattle.sgl_typed.specs.Value.{Context, attribute, operated}
use Rattle.sgl_evaluate.specs.declared.forms.Form.{Form}
use Rattle.sgl_evaluate.specs.declared.forms.Form.TheVariants.{Number, Unit, Sum, Shifted}
use Rattle.sgl_evaluate.specs.declared.forms.Recent.{Recent}
use Rattle.sgl_evaluate.specs.declared.forms.RightForms.{RightForms}
use Rattle.sgl_evaluate.specs.declared.rights.Rights.{Rights}
use Rattle.sgl_evaluate.specs.Rights.{AreRights, first_fault_of}
use Rattle.sgl_values.specs.declared.limit.TheConstants.{TESTS_MAX}

-- the value of a form for an acting unit
abbrev pub form_value : Form → Row → Val
form_value (Number z) unit = N z
form_value (Unit attr) unit = N (attribute attr unit)
form_value (Sum attr z place) unit = operated Add place (N (attribute (Const attr) unit)) (N z)
form_value (Shifted attr op z place) unit = operated op place (N (attribute attr unit)) (N z)

-- it is the value of that attribute of the acting unit
abbrev pub IsRecent : Recent → Row → Type 0
IsRecent recent unit = recent.value ≡ attribute (Const recent.attr) unit

-- where an argument is written as a number, its slot holds that number
abbrev pub HaveLiterals : List TExpr → List Val → Type 0
HaveLiterals args slots = (k : ℕ) (z : ℤ) → slice_get args k ≡ Some (Literal z) → slice_index_or slots k (N (pos 0)) ≡ N z

-- whatever the arguments are that are not written as numbers, the expression has the value of the form
abbrev pub IsFormOf : Form → List TExpr → TExpr → Type 0
IsFormOf form args expr = (c : Context) → HaveLiterals args c.slots → simple_value c expr ≡ form_value form c.unit

-- the same with a number in place of the form
abbrev pub IsNumberOf : ℤ → List TExpr → TExpr → Type 0
IsNumberOf z args expr = (c : Context) → HaveLiterals args c.slots → simple_value c expr ≡ N z

-- an expression is there, and is written as a number
abbrev pub is_number : Option TExpr → Bool
is_number (Some (Literal z)) = true
is_number other = false

-- an expression is a number, by itself or as an argument
abbrev pub is_literal : List TExpr → TExpr → Bool
is_literal args (Slot slot) = is_number (slice_get args slot)
is_literal args other = is_number (Some other)

-- an expression is an attribute of the acting unit
abbrev pub is_acting : TExpr → Bool
is_acting (Acting attr) = true
is_acting other = false

-- an expression has a form: a number, an attribute of the acting unit, or an operation on an attribute and a number
abbrev pub has_form : List TExpr → TExpr → Bool
has_form args (Acting attr) = true
has_form args (Binary' op shape (more_of-TExpr left end_of-TExpr) shape' (more_of-TExpr right end_of-TExpr) place) = is_acting left && is_literal args right
has_form args other = is_literal args other

-- these are at most sixteen tests, whose right sides have forms
pub record HaveForms (args : List TExpr) (tests : List TTest) : Type 0 where
  pub few : length tests ≤ TESTS_MAX
  pub each : All (λ test. has_form args (right_side test) ≡ true) tests

-- an operation gives a number at once: it is a sum, a difference or a product, and that is in the range
abbrev pub is_reached : Val → Bool
is_reached (N z) = true
is_reached other = false

abbrev pub at_once : BinOp → Val → Bool
at_once Add v = is_reached v
at_once Sub v = is_reached v
at_once Mul v = is_reached v
at_once op v = false

-- a form gives a number at once for an acting unit
abbrev pub gives_at_once : Row → Form → Bool
gives_at_once unit (Number z) = true
gives_at_once unit (Unit attr) = true
gives_at_once unit (Sum attr z place) = at_once Add (form_value (Sum attr z place) unit)
gives_at_once unit (Shifted attr op z place) = at_once op (form_value (Shifted attr op z place) unit)

-- so do all these
abbrev pub GiveAtOnce : RightForms → Row → Type 0
GiveAtOnce forms unit = All (λ form. gives_at_once unit form ≡ true) (take forms.count forms.forms)

-- these are the forms of the right sides of at most sixteen tests
pub record AreFormsOf (forms : RightForms) (args : List TExpr) (tests : List TTest) : Type 0 where
  pub all : forms.count ≡ length tests
  pub few : forms.count ≤ TESTS_MAX
  pub each : (i : ℕ) (d : Form) (e : TTest) → i < length tests → IsFormOf (slice_index_or forms.forms i d) args (right_side (slice_index_or tests i e))

-- these are the right sides of the tests, of which none has a fault
pub record AreSound (c : Context) (tests : List TTest) (rights : Rights) : Type 0 where
  pub rights_are : AreRights c tests rights
  pub whole : first_fault_of c tests ≡ None

-- they are the forms for some arguments, and the slots are those of the arguments that are written as numbers
pub record FitSlots (forms : RightForms) (slots : List Val) (tests : List TTest) : Type 0 where
  pub args : List TExpr
  pub are : AreFormsOf forms args tests
  pub literals : HaveLiterals args slots
