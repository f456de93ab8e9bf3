-- The broken type rules of an expression.
use Rattle.std.specs.Prelude.{ℕ, suc, ◌||◌, bytes_eq, is_some, Bool, true, false, List, [], ◌++◌, flat_map, Option, Some, None}
use Rattle.sgl_values.specs.declared.place.Place.{Place}
use Rattle.sgl_values.specs.declared.operator.BinOp.{BinOp}
use Rattle.sgl_values.specs.declared.operator.BinOp.TheVariants.{Cmp, And, Or}
use Rattle.sgl_tree.specs.declared.expression.Name.{Name}
use Rattle.sgl_tree.specs.declared.expression.Expr.{Expr, Row_of-Expr, end_of-Expr, more_of-Expr}
use Rattle.sgl_tree.specs.declared.expression.Expr.TheVariants.{Number, Truth, Local as Named, Field, Call', Random, Neg', Not', Binary'}
use Rattle.sgl_typed.specs.declared.script.Kind.{Kind}
use Rattle.sgl_typed.specs.declared.script.Kind.TheVariants.{Numeric, Logical}
use Rattle.sgl_types.specs.declared.bodies.Local.{Local}
use Rattle.sgl_types.specs.declared.bodies.Part.{Part}
use Rattle.sgl_types.specs.declared.bodies.Part.TheVariants.{Statements, Amount, Post}
use Rattle.sgl_types.specs.declared.declared.AttrName.{AttrName}
use Rattle.sgl_types.specs.declared.declared.AttrName.TheVariants.{Later, Unknown}
use Rattle.sgl_types.specs.declared.declared.Callee.{Callee}
use Rattle.sgl_types.specs.declared.declared.Callee.TheVariants.{Known, Later as CalledLater, Unknown as CalledUnknown}
use Rattle.sgl_types.specs.declared.finding.Finding.{Finding}
use Rattle.sgl_types.specs.Rules.{unknown_name, used_before_defined, wrong_count, wants_number, wants_truth, effect_read, literal_range}
use Rattle.sgl_types.specs.Scope.{Scope, find_local, attribute_of, callee_of}
use Rattle.sgl_values.specs.declared.limit.TheConstants.{RANDOM_INDEX_MAX}

-- ---- places and kinds

-- a bracketed expression has the place of its inside
abbrev pub place_of : Expr → Place
place_of (Number value place) = place
place_of (Truth value place) = place
place_of (Named name) = name.place
place_of (Field of attr) = of.place
place_of (Call' name unit shape args) = name.place
place_of (Random place index index_place) = place
place_of (Neg' shape inner place) = place
place_of (Not' shape inner place) = place
place_of (Binary' op shape left shape' right place) = place

abbrev pub kind_or : Kind → Option Local → Kind
kind_or kind None = kind
kind_or kind (Some local) = local.kind

-- in `post` a bare name is an attribute, elsewhere it is a local
abbrev pub name_kind : Part → Option Local → Kind
name_kind Post local = Numeric
name_kind part local = kind_or Numeric local

abbrev pub operand_kind : BinOp → Kind
operand_kind And = Logical
operand_kind Or = Logical
operand_kind op = Numeric

-- a comparison of numbers is a truth
abbrev pub result_kind : BinOp → Kind
result_kind (Cmp op) = Logical
result_kind op = operand_kind op

abbrev pub kind_of : Scope → Expr → Kind
kind_of s (Truth value place) = Logical
kind_of s (Named name) = name_kind s.part (find_local name.text s.locals)
kind_of s (Not' shape inner place) = Logical
kind_of s (Binary' op shape left shape' right place) = result_kind op
kind_of s e = Numeric

-- what an expression of a kind breaks where one of the first kind is wanted
abbrev pub unwanted : Kind → Kind → Place → List Finding
unwanted Numeric kind place = wants_number kind place
unwanted Logical kind place = wants_truth kind place

abbrev pub wants : Kind → Scope → Expr → List Finding
wants kind s e = unwanted kind (kind_of s e) (place_of e)

-- ---- names

-- a name of an attribute that no earlier item declares
abbrev pub undeclared_faults : AttrName → Place → List Finding
undeclared_faults Later place = used_before_defined true place
undeclared_faults Unknown place = unknown_name false place
undeclared_faults name place = []

-- a name of an attribute behind a dot
abbrev pub dotted_faults : AttrName → Place → List Finding
dotted_faults name place = undeclared_faults name place ++ effect_read name place

abbrev pub local_faults : Option Local → Place → List Finding
local_faults local place = unknown_name (is_some local) place

abbrev pub name_faults : Part → AttrName → Option Local → Place → List Finding
name_faults Post attr local place = undeclared_faults attr place
name_faults part attr local place = local_faults local place

-- behind the dot an attribute is wanted, before it the unit, or in an amount the row too
abbrev pub is_row_of : Part → List ℕ → List ℕ → List ℕ → Bool
is_row_of Post unit target name = false
is_row_of Amount unit target name = bytes_eq name unit || bytes_eq name target
is_row_of part unit target name = bytes_eq name unit

abbrev pub is_row : Scope → List ℕ → Bool
is_row s name = is_row_of s.part s.unit s.target name

abbrev pub callee_faults : ℕ → Place → Callee → List Finding
callee_faults args place (Known number params) = wrong_count args params place
callee_faults args place CalledLater = used_before_defined true place
callee_faults args place CalledUnknown = unknown_name false place

-- calls may stand in statements alone
abbrev pub call_faults_in : Part → Callee → ℕ → Place → List Finding
call_faults_in Statements callee args place = callee_faults args place callee
call_faults_in part callee args place = unknown_name false place

abbrev pub call_faults : Scope → Name → ℕ → List Finding
call_faults s name args = call_faults_in s.part (callee_of s.all.aggs s.earlier.aggs name.text) args name.place

abbrev pub row_length : {m : _} → Row_of-Expr m → ℕ
row_length end_of-Expr = 0
row_length (more_of-Expr e rest) = suc (row_length rest)

-- ---- expressions

abbrev mutual
  pub faults : Scope → Expr → List Finding
  faults s (Number value place) = literal_range 1000000000000 value place
  faults s (Truth value place) = []
  faults s (Named name) = name_faults s.part (attribute_of s.all s.earlier name.text) (find_local name.text s.locals) name.place
  faults s (Field of attr) = unknown_name (is_row s of.text) of.place ++ dotted_faults (attribute_of s.all s.earlier attr.text) attr.place
  faults s (Call' name unit shape args) =
      call_faults s name (row_length args) ++ unknown_name (bytes_eq unit.text s.unit) unit.place ++ args_faults s args
  faults s (Random place index index_place) = literal_range RANDOM_INDEX_MAX index index_place
  faults s (Neg' shape (more_of-Expr inner end_of-Expr) place) = faults s inner ++ wants Numeric s inner
  faults s (Not' shape (more_of-Expr inner end_of-Expr) place) = faults s inner ++ wants Logical s inner
  faults s (Binary' op shape (more_of-Expr left end_of-Expr) shape' (more_of-Expr right end_of-Expr) place) =
      (faults s left ++ wants (operand_kind op) s left) ++ (faults s right ++ wants (operand_kind op) s right)

  pub args_faults : {m : _} → Scope → Row_of-Expr m → List Finding
  args_faults s end_of-Expr = []
  args_faults s (more_of-Expr e rest) = (faults s e ++ wants Numeric s e) ++ args_faults s rest

-- those of an expression that stands where one of this kind is wanted
abbrev pub operand_faults : Kind → Scope → Expr → List Finding
operand_faults kind s e = faults s e ++ wants kind s e

-- those of expressions that stand where numbers are wanted
abbrev pub numbers_faults : Scope → List Expr → List Finding
numbers_faults s exprs = flat_map (operand_faults Numeric s) exprs
