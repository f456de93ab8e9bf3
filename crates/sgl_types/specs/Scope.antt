-- What the names of a body stand for.
use Rattle.std.specs.Prelude.{ℕ, ◌+◌, ◌||◌, bytes_eq, Bool, List, [], ◌∷◌, Option, Some, None, is_some, if◌then◌else◌}
use Rattle.sgl_types.specs.declared.bodies.Body.{Body}
use Rattle.sgl_types.specs.declared.declared.Declared.{Declared}
use Rattle.sgl_types.specs.declared.declared.Definition.{Definition}
use Rattle.sgl_types.specs.declared.bodies.Local.{Local}
use Rattle.sgl_types.specs.declared.bodies.Part.{Part}
use Rattle.sgl_types.specs.declared.bodies.Site.{Site}
use Rattle.sgl_types.specs.declared.declared.AttrName.{AttrName}
use Rattle.sgl_types.specs.declared.declared.AttrName.TheVariants.{Key, Const, Effect, Later, Unknown}
use Rattle.sgl_types.specs.declared.declared.Callee.{Callee}
use Rattle.sgl_types.specs.declared.declared.Callee.TheVariants.{Known, Later as CalledLater, Unknown as CalledUnknown}
use Rattle.sgl_types.specs.Index.{position}

-- Where expressions stand: what the script declares, what the items before this one declare, the names of the unit and of
-- the scanned row, and the parameters and lets in scope.
pub record Scope : Type 0 where
  pub all : Declared
  pub earlier : Declared
  pub part : Part
  pub unit : List ℕ
  pub target : List ℕ
  pub locals : List Local

abbrev pub find_local : List ℕ → List Local → Option Local
find_local name [] = None
find_local name (local ∷ more) = if bytes_eq local.name name then Some local else find_local name more

abbrev pub is_key : List ℕ → Bool
is_key name = bytes_eq name (107 ∷ 101 ∷ 121 ∷ [])

abbrev pub const_or : AttrName → Option ℕ → AttrName
const_or other None = other
const_or other (Some i) = Const i

abbrev pub effect_or : AttrName → Option ℕ → AttrName
effect_or other None = other
effect_or other (Some i) = Effect i

abbrev pub declares_attribute : Declared → List ℕ → Bool
declares_attribute d name = is_some (position name d.consts) || is_some (position name d.effects)

-- an attribute of an earlier item, or of this or a later one, or of none
abbrev pub attribute_of : Declared → Declared → List ℕ → AttrName
attribute_of all earlier name =
    if is_key name then Key else
    const_or (effect_or (if declares_attribute all name then Later else Unknown) (position name earlier.effects)) (position name earlier.consts)

-- the number of a definition of this name, the first of which has this one, and the number of its parameters
abbrev pub definition_from : ℕ → List ℕ → List Definition → Option (ℕ × ℕ)
definition_from number name [] = None
definition_from number name (d ∷ more) = if bytes_eq d.name name then Some (number, d.params) else definition_from (number + 1) name more

abbrev pub definition_of : List ℕ → List Definition → Option (ℕ × ℕ)
definition_of = definition_from 0

-- a definition of any sort has this name
abbrev pub defines : Declared → List ℕ → Bool
defines d name = is_some (definition_of name d.aggs) || (is_some (definition_of name d.actions) || is_some (definition_of name d.routines))

-- an action or a routine has this name
abbrev pub may_be_performed : Declared → List ℕ → Bool
may_be_performed d name = is_some (definition_of name d.actions) || is_some (definition_of name d.routines)

abbrev pub known_or : Callee → Option (ℕ × ℕ) → Callee
known_or other None = other
known_or other (Some p) = Known p.0 p.1

abbrev pub callee_of : List Definition → List Definition → List ℕ → Callee
callee_of all earlier name =
    known_or (if is_some (definition_of name all) then CalledLater else CalledUnknown) (definition_of name earlier)

abbrev pub scope_of : Body → List Local → Scope
scope_of body locals = record {
  all = body.all.now;
  earlier = body.earlier.now;
  part = body.part;
  unit = body.unit.now;
  target = body.target.now;
  locals = locals;
}

abbrev pub scope_at : Site → Scope
scope_at site = scope_of site.body.now site.locals.now
