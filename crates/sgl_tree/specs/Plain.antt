-- What every script has that a text spells.
use Rattle.std.specs.Prelude.{◌≡◌, Bool, true, length, nat_le, nat_lt}
use Rattle.std.specs.List.{list_all}
use Rattle.sgl_tree.specs.declared.item.Item.{Item}
use Rattle.sgl_tree.specs.declared.item.Item.TheVariants.{Attr, Action}
use Rattle.sgl_tree.specs.declared.item.Script.{Script}
use Rattle.sgl_values.specs.declared.limit.TheConstants.{NAME_BYTES_MAX}

-- a name of at most 31 bytes, where this is an attribute
abbrev pub has_short_name : Item → Bool
has_short_name (Attr name tag init) = nat_le (length name.text) NAME_BYTES_MAX
has_short_name item = true

-- one `on` clause or more, where this is an action
abbrev pub has_clause : Item → Bool
has_clause (Action name params ons) = nat_lt 0 (length ons)
has_clause item = true

-- each attribute has a name of at most 31 bytes, as a token has
abbrev pub HasShortNames : Script → Type 0
HasShortNames script = list_all has_short_name script.items ≡ true

-- each action has a clause, as the grammar asks
abbrev pub HasClauses : Script → Type 0
HasClauses script = list_all has_clause script.items ≡ true
