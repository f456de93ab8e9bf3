-- The answer of `post` as that of a tick, and the words that it is made of.
use Rattle.std.specs.Prelude.{ℕ, ◌<◌, List, map, length, Result, Ok, Err}
use Rattle.sgl_values.specs.Cells.{amounts}
use Rattle.sgl_values.specs.World.{World}
use Rattle.sgl_values.specs.declared.fault.Tag.{Tag}
use Rattle.sgl_values.specs.declared.item.Item.{Item}
use Rattle.sgl_typed.specs.declared.schema.EffectAttr.{EffectAttr}
use Rattle.sgl_typed.specs.declared.tick_fault.TickFault.{TickFault}
use Rattle.env_table.specs.Table.{Table}
use Rattle.effect_combine.specs.Combined.{CellWords, tag_at, word_at}
use Rattle.effect_combine.specs.Standing.{StandsFor}
use Rattle.tick_postprocess.specs.declared.fault.PostFault.{PostFault}
use Rattle.tick_postprocess.specs.declared.fault.PostFault.TheVariants.{Cell, Script, KeysSpent, UnitsFull}

-- the tags of the effect attributes
abbrev pub tags_of : List EffectAttr → List Tag
tags_of = map (λ effect. effect.tag)

-- the word of each cell stands for its amounts among the items
pub record AreWords (effects : List EffectAttr) (table : CellWords) (items : List Item) : Type 0 where
  pub stand : (row attr : ℕ) → row < table.rows → attr < length effects → StandsFor (tag_at (tags_of effects) attr) (word_at table row attr) (amounts items row attr)

-- a refusal as that of a tick
abbrev pub told : PostFault → TickFault
told (Cell key attr) = TickFault.Cell key attr
told (Script key fault) = TickFault.Post key fault
told (KeysSpent last children) = TickFault.KeysSpent last children
told (UnitsFull units) = TickFault.UnitsFull units

-- an answer as that of a tick
abbrev pub answered : Result Table PostFault → Result World TickFault
answered (Ok table) = Ok table.world
answered (Err fault) = Err (told fault)
