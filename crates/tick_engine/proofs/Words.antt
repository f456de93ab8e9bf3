-- The words of cells, and refusals by another name.
use Rattle.std.proofs.Common.{◌≡◌, ◌<◌, ◌≤◌, ℕ, List, Result, Err, length, sym, subst}
use Rattle.std.proofs.lemmas.List.{length-map}
use Rattle.effect_combine.specs.Combined.{CellWords, Combines}
use Rattle.effect_combine.specs.Laws.{CombinedWordsStand}
use Rattle.sgl_values.specs.World.{World}
use Rattle.sgl_values.specs.declared.fault.Tag.{Tag}
use Rattle.sgl_values.specs.declared.item.Item.{Item}
use Rattle.sgl_typed.specs.declared.schema.EffectAttr.{EffectAttr}
use Rattle.sgl_typed.specs.declared.tick_fault.TickFault.{TickFault}
use Rattle.tick_postprocess.specs.Answer.{AreWords, tags_of}

-- the words of the items stand for them
pub words_stand : CombinedWordsStand → (rows : ℕ) (effects : List EffectAttr) (tags : List Tag) (items : List Item) (table : CellWords) → tags ≡ tags_of effects
    → Combines rows tags items table → length items ≤ 8000000 → AreWords effects table items
words_stand law rows effects tags items table is combines few = record {
  stand = λ row attr inside narrow.
      let given : Combines rows (tags_of effects) items table = subst (λ (ts : List Tag). Combines rows ts items table) is combines in
      law rows (tags_of effects) items table given few row attr (subst (λ n. row < n) given.rows_are inside)
      (subst (λ n. attr < n) (sym (length-map effects (λ effect. effect.tag))) narrow);
}

-- a refusal by another name
pub refused_so : (told : Result World TickFault) (fault same : TickFault) → Err fault ≡ told → same ≡ fault → told ≡ Err same
refused_so told fault same is named = cc
