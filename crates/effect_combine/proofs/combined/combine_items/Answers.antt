-- The words stand for the items so far.
use Rattle.std.proofs.Common.{◌≡◌, ◌∙◌, ◌+◌, ◌<◌, ◌++◌, ◌∷◌, [], List, length, take, sym, ap, subst, arith}
use Rattle.std.proofs.lemmas.List.{take_more}
use Rattle.std.proofs.lemmas.List.Elements.{All-get_or}
use Rattle.sgl_values.specs.declared.fault.Tag.{Tag}
use Rattle.sgl_values.specs.declared.item.Item.{Item}
use Rattle.effect_combine.specs.Combined.{IsWithin, with_item}
use Rattle.effect_combine.proofs.Grids.{Stand, starts-stand, stand-item, IsWithin-placed}
use Rattle.effect_combine.proofs.combined.combine_items.Goals as goal

pub loop-item-init : goal.loop-item-init
loop-item-init c = starts-stand c.args.rows c.as_slice-tags.result.now c.in_ok-words.words.items c.in_ok-words.ensures

pub take_item-requires : goal.take_item-requires
take_item-requires c =
    let tags = c.as_slice-tags.result.now in
    let i = c.loop-item.item-index in
    let inside : i < length c.args.items.now = omega arith in
    let here = All-get_or (IsWithin c.args.rows (length c.args.tags.now)) c.args.items.now i c.item-item.result inside c.requires.within in
    let within : IsWithin c.args.rows (length tags) c.item-item.result =
    subst (λ (l : List Tag). IsWithin c.args.rows (length l) c.item-item.result) (sym c.as_slice-tags.ensures)
    (subst (IsWithin c.args.rows (length c.args.tags.now)) (sym c.item-item.is) here) in
    IsWithin-placed c.args.rows (length tags) (length c.loop-item.words.items) c.item-item.result within c.requires.few
    (omega (arith, ap length c.as_slice-tags.ensures, c.requires.narrow)) c.loop-item.invariant.full

pub loop-item-preserved : goal.loop-item-preserved
loop-item-preserved c =
    let tags = c.as_slice-tags.result.now in
    let i = c.loop-item.item-index in
    let items = c.args.items.now in
    let item = c.item-item.result in
    let inside : i < length items = omega arith in
    let here = All-get_or (IsWithin c.args.rows (length c.args.tags.now)) items i item inside c.requires.within in
    let within : IsWithin c.args.rows (length tags) item =
    subst (λ (l : List Tag). IsWithin c.args.rows (length l) item) (sym c.as_slice-tags.ensures)
    (subst (IsWithin c.args.rows (length c.args.tags.now)) (sym c.item-item.is) here) in
    let grown = stand-item c.args.rows tags (take i items) c.loop-item.words.items item within c.take_item.ensures.number c.loop-item.invariant in
    let more : take (i + 1) items ≡ take i items ++ item ∷ [] = take_more items i item inside ∙ ap (λ (x : Item). take i items ++ x ∷ []) (sym c.item-item.is) in
    subst (Stand c.args.rows tags (take (i + 1) items)) (sym c.take_item.ensures.words)
    (subst (λ (l : List Item). Stand c.args.rows tags l (with_item tags c.loop-item.words.items item)) (sym more) grown)
