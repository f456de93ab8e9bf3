-- `List` as a type through which a recursive type may hold itself: its value is the list of its elements, and it owns,
-- lends and codes what the `Vec` inside it does.
use mathlib.Core.Path.{◌≡◌, refl, sym}
use mathlib.Core.List as lists
use mathlib.Core.Former.{Former, this, list, via, children}
use base.Stored.{code_map}
use denote.RattleType.{RattleType}
use denote.HoleLaws.{Alike}
use denote.HolePlaces.{Recodes, struct_places, laid}
use denote.Hole.Carrier.{listed, list-listed}
use denote.Hole.Fix.{over}
use denote.Param.Weighed.{Weighed, w_list}
use denote.Model.Placed.{view_places}
use Rattle.std.specs.declared.alloc.Global.{Global}
use Rattle.std.specs.contracts.alloc.Global as global
use Rattle.std.specs.contracts.impls.GlobalAllocator.TheImpl as allocator
use Rattle.std.specs.formers.vec.Vec as vec
use Rattle.sgl_values.specs.declared.list.List.TheInside.{Inside}
use Rattle.sgl_values.specs.declared.list.List.TheView as shown
use Rattle.sgl_values.specs.contracts.list.List as outer
use Rattle.sgl_values.specs.contracts.list.List.TheInside as inner

abbrev pub the_former : Former {0} → Former {0}
the_former element = list element

abbrev pub the_weighed : {element : Former {0}} → Weighed element → Weighed (the_former element)
the_weighed weighed = w_list weighed

pub the_empty : lists.List ⊥
the_empty = lists.[]

abbrev pub the_items : (X : Type 0) → lists.List X → lists.List X
the_items X xs = xs

pub the_items_listed : (X : Type 0) (xs : lists.List X) → listed _ (children (the_former this) X xs) ≡ the_items X xs
the_items_listed X xs = list-listed X xs

-- the one field of the struct, a `Vec`
abbrev stored : Former {0}
stored = via (vec.the_former this Global) Inside (λ X it. it.items) (λ X items. record { items = items }) (λ X it. refl) (λ X items. refl)

module _ (A B : RattleType) (h : A.Denot → B.Denot) where
  same_fields : Alike A B h → Alike (inner.the_row A) (inner.the_row B) (stored.map A.Denot B.Denot h)
  same_fields alike = struct_places (inner.the_type A) (inner.the_type B) (vec.mapped h, tt) _ (λ it. refl) refl
      (laid _ _ _ (vec.the_places global.the_row allocator.ghosts A B h alike), tt)

  pub the_places : Alike A B h → Alike (outer.the_row A) (outer.the_row B) ((the_former this).map A.Denot B.Denot h)
  the_places alike = view_places stored (list this) shown.view (λ X Y k it. refl) (λ X it. refl)
      A.Denot B.Denot h (outer.the_row A).coded (outer.the_row B).coded (shown.invariant A.Denot) (shown.invariant B.Denot)
      (λ it p q. refl) (λ it p q. refl) (λ it held. tt) (λ it held. tt)
      (over (inner.the_row A)) (over (inner.the_row B)) (same_fields alike)

  pub the_codes_placed : Recodes A B h → Recodes (outer.the_row A) (outer.the_row B) ((the_former this).map A.Denot B.Denot h)
  the_codes_placed recoded xs = sym (code_map A.coded.code B.coded.code h (λ x. sym (recoded x)) xs)
