-- `Boxed` as a type through which a recursive type may hold itself: its value is what it holds, and it owns, lends and
-- codes what the `Box` inside it does.
use mathlib.Core.Path.{refl}
use mathlib.Core.Former.{Former, this, const, pair, via}
use base.Stored.{gnil}
use base.Fml.{ftrue}
use denote.Memory.{part_of}
use denote.RawPtr.{Ptr}
use denote.RattleType.{RattleType}
use denote.Sharing.{nothing}
use denote.HoleLaws.{Alike}
use denote.HolePlaces.{Recodes, struct_places, laid, one_value}
use denote.Hole.Fix.{over}
use denote.Param.Weighed.{Weighed}
use denote.Model.Placed.{view_places}
use Rattle.std.specs.declared.boxed.Box.{Box}
use Rattle.std.specs.contracts.boxed.Box as box
use Rattle.std.specs.declared.alloc.Global.{Global}
use Rattle.std.specs.contracts.alloc.Global as global
use Rattle.std.specs.contracts.impls.GlobalAllocator.TheImpl as allocator
use Rattle.sgl_values.specs.declared.boxed.Boxed.TheInside.{Inside}
use Rattle.sgl_values.specs.declared.boxed.Boxed.TheView as shown
use Rattle.sgl_values.specs.contracts.boxed.Boxed as outer
use Rattle.sgl_values.specs.contracts.boxed.Boxed.TheInside as inner

abbrev pub the_former : Former {0} → Former {0}
the_former element = element

abbrev pub the_weighed : {element : Former {0}} → Weighed element → Weighed (the_former element)
the_weighed weighed = weighed

-- a `Box` of std over a type
abbrev std_box : RattleType → RattleType
std_box A = box.the_row A global.the_row allocator.ghosts

-- the same `Box` with another value
abbrev holding : {X Y : Type 0} → Box X Global → Y → Box Y Global
holding b y = record { ptr = b.ptr; alloc = b.alloc; value = y }

-- the one field of the struct: where it lies, its allocator, and the value
abbrev stored : Former {0}
stored = via (pair (const (Ptr × Global)) this) Inside
    (λ X it. ((it.inner.ptr, it.inner.alloc), it.inner.value))
    (λ X parts. record { inner = record { ptr = parts.0.0; alloc = parts.0.1; value = parts.1 } })
    (λ X it. refl) (λ X parts. refl)

module _ (A B : RattleType) (h : A.Denot → B.Denot) where
  -- a `Box` owns and lends as its value does
  same_box : Alike A B h → Alike (std_box A) (std_box B) (λ b. holding b (h b.value))
  unfolding part_of
  same_box alike = record {
    mir_same = λ i. (std_box (one_value A (alike.mir_same i) (λ _. ftrue) (λ _ _. nothing) gnil)).mir;
    own_same = λ b i. (std_box (one_value A (alike.mir_same i) (alike.own_same b.value i) (alike.shr_same b.value i) gnil)).own_val (holding b tt);
    shr_same = λ b i. (std_box (one_value A (alike.mir_same i) (alike.own_same b.value i) (alike.shr_same b.value i) gnil)).shr_at (holding b tt);
  }

  same_fields : Alike A B h → Alike (inner.the_row A) (inner.the_row B) (stored.map A.Denot B.Denot h)
  same_fields alike = struct_places (inner.the_type A) (inner.the_type B) ((λ b. holding b (h b.value)), tt) _ (λ it. refl) refl
      (laid _ _ _ (same_box alike), tt)

  pub the_places : Alike A B h → Alike (outer.the_row A) (outer.the_row B) ((the_former this).map A.Denot B.Denot h)
  the_places alike = view_places stored this shown.view (λ X Y k it. refl) (λ X it. refl)
      A.Denot B.Denot h (outer.the_row A).coded (outer.the_row B).coded (shown.invariant A.Denot) (shown.invariant B.Denot)
      (λ it p q. refl) (λ it p q. refl) (λ it held. tt) (λ it held. tt)
      (over (inner.the_row A)) (over (inner.the_row B)) (same_fields alike)

  pub the_codes_placed : Recodes A B h → Recodes (outer.the_row A) (outer.the_row B) ((the_former this).map A.Denot B.Denot h)
  the_codes_placed recoded value = recoded value
