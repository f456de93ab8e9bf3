-- A task at its end.
use Rattle.std.proofs.Common.{◌≡◌, ℕ, ◌+◌, nat_lt, true, false, List, [], refl, ap, sym, ◌∙◌, arith, None}
use Rattle.std.proofs.lemmas.Bool.{false≢true}
use Rattle.std.proofs.lemmas.List.{append-nil}
use Rattle.sgl_values.specs.declared.item.Item.{Item}
use Rattle.effect_combine.specs.Combined.{tag_at}
use Rattle.effect_combine.specs.Words.{merged, start_of}
use Rattle.effect_combine.proofs.Merging.{start_start}
use Rattle.effect_board.specs.declared.view.View.{View}
use Rattle.plan_executor.proofs.Cells.{alone}
use Rattle.plan_executor.specs.Giving.{IsGiven}
use Rattle.plan_executor.specs.Sinking.{Bounds, State, Holds, Ended}

pub holds_start : (bounds : Bounds) (state : State) → state.least ≡ None → state.over ≡ nat_lt bounds.limit state.items → state.cells ≡ [] → Holds bounds state.items state.view state []
holds_start bounds state least over empty = record {
  gives = [];
  added = λ i. record state.view { gives = sym (append-nil state.view.gives) i };
  over = over ∙ ap (nat_lt bounds.limit) none;
  whole = λ within. record {
    counted = none;
    least = least;
    fit = refl;
    stand = λ row attr in_rows in_tags.
        ap (λ cells. merged (tag_at bounds.tags attr) (start_of (tag_at bounds.tags attr)) (Rattle.effect_combine.specs.Batch.held_for (tag_at bounds.tags attr) cells row attr)) empty
        ∙ start_start (tag_at bounds.tags attr);
  };
}
  where
    none : state.items ≡ state.items + 0
    none = omega arith

-- past the limit
pub ended_over : (bounds : Bounds) (old new : State) → old.over ≡ true → new.over ≡ old.over → new.view ≡ old.view → (before : ℕ) (start : View) (items : List Item) → Holds bounds before start old items → Ended bounds before start new items
ended_over bounds old new full over view before start items holds = record {
  gives = holds.gives;
  added = view ∙ holds.added;
  over = over ∙ holds.over;
  whole = λ within. absurd (false≢true (sym within ∙ over ∙ full));
}

-- within the limit, where the rest was given
pub ended_within : (bounds : Bounds) (old new : State) → old.over ≡ false → new.over ≡ old.over → new.items ≡ old.items → new.least ≡ old.least
    → ((start : View) (items : List Item) → IsGiven bounds.rows bounds.tags start old.view old.cells items → IsGiven bounds.rows bounds.tags start new.view [] items)
    → (before : ℕ) (start : View) (items : List Item) → Holds bounds before start old items → Ended bounds before start new items
ended_within bounds old new within over count least rest before start items holds =
    let whole = holds.whole within in
    let gave = rest start items record { gives = holds.gives; added = holds.added; stand = whole.stand } in
    record {
      gives = gave.gives;
      added = gave.added;
      over = over ∙ holds.over;
      whole = λ _. record { counted = count ∙ whole.counted; least = least ∙ whole.least; fit = whole.fit; stand = alone bounds.rows bounds.tags gave.gives items gave.stand };
    }
