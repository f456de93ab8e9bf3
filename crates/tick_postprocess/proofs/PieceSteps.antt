-- Pieces of the rows of a world, one behind the other.
use Rattle.std.proofs.Common.{◌≡◌, ℕ, zero, suc, ◌+◌, ◌*◌, ◌<◌, ◌≤◌, List, [], ◌∷◌, ◌++◌, length, drop, get_or, refl, ap, sym, subst, ◌∙◌, arith, length-append, Option, Some, None, Ok}
use Rattle.std.specs.Prelude.{min, All}
use Rattle.std.specs.Option.{option_map}
use Rattle.std.proofs.lemmas.List.{at_drop_all, at_drop_more}
use Rattle.std.proofs.lemmas.List.Elements.{All-get_or, All-push, All-same}
use Rattle.sgl_values.specs.declared.item.Item.{Item}
use Rattle.sgl_typed.specs.declared.script.TScript.{TScript}
use Rattle.sgl_typed.specs.Tick.{cell_fault, combined_from}
use Rattle.env_table.specs.Table.{Building, Table, IsTable}
use Rattle.effect_combine.specs.Combined.{CellWords}
use Rattle.tick_postprocess.specs.Answer.{told, AreWords}
use Rattle.tick_postprocess.specs.Pieces.{AreDone, AreJoined, ArePieces, CanPushMade, HasMade, IsDone, IsPiece, IsSameRun, PushesMade}
use Rattle.tick_postprocess.specs.Rows.{first_of, PutsAll}
use Rattle.tick_postprocess.specs.Runs.{key_before, posted_rows, IsRun, IsRunOf}
use Rattle.tick_postprocess.specs.declared.fault.PostFault.{PostFault}
use Rattle.tick_postprocess.specs.declared.next_world.Counts.{Counts}
use Rattle.tick_postprocess.specs.declared.piece.PostPiece.{PostPiece}
use Rattle.tick_postprocess.proofs.CellSteps.{combined-length}
use Rattle.tick_postprocess.proofs.KeySteps.{key_grows, lower}
use Rattle.tick_postprocess.proofs.RowSteps.{all_length, far_all}
use Rattle.tick_postprocess.proofs.RunSteps.{runs_join}

-- ---- neighbours

-- the first row of these pieces, which is this one where there are none
abbrev pub first_row : ℕ → List PostPiece → ℕ
first_row end [] = end
first_row end (piece ∷ pieces) = piece.first

pub first_is : (first end : ℕ) (pieces : List PostPiece) → AreJoined first end pieces → first_row end pieces ≡ first
first_is first end [] joined = sym joined
first_is first end (piece ∷ pieces) joined = joined.0

joined_next : (first end : ℕ) (pieces : List PostPiece) (i : ℕ) (d : PostPiece) → AreJoined first end pieces → i < length pieces → (get_or pieces i d).end ≡ first_row end (drop (suc i) pieces)
joined_next first end [] i d joined lt = absurd (omega arith)
joined_next first end (piece ∷ pieces) zero d joined lt = sym (first_is piece.end end pieces joined.1)
joined_next first end (piece ∷ pieces) (suc i) d joined lt = joined_next piece.end end pieces i d joined.1 (omega arith)

-- a piece begins where those before it end
piece_first : (end : ℕ) (pieces : List PostPiece) (i : ℕ) (p : PostPiece) → i < length pieces → p ≡ get_or pieces i p → first_row end (drop i pieces) ≡ p.first
piece_first end pieces i p lt is = at_drop_more (first_row end) pieces i p lt ∙ ap (λ (q : PostPiece). q.first) (sym is)

-- and ends where those behind it begin
piece_end : (first end : ℕ) (pieces : List PostPiece) (i : ℕ) (p : PostPiece) → AreJoined first end pieces → i < length pieces → p ≡ get_or pieces i p → p.end ≡ first_row end (drop (i + 1) pieces)
piece_end first end pieces i p joined lt is =
    let next : suc i ≡ i + 1 = omega arith in
    ap (λ (q : PostPiece). q.end) is ∙ joined_next first end pieces i p joined lt ∙ ap (λ n. first_row end (drop n pieces)) next

joined_push : (first end : ℕ) (pieces : List PostPiece) (piece : PostPiece) → AreJoined first end pieces → piece.first ≡ end → AreJoined first piece.end (pieces ++ piece ∷ [])
joined_push first end [] piece joined is = (is ∙ sym joined, refl)
joined_push first end (p ∷ pieces) piece joined is = (joined.0, joined_push p.end end pieces piece joined.1 is)

-- one more piece, behind the others
pub pieces_push : (world : Table) (pieces news : List PostPiece) (first end : ℕ) (piece : PostPiece) → All (IsPiece world) pieces → AreJoined 0 first pieces
    → IsPiece world piece → (piece.first ≡ first) × (piece.end ≡ end) → news ≡ pieces ++ piece ∷ [] → All (IsPiece world) news × AreJoined 0 end news
pieces_push world pieces news first end piece each joined here run is = (
  All-same (IsPiece world) news (pieces ++ piece ∷ []) is (All-push (IsPiece world) pieces piece each here),
  subst (λ n. AreJoined 0 n news) run.1 (subst (AreJoined 0 piece.end) (sym is) (joined_push 0 first pieces piece joined run.0)),
)

-- pieces with the same runs
joined_same : (first end : ℕ) (olds news : List PostPiece) → length news ≡ length olds → ((i : ℕ) (d : PostPiece) → i < length olds → IsSameRun (get_or olds i d) (get_or news i d))
    → AreJoined first end olds → AreJoined first end news
joined_same first end [] [] long same joined = joined
joined_same first end [] (new ∷ news) long same joined = absurd (omega (arith, long))
joined_same first end (old ∷ olds) [] long same joined = absurd (omega (arith, long))
joined_same first end (old ∷ olds) (new ∷ news) long same joined =
    let one = same 0 old (omega arith) in (
      one.first ∙ joined.0,
      joined_same new.end end olds news (omega (arith, long)) (λ i d lt. same (suc i) d (omega (arith, lt))) (subst (λ n. AreJoined n end olds) (sym one.end) joined.1),
    )

-- pieces that are behind `post` one by one
pub done_of : (script : TScript) (world : Table) (combined : CellWords) (seed : ℕ) (olds news : List PostPiece) → ArePieces world olds → length news ≡ length olds
    → ((i : ℕ) (d : PostPiece) → i < length olds → IsSameRun (get_or olds i d) (get_or news i d)) → All (IsDone script world combined seed) news → AreDone script world combined seed news
done_of script world combined seed olds news are long same done = record { each = done; joined = joined_same 0 (length world.world.rows) olds news long same are.joined }

-- ---- cells

-- the first wide cell of a piece, before those of the pieces behind it
pub wide_next : (script : TScript) (world : Table) (combined : CellWords) (seed : ℕ) (pieces : List PostPiece) (i : ℕ) (p : PostPiece) (wide : Option PostFault) (items : List Item)
    → AreDone script world combined seed pieces → i < length pieces → p ≡ get_or pieces i p → p.wide ≡ wide → AreWords script.schema.effects combined items
    → cell_fault (combined_from script items 0 world.world.rows) ≡ cell_fault (drop (first_row (length world.world.rows) (drop i pieces)) (combined_from script items 0 world.world.rows))
    → cell_fault (combined_from script items 0 world.world.rows)
    ≡ first_of (option_map told wide) (cell_fault (drop (first_row (length world.world.rows) (drop (i + 1) pieces)) (combined_from script items 0 world.world.rows)))
wide_next script world combined seed pieces i p wide items done lt is tells words before =
    let all = combined_from script items 0 world.world.rows in
    let n = length world.world.rows in
    let here : IsDone script world combined seed p = subst (IsDone script world combined seed) (sym is) (All-get_or (IsDone script world combined seed) pieces i p lt done.each) in
    before
    ∙ ap (λ k. cell_fault (drop k all)) (piece_first n pieces i p lt is)
    ∙ here.wide items words
    ∙ ap (λ k. first_of (option_map told p.wide) (cell_fault (drop k all))) (piece_end 0 n pieces i p done.joined lt is)
    ∙ ap (λ found. first_of (option_map told found) (cell_fault (drop (first_row n (drop (i + 1) pieces)) all))) tells

pub wide_end : (script : TScript) (world : Table) (pieces : List PostPiece) (i : ℕ) (items : List Item) → length pieces ≤ i
    → cell_fault (combined_from script items 0 world.world.rows) ≡ cell_fault (drop (first_row (length world.world.rows) (drop i pieces)) (combined_from script items 0 world.world.rows))
    → None ≡ cell_fault (combined_from script items 0 world.world.rows)
wide_end script world pieces i items past before =
    let all = combined_from script items 0 world.world.rows in
    let n = length world.world.rows in
    sym (before ∙ ap (λ k. cell_fault (drop k all)) (at_drop_all (first_row n) pieces i past) ∙ at_drop_all cell_fault all n (omega (arith, combined-length script items 0 world.world.rows)))

-- ---- all pieces

-- the rows of the pieces before this row are put into the next world, and are counted
pub record IsJoined (script : TScript) (world : Table) (combined : CellWords) (seed row stay children : ℕ) (out : Building) : Type 0 where
  pub width : out.table.width ≡ world.width
  pub tick : out.table.world.tick ≡ world.world.tick + 1
  pub rows : length out.table.world.rows ≡ stay
  pub few : stay ≤ row
  pub births : children ≤ row
  pub room : min (length world.world.rows * 2) 65536 ≤ out.room + stay
  pub above : out.table.world.last_key ≤ key_before world.world row
  pub put : (items : List Item) → AreWords script.schema.effects combined items → cell_fault (combined_from script items 0 world.world.rows) ≡ None
      → IsRunOf (posted_rows script world.world seed items) 0 row out.table.world.rows children

join_can : (script : TScript) (world : Table) (combined : CellWords) (seed row end stay children : ℕ) (out : Building) (counts : Counts) (made : Option Table) → IsTable world
    → IsJoined script world combined seed row stay children out → IsRun world.world row end → HasMade script world combined seed row end (Ok counts) made → CanPushMade out made
join_can script world combined seed row end stay children out counts None table far run is = is
join_can script world combined seed row end stay children out counts (Some made) table far run is =
    let done = is.table in
    let grows = key_grows world.world row end table.fits.rising run.order run.inside in
    record {
      width = far.width ∙ sym done.width;
      few = omega (arith, far.rows, far.few, done.rows, done.few, run.inside, table.fits.few);
      room = omega (arith, far.room, far.few, done.rows, done.few, run.inside, table.fits.few);
      rising = lower out.table.world.last_key (key_before world.world row) made.world.rows far.above done.rising;
      below = omega (arith, far.above, grows, done.last);
    }

join_more : (script : TScript) (world : Table) (combined : CellWords) (seed row end stay children : ℕ) (old new : Building) (counts : Counts) (made : Option Table)
    → IsJoined script world combined seed row stay children old → HasMade script world combined seed row end (Ok counts) made → PushesMade old new made
    → IsJoined script world combined seed end (stay + counts.stay) (children + counts.children) new
join_more script world combined seed row end stay children old new counts None far is puts = absurd is
join_more script world combined seed row end stay children old new counts (Some made) far is puts =
    let done = is.table in
    let sum = length-append old.table.world.rows made.world.rows in
    subst (IsJoined script world combined seed end (stay + counts.stay) (children + counts.children)) (sym puts)
    record {
      width = far.width;
      tick = far.tick;
      rows = omega (arith, sum, far.rows, done.rows);
      few = omega (arith, far.few, done.few);
      births = omega (arith, far.births, done.births);
      room = omega (arith, far.room, done.rows);
      above = omega (arith, done.last);
      put = λ items words none.
          runs_join (posted_rows script world.world seed items) 0 row end old.table.world.rows made.world.rows children counts.children (far.put items words none) (is.put items words none);
    }

pub join_end : (script : TScript) (world : Table) (combined : CellWords) (seed row stay children : ℕ) (out : Building) (items : List Item) → row ≡ length world.world.rows
    → IsJoined script world combined seed row stay children out → AreWords script.schema.effects combined items → cell_fault (combined_from script items 0 world.world.rows) ≡ None
    → PutsAll (posted_rows script world.world seed items) (Ok record { stay = stay; children = children }) out
join_end script world combined seed row stay children out items is far words none =
    let all = posted_rows script world.world seed items in
    far_all all row (Ok record { stay = stay; children = children }) out (omega (arith, is, all_length script items world.world seed)) (far.put items words none)

-- what is known of a piece, where those before it are put into the next world
record IsNext (script : TScript) (world : Table) (combined : CellWords) (seed stay children : ℕ) (out : Building) (p : PostPiece) (counts : Counts) : Type 0 where
  pub far : IsJoined script world combined seed p.first stay children out
  pub run : IsRun world.world p.first p.end
  pub made : HasMade script world combined seed p.first p.end (Ok counts) p.made

next_of : (script : TScript) (world : Table) (combined : CellWords) (seed : ℕ) (pieces : List PostPiece) (i stay children : ℕ) (out : Building) (p : PostPiece) (counts : Counts)
    → AreDone script world combined seed pieces → i < length pieces → p ≡ get_or pieces i p → p.told ≡ Ok counts
    → IsJoined script world combined seed (first_row (length world.world.rows) (drop i pieces)) stay children out → IsNext script world combined seed stay children out p counts
next_of script world combined seed pieces i stay children out p counts done lt is ok far =
    let here : IsDone script world combined seed p = subst (IsDone script world combined seed) (sym is) (All-get_or (IsDone script world combined seed) pieces i p lt done.each) in
    record {
      far = subst (λ row. IsJoined script world combined seed row stay children out) (piece_first (length world.world.rows) pieces i p lt is) far;
      run = here.run;
      made = subst (λ told. HasMade script world combined seed p.first p.end told p.made) ok here.made;
    }

pub next_can : (script : TScript) (world : Table) (combined : CellWords) (seed : ℕ) (pieces : List PostPiece) (i stay children : ℕ) (out : Building) (p : PostPiece) (counts : Counts)
    → IsTable world → AreDone script world combined seed pieces → i < length pieces → p ≡ get_or pieces i p → p.told ≡ Ok counts
    → IsJoined script world combined seed (first_row (length world.world.rows) (drop i pieces)) stay children out → CanPushMade out p.made
next_can script world combined seed pieces i stay children out p counts table done lt is ok far =
    let next = next_of script world combined seed pieces i stay children out p counts done lt is ok far in
    join_can script world combined seed p.first p.end stay children out counts p.made table next.far next.run next.made

pub next_more : (script : TScript) (world : Table) (combined : CellWords) (seed : ℕ) (pieces : List PostPiece) (i stay children : ℕ) (old new : Building) (p : PostPiece) (counts : Counts)
    → AreDone script world combined seed pieces → i < length pieces → p ≡ get_or pieces i p → p.told ≡ Ok counts
    → IsJoined script world combined seed (first_row (length world.world.rows) (drop i pieces)) stay children old → PushesMade old new p.made
    → IsJoined script world combined seed (first_row (length world.world.rows) (drop (i + 1) pieces)) (stay + counts.stay) (children + counts.children) new
next_more script world combined seed pieces i stay children old new p counts done lt is ok far puts =
    let next = next_of script world combined seed pieces i stay children old p counts done lt is ok far in
    subst (λ row. IsJoined script world combined seed row (stay + counts.stay) (children + counts.children) new) (piece_end 0 (length world.world.rows) pieces i p done.joined lt is)
    (join_more script world combined seed p.first p.end stay children old new counts p.made next.far next.made puts)

-- behind the last piece
pub last_row : (end : ℕ) (pieces : List PostPiece) (i : ℕ) → length pieces ≤ i → first_row end (drop i pieces) ≡ end
last_row end pieces i past = at_drop_all (first_row end) pieces i past
