-- Cells one after the other.
use Rattle.std.proofs.Common.{◌≡◌, ℕ, ℤ, pos, zero, suc, ◌+◌, ◌<◌, ◌≤◌, ◌≢◌, ◌⊎◌, inl, inr, nat_eq, Bool, true, false, cond, List, [], ◌∷◌, length, drop, get_or, refl, ap, sym, ◌∙◌, subst, arith, Option, Some, None, Result, Ok, Err}
use Rattle.std.specs.Prelude.{slice_set}
use Rattle.std.specs.Result.{is_ok, result_unwrap_or}
use Rattle.std.proofs.lemmas.Bool.{cases_Bool}
use Rattle.std.proofs.lemmas.Bool.Decides.{nat_tests}
use Rattle.std.proofs.lemmas.Grind.{get_or-set_at}
use Rattle.std.proofs.lemmas.List.{at_drop_all, at_drop_more, get_or-set_other}
use Rattle.std.specs.Prelude.{map, take}
use Rattle.sgl_values.specs.Amounts.{Amount}
use Rattle.sgl_values.specs.Cells.{cell, amounts, combination}
use Rattle.sgl_values.specs.Range.{in_range}
use Rattle.sgl_values.specs.World.{Row}
use Rattle.sgl_values.specs.declared.fault.Tag.{Tag}
use Rattle.sgl_values.specs.declared.item.Item.{Item}
use Rattle.sgl_typed.specs.declared.schema.EffectAttr.{EffectAttr}
use Rattle.sgl_typed.specs.declared.script.TScript.{TScript}
use Rattle.sgl_typed.specs.declared.tick_fault.TickFault.{TickFault}
use Rattle.sgl_typed.specs.declared.tick_fault.TickFault.TheVariants.{Cell}
use Rattle.sgl_typed.specs.Tick.{CombinedRow, cell_fault, cell_fault_or, cells_from, combined_from, wide_cell}
use Rattle.effect_combine.specs.Combined.{CellWords, tag_at, word_at}
use Rattle.effect_combine.specs.Finished.{cell_or_overflow}
use Rattle.effect_combine.specs.Standing.{StandsFor}
use Rattle.effect_combine.specs.declared.finished.CellOverflow.{CellOverflow}
use Rattle.tick_postprocess.specs.Answer.{told, AreWords, tags_of}
use Rattle.tick_postprocess.specs.Blocks.{IsPut}
use Rattle.tick_postprocess.specs.Rows.{first_of}
use Rattle.tick_postprocess.specs.Runs.{TellsWide}
use Rattle.tick_postprocess.specs.declared.fault.PostFault.{PostFault}

-- ---- one cell

pub cells-length : (items : List Item) (row number : ℕ) (effects : List EffectAttr) → length (cells_from items row number effects) ≡ length effects
cells-length items row number [] = refl
cells-length items row number (e ∷ effects) = ap suc (cells-length items row (suc number) effects)

-- the cell of the effect attribute with this number
pub cell_at : (items : List Item) (row number : ℕ) (effects : List EffectAttr) (i : ℕ) (e : EffectAttr) → i < length effects → e ≡ get_or effects i e
    → get_or (cells_from items row number effects) i (pos 0) ≡ cell e.tag e.init items row (number + i)
cell_at items row number [] i e lt is = absurd (omega arith)
cell_at items row number (first ∷ effects) zero e lt is =
    ap (λ (x : EffectAttr). cell x.tag x.init items row number) (sym is)
    ∙ ap (cell e.tag e.init items row) (omega arith)
cell_at items row number (first ∷ effects) (suc i) e lt is =
    cell_at items row (suc number) effects i e (omega arith) is ∙ ap (cell e.tag e.init items row) (omega arith)

tag_is : (effects : List EffectAttr) (i : ℕ) (e : EffectAttr) → i < length effects → e ≡ get_or effects i e → tag_at (tags_of effects) i ≡ e.tag
tag_is [] i e lt is = absurd (omega arith)
tag_is (first ∷ effects) zero e lt is = ap (λ (x : EffectAttr). x.tag) (sym is)
tag_is (first ∷ effects) (suc i) e lt is = tag_is effects i e (omega arith) is

-- a fact of what is finished from a word
pub of_word : (P : ℤ → Type 0) (effects : List EffectAttr) (table : CellWords) (items : List Item) (row i : ℕ) (e : EffectAttr) (word : ℕ)
    → AreWords effects table items → row < table.rows → i < length effects → e ≡ get_or effects i e → word ≡ word_at table row i
    → ((given : List Amount) → StandsFor e.tag word given → P (combination e.tag e.init given))
    → P (get_or (cells_from items row 0 effects) i (pos 0))
of_word P effects table items row i e word words there lt is read gives =
    subst P (ap (λ (n : ℕ). cell e.tag e.init items row n) (omega arith) ∙ sym (cell_at items row 0 effects i e lt is))
    (gives (amounts items row i)
    (subst (λ (w : ℕ). StandsFor e.tag w (amounts items row i)) (sym read)
    (subst (λ (t : Tag). StandsFor t (word_at table row i) (amounts items row i)) (tag_is effects i e lt is) (words.stand row i there lt))))

-- ---- the first wide cell

over : (b : Bool) (z : ℤ) (x y : CellOverflow) → Err x ≡ cond b (Ok z) (Err y) → b ≡ false
over true z x y h = grind (arith, h)
over false z x y h = refl

within : (b : Bool) (z w : ℤ) (y : CellOverflow) → Ok w ≡ cond b (Ok z) (Err y) → b ≡ true
within true z w y h = refl
within false z w y h = grind (arith, h)

one_more : (zs : List ℤ) (i : ℕ) → i < length zs → wide_cell i (drop i zs) ≡ cond (in_range (get_or zs i (pos 0))) (wide_cell (i + 1) (drop (i + 1) zs)) (Some i)
one_more zs i lt =
    at_drop_more (wide_cell i) zs i (pos 0) lt
    ∙ ap (λ (n : ℕ). cond (in_range (get_or zs i (pos 0))) (wide_cell n (drop (i + 1) zs)) (Some i)) (omega arith)

pub wide_here : (zs : List ℤ) (i : ℕ) (x : CellOverflow) → i < length zs → Err x ≡ cell_or_overflow (get_or zs i (pos 0)) → wide_cell 0 zs ≡ wide_cell i (drop i zs)
    → Some i ≡ wide_cell 0 zs
wide_here zs i x lt found before =
    sym (before ∙ one_more zs i lt ∙ ap (λ b. cond b (wide_cell (i + 1) (drop (i + 1) zs)) (Some i)) (over (in_range (get_or zs i (pos 0))) _ x _ found))

pub wide_later : (zs : List ℤ) (i : ℕ) (z : ℤ) → i < length zs → Ok z ≡ cell_or_overflow (get_or zs i (pos 0)) → wide_cell 0 zs ≡ wide_cell i (drop i zs)
    → wide_cell 0 zs ≡ wide_cell (i + 1) (drop (i + 1) zs)
wide_later zs i z lt found before =
    before ∙ one_more zs i lt ∙ ap (λ b. cond b (wide_cell (i + 1) (drop (i + 1) zs)) (Some i)) (within (in_range (get_or zs i (pos 0))) _ z _ found)

-- ---- where no cell is wide

none_first : (b : Bool) (n : ℕ) (more : Option ℕ) → cond b more (Some n) ≡ None → b ≡ true
none_first true n more h = refl
none_first false n more h = grind (arith, h)

none_rest : (b : Bool) (n : ℕ) (more : Option ℕ) → cond b more (Some n) ≡ None → more ≡ None
none_rest true n more h = h
none_rest false n more h = grind (arith, h)

pub fits : (zs : List ℤ) (number i : ℕ) → i < length zs → wide_cell number zs ≡ None → in_range (get_or zs i (pos 0)) ≡ true
fits [] number i lt h = absurd (omega arith)
fits (z ∷ zs) number zero lt h = none_first (in_range z) number (wide_cell (suc number) zs) h
fits (z ∷ zs) number (suc i) lt h = fits zs (suc number) i (omega arith) (none_rest (in_range z) number (wide_cell (suc number) zs) h)

-- the cell of a word where no cell of the row is wide
pub number_is : (zs : List ℤ) (i : ℕ) (result : Result ℤ CellOverflow) → i < length zs → wide_cell 0 zs ≡ None → result ≡ cell_or_overflow (get_or zs i (pos 0))
    → result ≡ Ok (get_or zs i (pos 0))
number_is zs i result lt none is = is ∙ ap (λ b. cond b (Ok (get_or zs i (pos 0))) (Err record { total = get_or zs i (pos 0) })) (fits zs 0 i lt none)

-- no cell is wide where each one is in the range
pub all_fit : (zs : List ℤ) (number : ℕ) → ((k : ℕ) → k < length zs → in_range (get_or zs k (pos 0)) ≡ true) → wide_cell number zs ≡ None
all_fit [] number each = refl
all_fit (z ∷ zs) number each =
    ap (λ b. cond b (wide_cell (suc number) zs) (Some number)) (each zero (omega arith)) ∙ all_fit zs (suc number) (λ k lt. each (suc k) (omega (arith, lt)))

-- ---- lanes

-- a fact of one more element
pub one_more_set : {A : Type 0} (P : ℕ → A → Type 0) (xs : List A) (i : ℕ) (x d : A) → i < length xs → ((k : ℕ) → k < i → P k (get_or xs k d)) → P i x
    → (k : ℕ) → k < i + 1 → P k (get_or (slice_set xs i x) k d)
one_more_set P xs i x d inside before here k below = split (cases_Bool (nat_eq k i))
  where
    split : (nat_eq k i ≡ true) ⊎ (nat_eq k i ≡ false) → P k (get_or (slice_set xs i x) k d)
    split (inl same) =
        let at : k ≡ i = grind (arith, nat_tests, same) in
        subst (P k) (sym (get_or-set_at xs i k x d at inside)) (subst (λ n. P n x) (sym at) here)
    split (inr other) =
        let apart : k ≢ i = grind (arith, nat_tests, other) in
        subst (P k) (sym (get_or-set_other xs i k x d apart)) (before k (omega (arith, below, apart)))

put_by : (b : Bool) (z : ℤ) (y : CellOverflow) (r : Result ℤ CellOverflow) → r ≡ cond b (Ok z) (Err y) → (is_ok r ≡ true → b ≡ true) × (b ≡ true → result_unwrap_or r (pos 0) ≡ z)
put_by true z y r is = (λ h. refl, λ h. ap (λ (x : Result ℤ CellOverflow). result_unwrap_or x (pos 0)) is)
put_by false z y r is = (λ h. sym (ap (λ (x : Result ℤ CellOverflow). is_ok x) is) ∙ h, λ h. absurd (no h))
  where
    no : false ≡ true → ⊥
    no h = absurd (grind (arith, h))

-- a cell that is put
pub put_of : (z n : ℤ) (r : Result ℤ CellOverflow) (ok : Bool) → r ≡ cell_or_overflow z → n ≡ result_unwrap_or r (pos 0) → ok ≡ is_ok r → IsPut z n ok
put_of z n r ok is number told =
    let put = put_by (in_range z) z _ r is in
    record { fits = λ h. put.0 (sym told ∙ h); number_is = λ h. number ∙ put.1 h }

-- the same where less is told
pub put_weaker : (z n : ℤ) (told less : Bool) → (less ≡ true → told ≡ true) → IsPut z n told → IsPut z n less
put_weaker z n told less implies put = record { fits = λ h. put.fits (implies h); number_is = put.number_is }

-- the cells of a lane, where each list has one of them
pub cells_are : (lists : List (List ℤ)) (lane : ℕ) (zs : List ℤ) → length zs ≤ length lists → ((k : ℕ) → k < length zs → get_or (get_or lists k []) lane (pos 0) ≡ get_or zs k (pos 0))
    → take (length zs) (map (λ (list : List ℤ). get_or list lane (pos 0)) lists) ≡ zs
cells_are lists lane [] long each = refl
cells_are [] lane (z ∷ zs) long each = absurd (omega (arith, long))
cells_are (list ∷ lists) lane (z ∷ zs) long each =
    λ i. each zero (omega arith) i ∷ cells_are lists lane zs (omega (arith, long)) (λ k lt. each (suc k) (omega (arith, lt))) i

-- ---- rows

abbrev no_row : Row
no_row = record { key = 0; values = [] }

abbrev pub no_cells : CombinedRow
no_cells = record { row = no_row; cells = [] }

pub combined-length : (script : TScript) (items : List Item) (number : ℕ) (rows : List Row) → length (combined_from script items number rows) ≡ length rows
combined-length script items number [] = refl
combined-length script items number (row ∷ rows) = ap suc (combined-length script items (suc number) rows)

pub combined_at : (script : TScript) (items : List Item) (number : ℕ) (rows : List Row) (i : ℕ) → i < length rows
    → get_or (combined_from script items number rows) i no_cells ≡ record { row = get_or rows i no_row; cells = cells_from items (number + i) 0 script.schema.effects }
combined_at script items number [] i lt = absurd (omega arith)
combined_at script items number (row ∷ rows) zero lt =
    ap (λ (n : ℕ). record { row = row; cells = cells_from items n 0 script.schema.effects }) (omega arith)
combined_at script items number (row ∷ rows) (suc i) lt =
    combined_at script items (suc number) rows i (omega arith)
    ∙ ap (λ (n : ℕ). record { row = get_or rows i no_row; cells = cells_from items n 0 script.schema.effects }) (omega arith)

fault_next : (script : TScript) (items : List Item) (rows : List Row) (i : ℕ) (wide : Option ℕ) → i < length rows → wide ≡ wide_cell 0 (cells_from items i 0 script.schema.effects)
    → cell_fault (drop i (combined_from script items 0 rows))
    ≡ cell_fault_or (get_or rows i no_row).key wide (cell_fault (drop (i + 1) (combined_from script items 0 rows)))
fault_next script items rows i wide lt found =
    let all = combined_from script items 0 rows in
    at_drop_more cell_fault all i no_cells (omega (arith, combined-length script items 0 rows))
    ∙ ap (λ (c : CombinedRow). cell_fault_or c.row.key (wide_cell 0 c.cells) (cell_fault (drop (i + 1) all))) (combined_at script items 0 rows i lt)
    ∙ ap (λ (n : ℕ). cell_fault_or (get_or rows i no_row).key (wide_cell 0 (cells_from items n 0 script.schema.effects)) (cell_fault (drop (i + 1) all))) (omega arith)
    ∙ ap (λ w. cell_fault_or (get_or rows i no_row).key w (cell_fault (drop (i + 1) all))) (sym found)

-- what is told so far is the first fault from this row on, which has a wide cell
pub fault_here : (script : TScript) (items : List Item) (rows : List Row) (i key attr : ℕ) (start : Option TickFault) → i < length rows → key ≡ (get_or rows i no_row).key
    → Some attr ≡ wide_cell 0 (cells_from items i 0 script.schema.effects)
    → start ≡ cell_fault (drop i (combined_from script items 0 rows))
    → start ≡ Some (Cell key attr)
fault_here script items rows i key attr start lt is found before =
    before ∙ fault_next script items rows i (Some attr) lt found ∙ ap (λ (k : ℕ). Some (Cell k attr)) (sym is)

-- the same of a row without one
pub fault_later : (script : TScript) (items : List Item) (rows : List Row) (i : ℕ) (start : Option TickFault) → i < length rows
    → None ≡ wide_cell 0 (cells_from items i 0 script.schema.effects)
    → start ≡ cell_fault (drop i (combined_from script items 0 rows))
    → start ≡ cell_fault (drop (i + 1) (combined_from script items 0 rows))
fault_later script items rows i start lt found before = before ∙ fault_next script items rows i None lt found

first_or_none : (first : Option TickFault) → first_of first None ≡ first
first_or_none None = refl
first_or_none (Some fault) = refl

-- a run to the end
pub wide_to_end : (all : List CombinedRow) (end : ℕ) (first : Option TickFault) → length all ≤ end → cell_fault all ≡ first_of first (cell_fault (drop end all)) → first ≡ cell_fault all
wide_to_end all end first past tells = sym (tells ∙ ap (first_of first) (at_drop_all cell_fault all end past) ∙ first_or_none first)

-- ---- runs

-- a run of rows without one
pub clear_run : (script : TScript) (items : List Item) (rows : List Row) (first n : ℕ) → first + n ≤ length rows
    → ((row : ℕ) → first ≤ row → row < first + n → wide_cell 0 (cells_from items row 0 script.schema.effects) ≡ None)
    → cell_fault (drop first (combined_from script items 0 rows)) ≡ cell_fault (drop (first + n) (combined_from script items 0 rows))
clear_run script items rows first zero inside clear = ap (λ (m : ℕ). cell_fault (drop m (combined_from script items 0 rows))) (omega arith)
clear_run script items rows first (suc n) inside clear =
    let all = combined_from script items 0 rows in
    fault_later script items rows (first + n) (cell_fault (drop first all)) (omega (arith, inside)) (sym (clear (first + n) (omega arith) (omega arith)))
    (clear_run script items rows first n (omega (arith, inside)) (λ row from below. clear row from (omega (arith, below))))
    ∙ ap (λ (m : ℕ). cell_fault (drop m all)) (omega arith)

key_of_none : (key : ℕ) (wide : Option ℕ) (rest : Option TickFault) → cell_fault_or key wide rest ≡ None → rest ≡ None
key_of_none key None rest h = h
key_of_none key (Some attr) rest h = absurd (cc)

-- where no cell is outside the range, there is none from a row on
clear_from : (n : ℕ) (all : List CombinedRow) → cell_fault all ≡ None → cell_fault (drop n all) ≡ None
clear_from zero all h = h
clear_from (suc n) [] h = refl
clear_from (suc n) (c ∷ all) h = clear_from n all (key_of_none c.row.key (wide_cell 0 c.cells) (cell_fault all) h)

-- and so none of a run is told
pub none_told : {A : Type 0} (all : List CombinedRow) (first end : ℕ) (fault : PostFault) → cell_fault all ≡ None → TellsWide all first end (Some fault) → A
none_told all first end fault none tells = absurd (contrary (told fault) (sym tells ∙ clear_from first all none))
  where
    contrary : (fault : TickFault) → Some fault ≡ None → ⊥
    contrary fault h = absurd (cc)

-- ---- results

pub same_number : (z w : ℤ) → ◌≡◌ {A = Result ℤ CellOverflow} (Ok z) (Ok w) → z ≡ w
same_number z w h = grind (arith, h)

pub some_none : {A : Type 0} (attr : ℕ) → Some attr ≡ None → A
some_none attr h = absurd (grind (arith, h))
