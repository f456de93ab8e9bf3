-- The words of a table, item by item.
use Rattle.std.proofs.Common.{◌≡◌, ℕ, zero, suc, ◌+◌, ◌*◌, ◌%◌, ◌/◌, ◌<◌, ◌≤◌, Bool, true, false, cond, ◌&&◌, List, [], ◌∷◌, ◌++◌, length, get_or, refl, sym, ap, ◌∙◌, arith, true≢false, get_or-set_same, get_or-set_other}
use Rattle.std.specs.Prelude.{◌==◌}
use Rattle.std.specs.List.{list_all}
use Rattle.std.proofs.lemmas.Bool.Decides.{nat_tests}
use Rattle.std.proofs.Math.Nat.{mul-le-mul_left}
use Rattle.std.proofs.lemmas.List.{append-nil, get_or_default, length-set}
use Rattle.std.proofs.lemmas.Nat.{mul-add-lt, div-mul-add, mod-mul-add}
use Rattle.sgl_values.specs.Amounts.{Amount, is_amount}
use Rattle.sgl_values.specs.Cells.{amounts}
use Rattle.sgl_values.specs.declared.fault.Tag.{Tag}
use Rattle.sgl_values.specs.declared.item.Item.{Item}
use Rattle.sgl_values.specs.declared.item.Item.TheVariants.{Effect, Faulty}
use Rattle.effect_combine.specs.Words.{start_of, merged, word_of, word_for}
use Rattle.effect_combine.specs.Combined.{tag_at, IsWithin, IsPlaced, HasNumber, AreStarts, with_item}
use Rattle.effect_combine.proofs.Finishing.{both}
use Rattle.effect_combine.proofs.Merging.{merged_free}

-- ---- amounts and words of one item more

word_for-push : (tag : Tag) (xs : List Amount) (amount : Amount) → word_for tag (xs ++ amount ∷ []) ≡ merged tag (word_of tag amount) (word_for tag xs)
word_for-push tag [] amount = refl
word_for-push tag (x ∷ xs) amount =
    ap (merged tag (word_of tag x)) (word_for-push tag xs amount) ∙ merged_free tag (word_of tag x) (word_of tag amount) (word_for tag xs)

kept_or_not : (b : Bool) (amount : Amount) (xs ys : List Amount) → cond b (amount ∷ (xs ++ ys)) (xs ++ ys) ≡ cond b (amount ∷ xs) xs ++ ys
kept_or_not true amount xs ys = refl
kept_or_not false amount xs ys = refl

amounts-append : (items more : List Item) (row attr : ℕ) → amounts (items ++ more) row attr ≡ amounts items row attr ++ amounts more row attr
amounts-append [] more row attr = refl
amounts-append (Effect r a amount ∷ items) more row attr =
    ap (λ (l : List Amount). cond ((r == row) && (a == attr)) (amount ∷ l) l) (amounts-append items more row attr)
    ∙ kept_or_not ((r == row) && (a == attr)) amount (amounts items row attr) (amounts more row attr)
amounts-append (Faulty fault ∷ items) more row attr = amounts-append items more row attr

-- ---- places

same_place : (row attr r a width : ℕ) → attr < width → a < width → r * width + a ≡ row * width + attr → (r ≡ row) × (a ≡ attr)
same_place row attr r a width in' in'' same = (
  sym (div-mul-add r width a in'') ∙ ap (λ (n : ℕ). n / width) same ∙ div-mul-add row width attr in',
  sym (mod-mul-add r width a in'') ∙ ap (λ (n : ℕ). n % width) same ∙ mod-mul-add row width attr in',
)

tests_same : (row attr r a : ℕ) → r ≡ row → a ≡ attr → ((r == row) && (a == attr)) ≡ true
tests_same row attr r a p q = grind (arith, nat_tests)

tests_row : (row attr r a : ℕ) → ((r == row) && (a == attr)) ≡ true → r ≡ row
tests_row row attr r a h = grind (arith, nat_tests)

tests_attr : (row attr r a : ℕ) → ((r == row) && (a == attr)) ≡ true → a ≡ attr
tests_attr row attr r a h = grind (arith, nat_tests)

-- ---- words that stand for items

-- each word is that of the amounts of its cell
abbrev pub AreWords : ℕ → List Tag → List Item → List ℕ → Type 0
AreWords rows tags items words = (row attr : ℕ) → row < rows → attr < length tags
    → get_or words (row * length tags + attr) 0 ≡ word_for (tag_at tags attr) (amounts items row attr)

abbrev pub AreNumbers : List Item → Type 0
AreNumbers items = (row attr : ℕ) → list_all is_amount (amounts items row attr) ≡ true

-- what holds after some of the items
pub record Stand (rows : ℕ) (tags : List Tag) (items : List Item) (words : List ℕ) : Type 0 where
  pub full : length words ≡ rows * length tags
  pub each : AreWords rows tags items words
  pub numbers : AreNumbers items

pub starts-stand : (rows : ℕ) (tags : List Tag) (words : List ℕ) → AreStarts rows tags words → Stand rows tags [] words
starts-stand rows tags words are = record {
  full = are.full;
  each = λ row attr in' in''.
      are.starts (row * length tags + attr) (omega (arith, are.full, mul-add-lt row (length tags) attr rows in' in''))
      ∙ ap (λ (n : ℕ). start_of (tag_at tags n)) (mod-mul-add row (length tags) attr in'');
  numbers = λ row attr. refl;
}

module _ (tags : List Tag) (words : List ℕ) (items : List Item) (r a : ℕ) (amount : Amount) (row attr : ℕ) (in' : attr < length tags) (in'' : a < length tags)
    (place : r * length tags + a < length words)
    (is : get_or words (row * length tags + attr) 0 ≡ word_for (tag_at tags attr) (amounts items row attr)) where
  abbrev after : List ℕ
  after = with_item tags words (Effect r a amount)

  by_test : (b : Bool) → ((r == row) && (a == attr)) ≡ b
      → get_or after (row * length tags + attr) 0 ≡ word_for (tag_at tags attr) (amounts items row attr ++ cond b (amount ∷ []) [])
  by_test true e =
      let same : r * length tags + a ≡ row * length tags + attr = λ i. tests_row row attr r a e i * length tags + tests_attr row attr r a e i in
      let tag : tag_at tags a ≡ tag_at tags attr = ap (tag_at tags) (tests_attr row attr r a e) in
      ap (λ (n : ℕ). get_or after n 0) (sym same)
      ∙ get_or-set_same words (r * length tags + a) (merged (tag_at tags a) (word_of (tag_at tags a) amount) (get_or words (r * length tags + a) 0)) 0 place
      ∙ (λ i. merged (tag i) (word_of (tag i) amount) (get_or words (same i) 0))
      ∙ ap (merged (tag_at tags attr) (word_of (tag_at tags attr) amount)) is
      ∙ sym (word_for-push (tag_at tags attr) (amounts items row attr) amount)
  by_test false e =
      get_or-set_other words (r * length tags + a) (row * length tags + attr) (merged (tag_at tags a) (word_of (tag_at tags a) amount) (get_or words (r * length tags + a) 0)) 0
      (λ same. let both = same_place row attr r a (length tags) in' in'' (sym same) in true≢false (sym (tests_same row attr r a both.0 both.1) ∙ e))
      ∙ is ∙ ap (word_for (tag_at tags attr)) (sym (append-nil (amounts items row attr)))

all_push : (xs : List Amount) (amount : Amount) → list_all is_amount xs ≡ true → is_amount amount ≡ true → list_all is_amount (xs ++ amount ∷ []) ≡ true
all_push [] amount all one = ap (λ (t : Bool). t && true) one
all_push (x ∷ xs) amount all one =
    let parts = both (is_amount x) (list_all is_amount xs) all in
    ap (λ (t : Bool). t && list_all is_amount (xs ++ amount ∷ [])) parts.0 ∙ all_push xs amount parts.1 one

numbers_by : (xs : List Amount) (amount : Amount) (b : Bool) → list_all is_amount xs ≡ true → is_amount amount ≡ true → list_all is_amount (xs ++ cond b (amount ∷ []) []) ≡ true
numbers_by xs amount true all one = all_push xs amount all one
numbers_by xs amount false all one = ap (list_all is_amount) (append-nil xs) ∙ all

-- one item more
pub stand-item : (rows : ℕ) (tags : List Tag) (items : List Item) (words : List ℕ) (item : Item) → IsWithin rows (length tags) item → HasNumber item
    → Stand rows tags items words → Stand rows tags (items ++ item ∷ []) (with_item tags words item)
stand-item rows tags items words (Effect r a amount) within number stand = record {
  full = length-set words _ _ ∙ stand.full;
  each = λ row attr in' in''.
      by_test tags words items r a amount row attr in'' within.1 (omega (arith, stand.full, mul-add-lt r (length tags) a rows within.0 within.1))
      (stand.each row attr in' in'') ((r == row) && (a == attr)) refl
      ∙ ap (word_for (tag_at tags attr)) (sym (amounts-append items (Effect r a amount ∷ []) row attr));
  numbers = λ row attr.
      ap (list_all is_amount) (amounts-append items (Effect r a amount ∷ []) row attr)
      ∙ numbers_by (amounts items row attr) amount ((r == row) && (a == attr)) (stand.numbers row attr) number;
}
stand-item rows tags items words (Faulty fault) within number stand = record {
  full = stand.full;
  each = λ row attr in' in''.
      stand.each row attr in' in'' ∙ ap (word_for (tag_at tags attr)) (sym (amounts-append items (Faulty fault ∷ []) row attr ∙ append-nil (amounts items row attr)));
  numbers = λ row attr.
      ap (list_all is_amount) (amounts-append items (Faulty fault ∷ []) row attr ∙ append-nil (amounts items row attr)) ∙ stand.numbers row attr;
}

-- an item that is within the table has a word
pub IsWithin-placed : (rows width size : ℕ) (item : Item) → IsWithin rows width item → rows ≤ 65536 → width ≤ 16 → size ≡ rows * width → IsPlaced size width item
IsWithin-placed rows width size (Effect row attr amount) within few narrow full = (
  within.1,
  omega (arith, full, mul-add-lt row width attr rows within.0 within.1),
  omega (arith, full, few, mul-le-mul_left rows narrow),
)
IsWithin-placed rows width size (Faulty fault) within few narrow full = tt

-- a cell has no more amounts than there are items
length-cond : (b : Bool) (amount : Amount) (xs : List Amount) (n : ℕ) → length xs ≤ n → length (cond b (amount ∷ xs) xs) ≤ suc n
length-cond true amount xs n few = omega (arith, few)
length-cond false amount xs n few = omega (arith, few)

pub length-amounts : (items : List Item) (row attr : ℕ) → length (amounts items row attr) ≤ length items
length-amounts [] row attr = omega arith
length-amounts (Effect r a amount ∷ items) row attr =
    length-cond ((r == row) && (a == attr)) amount (amounts items row attr) (length items) (length-amounts items row attr)
length-amounts (Faulty fault ∷ items) row attr = let rest = length-amounts items row attr in omega (arith, rest)

-- ---- rows one behind the other

-- the place of an attribute some rows further on
pub later_place : (row attr width k : ℕ) → (row + k) * width + attr ≡ row * width + attr + k * width
later_place row attr width k = omega arith

pub later_inside : (row attr width rows k : ℕ) → row + k < rows → attr < width → row * width + attr + k * width < rows * width
later_inside row attr width rows k below narrow = omega (arith, later_place row attr width k, mul-add-lt (row + k) width attr rows below narrow)

-- its word
pub later_word : (words : List ℕ) (row attr width k at v d : ℕ) → v ≡ get_or words at d → at ≡ row * width + attr + k * width → at < length words
    → v ≡ get_or words ((row + k) * width + attr) 0
later_word words row attr width k at v d is place inside =
    is ∙ get_or_default words at d 0 inside ∙ ap (λ (n : ℕ). get_or words n 0) (place ∙ sym (later_place row attr width k))

-- what is so of each of four numbers is so of any of their list
pub each_of_four : (P : ℕ → ℕ → Type 0) (a b c d : ℕ) → P 0 a → P 1 b → P 2 c → P 3 d → (k : ℕ) → k < 4 → P k (get_or (a ∷ b ∷ c ∷ d ∷ []) k 0)
each_of_four P a b c d first second third fourth zero below = first
each_of_four P a b c d first second third fourth (suc zero) below = second
each_of_four P a b c d first second third fourth (suc (suc zero)) below = third
each_of_four P a b c d first second third fourth (suc (suc (suc zero))) below = fourth
each_of_four P a b c d first second third fourth (suc (suc (suc (suc k)))) below = absurd (omega (arith, below))
