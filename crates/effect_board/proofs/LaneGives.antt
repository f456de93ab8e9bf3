-- What lanes give, one lane further.
use Rattle.std.proofs.Common.{◌≡◌, ℕ, ℤ, zero, suc, ◌+◌, ◌-◌, ◌<◌, ◌≤◌, Bool, cond, false, map, true, List, [], ◌∷◌, ◌++◌, ap, sym, ◌∙◌, ◌*◌, refl, arith, append_assoc, inl, inr, length, pos, slice_index_or}
use Rattle.std.specs.List.{filter, range_with_len}
use Rattle.std.proofs.lemmas.Bool.{cases_lt}
use Rattle.std.proofs.lemmas.List.{append-nil, get_or_default, map-append, map-id}
use Rattle.std.proofs.lemmas.List.FromFn.{filter_of_map_range_with_len_more}
use Rattle.sgl_values.specs.Amounts.{Amount, is_amount, plain_amount}
use Rattle.sgl_values.specs.declared.fault.Tag.{Tag}
use Rattle.effect_combine.specs.Combined.{tag_at}
use Rattle.effect_combine.specs.Words.{word_of}
use Rattle.tick_core.specs.declared.event.Give.{Give}
use Rattle.effect_board.specs.Lanes.{is_in, gives_from, lane_give, number_give}
use Rattle.effect_board.specs.Views.{giving, giving_all}
use Rattle.effect_board.specs.declared.view.View.{View}

module _ (tags : List Tag) (attr lanes : ℕ) (rows : List ℕ) (numbers : List ℤ) where
  -- the lanes of the set below the next
  more : (lane : ℕ) → filter (is_in lanes) (range_with_len 0 (lane + 1)) ≡ filter (is_in lanes) (range_with_len 0 lane) ++ cond (is_in lanes lane) (lane ∷ []) []
  more lane =
      ap (filter (is_in lanes)) (sym (map-id (range_with_len 0 (lane + 1))))
      ∙ filter_of_map_range_with_len_more (is_in lanes) (λ k. k) 0 lane lane (omega arith)
      ∙ ap (λ l. filter (is_in lanes) l ++ cond (is_in lanes lane) (lane ∷ []) []) (map-id (range_with_len 0 lane))

  given_more : (lane : ℕ) (t : Bool) → is_in lanes lane ≡ t
      → gives_from tags attr lanes rows numbers 0 (lane + 1) ≡ gives_from tags attr lanes rows numbers 0 lane ++ map (lane_give tags attr rows numbers) (cond t (lane ∷ []) [])
  given_more lane t is =
      ap (map (lane_give tags attr rows numbers)) (more lane ∙ ap (λ b. filter (is_in lanes) (range_with_len 0 lane) ++ cond b (lane ∷ []) []) is)
      ∙ map-append (lane_give tags attr rows numbers) (filter (is_in lanes) (range_with_len 0 lane)) (cond t (lane ∷ []) [])

  -- a lane of the set gives
  pub lane_told : (lane : ℕ) (before now next : List Give) → is_in lanes lane ≡ true → now ≡ before ++ gives_from tags attr lanes rows numbers 0 lane
      → next ≡ now ++ lane_give tags attr rows numbers lane ∷ [] → next ≡ before ++ gives_from tags attr lanes rows numbers 0 (lane + 1)
  lane_told lane before now next is was gave =
      gave
      ∙ ap (λ (l : List Give). l ++ lane_give tags attr rows numbers lane ∷ []) was
      ∙ append_assoc before (gives_from tags attr lanes rows numbers 0 lane) (lane_give tags attr rows numbers lane ∷ [])
      ∙ ap (λ (l : List Give). before ++ l) (sym (given_more lane true is))

  -- so the view that tells it
  pub lane_gave : (lane : ℕ) (start now next : View) → is_in lanes lane ≡ true → now ≡ giving_all start (gives_from tags attr lanes rows numbers 0 lane)
      → next ≡ giving now (lane_give tags attr rows numbers lane) → next ≡ giving_all start (gives_from tags attr lanes rows numbers 0 (lane + 1))
  lane_gave lane start now next is before gave =
      gave
      ∙ ap (λ (v : View). giving v (lane_give tags attr rows numbers lane)) before
      ∙ ap (λ (l : List Give). record start { gives = l })
      (lane_told lane start.gives (start.gives ++ gives_from tags attr lanes rows numbers 0 lane) ((start.gives ++ gives_from tags attr lanes rows numbers 0 lane) ++ lane_give tags attr rows numbers lane ∷ []) is refl refl)

  -- lanes that are not in the set give nothing
  pub none_between : (first count : ℕ) → ((k : ℕ) → first ≤ k → k < first + count → is_in lanes k ≡ false)
      → gives_from tags attr lanes rows numbers 0 first ≡ gives_from tags attr lanes rows numbers 0 (first + count)
  none_between first zero none = ap (gives_from tags attr lanes rows numbers 0) (omega arith)
  none_between first (suc count) none =
      none_between first count (λ k from below. none k from (omega (arith, below)))
      ∙ sym (given_more (first + count) false (none (first + count) (omega arith) (omega arith)) ∙ append-nil (gives_from tags attr lanes rows numbers 0 (first + count)))
      ∙ ap (gives_from tags attr lanes rows numbers 0) (omega arith)

-- the word of a number for a row
pub gave : (attr row : ℕ) (number : ℤ) (tags : List Tag) (tag : Tag) (width : ℕ) (amount : Amount) (word : ℕ) → width ≡ length tags → tag ≡ tag_at tags attr → word ≡ word_of tag amount → amount ≡ plain_amount number
    → record { word = row * width + attr; amount = word } ≡ number_give tags attr row number
gave attr row number tags tag width amount word wide same is plain =
    (λ i. record { word = row * wide i + attr; amount = is i })
    ∙ (λ i. record { word = row * length tags + attr; amount = word_of (same i) (plain i) })

-- no lane of the set between gives
pub to_lane : (tags : List Tag) (attr set : ℕ) (rows : List ℕ) (numbers : List ℤ) (next lane : ℕ) → next ≤ lane → ((k : ℕ) → next ≤ k → k < lane → is_in set k ≡ false)
    → gives_from tags attr set rows numbers 0 next ≡ gives_from tags attr set rows numbers 0 lane
to_lane tags attr set rows numbers next lane from none =
    let whole : next + (lane - next) ≡ lane = omega (arith, from) in
    none_between tags attr set rows numbers next (lane - next) (λ k behind below. none k behind (omega (arith, below, whole))) ∙ ap (gives_from tags attr set rows numbers 0) whole

-- the amounts up to the next lane have their ranges
pub fits_more : (numbers : List ℤ) (lane : ℕ) (amount : Amount) (number : ℤ) → lane < length numbers → amount ≡ plain_amount (slice_index_or numbers lane number) → is_amount amount ≡ true
    → (k : ℕ) → k < lane + 1 → (k < lane → is_amount (plain_amount (slice_index_or numbers k (pos 0))) ≡ true) → is_amount (plain_amount (slice_index_or numbers k (pos 0))) ≡ true
fits_more numbers lane amount number inside is fits k below lower = elim (cases_lt k lane) [
  | inl earlier ↦ lower earlier
  | inr reached ↦
      let same : k ≡ lane = omega (arith, below, reached) in
      ap (λ (n : ℕ). is_amount (plain_amount (slice_index_or numbers n (pos 0)))) same
      ∙ sym (ap is_amount (is ∙ ap plain_amount (get_or_default numbers lane number (pos 0) inside))) ∙ fits
]
