-- The words of a seat that is alone, after one more give.
use Rattle.std.proofs.Common.{◌≡◌, ◌≢◌, ℕ, ◌<◌, ◌==◌, eq-eqb, Bool, true, false, true≢false, List, [], ◌∷◌, length, map, get_or, set, sym, refl, ap, ◌∙◌, subst, arith}
use Rattle.std.proofs.Math.ListN.{length-set}
use Rattle.std.specs.List.{range_with_len}
use Rattle.std.proofs.lemmas.Bool.Decides.{nat_tests}
use Rattle.std.proofs.lemmas.List.{get_or-set_same, get_or-set_other}
use Rattle.std.proofs.lemmas.List.FromFn.{get_or-map-range_with_len, length-map-range_with_len}
use Rattle.sgl_values.specs.declared.fault.Tag.{Tag}
use Rattle.effect_combine.specs.Words.{start_of, merged}
use Rattle.tick_core.specs.Core.{tag_of}
use Rattle.tick_core.specs.Fair.{gathered}
use Rattle.tick_core.specs.declared.event.Give.{Give}
use Rattle.tick_core.proofs.Gathering.{gathered-append, gathered-here, gathered-apart}
use Rattle.effect_board.specs.Views.{gives_in}

pub same_is : (a b : ℕ) → (a == b) ≡ true → a ≡ b
same_is a b told = grind (arith, nat_tests)

-- each word is its start word merged with these gives, and with those that numbers tell
abbrev pub IsMerged : List Tag → List ℕ → List Give → Type 0
IsMerged tags items gives = (word : ℕ) → word < length items → get_or items word 0 ≡ gathered (tag_of tags word) word gives

abbrev pub AreOwn : List Tag → List ℕ → List ℕ → Type 0
AreOwn tags items numbers = IsMerged tags items (gives_in numbers)

-- so it is at the start
pub own_starts : (tags : List Tag) (count : ℕ) → IsMerged tags (map (λ word. start_of (tag_of tags word)) (range_with_len 0 count)) []
own_starts tags count word inside =
    let start : ℕ → ℕ = λ word. start_of (tag_of tags word) in
    let long = length-map-range_with_len start 0 count in
    get_or-map-range_with_len start 0 count word word 0 (omega (arith, inside, long)) (omega arith)

module _ (tags : List Tag) (items numbers : List ℕ) (word amount : ℕ) (own : AreOwn tags items numbers) (inside : word < length items) where
  abbrev give : Give
  give = record { word = word; amount = amount }

  abbrev merge : ℕ
  merge = merged (tag_of tags word) (get_or items word 0) amount

  own_here : get_or (set items word merge) word 0 ≡ gathered (tag_of tags word) word (gives_in (word ∷ amount ∷ numbers))
  own_here =
      get_or-set_same items word merge 0 inside
      ∙ ap (λ (n : ℕ). merged (tag_of tags word) n amount) (own word inside)
      ∙ sym (gathered-here (tag_of tags word) word amount (gives_in numbers))
      ∙ sym (gathered-append (tag_of tags word) word (gives_in numbers) (give ∷ []))

  own_apart : (other : ℕ) → other ≢ word → other < length items
      → get_or (set items word merge) other 0 ≡ gathered (tag_of tags other) other (gives_in (word ∷ amount ∷ numbers))
  own_apart other apart below =
      get_or-set_other items word other merge 0 apart
      ∙ own other below
      ∙ sym (gathered-apart (tag_of tags other) other (gives_in numbers) give (λ same. apart (sym same)))
      ∙ sym (gathered-append (tag_of tags other) other (gives_in numbers) (give ∷ []))

  own_either : (other : ℕ) (b : Bool) → (other == word) ≡ b → other < length items
      → get_or (set items word merge) other 0 ≡ gathered (tag_of tags other) other (gives_in (word ∷ amount ∷ numbers))
  own_either other true is below =
      subst (λ (n : ℕ). get_or (set items word merge) n 0 ≡ gathered (tag_of tags n) n (gives_in (word ∷ amount ∷ numbers))) (sym (same_is other word is)) own_here
  own_either other false is below = own_apart other (λ same. true≢false (sym (eq-eqb other word same) ∙ is)) below

  pub own_more : AreOwn tags (set items word merge) (word ∷ amount ∷ numbers)
  own_more other below =
      let long = length-set items word merge in
      own_either other (other == word) refl (omega (arith, below, long))
