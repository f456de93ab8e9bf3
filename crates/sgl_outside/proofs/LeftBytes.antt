-- What is left of the file that is begun, and what a read of it moves.
use Rattle.std.proofs.Common.{◌≡◌, ◌≢◌, ◌<◌, ◌≤◌, ◌↔◌, IfSome, length-append, length-take, ◌∙◌, ◌+◌, ◌++◌, ℕ, Bool, true, false, min, List, [], length, take, drop, get_or, Option, None, Some, refl, sym, ap, ap₂, arith, slice_get, length-drop, option_map, option_and_then}
use Rattle.std.proofs.KnownBytes.{Consumes-nil}
use Rattle.std.proofs.lemmas.List.{take-append-drop, drop-drop, nil_from_length}
use Rattle.std.proofs.lemmas.List.Quantifiers.{position-Some}
use Rattle.std.proofs.lemmas.Option.{slice_get-get_or}
use Rattle.std.proofs.lemmas.Slice.Eq.{bytes_eq-Decides}
use Rattle.std.specs.Str.{bytes_eq}
use Rattle.std.specs.Io.KnownBytes.{Keeps, Consumes, IsAtEnd}
use Rattle.sgl_outside.specs.Folders.{BeginsIn, Moves}
use Rattle.sgl_outside.specs.Shelves.{HeldFile, place_of, held_in, left_of, left_in}

-- the file's own name
pub left_hit : (f : HeldFile) (name : List ℕ) (at : ℕ) → f.0 ≡ name → left_of name at (Some f) ≡ drop at f.1
left_hit f name at same = rw ((bytes_eq-Decides f.0 name).1 same) refl

no_true : (b : Bool) → (b ≡ true → ⊥) → b ≡ false
no_true true h = absurd (h refl)
no_true false h = refl

-- another name
pub left_miss : (f : HeldFile) (name other : List ℕ) (at : ℕ) → f.0 ≡ name → other ≢ name → left_of other at (Some f) ≡ []
left_miss f name other at same differs =
    rw (no_true (bytes_eq f.0 other) (λ yes. differs (sym ((bytes_eq-Decides f.0 other).0 yes) ∙ same))) refl

pub begins_at : (files : List HeldFile) (name : List ℕ) (i : ℕ) → place_of files name ≡ Some i → BeginsIn (held_in files) (left_in files (Some i) 0) name
begins_at files name i found =
    let none : HeldFile = ([], []) in
    let spot = position-Some (λ (f : HeldFile). bytes_eq f.0 name) files i none found in
    let f : HeldFile = get_or files i none in
    let here : slice_get files i ≡ Some f = slice_get-get_or files i none spot.0 in
    let same : f.0 ≡ name = (bytes_eq-Decides f.0 name).0 spot.1 in
    let held : held_in files name ≡ Some f.1 =
    ap (λ o. option_and_then (λ k. option_map (λ (f : HeldFile). f.1) (slice_get files k)) o) found ∙ ap (option_map (λ (f : HeldFile). f.1)) here in
    record {
      held = rw held refl;
      whole = ap (λ o. Some (left_of name 0 o)) here ∙ (ap Some (left_hit f name 0 same) ∙ sym held);
      others = λ other differs. ap (λ o. Some (left_of other 0 o)) here ∙ ap Some (left_miss f name other 0 same differs);
    }

-- a front of what is left of the begun file moves to the buffer
pub moves_front : (files : List HeldFile) (i at count : ℕ) (name buf : List ℕ) (f : HeldFile) → slice_get files i ≡ Some f → f.0 ≡ name
    → count ≡ min (length (drop at f.1)) (length buf) → take count buf ≡ take count (drop at f.1)
    → Moves (left_in files (Some i) at) (left_in files (Some i) (at + count)) name count buf
moves_front files i at count name buf f here same whole front =
    let before : left_of name at (slice_get files i) ≡ drop at f.1 = ap (left_of name at) here ∙ left_hit f name at same in
    let after : left_of name (at + count) (slice_get files i) ≡ drop (at + count) f.1 = ap (left_of name (at + count)) here ∙ left_hit f name (at + count) same in
    let cut : take count (drop at f.1) ++ drop (at + count) f.1 ≡ drop at f.1 =
    ap (λ ys. take count (drop at f.1) ++ ys) (sym (drop-drop count at f.1)) ∙ take-append-drop count (drop at f.1) in
    record {
      fits = omega arith;
      taken = before ∙ (sym cut ∙ ap₂ (λ xs ys. xs ++ ys) (sym front) (sym after));
      end = λ none room. after ∙ nil_from_length (drop (at + count) f.1) (omega (arith, length-drop (at + count) f.1, length-drop at f.1));
      others = λ other differs. (ap (left_of other (at + count)) here ∙ left_miss f name other (at + count) same differs)
          ∙ sym (ap (left_of other at) here ∙ left_miss f name other at same differs);
    }

keeps_left : (files : List HeldFile) (begun : Option ℕ) (at : ℕ) (name : List ℕ) → Keeps (left_in files begun at name) (left_in files begun at name)
keeps_left files None at name = refl
keeps_left files (Some i) at name = refl

-- where no byte of the name is left, nothing moves
pub moves_nothing : (files : List HeldFile) (begun : Option ℕ) (at : ℕ) (name buf : List ℕ) → left_in files begun at name ≡ Some []
    → Moves (left_in files begun at) (left_in files begun at) name 0 buf
moves_nothing files begun at name buf none = record {
  fits = omega arith;
  taken = Consumes-nil (left_in files begun at name);
  end = λ _ _. rw none refl;
  others = λ other differs. keeps_left files begun at other;
}

-- the same of the bytes left before and after it
told_none : (old new : Option (List ℕ)) (buf : List ℕ) (count : ℕ) → count ≤ length buf → Consumes old new (take count buf) → (count ≡ 0 → IsAtEnd new)
    → IfSome old (λ left. (count ≡ 0) ↔ (left ≡ []))
told_none None new buf count fits taken end = tt
told_none (Some left) None buf count fits taken end = absurd taken
told_none (Some left) (Some rest) buf count fits taken end = (
  λ none. taken ∙ (rw none (end none)),
  λ empty. omega (arith, length-take count buf, length-append (take count buf) rest, ap length (sym taken ∙ empty)),
)

-- with room in the buffer, a read answers 0 exactly where no byte is left
pub reads_none : (old new : List ℕ → Option (List ℕ)) (name buf : List ℕ) (count : ℕ) → Moves old new name count buf → 0 < length buf
    → IfSome (old name) (λ left. (count ≡ 0) ↔ (left ≡ []))
reads_none old new name buf count moves room = told_none (old name) (new name) buf count moves.fits moves.taken (λ none. moves.end none room)
