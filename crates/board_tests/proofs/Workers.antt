-- The seats after the work: the last is the first seat, and the others are not.
use Rattle.std.proofs.Common.{◌≡◌, ℕ, zero, suc, ◌<◌, List, [], ◌∷◌, ◌++◌, Some, length, get_or, sym, refl, ap, ◌∙◌, subst, arith}
use Rattle.std.specs.Prelude.{All}
use Rattle.std.proofs.lemmas.List.{length_push}
use Rattle.std.proofs.lemmas.List.Elements.{All-pop}
use Rattle.effect_board.specs.declared.handles.Seat.{Seat}
use Rattle.effect_board.specs.declared.handles.EffectBoard.{EffectBoard}
use Rattle.board_tests.specs.Workers.{IsWorker, IsLater, IsSame}

front_is : {A : Type 0} (xs : List A) (x : A) (k : ℕ) (d : A) → k < length xs → get_or (xs ++ x ∷ []) k d ≡ get_or xs k d
front_is [] x k d inside = absurd (omega (arith, inside))
front_is (y ∷ xs) x zero d inside = refl
front_is (y ∷ xs) x (suc k) d inside = front_is xs x k d (omega (arith, inside))

last_is : {A : Type 0} (xs : List A) (x d : A) (n : ℕ) → n ≡ length xs → get_or (xs ++ x ∷ []) n d ≡ x
last_is [] x d zero is = refl
last_is [] x d (suc n) is = absurd (omega (arith, is))
last_is (y ∷ xs) x d zero is = absurd (omega (arith, is))
last_is (y ∷ xs) x d (suc n) is = last_is xs x d n (omega (arith, is))

pub record Parted (board : EffectBoard) (others front : List Seat) (first last : Seat) : Type 0 where
  pub workers : All (IsWorker board) front
  pub worker : IsWorker board last
  pub later : All IsLater front
  pub same : IsSame first last
  pub long : length front ≡ length others

pub parted : (board : EffectBoard) (others old now front : List Seat) (first last : Seat) → old ≡ others ++ first ∷ [] → now ≡ front ++ last ∷ [] → length now ≡ length old
    → All (IsWorker board) now → ((i : ℕ) (d : Seat) → i < length old → IsSame (get_or old i d) (get_or now i d)) → All IsLater others → Parted board others front first last
parted board others old now front first last was is long workers same later =
    let before = length_push others first in
    let after = length_push front last in
    let old_long = ap length was in
    let now_long = ap length is in
    let equal : length front ≡ length others = omega (arith, before, after, old_long, now_long, long) in
    let popped = All-pop (IsWorker board) now front (Some last) is workers in
    let each : (i : ℕ) (d : Seat) → i < length old → IsSame (get_or (others ++ first ∷ []) i d) (get_or (front ++ last ∷ []) i d)
    = λ i d inside. subst (λ (p : List Seat × List Seat). IsSame (get_or p.0 i d) (get_or p.1 i d)) (λ k. (was k, is k)) (same i d inside) in
    record {
      workers = popped.0;
      worker = popped.1;
      later = λ k d inside none.
          let there : k < length others = omega (arith, inside, equal) in
          let both : IsSame (get_or others k d) (get_or front k d)
          = subst (λ (p : Seat × Seat). IsSame p.0 p.1) (λ j. (front_is others first k d there j, front_is front last k d inside j)) (each k d (omega (arith, there, before, old_long))) in
          later k d there (sym both.number ∙ none);
      same = subst (λ (p : Seat × Seat). IsSame p.0 p.1) (λ j. (last_is others first last (length others) refl j, last_is front last last (length others) (sym equal) j))
          (each (length others) last (omega (arith, before, old_long)));
      long = equal;
    }
