-- What a stage has shown, where there is one.
use Rattle.std.proofs.Common.{◌≡◌, ◌∙◌, ◌+◌, ℕ, List, refl, sym, ap, subst}
use Rattle.std.specs.Prelude.{IfSome, MatchOption, Option, None, Some, slice_get}
use Rattle.sgl_values.specs.World.{World}
use Rattle.battle_watch.specs.Stages.{one_more, with_shown}

-- one world more
pub shown_more : (count : ℕ) (stage now next : Option ℕ) → now ≡ with_shown count stage → next ≡ one_more now → next ≡ with_shown (count + 1) stage
shown_more count None now next so_far more = more ∙ ap one_more so_far
shown_more count (Some shown) now next so_far more = more ∙ ap one_more so_far

-- what stands at the next position is what it shows next
pub shown_next : (all : List World) (count : ℕ) (stage now : Option ℕ) (world : World) → now ≡ with_shown count stage → slice_get all count ≡ Some world
    → IfSome now (λ position. slice_get all position ≡ Some world)
shown_next all count None now world so_far entry = subst (λ s. IfSome s (λ position. slice_get all position ≡ Some world)) (sym so_far) tt
shown_next all count (Some shown) now world so_far entry = subst (λ s. IfSome s (λ position. slice_get all position ≡ Some world)) (sym so_far) entry

-- it has shown the first world
pub shown_first : (stage : Option ℕ) (spectators : ℕ) → MatchOption stage (spectators ≡ 0) (λ shown. shown ≡ 1) → stage ≡ with_shown 1 stage
shown_first None spectators is = refl
shown_first (Some shown) spectators is = ap Some is

-- it has shown all worlds
pub shown_all : (stage now : Option ℕ) (spectators watches count : ℕ) → MatchOption stage (spectators ≡ 0) (λ shown. shown ≡ 1) → watches ≡ spectators → now ≡ with_shown count stage
    → MatchOption now (watches ≡ 0) (λ shown. shown ≡ count)
shown_all None now spectators watches count is full shown = subst (λ s. MatchOption s (watches ≡ 0) (λ n. n ≡ count)) (sym shown) (full ∙ is)
shown_all (Some first) now spectators watches count is full shown = subst (λ s. MatchOption s (watches ≡ 0) (λ n. n ≡ count)) (sym shown) refl
