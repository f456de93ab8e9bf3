-- One more window that was swept, and its answer.
use Rattle.std.proofs.Common.{◌≡◌, ◌∙◌, ◌<◌, ℕ, List, length, get_or, set, replicate, sym, ap, subst, arith, ⊎_elim, get_or-set_other}
use Rattle.std.proofs.lemmas.Bool.{cases_eq}
use Rattle.std.proofs.lemmas.Grind.{get_or-set_at}
use Rattle.std.proofs.lemmas.List.{get_or-map, get_or-replicate, length-map, length-replicate, length-set}
use Rattle.std.specs.Prelude.{None}
use Rattle.extreme_sweep.specs.Answers.{least_at, unswept, window_at, AreFound, AreSwept, IsRankFor}
use Rattle.extreme_sweep.specs.Ranking.{pair_of}
use Rattle.extreme_sweep.specs.Sweeping.{laid_points}
use Rattle.extreme_sweep.specs.declared.layout.Layout.{Layout}
use Rattle.extreme_sweep.specs.declared.window.Window.{Window}

module _ (layout : Layout) (windows : List Window) where
  -- no window was swept yet
  pub swept-none : (ranks : List ℕ) → ranks ≡ replicate (length windows) unswept → AreSwept layout windows ranks
  swept-none ranks is = record {
    count = ap length is ∙ length-replicate (length windows) unswept;
    each = λ k below told. absurd (told (ap (λ l. get_or l k 0) is ∙ get_or-replicate (length windows) k unswept 0 below));
  }

  -- the rank of one window is written
  pub swept-given : (ranks : List ℕ) (n rank : ℕ) → n < length windows → pair_of layout.ranked.items rank ≡ least_at (laid_points layout) windows n
      → AreSwept layout windows ranks → AreSwept layout windows (set ranks n rank)
  swept-given ranks n rank inside is old = record {
    count = length-set ranks n rank ∙ old.count;
    each = λ k below. ⊎_elim
        (λ same told. ap (pair_of layout.ranked.items) (get_or-set_at ranks n k rank 0 same (omega (arith, inside, old.count))) ∙ is ∙ ap (least_at (laid_points layout) windows) (sym same))
        (λ other. subst (IsRankFor layout (window_at windows k)) (sym (get_or-set_other ranks n k rank 0 other)) (old.each k below))
        (cases_eq k n);
  }

  module _ (turns found : List ℕ) (are : AreFound layout windows turns found) where
    pub found-all : length found ≡ length turns
    found-all = sym (length-map found (pair_of layout.ranked.items)) ∙ ap length are ∙ length-map turns (least_at (laid_points layout) windows)

    pub found-at : (k : ℕ) → k < length turns → pair_of layout.ranked.items (get_or found k 0) ≡ least_at (laid_points layout) windows (get_or turns k 0)
    found-at k inside =
        sym (get_or-map (pair_of layout.ranked.items) found k 0 None (omega (arith, inside, found-all)))
        ∙ ap (λ l. get_or l k None) are ∙ get_or-map (least_at (laid_points layout) windows) turns k 0 None inside
