use Rattle.std.proofs.Common.{◌≡◌, ◌∙◌, ◌<◌, ℕ, List, [], ◌∷◌, ◌++◌, length, map, w64, ap, sym, subst, arith, rules}
use Rattle.std.proofs.lemmas.Int.{to_z-of_z}
use Rattle.std.proofs.lemmas.List.{length_push, map_push}
use Rattle.std.proofs.lemmas.List.Elements.{All-push}
use Rattle.std.specs.Prelude.{All}
use Rattle.extreme_sweep.specs.Answers.{window_at}
use Rattle.extreme_sweep.proofs.turn.asked_of.Goals as goal
use Rattle.extreme_sweep.proofs.turn.asked_of.Goals.{then-not-is_reversed+in_ok-push+in_ok-push-2, else-not-is_reversed}

pub loop-number-preserved : goal.loop-number-preserved
loop-number-preserved c =
    let windows = c.args.windows.now in let n = c.loop-number.number in let numbers = c.loop-number.numbers.items in
    let Inside : ℕ → Type 0 = λ number. number < length windows in
    let left : ℕ → _ = λ number. (window_at windows number).x1 in
    let old = c.loop-number.invariant in
    elim c.if-not-is_reversed.branch [
      | then-not-is_reversed+in_ok-push+in_ok-push-2 w ↦
          let more : c.if-not-is_reversed.numbers.items ≡ numbers ++ n ∷ [] = (λ i. (w.numbers-is i).items) ∙ w.in_ok-push.ensures.items in
          record {
            few = omega (arith, old.few, ap length more, length_push numbers n);
            inside = subst (All Inside) (sym more) (All-push Inside numbers n old.inside c.loop-number-test.true);
            lefts = (λ i. (w.lefts-is i).items) ∙ w.in_ok-push-2.ensures.items ∙ (λ i. old.lefts i ++ to_z-of_z w64 (left n) (search rules) i ∷ [])
                ∙ sym (ap (map left) more ∙ map_push left numbers n);
          }
      | else-not-is_reversed w ↦ record {
        few = omega (arith, old.few, ap (λ (l : List ℕ). length l) (λ i. (w.numbers-is i).items));
        inside = subst (All Inside) (sym (λ i. (w.numbers-is i).items)) old.inside;
        lefts = (λ i. (w.lefts-is i).items) ∙ old.lefts ∙ ap (map left) (sym (λ i. (w.numbers-is i).items));
      }
    ]
