-- The lines of spectators, one behind the other.
use Rattle.std.proofs.Common.{◌≡◌, ◌∙◌, ◌+◌, ◌<◌, ◌++◌, ℕ, suc, List, [], ◌∷◌, length, map, drop, get_or, refl, sym, ap, arith, append_assoc}
use Rattle.std.proofs.Math.ListN.{get_or-map}
use Rattle.std.proofs.Math.Seq.{drop-cons}
use Rattle.std.proofs.lemmas.List.{get_or_default, length-map}
use Rattle.battle_report.specs.RunLines.{watch_line}
use Rattle.battle_report.specs.declared.watch_line.Look.{Look}
use Rattle.sgl_values.specs.World.{World}
use Rattle.battle_watch.specs.Watches.{AreWatches, watch_text}
use Rattle.battle_watch.specs.Watching.{Watching}

-- the line of one spectator more
watch_next : (xs : List (List Look)) (n : ℕ) → n < length xs → watch_text n (drop n xs) ≡ watch_line n (get_or xs n []) ++ watch_text (n + 1) (drop (n + 1) xs)
watch_next xs n inside =
    let one : suc n ≡ n + 1 = omega arith in
    ap (watch_text n) (drop-cons xs n [] inside) ∙ ap (λ k. watch_line n (get_or xs n []) ++ watch_text k (drop k xs)) one

-- the same behind the lines of those before it, where these are its notes
pub watch_more : (watches : List Watching) (n : ℕ) (watch : Watching) (notes : List Look) (done : List ℕ) → n < length watches
    → watch ≡ get_or watches n watch → notes ≡ watch.notes
    → done ++ watch_text n (drop n (map (λ w. w.notes) watches)) ≡ watch_text 0 (map (λ w. w.notes) watches)
    → (done ++ watch_line n notes) ++ watch_text (n + 1) (drop (n + 1) (map (λ w. w.notes) watches)) ≡ watch_text 0 (map (λ w. w.notes) watches)
watch_more watches n watch notes done inside at is before =
    let notes_of : Watching → List Look = λ w. w.notes in
    let all : List (List Look) = map notes_of watches in
    let rest : List ℕ = watch_text (n + 1) (drop (n + 1) all) in
    let within : n < length all = omega (arith, length-map watches notes_of) in
    let same : notes ≡ get_or all n [] =
    is ∙ (ap notes_of at ∙ (sym (get_or-map notes_of watches n watch) ∙ get_or_default all n watch.notes [] within)) in
    append_assoc done (watch_line n notes) rest
    ∙ (ap (λ ns. done ++ (watch_line n ns ++ rest)) same ∙ (ap (λ t. done ++ t) (sym (watch_next all n within)) ∙ before))

-- without spectators there is no line
pub no_text : (all : List World) (looks : ℕ) (watches : List (List Look)) → AreWatches all 0 looks watches → watch_text 0 watches ≡ []
no_text all looks [] are = refl
no_text all looks (notes ∷ watches) are = absurd (omega (arith, are.full))
