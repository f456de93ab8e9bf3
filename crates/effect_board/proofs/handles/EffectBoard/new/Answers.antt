use Rattle.std.proofs.Common.{◌≡◌, ℕ, ◌+◌, ◌*◌, ◌<◌, ◌^◌, List, [], ◌∷◌, ◌++◌, length, sym, ap, ◌∙◌, subst, arith, length-take}
use Rattle.std.proofs.lemmas.List.FromFn.{length-map-range_with_len}
use Rattle.sgl_values.specs.declared.fault.Tag.{Tag}
use Rattle.effect_combine.specs.Words.{start_of}
use Rattle.tick_core.specs.Core.{start_words, tag_of}
use Rattle.effect_board.specs.declared.view.View.{View}
use Rattle.effect_board.specs.Rule.{Kept}
use Rattle.effect_board.specs.Views.{first_view, gives_in, own_rows, table_rows}
use Rattle.effect_board.proofs.Keeping.{starts, starts_long}
use Rattle.effect_board.proofs.Own.{IsMerged, own_starts}
use Rattle.effect_board.proofs.handles.EffectBoard.new.Goals as goal

pub of_words-requires : goal.of_words-requires
of_words-requires c =
    let tags : List Tag = c.in_ok-tags.tags.items in
    let rows : ℕ = c.table_rows-shared.result in
    let fits = c.ranges.tasks.fits in
    let small : c.args.tasks < 2 ^ 32 = omega (arith, fits) in
    let words : c.as_slice-4.result.now ≡ 0 ∷ start_words rows tags
    = c.as_slice-4.ensures.value ∙ c.in_ok-room.ensures ∙ ap (λ (l : List Tag). 0 ∷ start_words rows l) c.as_slice-3.ensures.value in
    subst (λ (p : ℕ × List ℕ). Kept c.args.tasks p.0 tags p.1 (first_view c.args.tasks tags ∷ [])) (λ k. (c.table_rows-shared.ensures k, sym words k)) (starts c.args.tasks rows tags small)

pub invariant_of-board-clause-words : goal.invariant_of-board-clause-words
invariant_of-board-clause-words c =
    let tags : List Tag = c.in_ok-tags.tags.items in
    let rows : ℕ = c.table_rows-shared.result in
    c.in_ok-table.ensures.0
    ∙ ap length (c.as_slice-4.ensures.value ∙ c.in_ok-room.ensures ∙ ap (λ (l : List Tag). 0 ∷ start_words rows l) c.as_slice-3.ensures.value)
    ∙ starts_long rows tags
    ∙ ap (λ (n : ℕ). n * length tags + 1) c.table_rows-shared.ensures

pub invariant_of-board-clause-roomy : goal.invariant_of-board-clause-roomy
invariant_of-board-clause-roomy c =
    let tags : List Tag = c.in_ok-tags.tags.items in
    let rows : ℕ = c.table_rows-shared.result in
    let room : List ℕ = c.in_ok-room.room.items in
    let long : length room ≡ rows * length tags + 1
    = ap length (c.in_ok-room.ensures ∙ ap (λ (l : List Tag). 0 ∷ start_words rows l) c.as_slice-3.ensures.value) ∙ starts_long rows tags in
    let wide : rows * c.len.result ≡ rows * length tags = ap (λ (n : ℕ). rows * n) (c.len.ensures ∙ c.in_ok-tags.tags.ok.0) in
    let cut = ap length c.truncate.ensures.items ∙ length-take (rows * c.len.result) room in
    let all : rows * length tags ≡ table_rows c.args.alone c.args.rows * length tags = ap (λ (n : ℕ). n * length tags) c.table_rows-shared.ensures in
    omega (arith, long, wide, cut, all)

pub invariant_of-seat-clause-own_is : goal.invariant_of-seat-clause-own_is
invariant_of-seat-clause-own_is c =
    let tags : List Tag = c.in_ok-tags.tags.items in
    let me = c.in_ok-table.ensures.4 in
    let own : c.in_ok-own.own.items ≡ start_words (own_rows c.args.alone c.args.rows) tags
    = c.in_ok-own.ensures ∙ ap (start_words (own_rows c.args.alone c.args.rows)) c.as_slice-2.ensures.value in
    subst (λ (p : List Tag × List ℕ × List ℕ). IsMerged p.0 p.1 (gives_in p.2)) (λ k. (sym (ap (λ (m : View × List (ℕ × ℕ)). m.0.tags) me) k, sym own k, sym c.empty.ensures k))
    (own_starts tags (own_rows c.args.alone c.args.rows * length tags))

pub returns-clause-seat : goal.returns-clause-seat
returns-clause-seat c =
    let tags : List Tag = c.in_ok-tags.tags.items in
    let me = c.in_ok-table.ensures.4 in
    let start : ℕ → ℕ = λ word. start_of (tag_of tags word) in
    let same : tags ≡ c.args.tags.now = c.in_ok-tags.ensures.items ∙ c.as_slice.ensures in (
      record {
        table = c.in_ok-table.ensures.2;
        tasks = ap (λ (m : View × List (ℕ × ℕ)). m.0.tasks) me;
        tags = ap (λ (m : View × List (ℕ × ℕ)). m.0.tags) me;
        own = ap length (c.in_ok-own.ensures ∙ ap (start_words (own_rows c.args.alone c.args.rows)) c.as_slice-2.ensures.value)
            ∙ length-map-range_with_len start 0 (own_rows c.args.alone c.args.rows * length tags);
      },
      (λ k. record (me k).0 { gives = gives_in (c.empty.ensures k) ++ (me k).0.gives }) ∙ ap (first_view c.args.tasks) same,
    )
