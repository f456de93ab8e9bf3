use Rattle.std.proofs.Common.{◌≡◌, ◌∙◌, ◌<◌, ◌++◌, ℕ, List, [], ◌∷◌, ap, arith, get_or, inl, inr, length, map, pos, subst, sym}
use Rattle.std.specs.Prelude.{None}
use Rattle.std.proofs.lemmas.Bool.{cases_lt}
use Rattle.std.proofs.lemmas.List.{get_or-map, get_or_append_left, get_or_push, get_or_read, length-map, length_push}
use Rattle.extreme_sweep.specs.declared.layout.Layout.{Layout}
use Rattle.extreme_sweep.specs.declared.layout.Span.{Span}
use Rattle.extreme_sweep.specs.declared.window.Window.{Window}
use Rattle.extreme_sweep.specs.Answers.{window_at}
use Rattle.extreme_sweep.specs.Sweeping.{IsSpan}
use Rattle.extreme_sweep.proofs.piece.Piece.spans.Goals as goal

-- one span more
spanned-more : (layout : Layout) (windows : List Window) (turns : List ℕ) (spans : List Span) (n : ℕ) (span : Span) → length spans ≡ n
    → ((k : ℕ) (d : Span) → k < length spans → IsSpan layout (window_at windows (get_or turns k 0)) (get_or spans k d))
    → IsSpan layout (window_at windows (get_or turns n 0)) span
    → (k : ℕ) (d : Span) → k < length (spans ++ span ∷ []) → IsSpan layout (window_at windows (get_or turns k 0)) (get_or (spans ++ span ∷ []) k d)
spanned-more layout windows turns spans n span size each is k d below = elim (cases_lt k n) [
  | inl before ↦
      subst (IsSpan layout (window_at windows (get_or turns k 0))) (sym (get_or_append_left spans (span ∷ []) d k (omega (arith, before, size)))) (each k d (omega (arith, before, size)))
  | inr behind ↦
      let last : n ≡ k = omega (arith, behind, below, size, length_push spans span) in
      subst (IsSpan layout (window_at windows (get_or turns k 0))) (sym (get_or_push spans span d k (size ∙ last)))
      (subst (λ (j : ℕ). IsSpan layout (window_at windows (get_or turns j 0)) span) last is)
]

abbrev none : Window
none = record { x1 = pos 0; x2 = pos 0; y1 = pos 0; y2 = pos 0; other_than = None }

-- the window that was read is that of the turn
window-read : (windows found : List Window) (turns : List ℕ) (k : ℕ) (window : Window) → found ≡ map (window_at windows) turns → k < length found → window ≡ get_or found k window
    → window ≡ window_at windows (get_or turns k 0)
window-read windows found turns k window are inside is =
    get_or_read found k window inside is none ∙ ap (λ l. get_or l k none) are
    ∙ get_or-map (window_at windows) turns k 0 none (omega (arith, inside, ap length are, length-map turns (window_at windows)))

pub loop-number-preserved : goal.loop-number-preserved
loop-number-preserved c =
    let layout = c.args.self.layout.now in let windows = c.args.self.windows.now in let turns = c.args.self.turns.now in
    let spans = c.loop-number.spans.items in let n = c.loop-number.number in let old = c.loop-number.invariant in let more = c.in_ok-push.ensures.items in
    let found = c.in_ok-windows.windows.items in
    let read = window-read windows found turns n c.index.result.now (c.in_ok-windows.ensures none) (omega (arith, c.loop-number-test.true, c.len-number-end.ensures)) c.index.ensures in
    record {
      count = omega (arith, ap length more, length_push spans c.span.result, old.count);
      each = subst (λ (l : List Span). (k : ℕ) (d : Span) → k < length l → IsSpan layout (window_at windows (get_or turns k 0)) (get_or l k d)) (sym more)
          (spanned-more layout windows turns spans n c.span.result old.count old.each (subst (λ w. IsSpan layout w c.span.result) read c.span.ensures));
    }

pub returns : goal.returns
returns c =
    let windows = c.args.self.windows.now in let turns = c.args.self.turns.now in let old = c.loop-number.invariant in
    let are = c.in_ok-windows.ensures none in
    record {
      count = omega (arith, old.count, c.loop-number-test.false, c.loop-number.auto.number-end, c.len-number-end.ensures, ap length are, length-map turns (window_at windows));
      each = old.each;
    }
