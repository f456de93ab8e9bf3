-- What is found for windows, and in which order.
use Rattle.std.specs.Prelude.{◌≡◌, ◌≢◌, ℕ, ◌+◌, ◌*◌, ◌<◌, ◌≤◌, min, List, map, Option, None, length, slice_index_or, slice_range, All, Vec, pos}
use Rattle.std.specs.Global.{Global}
use Rattle.extreme_sweep.specs.declared.layout.Layout.{Layout}
use Rattle.extreme_sweep.specs.declared.layout.Span.{Span}
use Rattle.extreme_sweep.specs.declared.pair.Pair.{Pair}
use Rattle.extreme_sweep.specs.declared.piece.Piece.{Piece}
use Rattle.extreme_sweep.specs.declared.turn.Asked.{Asked}
use Rattle.extreme_sweep.specs.declared.window.SweepPoint.{SweepPoint}
use Rattle.extreme_sweep.specs.declared.window.Window.{Window}
use Rattle.extreme_sweep.specs.Ranking.{pair_of}
use Rattle.extreme_sweep.specs.Sweeping.{laid_points, IsLayout, IsSpan}
use Rattle.extreme_sweep.specs.Windows.{least_inside}

abbrev pub window_at : List Window → ℕ → Window
window_at windows k = slice_index_or windows k record { x1 = pos 0; x2 = pos 0; y1 = pos 0; y2 = pos 0; other_than = None }

-- the windows that a point can be in: their numbers, and the left end of each
pub record AreAsked (windows : List Window) (asked : Asked) : Type 0 where
  pub few : length asked.numbers.items ≤ length windows
  pub inside : All (λ number. number < length windows) asked.numbers.items
  pub lefts : asked.lefts.items ≡ map (λ number. (window_at windows number).x1) asked.numbers.items

-- each is the number of a window
abbrev pub AreTurns : List Window → List ℕ → Type 0
AreTurns windows turns = All (λ number. number < length windows) turns

-- the points of a piece are laid out, and its turns are numbers of its windows
pub record IsPiece (piece : Piece) : Type 0 where
  pub laid : IsLayout piece.layout.now
  pub within : AreTurns piece.windows.now piece.turns.now

-- turn by turn, where the window lies
pub record AreSpans (layout : Layout) (windows : List Window) (turns : List ℕ) (spans : List Span) : Type 0 where
  pub count : length spans ≡ length turns
  pub each : (k : ℕ) (d : Span) → k < length spans → IsSpan layout (window_at windows (slice_index_or turns k 0)) (slice_index_or spans k d)

-- what is to be found for the window with a number
abbrev pub least_at : List SweepPoint → List Window → ℕ → Option Pair
least_at points windows number = least_inside points (window_at windows number)

-- the turns of the piece with a number, where pieces have so many turns
abbrev pub turns_of_piece : List ℕ → ℕ → ℕ → List ℕ
turns_of_piece turns number size = slice_range turns (min (number * size) (length turns)) (min (min (number * size) (length turns) + size) (length turns))

-- turn by turn, the rank of the least pair that is to be found
abbrev pub AreFound : Layout → List Window → List ℕ → List ℕ → Type 0
AreFound layout windows turns ranks = map (pair_of layout.ranked.items) ranks ≡ map (least_at (laid_points layout) windows) turns

-- the same piece by piece
abbrev pub AreFoundByPiece : Layout → List Window → List ℕ → ℕ → List (Vec ℕ Global) → Type 0
AreFoundByPiece layout windows turns size pieces =
    (number : ℕ) (none : Vec ℕ Global) → number < length pieces → AreFound layout windows (turns_of_piece turns number size) (slice_index_or pieces number none).items

-- in the place of a rank: the window was not swept
abbrev pub unswept : ℕ
unswept = 4294967294

-- a rank is that of the least pair of the points in a window, if it was swept
abbrev pub IsRankFor : Layout → Window → ℕ → Type 0
IsRankFor layout window rank = rank ≢ unswept → pair_of layout.ranked.items rank ≡ least_inside (laid_points layout) window

-- the same window by window
pub record AreSwept (layout : Layout) (windows : List Window) (ranks : List ℕ) : Type 0 where
  pub count : length ranks ≡ length windows
  pub each : (number : ℕ) → number < length windows → IsRankFor layout (window_at windows number) (slice_index_or ranks number 0)

-- the windows of the turns are given the ranks that were found
abbrev pub Gives : List ℕ → List ℕ → List ℕ → List ℕ → Type 0
Gives before turns ranks after = (layout : Layout) (windows : List Window) → AreFound layout windows turns ranks → AreSwept layout windows before → AreSwept layout windows after

-- the same told of the points by rising pair alone, for one window and window by window
abbrev pub IsRankIn : List SweepPoint → Window → ℕ → Type 0
IsRankIn points window rank = rank ≢ unswept → pair_of points rank ≡ least_inside points window

pub record AreRanks (points : List SweepPoint) (windows : List Window) (ranks : List ℕ) : Type 0 where
  pub count : length ranks ≡ length windows
  pub each : (number : ℕ) → number < length windows → IsRankIn points (window_at windows number) (slice_index_or ranks number 0)
