-- Ranks counted by bands of rows.
use Rattle.std.proofs.Common.{◌≡◌, ℕ, ◌+◌, ◌*◌, ◌/◌, ◌<◌, ◌≤◌, List, length, get_or, set, take, sym, ap, ◌∙◌, inl, inr, arith}
use Rattle.std.specs.Prelude.{All, slice_range}
use Rattle.std.specs.List.{sum}
use Rattle.std.proofs.Math.Seq.{take-set-lt}
use Rattle.std.proofs.lemmas.Bool.{cases_lt}
use Rattle.std.proofs.lemmas.Bool.Decides.{nat_tests}
use Rattle.std.proofs.lemmas.List.{get_or-take, length-set, length-take, take-set-le, take_all}
use Rattle.std.proofs.lemmas.List.Elements.{All-take}
use Rattle.std.proofs.lemmas.List.Sums.{get_or-le-sum_by, sum_by-set}
use Rattle.range_aggregate.specs.Rows.{CountsMore, corner_count, count_under}
use Rattle.range_aggregate.specs.Edges.{edge_place}
use Rattle.range_aggregate.proofs.Counting.{under, under_bound, under_capped, under_more, under_part}

-- so many of the ranks are in each band: the first bands have those below an edge of rows
abbrev pub AreBands : List ℕ → List ℕ → Type 0
AreBands ranks bands = (row : ℕ) → sum (take row bands) ≡ count_under (row * 256) ranks

-- ---- one rank more

counts_one : (rank row : ℕ) → rank / 256 < row → under (row * 256) rank ≡ 1
counts_one rank row below = let less : rank < row * 256 = omega (arith, below) in grind (arith, nat_tests)

counts_none : (rank row : ℕ) → row ≤ rank / 256 → under (row * 256) rank ≡ 0
counts_none rank row from = let more : row * 256 ≤ rank = omega (arith, from) in grind (arith, nat_tests)

pub band_more : (bands : List ℕ) (rank x row : ℕ) → rank / 256 < length bands → x ≡ get_or bands (rank / 256) 0
    → sum (take row (set bands (rank / 256) (x + 1))) ≡ sum (take row bands) + under (row * 256) rank
band_more bands rank x row held is = elim (cases_lt (rank / 256) row) [
  | inl lt ↦
      let within : rank / 256 < length (take row bands) = omega (arith, lt, held, length-take row bands) in
      omega (
        arith,
        counts_one rank row lt,
        ap sum (take-set-lt row bands (rank / 256) (x + 1) lt),
        sum_by-set (λ n. n) (take row bands) (rank / 256) (x + 1) 0 within,
        get_or-take row bands (rank / 256) 0 lt,
        is,
      )
  | inr le ↦ omega (arith, counts_none rank row le, ap sum (take-set-le row bands (rank / 256) (x + 1) le))
]

pub CountsMore-more : (ranks before behind : List ℕ) (i rank x : ℕ) → i < length ranks → rank ≡ get_or ranks i 0 → rank / 256 < length before → x ≡ get_or behind (rank / 256) 0
    → CountsMore (take i ranks) before behind → CountsMore (take (i + 1) ranks) before (set behind (rank / 256) (x + 1))
CountsMore-more ranks before behind i rank x inside at held is sofar = record {
  long = length-set behind (rank / 256) (x + 1) ∙ sofar.long;
  each = λ row. omega (
    arith,
    band_more behind rank x row (omega (arith, held, sofar.long)) is,
    sofar.each row,
    under_more (row * 256) ranks i inside,
    ap (under (row * 256)) at,
  );
}

-- ---- what is counted fits

pub sum_whole : (bands : List ℕ) → sum (take (length bands) bands) ≡ sum bands
sum_whole bands = ap sum (take_all (length bands) bands (omega arith))

pub count_within : (ranks before behind : List ℕ) (i band : ℕ) → i ≤ length ranks → band < length before → CountsMore (take i ranks) before behind → get_or behind band 0 ≤ sum before + i
count_within ranks before behind i band inside held sofar =
    omega (
      arith,
      get_or-le-sum_by (λ n. n) behind band 0 (omega (arith, held, sofar.long)),
      sum_whole behind,
      ap (λ n. sum (take n behind)) sofar.long,
      sofar.each (length before),
      sum_whole before,
      under_bound (length before * 256) (take i ranks),
      length-take i ranks,
    )

-- ---- the bands of a grid

pub bands_sum : (ranks bands : List ℕ) → AreBands ranks bands → sum bands ≤ length ranks
bands_sum ranks bands are = omega (arith, sum_whole bands, are (length bands), under_bound (length bands * 256) ranks)

pub bands_part : (ranks before behind : List ℕ) (from to : ℕ) → from ≤ to → AreBands (take from ranks) before → CountsMore (slice_range ranks from to) before behind → AreBands (take to ranks) behind
bands_part ranks before behind from to ordered are more row = omega (arith, are row, more.each row, under_part (row * 256) ranks from to ordered)

pub bands_corner : (ranks bands : List ℕ) (column row : ℕ) → All (λ rank. rank < length ranks) ranks → AreBands (take (edge_place (length ranks) column) ranks) bands
    → sum (take row bands) ≡ corner_count ranks column row
bands_corner ranks bands column row within are =
    let before : List ℕ = take (edge_place (length ranks) column) ranks in
    are row ∙ sym (under_capped (row * 256) (length ranks) before (All-take (λ rank. rank < length ranks) (edge_place (length ranks) column) ranks within))
