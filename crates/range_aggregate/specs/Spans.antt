-- Where the numbers of a box stand in a list that rises.
use Rattle.std.specs.Prelude.{◌≡◌, ℤ, ◌≤◌, true, false, List, length}
use Rattle.std.specs.List.{AllWithin}
use Rattle.sgl_values.specs.Range.{is_between}
use Rattle.rank_table.specs.declared.span.Span.{Span}

-- the numbers from the low one to the high one stand at the places of the span, and at no others
pub record IsSpan (zs : List ℤ) (low high : ℤ) (span : Span) : Type 0 where
  pub ordered : span.from ≤ span.to
  pub bound : span.to ≤ length zs
  pub before : AllWithin (λ z. is_between low high z ≡ false) zs 0 span.from
  pub within : AllWithin (λ z. is_between low high z ≡ true) zs span.from span.to
  pub behind : AllWithin (λ z. is_between low high z ≡ false) zs span.to (length zs)
