-- Amounts: what effects give.
use Rattle.std.specs.Prelude.{ℕ, ℤ, Bool, nat_le, ◌&&◌, Option, Some, None, if◌then◌else◌}
use Rattle.std.specs.Ordering.{nat_cmp, int_cmp, on, then_cmp, flip_args}
use Rattle.std.specs.declared.cmp.Ordering.{Ordering}
use Rattle.sgl_values.specs.Range.{in_range}
use Rattle.sgl_values.specs.declared.amount.TheConstants.{PRIORITY_MAX}

-- a value, and the priority by which it stands against others
pub record Amount : Type 0 where
  pub value : ℤ
  pub priority : ℕ

-- the value is in the range, and the priority is at most 1,000,000
abbrev pub is_amount : Amount → Bool
is_amount amount = in_range amount.value && nat_le amount.priority PRIORITY_MAX

-- an amount, where the priority is at most 1,000,000
abbrev pub amount_of : ℤ → ℕ → Option Amount
amount_of value priority = if nat_le priority PRIORITY_MAX then Some record { value = value; priority = priority } else None

-- an amount with the priority 0
abbrev pub plain_amount : ℤ → Amount
plain_amount value = record { value = value; priority = 0 }

-- by the priority, and then by the value
abbrev pub amount_cmp : Amount → Amount → Ordering
amount_cmp = then_cmp (on (λ amount. amount.priority) nat_cmp) (on (λ amount. amount.value) int_cmp)

-- the same with the greater before the lesser
abbrev pub falling_cmp : Amount → Amount → Ordering
falling_cmp = flip_args amount_cmp
