-- A value depends only on the slots that are read.
use Rattle.std.proofs.Common.{◌≡◌, ℕ, pos, Bool, true, List, [], ◌∷◌, map, refl, ap}
use Rattle.std.proofs.lemmas.Bool.{and_parts}
use Rattle.sgl_values.specs.declared.fault.Val.{Val}
use Rattle.sgl_values.specs.declared.fault.Val.TheVariants.{N}
use Rattle.sgl_typed.specs.Aggregate.{simple_value}
use Rattle.sgl_typed.specs.Laws.{AgreeOn, ValuesReadSlots}
use Rattle.sgl_typed.specs.Reads.{reads_only, all_read_only, list_reads_only}
use Rattle.sgl_typed.specs.Value.{Calls, Context, value_with, values_with, operated, negated, inverted}
use Rattle.sgl_typed.specs.declared.script.TExpr.{TExpr, Row_of-TExpr, end_of-TExpr, more_of-TExpr}
use Rattle.sgl_typed.specs.declared.script.TExpr.TheVariants.{Number, Truth, Slot, Unit as OfUnit, Target, Combined, Random, Agg', Neg', Not', Binary'}

mutual
  pub value-reads : (e : TExpr) (passes : ℕ → Bool) (calls : Calls) (c : Context) (xs ys : List Val) → reads_only e passes ≡ true → AgreeOn passes xs ys
      → value_with calls (record c { slots = xs }) e ≡ value_with calls (record c { slots = ys }) e
  value-reads (Number n) passes calls c xs ys reads a = refl
  value-reads (Truth t) passes calls c xs ys reads a = refl
  value-reads (Slot j) passes calls c xs ys reads a = a.agree j reads
  value-reads (OfUnit attr) passes calls c xs ys reads a = refl
  value-reads (Target attr) passes calls c xs ys reads a = refl
  value-reads (Combined j) passes calls c xs ys reads a = refl
  value-reads (Random j) passes calls c xs ys reads a = refl
  value-reads (Agg' agg shape args place) passes calls c xs ys reads a = ap (calls agg) (values-read args passes calls c xs ys reads a)
  value-reads (Neg' shape (more_of-TExpr inner end_of-TExpr)) passes calls c xs ys reads a = ap negated (value-reads inner passes calls c xs ys reads a)
  value-reads (Not' shape (more_of-TExpr inner end_of-TExpr)) passes calls c xs ys reads a = ap inverted (value-reads inner passes calls c xs ys reads a)
  value-reads (Binary' op shape (more_of-TExpr left end_of-TExpr) shape' (more_of-TExpr right end_of-TExpr) place) passes calls c xs ys reads a =
      let parts : (reads_only left passes ≡ true) × (reads_only right passes ≡ true) = and_parts _ _ reads in
      λ i. operated op place (value-reads left passes calls c xs ys parts.0 a i) (value-reads right passes calls c xs ys parts.1 a i)

  pub values-read : {m : _} (es : Row_of-TExpr m) (passes : ℕ → Bool) (calls : Calls) (c : Context) (xs ys : List Val) → all_read_only es passes ≡ true → AgreeOn passes xs ys
      → values_with calls (record c { slots = xs }) es ≡ values_with calls (record c { slots = ys }) es
  values-read end_of-TExpr passes calls c xs ys reads a = refl
  values-read (more_of-TExpr e rest) passes calls c xs ys reads a =
      let parts : (reads_only e passes ≡ true) × (all_read_only rest passes ≡ true) = and_parts _ _ reads in
      λ i. value-reads e passes calls c xs ys parts.0 a i ∷ values-read rest passes calls c xs ys parts.1 a i

pub simple-reads : (e : TExpr) (passes : ℕ → Bool) (c : Context) (xs ys : List Val) → reads_only e passes ≡ true → AgreeOn passes xs ys
    → simple_value (record c { slots = xs }) e ≡ simple_value (record c { slots = ys }) e
simple-reads e passes c xs ys reads a = value-reads e passes (λ agg args. N (pos 0)) c xs ys reads a

pub list-reads : (es : List TExpr) (passes : ℕ → Bool) (c : Context) (xs ys : List Val) → list_reads_only es passes ≡ true → AgreeOn passes xs ys
    → map (simple_value (record c { slots = xs })) es ≡ map (simple_value (record c { slots = ys })) es
list-reads [] passes c xs ys reads a = refl
list-reads (e ∷ rest) passes c xs ys reads a =
    let parts : (reads_only e passes ≡ true) × (list_reads_only rest passes ≡ true) = and_parts _ _ reads in
    λ i. simple-reads e passes c xs ys parts.0 a i ∷ list-reads rest passes c xs ys parts.1 a i

-- values depend only on the slots that are read
pub values-read_slots : ValuesReadSlots
values-read_slots e passes calls c xs ys reads agree = value-reads e passes calls c xs ys reads agree
