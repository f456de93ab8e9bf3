-- Expressions that read other slots.
use Rattle.std.proofs.Common.{◌≡◌, ℕ, pos, Bool, true, List, [], ◌∷◌, map, refl, ap, ◌∙◌, sym}
use Rattle.std.specs.Prelude.{◌&&◌}
use Rattle.std.proofs.lemmas.Bool.{and_parts, false≢true}
use Rattle.sgl_values.specs.declared.fault.Val.{Val}
use Rattle.sgl_values.specs.declared.fault.Val.TheVariants.{N}
use Rattle.sgl_typed.proofs.Equations.{value-Neg, value-Not, value-Binary, value-Agg, reads-Neg, reads-Not, reads-Binary, reads-Agg, all-read-hidden, values-hidden}
use Rattle.sgl_typed.specs.Aggregate.{simple_value}
use Rattle.sgl_typed.specs.Reads.{reads_only, all_read_only, list_reads_only}
use Rattle.sgl_typed.specs.Value.{Calls, Context, value_with, values_with, operated, negated, inverted}
use Rattle.sgl_typed.specs.declared.script.AggUse.{AggUse}
use Rattle.sgl_typed.specs.declared.script.TExpr.{TExpr, Row_of-TExpr, end_of-TExpr, more_of-TExpr}
use Rattle.sgl_typed.specs.declared.script.TExpr.TheVariants.{Slot, Agg', Neg', Not', Binary'}
use Rattle.battle_algebra.specs.Fit.{is_plain, all_plain}
use Rattle.battle_algebra.specs.Meaning.{call_value}
use Rattle.sgl_typed.specs.Renamed.{renamed, all_renamed}
use Rattle.plan_rewrite.specs.Rewrite.{Renaming, slot_for, moved, all_moved, moved_call}
use Rattle.battle_algebra.proofs.Bools.{both_true}
use Rattle.battle_algebra.proofs.Slots.{reads-from, list-reads-from}
use Rattle.battle_algebra.proofs.Walks.{at_slot, called}
use Rattle.battle_algebra.proofs.Variants.{plain-Neg, plain-Not, plain-Binary}
use Rattle.sgl_typed.specs.declared.script.TExpr.TheBlock.{hidden-the_row-TExpr-0}
use Rattle.sgl_typed.proofs.Renamed.{all-renamed, renamed-same, renamed-all_same}

-- ---- without renamings an expression stays as it is

pub moved-is : (rs : List Renaming) (e : TExpr) → moved rs e ≡ renamed (slot_for rs) e
moved-is [] e = sym (renamed-same e)
moved-is (r ∷ rs) e = refl

pub all_moved-are : (rs : List Renaming) (es : List TExpr) → all_moved rs es ≡ map (renamed (slot_for rs)) es
all_moved-are [] es = sym (renamed-all_same es)
all_moved-are (r ∷ rs) es = refl

pub ruleset moved_are = (moved-is, all_moved-are)

-- ---- slots that are read

mutual
  reads-renamed : (e : TExpr) (to : ℕ → ℕ) (p : ℕ → Bool) → reads_only (renamed to e) p ≡ reads_only e (λ i. p (to i))
  reads-renamed (Agg' agg shape args place) to p = reads-Agg (record { agg = agg; args = all_renamed to args; place = place }) p ∙ all-reads-renamed args to p
  reads-renamed (Neg' shape (more_of-TExpr inner end_of-TExpr)) to p = reads-Neg (renamed to inner) p ∙ reads-renamed inner to p
  reads-renamed (Not' shape (more_of-TExpr inner end_of-TExpr)) to p = reads-Not (renamed to inner) p ∙ reads-renamed inner to p
  reads-renamed (Binary' op shape (more_of-TExpr left end_of-TExpr) shape' (more_of-TExpr right end_of-TExpr) place) to p =
      reads-Binary op (renamed to left) (renamed to right) place p ∙ (λ i. reads-renamed left to p i && reads-renamed right to p i)
  reads-renamed e to p = refl

  all-reads-renamed : {m : _} (es : Row_of-TExpr m) (to : ℕ → ℕ) (p : ℕ → Bool) → list_reads_only (all_renamed to es) p ≡ all_read_only es (λ i. p (to i))
  all-reads-renamed end_of-TExpr to p = refl
  all-reads-renamed (more_of-TExpr e rest) to p = λ i. reads-renamed e to p i && all-reads-renamed rest to p i

list-reads-renamed : (es : List TExpr) (to : ℕ → ℕ) (p : ℕ → Bool) → list_reads_only (map (renamed to) es) p ≡ list_reads_only es (λ i. p (to i))
list-reads-renamed es to p =
    ap (λ made. list_reads_only made p) (sym (all-renamed to es)) ∙ all-reads-renamed (hidden-the_row-TExpr-0 es) to p ∙ all-read-hidden es (λ i. p (to i))

pub reads-moved : (rs : List Renaming) (e : TExpr) (p q : ℕ → Bool) → ((i : ℕ) → p i ≡ true → q (slot_for rs i) ≡ true) → reads_only e p ≡ true → reads_only (moved rs e) q ≡ true
reads-moved rs e p q law h =
    ap (λ e'. reads_only e' q) (moved-is rs e) ∙ reads-renamed e (slot_for rs) q ∙ reads-from e p p (λ i. q (slot_for rs i)) (λ i a b. law i a) h h

pub list-reads-moved : (rs : List Renaming) (es : List TExpr) (p q : ℕ → Bool) → ((i : ℕ) → p i ≡ true → q (slot_for rs i) ≡ true) → list_reads_only es p ≡ true → list_reads_only (all_moved rs es) q ≡ true
list-reads-moved rs es p q law h =
    ap (λ es'. list_reads_only es' q) (all_moved-are rs es)
    ∙ list-reads-renamed es (slot_for rs) q
    ∙ list-reads-from es p p (λ i. q (slot_for rs i)) (λ i a b. law i a) h h

-- ---- values

-- slots that are read under other numbers, of those that pass
pub record Follows (set : ℕ → Bool) (to : ℕ → ℕ) (xs ys : List Val) : Type 0 where
  pub follow : (i : ℕ) → set i ≡ true → at_slot ys (to i) ≡ at_slot xs i

mutual
  value-renamed : (e : TExpr) (set : ℕ → Bool) (to : ℕ → ℕ) (calls : Calls) (c : Context) (xs ys : List Val) → reads_only e set ≡ true → Follows set to xs ys
      → value_with calls (record c { slots = ys }) (renamed to e) ≡ value_with calls (record c { slots = xs }) e
  value-renamed (Slot j) set to calls c xs ys reads s = s.follow j reads
  value-renamed (Agg' agg shape args place) set to calls c xs ys reads s =
      value-Agg calls _ (record { agg = agg; args = all_renamed to args; place = place }) ∙ ap (calls agg) (values-renamed args set to calls c xs ys reads s)
  value-renamed (Neg' shape (more_of-TExpr inner end_of-TExpr)) set to calls c xs ys reads s = value-Neg calls _ _ ∙ ap negated (value-renamed inner set to calls c xs ys reads s)
  value-renamed (Not' shape (more_of-TExpr inner end_of-TExpr)) set to calls c xs ys reads s = value-Not calls _ _ ∙ ap inverted (value-renamed inner set to calls c xs ys reads s)
  value-renamed (Binary' op shape (more_of-TExpr left end_of-TExpr) shape' (more_of-TExpr right end_of-TExpr) place) set to calls c xs ys reads s =
      let parts : (reads_only left set ≡ true) × (reads_only right set ≡ true) = and_parts _ _ reads in
      value-Binary calls _ _ _ _ _ ∙ (λ i. operated op place (value-renamed left set to calls c xs ys parts.0 s i) (value-renamed right set to calls c xs ys parts.1 s i))
  value-renamed e set to calls c xs ys reads s = refl

  values-renamed : {m : _} (es : Row_of-TExpr m) (set : ℕ → Bool) (to : ℕ → ℕ) (calls : Calls) (c : Context) (xs ys : List Val) → all_read_only es set ≡ true → Follows set to xs ys
      → map (value_with calls (record c { slots = ys })) (all_renamed to es) ≡ values_with calls (record c { slots = xs }) es
  values-renamed end_of-TExpr set to calls c xs ys reads s = refl
  values-renamed (more_of-TExpr e rest) set to calls c xs ys reads s =
      let parts : (reads_only e set ≡ true) × (all_read_only rest set ≡ true) = and_parts _ _ reads in
      λ i. value-renamed e set to calls c xs ys parts.0 s i ∷ values-renamed rest set to calls c xs ys parts.1 s i

pub value-moved : (rs : List Renaming) (e : TExpr) (set : ℕ → Bool) (c : Context) (xs ys : List Val) → reads_only e set ≡ true → Follows set (slot_for rs) xs ys
    → simple_value (record c { slots = ys }) (moved rs e) ≡ simple_value (record c { slots = xs }) e
value-moved rs e set c xs ys reads s =
    ap (simple_value (record c { slots = ys })) (moved-is rs e) ∙ value-renamed e set (slot_for rs) (λ agg args. N (pos 0)) c xs ys reads s

list-renamed-values : (es : List TExpr) (set : ℕ → Bool) (to : ℕ → ℕ) (c : Context) (xs ys : List Val) → list_reads_only es set ≡ true → Follows set to xs ys
    → map (simple_value (record c { slots = ys })) (map (renamed to) es) ≡ map (simple_value (record c { slots = xs })) es
list-renamed-values es set to c xs ys reads s =
    ap (map (simple_value (record c { slots = ys }))) (sym (all-renamed to es))
    ∙ values-renamed (hidden-the_row-TExpr-0 es) set to (λ agg args. N (pos 0)) c xs ys (all-read-hidden es set ∙ reads) s
    ∙ values-hidden (λ agg args. N (pos 0)) (record c { slots = xs }) es

pub values-moved : (rs : List Renaming) (es : List TExpr) (set : ℕ → Bool) (c : Context) (xs ys : List Val) → list_reads_only es set ≡ true → Follows set (slot_for rs) xs ys
    → map (simple_value (record c { slots = ys })) (all_moved rs es) ≡ map (simple_value (record c { slots = xs })) es
values-moved rs es set c xs ys reads s =
    ap (map (simple_value (record c { slots = ys }))) (all_moved-are rs es) ∙ list-renamed-values es set (slot_for rs) c xs ys reads s

pub call-moved : (rs : List Renaming) (call : AggUse) (set : ℕ → Bool) (c : Context) (xs ys : List Val) → list_reads_only call.args set ≡ true → Follows set (slot_for rs) xs ys
    → call_value (record c { slots = ys }) (moved_call rs call) ≡ call_value (record c { slots = xs }) call
call-moved rs call set c xs ys reads s = ap (called c call.agg) (values-moved rs call.args set c xs ys reads s)

-- ---- plain expressions

plain-renamed : (e : TExpr) (to : ℕ → ℕ) → is_plain e ≡ true → is_plain (renamed to e) ≡ true
plain-renamed (Agg' agg shape args place) to h = absurd (false≢true h)
plain-renamed (Neg' shape (more_of-TExpr inner end_of-TExpr)) to h = plain-Neg (renamed to inner) ∙ plain-renamed inner to h
plain-renamed (Not' shape (more_of-TExpr inner end_of-TExpr)) to h = plain-Not (renamed to inner) ∙ plain-renamed inner to h
plain-renamed (Binary' op shape (more_of-TExpr left end_of-TExpr) shape' (more_of-TExpr right end_of-TExpr) place) to h =
    let parts : (is_plain left ≡ true) × (is_plain right ≡ true) = and_parts _ _ h in
    plain-Binary op (renamed to left) (renamed to right) place ∙ both_true _ _ (plain-renamed left to parts.0) (plain-renamed right to parts.1)
plain-renamed e to h = h

list-plain-renamed : (es : List TExpr) (to : ℕ → ℕ) → all_plain es ≡ true → all_plain (map (renamed to) es) ≡ true
list-plain-renamed [] to h = refl
list-plain-renamed (e ∷ rest) to h =
    let parts : (is_plain e ≡ true) × (all_plain rest ≡ true) = and_parts _ _ h in
    both_true _ _ (plain-renamed e to parts.0) (list-plain-renamed rest to parts.1)

pub plain-moved : (rs : List Renaming) (e : TExpr) → is_plain e ≡ true → is_plain (moved rs e) ≡ true
plain-moved rs e h = ap is_plain (moved-is rs e) ∙ plain-renamed e (slot_for rs) h

pub list-plain-moved : (rs : List Renaming) (es : List TExpr) → all_plain es ≡ true → all_plain (all_moved rs es) ≡ true
list-plain-moved rs es h = ap all_plain (all_moved-are rs es) ∙ list-plain-renamed es (slot_for rs) h
