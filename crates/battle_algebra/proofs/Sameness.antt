-- Equal expressions are the same.
use Rattle.std.proofs.Common.{Decides, ◌≡◌, ℕ, ◌==◌, Bool, true, false, List, [], ◌∷◌, refl, ap, sym, ◌∙◌, subst, arith}
use Rattle.std.specs.Prelude.{◌&&◌, if◌then◌else◌}
use Rattle.std.specs.Ordering.{int_eq}
use Rattle.std.proofs.lemmas.Bool.{and_parts, false≢true}
use Rattle.std.proofs.lemmas.Bool.Decides.{Decides-eqb, Decides-int_eq}
use Rattle.sgl_values.specs.declared.operator.BinOp.{BinOp}
use Rattle.sgl_values.specs.declared.operator.BinOp.TheVariants.{Add, Sub, Mul, Div, Rem, Cmp, And, Or}
use Rattle.sgl_values.specs.declared.operator.CmpOp.TheVariants.{Eq, Ne, Lt, Le, Gt, Ge}
use Rattle.sgl_typed.specs.declared.script.Attr.{Attr}
use Rattle.sgl_typed.specs.declared.script.Attr.TheVariants.{Key, Const}
use Rattle.sgl_values.specs.declared.place.Place.{Place}
use Rattle.sgl_typed.specs.declared.script.AggUse.{AggUse}
use Rattle.sgl_typed.specs.declared.script.TExpr.{TExpr, Row_of-TExpr, end_of-TExpr, more_of-TExpr}
use Rattle.sgl_typed.specs.declared.script.TExpr.TheVariants.{Number, Truth, Slot, Unit as OfUnit, Target, Combined, Random, Agg, Neg, Not, Binary, Agg', Neg', Not', Binary'}
use Rattle.sgl_typed.specs.Rows.{row_items}
use Rattle.battle_algebra.specs.Same.{tag, number_in, truth_in, index_in, attr_in, args_in, inner_in, left_in, right_in, op_in, place_in, same_truth, op_number, same_place, same_expr, same_row, same_list, same_call}
use Rattle.battle_algebra.specs.Ways.{number_of}
use Rattle.battle_algebra.proofs.Bools.{both_true}
use Rattle.sgl_typed.proofs.Built.{agg_is, neg_is, not_is, binary_is}

-- ---- what tells calls

-- what tells equal calls tells them in either order
abbrev pub Symmetric : (AggUse → AggUse → Bool) → Type 0
Symmetric same = (a b : AggUse) → same a b ≡ same b a

-- what tells equal calls
pub record Tells (same : AggUse → AggUse → Bool) : Type 0 where
  pub equal : (a b : AggUse) → same a b ≡ true → (a.agg ≡ b.agg) × (a.args ≡ b.args)
  pub symmetric : Symmetric same

-- ---- an expression by its tag and its parts

-- the expression with this tag and the parts of another one
abbrev make : ℕ → TExpr → TExpr
make t e =
    if t == 0 then Number (number_in e) else if t == 1 then Truth (truth_in e) else if t == 2 then Slot (index_in e) else if t == 3 then OfUnit (attr_in e)
    else if t == 4 then Target (attr_in e) else if t == 5 then Combined (index_in e) else if t == 6 then Random (index_in e)
    else if t == 7 then Agg record { agg = index_in e; args = args_in e; place = place_in e } else if t == 8 then Neg (inner_in e) else if t == 9 then Not (inner_in e)
    else Binary (op_in e) (left_in e) (right_in e) (place_in e)

rebuild : (e : TExpr) → make (tag e) e ≡ e
rebuild (Number n) = refl
rebuild (Truth t) = refl
rebuild (Slot i) = refl
rebuild (OfUnit a) = refl
rebuild (Target a) = refl
rebuild (Combined i) = refl
rebuild (Random i) = refl
rebuild (Agg' agg shape args place) = sym (agg_is agg shape args place)
rebuild (Neg' shape (more_of-TExpr inner end_of-TExpr)) = neg_is shape inner
rebuild (Not' shape (more_of-TExpr inner end_of-TExpr)) = not_is shape inner
rebuild (Binary' op shape (more_of-TExpr left end_of-TExpr) shape' (more_of-TExpr right end_of-TExpr) place) = binary_is op shape shape' left right place

-- ---- equal parts are the same

eqb_is : (n m : ℕ) → (n == m) ≡ true → n ≡ m
eqb_is n m h = (Decides-eqb n m).0 h

eqb_self : (n : ℕ) → (n == n) ≡ true
eqb_self n = (Decides-eqb n n).1 refl

truth_is : (a b : Bool) → same_truth a b ≡ true → a ≡ b
truth_is true b h = sym h
truth_is false true h = h
truth_is false false h = refl

truth_self : (a : Bool) → same_truth a a ≡ true
truth_self true = refl
truth_self false = refl

attr_is : (a b : Attr) → number_of a ≡ number_of b → a ≡ b
attr_is Key Key h = refl
attr_is Key (Const i) h = absurd (omega (arith, h))
attr_is (Const i) Key h = absurd (omega (arith, h))
attr_is (Const i) (Const j) h = let e : i ≡ j = omega (arith, h) in ap Const e

abbrev op_from : ℕ → BinOp
op_from n =
    if n == 0 then Add else if n == 1 then Sub else if n == 2 then Mul else if n == 3 then Div else if n == 4 then Rem else if n == 5 then And else if n == 6 then Or
    else if n == 7 then Cmp Eq else if n == 8 then Cmp Ne else if n == 9 then Cmp Lt else if n == 10 then Cmp Le else if n == 11 then Cmp Gt else Cmp Ge

op_again : (op : BinOp) → op_from (op_number op) ≡ op
op_again Add = refl
op_again Sub = refl
op_again Mul = refl
op_again Div = refl
op_again Rem = refl
op_again And = refl
op_again Or = refl
op_again (Cmp Eq) = refl
op_again (Cmp Ne) = refl
op_again (Cmp Lt) = refl
op_again (Cmp Le) = refl
op_again (Cmp Gt) = refl
op_again (Cmp Ge) = refl

op_is : (a b : BinOp) → op_number a ≡ op_number b → a ≡ b
op_is a b h = sym (op_again a) ∙ ap op_from h ∙ op_again b

place_is : (a b : Place) → same_place a b ≡ true → a ≡ b
place_is a b h =
    let parts : ((a.line == b.line) ≡ true) × ((a.col == b.col) ≡ true) = and_parts _ _ h in
    λ i. record { line = eqb_is a.line b.line parts.0 i; col = eqb_is a.col b.col parts.1 i }

-- ---- equal expressions are the same

of_tag : (e : TExpr) (t : ℕ) → (tag e == t) ≡ true → make t e ≡ e
of_tag e t h = ap (λ n. make n e) (sym (eqb_is (tag e) t h)) ∙ rebuild e

mutual
  pub expr_is : (a b : TExpr) → same_expr a b ≡ true → a ≡ b
  expr_is (Number n) b h =
      let parts : ((tag b == 0) ≡ true) × (int_eq n (number_in b) ≡ true) = and_parts _ _ h in
      ap Number ((Decides-int_eq n (number_in b)).0 parts.1) ∙ of_tag b 0 parts.0
  expr_is (Truth t) b h =
      let parts : ((tag b == 1) ≡ true) × (same_truth t (truth_in b) ≡ true) = and_parts _ _ h in
      ap Truth (truth_is t (truth_in b) parts.1) ∙ of_tag b 1 parts.0
  expr_is (Slot i) b h =
      let parts : ((tag b == 2) ≡ true) × ((i == index_in b) ≡ true) = and_parts _ _ h in
      ap Slot (eqb_is i (index_in b) parts.1) ∙ of_tag b 2 parts.0
  expr_is (OfUnit a) b h =
      let parts : ((tag b == 3) ≡ true) × ((number_of a == number_of (attr_in b)) ≡ true) = and_parts _ _ h in
      ap OfUnit (attr_is a (attr_in b) (eqb_is _ _ parts.1)) ∙ of_tag b 3 parts.0
  expr_is (Target a) b h =
      let parts : ((tag b == 4) ≡ true) × ((number_of a == number_of (attr_in b)) ≡ true) = and_parts _ _ h in
      ap Target (attr_is a (attr_in b) (eqb_is _ _ parts.1)) ∙ of_tag b 4 parts.0
  expr_is (Combined i) b h =
      let parts : ((tag b == 5) ≡ true) × ((i == index_in b) ≡ true) = and_parts _ _ h in
      ap Combined (eqb_is i (index_in b) parts.1) ∙ of_tag b 5 parts.0
  expr_is (Random i) b h =
      let parts : ((tag b == 6) ≡ true) × ((i == index_in b) ≡ true) = and_parts _ _ h in
      ap Random (eqb_is i (index_in b) parts.1) ∙ of_tag b 6 parts.0
  expr_is (Agg' agg shape args place) b h =
      let parts : ((tag b == 7) ≡ true) × ((agg == index_in b) && (same_place place (place_in b) && same_row args (args_in b)) ≡ true) = and_parts _ _ h in
      let parts' : ((agg == index_in b) ≡ true) × (same_place place (place_in b) && same_row args (args_in b) ≡ true) = and_parts _ _ parts.1 in
      let parts'' : (same_place place (place_in b) ≡ true) × (same_row args (args_in b) ≡ true) = and_parts _ _ parts'.1 in
      agg_is agg shape args place
      ∙ (λ i. Agg record { agg = eqb_is agg (index_in b) parts'.0 i; args = row_items_is args (args_in b) parts''.1 i; place = place_is place (place_in b) parts''.0 i })
      ∙ of_tag b 7 parts.0
  expr_is (Neg' shape (more_of-TExpr inner end_of-TExpr)) b h =
      let parts : ((tag b == 8) ≡ true) × (same_expr inner (inner_in b) ≡ true) = and_parts _ _ h in
      sym (neg_is shape inner) ∙ ap Neg (expr_is inner (inner_in b) parts.1) ∙ of_tag b 8 parts.0
  expr_is (Not' shape (more_of-TExpr inner end_of-TExpr)) b h =
      let parts : ((tag b == 9) ≡ true) × (same_expr inner (inner_in b) ≡ true) = and_parts _ _ h in
      sym (not_is shape inner) ∙ ap Not (expr_is inner (inner_in b) parts.1) ∙ of_tag b 9 parts.0
  expr_is (Binary' op shape (more_of-TExpr left end_of-TExpr) shape' (more_of-TExpr right end_of-TExpr) place) b h =
      let parts : ((tag b == 10) ≡ true) × ((op_number op == op_number (op_in b)) && (same_place place (place_in b) && (same_expr left (left_in b) && same_expr right (right_in b))) ≡ true) = and_parts _ _ h in
      let parts' : ((op_number op == op_number (op_in b)) ≡ true) × (same_place place (place_in b) && (same_expr left (left_in b) && same_expr right (right_in b)) ≡ true) = and_parts _ _ parts.1 in
      let parts'' : (same_place place (place_in b) ≡ true) × (same_expr left (left_in b) && same_expr right (right_in b) ≡ true) = and_parts _ _ parts'.1 in
      let sides : (same_expr left (left_in b) ≡ true) × (same_expr right (right_in b) ≡ true) = and_parts _ _ parts''.1 in
      sym (binary_is op shape shape' left right place)
      ∙ (λ i. Binary (op_is op (op_in b) (eqb_is _ _ parts'.0) i) (expr_is left (left_in b) sides.0 i) (expr_is right (right_in b) sides.1 i) (place_is place (place_in b) parts''.0 i))
      ∙ of_tag b 10 parts.0

  row_items_is : {m : _} (es : Row_of-TExpr m) (xs : List TExpr) → same_row es xs ≡ true → row_items es ≡ xs
  row_items_is end_of-TExpr [] h = refl
  row_items_is end_of-TExpr (x ∷ xs) h = absurd (false≢true h)
  row_items_is (more_of-TExpr e rest) [] h = absurd (false≢true h)
  row_items_is (more_of-TExpr e rest) (x ∷ xs) h =
      let parts : (same_expr e x ≡ true) × (same_row rest xs ≡ true) = and_parts _ _ h in
      λ i. expr_is e x parts.0 i ∷ row_items_is rest xs parts.1 i

mutual
  pub expr_self : (a : TExpr) → same_expr a a ≡ true
  expr_self (Number n) = (Decides-int_eq n n).1 refl
  expr_self (Truth t) = truth_self t
  expr_self (Slot i) = eqb_self i
  expr_self (OfUnit a) = eqb_self (number_of a)
  expr_self (Target a) = eqb_self (number_of a)
  expr_self (Combined i) = eqb_self i
  expr_self (Random i) = eqb_self i
  expr_self (Agg' agg shape args place) = both_true _ _ (eqb_self agg) (both_true _ _ (both_true _ _ (eqb_self place.line) (eqb_self place.col)) (row_self args))
  expr_self (Neg' shape (more_of-TExpr inner end_of-TExpr)) = expr_self inner
  expr_self (Not' shape (more_of-TExpr inner end_of-TExpr)) = expr_self inner
  expr_self (Binary' op shape (more_of-TExpr left end_of-TExpr) shape' (more_of-TExpr right end_of-TExpr) place) =
      both_true _ _ (eqb_self (op_number op)) (both_true _ _ (both_true _ _ (eqb_self place.line) (eqb_self place.col)) (both_true _ _ (expr_self left) (expr_self right)))

  row_self : {m : _} (es : Row_of-TExpr m) → same_row es (row_items es) ≡ true
  row_self end_of-TExpr = refl
  row_self (more_of-TExpr e rest) = both_true _ _ (expr_self e) (row_self rest)

pub list_is : (xs ys : List TExpr) → same_list xs ys ≡ true → xs ≡ ys
list_is [] [] h = refl
list_is [] (y ∷ ys) h = absurd (false≢true h)
list_is (x ∷ xs) [] h = absurd (false≢true h)
list_is (x ∷ xs) (y ∷ ys) h =
    let parts : (same_expr x y ≡ true) × (same_list xs ys ≡ true) = and_parts _ _ h in
    λ i. expr_is x y parts.0 i ∷ list_is xs ys parts.1 i

pub list_self : (xs : List TExpr) → same_list xs xs ≡ true
list_self [] = refl
list_self (x ∷ xs) = both_true _ _ (expr_self x) (list_self xs)

-- the test answers whether the lists are the same
pub list_decides : (xs ys : List TExpr) → Decides (same_list xs ys) (xs ≡ ys)
list_decides xs ys = (list_is xs ys, λ e. subst (λ zs. same_list xs zs ≡ true) e (list_self xs))

-- a test that answers whether two things are the same answers alike in either order
alike : (b c : Bool) → (b ≡ true → c ≡ true) → (c ≡ true → b ≡ true) → b ≡ c
alike true c first second = sym (first refl)
alike false true first second = second refl
alike false false first second = refl

call_parts : (a b : AggUse) → same_call a b ≡ true → (a.agg ≡ b.agg) × (a.args ≡ b.args)
call_parts a b h =
    let parts : ((a.agg == b.agg) ≡ true) × (same_list a.args b.args ≡ true) = and_parts _ _ h in
    (eqb_is a.agg b.agg parts.0, list_is a.args b.args parts.1)

pub call_of_parts : (a b : AggUse) → a.agg ≡ b.agg → a.args ≡ b.args → same_call a b ≡ true
call_of_parts a b p q = both_true _ _ ((Decides-eqb a.agg b.agg).1 p) ((list_decides a.args b.args).1 q)

pub tells_calls : Tells same_call
tells_calls = record {
  equal = call_parts;
  symmetric = λ a b.
      alike (same_call a b) (same_call b a)
      (λ h. let parts : (a.agg ≡ b.agg) × (a.args ≡ b.args) = call_parts a b h in call_of_parts b a (sym parts.0) (sym parts.1))
      (λ h. let parts : (b.agg ≡ a.agg) × (b.args ≡ a.args) = call_parts b a h in call_of_parts a b (sym parts.0) (sym parts.1));
}
