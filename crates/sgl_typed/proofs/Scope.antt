-- A script reads and sets only slots below its number of slots.
use Rattle.std.proofs.Common.{Decides, ◌≡◌, ℕ, ◌==◌, Bool, true, false, List, [], ◌∷◌, ◌++◌, map, refl, ap, ◌∙◌, Option, Some, None}
use Rattle.std.specs.List.{list_all}
use Rattle.std.specs.Prelude.{◌&&◌, if◌then◌else◌, slice_get}
use Rattle.std.proofs.lemmas.Bool.{and_parts, false≢true}
use Rattle.std.proofs.lemmas.Bool.Decides.{Decides-eqb}
use Rattle.sgl_values.specs.declared.operator.BinOp.{BinOp}
use Rattle.sgl_values.specs.declared.operator.BinOp.TheVariants.{Add, Sub, Mul, Div, Rem, Cmp, And, Or}
use Rattle.sgl_typed.specs.declared.script.Kind.{Kind}
use Rattle.sgl_typed.specs.declared.script.Kind.TheVariants.{Numeric, Logical}
use Rattle.sgl_typed.specs.WellFormed.{Body, Callees, slot_kind, kind_if, is_number, is_truth, operation_kind, fit, kind_of, kinds_of, is_formed, slots_with, body_behind, statement_fits, block_fits, statements_fit, slots_set, slots_set_in, slots_of_all, slots_of_routines}
use Rattle.sgl_typed.specs.declared.script.TExpr.{TExpr, Row_of-TExpr, end_of-TExpr, more_of-TExpr}
use Rattle.sgl_typed.specs.declared.script.TExpr.TheVariants.{Number, Truth, Slot, Unit as OfUnit, Target, Combined, Random, Agg', Neg', Not', Binary'}
use Rattle.sgl_typed.specs.declared.script.TStmt.{TStmt, Row_of-TStmt, end_of-TStmt, more_of-TStmt}
use Rattle.sgl_typed.specs.declared.script.TStmt.TheVariants.{Let, If', Act, Call}
use Rattle.sgl_typed.proofs.Forms.{form_of}
use Rattle.sgl_typed.specs.Reads.{below, reads_only, all_read_only, list_reads_only, statement_uses, block_uses, all_use}
use Rattle.sgl_typed.specs.Laws.{ScriptsUseOwnSlots}

-- ---- truths

pub both_true : (x y : Bool) → x ≡ true → y ≡ true → (x && y) ≡ true
both_true x y p q = λ i. p i && q i

all_of_both : (test : ℕ → Bool) (xs ys : List ℕ) → list_all test (xs ++ ys) ≡ true → (list_all test xs ≡ true) × (list_all test ys ≡ true)
all_of_both test [] ys h = (refl, h)
all_of_both test (x ∷ xs) ys h =
    let parts : (test x ≡ true) × (list_all test (xs ++ ys) ≡ true) = and_parts _ _ h in
    let rest : (list_all test xs ≡ true) × (list_all test ys ≡ true) = all_of_both test xs ys parts.1 in
    (both_true _ _ parts.0 rest.0, rest.1)

-- ---- kinds

pub formed_if : (b : Bool) (kind : Kind) → is_formed (kind_if b kind) ≡ true → b ≡ true
formed_if true kind h = refl
formed_if false kind h = h

pub number_formed : (k : Option Kind) → is_number k ≡ true → is_formed k ≡ true
number_formed None h = h
number_formed (Some kind) h = refl

pub truth_formed : (k : Option Kind) → is_truth k ≡ true → is_formed k ≡ true
truth_formed None h = h
truth_formed (Some kind) h = refl

abbrev pub BothFormed : Option Kind → Option Kind → Type 0
BothFormed v w = (is_formed v ≡ true) × (is_formed w ≡ true)

pub numbers_formed : (v w : Option Kind) (kind : Kind) → is_formed (kind_if (is_number v && is_number w) kind) ≡ true → BothFormed v w
numbers_formed v w kind h =
    let parts : (is_number v ≡ true) × (is_number w ≡ true) = and_parts _ _ (formed_if _ kind h) in
    (number_formed v parts.0, number_formed w parts.1)

pub truths_formed : (v w : Option Kind) (kind : Kind) → is_formed (kind_if (is_truth v && is_truth w) kind) ≡ true → BothFormed v w
truths_formed v w kind h =
    let parts : (is_truth v ≡ true) × (is_truth w ≡ true) = and_parts _ _ (formed_if _ kind h) in
    (truth_formed v parts.0, truth_formed w parts.1)

pub both_formed : (op : BinOp) (v w : Option Kind) → is_formed (operation_kind op v w) ≡ true → BothFormed v w
both_formed Add v w h = numbers_formed v w Numeric h
both_formed Sub v w h = numbers_formed v w Numeric h
both_formed Mul v w h = numbers_formed v w Numeric h
both_formed Div v w h = numbers_formed v w Numeric h
both_formed Rem v w h = numbers_formed v w Numeric h
both_formed (Cmp op) v w h = numbers_formed v w Logical h
both_formed And v w h = truths_formed v w Logical h
both_formed Or v w h = truths_formed v w Logical h

pub fit_numbers : (params : Option ℕ) (kinds : List (Option Kind)) → fit params kinds ≡ true → list_all is_number kinds ≡ true
fit_numbers None kinds h = absurd (false≢true h)
fit_numbers (Some params) kinds h = (and_parts _ _ h).1

-- ---- slots

abbrev pub in_scope : List (ℕ × Kind) → (ℕ → Bool) → Bool
in_scope slots passes = list_all (λ s. passes s.0) slots

pub slot-passes : (slots : List (ℕ × Kind)) (i : ℕ) (passes : ℕ → Bool) → is_formed (slot_kind i slots) ≡ true → in_scope slots passes ≡ true → passes i ≡ true
slot-passes [] i passes h scope = absurd (false≢true h)
slot-passes (slot ∷ more) i passes h scope =
    let parts : (passes slot.0 ≡ true) × (in_scope more passes ≡ true) = and_parts _ _ scope in
    step (i == slot.0) (Decides-eqb i slot.0) h parts.0 (λ later. slot-passes more i passes later parts.1)
  where
    step : (b : Bool) → Decides b (i ≡ slot.0) → is_formed (if b then Some slot.1 else slot_kind i more) ≡ true → passes slot.0 ≡ true → (is_formed (slot_kind i more) ≡ true → passes i ≡ true) → passes i ≡ true
    step true d h here later = ap passes (d.0 refl) ∙ here
    step false d h here later = later h

mutual
  pub formed-reads : (e : TExpr) (b : Body) (passes : ℕ → Bool) → is_formed (kind_of b e) ≡ true → in_scope b.slots passes ≡ true → reads_only e passes ≡ true
  formed-reads (Number n) b passes h scope = refl
  formed-reads (Truth t) b passes h scope = refl
  formed-reads (Slot i) b passes h scope = slot-passes b.slots i passes h scope
  formed-reads (OfUnit attr) b passes h scope = refl
  formed-reads (Target attr) b passes h scope = refl
  formed-reads (Combined i) b passes h scope = refl
  formed-reads (Random i) b passes h scope = refl
  formed-reads (Agg' agg shape args place) b passes h scope =
      numbers-read args b passes (fit_numbers (slice_get b.aggs agg) (kinds_of b args) (formed_if _ Numeric h)) scope
  formed-reads (Neg' shape (more_of-TExpr inner end_of-TExpr)) b passes h scope =
      formed-reads inner b passes (number_formed (kind_of b inner) (formed_if _ Numeric h)) scope
  formed-reads (Not' shape (more_of-TExpr inner end_of-TExpr)) b passes h scope =
      formed-reads inner b passes (truth_formed (kind_of b inner) (formed_if _ Logical h)) scope
  formed-reads (Binary' op shape (more_of-TExpr left end_of-TExpr) shape' (more_of-TExpr right end_of-TExpr) place) b passes h scope =
      let formed : BothFormed (kind_of b left) (kind_of b right) = both_formed op (kind_of b left) (kind_of b right) h in
      both_true _ _ (formed-reads left b passes formed.0 scope) (formed-reads right b passes formed.1 scope)

  pub numbers-read : {m : _} (es : Row_of-TExpr m) (b : Body) (passes : ℕ → Bool) → list_all is_number (kinds_of b es) ≡ true → in_scope b.slots passes ≡ true → all_read_only es passes ≡ true
  numbers-read end_of-TExpr b passes h scope = refl
  numbers-read (more_of-TExpr e rest) b passes h scope =
      let parts : (is_number (kind_of b e) ≡ true) × (list_all is_number (kinds_of b rest) ≡ true) = and_parts _ _ h in
      both_true _ _ (formed-reads e b passes (number_formed (kind_of b e) parts.0) scope) (numbers-read rest b passes parts.1 scope)

pub list-numbers-read : (es : List TExpr) (b : Body) (passes : ℕ → Bool) → list_all is_number (map (kind_of b) es) ≡ true → in_scope b.slots passes ≡ true → list_reads_only es passes ≡ true
list-numbers-read [] b passes h scope = refl
list-numbers-read (e ∷ rest) b passes h scope =
    let parts : (is_number (kind_of b e) ≡ true) × (list_all is_number (map (kind_of b) rest) ≡ true) = and_parts _ _ h in
    both_true _ _ (formed-reads e b passes (number_formed (kind_of b e) parts.0) scope) (list-numbers-read rest b passes parts.1 scope)

-- ---- statements

pub scope_with : (slot : ℕ) (k : Option Kind) (slots : List (ℕ × Kind)) (passes : ℕ → Bool) → passes slot ≡ true → in_scope slots passes ≡ true → in_scope (slots_with slot k slots) passes ≡ true
scope_with slot None slots passes here scope = scope
scope_with slot (Some kind) slots passes here scope = both_true _ _ here scope

pub scope_behind : (s : TStmt) (b : Body) (passes : ℕ → Bool) → list_all passes (slots_set s) ≡ true → in_scope b.slots passes ≡ true → in_scope (body_behind s b).slots passes ≡ true
scope_behind (Let slot e place) b passes set scope = scope_with slot (kind_of b e) b.slots passes (and_parts _ _ set).0 scope
scope_behind (If' cond place shape taken shape' other) b passes set scope = scope
scope_behind (Act action args place) b passes set scope = scope
scope_behind (Call routine args places) b passes set scope = scope

mutual
  fits-uses : (s : TStmt) (callees : Callees) (b : Body) (passes : ℕ → Bool) → statement_fits callees s b ≡ true → list_all passes (slots_set s) ≡ true → in_scope b.slots passes ≡ true → statement_uses s passes ≡ true
  fits-uses (Let slot e place) callees b passes h set scope = both_true _ _ (formed-reads e b passes h scope) (and_parts _ _ set).0
  fits-uses (If' cond place shape taken shape' other) callees b passes h set scope =
      let parts : (is_truth (kind_of b cond) && block_fits callees taken b ≡ true) × (block_fits callees other b ≡ true) = and_parts _ _ h in
      let parts' : (is_truth (kind_of b cond) ≡ true) × (block_fits callees taken b ≡ true) = and_parts _ _ parts.0 in
      let sets : (list_all passes (slots_set_in taken) ≡ true) × (list_all passes (slots_set_in other) ≡ true) = all_of_both passes (slots_set_in taken) (slots_set_in other) set in
      both_true _ _
      (both_true _ _ (formed-reads cond b passes (truth_formed (kind_of b cond) parts'.0) scope) (block-uses taken callees b passes parts'.1 sets.0 scope))
      (block-uses other callees b passes parts.1 sets.1 scope)
  fits-uses (Act action args place) callees b passes h set scope = list-numbers-read args b passes (fit_numbers (slice_get callees.actions action) (map (kind_of b) args) h) scope
  fits-uses (Call routine args places) callees b passes h set scope =
      list-numbers-read args b passes (fit_numbers (slice_get callees.routines routine) (map (kind_of b) args) (and_parts _ _ h).0) scope

  block-uses : {m : _} (block : Row_of-TStmt m) (callees : Callees) (b : Body) (passes : ℕ → Bool) → block_fits callees block b ≡ true → list_all passes (slots_set_in block) ≡ true → in_scope b.slots passes ≡ true → block_uses block passes ≡ true
  block-uses end_of-TStmt callees b passes h set scope = refl
  block-uses (more_of-TStmt statement rest) callees b passes h set scope =
      let parts : (statement_fits callees statement b ≡ true) × (block_fits callees rest (body_behind statement b) ≡ true) = and_parts _ _ h in
      let sets : (list_all passes (slots_set statement) ≡ true) × (list_all passes (slots_set_in rest) ≡ true) = all_of_both passes (slots_set statement) (slots_set_in rest) set in
      both_true _ _ (fits-uses statement callees b passes parts.0 sets.0 scope)
      (block-uses rest callees (body_behind statement b) passes parts.1 sets.1 (scope_behind statement b passes sets.0 scope))

list-uses : (block : List TStmt) (callees : Callees) (b : Body) (passes : ℕ → Bool) → statements_fit callees block b ≡ true → list_all passes (slots_of_all block) ≡ true → in_scope b.slots passes ≡ true → all_use block passes ≡ true
list-uses [] callees b passes h set scope = refl
list-uses (statement ∷ rest) callees b passes h set scope =
    let parts : (statement_fits callees statement b ≡ true) × (statements_fit callees rest (body_behind statement b) ≡ true) = and_parts _ _ h in
    let sets : (list_all passes (slots_set statement) ≡ true) × (list_all passes (slots_of_all rest) ≡ true) = all_of_both passes (slots_set statement) (slots_of_all rest) set in
    both_true _ _ (fits-uses statement callees b passes parts.0 sets.0 scope)
    (list-uses rest callees (body_behind statement b) passes parts.1 sets.1 (scope_behind statement b passes sets.0 scope))

-- every script uses only its own slots
pub script_uses : ScriptsUseOwnSlots
script_uses s =
    list-uses s.main _ _ (below s.slots) (form_of s).main
    (all_of_both (below s.slots) (slots_of_routines s.routines) (slots_of_all s.main) (and_parts _ _ (form_of s).slots).1).1
    refl
