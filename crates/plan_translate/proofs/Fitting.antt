-- The translation of a well-formed script is a plan: plain expressions, and slots that are read where they are set.
use Rattle.std.proofs.Common.{Decides, ◌==◌, ◌≡◌, ℕ, ◌+◌, ◌<◌, ◌≤◌, Bool, true, false, List, [], ◌∷◌, ◌++◌, map, length, refl, ap, sym, ◌∙◌, arith, subst}
use Rattle.std.specs.List.{list_all}
use Rattle.std.specs.Prelude.{◌&&◌, ◌||◌, not, nat_lt, nat_le, slice_get}
use Rattle.std.proofs.lemmas.Bool.{and_parts, false≢true, ltb-true, lt-ltb, leb-true, le-leb}
use Rattle.std.proofs.lemmas.Bool.Decides.{Decides-eqb}
use Rattle.sgl_typed.specs.Reads.{reads_only, all_read_only, list_reads_only}
use Rattle.sgl_typed.specs.WellFormed.{Body, is_number, kind_of, kinds_of, is_formed}
use Rattle.sgl_typed.specs.declared.script.Kind.TheVariants.{Numeric, Logical}
use Rattle.sgl_typed.specs.declared.script.TExpr.{TExpr, Row_of-TExpr, end_of-TExpr, more_of-TExpr}
use Rattle.sgl_typed.specs.declared.script.TExpr.TheVariants.{Slot, Target, Combined, Agg', Neg', Not', Binary'}
use Rattle.sgl_typed.proofs.Equations.{reads-Neg, reads-Not, reads-Binary, kinds-hidden}
use Rattle.plan_translate.specs.Calls.{Lifted, calls_in, calls_in_all, lifted, lifted_all, lifted_calls, lifted_calls_all}
use Rattle.battle_algebra.specs.Fit.{is_plain, all_plain, plain, sets_once}
use Rattle.battle_algebra.specs.Reads.{sets_only, all_but}
use Rattle.plan_translate.specs.Translation.{with_calls, lifted_list, lifted_calls_list}
use Rattle.battle_algebra.specs.Tree.{Called, Tree, Setting, each}
use Rattle.battle_algebra.specs.declared.plan.Way.TheVariants.{Scan}
use Rattle.battle_algebra.proofs.Bools.{both_true, or_right, or_parts}
use Rattle.plan_translate.proofs.Emitting.{length-lifted_calls, length-lifted_calls_all}
use Rattle.sgl_typed.proofs.Scope.{formed_if, number_formed, truth_formed, BothFormed, both_formed, fit_numbers}
use Rattle.battle_algebra.proofs.Slots.{reads-from, list-reads-from}
use Rattle.battle_algebra.proofs.Variants.{plain-Neg, plain-Not, plain-Binary}
use Rattle.sgl_typed.specs.declared.script.TExpr.TheBlock.{hidden-the_row-TExpr-0}
use Rattle.plan_translate.proofs.Equations.{all-lifted, all-lifted_calls}

-- ---- calls before a tree

pub with_calls-append : (xs ys : List Lifted) (t : Tree) → with_calls (xs ++ ys) t ≡ with_calls xs (with_calls ys t)
with_calls-append [] ys t = refl
with_calls-append (x ∷ xs) ys t = ap (λ u. Setting x.slot (Called x.call Scan) u) (with_calls-append xs ys t)

-- the slots of calls count up from a number
abbrev pub counts_up : List Lifted → ℕ → Bool
counts_up [] n = true
counts_up (x ∷ xs) n = (x.slot == n) && counts_up xs (n + 1)

counts_up-append : (xs ys : List Lifted) (n : ℕ) → counts_up xs n ≡ true → counts_up ys (n + length xs) ≡ true → counts_up (xs ++ ys) n ≡ true
counts_up-append [] ys n first second = ap (counts_up ys) none ∙ second
  where
    none : n ≡ n + 0
    none = omega arith
counts_up-append (x ∷ xs) ys n first second =
    let parts : ((x.slot == n) ≡ true) × (counts_up xs (n + 1) ≡ true) = and_parts _ _ first in
    let at : (n + 1 + length xs) ≡ (n + length (x ∷ xs)) = omega arith in
    both_true _ _ parts.0 (counts_up-append xs ys (n + 1) parts.1 (ap (counts_up ys) at ∙ second))

pub self : (n : ℕ) → (n == n) ≡ true
self n = (Decides-eqb n n).1 refl

mutual
  pub counts-calls : (e : TExpr) (next : ℕ) → counts_up (lifted_calls e next) next ≡ true
  counts-calls (Agg' agg shape args place) next =
      counts_up-append (lifted_calls_all args next) (record { slot = next + calls_in_all args; call = record { agg = agg; args = lifted_all args next; place = place } } ∷ []) next (counts-calls-all args next)
      (both_true _ _ (ap (λ n. (next + calls_in_all args) == next + n) (length-lifted_calls_all args next) ∙ self (next + calls_in_all args)) refl)
  counts-calls (Neg' shape (more_of-TExpr inner end_of-TExpr)) next = counts-calls inner next
  counts-calls (Not' shape (more_of-TExpr inner end_of-TExpr)) next = counts-calls inner next
  counts-calls (Binary' op shape (more_of-TExpr left end_of-TExpr) shape' (more_of-TExpr right end_of-TExpr) place) next =
      counts_up-append (lifted_calls left next) (lifted_calls right (next + calls_in left)) next (counts-calls left next)
      (ap (λ n. counts_up (lifted_calls right (next + calls_in left)) (next + n)) (length-lifted_calls left next) ∙ counts-calls right (next + calls_in left))
  counts-calls e next = refl

  counts-calls-all : {m : _} (es : Row_of-TExpr m) (next : ℕ) → counts_up (lifted_calls_all es next) next ≡ true
  counts-calls-all end_of-TExpr next = refl
  counts-calls-all (more_of-TExpr e rest) next =
      counts_up-append (lifted_calls e next) (lifted_calls_all rest (next + calls_in e)) next (counts-calls e next)
      (ap (λ n. counts_up (lifted_calls_all rest (next + calls_in e)) (next + n)) (length-lifted_calls e next) ∙ counts-calls-all rest (next + calls_in e))

pub counts-calls-list : (es : List TExpr) (next : ℕ) → counts_up (lifted_calls_list es next) next ≡ true
counts-calls-list es next = subst (λ calls. counts_up calls next ≡ true) (all-lifted_calls es next) (counts-calls-all (hidden-the_row-TExpr-0 es) next)

-- ---- slots that are set

-- so many slots from a number on pass
abbrev pub Within : (ℕ → Bool) → ℕ → ℕ → Type 0
Within p n k = (i : ℕ) → n ≤ i → i < n + k → p i ≡ true

pub sets-calls : (calls : List Lifted) (n : ℕ) (t : Tree) (p : ℕ → Bool) → counts_up calls n ≡ true → Within p n (length calls) → sets_only t p ≡ true → sets_only (with_calls calls t) p ≡ true
sets-calls [] n t p up within rest = rest
sets-calls (x ∷ xs) n t p up within rest =
    let parts : ((x.slot == n) ≡ true) × (counts_up xs (n + 1) ≡ true) = and_parts _ _ up in
    let own : x.slot ≡ n = (Decides-eqb x.slot n).0 parts.0 in
    both_true _ _ (ap p own ∙ within n (omega arith) (omega arith)) (sets-calls xs (n + 1) t p parts.1 (λ i le lt. within i (omega arith) (omega arith)) rest)

-- another slot
another : (i n : ℕ) → (i ≡ n → ⊥) → all_but n i ≡ true
another i n apart = step (i == n) (Decides-eqb i n)
  where
    step : (b : Bool) → Decides b (i ≡ n) → not b ≡ true
    step true d = absurd (apart (d.0 refl))
    step false d = refl

pub other_than : (i n : ℕ) → n < i → all_but n i ≡ true
other_than i n lt = another i n (λ same. omega (arith, same, lt))

pub less_than : (i n : ℕ) → i < n → all_but n i ≡ true
less_than i n lt = another i n (λ same. omega (arith, same, lt))

pub once-calls : (calls : List Lifted) (n : ℕ) (t : Tree) → counts_up calls n ≡ true → Within (λ i. sets_only t (all_but i)) n (length calls) → sets_once t ≡ true → sets_once (with_calls calls t) ≡ true
once-calls [] n t up within once = once
once-calls (x ∷ xs) n t up within once =
    let parts : ((x.slot == n) ≡ true) × (counts_up xs (n + 1) ≡ true) = and_parts _ _ up in
    let own : x.slot ≡ n = (Decides-eqb x.slot n).0 parts.0 in
    both_true _ _
    (ap (λ s. sets_only (with_calls xs t) (all_but s)) own
    ∙ sets-calls xs (n + 1) t (all_but n) parts.1 (λ i le lt. other_than i n (omega (arith, le))) (within n (omega arith) (omega arith)))
    (once-calls xs (n + 1) t parts.1 (λ i le lt. within i (omega (arith, le)) (omega (arith, lt))) once)

-- ---- plain expressions

-- a body of `main`
pub record InMain (b : Body) : Type 0 where
  pub target : b.has_target ≡ false
  pub effects : b.effects ≡ 0

mutual
  pub plain-lifted : (e : TExpr) (b : Body) (next : ℕ) → InMain b → is_formed (kind_of b e) ≡ true → is_plain (lifted e next) ≡ true
  plain-lifted (Target attr) b next main h = absurd (false≢true (sym main.target ∙ (and_parts _ _ (formed_if _ Numeric h)).0))
  plain-lifted (Combined j) b next main h = let lt : j < b.effects = ltb-true _ _ (formed_if _ Numeric h) in absurd (omega (arith, main.effects, lt))
  plain-lifted (Agg' agg shape args place) b next main h = refl
  plain-lifted (Neg' shape (more_of-TExpr inner end_of-TExpr)) b next main h =
      plain-Neg (lifted inner next) ∙ plain-lifted inner b next main (number_formed (kind_of b inner) (formed_if _ Numeric h))
  plain-lifted (Not' shape (more_of-TExpr inner end_of-TExpr)) b next main h =
      plain-Not (lifted inner next) ∙ plain-lifted inner b next main (truth_formed (kind_of b inner) (formed_if _ Logical h))
  plain-lifted (Binary' op shape (more_of-TExpr left end_of-TExpr) shape' (more_of-TExpr right end_of-TExpr) place) b next main h =
      let formed : BothFormed (kind_of b left) (kind_of b right) = both_formed op (kind_of b left) (kind_of b right) h in
      plain-Binary op (lifted left next) (lifted right (next + calls_in left)) place
      ∙ both_true _ _ (plain-lifted left b next main formed.0) (plain-lifted right b (next + calls_in left) main formed.1)
  plain-lifted e b next main h = refl

  pub plain-lifted-all : {m : _} (es : Row_of-TExpr m) (b : Body) (next : ℕ) → InMain b → list_all is_number (kinds_of b es) ≡ true → all_plain (lifted_all es next) ≡ true
  plain-lifted-all end_of-TExpr b next main h = refl
  plain-lifted-all (more_of-TExpr e rest) b next main h =
      let parts : (is_number (kind_of b e) ≡ true) × (list_all is_number (kinds_of b rest) ≡ true) = and_parts _ _ h in
      both_true _ _ (plain-lifted e b next main (number_formed (kind_of b e) parts.0)) (plain-lifted-all rest b (next + calls_in e) main parts.1)

mutual
  pub plain-calls : (e : TExpr) (b : Body) (next : ℕ) (t : Tree) → InMain b → is_formed (kind_of b e) ≡ true → each plain t ≡ true → each plain (with_calls (lifted_calls e next) t) ≡ true
  plain-calls (Agg' agg shape args place) b next t main h rest =
      let numbers : list_all is_number (kinds_of b args) ≡ true = fit_numbers (slice_get b.aggs agg) (kinds_of b args) (formed_if _ Numeric h) in
      let own : Lifted = record { slot = next + calls_in_all args; call = record { agg = agg; args = lifted_all args next; place = place } } in
      ap (each plain) (with_calls-append (lifted_calls_all args next) (own ∷ []) t)
      ∙ plain-calls-all args b next (with_calls (own ∷ []) t) main numbers (both_true _ _ (plain-lifted-all args b next main numbers) rest)
  plain-calls (Neg' shape (more_of-TExpr inner end_of-TExpr)) b next t main h rest = plain-calls inner b next t main (number_formed (kind_of b inner) (formed_if _ Numeric h)) rest
  plain-calls (Not' shape (more_of-TExpr inner end_of-TExpr)) b next t main h rest = plain-calls inner b next t main (truth_formed (kind_of b inner) (formed_if _ Logical h)) rest
  plain-calls (Binary' op shape (more_of-TExpr left end_of-TExpr) shape' (more_of-TExpr right end_of-TExpr) place) b next t main h rest =
      let formed : BothFormed (kind_of b left) (kind_of b right) = both_formed op (kind_of b left) (kind_of b right) h in
      ap (each plain) (with_calls-append (lifted_calls left next) (lifted_calls right (next + calls_in left)) t)
      ∙ plain-calls left b next (with_calls (lifted_calls right (next + calls_in left)) t) main formed.0 (plain-calls right b (next + calls_in left) t main formed.1 rest)
  plain-calls e b next t main h rest = rest

  pub plain-calls-all : {m : _} (es : Row_of-TExpr m) (b : Body) (next : ℕ) (t : Tree) → InMain b → list_all is_number (kinds_of b es) ≡ true → each plain t ≡ true → each plain (with_calls (lifted_calls_all es next) t) ≡ true
  plain-calls-all end_of-TExpr b next t main h rest = rest
  plain-calls-all (more_of-TExpr e more) b next t main h rest =
      let parts : (is_number (kind_of b e) ≡ true) × (list_all is_number (kinds_of b more) ≡ true) = and_parts _ _ h in
      ap (each plain) (with_calls-append (lifted_calls e next) (lifted_calls_all more (next + calls_in e)) t)
      ∙ plain-calls e b next (with_calls (lifted_calls_all more (next + calls_in e)) t) main (number_formed (kind_of b e) parts.0) (plain-calls-all more b (next + calls_in e) t main parts.1 rest)

pub plain-list : (es : List TExpr) (b : Body) (next : ℕ) → InMain b → list_all is_number (map (kind_of b) es) ≡ true → all_plain (lifted_list es next) ≡ true
plain-list es b next main h =
    subst (λ made. all_plain made ≡ true) (all-lifted es next) (plain-lifted-all (hidden-the_row-TExpr-0 es) b next main (ap (list_all is_number) (kinds-hidden b es) ∙ h))

pub plain-calls-list : (es : List TExpr) (b : Body) (next : ℕ) (t : Tree) → InMain b → list_all is_number (map (kind_of b) es) ≡ true → each plain t ≡ true → each plain (with_calls (lifted_calls_list es next) t) ≡ true
plain-calls-list es b next t main h rest =
    subst (λ calls. each plain (with_calls calls t) ≡ true) (all-lifted_calls es next)
    (plain-calls-all (hidden-the_row-TExpr-0 es) b next t main (ap (list_all is_number) (kinds-hidden b es) ∙ h) rest)

-- ---- slots that are read

pub wider : (e : TExpr) (p q : ℕ → Bool) → ((i : ℕ) → p i ≡ true → q i ≡ true) → reads_only e p ≡ true → reads_only e q ≡ true
wider e p q law h = reads-from e p p q (λ i a b. law i a) h h

pub list-wider : (es : List TExpr) (p q : ℕ → Bool) → ((i : ℕ) → p i ≡ true → q i ≡ true) → list_reads_only es p ≡ true → list_reads_only es q ≡ true
list-wider es p q law h = list-reads-from es p p q (λ i a b. law i a) h h

leb_of : (n m : ℕ) → n ≤ m → nat_le n m ≡ true
leb_of n m le = le-leb n m le

ltb_of : (n m : ℕ) → n < m → nat_lt n m ≡ true
ltb_of n m lt = lt-ltb n m lt

-- these slots, and so many from a number on
abbrev pub grown : (ℕ → Bool) → ℕ → ℕ → ℕ → Bool
grown set n k i = set i || (nat_le n i && nat_lt i (n + k))

pub in_grown : (set : ℕ → Bool) (n k i : ℕ) → set i ≡ true → grown set n k i ≡ true
in_grown set n k i h = ap (λ b. b || (nat_le n i && nat_lt i (n + k))) h

pub new_grown : (set : ℕ → Bool) (n k i : ℕ) → n ≤ i → i < n + k → grown set n k i ≡ true
new_grown set n k i le lt = or_right (set i) (nat_le n i && nat_lt i (n + k)) (both_true _ _ (leb_of n i le) (ltb_of i (n + k) lt))

-- from one range to another
pub grown_from : (set q : ℕ → Bool) (n k : ℕ) → ((i : ℕ) → set i ≡ true → q i ≡ true) → Within q n k → (i : ℕ) → grown set n k i ≡ true → q i ≡ true
grown_from set q n k old new i h =
    or_parts (set i) (nat_le n i && nat_lt i (n + k)) (q i ≡ true) (old i)
    (λ range. let parts : (nat_le n i ≡ true) × (nat_lt i (n + k) ≡ true) = and_parts _ _ range in new i (leb-true _ _ parts.0) (ltb-true _ _ parts.1)) h

mutual
  pub reads-lifted : (e : TExpr) (set : ℕ → Bool) (next : ℕ) → reads_only e set ≡ true → reads_only (lifted e next) (grown set next (calls_in e)) ≡ true
  reads-lifted (Slot j) set next h = in_grown set next 0 j h
  reads-lifted (Agg' agg shape args place) set next h = new_grown set next (calls_in_all args + 1) (next + calls_in_all args) (omega arith) (omega arith)
  reads-lifted (Neg' shape (more_of-TExpr inner end_of-TExpr)) set next h = reads-Neg (lifted inner next) _ ∙ reads-lifted inner set next h
  reads-lifted (Not' shape (more_of-TExpr inner end_of-TExpr)) set next h = reads-Not (lifted inner next) _ ∙ reads-lifted inner set next h
  reads-lifted (Binary' op shape (more_of-TExpr left end_of-TExpr) shape' (more_of-TExpr right end_of-TExpr) place) set next h =
      let parts : (reads_only left set ≡ true) × (reads_only right set ≡ true) = and_parts _ _ h in
      let all : ℕ → Bool = grown set next (calls_in left + calls_in right) in
      reads-Binary op (lifted left next) (lifted right (next + calls_in left)) place all
      ∙ both_true _ _
      (wider (lifted left next) (grown set next (calls_in left)) all
      (grown_from set all next (calls_in left) (in_grown set next (calls_in left + calls_in right)) (λ i le lt. new_grown set next (calls_in left + calls_in right) i le (omega (arith, lt))))
      (reads-lifted left set next parts.0))
      (wider (lifted right (next + calls_in left)) (grown set (next + calls_in left) (calls_in right)) all
      (grown_from set all (next + calls_in left) (calls_in right) (in_grown set next (calls_in left + calls_in right))
      (λ i le lt. new_grown set next (calls_in left + calls_in right) i (omega (arith, le)) (omega (arith, lt))))
      (reads-lifted right set (next + calls_in left) parts.1))
  reads-lifted e set next h = refl

  pub reads-lifted-all : {m : _} (es : Row_of-TExpr m) (set : ℕ → Bool) (next : ℕ) → all_read_only es set ≡ true → list_reads_only (lifted_all es next) (grown set next (calls_in_all es)) ≡ true
  reads-lifted-all end_of-TExpr set next h = refl
  reads-lifted-all (more_of-TExpr e rest) set next h =
      let parts : (reads_only e set ≡ true) × (all_read_only rest set ≡ true) = and_parts _ _ h in
      let all : ℕ → Bool = grown set next (calls_in e + calls_in_all rest) in
      both_true _ _
      (wider (lifted e next) (grown set next (calls_in e)) all
      (grown_from set all next (calls_in e) (in_grown set next (calls_in e + calls_in_all rest)) (λ i le lt. new_grown set next (calls_in e + calls_in_all rest) i le (omega (arith, lt))))
      (reads-lifted e set next parts.0))
      (list-wider (lifted_all rest (next + calls_in e)) (grown set (next + calls_in e) (calls_in_all rest)) all
      (grown_from set all (next + calls_in e) (calls_in_all rest) (in_grown set next (calls_in e + calls_in_all rest))
      (λ i le lt. new_grown set next (calls_in e + calls_in_all rest) i (omega (arith, le)) (omega (arith, lt))))
      (reads-lifted-all rest set (next + calls_in e) parts.1))
