-- The script that is written out, and its sizes.
use Rattle.std.proofs.Common.{◌≡◌, ℕ, ◌+◌, ◌<◌, ◌≤◌, ◌==◌, true, [], length, refl, ap, sym, ◌∙◌, subst, arith}
use Rattle.std.specs.Prelude.{◌&&◌, nat_le}
use Rattle.std.proofs.lemmas.Bool.{eq-eqb, le-leb}
use Rattle.sgl_typed.specs.declared.script.TScript.{TScript}
use Rattle.sgl_typed.specs.Sizes.{written_nodes, written_depth}
use Rattle.sgl_typed.specs.WellFormed.{slots_of_all}
use Rattle.sgl_typed.specs.WrittenOut.{all_call_none, is_written_out}
use Rattle.sgl_typed.proofs.Forms.{form_of}
use Rattle.sgl_typed.proofs.Scope.{both_true}
use Rattle.sgl_expand.specs.Expand.{main_of, main_nodes, main_depth, IsWritten, IsSmall}
use Rattle.sgl_expand.specs.Meaning.{CountsAll}
use Rattle.sgl_expand.specs.Sizes.{capped}
use Rattle.sgl_expand.specs.Written.{lets}
use Rattle.sgl_expand.proofs.Capped.{main-within}
use Rattle.sgl_expand.proofs.Closed.{EachBelow, routines-below}
use Rattle.sgl_expand.proofs.Counted.{main-counted}

-- ---- sizes

pub nodes-law : (s : TScript) → main_nodes s ≡ written_nodes s.routines s.main
nodes-law s = (main-counted s.routines s.main).nodes

pub depth-law : (s : TScript) → main_depth s ≡ written_depth s.routines s.main
depth-law s = ap (λ n. 1 + n) (main-counted s.routines s.main).depth

above : (n count limit : ℕ) → limit < 18446744073709551615 → n ≡ capped count → limit < n → limit < count
above n count limit low is lt = grind (arith)

within : (n count limit : ℕ) → limit < 18446744073709551615 → n ≡ capped count → n ≤ limit → count ≤ limit
within n count limit low is le = grind (arith)

same-below : (n count : ℕ) → n ≡ capped count → count ≤ 20001 → n ≡ count
same-below n count is le = grind (arith)

pub too-large : (s : TScript) (nodes : ℕ) → nodes ≡ capped (written_nodes s.routines s.main) → 20000 < nodes → (20000 < main_nodes s) × (nodes ≡ capped (main_nodes s))
too-large s nodes is lt =
    (subst (λ n. 20000 < n) (sym (nodes-law s)) (above nodes (written_nodes s.routines s.main) 20000 (omega arith) is lt), is ∙ ap capped (sym (nodes-law s)))

pub few-nodes : (s : TScript) (nodes : ℕ) → nodes ≡ capped (written_nodes s.routines s.main) → nodes ≤ 20000 → main_nodes s ≤ 20000
few-nodes s nodes is le = subst (λ n. n ≤ 20000) (sym (nodes-law s)) (within nodes (written_nodes s.routines s.main) 20000 (omega arith) is le)

pub exact-depth : (s : TScript) (depth : ℕ) → depth ≡ capped (written_depth s.routines s.main) → main_nodes s ≤ 20000 → depth ≡ main_depth s
exact-depth s depth is few =
    let le = main-within s.routines s.main in
    let same = nodes-law s in
    let low : written_depth s.routines s.main ≤ 20001 = omega arith in
    same-below depth (written_depth s.routines s.main) is low ∙ sym (depth-law s)

-- ---- the script

pub each-below : (s : TScript) → EachBelow 0 s.routines
each-below s = routines-below s.schema s.aggs s.actions [] s.routines (form_of s).routines

-- a small script that is written out has all that written-out scripts have
pub small-written-out : (s out : TScript) → IsWritten s out → IsSmall s → is_written_out out ≡ true
unfolding is_written_out
small-written-out s out w small =
    (λ i. (length (w.routines i) == 0) && all_call_none (w.main i) && (w.slots i == length (slots_of_all (w.main i))) && nat_le (written_nodes (w.routines i) (w.main i)) 20000 && nat_le (written_depth (w.routines i) (w.main i)) 256)
    ∙ both_true _ _ (both_true _ _ (both_true _ _ (both_true _ _ refl (main-counted s.routines s.main).none) (eq-eqb (lets (main_of s)) (lets (main_of s)) refl)) (le-leb (main_nodes s) 20000 small.nodes)) (le-leb (main_depth s) 256 small.depth)

-- the sizes of every script are those of its written-out `main`
pub counts-all : CountsAll
counts-all s = record { nodes = nodes-law s; depth = depth-law s }
