-- The translation of a script's statements gives their items.
use Rattle.std.proofs.Common.{Decides, ◌≢◌, ◌==◌, ◌≡◌, ℕ, ◌+◌, ◌<◌, ◌≤◌, Bool, true, false, List, [], ◌∷◌, ◌++◌, map, length, set, refl, ap, sym, ◌∙◌, arith, append_assoc, length-append, Option, Some, None, subst}
use Rattle.std.specs.Prelude.{slice_get, ◌&&◌, flat_map}
use Rattle.std.proofs.lemmas.Bool.{and_parts, ltb-true, false≢true}
use Rattle.std.proofs.lemmas.List.{append-nil, length-set, get_or-set_same, get_or-set_other}
use Rattle.std.proofs.lemmas.Bool.Decides.{Decides-eqb}
use Rattle.sgl_values.specs.declared.place.Place.{Place}
use Rattle.sgl_values.specs.declared.fault.Val.{Val}
use Rattle.sgl_values.specs.declared.item.Item.{Item}
use Rattle.sgl_typed.specs.Aggregate.{simple_value, value}
use Rattle.sgl_typed.specs.Items.{statement_items, block_items, after, chosen, action_items, clause_items}
use Rattle.sgl_typed.specs.Value.{Context}
use Rattle.sgl_typed.specs.declared.script.TAction.{TAction}
use Rattle.sgl_typed.specs.declared.script.TExpr.{TExpr}
use Rattle.sgl_typed.specs.declared.script.TOn.{TOn}
use Rattle.sgl_typed.specs.declared.script.TStmt.{TStmt, Row_of-TStmt, end_of-TStmt, more_of-TStmt}
use Rattle.sgl_typed.specs.declared.script.TStmt.TheVariants.{Let, If', Act, Call}
use Rattle.sgl_typed.specs.Reads.{reads_only, list_reads_only, statement_uses, block_uses, below}
use Rattle.plan_translate.specs.Calls.{Lifted, calls_in, lifted, lifted_calls, lifted_calls_all}
use Rattle.battle_algebra.specs.Meaning.{Frame, frame_items, items_of_clause, clause_of}
use Rattle.plan_translate.specs.Translation.{calls_in_list, lifted_list, lifted_calls_list, clauses, clauses_in, followed, calls_of, calls_of_block, statement_tree, block_tree}
use Rattle.battle_algebra.specs.Tree.{Tree, Extended, Parted}
use Rattle.plan_translate.proofs.Lifting.{ran, length-ran, frame-with_calls, Agree, kept, agree_kept, value-lifted, values-lifted}
use Rattle.battle_algebra.proofs.Walks.{at_slot, called}
use Rattle.sgl_typed.proofs.Equations.{all-read-hidden, values-hidden}
use Rattle.sgl_typed.specs.declared.script.TExpr.TheBlock.{hidden-the_row-TExpr-0}
use Rattle.plan_translate.proofs.Equations.{all-calls_in, all-lifted, all-lifted_calls}

-- ---- arguments

list-lifted : (es : List TExpr) (next bound : ℕ) (c : Context) (xs ys zs : List Val) → list_reads_only es (below bound) ≡ true → bound ≤ next → next + calls_in_list es ≤ length ys
    → Agree bound xs ys → Agree (next + calls_in_list es) (ran (lifted_calls_list es next) c ys) zs
    → map (simple_value (record c { slots = zs })) (lifted_list es next) ≡ map (value (record c { slots = xs })) es
list-lifted es next bound c xs ys zs reads le room a b =
    ap (map (simple_value (record c { slots = zs }))) (sym (all-lifted es next))
    ∙ values-lifted (hidden-the_row-TExpr-0 es) next bound c xs ys zs (all-read-hidden es (below bound) ∙ reads) le (omega (arith, room, all-calls_in es)) a
    (subst (λ n. Agree (next + n) (ran (lifted_calls_all (hidden-the_row-TExpr-0 es) next) c ys) zs) (sym (all-calls_in es))
    (subst (λ calls. Agree (next + calls_in_list es) (ran calls c ys) zs) (sym (all-lifted_calls es next)) b))
    ∙ values-hidden (called (record c { slots = xs })) (record c { slots = xs }) es

-- ---- clauses

slice_get-at : {A : Type 0} (before : List A) (x : A) (behind : List A) → slice_get (before ++ x ∷ behind) (length before) ≡ Some x
slice_get-at [] x behind = refl
slice_get-at (y ∷ before) x behind = slice_get-at before x behind

-- the items of the clauses behind others
clauses-behind : (before ons : List TOn) (a : TAction) (clause action : ℕ) (args : List TExpr) (place : Place) (c : Context)
    → a.ons ≡ before ++ ons → clause ≡ length before → slice_get c.script.actions action ≡ Some a
    → frame_items (clauses ons clause action args place) c ≡ flat_map (clause_items (record c { slots = map (simple_value c) args })) ons
clauses-behind before [] a clause action args place c are at found = refl
clauses-behind before (on ∷ []) a clause action args place c are at found =
    ap (λ action. items_of_clause (record c { slots = map (simple_value c) args }) (clause_of action clause)) found
    ∙ (λ i. items_of_clause (record c { slots = map (simple_value c) args }) (slice_get (are i) (at i)))
    ∙ ap (items_of_clause (record c { slots = map (simple_value c) args })) (slice_get-at before on [])
    ∙ sym (append-nil _)
clauses-behind before (on ∷ next ∷ more) a clause action args place c are at found =
    let one : items_of_clause (record c { slots = map (simple_value c) args }) (clause_of (slice_get c.script.actions action) clause) ≡ clause_items (record c { slots = map (simple_value c) args }) on =
    ap (λ action. items_of_clause (record c { slots = map (simple_value c) args }) (clause_of action clause)) found
    ∙ (λ i. items_of_clause (record c { slots = map (simple_value c) args }) (slice_get (are i) (at i)))
    ∙ ap (items_of_clause (record c { slots = map (simple_value c) args })) (slice_get-at before on (next ∷ more)) in
    let rest : frame_items (clauses (next ∷ more) (clause + 1) action args place) c ≡ flat_map (clause_items (record c { slots = map (simple_value c) args })) (next ∷ more) =
    clauses-behind (before ++ on ∷ []) (next ∷ more) a (clause + 1) action args place c
    (are ∙ sym (append_assoc before (on ∷ []) (next ∷ more))) (omega (arith, length-append before (on ∷ []))) found in
    λ i. one i ++ rest i

clauses-all : (found : Option TAction) (action : ℕ) (args : List TExpr) (place : Place) (c : Context) → slice_get c.script.actions action ≡ found
    → frame_items (clauses (clauses_in found) 0 action args place) c ≡ action_items (record c { slots = map (simple_value c) args }) found
clauses-all None action args place c is = refl
clauses-all (Some a) action args place c is = clauses-behind [] a.ons a 0 action args place c refl refl is

-- ---- statements

agree_set : (bound slot : ℕ) (xs ys : List Val) (v w : Val) → slot < length xs → slot < length ys → v ≡ w → Agree bound xs ys → Agree bound (set xs slot v) (set ys slot w)
agree_set bound slot xs ys v w inside inside' same a = record { agree = λ i lt. step i (i == slot) (Decides-eqb i slot) (a.agree i lt) }
  where
    step : (i : ℕ) (b : Bool) → Decides b (i ≡ slot) → at_slot xs i ≡ at_slot ys i → at_slot (set xs slot v) i ≡ at_slot (set ys slot w) i
    step i true d agree =
        ap (at_slot (set xs slot v)) (d.0 refl) ∙ get_or-set_same xs slot v _ inside ∙ same ∙ sym (get_or-set_same ys slot w _ inside')
        ∙ ap (at_slot (set ys slot w)) (sym (d.0 refl))
    step i false d agree =
        let differs : i ≢ slot = λ e. absurd (false≢true (d.1 e)) in
        get_or-set_other xs slot i v _ differs ∙ agree ∙ sym (get_or-set_other ys slot i w _ differs)

followed-both : {m : _} (rest : Row_of-TStmt m) (actions : List TAction) (next : ℕ) (t : Tree) (f : Frame)
    → frame_items (followed rest t (block_tree actions rest next)) f ≡ frame_items t f ++ frame_items (block_tree actions rest next) f
followed-both end_of-TStmt actions next t f = sym (append-nil _)
followed-both (more_of-TStmt statement rest) actions next t f = refl

mutual
  pub statement-translated : (s : TStmt) (next bound : ℕ) (c : Context) (xs ys : List Val) (behind : Tree → Tree → Tree) (rest : Tree) (more : Context → List Item)
      → statement_uses s (below bound) ≡ true → bound ≤ next → next + calls_of s ≤ length ys → length xs ≡ bound → Agree bound xs ys
      → ((t : Tree) (f : Frame) → frame_items (behind t rest) f ≡ frame_items t f ++ frame_items rest f)
      → ((xs ys' : List Val) → length xs ≡ bound → length ys' ≡ length ys → Agree bound xs ys' → frame_items rest (record c { slots = ys' }) ≡ more (record c { slots = xs }))
      → frame_items (statement_tree c.script.actions s next behind rest) (record c { slots = ys }) ≡ statement_items s (record c { slots = xs }) ++ more (after s (record c { slots = xs }))
  statement-translated (Let slot e place) next bound c xs ys behind rest more uses le room full a both later =
      let parts : (reads_only e (below bound) ≡ true) × (below bound slot ≡ true) = and_parts _ _ uses in
      let nodes : List Lifted = lifted_calls e next in
      let slots : List Val = ran nodes c ys in
      let same : simple_value (record c { slots = slots }) (lifted e next) ≡ value (record c { slots = xs }) e =
      value-lifted e next bound c xs ys slots parts.0 le room a (record { agree = λ i lt. refl }) in
      let lt : slot < bound = ltb-true _ _ parts.1 in
      frame-with_calls nodes (Extended slot (lifted e next) place rest) c ys
      ∙ later (set xs slot (value (record c { slots = xs }) e)) (set slots slot (simple_value (record c { slots = slots }) (lifted e next)))
      (length-set xs slot _ ∙ full) (length-set slots slot _ ∙ length-ran nodes c ys)
      (agree_set bound slot xs slots _ _ (omega arith) (omega (arith, length-ran nodes c ys)) (sym same)
      (agree_kept nodes c xs ys bound next le (λ i lt. kept e next c ys i lt) a))
  statement-translated (If' cond place shape taken shape' other) next bound c xs ys behind rest more uses le room full a both later =
      let parts : (reads_only cond (below bound) && block_uses taken (below bound) ≡ true) × (block_uses other (below bound) ≡ true) = and_parts _ _ uses in
      let parts' : (reads_only cond (below bound) ≡ true) × (block_uses taken (below bound) ≡ true) = and_parts _ _ parts.0 in
      let nodes : List Lifted = lifted_calls cond next in
      let slots : List Val = ran nodes c ys in
      let agreed : Agree bound xs slots = agree_kept nodes c xs ys bound next le (λ i lt. kept cond next c ys i lt) a in
      let v : simple_value (record c { slots = slots }) (lifted cond next) ≡ value (record c { slots = xs }) cond =
      value-lifted cond next bound c xs ys slots parts'.0 le (omega arith) a (record { agree = λ i lt. refl }) in
      let yes' : frame_items (block_tree c.script.actions taken (next + calls_in cond)) (record c { slots = slots }) ≡ block_items taken (record c { slots = xs }) =
      block-translated taken (next + calls_in cond) bound c xs slots parts'.1 (omega arith) (omega (arith, length-ran nodes c ys)) full agreed in
      let no' : frame_items (block_tree c.script.actions other (next + calls_in cond + calls_of_block taken)) (record c { slots = slots }) ≡ block_items other (record c { slots = xs }) =
      block-translated other (next + calls_in cond + calls_of_block taken) bound c xs slots parts.1 (omega arith) (omega (arith, length-ran nodes c ys)) full agreed in
      let split : Tree = Parted (lifted cond next) place (block_tree c.script.actions taken (next + calls_in cond)) (block_tree c.script.actions other (next + calls_in cond + calls_of_block taken)) in
      both _ _
      ∙ (λ i. (frame-with_calls nodes split c ys ∙ (λ j. chosen (record c { slots = xs }) (v j) (yes' j) (no' j))) i ++ later xs ys full refl a i)
  statement-translated (Act action args place) next bound c xs ys behind rest more uses le room full a both later =
      let nodes : List Lifted = lifted_calls_list args next in
      let slots : List Val = ran nodes c ys in
      let vs : map (simple_value (record c { slots = slots })) (lifted_list args next) ≡ map (value (record c { slots = xs })) args =
      list-lifted args next bound c xs ys slots uses le room a (record { agree = λ i lt. refl }) in
      let items : frame_items (clauses (clauses_in (slice_get c.script.actions action)) 0 action (lifted_list args next) place) (record c { slots = slots }) ≡ action_items (record c { slots = map (value (record c { slots = xs })) args }) (slice_get c.script.actions action) =
      clauses-all (slice_get c.script.actions action) action (lifted_list args next) place (record c { slots = slots }) refl
      ∙ ap (λ values. action_items (record c { slots = values }) (slice_get c.script.actions action)) vs in
      let acting : Tree = clauses (clauses_in (slice_get c.script.actions action)) 0 action (lifted_list args next) place in
      both _ _
      ∙ (λ i. (frame-with_calls nodes acting c ys ∙ items) i ++ later xs ys full refl a i)
  statement-translated (Call routine args places) next bound c xs ys behind rest more uses le room full a both later =
      both _ _ ∙ later xs ys full refl a

  -- the tree of a block gives its items, for a frame that agrees on the slots of the script
  pub block-translated : {m : _} (b : Row_of-TStmt m) (next bound : ℕ) (c : Context) (xs ys : List Val) → block_uses b (below bound) ≡ true → bound ≤ next → next + calls_of_block b ≤ length ys → length xs ≡ bound → Agree bound xs ys
      → frame_items (block_tree c.script.actions b next) (record c { slots = ys }) ≡ block_items b (record c { slots = xs })
  block-translated end_of-TStmt next bound c xs ys uses le room full a = refl
  block-translated (more_of-TStmt statement rest) next bound c xs ys uses le room full a =
      let parts : (statement_uses statement (below bound) ≡ true) × (block_uses rest (below bound) ≡ true) = and_parts _ _ uses in
      statement-translated statement next bound c xs ys (followed rest) (block_tree c.script.actions rest (next + calls_of statement)) (block_items rest)
      parts.0 le (omega arith) full a (followed-both rest c.script.actions (next + calls_of statement))
      (λ xs' ys' full' long agree. block-translated rest (next + calls_of statement) bound c xs' ys' parts.1 (omega arith) (omega arith) full' agree)
