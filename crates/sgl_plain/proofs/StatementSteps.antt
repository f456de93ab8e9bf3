-- The items of statements, one after the other.
use Rattle.std.proofs.Common.{map, flat_map, ◌≡◌, ℕ, ℤ, ◌+◌, ◌<◌, List, [], ◌∷◌, ◌++◌, length, drop, get_or, ap, sym, ◌∙◌, subst, Some, None, Result, OnOk}
use Rattle.std.specs.Prelude.{slice_get}
use Rattle.std.proofs.lemmas.List.{at_drop_more}
use Rattle.sgl_values.specs.World.{Row, World, row_at}
use Rattle.sgl_values.specs.declared.place.Place.{Place}
use Rattle.sgl_values.specs.declared.fault.Fault.{Fault}
use Rattle.sgl_values.specs.declared.fault.Val.{Val}
use Rattle.sgl_values.specs.declared.item.Item.{Item}
use Rattle.sgl_typed.specs.declared.script.TExpr.{TExpr}
use Rattle.sgl_typed.specs.declared.script.TOn.{TOn}
use Rattle.sgl_typed.specs.declared.script.TStmt.{TStmt}
use Rattle.sgl_typed.specs.declared.script.TStmt.TheVariants.{If, Act}
use Rattle.sgl_typed.specs.Aggregate.{value}
use Rattle.sgl_typed.specs.Value.{Context}
use Rattle.sgl_typed.specs.Items.{items, statement_items, action_items, after, chosen, clause_given, clause_items, faulty, row_items, rows_items}
use Rattle.sgl_typed.proofs.Equations.{items-If}
use Rattle.sgl_evaluate.specs.Rights.{first_fault_of, right_of}
use Rattle.sgl_evaluate.proofs.RightSides.{rights_fault, rights_numbers}
use Rattle.sgl_plain.specs.Collected.{Collected, Adds}
use Rattle.sgl_plain.specs.Leads.{Leads}
use Rattle.sgl_plain.proofs.Adding.{Leads-more}

-- ---- clauses

-- a clause of which a right side has a fault
pub clause_fault : (c : Context) (clause : TOn) (fault : Fault) → Some fault ≡ first_fault_of c clause.tests → faulty c.unit.key fault 0 ∷ [] ≡ clause_items c clause
clause_fault c clause fault found = sym (ap (clause_given c clause) (rights_fault c clause.tests fault found))

-- a clause of which none has
pub clause_rows : (c : Context) (clause : TOn) → None ≡ first_fault_of c clause.tests → rows_items c clause (map (right_of c) clause.tests) 0 c.world.rows ≡ clause_items c clause
clause_rows c clause found = sym (ap (clause_given c clause) (rights_numbers c clause.tests found))

-- ---- statements

-- the items of an `if` whose condition has this value
pub if_items : (c : Context) (s : TStmt) (cond : TExpr) (place : Place) (taken other : List TStmt) (v : Val) → s ≡ If cond place taken other → v ≡ value c cond
    → chosen c v (items taken c) (items other c) ≡ statement_items s c
if_items c s cond place taken other v is same =
    ap (λ u. chosen c u (items taken c) (items other c)) same ∙ sym (items-If c cond place taken other) ∙ ap (λ st. statement_items st c) (sym is)

-- a block that was chosen
pub adds_if : {R : Type 0} (result : Result (Unit {0}) R) (old new : Collected) (c : Context) (s : TStmt) (cond : TExpr) (place : Place) (taken other block : List TStmt) (v : Val)
    → s ≡ If cond place taken other → v ≡ value c cond → items block c ≡ chosen c v (items taken c) (items other c)
    → OnOk result (Adds old new (items block c)) → OnOk result (Adds old new (statement_items s c))
adds_if result old new c s cond place taken other block v is same which adds =
    subst (λ more. OnOk result (Adds old new more)) (which ∙ if_items c s cond place taken other v is same) adds

-- an action, with the values of its arguments
pub adds_act : {R : Type 0} (result : Result (Unit {0}) R) (old new : Collected) (c : Context) (s : TStmt) (action : ℕ) (args given : List TExpr) (values : List Val) (place : Place)
    → s ≡ Act action args place → given ≡ args → values ≡ map (value c) given
    → OnOk result (Adds old new (action_items (record c { slots = values }) (slice_get c.script.actions action)))
    → OnOk result (Adds old new (statement_items s c))
adds_act result old new c s action args given values place is same are adds =
    subst (λ more. OnOk result (Adds old new more))
    (ap (λ xs. action_items (record c { slots = xs }) (slice_get c.script.actions action)) (are ∙ ap (map (value c)) same)
    ∙ ap (λ st. statement_items st c) (sym is))
    adds

-- one more statement
pub statements_more : {start now next : Collected} {whole : List Item} (c c' : Context) (ss : List TStmt) (i : ℕ) (s : TStmt) → i < length ss → s ≡ get_or ss i s
    → Leads start now (items (drop i ss) c) whole → Adds now next (statement_items s c) → c' ≡ after s c → Leads start next (items (drop (i + 1) ss) c') whole
statements_more {start = start} {now = now} {next = next} {whole = whole} c c' ss i s lt is before adds behind =
    let rest : items (drop i ss) c ≡ statement_items s c ++ items (drop (i + 1) ss) c' =
    at_drop_more (λ xs. items xs c) ss i s lt
    ∙ ap (λ st. statement_items st c ++ items (drop (i + 1) ss) (after st c)) (sym is)
    ∙ ap (λ (more : Context). statement_items s c ++ items (drop (i + 1) ss) more) (sym behind) in
    Leads-more (subst (λ left. Leads start now left whole) rest before) adds

-- ---- rows

abbrev no_row : Row
no_row = record { key = 0; values = [] }

-- the writes at one more row
pub rows_more : {start now next : Collected} {whole : List Item} (c : Context) (clause : TOn) (rights : List ℤ) (world : World) (i : ℕ) → i < length world.rows
    → Leads start now (rows_items c clause rights i (drop i world.rows)) whole → Adds now next (row_items c clause rights i (row_at world i))
    → Leads start next (rows_items c clause rights (i + 1) (drop (i + 1) world.rows)) whole
rows_more {start = start} {now = now} {whole = whole} c clause rights world i lt before adds =
    Leads-more (subst (λ left. Leads start now left whole) (at_drop_more (rows_items c clause rights i) world.rows i no_row lt) before) adds

-- the items of one more unit
pub units_more : {start now next : Collected} {whole : List Item} (given : Row → List Item) (world : World) (i : ℕ) → i < length world.rows
    → Leads start now (flat_map given (drop i world.rows)) whole → Adds now next (given (row_at world i))
    → Leads start next (flat_map given (drop (i + 1) world.rows)) whole
units_more {start = start} {now = now} {whole = whole} given world i lt before adds =
    Leads-more (subst (λ left. Leads start now left whole) (at_drop_more (flat_map given) world.rows i no_row lt) before) adds
