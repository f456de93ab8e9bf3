-- Rewriting of plans: calls that are made again are read from above, and then each node goes down to where it is read.
use Rattle.std.specs.Prelude.{ℕ, ◌==◌, Bool, true, false, List, [], ◌∷◌, Option, Some, None, if◌then◌else◌, map}
use Rattle.sgl_values.specs.declared.place.Place.{Place}
use Rattle.sgl_typed.specs.declared.script.AggUse.{AggUse}
use Rattle.sgl_typed.specs.declared.script.TExpr.{TExpr}
use Rattle.sgl_typed.specs.Renamed.{renamed}
use Rattle.battle_algebra.specs.Normal.{literal, is_nothing, stays_above}
use Rattle.battle_algebra.specs.Reads.{all_but, tree_reads_only, is_read_in}
use Rattle.battle_algebra.specs.Tree.{Source, Computed, Called, Tree, Nothing, Setting, Parted, Acting, Joined}
use Rattle.battle_algebra.specs.declared.plan.EffectUse.{EffectUse}
pub use Rattle.plan_rewrite.specs.declared.renaming.Renaming.{Renaming}
pub use Rattle.plan_rewrite.specs.declared.known.Known.{Known}
use Rattle.battle_algebra.specs.ChosenWays.{Ways}

-- ---- slots that are read in place of others

abbrev pub slot_for : List Renaming → ℕ → ℕ
slot_for [] slot = slot
slot_for (r ∷ more) slot = if slot == r.from then r.to else slot_for more slot

-- the expression with these renamings
abbrev pub moved : List Renaming → TExpr → TExpr
moved [] e = e
moved (r ∷ more) e = renamed (slot_for (r ∷ more)) e

abbrev pub all_moved : List Renaming → List TExpr → List TExpr
all_moved [] es = es
all_moved (r ∷ more) es = map (renamed (slot_for (r ∷ more))) es

abbrev pub moved_call : List Renaming → AggUse → AggUse
moved_call renamings call = record { agg = call.agg; args = all_moved renamings call.args; place = call.place }

abbrev pub moved_act : List Renaming → EffectUse → EffectUse
moved_act renamings act = record { action = act.action; clause = act.clause; args = all_moved renamings act.args; place = act.place }

-- ---- calls that are made again

-- the slot of an equal call; `same` tells equal calls
abbrev pub slot_of : (AggUse → AggUse → Bool) → AggUse → List Known → Option ℕ
slot_of same call [] = None
slot_of same call (known ∷ more) = if same call known.call then Some known.slot else slot_of same call more

abbrev pub or_known : Option ℕ → (ℕ → Tree) → Tree → Tree
or_known None known tree = tree
or_known (Some slot) known tree = known slot

-- each call that is made above is taken out, and its slot is read from there; ways are set
abbrev pub unified : (AggUse → AggUse → Bool) → Ways → Tree → List Renaming → List Known → Tree
unified same ways Nothing renamings above = Nothing
unified same ways (Setting slot (Computed e place) below) renamings above =
    Setting slot (Computed (moved renamings e) place) (unified same ways below renamings above)
unified same ways (Setting slot (Called call way) below) renamings above =
    or_known (slot_of same (moved_call renamings call) above)
    (λ other. unified same ways below (record { from = slot; to = other } ∷ renamings) above)
    (Setting slot (Called (moved_call renamings call) (ways.of_call (moved_call renamings call)))
    (unified same ways below renamings (record { slot = slot; call = moved_call renamings call } ∷ above)))
unified same ways (Parted cond place taken other) renamings above =
    Parted (moved renamings cond) place (unified same ways taken renamings above) (unified same ways other renamings above)
unified same ways (Acting act way) renamings above = Acting (moved_act renamings act) (ways.of_act (moved_act renamings act))
unified same ways (Joined left right) renamings above =
    Joined (unified same ways left renamings above) (unified same ways right renamings above)

-- ---- from the leaves up

-- takes a node down below the next split, and on, while only one branch reads its slot
abbrev pub lowered : Tree → ℕ → Source → Tree
lowered Nothing slot source = Setting slot source Nothing
lowered (Setting other from below) slot source =
    if stays_above (Setting other from below) slot then Setting slot source (Setting other from below)
    else Setting other from (lowered below slot source)
lowered (Parted cond place taken other) slot source =
    if stays_above (Parted cond place taken other) slot then Setting slot source (Parted cond place taken other)
    else if is_read_in taken slot then Parted cond place (lowered taken slot source) other
    else Parted cond place taken (lowered other slot source)
lowered (Acting act way) slot source = Setting slot source (Acting act way)
lowered (Joined left right) slot source = Setting slot source (Joined left right)

-- a node whose slot nothing reads is left out
abbrev pub placed : ℕ → Source → Tree → Tree
placed slot source below = if tree_reads_only below (all_but slot) then below else lowered below slot source

abbrev pub parted : Option Bool → TExpr → Place → Tree → Tree → Tree
parted None cond place taken other = Parted cond place taken other
parted (Some true) cond place taken other = taken
parted (Some false) cond place taken other = other

abbrev pub joined : Tree → Tree → Tree
joined left right = if is_nothing left then right else if is_nothing right then left else Joined left right

abbrev pub tidied : Tree → Tree
tidied Nothing = Nothing
tidied (Setting slot source below) = placed slot source (tidied below)
tidied (Parted cond place taken other) = parted (literal cond) cond place (tidied taken) (tidied other)
tidied (Acting act way) = Acting act way
tidied (Joined left right) = joined (tidied left) (tidied right)

-- the whole
abbrev pub rewritten : (AggUse → AggUse → Bool) → Ways → Tree → Tree
rewritten same ways tree = tidied (unified same ways tree [] [])

-- the tree with its ways set
abbrev pub source_with : Ways → Source → Source
source_with ways (Computed e place) = Computed e place
source_with ways (Called call way) = Called call (ways.of_call call)

abbrev pub with_ways : Ways → Tree → Tree
with_ways ways Nothing = Nothing
with_ways ways (Setting slot source below) = Setting slot (source_with ways source) (with_ways ways below)
with_ways ways (Parted cond place taken other) = Parted cond place (with_ways ways taken) (with_ways ways other)
with_ways ways (Acting act way) = Acting act (ways.of_act act)
with_ways ways (Joined left right) = Joined (with_ways ways left) (with_ways ways right)
