-- How a node that sets a slot goes down into trees.
use Rattle.std.specs.Prelude.{ℕ, ◌+◌, ◌≡◌, ◌&&◌, List, [], ◌∷◌, ◌++◌, Bool, true, false, not, if◌then◌else◌, Option, Some, None}
use Rattle.sgl_typed.specs.Reads.{reads_only, list_reads_only}
use Rattle.plan_rewrite.specs.Bare.{bare, place_of}
use Rattle.battle_algebra.specs.Normal.{stays_above}
use Rattle.battle_algebra.specs.Reads.{all_but, tree_reads_only}
use Rattle.battle_algebra.specs.Tree.{Tree, size}
use Rattle.plan_rewrite.specs.declared.descent.Descent.{Descent}
use Rattle.plan_rewrite.specs.declared.glance.Glance.{Glance}
use Rattle.plan_rewrite.specs.declared.glance.Glance.TheVariants.{Stays, Unread, Unclear}
use Rattle.battle_algebra.specs.declared.plan.Node.{Node}
use Rattle.battle_algebra.specs.declared.plan.Node.TheVariants.{Empty, Extend, Agg, Split, Effect, Both}

-- into a tree
abbrev pub descent_of : Tree → ℕ → Descent
descent_of t slot = record {
  size = size t;
  avoids = tree_reads_only t (all_but slot);
  stays = stays_above t slot;
  place = place_of t slot;
}

abbrev pub descents_of : List Tree → ℕ → List Descent
descents_of [] slot = []
descents_of (t ∷ ts) slot = descent_of t slot ∷ descents_of ts slot

-- ---- from the way down into what is below a node

abbrev pub leaf : Bool → Descent
leaf avoids = record { size = 1; avoids = avoids; stays = true; place = 0 }

-- past a node of one child
abbrev pub past : Bool → Descent → Descent
past avoids below = record {
  size = 1 + below.size;
  avoids = avoids && below.avoids;
  stays = if avoids then below.stays else true;
  place = if (if avoids then below.stays else true) then 0 else 1 + below.place;
}

-- at a split
abbrev pub between : Bool → Descent → Descent → Descent
between avoids taken other = record {
  size = 1 + (taken.size + other.size);
  avoids = avoids && (taken.avoids && other.avoids);
  stays = if avoids then not taken.avoids && not other.avoids else true;
  place =
      if (if avoids then not taken.avoids && not other.avoids else true) then 0
      else if not taken.avoids then 1 + taken.place
      else (1 + taken.size) + other.place;
}

-- at a join
abbrev pub above_both : Descent → Descent → Descent
above_both left right = record {
  size = 1 + (left.size + right.size);
  avoids = left.avoids && right.avoids;
  stays = true;
  place = 0;
}

-- ---- a stack of descents, the top first

abbrev pub top_descent : List Descent → Descent
top_descent [] = leaf true
top_descent (d ∷ ds) = d

abbrev pub other_descents : List Descent → List Descent
other_descents [] = []
other_descents (d ∷ ds) = ds

-- the stack behind a node of one child, a split and a join
abbrev pub past_all : Bool → List Descent → List Descent
past_all avoids ds = past avoids (top_descent ds) ∷ other_descents ds

abbrev pub between_all : Bool → List Descent → List Descent
between_all avoids ds = between avoids (top_descent ds) (top_descent (other_descents ds)) ∷ other_descents (other_descents ds)

abbrev pub both_all : List Descent → List Descent
both_all ds = above_both (top_descent ds) (top_descent (other_descents ds)) ∷ other_descents (other_descents ds)

-- the stack behind a node
abbrev pub all_over : Node → ℕ → List Descent → List Descent
all_over Empty slot ds = leaf true ∷ ds
all_over (Extend other e place child) slot ds = past_all (reads_only e (all_but slot)) ds
all_over (Agg other call way child) slot ds = past_all (list_reads_only call.args (all_but slot)) ds
all_over (Split cond place x y) slot ds = between_all (reads_only cond (all_but slot)) ds
all_over (Effect act way) slot ds = leaf (list_reads_only act.args (all_but slot)) ∷ ds
all_over (Both x y) slot ds = both_all ds

-- the way down into the first tree of these nodes, which has this many
pub record DescendsInto (nodes : List Node) (count slot : ℕ) (descent : Descent) : Type 0 where
  pub is : (t : Tree) (more : List Node) → nodes ≡ bare t ++ more → count ≡ size t → descent ≡ descent_of t slot

-- ---- where a node goes

-- what is seen of a tree at first
abbrev pub GlanceIs : Tree → ℕ → Glance → Type 0
GlanceIs t slot Stays = (tree_reads_only t (all_but slot) ≡ false) × (stays_above t slot ≡ true)
GlanceIs t slot Unread = tree_reads_only t (all_but slot) ≡ true
GlanceIs t slot Unclear = Unit {0}

-- the same of the first tree of these nodes, which has this many
pub record Glances (nodes : List Node) (count slot : ℕ) (glance : Glance) : Type 0 where
  pub is : (t : Tree) (more : List Node) → nodes ≡ bare t ++ more → count ≡ size t → GlanceIs t slot glance

-- how many nodes of a tree are passed, or nothing where the slot is not read
abbrev pub fall_of : Tree → ℕ → Option ℕ
fall_of t slot = if tree_reads_only t (all_but slot) then None else Some (place_of t slot)

pub record FallsInto (nodes : List Node) (count slot : ℕ) (place : Option ℕ) : Type 0 where
  pub is : (t : Tree) (more : List Node) → nodes ≡ bare t ++ more → count ≡ size t → place ≡ fall_of t slot
