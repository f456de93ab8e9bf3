-- Sizes that are counted up to the greatest number of 64 bits.
use Rattle.std.specs.Prelude.{ℕ, min, List, [], ◌∷◌, ◌++◌, map}
use Rattle.sgl_typed.specs.declared.script.TRoutine.{TRoutine}
use Rattle.sgl_typed.specs.Sizes.{statements_nodes, statements_depth}
use Rattle.sgl_expand.specs.declared.sizes.Size.{Size}

-- the number, or the greatest one of 64 bits where that is less
abbrev pub capped : ℕ → ℕ
capped n = min n 18446744073709551615

-- the nodes of sizes, and their depths
abbrev pub nodes_in : List Size → List ℕ
nodes_in sizes = map (λ size. size.nodes) sizes

abbrev pub depths_in : List Size → List ℕ
depths_in sizes = map (λ size. size.depth) sizes

-- the nodes of the body of each routine so counted, behind those of the routines before
abbrev pub capped_nodes : List ℕ → List TRoutine → List ℕ
capped_nodes sizes [] = sizes
capped_nodes sizes (routine ∷ rest) = capped_nodes (sizes ++ capped (statements_nodes sizes routine.body) ∷ []) rest

-- the blocks that stand in one another in the body of each routine, in the same way
abbrev pub capped_depths : List ℕ → List TRoutine → List ℕ
capped_depths depths [] = depths
capped_depths depths (routine ∷ rest) = capped_depths (depths ++ capped (statements_depth depths routine.body) ∷ []) rest
