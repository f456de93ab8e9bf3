use Rattle.std.proofs.Common.{◌≡◌, ◌≤◌, ◌<◌, subst, arith}
use Rattle.sgl_expand.specs.Expand.{main_nodes, main_depth}
use Rattle.sgl_expand.proofs.Whole.{too-large, few-nodes, exact-depth}
use Rattle.sgl_expand.proofs.script.check_sizes.Goals as goal

pub returns-then-nodes-gt-NODES_MAX-clause-refused :
    goal.returns-then-nodes-gt-NODES_MAX-clause-refused
returns-then-nodes-gt-NODES_MAX-clause-refused c = too-large c.args.script.now c.in_ok-nodes.field-0.nodes c.in_ok-nodes.ensures.nodes c.if-nodes-gt-NODES_MAX.true

pub returns-then-depth-gt-DEPTH_MAX-clause-refused :
    goal.returns-then-depth-gt-DEPTH_MAX-clause-refused
returns-then-depth-gt-DEPTH_MAX-clause-refused c =
    let le : c.in_ok-nodes.field-0.nodes ≤ 20000 = omega arith in
    let few : main_nodes c.args.script.now ≤ 20000 = few-nodes c.args.script.now c.in_ok-nodes.field-0.nodes c.in_ok-nodes.ensures.nodes le in
    let exact : c.in_ok-nodes.field-0.depth ≡ main_depth c.args.script.now = exact-depth c.args.script.now c.in_ok-nodes.field-0.depth c.in_ok-nodes.ensures.depth few in
    (few, subst (λ n. 256 < n) exact c.if-depth-gt-DEPTH_MAX.true, exact)

pub returns-clause-small : goal.returns-clause-small
returns-clause-small c =
    let le : c.in_ok-nodes.field-0.nodes ≤ 20000 = omega arith in
    let few : main_nodes c.args.script.now ≤ 20000 = few-nodes c.args.script.now c.in_ok-nodes.field-0.nodes c.in_ok-nodes.ensures.nodes le in
    let exact : c.in_ok-nodes.field-0.depth ≡ main_depth c.args.script.now = exact-depth c.args.script.now c.in_ok-nodes.field-0.depth c.in_ok-nodes.ensures.depth few in
    let low : c.in_ok-nodes.field-0.depth ≤ 256 = omega arith in
    record { nodes = few; depth = subst (λ n. n ≤ 256) exact low }
