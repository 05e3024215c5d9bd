use Rattle.std.proofs.Common.{◌≡◌, ◌<◌, ◌≤◌, ℕ, List, get_or, length, rules}
use Rattle.mls_term.specs.declared.term.TermNode.{TermNode}
use Rattle.mls_infer.specs.Doing.{finished_in}
use Rattle.mls_infer.specs.Finishing.{IsStop, Scope, scope_of}
use Rattle.mls_infer.specs.Inference.{IsKindAt}
use Rattle.mls_infer.proofs.NodeLoop.{infers_whole}
use Rattle.mls_infer.proofs.NodeTurns.{can_now, stands_first, stands_next, stops_now}
use Rattle.mls_infer.proofs.infer.infer_nodes.Goals as goal

pub loop-i-init : goal.loop-i-init
loop-i-init c =
    stands_first (scope_of c.args.names.now c.args.firsts.now) c.args.nodes.now c.requires.goes c.in_ok-done.done.live c.in_ok-done.done.nodes.items c.in_ok-done.ensures.done c.in_ok-done.ensures.none

pub add_node-requires-clause-done : goal.add_node-requires-clause-done
add_node-requires-clause-done c =
    c.loop-i.invariant.done

pub add_node-requires-clause-can : goal.add_node-requires-clause-can
add_node-requires-clause-can c =
    let scope : Scope = scope_of c.args.names.now c.args.firsts.now in
    let nodes : List TermNode = c.args.nodes.now in
    let i : ℕ = c.loop-i.i in
    let node : TermNode = c.index-nodes-i.result in
    let low : i < length nodes = search rules in
    let is : get_or nodes i node ≡ node = search rules in
    can_now scope nodes i c.loop-i.done.live c.loop-i.done.nodes.items c.loop-i.invariant (c.requires.goes.0, c.requires.goes.1) low node is

pub returns-in-Err-Clash-clause-err : goal.returns-in-Err-Clash-clause-err
returns-in-Err-Clash-clause-err c =
    let scope : Scope = scope_of c.args.names.now c.args.firsts.now in
    let nodes : List TermNode = c.args.nodes.now in
    let i : ℕ = c.loop-i.i in
    let node : TermNode = c.index-nodes-i.result in
    let low : i < length nodes = search rules in
    let is : get_or nodes i node ≡ node = search rules in
    let stop : IsStop node.form (finished_in c.loop-i.done) c.in-Err-Clash.kind = search rules in
    λ t are. (stops_now scope nodes i c.loop-i.done.live c.loop-i.done.nodes.items c.loop-i.invariant (c.requires.goes.0, c.requires.goes.1) low node is c.in-Err-Clash.kind stop t are).0

pub returns-in-Err-Clash-clause-kind : goal.returns-in-Err-Clash-clause-kind
returns-in-Err-Clash-clause-kind c =
    let scope : Scope = scope_of c.args.names.now c.args.firsts.now in
    let nodes : List TermNode = c.args.nodes.now in
    let i : ℕ = c.loop-i.i in
    let node : TermNode = c.index-nodes-i.result in
    let low : i < length nodes = search rules in
    let is : get_or nodes i node ≡ node = search rules in
    let stop : IsStop node.form (finished_in c.loop-i.done) c.in-Err-Clash.kind = search rules in
    λ t are.
    let kind : IsKindAt scope.globals t i c.in-Err-Clash.kind = (stops_now scope nodes i c.loop-i.done.live c.loop-i.done.nodes.items c.loop-i.invariant (c.requires.goes.0, c.requires.goes.1) low node is c.in-Err-Clash.kind stop t are).1 in
    rw c.in-Err-Clash.field-0-is kind

pub loop-i-preserved : goal.loop-i-preserved
loop-i-preserved c =
    let scope : Scope = scope_of c.args.names.now c.args.firsts.now in
    let nodes : List TermNode = c.args.nodes.now in
    let i : ℕ = c.loop-i.i in
    let node : TermNode = c.index-nodes-i.result in
    let low : i < length nodes = search rules in
    let is : get_or nodes i node ≡ node = search rules in
    stands_next scope nodes i c.loop-i.done.live c.loop-i.done.nodes.items c.loop-i.invariant (c.requires.goes.0, c.requires.goes.1) low node is
    c.add_node.new.done.live c.add_node.new.done.nodes.items c.in-Ok.ensures.added

pub returns-clause-done : goal.returns-clause-done
returns-clause-done c =
    c.loop-i.invariant.done

pub returns-clause-ok : goal.returns-clause-ok
returns-clause-ok c =
    let nodes : List TermNode = c.args.nodes.now in
    let past : length nodes ≤ c.loop-i.i = search rules in
    λ t are. (
      c.loop-i.invariant.told,
      c.loop-i.invariant.keeps,
      infers_whole (scope_of c.args.names.now c.args.firsts.now) nodes c.loop-i.i c.loop-i.invariant.told c.loop-i.invariant.goes past t are,
    )
