use Rattle.std.proofs.Common.{◌≡◌, ◌+◌, ◌∙◌, ap, rules, Some, None}
use Rattle.std.proofs.lemmas.Result.{IfOk-weaker}
use Rattle.std.specs.BTreeMap.{get}
use Rattle.std.specs.Ordering.{nat_cmp}
use Rattle.mls_book.specs.declared.book.NodeId.{NodeId}
use Rattle.mls_layout.specs.LaidOut.{node_of, place_of}
use Rattle.mls_parts.specs.Posings.{binder_in}
use Rattle.mls_lines.specs.Puts.{IsNodeOfCopy}
use Rattle.mls_lines.proofs.PutLists.{bound_copy, plain_copy}
use Rattle.mls_lines.proofs.puts.let_node.Goals as goal

pub returns-in-Some : goal.returns-in-Some
returns-in-Some c = λ known by.
    let p = c.args.posing.now in
    let x = c.in-Some.binder.now in
    let found : get nat_cmp c.args.binders.now c.args.state ≡ Some x = search rules in (
      binder_in p x,
      bound_copy p known c.args.binders.now c.args.first c.args.state x by found,
      ap (λ (n : NodeId). n.0) c.node.ensures ∙ ap (place_of c.args.places.now) c.binder.ensures,
    )

pub returns-in-None : goal.returns-in-None
returns-in-None c = λ known by.
    let p = c.args.posing.now in
    let lacking : get nat_cmp c.args.binders.now c.args.state ≡ None = search rules in
    IfOk-weaker c.copied.result (λ (id : NodeId). id ≡ node_of c.args.places.now (c.args.first + c.args.state)) (λ (id : NodeId). IsNodeOfCopy c.args.places.now p known c.args.first c.args.state id.0)
    (λ id is. (c.args.first + c.args.state, plain_copy p known c.args.binders.now c.args.first c.args.state by lacking, ap (λ (n : NodeId). n.0) is))
    c.copied.ensures
