use Rattle.std.proofs.Common.{◌≡◌, ◌∙◌, ℕ, List, get_or, ap, rules, Some}
use Rattle.std.specs.BTreeMap.{get}
use Rattle.std.specs.Ordering.{nat_cmp}
use Rattle.mls_term.specs.declared.term.TermNode.{TermNode}
use Rattle.mls_deriv.specs.Steps.{form_at}
use Rattle.mls_parts.proofs.Owners.{named_none, named_more}
use Rattle.mls_parts.proofs.PosedParts.{form_there}
use Rattle.mls_parts.proofs.split.name_parts.Goals as goal

pub loop-node-init : goal.loop-node-init
loop-node-init c = named_none c.args.nodes.now (get nat_cmp c.args.parts.now) c.requires

pub loop-node-preserved : goal.loop-node-preserved
loop-node-preserved c =
    let nodes : List TermNode = c.args.nodes.now in
    let i : ℕ = c.loop-node.node-index in
    let node : TermNode = c.node-item.result in
    let is : get_or nodes i node ≡ node = search rules in
    let form : form_at nodes i ≡ Some node.form = form_there nodes i node c.loop-node-test.true ∙ ap (λ (n : TermNode). Some n.form) is in
    named_more nodes i node.form (get nat_cmp c.args.parts.now) (get nat_cmp c.loop-node.parts) (get nat_cmp c.name_part.new.parts) form c.loop-node.invariant c.name_part.ensures
