use Rattle.std.proofs.Common.{subst}
use Rattle.mls_term.specs.declared.term.TermForm.{TermForm}
use Rattle.mls_term.specs.declared.term.TermForm.TheVariants as form
use Rattle.mls_infer.specs.Doing.{finished_in}
use Rattle.mls_infer.specs.Finished.{Finished}
use Rattle.mls_infer.specs.Finishing.{CanStep, Scope, scope_of}
use Rattle.mls_infer.specs.Pending.{part_in}
use Rattle.mls_infer.proofs.DoneNodes.{keeps_self}
use Rattle.mls_infer.proofs.DoneSteps.{built_added}
use Rattle.mls_infer.proofs.NamedParts.{binder_added, global_added, inner_added}
use Rattle.mls_infer.proofs.infer.add_node.Goals as goal

pub returns-in_ok-share-in-Inner-clause-added : goal.returns-in_ok-share-in-Inner-clause-added
returns-in_ok-share-in-Inner-clause-added c =
    let scope : Scope = scope_of c.args.names.now c.args.firsts.now in
    let first : Finished = finished_in c.args.done.now in
    let can : CanStep scope (form.Inner c.in-Inner.k) first = subst (λ (node : TermForm). CanStep scope node first) c.in-Inner.is c.requires.can in
    rw c.in-Inner.is
    (inner_added scope first (finished_in c.of_inner.new.done) c.share.new.self.live c.share.new.self.nodes.items c.in_ok-named-in-Inner.named c.in_ok-named-in-Inner.ensures.known
    c.in_ok-named-in-Inner.ensures.keeps c.in_ok-share-in-Inner.ensures.done c.in_ok-share-in-Inner.ensures.added
    c.in-Inner.k can.0 can.1 can.2 can.3 (c.in_ok-named-in-Inner.ensures.alike can.0 can.1 can.2 can.3))

pub returns-in_ok-share-in-Global-clause-added : goal.returns-in_ok-share-in-Global-clause-added
returns-in_ok-share-in-Global-clause-added c =
    let scope : Scope = scope_of c.args.names.now c.args.firsts.now in
    let first : Finished = finished_in c.args.done.now in
    rw c.in-Global.is
    (global_added scope first first c.share-in-Global.new.self.live c.share-in-Global.new.self.nodes.items c.in_ok-named-in-Global.named c.in_ok-named-in-Global.ensures.known
    (keeps_self first) c.in_ok-share-in-Global.ensures.done c.in_ok-share-in-Global.ensures.added
    c.in-Global.g c.in_ok-named-in-Global.ensures.read)

pub returns-in_ok-bind-in-Bound-clause-added : goal.returns-in_ok-bind-in-Bound-clause-added
returns-in_ok-bind-in-Bound-clause-added c =
    let first : Finished = finished_in c.args.done.now in
    rw c.in-Bound.is
    (binder_added (scope_of c.args.names.now c.args.firsts.now) first c.bind.new.self.live c.bind.new.self.nodes.items c.in-Bound.x c.in_ok-bind-in-Bound.ensures.done c.in_ok-bind-in-Bound.ensures.added)

pub returns-in_ok-push-in_default : goal.returns-in_ok-push-in_default
returns-in_ok-push-in_default c = record {
  added =
      built_added (scope_of c.args.names.now c.args.firsts.now) c.args.node.now (finished_in c.args.done.now) c.part_of.new.done.live c.push.new.done.live c.part_of.new.done.nodes.items c.push.new.done.nodes.items
      (part_in c.in_ok-part-in_default.part) c.in_ok-part-in_default.ensures.part c.in_ok-push-in_default.ensures.done c.in_ok-push-in_default.ensures.added;
  stops = tt;
}
