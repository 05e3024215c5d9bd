use Rattle.std.proofs.Common.{◌≡◌, ◌∙◌, ℕ, Some, sym, ap}
use Rattle.mls_term.specs.declared.term.TermNode.{TermNode}
use Rattle.mls_deriv.specs.Steps.{form_at}
use Rattle.mls_parts.proofs.PosedParts.{form_there}
use Rattle.mls_emit.specs.Derivable.{names_read}
use Rattle.mls_emit.proofs.KeptDrafts.{names_then}
use Rattle.mls_emit.proofs.KnownNames.{globals_more}
use Rattle.mls_emit.proofs.PlacedNames.{places_more}
use Rattle.mls_emit.proofs.PlainSections.{grown_then}
use Rattle.mls_emit.proofs.derive.section.Draft.add_globals.Goals as goal

pub loop-node-preserved : goal.loop-node-preserved
loop-node-preserved c =
    let i : ℕ = c.loop-node.node-index in
    let here : form_at c.args.nodes.now i ≡ Some c.node-item.result.form =
    form_there c.args.nodes.now i c.node-item.result c.loop-node-test.true ∙ ap (λ (node : TermNode). Some node.form) (sym c.node-item.is) in (
      c.in_ok-add_named.ensures.form.types,
      globals_more (names_read c.args.declared.now c.args.entries.now) c.args.nodes.now c.loop-node.self.known.globals c.add_named.new.self.known.globals i c.node-item.result.form c.loop-node.invariant.1 here
          c.in_ok-add_named.ensures.form,
      c.add_named.ensures.lets ∙ c.loop-node.invariant.2,
      grown_then c.args.self.now.book c.loop-node.self.book c.add_named.new.self.book c.args.self.now.variable c.loop-node.self.variable c.add_named.new.self.variable c.loop-node.invariant.3 c.in_ok-add_named.ensures.grown,
      c.in_ok-add_named.ensures.places.globals,
      places_more (names_read c.args.declared.now c.args.entries.now) c.add_named.new.self.book c.add_named.new.self.variable c.args.nodes.now c.loop-node.self.globals c.add_named.new.self.globals i
          c.node-item.result.form c.loop-node.invariant.5 here c.in_ok-add_named.ensures.places,
      names_then c.args.self.now c.add_named.new.self c.loop-node.self c.loop-node.invariant.6 c.add_named.ensures.kept,
    )

pub returns-in_err-add_named-clause-kept : goal.returns-in_err-add_named-clause-kept
returns-in_err-add_named-clause-kept c = names_then c.args.self.now c.add_named.new.self c.loop-node.self c.loop-node.invariant.6 c.add_named.ensures.kept

pub returns-clause-kept : goal.returns-clause-kept
returns-clause-kept c = c.loop-node.invariant.6
