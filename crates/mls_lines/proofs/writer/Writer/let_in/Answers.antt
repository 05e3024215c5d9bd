use Rattle.std.proofs.Common.{◌≡◌, ◌++◌, ◌∙◌, length, List, refl, sym, ap, subst}
use Rattle.mls_term.specs.declared.term.TermForm.TheVariants as form
use Rattle.mls_deriv.specs.declared.claim.Put.{Put}
use Rattle.mls_deriv.specs.declared.derivation.BinderNode.{BinderNode}
use Rattle.mls_deriv.specs.Steps.{IsRising}
use Rattle.mls_lines.specs.declared.steps.Conclusion.{Conclusion}
use Rattle.mls_lines.specs.declared.writer.Concluded.TheVariants.{Step}
use Rattle.mls_lines.specs.declared.writer.Writer as state
use Rattle.mls_lines.specs.Environments.{IsMetIn}
use Rattle.mls_lines.specs.PlainLines.{SettlesNode, WritesNode}
use Rattle.mls_lines.specs.Puts.{FollowFrom}
use Rattle.mls_lines.proofs.Lengthening.{lengthens_grown, lengthens_itself, lengthens_kept, lengthens_then}
use Rattle.mls_lines.proofs.LowNodes.{let_puts_low}
use Rattle.mls_lines.proofs.PlainLets.{let_writes}
use Rattle.mls_lines.proofs.writer.Writer.let_in.Goals as goal

pub returns-clause-writes : goal.returns-clause-writes
returns-clause-writes c = λ k parts j sound rise low.
    let w = c.args.self.now in
    let p = c.args.view.now.posing.now in
    let part = c.first_part-part.result.now in
    let puts : List Put = c.in_ok-puts.puts in
    let now = c.settled.new.self in
    let grown = c.meets.new.self in
    let new : state.Writer = record grown { steps = c.step.new.self } in
    let inner = c.in_ok-inner.inner in
    let met = c.in_ok-met.met in
    let it = subst (λ (l : List Put). SettlesNode w now p c.args.second l inner) c.as_slice.ensures
    (c.in_ok-inner.ensures.settles part.variable (subst (FollowFrom part.variable) (sym c.as_slice.ensures) c.in_ok-puts.ensures.follow) sound) in
    let met_in = subst (λ (d : List BinderNode). IsMetIn grown.laid.book d inner.env met) c.as_slice-2.ensures
    (subst (λ (d : List BinderNode). IsMetIn grown.laid.book c.as_slice-2.result.now d met) c.as_slice-3.ensures
    (c.in_ok-met.ensures.meets (subst IsRising (sym c.as_slice-2.ensures) (rise c.args.k part c.first_part-part.ensures)) (subst IsRising (sym c.as_slice-3.ensures) it.rising))) in
    let all_is : c.add_puts.new.puts ≡ inner.puts ++ puts = c.in_ok-add_puts.ensures ∙ ap (λ (l : List Put). inner.puts ++ l) c.as_slice-4.ensures in
    subst (λ (own : Conclusion). WritesNode c.args.view.now.globals.now c.args.view.now.firsts.now c.args.view.now.known.now.lets k p parts c.args.node (form.Let c.args.k j c.args.second) w new (Step own)) (sym c.with_puts.ensures)
    (subst (λ (l : List Put). WritesNode c.args.view.now.globals.now c.args.view.now.firsts.now c.args.view.now.known.now.lets k p parts c.args.node (form.Let c.args.k j c.args.second) w new (Step (record c.in_ok-own.own { puts = l }))) (sym all_is)
    (let_writes c.args.view.now.globals.now c.args.view.now.firsts.now c.args.view.now.known.now.lets k p parts c.args.node w sound c.args.k j c.args.second now grown new part puts inner c.in_ok-own.own met low
    (let_puts_low (length w.laid.book) w.laid.places p c.args.view.now.known.now.lets c.args.node c.args.k part.variable puts sound.places part.env c.in_ok-puts.ensures.none c.in_ok-puts.ensures.edges)
    c.first_part-part.ensures c.in_ok-puts.ensures.none c.in_ok-puts.ensures.edges it
    c.in_ok-met.ensures.grows met_in refl refl c.in_ok-own.ensures))

pub returns-clause-lengthens : goal.returns-clause-lengthens
returns-clause-lengthens c =
    lengthens_then c.args.self.now.laid c.settled.new.self.laid c.meets.new.self.laid
    (lengthens_kept c.args.self.now.laid c.args.self.now.laid c.settled.new.self.laid (lengthens_itself c.args.self.now.laid) c.in_ok-inner.ensures.laid) (lengthens_grown c.settled.new.self c.meets.new.self c.in_ok-met.ensures.grows)
