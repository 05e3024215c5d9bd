use Rattle.std.proofs.Common.{◌≡◌, ◌∙◌, ◌+◌, suc, arith, refl, sym, ap, None, get_or}
use Rattle.mls_parts.specs.Posings.{root_in}
use Rattle.mls_lines.proofs.LowNodes.{offers_low, there_low}
use Rattle.mls_book.specs.declared.book.Node.TheVariants as node
use Rattle.mls_lines.proofs.PlainForms.{project_writes}
use Rattle.mls_lines.proofs.writer.Writer.plain_project.Goals as goal

pub returns-clause-writes : goal.returns-clause-writes
returns-clause-writes c = λ k parts sound have posed.
    let w = c.args.self.now in
    let p = c.args.view.now.posing.now in
    let record_node = c.in_ok-record.record in
    let offers = c.in_ok-env.ensures sound.rising in
    let record_low = there_low w.laid.book record_node.0 (node.Rcd c.in_ok-field.ensures.0) (λ no. absurd (cc)) c.in_ok-field.ensures.1 in
    let low = offers_low w p sound c.args.body record_node.0 c.in_ok-env.env record_low offers in
    let it = c.in_ok-step.ensures.brings offers.rising sound low record_low in
    let goal_is : c.in_ok-goal.goal ≡ suc (suc (root_in p c.args.node)) =
    let raised : c.in_ok-goal.goal ≡ 2 + c.root.result = c.in_ok-goal.ensures in
    let root : c.root.result ≡ root_in p c.args.node = c.root.ensures in
    omega (arith, raised, root) in
    let there = have.records (suc (suc (root_in p c.args.node))) record_node (ap (λ s. get_or w.laid.own.records s None) (sym goal_is) ∙ c.in_ok-record.ensures) in
    project_writes c.args.view.now.globals.now c.args.view.now.firsts.now c.args.view.now.known.now.lets k p parts c.args.node w sound c.adapted.new.self _ c.args.body c.in_ok-env.env record_node c.in_ok-step.step it c.in_ok-own.own refl refl
    c.args.label.now c.in_ok-field.ensures.0 c.in_ok-field.field posed there c.in_ok-field.ensures.1 c.in_ok-field.ensures.2 offers c.in_ok-own.ensures
