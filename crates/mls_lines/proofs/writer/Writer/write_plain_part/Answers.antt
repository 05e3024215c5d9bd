use Rattle.std.proofs.Common.{◌≡◌, ◌∙◌, ◌+◌, ◌≤◌, ◌<◌, ℕ, List, length, take, get_or, refl, sym, ap, subst, arith, rules, Some}
use Rattle.std.proofs.lemmas.List.{take_all}
use Rattle.std.proofs.lemmas.List.Elements.{Contains-get_or}
use Rattle.mls_term.specs.declared.term.TermNode.{TermNode}
use Rattle.mls_deriv.specs.Steps.{form_at}
use Rattle.mls_parts.proofs.PosedParts.{form_there}
use Rattle.mls_lines.specs.declared.writer.Writer as state
use Rattle.mls_lines.proofs.WrittenNodes.{HaveWritten, writes_at, writes_none, writes_part}
use Rattle.mls_layout.specs.declared.layout.LaidOut.{LaidOut}
use Rattle.mls_lines.proofs.Lengthening.{lengthens_itself, lengthens_kept, lengthens_on}
use Rattle.mls_lines.proofs.writer.Writer.write_plain_part.Goals as goal
use Rattle.mls_lines.proofs.writer.Writer.write_plain_part.Goals.{in-Some+in_ok-own+in_ok-insert+in-Some+in-Step-1, in-Some+in_ok-own+in_ok-insert+in-Some+in-Bound-1, in-Some+in_ok-own+in_ok-insert+in-None-1, in_default}

-- what is looked up for the node is found
pub write_plain_form-requires : goal.write_plain_form-requires
write_plain_form-requires c =
    let nodes : List TermNode = c.args.nodes.now in
    let n : ℕ = c.loop-i.i-index in
    let i : ℕ = get_or c.args.part.now n 0 in
    let node : TermNode = c.in-Some.node.now in
    let low : i < length nodes = search rules in
    let node_is : node ≡ get_or nodes i node = search rules in
    c.requires i node.form (Contains-get_or c.args.part.now n 0 c.loop-i-test.true) (form_there nodes i node low ∙ ap (λ (one : TermNode). Some one.form) (sym node_is))

pub loop-i-init : goal.loop-i-init
loop-i-init c = record {
  lengthens = lengthens_itself c.args.self.now.laid;
  written = λ k parts can nothing. writes_none c.args.view.now.globals.now c.args.view.now.firsts.now c.args.view.now.known.now.lets k c.args.view.now.posing.now parts c.args.nodes.now c.args.self.now can.counted can.closed can.places nothing;
}

-- the form of a node
form_of : (nodes : List TermNode) (i : ℕ) (node : TermNode) → i < length nodes → node ≡ get_or nodes i node → form_at nodes i ≡ Some node.form
form_of nodes i node low is = form_there nodes i node low ∙ ap (λ (one : TermNode). Some one.form) (sym is)

-- what the node concludes is noted in its place, or in that of what it concluded before
pub loop-i-preserved : goal.loop-i-preserved
loop-i-preserved c = record {
  lengthens =
      let old : LaidOut = c.args.self.now.laid in
      let now : LaidOut = c.loop-i.self.laid in
      let new : LaidOut = c.match-get.self.laid in
      elim c.match-get.branch [
        | in-Some+in_ok-own+in_ok-insert+in-Some+in-Step-1 w ↦ lengthens_on old now w.write_plain_form.new.self.laid new c.loop-i.invariant.lengthens w.in_ok-own.ensures.lengthens (λ n. (w.self-is n).laid)
        | in-Some+in_ok-own+in_ok-insert+in-Some+in-Bound-1 w ↦ lengthens_on old now w.write_plain_form.new.self.laid new c.loop-i.invariant.lengthens w.in_ok-own.ensures.lengthens (λ n. (w.self-is n).laid)
        | in-Some+in_ok-own+in_ok-insert+in-None-1 w ↦ lengthens_on old now w.write_plain_form.new.self.laid new c.loop-i.invariant.lengthens w.in_ok-own.ensures.lengthens (λ n. (w.self-is n).laid)
        | in_default w ↦ lengthens_kept old now new c.loop-i.invariant.lengthens (λ n. (w.self-is n).laid)
      ];
  written = λ k parts can nothing.
      let w = c.args.self.now in
      let nodes : List TermNode = c.args.nodes.now in
      let n : ℕ = c.loop-i.i-index in
      let i : ℕ = get_or c.args.part.now n 0 in
      let test : n < length c.args.part.now = c.loop-i-test.true in
      let low : i < length nodes = can.list.in_range n 0 test in
      let before = c.loop-i.invariant.written k parts can nothing in
      let p = c.args.view.now.posing.now in
      let globals = c.args.view.now.globals.now in
      let firsts = c.args.view.now.firsts.now in
      let lets = c.args.view.now.known.now.lets in
      elim c.match-get.branch as (λ z. HaveWritten globals firsts lets k p parts nodes w c.match-get.self (take (n + 1) c.args.part.now)) [
        | in-Some+in_ok-own+in_ok-insert+in-Some+in-Step-1 x ↦
            (let node_is : x.in-Some.node.now ≡ get_or nodes i x.in-Some.node.now = search rules in
            subst (λ (new : state.Writer). HaveWritten globals firsts lets k p parts nodes w new (take (n + 1) c.args.part.now)) (sym x.self-is)
            (writes_at globals firsts lets k p parts nodes w c.args.part.now n c.loop-i.self x.write_plain_form.new.self _ x.in-Some.node.now.form x.in_ok-own.own can test before
            (form_of nodes i x.in-Some.node.now low node_is) (x.in_ok-own.ensures.writes k parts) refl refl x.in_ok-insert.ensures.updates))
        | in-Some+in_ok-own+in_ok-insert+in-Some+in-Bound-1 x ↦
            (let node_is : x.in-Some.node.now ≡ get_or nodes i x.in-Some.node.now = search rules in
            subst (λ (new : state.Writer). HaveWritten globals firsts lets k p parts nodes w new (take (n + 1) c.args.part.now)) (sym x.self-is)
            (writes_at globals firsts lets k p parts nodes w c.args.part.now n c.loop-i.self x.write_plain_form.new.self _ x.in-Some.node.now.form x.in_ok-own.own can test before
            (form_of nodes i x.in-Some.node.now low node_is) (x.in_ok-own.ensures.writes k parts) refl refl x.in_ok-insert.ensures.updates))
        | in-Some+in_ok-own+in_ok-insert+in-None-1 x ↦
            (let node_is : x.in-Some.node.now ≡ get_or nodes i x.in-Some.node.now = search rules in
            subst (λ (new : state.Writer). HaveWritten globals firsts lets k p parts nodes w new (take (n + 1) c.args.part.now)) (sym x.self-is)
            (writes_at globals firsts lets k p parts nodes w c.args.part.now n c.loop-i.self x.write_plain_form.new.self _ x.in-Some.node.now.form x.in_ok-own.own can test before
            (form_of nodes i x.in-Some.node.now low node_is) (x.in_ok-own.ensures.writes k parts) refl refl x.in_ok-insert.ensures.updates))
        | in_default x ↦ (let high : length nodes ≤ i = search rules in absurd (omega (arith, low, high)))
      ];
}

pub returns-clause-writes : goal.returns-clause-writes
returns-clause-writes c = λ k parts can nothing.
    let w = c.args.self.now in
    writes_part c.args.view.now.globals.now c.args.view.now.firsts.now c.args.view.now.known.now.lets k c.args.view.now.posing.now parts c.args.nodes.now w c.loop-i.self c.args.part.now
    (subst (λ (done : List ℕ). HaveWritten c.args.view.now.globals.now c.args.view.now.firsts.now c.args.view.now.known.now.lets k c.args.view.now.posing.now parts c.args.nodes.now w c.loop-i.self done)
    (take_all c.loop-i.i-index c.args.part.now c.loop-i-test.false) (c.loop-i.invariant.written k parts can nothing))
