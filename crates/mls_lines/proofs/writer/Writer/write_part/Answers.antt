use Rattle.std.proofs.Common.{◌≡◌, ◌∙◌, ◌<◌, ℕ, List, Some, ap, get_or, length, rules, sym}
use Rattle.std.proofs.lemmas.List.Elements.{Contains-get_or}
use Rattle.mls_term.specs.declared.term.TermNode.{TermNode}
use Rattle.mls_layout.specs.declared.layout.LaidOut.{LaidOut}
use Rattle.mls_parts.proofs.PosedParts.{form_there}
use Rattle.mls_lines.proofs.Lengthening.{lengthens_itself, lengthens_kept, lengthens_on}
use Rattle.mls_lines.proofs.writer.Writer.write_part.Goals as goal
use Rattle.mls_lines.proofs.writer.Writer.write_part.Goals.{in-Some+in_ok-own+in_ok-insert+in-Some+in-Step-1, in-Some+in_ok-own+in_ok-insert+in-Some+in-Bound-1, in-Some+in_ok-own+in_ok-insert+in-None-1, in_default}

-- what is looked up for the node is found
pub write_form-requires : goal.write_form-requires
write_form-requires c =
    let nodes : List TermNode = c.args.nodes.now in
    let n : ℕ = c.loop-i.i-index in
    let i : ℕ = get_or c.args.part.now n 0 in
    let node : TermNode = c.in-Some.node.now in
    let low : i < length nodes = search rules in
    let node_is : node ≡ get_or nodes i node = search rules in
    c.requires i node.form (Contains-get_or c.args.part.now n 0 c.loop-i-test.true) (form_there nodes i node low ∙ ap (λ (one : TermNode). Some one.form) (sym node_is))

pub loop-i-init : goal.loop-i-init
loop-i-init c = lengthens_itself c.args.self.now.laid

-- what the node concludes is noted in its place, or in that of what it concluded before
pub loop-i-preserved : goal.loop-i-preserved
loop-i-preserved c =
    let old : LaidOut = c.args.self.now.laid in
    let now : LaidOut = c.loop-i.self.laid in
    let new : LaidOut = c.match-get.self.laid in
    elim c.match-get.branch [
      | in-Some+in_ok-own+in_ok-insert+in-Some+in-Step-1 w ↦ lengthens_on old now w.write_form.new.self.laid new c.loop-i.invariant w.in_ok-own.ensures (λ n. (w.self-is n).laid)
      | in-Some+in_ok-own+in_ok-insert+in-Some+in-Bound-1 w ↦ lengthens_on old now w.write_form.new.self.laid new c.loop-i.invariant w.in_ok-own.ensures (λ n. (w.self-is n).laid)
      | in-Some+in_ok-own+in_ok-insert+in-None-1 w ↦ lengthens_on old now w.write_form.new.self.laid new c.loop-i.invariant w.in_ok-own.ensures (λ n. (w.self-is n).laid)
      | in_default w ↦ lengthens_kept old now new c.loop-i.invariant (λ n. (w.self-is n).laid)
    ]
