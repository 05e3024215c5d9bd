use Rattle.std.proofs.Common.{[], refl}
use Rattle.mls_term.specs.declared.term.TermForm.{TermForm}
use Rattle.mls_term.specs.declared.term.TermForm.TheVariants as form
use Rattle.mls_infer.specs.Doing.{finished_in}
use Rattle.mls_infer.specs.Pending.{part_in}
use Rattle.mls_infer.proofs.DoneSteps.{no_parts, none_taken}
use Rattle.mls_infer.proofs.PosedForms.{posed_number}
use Rattle.mls_infer.proofs.TakenParts.{built_as}
use Rattle.mls_infer.proofs.infer.of_number.Goals as goal

pub returns : goal.returns
returns c =
    let node : TermForm = form.Number c.args.value in
    built_as c.args.done.now c.requires node (no_parts node (finished_in c.args.done.now) refl tt) (form.Number 0) (posed_number 0 c.args.value) c.args.done.now [] (none_taken c.args.done.now.live c.args.done.now.nodes.items c.requires)
    c.number.new.live (part_in c.in_ok-part.part) c.ready-made.ensures.live c.in_ok-part.ensures.made
