use Rattle.std.proofs.Common.{[], false, refl}
use Rattle.mls_term.specs.declared.term.TermForm.{TermForm}
use Rattle.mls_term.specs.declared.term.TermForm.TheVariants as form
use Rattle.mls_infer.specs.Doing.{finished_in}
use Rattle.mls_infer.specs.Pending.{part_in}
use Rattle.mls_infer.proofs.DoneSteps.{no_parts, none_taken}
use Rattle.mls_infer.proofs.PosedForms.{posed_truth}
use Rattle.mls_infer.proofs.TakenParts.{built_as}
use Rattle.mls_infer.proofs.infer.of_truth.Goals as goal

pub returns : goal.returns
returns c =
    let node : TermForm = form.Truth c.args.value in
    built_as c.args.done.now c.requires node (no_parts node (finished_in c.args.done.now) refl tt) (form.Truth false) (posed_truth false c.args.value) c.args.done.now [] (none_taken c.args.done.now.live c.args.done.now.nodes.items c.requires)
    c.truth.new.live (part_in c.in_ok-part.part) c.ready-made.ensures.live c.in_ok-part.ensures.made
