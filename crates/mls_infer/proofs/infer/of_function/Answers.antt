use Rattle.std.proofs.Common.{[], ◌∷◌, refl}
use Rattle.mls_term.specs.declared.term.TermForm.{TermForm}
use Rattle.mls_term.specs.declared.term.TermForm.TheVariants as form
use Rattle.mls_infer.specs.Pending.{part_in}
use Rattle.mls_infer.proofs.PosedForms.{posed_fun}
use Rattle.mls_infer.proofs.TakenParts.{built_as, first_taken, first_there}
use Rattle.mls_infer.proofs.infer.of_function.Goals as goal

pub take-requires-clause-there : goal.take-requires-clause-there
take-requires-clause-there c =
    let node : TermForm = form.Fun c.args.x c.args.e in
    first_there c.args.done.now c.requires.done node c.requires.parts c.args.e [] refl

pub function-requires : goal.function-requires
function-requires c =
    let node : TermForm = form.Fun c.args.x c.args.e in
    (first_taken c.args.done.now c.requires.done node c.requires.parts c.args.e c.take.new.self (part_in c.in_ok-body.body) c.in_ok-body.ensures).beside.waiting

pub returns : goal.returns
returns c =
    let node : TermForm = form.Fun c.args.x c.args.e in
    built_as c.args.done.now c.requires.done node c.requires.parts (form.Fun c.args.x 0) (posed_fun c.args.x 0 c.args.e) c.take.new.self (part_in c.in_ok-body.body ∷ [])
    (first_taken c.args.done.now c.requires.done node c.requires.parts c.args.e c.take.new.self (part_in c.in_ok-body.body) c.in_ok-body.ensures)
    c.function.new.live (part_in c.in_ok-part.part) c.ready-made.ensures.live c.in_ok-part.ensures.made
