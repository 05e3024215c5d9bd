use Rattle.std.proofs.Common.{[], ◌∷◌, refl}
use Rattle.mls_term.specs.declared.term.TermForm.{TermForm}
use Rattle.mls_term.specs.declared.term.TermForm.TheVariants as form
use Rattle.mls_infer.specs.Pending.{part_in}
use Rattle.mls_infer.proofs.PosedForms.{posed_project}
use Rattle.mls_infer.proofs.TakenParts.{built_as, first_taken, first_there, stops_at}
use Rattle.mls_infer.proofs.infer.solved_projection.Goals as goal

pub take-requires-clause-there : goal.take-requires-clause-there
take-requires-clause-there c =
    let node : TermForm = form.Project c.args.e c.args.label.now in
    first_there c.args.done.now c.requires.done node c.requires.parts c.args.e [] refl

pub projection-requires : goal.projection-requires
projection-requires c =
    let node : TermForm = form.Project c.args.e c.args.label.now in
    (first_taken c.args.done.now c.requires.done node c.requires.parts c.args.e c.take.new.self (part_in c.in_ok-body.body) c.in_ok-body.ensures).beside.waiting

pub returns-clause-part : goal.returns-clause-part
returns-clause-part c =
    let node : TermForm = form.Project c.args.e c.args.label.now in
    built_as c.args.done.now c.requires.done node c.requires.parts (form.Project 0 c.args.label.now) (posed_project 0 c.args.e c.args.label.now) c.take.new.self (part_in c.in_ok-body.body ∷ [])
    (first_taken c.args.done.now c.requires.done node c.requires.parts c.args.e c.take.new.self (part_in c.in_ok-body.body) c.in_ok-body.ensures)
    c.projection.new.live (part_in c.in_ok-part.part) c.ready-made.ensures.live c.in_ok-part.ensures.made

pub returns-in_err-part-clause-stops : goal.returns-in_err-part-clause-stops
returns-in_err-part-clause-stops c =
    let node : TermForm = form.Project c.args.e c.args.label.now in
    stops_at c.args.done.now c.requires.done node c.requires.parts (form.Project 0 c.args.label.now) (posed_project 0 c.args.e c.args.label.now) c.take.new.self (part_in c.in_ok-body.body ∷ [])
    (first_taken c.args.done.now c.requires.done node c.requires.parts c.args.e c.take.new.self (part_in c.in_ok-body.body) c.in_ok-body.ensures)
    c.from_residual-in_err-part.result c.in_err-part.field-0.0 c.from_residual-in_err-part.ensures.1 c.in_err-part.ensures.stops
