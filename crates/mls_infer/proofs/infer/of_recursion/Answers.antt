use Rattle.std.proofs.Common.{[], ◌∷◌, refl}
use Rattle.mls_term.specs.declared.term.TermForm.{TermForm}
use Rattle.mls_term.specs.declared.term.TermForm.TheVariants as form
use Rattle.mls_infer.specs.Pending.{part_in}
use Rattle.mls_infer.proofs.PosedForms.{posed_rec}
use Rattle.mls_infer.proofs.TakenParts.{built_as, first_taken, first_there, stops_at}
use Rattle.mls_infer.proofs.infer.of_recursion.Goals as goal

pub take-requires-clause-there : goal.take-requires-clause-there
take-requires-clause-there c =
    let node : TermForm = form.Rec c.args.x c.args.e in
    first_there c.args.done.now c.requires.done node c.requires.parts c.args.e [] refl

pub recursion-requires : goal.recursion-requires
recursion-requires c =
    let node : TermForm = form.Rec c.args.x c.args.e in
    (first_taken c.args.done.now c.requires.done node c.requires.parts c.args.e c.take.new.self (part_in c.in_ok-body.body) c.in_ok-body.ensures).beside.waiting.0

pub returns-clause-part : goal.returns-clause-part
returns-clause-part c =
    let node : TermForm = form.Rec c.args.x c.args.e in
    built_as c.args.done.now c.requires.done node c.requires.parts (form.Rec c.args.x 0) (posed_rec c.args.x 0 c.args.e) c.take.new.self (part_in c.in_ok-body.body ∷ [])
    (first_taken c.args.done.now c.requires.done node c.requires.parts c.args.e c.take.new.self (part_in c.in_ok-body.body) c.in_ok-body.ensures)
    c.recursion.new.live (part_in c.in_ok-part.part) c.ready-made.ensures.live c.in_ok-part.ensures.made

pub returns-in_err-part-clause-stops : goal.returns-in_err-part-clause-stops
returns-in_err-part-clause-stops c =
    let node : TermForm = form.Rec c.args.x c.args.e in
    stops_at c.args.done.now c.requires.done node c.requires.parts (form.Rec c.args.x 0) (posed_rec c.args.x 0 c.args.e) c.take.new.self (part_in c.in_ok-body.body ∷ [])
    (first_taken c.args.done.now c.requires.done node c.requires.parts c.args.e c.take.new.self (part_in c.in_ok-body.body) c.in_ok-body.ensures)
    c.from_residual-in_err-part.result c.in_err-part.field-0.0 c.from_residual-in_err-part.ensures.1 c.in_err-part.ensures.stops
