use Rattle.std.proofs.Common.{[], ◌∷◌, refl}
use Rattle.mls_term.specs.declared.term.TermForm.{TermForm}
use Rattle.mls_term.specs.declared.term.TermForm.TheVariants as form
use Rattle.mls_infer.specs.Pending.{part_in}
use Rattle.mls_infer.proofs.PosedForms.{posed_apply}
use Rattle.mls_infer.proofs.TakenParts.{both_taken, built_as, first_taken, first_there, second_there, stops_at}
use Rattle.mls_infer.proofs.infer.solved_application.Goals as goal

pub take-requires-clause-there : goal.take-requires-clause-there
take-requires-clause-there c =
    let node : TermForm = form.Apply c.args.f c.args.a in
    first_there c.args.done.now c.requires.done node c.requires.parts c.args.f (c.args.a ∷ []) refl

pub take-requires-2-clause-done : goal.take-requires-2-clause-done
take-requires-2-clause-done c =
    let node : TermForm = form.Apply c.args.f c.args.a in
    (first_taken c.args.done.now c.requires.done node c.requires.parts c.args.f c.take.new.self (part_in c.in_ok-first.first) c.in_ok-first.ensures).done

pub take-requires-2-clause-there : goal.take-requires-2-clause-there
take-requires-2-clause-there c =
    let node : TermForm = form.Apply c.args.f c.args.a in
    second_there c.args.done.now c.requires.done node c.requires.parts c.args.f c.args.a [] refl c.take.new.self (part_in c.in_ok-first.first) c.in_ok-first.ensures

pub application-requires : goal.application-requires
application-requires c =
    let node : TermForm = form.Apply c.args.f c.args.a in
    (both_taken c.args.done.now c.requires.done node c.requires.parts c.args.f c.args.a [] refl c.take.new.self (part_in c.in_ok-first.first) c.in_ok-first.ensures c.take-2.new.self (part_in c.in_ok-second.second) c.in_ok-second.ensures).beside.waiting

pub returns-clause-part : goal.returns-clause-part
returns-clause-part c =
    let node : TermForm = form.Apply c.args.f c.args.a in
    built_as c.args.done.now c.requires.done node c.requires.parts (form.Apply 0 0) (posed_apply 0 0 c.args.f c.args.a) c.take-2.new.self (part_in c.in_ok-first.first ∷ part_in c.in_ok-second.second ∷ [])
    (both_taken c.args.done.now c.requires.done node c.requires.parts c.args.f c.args.a [] refl c.take.new.self (part_in c.in_ok-first.first) c.in_ok-first.ensures c.take-2.new.self (part_in c.in_ok-second.second) c.in_ok-second.ensures)
    c.application.new.live (part_in c.in_ok-part.part) c.ready-made.ensures.live c.in_ok-part.ensures.made

pub returns-in_err-part-clause-stops : goal.returns-in_err-part-clause-stops
returns-in_err-part-clause-stops c =
    let node : TermForm = form.Apply c.args.f c.args.a in
    stops_at c.args.done.now c.requires.done node c.requires.parts (form.Apply 0 0) (posed_apply 0 0 c.args.f c.args.a) c.take-2.new.self (part_in c.in_ok-first.first ∷ part_in c.in_ok-second.second ∷ [])
    (both_taken c.args.done.now c.requires.done node c.requires.parts c.args.f c.args.a [] refl c.take.new.self (part_in c.in_ok-first.first) c.in_ok-first.ensures c.take-2.new.self (part_in c.in_ok-second.second) c.in_ok-second.ensures)
    c.from_residual-in_err-part.result c.in_err-part.field-0.0 c.from_residual-in_err-part.ensures.1 c.in_err-part.ensures.stops
