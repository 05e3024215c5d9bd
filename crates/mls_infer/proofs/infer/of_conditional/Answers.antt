use Rattle.std.proofs.Common.{[], ◌∷◌, refl}
use Rattle.mls_term.specs.declared.term.TermForm.{TermForm}
use Rattle.mls_term.specs.declared.term.TermForm.TheVariants as form
use Rattle.mls_infer.specs.Pending.{part_in}
use Rattle.mls_infer.proofs.PosedForms.{posed_if}
use Rattle.mls_infer.proofs.TakenParts.{all_taken, both_taken, built_as, first_taken, first_there, second_there, stops_at, third_there}
use Rattle.mls_infer.proofs.infer.of_conditional.Goals as goal

pub take-requires-clause-there : goal.take-requires-clause-there
take-requires-clause-there c =
    let node : TermForm = form.If c.args.c c.args.e c.args.f in
    first_there c.args.done.now c.requires.done node c.requires.parts c.args.c (c.args.e ∷ c.args.f ∷ []) refl

pub take-requires-2-clause-done : goal.take-requires-2-clause-done
take-requires-2-clause-done c =
    let node : TermForm = form.If c.args.c c.args.e c.args.f in
    (first_taken c.args.done.now c.requires.done node c.requires.parts c.args.c c.take.new.self (part_in c.in_ok-condition.condition) c.in_ok-condition.ensures).done

pub take-requires-2-clause-there : goal.take-requires-2-clause-there
take-requires-2-clause-there c =
    let node : TermForm = form.If c.args.c c.args.e c.args.f in
    second_there c.args.done.now c.requires.done node c.requires.parts c.args.c c.args.e (c.args.f ∷ []) refl c.take.new.self (part_in c.in_ok-condition.condition) c.in_ok-condition.ensures

pub take-requires-3-clause-done : goal.take-requires-3-clause-done
take-requires-3-clause-done c =
    let node : TermForm = form.If c.args.c c.args.e c.args.f in
    (both_taken c.args.done.now c.requires.done node c.requires.parts c.args.c c.args.e (c.args.f ∷ []) refl c.take.new.self (part_in c.in_ok-condition.condition) c.in_ok-condition.ensures c.take-2.new.self (part_in c.in_ok-first.first) c.in_ok-first.ensures).done

pub take-requires-3-clause-there : goal.take-requires-3-clause-there
take-requires-3-clause-there c =
    let node : TermForm = form.If c.args.c c.args.e c.args.f in
    third_there c.args.done.now c.requires.done node c.requires.parts c.args.c c.args.e c.args.f refl c.take.new.self (part_in c.in_ok-condition.condition) c.in_ok-condition.ensures c.take-2.new.self (part_in c.in_ok-first.first) c.in_ok-first.ensures

pub conditional-requires : goal.conditional-requires
conditional-requires c =
    let node : TermForm = form.If c.args.c c.args.e c.args.f in
    (all_taken c.args.done.now c.requires.done node c.requires.parts c.args.c c.args.e c.args.f refl c.take.new.self (part_in c.in_ok-condition.condition) c.in_ok-condition.ensures c.take-2.new.self (part_in c.in_ok-first.first) c.in_ok-first.ensures c.take-3.new.self (part_in c.in_ok-second.second) c.in_ok-second.ensures).beside.waiting

pub returns-clause-part : goal.returns-clause-part
returns-clause-part c =
    let node : TermForm = form.If c.args.c c.args.e c.args.f in
    built_as c.args.done.now c.requires.done node c.requires.parts (form.If 0 0 0) (posed_if 0 0 0 c.args.c c.args.e c.args.f) c.take-3.new.self (part_in c.in_ok-condition.condition ∷ part_in c.in_ok-first.first ∷ part_in c.in_ok-second.second ∷ [])
    (all_taken c.args.done.now c.requires.done node c.requires.parts c.args.c c.args.e c.args.f refl c.take.new.self (part_in c.in_ok-condition.condition) c.in_ok-condition.ensures c.take-2.new.self (part_in c.in_ok-first.first) c.in_ok-first.ensures c.take-3.new.self (part_in c.in_ok-second.second) c.in_ok-second.ensures)
    c.conditional.new.live (part_in c.in_ok-part.part) c.ready-made.ensures.live c.in_ok-part.ensures.made

pub returns-in_err-part-clause-stops : goal.returns-in_err-part-clause-stops
returns-in_err-part-clause-stops c =
    let node : TermForm = form.If c.args.c c.args.e c.args.f in
    stops_at c.args.done.now c.requires.done node c.requires.parts (form.If 0 0 0) (posed_if 0 0 0 c.args.c c.args.e c.args.f) c.take-3.new.self (part_in c.in_ok-condition.condition ∷ part_in c.in_ok-first.first ∷ part_in c.in_ok-second.second ∷ [])
    (all_taken c.args.done.now c.requires.done node c.requires.parts c.args.c c.args.e c.args.f refl c.take.new.self (part_in c.in_ok-condition.condition) c.in_ok-condition.ensures c.take-2.new.self (part_in c.in_ok-first.first) c.in_ok-first.ensures c.take-3.new.self (part_in c.in_ok-second.second) c.in_ok-second.ensures)
    c.from_residual-in_err-part.result c.in_err-part.field-0.0 c.from_residual-in_err-part.ensures.1 c.in_err-part.ensures.stops
