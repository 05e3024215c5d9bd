use Rattle.std.proofs.Common.{[], ◌∷◌, IfErr, IfOk, refl, subst, sym}
use Rattle.std.specs.Prelude.{IfSome, Option}
use Rattle.mls_term.specs.declared.term.TermForm.{TermForm}
use Rattle.mls_term.specs.declared.term.TermForm.TheVariants as form
use Rattle.mls_infer.specs.declared.done.Done.{Done}
use Rattle.mls_infer.specs.Doing.{IsBuiltIn, IsDone, TakesBound, finished_in}
use Rattle.mls_infer.specs.Finishing.{HasParts, StopsAt}
use Rattle.mls_infer.specs.Pending.{part_in}
use Rattle.mls_infer.proofs.TakenParts.{argument_in, argument_taken, bound_done, called_bound, first_there}
use Rattle.mls_infer.proofs.infer.of_application.Goals as goal

pub take_bound-requires-clause-there : goal.take_bound-requires-clause-there
take_bound-requires-clause-there c =
    let node : TermForm = form.Apply c.args.f c.args.a in
    first_there c.args.done.now c.requires.done node c.requires.parts c.args.f (c.args.a ∷ []) refl

pub take-requires-clause-done : goal.take-requires-clause-done
take-requires-clause-done c =
    let mid : Done = c.take_bound.new.self in
    let takes : TakesBound c.args.done.now c.args.f c.in-Some.x mid = subst (λ (o : Option _). IfSome o (λ x. TakesBound c.args.done.now c.args.f x mid)) c.in-Some.is c.take_bound.ensures.some in
    bound_done c.args.done.now c.requires.done c.args.f c.in-Some.x mid takes

pub take-requires-clause-there : goal.take-requires-clause-there
take-requires-clause-there c =
    let mid : Done = c.take_bound.new.self in
    let takes : TakesBound c.args.done.now c.args.f c.in-Some.x mid = subst (λ (o : Option _). IfSome o (λ x. TakesBound c.args.done.now c.args.f x mid)) c.in-Some.is c.take_bound.ensures.some in
    argument_in c.args.done.now c.requires.done c.args.f c.in-Some.x mid takes c.args.a c.requires.parts

pub bound_call-requires : goal.bound_call-requires
bound_call-requires c =
    let mid : Done = c.take_bound.new.self in
    let takes : TakesBound c.args.done.now c.args.f c.in-Some.x mid = subst (λ (o : Option _). IfSome o (λ x. TakesBound c.args.done.now c.args.f x mid)) c.in-Some.is c.take_bound.ensures.some in
    (argument_taken c.args.done.now c.requires.done c.args.f c.in-Some.x mid takes c.args.a c.requires.parts c.take.new.self (part_in c.in_ok-argument-in-Some.argument) c.in_ok-argument-in-Some.ensures).beside.waiting

pub returns-in_ok-part-in-Some-clause-part : goal.returns-in_ok-part-in-Some-clause-part
returns-in_ok-part-in-Some-clause-part c =
    let mid : Done = c.take_bound.new.self in
    let takes : TakesBound c.args.done.now c.args.f c.in-Some.x mid = subst (λ (o : Option _). IfSome o (λ x. TakesBound c.args.done.now c.args.f x mid)) c.in-Some.is c.take_bound.ensures.some in
    called_bound c.args.done.now c.requires.done c.args.f c.in-Some.x mid takes c.args.a c.requires.parts c.take.new.self (part_in c.in_ok-argument-in-Some.argument) c.in_ok-argument-in-Some.ensures
    c.bound_call.new.live c.ready-made.ensures.live (part_in c.in_ok-part-in-Some.part) c.in_ok-part-in-Some.ensures

pub solved_application-requires-clause-done : goal.solved_application-requires-clause-done
solved_application-requires-clause-done c = subst IsDone (sym (c.take_bound.ensures.none c.in-None.is)) c.requires.done

pub solved_application-requires-clause-parts : goal.solved_application-requires-clause-parts
solved_application-requires-clause-parts c =
    let node : TermForm = form.Apply c.args.f c.args.a in
    subst (λ (d : Done). HasParts node (finished_in d)) (sym (c.take_bound.ensures.none c.in-None.is)) c.requires.parts

pub returns-in-None-clause-part : goal.returns-in-None-clause-part
returns-in-None-clause-part c =
    let node : TermForm = form.Apply c.args.f c.args.a in
    subst (λ (d : Done). IfOk c.solved_application.result (λ part. IsBuiltIn node (finished_in d) c.solved_application.new.done.live c.solved_application.new.done.nodes.items (part_in part)))
    (c.take_bound.ensures.none c.in-None.is) c.solved_application.ensures.part

pub returns-in-None-clause-stops : goal.returns-in-None-clause-stops
returns-in-None-clause-stops c =
    let node : TermForm = form.Apply c.args.f c.args.a in
    subst (λ (d : Done). IfErr c.solved_application.result (StopsAt node (finished_in d))) (c.take_bound.ensures.none c.in-None.is) c.solved_application.ensures.stops
