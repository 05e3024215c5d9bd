use Rattle.std.proofs.Common.{[], IfErr, IfOk, refl, subst, sym}
use Rattle.std.specs.Prelude.{IfSome, Option}
use Rattle.mls_term.specs.declared.term.TermForm.{TermForm}
use Rattle.mls_term.specs.declared.term.TermForm.TheVariants as form
use Rattle.mls_infer.specs.declared.done.Done.{Done}
use Rattle.mls_infer.specs.Doing.{IsBuiltIn, IsDone, TakesBound, finished_in}
use Rattle.mls_infer.specs.Finishing.{HasParts, StopsAt}
use Rattle.mls_infer.specs.Pending.{part_in}
use Rattle.mls_infer.proofs.TakenParts.{first_there, projected_bound}
use Rattle.mls_infer.proofs.infer.of_projection.Goals as goal

pub take_bound-requires-clause-there : goal.take_bound-requires-clause-there
take_bound-requires-clause-there c =
    let node : TermForm = form.Project c.args.e c.args.label.now in
    first_there c.args.done.now c.requires.done node c.requires.parts c.args.e [] refl

pub returns-in_ok-part-in-Some-clause-part : goal.returns-in_ok-part-in-Some-clause-part
returns-in_ok-part-in-Some-clause-part c =
    let mid : Done = c.take_bound.new.self in
    let takes : TakesBound c.args.done.now c.args.e c.in-Some.x mid = subst (λ (o : Option _). IfSome o (λ x. TakesBound c.args.done.now c.args.e x mid)) c.in-Some.is c.take_bound.ensures.some in
    projected_bound c.args.done.now c.requires.done c.args.e c.in-Some.x mid takes c.args.label.now c.requires.parts c.bound_field.new.live c.ready-made.ensures.live (part_in c.in_ok-part-in-Some.part) c.in_ok-part-in-Some.ensures

pub known_projection-requires-clause-done : goal.known_projection-requires-clause-done
known_projection-requires-clause-done c = subst IsDone (sym (c.take_bound.ensures.none c.in-None.is)) c.requires.done

pub known_projection-requires-clause-parts : goal.known_projection-requires-clause-parts
known_projection-requires-clause-parts c =
    let node : TermForm = form.Project c.args.e c.args.label.now in
    subst (λ (d : Done). HasParts node (finished_in d)) (sym (c.take_bound.ensures.none c.in-None.is)) c.requires.parts

pub returns-in-None-clause-part : goal.returns-in-None-clause-part
returns-in-None-clause-part c =
    let node : TermForm = form.Project c.args.e c.args.label.now in
    subst (λ (d : Done). IfOk c.known_projection.result (λ part. IsBuiltIn node (finished_in d) c.known_projection.new.done.live c.known_projection.new.done.nodes.items (part_in part)))
    (c.take_bound.ensures.none c.in-None.is) c.known_projection.ensures.part

pub returns-in-None-clause-stops : goal.returns-in-None-clause-stops
returns-in-None-clause-stops c =
    let node : TermForm = form.Project c.args.e c.args.label.now in
    subst (λ (d : Done). IfErr c.known_projection.result (StopsAt node (finished_in d))) (c.take_bound.ensures.none c.in-None.is) c.known_projection.ensures.stops
