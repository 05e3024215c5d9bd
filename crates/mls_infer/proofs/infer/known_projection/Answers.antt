use Rattle.std.proofs.Common.{IfErr, IfOk, subst, sym}
use Rattle.mls_term.specs.declared.term.TermForm.{TermForm}
use Rattle.mls_term.specs.declared.term.TermForm.TheVariants as form
use Rattle.mls_infer.specs.declared.done.Done.{Done}
use Rattle.mls_infer.specs.Doing.{IsBuiltIn, IsDone, finished_in}
use Rattle.mls_infer.specs.Finishing.{HasParts, StopsAt}
use Rattle.mls_infer.specs.Pending.{part_in}
use Rattle.mls_infer.proofs.infer.known_projection.Goals as goal

pub solved_projection-requires-clause-done : goal.solved_projection-requires-clause-done
solved_projection-requires-clause-done c = subst IsDone (sym (c.in_ok-known.ensures.none c.in-None.is)) c.requires.done

pub solved_projection-requires-clause-parts : goal.solved_projection-requires-clause-parts
solved_projection-requires-clause-parts c =
    let node : TermForm = form.Project c.args.e c.args.label.now in
    subst (λ (d : Done). HasParts node (finished_in d)) (sym (c.in_ok-known.ensures.none c.in-None.is)) c.requires.parts

pub returns-in-None-clause-part : goal.returns-in-None-clause-part
returns-in-None-clause-part c =
    let node : TermForm = form.Project c.args.e c.args.label.now in
    subst (λ (d : Done). IfOk c.solved_projection.result (λ part. IsBuiltIn node (finished_in d) c.solved_projection.new.done.live c.solved_projection.new.done.nodes.items (part_in part)))
    (c.in_ok-known.ensures.none c.in-None.is) c.solved_projection.ensures.part

pub returns-in-None-clause-stops : goal.returns-in-None-clause-stops
returns-in-None-clause-stops c =
    let node : TermForm = form.Project c.args.e c.args.label.now in
    subst (λ (d : Done). IfErr c.solved_projection.result (StopsAt node (finished_in d))) (c.in_ok-known.ensures.none c.in-None.is) c.solved_projection.ensures.stops
