use Rattle.std.proofs.Common.{rules, ◌≡◌, ◌∙◌, [], ◌∷◌, ap, sym}
use Rattle.mls_term.specs.declared.term.TermForm.TheVariants as form
use Rattle.mls_infer.specs.Constraints.{states_of}
use Rattle.mls_infer.specs.Pending.{StopsOver, part_in}
use Rattle.mls_infer.proofs.FixParts.{made_after, stops_after, unfixed_made}
use Rattle.mls_infer.proofs.forms.recursion.Goals as goal

pub returns-in_err-part-in-Some-clause-stops : goal.returns-in_err-part-in-Some-clause-stops
returns-in_err-part-in-Some-clause-stops c =
    let stops : StopsOver (form.Rec c.args.binder 0) c.args.live.now (part_in c.args.body ∷ []) c.in_err-part-in-Some.field-0.0 =
    stops_after (form.Rec c.args.binder 0) c.args.live.now (part_in c.args.body) c.with_one_state.new.live (part_in c.in_ok-body.body) c.in_ok-body.ensures.remade
    c.in_err-part-in-Some.field-0.0 c.in_err-part-in-Some.ensures.stops in
    search rules

pub returns-in-None-clause-made : goal.returns-in-None-clause-made
returns-in-None-clause-made c =
    let none : states_of c.args.binder c.in_ok-body.body.env ≡ [] = ap (states_of c.args.binder) (sym c.as_slice.ensures) ∙ sym c.in-None.ensures in
    made_after (form.Rec c.args.binder 0) c.args.live.now (part_in c.args.body) c.with_one_state.new.live (part_in c.in_ok-body.body) c.in_ok-body.ensures.remade
    c.with_one_state.new.live (part_in c.in_ok-body.body)
    (unfixed_made c.with_one_state.new.live c.ready-remade.ensures.live c.args.binder (part_in c.in_ok-body.body) c.in_ok-body.ensures.remade.waits none)

pub returns-in_ok-part-in-Some-clause-made : goal.returns-in_ok-part-in-Some-clause-made
returns-in_ok-part-in-Some-clause-made c =
    made_after (form.Rec c.args.binder 0) c.args.live.now (part_in c.args.body) c.with_one_state.new.live (part_in c.in_ok-body.body) c.in_ok-body.ensures.remade
    c.fixed.new.live (part_in c.in_ok-part-in-Some.part) c.in_ok-part-in-Some.ensures.made
