use Rattle.std.proofs.Common.{◌<◌, ◌∙◌, ap, sym, subst, List, ◌++◌, ◌∷◌, []}
use Rattle.std.specs.Prelude.{Some}
use Rattle.mls_automaton.specs.declared.automaton.Flow.{Flow}
use Rattle.mls_automaton.specs.Automata.{flow}
use Rattle.mls_flow.specs.Pairs.{Pairs, IsAt}
use Rattle.mls_flow.specs.steps.Numbering.{number_in}
use Rattle.mls_flow.proofs.Numbered.{numbering-kept, numbering-added}
use Rattle.mls_flow.proofs.pairs.Pairs.number.Goals as goal

pub returns-in-Some-clause-number : goal.returns-in-Some-clause-number
returns-in-Some-clause-number c =
    let P : Pairs → Type 0 = λ v. IsAt v.list c.in-Some.number c.args.negative.0 c.args.positive.0 in
    subst P c.self.view_is
    ((c.self.invariant.just c.args.negative.0 c.args.positive.0 c.in-Some.number).0
    (ap (λ rows. number_in rows c.args.negative.0 c.args.positive.0) (sym c.as_slice.ensures.value) ∙ sym c.find.ensures ∙ c.in-Some.is))

pub invariant_of-self-in_err-note : goal.invariant_of-self-in_err-note
invariant_of-self-in_err-note c =
    numbering-kept c.self.inside.list.items c.reserve.new.self.items c.self.inside.rows.items c.note.new.rows.items c.self.invariant
    c.reserve.ensures.items c.note.ensures.len c.in_err-note.ensures.err

pub invariant_of-self-2 : goal.invariant_of-self-2
invariant_of-self-2 c =
    numbering-added c.self.inside.list.items c.self.inside.rows.items c.note.new.rows.items c.self.invariant c.args.negative.0 c.args.positive.0
    (subst (λ (v : Pairs). c.args.negative.0 < v.states) (sym c.self.view_is) c.requires)
    (λ k e. c.in_default.not-Some k (c.find.ensures ∙ ap (λ rows. number_in rows c.args.negative.0 c.args.positive.0) c.as_slice.ensures.value ∙ e))
    c.note.ensures.len
    (c.in_ok-note.ensures.here ∙ ap Some (c.len-number.ensures ∙ c.self.inside.list.ok.0))
    c.in_ok-note.ensures.others
    c.push.new.self.items
    (c.in_ok-push.ensures.items ∙ ap (λ (fs : List Flow). fs ++ flow c.args.negative.0 c.args.positive.0 ∷ []) c.reserve.ensures.items)
