use Rattle.std.proofs.Common.{◌∙◌, ap, sym, subst, List, OnOk}
use Rattle.std.specs.Prelude.{Option, Some}
use Rattle.mls_automaton.specs.declared.automaton.Flow.{Flow}
use Rattle.mls_flow.specs.Needs.{Extends, IsOneOf}
use Rattle.mls_flow.proofs.claims.numbers_of.Goals as goal

pub number_each-requires : goal.number_each-requires
number_each-requires c = λ f there. c.requires f (subst (λ m. IsOneOf m f) (ap Some c.as_slice.ensures ∙ sym c.in-Some.is) there)

pub returns-in-Some-clause-extends : goal.returns-in-Some-clause-extends
returns-in-Some-clause-extends c =
    let P : Option (List Flow) → Type 0 = λ m. OnOk c.number_each.result (Extends (IsOneOf m) c.args.pairs.now.list c.number_each.new.pairs.list) in
    subst P (ap Some c.as_slice.ensures ∙ sym c.in-Some.is) c.number_each.ensures.extends
