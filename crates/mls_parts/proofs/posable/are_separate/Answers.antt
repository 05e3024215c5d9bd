use Rattle.std.proofs.Common.{List, subst}
use Rattle.mls_automaton.specs.declared.scheme.EnvEntry.{EnvEntry}
use Rattle.mls_layout.specs.steps.Posable.{AreApart}
use Rattle.mls_parts.proofs.PosableTypes.{separate}
use Rattle.mls_parts.proofs.posable.are_separate.Goals as goal

pub returns-in-Some : goal.returns-in-Some
returns-in-Some c = λ yes.
    separate c.args.known.now c.in-Some.states
    (subst (λ (es : List EnvEntry). AreApart es c.in-Some.states) c.as_slice.ensures.entries (rw c.in-Some.is at c.in_ok-states_apart.ensures))
    (c.are_free.ensures yes)
