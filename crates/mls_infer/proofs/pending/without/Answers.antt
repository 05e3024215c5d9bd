use Rattle.std.proofs.Common.{◌≢◌, List, sym, subst, All}
use Rattle.mls_automaton.specs.declared.scheme.EnvEntry.{EnvEntry}
use Rattle.mls_infer.proofs.JoinedLists.{others_alone}
use Rattle.mls_infer.proofs.pending.without.Goals as goal

pub returns-then-has_none : goal.returns-then-has_none
returns-then-has_none c =
    sym (others_alone c.args.binder c.args.env
    (subst (λ (xs : List EnvEntry). All (λ (e : EnvEntry). e.binder ≢ c.args.binder) xs) c.as_slice.ensures (c.has_none.ensures.0 c.if-has_none.true)))
