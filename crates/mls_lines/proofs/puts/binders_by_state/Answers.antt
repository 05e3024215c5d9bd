use Rattle.std.proofs.Common.{List, ℕ, ◌<◌, length, take, get_or, sym, subst, Some}
use Rattle.std.specs.BTreeMap.{Updates}
use Rattle.std.specs.Ordering.{nat_cmp}
use Rattle.std.proofs.lemmas.List.{take_more}
use Rattle.mls_automaton.specs.declared.scheme.EnvEntry.{EnvEntry}
use Rattle.mls_lines.specs.Puts.{AreByState}
use Rattle.mls_lines.proofs.PutLists.{by_state_more}
use Rattle.mls_lines.proofs.puts.binders_by_state.Goals as goal

pub loop-entry-preserved : goal.loop-entry-preserved
loop-entry-preserved c =
    let env : List EnvEntry = c.args.scheme.now.env in
    let i : ℕ = c.loop-entry.entry-index in
    let none : EnvEntry = record { binder = 0; state = record { 0 = 0 } } in
    let low : i < length env = subst (λ (es : List EnvEntry). i < length es) c.as_slice-entry-items.ensures.entries c.loop-entry-test.true in
    subst (λ (es : List EnvEntry). AreByState es c.insert.new.self) (sym (take_more env i none low))
    (by_state_more (take i env) c.loop-entry.binders c.insert.new.self (get_or env i none) c.loop-entry.invariant (subst (λ (es : List EnvEntry). Updates nat_cmp c.loop-entry.binders c.insert.new.self (get_or es i none).state.0 (Some (get_or es i none).binder)) c.as_slice-entry-items.ensures.entries c.in_ok-insert.ensures.updates))
