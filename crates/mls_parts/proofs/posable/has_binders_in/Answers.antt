use Rattle.std.proofs.Common.{IsTrue, rules, All, subst}
use Rattle.std.proofs.lemmas.List.{take_all}
use Rattle.std.proofs.lemmas.List.Elements.{All-more}
use Rattle.mls_automaton.specs.declared.scheme.EnvEntry.{EnvEntry}
use Rattle.mls_layout.specs.steps.Posable.{Has}
use Rattle.mls_parts.proofs.posable.has_binders_in.Goals as goal

abbrev nowhere : EnvEntry
nowhere = record { binder = 0; state = record { 0 = 0 } }

pub loop-entry-preserved : goal.loop-entry-preserved
loop-entry-preserved c =
    let has : IsTrue c.has.result = search rules in
    All-more (λ (entry : EnvEntry). Has c.args.around.now entry.binder) c.args.env.now c.loop-entry.entry-index nowhere c.loop-entry-test.true c.loop-entry.invariant
    (c.has.ensures.0 has)

pub returns : goal.returns
returns c = λ yes. subst (All (λ (entry : EnvEntry). Has c.args.around.now entry.binder)) (take_all c.loop-entry.entry-index c.args.env.now c.loop-entry-test.false) c.loop-entry.invariant
