use Rattle.std.proofs.Common.{◌≡◌, [], ℕ, List, subst, rules}
use Rattle.mls_automaton.specs.declared.scheme.EnvEntry.{EnvEntry}
use Rattle.mls_layout.specs.Walks.{IsThis}
use Rattle.mls_layout.specs.steps.Walking.{AreStatesOf, IsOfEntries, Lists}
use Rattle.mls_layout.proofs.MetPairs.{ends_are, lists_one}
use Rattle.mls_layout.proofs.walk.ends_of.Goals as goal

pub returns : goal.returns
returns c =
    let empty : c.new-ends.result ≡ [] = search rules in
    let states : AreStatesOf c.args.special.now.env c.in_ok-states.states = subst (λ (es : List EnvEntry). AreStatesOf es c.in_ok-states.states) c.as_slice.ensures.entries c.in_ok-states.ensures in
    let entries : Lists (IsOfEntries c.in_ok-states.states c.args.general.now.env) c.push.new.self c.push_ends.new.ends =
    subst (λ (es : List EnvEntry). Lists (IsOfEntries c.in_ok-states.states es) c.push.new.self c.push_ends.new.ends) c.as_slice-2.ensures.entries c.in_ok-push_ends.ensures in
    let root : Lists (IsThis (c.args.general.now.root.0, c.args.special.now.root.0)) [] c.push.new.self =
    subst (λ (old : List (ℕ × ℕ)). Lists (IsThis (c.args.general.now.root.0, c.args.special.now.root.0)) old c.push.new.self) empty
    (lists_one (c.args.general.now.root.0, c.args.special.now.root.0) c.new-ends.result c.push.new.self c.in_ok-push.ensures.ok) in
    ends_are c.args.general.now c.args.special.now c.in_ok-states.states c.as_slice-2.ensures.rise c.as_slice.ensures.rise states c.push.new.self c.push_ends.new.ends root entries
