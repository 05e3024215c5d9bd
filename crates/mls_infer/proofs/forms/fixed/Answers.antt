use Rattle.std.proofs.Common.{List, [], ◌∷◌, All, ap, subst, sym}
use Rattle.mls_automaton.specs.declared.automaton.Polarity.TheVariants.{Negative}
use Rattle.mls_automaton.specs.declared.scheme.EnvEntry.{EnvEntry}
use Rattle.mls_solver.specs.declared.goal.Goal.{Goal}
use Rattle.mls_biunify.specs.Live.{IsLiveGoal}
use Rattle.mls_term.specs.declared.term.TermForm.TheVariants as form
use Rattle.mls_infer.specs.Pending.{IsMade, part_in, states_in}
use Rattle.mls_infer.proofs.FixParts.{fixed_live, fixed_made, fixed_none, fixed_state, fixed_stops}
use Rattle.mls_infer.proofs.FormSteps.{refused_false, refused_live, settled_true}
use Rattle.mls_infer.proofs.forms.fixed.Goals as goal

pub solves-requires : goal.solves-requires
solves-requires c =
    subst (λ (gs : List Goal). All (IsLiveGoal c.args.live.now) gs) (ap (λ (g : Goal). g ∷ []) (sym c.goal.ensures))
    (fixed_live c.args.live.now c.ready-waiting.ensures.live c.args.binder (part_in c.args.body) c.requires.waits c.args.state c.requires.only)

pub clash_of_recursion-requires-clause-state : goal.clash_of_recursion-requires-clause-state
clash_of_recursion-requires-clause-state c =
    refused_live c.args.live.now (record { positive = c.args.body.root; negative = c.args.state } ∷ []) c.solves.new.live
    (refused_false c.args.live.now (c.goal.result ∷ []) (record { positive = c.args.body.root; negative = c.args.state } ∷ []) (ap (λ (g : Goal). g ∷ []) c.goal.ensures) c.solves.new.live c.in_ok-solves.field-0 c.in_ok-solves.ensures c.if-not-branch.true)
    Negative c.args.state.0 (fixed_state c.args.live.now c.ready-waiting.ensures.live c.args.binder (part_in c.args.body) c.requires.waits c.args.state c.requires.only)

pub clash_of_recursion-requires-clause-none : goal.clash_of_recursion-requires-clause-none
clash_of_recursion-requires-clause-none c =
    fixed_none c.args.live.now c.ready-waiting.ensures.live c.args.binder (part_in c.args.body) c.requires.waits c.args.state c.requires.only c.solves.new.live
    (refused_false c.args.live.now (c.goal.result ∷ []) (record { positive = c.args.body.root; negative = c.args.state } ∷ []) (ap (λ (g : Goal). g ∷ []) c.goal.ensures) c.solves.new.live c.in_ok-solves.field-0 c.in_ok-solves.ensures c.if-not-branch.true)

pub returns-then-not-branch-clause-stops : goal.returns-then-not-branch-clause-stops
returns-then-not-branch-clause-stops c =
    fixed_stops c.args.live.now c.ready-waiting.ensures.live c.args.binder (part_in c.args.body) c.requires.waits c.args.state c.requires.only c.solves.new.live
    (refused_false c.args.live.now (c.goal.result ∷ []) (record { positive = c.args.body.root; negative = c.args.state } ∷ []) (ap (λ (g : Goal). g ∷ []) c.goal.ensures) c.solves.new.live c.in_ok-solves.field-0 c.in_ok-solves.ensures c.if-not-branch.true)
    c.clash_of_recursion.result c.clash_of_recursion.ensures

pub returns-clause-made : goal.returns-clause-made
returns-clause-made c =
    subst (λ (env : List EnvEntry). IsMade (form.Rec c.args.binder 0) c.args.live.now (part_in c.args.body ∷ []) c.solves.new.live (record { states = states_in c.args.body.region; env = env; root = c.args.body.root })) (sym c.in_ok-env.ensures)
    (fixed_made c.args.live.now c.ready-waiting.ensures.live c.args.binder (part_in c.args.body) c.requires.waits c.args.state c.requires.only c.solves.new.live
    (settled_true c.args.live.now (c.goal.result ∷ []) (record { positive = c.args.body.root; negative = c.args.state } ∷ []) (ap (λ (g : Goal). g ∷ []) c.goal.ensures) c.solves.new.live c.in_ok-solves.field-0 c.in_ok-solves.ensures c.if-not-branch.false))
