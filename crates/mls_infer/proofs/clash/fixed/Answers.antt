use Rattle.std.proofs.Common.{◌≡◌, ◌∙◌, List, [], ◌∷◌, ap, sym, subst, arith, rules}
use Rattle.mls_automaton.specs.declared.automaton.Polarity.TheVariants.{Negative}
use Rattle.mls_automaton.specs.declared.scheme.EnvEntry.{EnvEntry}
use Rattle.mls_automaton.specs.declared.scheme.Scheme.{Scheme}
use Rattle.mls_automaton.specs.declared.state_set.StateId.{StateId}
use Rattle.mls_automaton.proofs.Lists.{Contains-cases}
use Rattle.mls_biunify.specs.Live.{IsLiveState, Live}
use Rattle.mls_infer.specs.declared.constraints.Open.{Open}
use Rattle.mls_infer.specs.Constraints.{HasOneState, fix_constraint}
use Rattle.mls_infer.specs.Posed.{scheme_in}
use Rattle.mls_infer.specs.Regions.{part_over}
use Rattle.mls_infer.proofs.ConstraintRows.{nothing_in}
use Rattle.mls_infer.proofs.SameTables.{alone_states}
use Rattle.mls_infer.proofs.clash.fixed.Goals as goal
use Rattle.std.proofs.Common.{Contains, inl, inr}

abbrev own : StateId → EnvEntry
own state = record { binder = 0; state = state }

own_live : (live : Live) (state : StateId) → IsLiveState live Negative state.0 → (entry : EnvEntry) → Contains (own state ∷ []) entry → IsLiveState live Negative entry.state.0
own_live live state is entry inside = elim (Contains-cases (own state) [] entry inside) [
  | inl same ↦ subst (λ (e : EnvEntry). IsLiveState live Negative e.state.0) same is
  | inr none ↦ absurd (nothing_in entry none)
]

-- the part with the entry
with_own : (o : Open) (env : List EnvEntry) (root state : StateId) → scheme_in o ≡ part_over o.automaton [] root → env ≡ own state ∷ [] → scheme_in (record { automaton = o.automaton; env = env; root = o.root }) ≡ part_over o.automaton (own state ∷ []) root
with_own o env root state is env_is = λ i. record { automaton = o.automaton; env = env_is i; root = (is i).root }

one_of_own : (s : Scheme) (state : StateId) → s.env ≡ own state ∷ [] → HasOneState 0 s
one_of_own s state is = subst (λ (env : List EnvEntry). HasOneState 0 (record { automaton = s.automaton; env = env; root = s.root })) (sym is) (omega arith)

pub recursion-requires-clause-states : goal.recursion-requires-clause-states
recursion-requires-clause-states c =
    let part : Open = c.in_ok-body.body in
    let env : List EnvEntry = c.push.new.self in
    let none : part.env ≡ [] = ap (λ (s : Scheme). s.env) c.in_ok-body.ensures.part in
    let env_is : env ≡ own c.args.state ∷ [] = search rules in
    alone_states c.args.live.now (record { automaton = part.automaton; env = env; root = part.root }) (own c.args.state ∷ []) c.args.root c.in_ok-body.ensures.same
    (with_own part env c.args.root c.args.state c.in_ok-body.ensures.part env_is) c.requires.root (own_live c.args.live.now c.args.state c.requires.state)

pub recursion-requires-clause-one : goal.recursion-requires-clause-one
recursion-requires-clause-one c =
    let part : Open = c.in_ok-body.body in
    let env : List EnvEntry = c.push.new.self in
    let none : part.env ≡ [] = ap (λ (s : Scheme). s.env) c.in_ok-body.ensures.part in
    let env_is : env ≡ own c.args.state ∷ [] = search rules in
    one_of_own (scheme_in (record { automaton = part.automaton; env = env; root = part.root })) c.args.state env_is

pub returns-clause-constraint : goal.returns-clause-constraint
returns-clause-constraint c =
    let part : Open = c.in_ok-body.body in
    let env : List EnvEntry = c.push.new.self in
    let none : part.env ≡ [] = ap (λ (s : Scheme). s.env) c.in_ok-body.ensures.part in
    let env_is : env ≡ own c.args.state ∷ [] = search rules in (
      part.automaton,
      c.in_ok-body.ensures.same,
      c.in_ok-posed.ensures.constraint ∙ ap (fix_constraint 0) (with_own part env c.args.root c.args.state c.in_ok-body.ensures.part env_is),
    )
