-- The fields of known types.
--     entries_there        the states of the binders of a record are there
--     field_there          and so is the state of a field
--     frozen_field         the scheme that is frozen there has the types of the projection
--     no_edges             no edge leads to a state without partners
use Rattle.std.proofs.Common.{◌≡◌, ◌↔◌, inr, ℕ, List, [], ◌∷◌, subst, arith, All, Contains}
use Rattle.mls_automaton.specs.declared.automaton.Polarity.TheVariants.{Positive}
use Rattle.mls_automaton.specs.declared.automaton.FieldSet.{FieldSet}
use Rattle.mls_automaton.specs.declared.scheme.Scheme.{Scheme}
use Rattle.mls_automaton.specs.declared.state_set.StateId.{StateId}
use Rattle.mls_automaton.specs.Automata.{Automaton, HasFlow, IsPartner, IsState, head_at}
use Rattle.mls_automaton.specs.Environments.{BindersRise}
use Rattle.mls_automaton.specs.Models.{HasStatesIn}
use Rattle.mls_automaton.specs.Schemes.{AreEquivalentSchemes, IsScheme}
use Rattle.mls_automaton.proofs.HeadOrder.{sets_found}
use Rattle.mls_biunify.specs.Live.{IsLiveState, IsStateIn, Live}
use Rattle.mls_solver.specs.Solutions.{scheme_over}
use Rattle.mls_infer.specs.Constraints.{HasStates, project_constraint, record_head}
use Rattle.mls_infer.specs.Fields.{HasOnly, IsRecord}
use Rattle.mls_infer.specs.Regions.{TablePart, part_over, scheme_at}
use Rattle.mls_infer.specs.Steps.{IsSolution}
use Rattle.mls_infer.proofs.ConstraintRows.{nothing_in}
use Rattle.mls_infer.proofs.DoneOut.{rising_scheme}
use Rattle.mls_infer.proofs.FieldTypes.{field_solution}
use Rattle.mls_infer.proofs.OneState.{scheme_states}
use Rattle.mls_infer.proofs.SolvedConstraints.{solution_after}
use Rattle.mls_infer.proofs.TableSolutions.{frozen_types, part_states}

-- no edge leads to a state that has no partners
pub no_edges : (a : Automaton) (s : ℕ) (partners : List ℕ) → ((j : ℕ) → Contains partners j ↔ IsPartner a s j) → partners ≡ [] → (n : ℕ) → HasFlow a n s → ⊥
no_edges a s partners are none n edge =
    let C : List ℕ → Type 0 = λ xs. Contains xs n in
    nothing_in n (subst C none ((are n).1 (inr edge)))

module _ (live : Live) (part : TablePart) (is : IsRecord live part) (label : List ℕ) (r : StateId) (only : HasOnly (head_at live.table part.root.0) label r.0) where
  abbrev fields : List FieldSet
  fields = only.0

  -- the state of the field is there
  pub field_there : IsLiveState live Positive r.0
  field_there =
      let P : _ → Type 0 = λ p. HasStatesIn (IsStateIn live.table live.there) p (head_at live.table part.root.0) in
      let Q : _ → Type 0 = λ h. HasStatesIn (IsStateIn live.table live.there) Positive h in
      let named : HasStatesIn (IsStateIn live.table live.there) Positive (record_head fields) = subst Q only.1 (subst P is.waits.part.root_positive (is.is_live.heads part.root.0)) in
      let all : All (IsStateIn live.table live.there Positive) (r.0 ∷ []) = sets_found (IsStateIn live.table live.there Positive) fields named.fields label (r.0 ∷ []) only.2 in
      all 0 r.0 (omega arith)

  pub frozen_field : (t : Scheme) → IsScheme t → BindersRise t.env → AreEquivalentSchemes (scheme_over live.table r.0 part.env) t → IsSolution (project_constraint label (scheme_at live.table part)) t
  frozen_field t is_t rise same =
      let states : HasStates (scheme_at live.table part) = part_states live is.is_live part.states is.waits.there part.env part.root is.waits.part in
      let state : IsState live.table Positive r.0 = record { in_range = is.is_live.in_range r.0 field_there.there; polarity = field_there.polarity } in
      let own : IsSolution (project_constraint label (scheme_at live.table part)) (part_over live.table part.env r) = field_solution (scheme_at live.table part) states label fields r only.1 only.2 is.free state in
      solution_after (project_constraint label (scheme_at live.table part)) (part_over live.table part.env r) t own
      (record {
        states = scheme_states t is_t rise;
        just = frozen_types live.table r part.env t (rising_scheme (part_over live.table part.env r) own.states) is.rise is_t rise same;
      })
