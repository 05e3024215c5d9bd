use Rattle.std.proofs.Common.{◌≡◌, inl, inr, ℕ, ◌<◌, List, [], Contains, subst, sym, arith}
use Rattle.mls_solver.specs.Relations.{IsGoal, goal as is_goal}
use Rattle.mls_solver.specs.Rooms.{Room, Holds}
use Rattle.mls_solver.specs.steps.Growth.{Relates}
use Rattle.mls_solver.specs.steps.Consequences.{IsRoomOf}
use Rattle.mls_solver.proofs.Taking.{related-through}
use Rattle.mls_solver.proofs.saturate.relate.Goals as goal

-- a room that held nothing holds just the goals
only_goals : (old new : Room) (IsNew : ℕ → ℕ → Type 0) → old.pairs ≡ [] → Relates old new IsNew → (p n : ℕ) → Holds new p n → IsNew p n
only_goals old new IsNew empty it p n held =
    elim (it.sound p n held) [
      | inl before ↦
          let P : List (ℕ × ℕ) → Type 0 = λ (pairs : List (ℕ × ℕ)). Contains pairs (p, n) in
          let none : P [] = subst P empty before in
          let low : none.0 < 0 = none.1 in
          absurd (omega arith)
      | inr here ↦ here
    ]

pub close-requires-clause-states : goal.close-requires-clause-states
close-requires-clause-states c =
    let was : IsRoomOf c.args.a.now c.number.new.room = c.number.ensures.states in
    record {
      row = λ p state. subst (λ (rows : List ℕ). Contains rows p) (sym c.add_goals.ensures.rows) (was.row p state);
      column = λ n state. subst (λ (columns : List ℕ). Contains columns n) (sym c.add_goals.ensures.columns) (was.column n state);
      row_is = λ p there. was.row_is p (subst (λ (rows : List ℕ). Contains rows p) c.add_goals.ensures.rows there);
      column_is = λ n there. was.column_is n (subst (λ (columns : List ℕ). Contains columns n) c.add_goals.ensures.columns there);
    }

pub returns-clause-relation : goal.returns-clause-relation
returns-clause-relation c p n = (
  λ held.
      related-through c.args.a.now (Holds c.add_goals.new.room) (IsGoal c.args.goals.now)
      (λ q m it. is_goal (only_goals c.number.new.room c.add_goals.new.room (IsGoal c.args.goals.now) c.number.ensures.pairs c.add_goals.ensures q m it))
      p n ((c.close.ensures.relation p n).0 held),
  λ related.
      (c.close.ensures.relation p n).1
      (related-through c.args.a.now (IsGoal c.args.goals.now) (Holds c.add_goals.new.room)
      (λ q m it. is_goal (c.add_goals.ensures.complete q m it))
      p n related),
)
