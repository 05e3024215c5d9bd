use Rattle.std.proofs.Common.{ℕ, List, Contains, refl, subst, sym}
use Rattle.mls_solver.specs.Relations.{IsGoal}
use Rattle.mls_solver.specs.Rooms.{Holds}
use Rattle.mls_solver.specs.Solutions.{HasInstancesUnder}
use Rattle.mls_solver.specs.Solved.{IsSolved}
use Rattle.mls_solver.specs.declared.goal.Goal.{Goal}
use Rattle.mls_solver.proofs.Answered.{always_err}
use Rattle.mls_biunify.specs.Live.{AreRelated, IsSameLive, IsSolvedFor, Live}
use Rattle.mls_biunify.specs.steps.LiveParts.{live_of}
use Rattle.mls_biunify.specs.steps.Settlement.{AddsEdges, AreNewHeads}
use Rattle.mls_biunify.proofs.TableSteps.{table-closed}
use Rattle.mls_biunify.proofs.Lives.{solved_there, held_there, related-settled, settled-instances, touched_there, new_edges_there, same-pairs-live, no-edges}
use Rattle.mls_biunify.proofs.SettledTables.{heads-fit, settled}
use Rattle.mls_biunify.proofs.live.Live.settle.Goals as goal

pub touched-requires : goal.touched-requires
touched-requires c = (held_there c.self.inside.table c.self.inside.relation c.grow.new.self c.grow.ensures.pairs (solved_there c.self.inside.table c.limit.ensures.is c.self.inside.relation c.self.inside.is_solved c.self.inside.is_ready c.requires.0 (subst (λ (live : Live). IsSolvedFor live c.requires.0) (sym c.self.view_is) c.requires.1)))

pub new_heads-requires-clause-states : goal.new_heads-requires-clause-states
new_heads-requires-clause-states c = (held_there c.self.inside.table c.self.inside.relation c.grow.new.self c.grow.ensures.pairs (solved_there c.self.inside.table c.limit.ensures.is c.self.inside.relation c.self.inside.is_solved c.self.inside.is_ready c.requires.0 (subst (λ (live : Live). IsSolvedFor live c.requires.0) (sym c.self.view_is) c.requires.1)))

pub new_heads-requires-clause-there : goal.new_heads-requires-clause-there
new_heads-requires-clause-there c = touched_there c.self.inside.table c.limit.ensures.is c.grow.new.self.pairs c.in_ok-states.states c.as_slice.result.now c.as_slice.ensures.members c.in_ok-states.ensures

pub new_edges-requires : goal.new_edges-requires
new_edges-requires c = (held_there c.self.inside.table c.self.inside.relation c.grow.new.self c.grow.ensures.pairs (solved_there c.self.inside.table c.limit.ensures.is c.self.inside.relation c.self.inside.is_solved c.self.inside.is_ready c.requires.0 (subst (λ (live : Live). IsSolvedFor live c.requires.0) (sym c.self.view_is) c.requires.1)))

pub link_all-requires : goal.link_all-requires
link_all-requires c = new_edges_there c.self.inside.table c.limit.ensures.is c.grow.new.self c.in_ok-edges.edges.items c.as_slice-2.result.now c.as_slice-2.ensures.value c.in_ok-edges.ensures

pub returns-in_err-link_all-clause-err : goal.returns-in_err-link_all-clause-err
returns-in_err-link_all-clause-err c =
    always_err c.from_residual-in_err-link_all.result (IsSameLive c.args.self.now (live_of (record { table = c.link_all.new.table; relation = c.grow.new.self; is_solved = c.self.inside.is_solved; is_ready = c.self.inside.is_ready })))
    (subst (λ (live : Live). IsSameLive live (live_of (record { table = c.link_all.new.table; relation = c.grow.new.self; is_solved = c.self.inside.is_solved; is_ready = c.self.inside.is_ready }))) c.self.view_is
    (same-pairs-live c.self.inside.table c.link_all.new.table c.self.inside.relation c.grow.new.self c.self.inside.is_solved c.self.inside.is_ready c.grow.ensures.pairs c.in_err-link_all.ensures.err.states c.in_err-link_all.ensures.err.there (no-edges c.self.inside.table c.link_all.new.table c.in_err-link_all.ensures.err)))

pub store_heads-requires : goal.store_heads-requires
store_heads-requires c =
    heads-fit c.self.inside.table c.limit.ensures.is c.grow.new.self (held_there c.self.inside.table c.self.inside.relation c.grow.new.self c.grow.ensures.pairs (solved_there c.self.inside.table c.limit.ensures.is c.self.inside.relation c.self.inside.is_solved c.self.inside.is_ready c.requires.0 (subst (λ (live : Live). IsSolvedFor live c.requires.0) (sym c.self.view_is) c.requires.1))) c.as_slice.result.now c.in_ok-heads.heads.items c.in_ok-heads.ensures c.link_all.new.table c.in_ok-link_all.ensures.ok.states c.in_ok-link_all.ensures.ok.there

pub returns-clause-solved : goal.returns-clause-solved
returns-clause-solved c =
    subst (λ (live : Live). IsSolved live.table (AreRelated live) c.store_heads.new.table.automaton) c.self.view_is
    (related-settled c.self.inside.table c.self.inside.relation c.grow.new.self c.self.inside.is_solved c.self.inside.is_ready (subst (λ (live : Live). IsSolvedFor live c.requires.0) (sym c.self.view_is) c.requires.1).present c.grow.ensures.pairs c.store_heads.new.table.automaton (settled c.self.inside.table c.limit.ensures.is c.grow.new.self (held_there c.self.inside.table c.self.inside.relation c.grow.new.self c.grow.ensures.pairs (solved_there c.self.inside.table c.limit.ensures.is c.self.inside.relation c.self.inside.is_solved c.self.inside.is_ready c.requires.0 (subst (λ (live : Live). IsSolvedFor live c.requires.0) (sym c.self.view_is) c.requires.1))) c.in_ok-states.states c.in_ok-heads.heads.items (subst (λ (xs : List ℕ). AreNewHeads c.self.inside.table (Holds c.grow.new.self) xs c.in_ok-heads.heads.items) c.as_slice.ensures.members c.in_ok-heads.ensures) (λ s. (c.in_ok-states.ensures s).1) c.in_ok-edges.edges.items c.in_ok-edges.ensures c.link_all.new.table c.store_heads.new.table (subst (λ (xs : List (ℕ × ℕ)). AddsEdges c.self.inside.table c.link_all.new.table (λ n p. Contains xs (n, p))) c.as_slice-2.ensures.value c.in_ok-link_all.ensures.ok) c.store_heads.ensures))

pub returns-clause-instances : goal.returns-clause-instances
returns-clause-instances c =
    subst (λ (live : Live). (goals : List Goal) → IsSolvedFor live goals → HasInstancesUnder live.table (IsGoal goals) c.store_heads.new.table.automaton) c.self.view_is
    (settled-instances c.self.inside.table c.limit.ensures.is (live_of (record { table = c.self.inside.table; relation = c.self.inside.relation; is_solved = c.self.inside.is_solved; is_ready = c.self.inside.is_ready })) refl c.store_heads.new.table.automaton (table-closed c.store_heads.new.table.automaton c.store_heads.new.table.there c.limit-settled.ensures.is.is)
    (related-settled c.self.inside.table c.self.inside.relation c.grow.new.self c.self.inside.is_solved c.self.inside.is_ready (subst (λ (live : Live). IsSolvedFor live c.requires.0) (sym c.self.view_is) c.requires.1).present c.grow.ensures.pairs c.store_heads.new.table.automaton (settled c.self.inside.table c.limit.ensures.is c.grow.new.self (held_there c.self.inside.table c.self.inside.relation c.grow.new.self c.grow.ensures.pairs (solved_there c.self.inside.table c.limit.ensures.is c.self.inside.relation c.self.inside.is_solved c.self.inside.is_ready c.requires.0 (subst (λ (live : Live). IsSolvedFor live c.requires.0) (sym c.self.view_is) c.requires.1))) c.in_ok-states.states c.in_ok-heads.heads.items (subst (λ (xs : List ℕ). AreNewHeads c.self.inside.table (Holds c.grow.new.self) xs c.in_ok-heads.heads.items) c.as_slice.ensures.members c.in_ok-heads.ensures) (λ s. (c.in_ok-states.ensures s).1) c.in_ok-edges.edges.items c.in_ok-edges.ensures c.link_all.new.table c.store_heads.new.table (subst (λ (xs : List (ℕ × ℕ)). AddsEdges c.self.inside.table c.link_all.new.table (λ n p. Contains xs (n, p))) c.as_slice-2.ensures.value c.in_ok-link_all.ensures.ok) c.store_heads.ensures)))
