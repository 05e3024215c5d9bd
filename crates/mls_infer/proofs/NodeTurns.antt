-- The loop over the nodes, turn by turn, over what the program keeps.
--     StandsAt       what holds before a turn
--     stands_first   before the first
--     can_now, stops_now, stands_next
use Rattle.std.proofs.Common.{◌≡◌, ◌+◌, ◌<◌, ◌++◌, ◌∷◌, [], ℕ, suc, List, refl, sym, subst, arith, length, length-append, get_or, Some}
use Rattle.mls_automaton.specs.declared.scheme.Scheme.{Scheme}
use Rattle.mls_biunify.specs.Live.{Live}
use Rattle.mls_term.specs.declared.term.TermNode.{TermNode}
use Rattle.mls_term.specs.Terms.{TermTree, postorder}
use Rattle.mls_term.specs.WellFormed.{IsFirstNone}
use Rattle.mls_infer.specs.declared.done.Known.{Known}
use Rattle.mls_infer.specs.declared.fault.SiteKind.{SiteKind}
use Rattle.mls_infer.specs.Constraints.{HasStates}
use Rattle.mls_infer.specs.Doing.{AreDone, IsAddedIn, schemes_known}
use Rattle.mls_infer.specs.Finished.{Finished, Has}
use Rattle.mls_infer.specs.Finishing.{CanStep, GoesOnIn, IsAnswerBy, IsStop, KeepsBut, Scope}
use Rattle.mls_infer.specs.Forms.{children}
use Rattle.mls_infer.specs.Inference.{IsKindAt}
use Rattle.mls_infer.proofs.NodeLoop.{GoesFrom, can_step, each_tree, goes_further, stops_here}
use Rattle.mls_infer.proofs.Told.{answer_told, can_told, cleared, cleared_size, done_states, none_told, stop_told, told_next}

-- the loop stands at the node of this number: it goes on from what is told, and what is known has the same types
pub record StandsAt (scope : Scope) (nodes : List TermNode) (i : ℕ) (live : Live) (known : List Known) : Type 0 where
  pub done : AreDone live known
  pub told : Finished
  pub size : length told ≡ i
  pub keeps : KeepsBut [] told (schemes_known live known)
  pub goes : GoesFrom scope nodes i told

pub stands_first : (scope : Scope) (nodes : List TermNode) → (t : TermTree) × (nodes ≡ postorder 0 t) × GoesOnIn scope t nodes [] → (live : Live) (known : List Known) → AreDone live known → schemes_known live known ≡ [] → StandsAt scope nodes 0 live known
stands_first scope nodes one live known done none = record { done = done; told = []; size = refl; keeps = none_told (schemes_known live known) none; goes = each_tree scope nodes one }

module _ (scope : Scope) (nodes : List TermNode) (i : ℕ) (live : Live) (known : List Known) (at : StandsAt scope nodes i live known) (one : (t : TermTree) × (nodes ≡ postorder 0 t)) (low : i < length nodes) (node : TermNode) (is : get_or nodes i node ≡ node) where
  states : (j : ℕ) (s : Scheme) → Has (schemes_known live known) j s → HasStates s
  states = done_states live known at.done

  can : CanStep scope node.form at.told
  can = can_step scope nodes i at.told at.goes low node is one

  pub can_now : CanStep scope (get_or nodes i node).form (schemes_known live known)
  can_now =
      let P : TermNode → Type 0 = λ node. CanStep scope node.form (schemes_known live known) in
      subst P (sym is) (can_told at.told (schemes_known live known) at.keeps states scope node.form can)

  pub stops_now : (m : SiteKind) → IsStop node.form (schemes_known live known) m → (t : TermTree) → nodes ≡ postorder 0 t → IsFirstNone scope.globals t i × IsKindAt scope.globals t i m
  stops_now m stop t are =
      let P : ℕ → Type 0 = λ i. IsFirstNone scope.globals t i × IsKindAt scope.globals t i m in
      subst P at.size (stops_here scope nodes i at.told at.goes low node is m (stop_told at.told (schemes_known live known) at.keeps states scope node.form m can stop) t are)

  -- the node is added
  pub stands_next : (new : Live) (more : List Known) → IsAddedIn scope (get_or nodes i node).form (schemes_known live known) new more → StandsAt scope nodes (i + 1) new more
  stands_next new more is_added =
      let own : IsAddedIn scope node.form (schemes_known live known) new more = let P : TermNode → Type 0 = λ node. IsAddedIn scope node.form (schemes_known live known) new more in subst P is is_added in
      let s : Scheme = own.scheme in
      let answer : IsAnswerBy scope node.form at.told s = record { answer = answer_told at.told (schemes_known live known) at.keeps states scope node.form s can own.answer.answer; states = own.answer.states } in
      let gone : List ℕ = children node.form in
      let next : Finished = cleared gone at.told ++ Some s ∷ [] in
      let F : ℕ → Type 0 = λ n. GoesFrom scope nodes n next in
      let one_more : suc i ≡ i + 1 = omega arith in
      let so_far : length at.told ≡ i = at.size in
      let size : length (cleared gone at.told) ≡ length at.told = cleared_size gone at.told in
      let longer : length next ≡ length (cleared gone at.told) + 1 = length-append (cleared gone at.told) (Some s ∷ []) in
      record {
        done = own.done;
        told = next;
        size = omega arith;
        keeps = told_next gone at.told (schemes_known live known) own.rest (schemes_known new more) s at.keeps own.keeps own.adds;
        goes = subst F one_more (goes_further scope nodes i at.told at.goes low node is s answer);
      }
