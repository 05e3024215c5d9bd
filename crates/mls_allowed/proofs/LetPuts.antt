-- What stands for the variables of the type of a let's first part, at a use, where each edge has a variable.
--     let_put             the variable of an edge stands for the node of the copy of its negative end
--     let_puts            so what is put in is what a use asks for
--     let_puts_low        and it is nodes of the book
--     node_of_copy        the node of the copy of a state
--     edges_weaker        what is put in for edges, by another property of nodes
use Rattle.std.proofs.Common.{◌≡◌, inl, inr, ℕ, ◌+◌, ◌<◌, List, length, sym, ap, ◌∙◌, subst, slice_get, arith, Some}
use Rattle.mls_book.specs.declared.book.Node.{Node}
use Rattle.mls_automaton.specs.declared.automaton.Flow.{Flow}
use Rattle.mls_automaton.specs.declared.scheme.Scheme.{Scheme}
use Rattle.mls_automaton.specs.Automata.{Automaton, polarity_at}
use Rattle.mls_automaton.specs.Models.{IsClosed}
use Rattle.mls_solver.proofs.KeyOrder.{slice_get-below}
use Rattle.mls_solver.proofs.Taking.{slice_get-contains}
use Rattle.mls_deriv.specs.declared.claim.Put.{Put}
use Rattle.mls_deriv.specs.Pairs.{put_at}
use Rattle.mls_layout.specs.declared.layout.Places.{Places}
use Rattle.mls_layout.specs.LaidOut.{IsTypeLaidOut, place_of}
use Rattle.mls_layout.specs.Uses.{ArePuts}
use Rattle.mls_layout.proofs.EdgeVariables.{edge_puts}
use Rattle.mls_parts.specs.MetCopies.{IsCopyMet, IsOfNoBinder}
use Rattle.mls_parts.specs.declared.pose.Posing.{Posing}
use Rattle.mls_parts.specs.Posings.{binder_in}
use Rattle.mls_lines.specs.Puts.{ArePutsOfEdges, IsCopyIn, IsNodeOfCopy, IsPutOfEdge}
use Rattle.mls_lines.proofs.PutLists.{puts_hold, puts_there, puts_weaker}

module _ (b : Automaton) (closed : IsClosed b) (first : ℕ) (place copy : ℕ → ℕ) (IsNode : ℕ → ℕ → Type 0) (nodes : (s i : ℕ) → s < length b.states → IsNode s i → i ≡ place (copy s)) (puts : List Put) (stand : ArePutsOfEdges IsNode b.flows first puts) where
  pub let_put : (k : ℕ) (edge : Flow) → slice_get b.flows k ≡ Some edge → put_at puts (first + k) ≡ Some (place (copy edge.negative.0))
  let_put k edge e =
      let low : k < length b.flows = slice_get-below b.flows k edge e in
      let count : length puts ≡ length b.flows = stand.count in
      let w = puts_there (IsPutOfEdge IsNode b.flows first) first puts stand.each (first + k) (omega arith) (omega (arith, low, count)) in
      let at : w.2.0 ≡ k = omega (arith, w.2.3) in
      let both : Some w.2.1 ≡ Some edge = sym w.2.2 ∙ (ap (slice_get b.flows) at ∙ e) in
      let same : w.2.1 ≡ edge = cc in
      let is : w.0 ≡ place (copy w.2.1.negative.0) = nodes w.2.1.negative.0 w.0 (closed.negative w.2.1 (slice_get-contains b.flows w.2.0 w.2.1 w.2.2)).in_range w.2.4 in
      w.1 ∙ ap Some (is ∙ ap (λ (f : Flow). place (copy f.negative.0)) same)

  pub let_puts : (old book : List Node) (type_place : ℕ → ℕ) (laid : IsTypeLaidOut old b first book type_place) (IsPlace : ℕ → Type 0) → ((s : ℕ) → IsPlace s)
      → ArePuts book IsPlace (polarity_at b) laid.layout.variables place copy puts
  let_puts old book type_place laid IsPlace all = edge_puts b closed old book first type_place laid IsPlace all place copy puts let_put

  pub let_puts_low : (book : List Node) → ((s : ℕ) → place s < length book) → (x n : ℕ) → put_at puts x ≡ Some n → n < length book
  let_puts_low book low x n e =
      let w = puts_hold (IsPutOfEdge IsNode b.flows first) first puts stand.each x n e in
      let at : n ≡ place (copy w.1.negative.0) = nodes w.1.negative.0 n (closed.negative w.1 (slice_get-contains b.flows w.0 w.1 w.2)).in_range w.4 in
      subst (λ m. m < length book) (sym at) (low (copy w.1.negative.0))

-- the node of the copy of a state, where the copies of the states of no binder stand from one on
pub node_of_copy : (a : Automaton) (p : Posing) (known : Scheme) (copy : ℕ → ℕ) → IsCopyMet a (binder_in p) known copy → (from : ℕ)
    → ((s : ℕ) → s < length known.automaton.states → IsOfNoBinder known s → copy s ≡ from + s) → (places : Places) (s i : ℕ) → s < length known.automaton.states
    → IsNodeOfCopy places p known from s i → i ≡ place_of places (copy s)
node_of_copy a p known copy met from plain places s i low (c, is_copy, is) = is ∙ ap (place_of places) (go is_copy)
  where
    go : IsCopyIn p known from s c → c ≡ copy s
    go (inl (entry, there, at, c_is)) = c_is ∙ (sym (met.bound entry there) ∙ ap copy at)
    go (inr (none, c_is)) = c_is ∙ sym (plain s low none)

-- what is put in for edges, by another property of nodes
pub edges_weaker : (b : Automaton) → IsClosed b → (IsNode Other : ℕ → ℕ → Type 0) → ((s n : ℕ) → s < length b.states → IsNode s n → Other s n) → (first : ℕ) (puts : List Put)
    → ArePutsOfEdges IsNode b.flows first puts → ArePutsOfEdges Other b.flows first puts
edges_weaker b closed IsNode Other weaker first puts it = record {
  count = it.count;
  each =
      puts_weaker (IsPutOfEdge IsNode b.flows first) (IsPutOfEdge Other b.flows first)
      (λ x n w. (w.0, w.1, w.2, w.3, weaker w.1.negative.0 n (closed.negative w.1 (slice_get-contains b.flows w.0 w.1 w.2)).in_range w.4)) first puts it.each;
}
