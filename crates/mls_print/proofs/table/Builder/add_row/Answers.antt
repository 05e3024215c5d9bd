use Rattle.std.proofs.Common.{◌≡◌, ◌∙◌, ◌<◌, ℕ, List, All, sym, ap, subst, length}
use Rattle.mls_automaton.specs.Automata.{Automaton, IsState}
use Rattle.mls_print.specs.Shown.{set_head}
use Rattle.mls_print.specs.steps.Building.{MakesRow, IsNamed, polarity_in}
use Rattle.mls_print.specs.steps.Registers.{sets_in, set_of}
use Rattle.mls_print.proofs.Rows.{next_visited, visited_low, visited_states, right_polarity, row_added, begins_kept}
use Rattle.mls_print.proofs.table.Builder.add_row.Goals as goal

pub polarity_of-polarity-requires : goal.polarity_of-polarity-requires
polarity_of-polarity-requires c =
    let a : Automaton = c.args.automaton.now in
    let order : List ℕ = c.args.order.now.states.items in
    let set : List ℕ = set_of (sets_in c.args.self.now.register) (length c.args.self.now.rows.items) in
    let is : c.as_slice.result.now ≡ set = c.as_slice.ensures.value ∙ c.in_ok-set.ensures in
    subst (All (λ s. s < length a.states)) (sym is) (visited_low a order set (next_visited a c.requires.closed order c.requires.order c.args.self.now c.requires.building c.requires.left))

pub row_of-requires-clause-states : goal.row_of-requires-clause-states
row_of-requires-clause-states c =
    let a : Automaton = c.args.automaton.now in
    let order : List ℕ = c.args.order.now.states.items in
    let set : List ℕ = set_of (sets_in c.args.self.now.register) (length c.args.self.now.rows.items) in
    let is : c.as_slice.result.now ≡ set = c.as_slice.ensures.value ∙ c.in_ok-set.ensures in
    let is' : c.as_slice-2.result.now ≡ set = c.as_slice-2.ensures.value ∙ c.in_ok-set.ensures in
    let polarity : c.polarity_of-polarity.result ≡ polarity_in a set = c.polarity_of-polarity.ensures ∙ ap (polarity_in a) is in
    let visited = next_visited a c.requires.closed order c.requires.order c.args.self.now c.requires.building c.requires.left in
    subst (λ p. All (IsState a p) c.as_slice-2.result.now) (sym polarity)
    (subst (All (IsState a (polarity_in a set))) (sym is') (visited_states a order (polarity_in a set) set (right_polarity a order set visited)))

pub row_of-requires-clause-below : goal.row_of-requires-clause-below
row_of-requires-clause-below c =
    let a : Automaton = c.args.automaton.now in
    let order : List ℕ = c.args.order.now.states.items in
    let set : List ℕ = set_of (sets_in c.args.self.now.register) (length c.args.self.now.rows.items) in
    let is : c.as_slice-2.result.now ≡ set = c.as_slice-2.ensures.value ∙ c.in_ok-set.ensures in
    subst (All (λ s. s < length a.states)) (sym is) (visited_low a order set (next_visited a c.requires.closed order c.requires.order c.args.self.now c.requires.building c.requires.left))

pub returns-clause-building : goal.returns-clause-building
returns-clause-building c =
    let a : Automaton = c.args.automaton.now in
    let order : List ℕ = c.args.order.now.states.items in
    let set : List ℕ = set_of (sets_in c.args.self.now.register) (length c.args.self.now.rows.items) in
    let is : c.as_slice.result.now ≡ set = c.as_slice.ensures.value ∙ c.in_ok-set.ensures in
    let is' : c.as_slice-2.result.now ≡ set = c.as_slice-2.ensures.value ∙ c.in_ok-set.ensures in
    let polarity : c.polarity_of-polarity.result ≡ polarity_in a set = c.polarity_of-polarity.ensures ∙ ap (polarity_in a) is in
    let makes : MakesRow a order (polarity_in a set) set (sets_in c.args.self.now.register) (sets_in c.row_of.new.register) c.in_ok-row.row =
    subst (λ p. MakesRow a order p set (sets_in c.args.self.now.register) (sets_in c.row_of.new.register) c.in_ok-row.row) polarity
    (subst (λ xs. MakesRow a order c.polarity_of-polarity.result xs (sets_in c.args.self.now.register) (sets_in c.row_of.new.register) c.in_ok-row.row) is' c.in_ok-row.ensures.row) in
    row_added a c.requires.closed order c.requires.order c.args.self.now c.requires.building c.requires.left c.row_of.new.register c.in_ok-row.row c.push.new.self c.in_ok-row.ensures.register makes c.in_ok-push.ensures.items

pub returns-clause-begins : goal.returns-clause-begins
returns-clause-begins c = λ root begins.
    begins_kept (IsNamed (set_head c.args.automaton.now c.polarity_of-polarity.result c.as_slice-2.result.now)) root c.args.self.now c.row_of.new.register c.push.new.self c.in_ok-row.ensures.row.adds begins
