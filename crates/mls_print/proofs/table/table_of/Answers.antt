use Rattle.std.proofs.Common.{◌≡◌, ◌∙◌, sym, subst, rules, length}
use Rattle.std.proofs.lemmas.List.{length-map}
use Rattle.mls_print.specs.steps.Registers.{sets_in}
use Rattle.mls_print.specs.steps.Tables.{IsTable}
use Rattle.mls_print.proofs.Rows.{finished}
use Rattle.mls_print.proofs.Visited.{walk-closed}
use Rattle.mls_print.proofs.table.table_of.Goals as goal

pub loop-init : goal.loop-init
loop-init c = (
  c.in_ok-builder.ensures.building c.args.automaton.now c.args.order.now.states.items (record { state = c.requires.root; visited = (walk-closed c.args.automaton.now c.args.root.0 c.args.order.now.states.items c.requires.walked).0 }),
  c.in_ok-builder.ensures.begins,
)

pub returns-then-len-clause-table : goal.returns-then-len-clause-table
returns-then-len-clause-table c =
    let b = c.loop.builder in
    let count : length b.rows.items ≡ length b.register.sets.items = search rules in
    let full : length b.rows.items ≡ length (sets_in b.register) = count ∙ sym (length-map b.register.sets.items (λ set. set.items)) in
    subst (IsTable c.args.automaton.now c.args.order.now.states.items c.args.root.0) (sym c.into_table.ensures)
    (finished c.args.automaton.now c.args.order.now.states.items c.args.root.0 b c.loop.invariant.0 c.loop.invariant.1 full).1

pub add_row-requires-clause-order : goal.add_row-requires-clause-order
add_row-requires-clause-order c = (walk-closed c.args.automaton.now c.args.root.0 c.args.order.now.states.items c.requires.walked).1
