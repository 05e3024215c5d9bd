use Rattle.std.proofs.Common.{◌≡◌, ◌<◌, ◌≤◌, ℕ, List, All, length, sym, subst, arith}
use Rattle.mls_automaton.specs.declared.scheme.Scheme.{Scheme}
use Rattle.mls_print.specs.steps.Progress.{IsLaidOut}
use Rattle.mls_print.specs.steps.Writing.{HasStateBelow}
use Rattle.mls_print.proofs.PrintedText.{plan, is_plan, laid_out_is_printed}
use Rattle.mls_print.proofs.OneLines.{printed_is_one_line}
use Rattle.mls_print.proofs.ReadsBack.{printed_reads_back}
use Rattle.mls_print.proofs.print.print_scheme.Goals as goal

pub text_of-requires-clause-states : goal.text_of-requires-clause-states
text_of-requires-clause-states c =
    let s : Scheme = c.args.s.now in
    let order : List ℕ = c.in_ok-order.order.states.items in
    let planned = is_plan s c.requires.scheme order c.in_ok-order.ensures.walked c.in_ok-table.table c.in_ok-order.ensures.numbered.low c.in_ok-table.ensures.table in
    let it : IsLaidOut (plan s c.requires.scheme order c.in_ok-order.ensures.walked) c.in_ok-layout.layout = c.in_ok-layout.ensures (plan s c.requires.scheme order c.in_ok-order.ensures.walked) planned in
    subst (λ n. All (HasStateBelow n) c.in_ok-layout.layout.pieces.items) (sym c.len.ensures.len) it.states

pub text_of-requires-clause-sets : goal.text_of-requires-clause-sets
text_of-requires-clause-sets c =
    let s : Scheme = c.args.s.now in
    let order : List ℕ = c.in_ok-order.order.states.items in
    let planned = is_plan s c.requires.scheme order c.in_ok-order.ensures.walked c.in_ok-table.table c.in_ok-order.ensures.numbered.low c.in_ok-table.ensures.table in
    let it : IsLaidOut (plan s c.requires.scheme order c.in_ok-order.ensures.walked) c.in_ok-layout.layout = c.in_ok-layout.ensures (plan s c.requires.scheme order c.in_ok-order.ensures.walked) planned in
    it.sets

pub returns-clause-text : goal.returns-clause-text
returns-clause-text c =
    let s : Scheme = c.args.s.now in
    let order : List ℕ = c.in_ok-order.order.states.items in
    let planned = is_plan s c.requires.scheme order c.in_ok-order.ensures.walked c.in_ok-table.table c.in_ok-order.ensures.numbered.low c.in_ok-table.ensures.table in
    let it : IsLaidOut (plan s c.requires.scheme order c.in_ok-order.ensures.walked) c.in_ok-layout.layout = c.in_ok-layout.ensures (plan s c.requires.scheme order c.in_ok-order.ensures.walked) planned in
    laid_out_is_printed s c.requires.scheme order c.in_ok-order.ensures.walked c.in_ok-layout.layout it c.in_ok-text.text.items c.in_ok-text.ensures

pub returns-clause-reads_back : goal.returns-clause-reads_back
returns-clause-reads_back c =
    let len : c.in_ok-text.text.len ≡ length c.in_ok-text.text.items = c.in_ok-text.text.ok.0 in
    let room : c.in_ok-text.text.len ≤ c.in_ok-text.text.cap = c.in_ok-text.text.ok.1 in
    let small : c.in_ok-text.text.cap < 9223372036854775808 = c.in_ok-text.text.small in
    let short : length c.in_ok-text.text.items < 18446744073709551616 = omega arith in
    printed_reads_back c.args.s.now c.in_ok-text.text.items c.requires.scheme c.read_labels.ensures c.requires.env (returns-clause-text c) short

pub returns-clause-one_line : goal.returns-clause-one_line
returns-clause-one_line c =
    let len : c.in_ok-text.text.len ≡ length c.in_ok-text.text.items = c.in_ok-text.text.ok.0 in
    let room : c.in_ok-text.text.len ≤ c.in_ok-text.text.cap = c.in_ok-text.text.ok.1 in
    let small : c.in_ok-text.text.cap < 9223372036854775808 = c.in_ok-text.text.small in
    let short : length c.in_ok-text.text.items < 18446744073709551616 = omega arith in
    printed_is_one_line c.args.s.now c.in_ok-text.text.items c.requires.scheme c.read_labels.ensures c.requires.env (returns-clause-text c) short

pub returns-clause-named : goal.returns-clause-named
returns-clause-named c = c.read_labels.ensures
