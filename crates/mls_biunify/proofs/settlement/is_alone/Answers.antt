use Rattle.std.proofs.Common.{◌≡◌, get_or, sym}
use Rattle.std.proofs.lemmas.Cmp.{ranked}
use Rattle.std.specs.declared.cmp.Ordering.TheVariants.{Equal}
use Rattle.mls_automaton.specs.Automata.{head_at}
use Rattle.mls_automaton.specs.Heads.{parts_of}
use Rattle.mls_biunify.proofs.LoneHeads.{lone_head}
use Rattle.mls_biunify.proofs.settlement.is_alone.Goals as goal

pub returns-then-are_nothing : goal.returns-then-are_nothing
returns-then-are_nothing c = λ yes p.
    let is : get_or c.args.members.now c.in-Ok.at 0 ≡ c.args.s.0 = ranked (get_or c.args.members.now c.in-Ok.at 0) c.args.s.0 Equal (sym (c.in-Ok.ensures.ok 0)) in
    lone_head p (λ j. parts_of (head_at c.args.table.now.automaton j)) c.in-Ok.at c.args.s.0 c.args.members.now c.in-Ok.ensures.bound is
    (c.are_nothing.ensures c.if-are_nothing.true) (c.are_nothing-then-are_nothing.ensures yes)
