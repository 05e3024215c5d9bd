use Rattle.std.proofs.Common.{◌/◌, length}
use Rattle.mls_automaton.specs.Automata.{head_at}
use Rattle.mls_automaton.specs.Heads.{parts_of}
use Rattle.mls_automaton.proofs.CombinedHeads.{front_ok, halves_ok, rest_ok}
use Rattle.mls_automaton.proofs.combine.+combined_head.Goals as goal

pub returns-clause-parts : goal.returns-clause-parts
returns-clause-parts n c =
    halves_ok c.args.polarity (λ j. parts_of (head_at c.args.a.now j)) (length c.args.members.now / 2) c.args.members.now (parts_of c.in_ok-first.first) (parts_of c.in_ok-second.second) c.unite_heads.result
    c.in_ok-first.ensures.parts c.in_ok-second.ensures.parts c.unite_heads.ensures.parts

-- one half has nothing
pub returns-then-are_nothing-clause-parts : goal.returns-then-are_nothing-clause-parts
returns-then-are_nothing-clause-parts n c =
    rest_ok c.args.polarity (λ j. parts_of (head_at c.args.a.now j)) (length c.args.members.now / 2) c.args.members.now c.combined_head.result
    (c.are_nothing.ensures c.if-are_nothing.true) c.combined_head.ensures.parts

pub returns-then-are_nothing-2-clause-parts : goal.returns-then-are_nothing-2-clause-parts
returns-then-are_nothing-2-clause-parts n c =
    front_ok c.args.polarity (λ j. parts_of (head_at c.args.a.now j)) (length c.args.members.now / 2) c.args.members.now c.combined_head-then-are_nothing-2.result
    (c.are_nothing-2.ensures c.if-are_nothing-2.true) c.combined_head-then-are_nothing-2.ensures.parts
