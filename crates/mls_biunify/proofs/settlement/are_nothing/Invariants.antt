use Rattle.std.proofs.Common.{◌≡◌, take, All}
use Rattle.mls_automaton.specs.Automata.{head_at}
use Rattle.mls_automaton.specs.Heads.{no_parts, parts_of}
use Rattle.mls_biunify.proofs.settlement.are_nothing.Given as goal

-- the states before this one have nothing
abbrev pub invariant-loop-j : goal.invariant-loop-j
invariant-loop-j l = All (λ j. parts_of (head_at l.table.automaton j) ≡ no_parts) (take l.j-index l.members)
