use Rattle.std.proofs.Common.{◌≡◌, take}
use Rattle.std.specs.List.{flat_map}
use Rattle.mls_automaton.specs.Automata.{head_at}
use Rattle.mls_print.specs.steps.Flat.{domain_in, codomain_in}
use Rattle.mls_print.proofs.join.joined_function.Given as goal

abbrev pub invariant-loop-s : goal.invariant-loop-s
invariant-loop-s l =
    (l.domain.items ≡ flat_map (λ s. domain_in (head_at l.automaton s).function) (take l.s-index l.set))
    × (l.codomain.items ≡ flat_map (λ s. codomain_in (head_at l.automaton s).function) (take l.s-index l.set))
