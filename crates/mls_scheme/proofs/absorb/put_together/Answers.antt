use Rattle.std.proofs.Common.{List, sym, subst, All}
use Rattle.mls_automaton.specs.Models.{IsClosed}
use Rattle.mls_automaton.proofs.Appends.{closed-appended}
use Rattle.mls_scheme.specs.declared.environments.Shared.{Shared}
use Rattle.mls_scheme.specs.steps.Meeting.{IsPairIn}
use Rattle.mls_scheme.proofs.PutTogether.{front-after, front-behind, pairs-in}
use Rattle.mls_scheme.proofs.absorb.put_together.Goals as goal

pub returns-in_err-place-clause-front : goal.returns-in_err-place-clause-front
returns-in_err-place-clause-front c = front-behind c.args.automaton.now c.args.from.now.automaton c.append.new.self c.in_ok-up.ensures.ok

pub returns-in_err-raised-clause-front : goal.returns-in_err-raised-clause-front
returns-in_err-raised-clause-front c = front-behind c.args.automaton.now c.args.from.now.automaton c.append.new.self c.in_ok-up.ensures.ok

pub returns-in_err-met-clause-front : goal.returns-in_err-met-clause-front
returns-in_err-met-clause-front c = front-behind c.args.automaton.now c.args.from.now.automaton c.append.new.self c.in_ok-up.ensures.ok

pub add_states-requires-clause-closed : goal.add_states-requires-clause-closed
add_states-requires-clause-closed c =
    subst IsClosed (sym c.in_ok-up.ensures.ok) (closed-appended c.args.automaton.now c.args.from.now.automaton c.requires.closed c.requires.from.automaton)

pub add_states-requires-clause-pairs : goal.add_states-requires-clause-pairs
add_states-requires-clause-pairs c =
    subst (λ (pairs : List Shared). All (IsPairIn c.append.new.self) pairs) (sym c.as_slice.ensures.value)
    (pairs-in c.args.automaton.now c.args.from.now c.args.env.now c.requires.closed c.requires.env c.requires.from c.append.new.self c.in_ok-raised.raised c.in_ok-up.up c.in_ok-met.met.shared.items
    c.in_ok-up.ensures.ok c.in_ok-up.ensures.number c.in_ok-raised.ensures c.in_ok-met.ensures.pairs)

pub returns-in_err-add_states-clause-front : goal.returns-in_err-add_states-clause-front
returns-in_err-add_states-clause-front c = front-after c.args.automaton.now c.args.from.now.automaton c.append.new.self c.add_states.new.automaton c.in_ok-up.ensures.ok c.add_states.ensures.front

pub returns-clause-front : goal.returns-clause-front
returns-clause-front c = front-after c.args.automaton.now c.args.from.now.automaton c.append.new.self c.add_states.new.automaton c.in_ok-up.ensures.ok c.add_states.ensures.front
