use Rattle.std.proofs.Common.{refl}
use Rattle.mls_scheme.proofs.ReadStates.{read-made}
use Rattle.mls_scheme.proofs.read.scheme_of_read.Goals as goal

pub returns-clause-scheme : goal.returns-clause-scheme
returns-clause-scheme c =
    (read-made c.args.read.now c.requires.read c.requires.polarised c.in_ok-signs.signs.items c.as_slice.result.now c.as_slice-2.result.now c.in_ok-signs.ensures c.as_slice.ensures.value c.as_slice-2.ensures.value
    c.in_ok-automaton.automaton (record { automaton = c.edges_of.new.automaton; env = c.new.result; root = record { 0 = c.args.read.now.root.0 } }) c.in_ok-automaton.ensures c.in_ok-edges_of.ensures.states c.in_ok-edges_of.ensures.flows refl c.new.ensures).0

pub returns-clause-equivalent : goal.returns-clause-equivalent
returns-clause-equivalent c =
    (read-made c.args.read.now c.requires.read c.requires.polarised c.in_ok-signs.signs.items c.as_slice.result.now c.as_slice-2.result.now c.in_ok-signs.ensures c.as_slice.ensures.value c.as_slice-2.ensures.value
    c.in_ok-automaton.automaton (record { automaton = c.edges_of.new.automaton; env = c.new.result; root = record { 0 = c.args.read.now.root.0 } }) c.in_ok-automaton.ensures c.in_ok-edges_of.ensures.states c.in_ok-edges_of.ensures.flows refl c.new.ensures).1

pub returns-clause-book : goal.returns-clause-book
returns-clause-book c =
    (read-made c.args.read.now c.requires.read c.requires.polarised c.in_ok-signs.signs.items c.as_slice.result.now c.as_slice-2.result.now c.in_ok-signs.ensures c.as_slice.ensures.value c.as_slice-2.ensures.value
    c.in_ok-automaton.automaton (record { automaton = c.edges_of.new.automaton; env = c.new.result; root = record { 0 = c.args.read.now.root.0 } }) c.in_ok-automaton.ensures c.in_ok-edges_of.ensures.states c.in_ok-edges_of.ensures.flows refl c.new.ensures).2
