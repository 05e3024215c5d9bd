use Rattle.std.proofs.Common.{◌↔◌, ◌+◌, ◌<◌, ◌≤◌, Contains, sym, subst, rules, length, take, get_or}
use Rattle.std.proofs.lemmas.List.{take_all, get_or_default}
use Rattle.mls_automaton.specs.Automata.{IsPartner}
use Rattle.mls_print.specs.steps.Variables.{HasPartner}
use Rattle.mls_print.proofs.VariableNumbers.{partners_more}
use Rattle.mls_print.proofs.variables.partners_of.Goals as goal

pub loop-s-preserved : goal.loop-s-preserved
loop-s-preserved c = λ j.
    let low : c.loop-s.s-index < length c.args.set.now = search rules in
    subst (λ xs. Contains xs j ↔ HasPartner c.args.automaton.now (take (c.loop-s.s-index + 1) c.args.set.now) j) (sym c.in_ok-extend_from_slice.ensures.items)
    (partners_more c.args.automaton.now c.args.set.now c.loop-s.s-index (get_or c.args.set.now c.loop-s.s-index 0) c.loop-s.partners.items c.as_slice.result.now low (get_or_default c.args.set.now c.loop-s.s-index 0 (get_or c.args.set.now c.loop-s.s-index 0) low) c.loop-s.invariant
    (λ j. subst (λ xs. Contains xs j ↔ IsPartner c.args.automaton.now (get_or c.args.set.now c.loop-s.s-index 0) j) (sym c.as_slice.ensures.members) (c.partners.ensures.partners j)) j)

pub returns : goal.returns
returns c = λ j.
    let over : length c.args.set.now ≤ c.loop-s.s-index = search rules in
    subst (λ xs. Contains c.loop-s.partners.items j ↔ HasPartner c.args.automaton.now xs j) (take_all c.loop-s.s-index c.args.set.now over) (c.loop-s.invariant j)
