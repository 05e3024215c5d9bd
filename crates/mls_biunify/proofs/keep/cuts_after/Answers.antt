use Rattle.std.proofs.Common.{◌≡◌, true, false, get_or}
use Rattle.std.proofs.lemmas.List.Elements.{All-contains, Contains-get_or}
use Rattle.mls_automaton.specs.declared.state_set.StateId.{StateId}
use Rattle.mls_automaton.specs.Automata.{HasFlow}
use Rattle.mls_solver.proofs.Relating.{take-all}
use Rattle.mls_biunify.proofs.KeptTables.{shortened-all, shortened-more, shortened-none}
use Rattle.mls_biunify.proofs.keep.cuts_after.Goals as goal

pub loop-s-init : goal.loop-s-init
loop-s-init c = shortened-none (HasFlow c.args.table.now.automaton) c.args.found.now c.args.kept.now c.new-cuts.result.items c.new-cuts.ensures.items

pub after-requires : goal.after-requires
after-requires c =
    All-contains (λ (s : StateId). get_or c.args.table.now.there s.0 false ≡ true) c.args.kept.now (get_or c.args.kept.now c.loop-s.s-index (record { 0 = 0 })) c.requires
    (Contains-get_or c.args.kept.now c.loop-s.s-index (record { 0 = 0 }) c.loop-s-test.true)

pub loop-s-preserved : goal.loop-s-preserved
loop-s-preserved c =
    shortened-more (HasFlow c.args.table.now.automaton) c.args.found.now c.args.kept.now c.loop-s.s-index c.loop-s-test.true c.after.result.now c.after.ensures.partners c.loop-s.cuts.items c.add_cut.new.cuts.items c.loop-s.invariant c.in_ok-add_cut.ensures

pub returns : goal.returns
returns c = shortened-all (HasFlow c.args.table.now.automaton) c.args.found.now c.args.kept.now c.loop-s.s-index c.loop-s.cuts.items (take-all c.args.kept.now c.loop-s.s-index c.loop-s-test.false) c.loop-s.invariant
