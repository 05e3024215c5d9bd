use Rattle.std.proofs.Common.{◌⊎◌, ℕ, List, [], subst, sym, get_or, take, Contains}
use Rattle.std.specs.Prelude.{◌↔◌}
use Rattle.std.proofs.lemmas.List.Elements.{All-contains}
use Rattle.mls_automaton.specs.declared.automaton.Polarity.TheVariants.{Negative}
use Rattle.mls_automaton.specs.Automata.{HasFlow, IsState}
use Rattle.mls_solver.specs.steps.Numbers.{ByOne}
use Rattle.mls_solver.proofs.Relating.{element}
use Rattle.mls_solver.proofs.Settling.{grow-none, grow-more, grow-all, grow-then, ends-partners, ends-all}
use Rattle.mls_solver.proofs.settle.ends.Goals as goal

pub loop-m-init : goal.loop-m-init
loop-m-init c = subst (λ (xs : List ℕ). (j : ℕ) → Contains xs j ↔ Contains [] j ⊎ ByOne (take 0 c.args.members.now) (HasFlow c.args.a.now) j) (sym c.new-all.ensures) (grow-none (HasFlow c.args.a.now) [] c.args.members.now)

pub partners-requires : goal.partners-requires
partners-requires c = (All-contains (IsState c.args.a.now Negative) c.args.members.now (get_or c.args.members.now c.loop-m.m-index 0) c.requires.negative (element c.args.members.now c.loop-m.m-index c.loop-m-test.true)).in_range

pub loop-m-preserved : goal.loop-m-preserved
loop-m-preserved c =
    let m : ℕ = get_or c.args.members.now c.loop-m.m-index 0 in
    let state : IsState c.args.a.now Negative m = All-contains (IsState c.args.a.now Negative) c.args.members.now m c.requires.negative (element c.args.members.now c.loop-m.m-index c.loop-m-test.true) in
    grow-more (HasFlow c.args.a.now) [] c.args.members.now c.loop-m.m-index c.loop-m-test.true c.loop-m.all c.add_all.new.set c.loop-m.invariant
    (grow-then c.loop-m.all c.add_all.new.set c.as_slice.result.now (HasFlow c.args.a.now m) c.in_ok-add_all.ensures
    (ends-partners c.args.a.now c.requires.closed m state.polarity c.partners.result.now c.as_slice.result.now c.partners.ensures.partners c.as_slice.ensures.members))

pub returns : goal.returns
returns c =
    ends-all c.args.a.now c.args.members.now c.loop-m.all
    (grow-all (HasFlow c.args.a.now) [] c.args.members.now c.loop-m.m-index c.loop-m-test.false c.loop-m.all c.loop-m.invariant)
