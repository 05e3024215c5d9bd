use Rattle.std.proofs.Common.{◌≡◌, ℕ, sym, subst, take, get_or, All}
use Rattle.std.proofs.lemmas.List.{take_all, take_more}
use Rattle.std.proofs.lemmas.List.Elements.{All-push}
use Rattle.mls_automaton.specs.declared.automaton.Head.{Head}
use Rattle.mls_automaton.specs.Automata.{head_at}
use Rattle.mls_automaton.specs.Heads.{no_parts, parts_of}
use Rattle.mls_biunify.proofs.settlement.are_nothing.Goals as goal

pub loop-j-preserved : goal.loop-j-preserved
loop-j-preserved c =
    let P : ℕ → Type 0 = λ j. parts_of (head_at c.args.table.now.automaton j) ≡ no_parts in
    let i = c.loop-j.j-index in
    let members = c.args.members.now in
    subst (All P) (sym (take_more members i 0 c.loop-j-test.true)) (All-push P (take i members) (get_or members i 0) c.loop-j.invariant
    (subst (λ (h : Head). parts_of h ≡ no_parts) c.head.ensures.head (c.is_nothing.ensures.0 c.if-not-is_nothing.false)))

pub returns : goal.returns
returns c = λ yes.
    subst (All (λ j. parts_of (head_at c.args.table.now.automaton j) ≡ no_parts)) (take_all c.loop-j.j-index c.args.members.now c.loop-j-test.false) c.loop-j.invariant
