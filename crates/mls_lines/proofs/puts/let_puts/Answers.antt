use Rattle.std.proofs.Common.{◌≡◌, ◌<◌, ◌+◌, ◌∷◌, ◌++◌, ◌∙◌, [], List, ℕ, length, get_or, sym, subst, ap, rules}
use Rattle.std.proofs.lemmas.List.{length_push}
use Rattle.std.proofs.lemmas.Option.{slice_get-get_or}
use Rattle.mls_automaton.specs.declared.automaton.Flow.{Flow}
use Rattle.mls_deriv.specs.declared.claim.Put.{Put}
use Rattle.mls_lines.specs.Puts.{ArePutsFrom, IsNodeOfCopy, IsPutOfEdge}
use Rattle.mls_lines.proofs.PutLists.{puts_push}
use Rattle.mls_lines.proofs.puts.let_puts.Goals as goal

pub loop-number-preserved : goal.loop-number-preserved
loop-number-preserved c =
    let known = c.args.scheme.now in
    let edges : List Flow = known.automaton.flows in
    let i : ℕ = c.loop-number.number in
    let none : Flow = record { negative = record { 0 = 0 }; positive = record { 0 = 0 } } in
    let IsNode = IsNodeOfCopy c.args.places.now c.args.posing.now known c.args.first in
    let Holds = IsPutOfEdge IsNode edges c.args.variable in
    let put : Put = record { variable = c.in_ok-next.next; node = c.in_ok-node.node.0 } in
    let low : i < length edges = subst (λ (es : List Flow). i < length es) c.flows-flow-items.ensures.flows c.loop-number-test.true in
    let next : c.in_ok-next.next ≡ c.args.variable + i = search rules in
    let count : length c.loop-number.puts ≡ i = c.loop-number.invariant.count in
    let node = subst (λ (es : List Flow). IsNode (get_or es i none).negative.0 put.node) c.flows-flow-items.ensures.flows (c.in_ok-node.ensures known c.in_ok-binders.ensures) in
    let holds : Holds put.variable put.node = (i, get_or edges i none, slice_get-get_or edges i none low, next, node) in
    let pushed : c.push.new.self ≡ c.loop-number.puts ++ put ∷ [] = c.in_ok-push.ensures.ok in record {
      count = ap (λ (ps : List Put). length ps) pushed ∙ (length_push c.loop-number.puts put ∙ ap (λ n. n + 1) count);
      each =
          subst (ArePutsFrom Holds c.args.variable) (sym pushed)
          (puts_push Holds c.args.variable c.loop-number.puts put c.loop-number.invariant.each (next ∙ ap (λ n. c.args.variable + n) (sym count)) holds);
    }
