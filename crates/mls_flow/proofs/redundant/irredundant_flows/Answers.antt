use Rattle.std.proofs.Common.{◌≡◌, ◌<◌, List, ap, sym, ◌∙◌, subst, length, All, Contains}
use Rattle.mls_automaton.proofs.Lists.{All-contained}
use Rattle.mls_automaton.specs.declared.automaton.Flow.{Flow}
use Rattle.mls_automaton.specs.Automata.{Automaton, HasTrueFlows}
use Rattle.mls_flow.specs.declared.standing.Claim.{Claim}
use Rattle.mls_flow.specs.Claims.{IsAmong, IsGreatest}
use Rattle.mls_flow.specs.Needs.{IsPair}
use Rattle.mls_flow.specs.Pairs.{Pairs}
use Rattle.mls_flow.proofs.Claimed.{claims-among}
use Rattle.mls_flow.proofs.Irredundant.{kept-irredundant, dropped-redundant}
use Rattle.mls_flow.proofs.Tabled.{pairs-so-far, all-pairs, wanted-known}
use Rattle.mls_flow.proofs.redundant.irredundant_flows.Goals as goal

edges-are : (a : Automaton) (edges : List Flow) → edges ≡ a.flows → HasTrueFlows a → All (IsPair a) edges
edges-are a edges same true-flows =
    subst (All (IsPair a)) (sym same)
    (All-contained (IsPair a) a.flows (λ f there. (true-flows.negative f there, true-flows.positive f there)))

pub number_each-requires : goal.number_each-requires
number_each-requires c = λ f there.
    subst (λ (v : Pairs). f.negative.0 < v.states) (sym c.in_ok-pairs.ensures)
    (subst (λ size. f.negative.0 < size) (sym c.len.ensures.len)
    (c.flows.ensures.ends.negative f (subst (λ fs. Contains fs f) c.flows.ensures.flows there)).in_range)

pub claims_of-requires-clause-pairs : goal.claims_of-requires-clause-pairs
claims_of-requires-clause-pairs c =
    pairs-so-far c.args.a.now c.flows.result.now (edges-are c.args.a.now c.flows.result.now c.flows.ensures.flows c.flows.ensures.ends)
    c.in_ok-pairs.pairs.list c.number_each.new.pairs.list (ap (λ (v : Pairs). v.list) c.in_ok-pairs.ensures)
    c.in_ok-number_each.ensures.extends

pub standing-requires : goal.standing-requires
standing-requires c =
    subst (λ cs. All (IsAmong (length cs)) cs) (sym c.as_slice.ensures.value)
    (claims-among c.args.a.now c.claims_of.new.pairs.list c.in_ok-claims.claims.items c.in_ok-claims.ensures.each c.in_ok-claims.ensures.all)

pub unsaid-requires-clause-known : goal.unsaid-requires-clause-known
unsaid-requires-clause-known c =
    subst (All (Contains c.claims_of.new.pairs.list)) c.flows.ensures.flows
    (wanted-known c.args.a.now c.flows.result.now (edges-are c.args.a.now c.flows.result.now c.flows.ensures.flows c.flows.ensures.ends)
    c.in_ok-pairs.pairs.list c.number_each.new.pairs.list (ap (λ (v : Pairs). v.list) c.in_ok-pairs.ensures)
    c.in_ok-number_each.ensures.extends c.claims_of.new.pairs.list c.in_ok-claims.ensures.extends c.in_ok-number_each.field-0
    c.in_ok-number_each.ensures.numbers)

pub returns-clause-kept : goal.returns-clause-kept
returns-clause-kept c =
    let edges = edges-are c.args.a.now c.flows.result.now c.flows.ensures.flows c.flows.ensures.ends in
    let empty = ap (λ (v : Pairs). v.list) c.in_ok-pairs.ensures in
    let list : List Flow = c.claims_of.new.pairs.list in
    let known = subst (All (Contains list)) c.flows.ensures.flows
    (wanted-known c.args.a.now c.flows.result.now edges c.in_ok-pairs.pairs.list c.number_each.new.pairs.list empty
    c.in_ok-number_each.ensures.extends list c.in_ok-claims.ensures.extends c.in_ok-number_each.field-0
    c.in_ok-number_each.ensures.numbers) in
    let pairs = all-pairs c.args.a.now c.flows.result.now edges c.in_ok-pairs.pairs.list c.number_each.new.pairs.list empty
    c.in_ok-number_each.ensures.extends list c.in_ok-claims.ensures.extends in
    kept-irredundant c.args.a.now c.requires.closed c.requires.deterministic list pairs c.in_ok-claims.claims.items
    c.in_ok-claims.ensures.each c.in_ok-claims.ensures.all c.in_ok-marks.marks.items
    (subst (λ cs. IsGreatest cs c.in_ok-marks.marks.items) c.as_slice.ensures.value c.in_ok-marks.ensures.greatest)
    known c.in_ok-kept.kept.items c.as_slice-2.result.now c.as_slice-3.result.now c.as_slice-2.ensures.value c.as_slice-3.ensures.value
    c.in_ok-kept.ensures

pub returns-clause-dropped : goal.returns-clause-dropped
returns-clause-dropped c =
    let edges = edges-are c.args.a.now c.flows.result.now c.flows.ensures.flows c.flows.ensures.ends in
    let empty = ap (λ (v : Pairs). v.list) c.in_ok-pairs.ensures in
    let list : List Flow = c.claims_of.new.pairs.list in
    let known = subst (All (Contains list)) c.flows.ensures.flows
    (wanted-known c.args.a.now c.flows.result.now edges c.in_ok-pairs.pairs.list c.number_each.new.pairs.list empty
    c.in_ok-number_each.ensures.extends list c.in_ok-claims.ensures.extends c.in_ok-number_each.field-0
    c.in_ok-number_each.ensures.numbers) in
    let pairs = all-pairs c.args.a.now c.flows.result.now edges c.in_ok-pairs.pairs.list c.number_each.new.pairs.list empty
    c.in_ok-number_each.ensures.extends list c.in_ok-claims.ensures.extends in
    dropped-redundant c.args.a.now c.requires.closed c.requires.deterministic list pairs c.in_ok-claims.claims.items
    c.in_ok-claims.ensures.each c.in_ok-claims.ensures.all c.in_ok-marks.marks.items
    (subst (λ cs. IsGreatest cs c.in_ok-marks.marks.items) c.as_slice.ensures.value c.in_ok-marks.ensures.greatest)
    known c.in_ok-kept.kept.items c.as_slice-2.result.now c.as_slice-3.result.now c.as_slice-2.ensures.value c.as_slice-3.ensures.value
    c.in_ok-kept.ensures
