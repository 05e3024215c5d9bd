use Rattle.std.proofs.Common.{◌≡◌, ◌<◌, ◌∙◌, sym, subst, length}
use Rattle.std.proofs.lemmas.List.{get_or_default}
use Rattle.std.specs.Prelude.{◌↔◌, IsTrue, Contains, true, false}
use Rattle.mls_flow.specs.Claims.{kept_at}
use Rattle.mls_automaton.specs.Automata.{flow}
use Rattle.mls_flow.specs.Tables.{Table}
use Rattle.mls_flow.proofs.Tabled.{found-marked, none-marked}
use Rattle.mls_flow.proofs.table.FlowTable.has.Goals as goal

pub returns-in-None : goal.returns-in-None
returns-in-None c =
    let P : Table → Type 0 = λ t. IsTrue false ↔ Contains t.flows (flow c.args.negative.0 c.args.positive.0) in
    subst P c.self.view_is (
      λ e. let e : false ≡ true = e in absurd (cc),
      λ there. absurd (none-marked c.self.inside.pairs.list c.self.inside.marks.items c.args.negative.0 c.args.positive.0 (c.find.ensures.none c.in-None.is) there),
    )

pub returns-in-Some : goal.returns-in-Some
returns-in-Some c =
    let P : Table → Type 0 = λ t. IsTrue c.index.result.now ↔ Contains t.flows (flow c.args.negative.0 c.args.positive.0) in
    let pair =
    found-marked c.self.inside.pairs.list c.self.inside.marks.items c.args.negative.0 c.args.positive.0 c.in-Some.number c.in-Some.ensures.some c.in-Some.ensures.only in
    let low : c.in-Some.number < length c.self.inside.marks.items = subst (λ size. c.in-Some.number < size) (sym c.self.invariant) c.in-Some.ensures.some.0 in
    let mark : c.index.result.now ≡ kept_at c.self.inside.marks.items c.in-Some.number = c.index.ensures ∙ get_or_default c.self.inside.marks.items c.in-Some.number c.index.result.now false low in
    subst P c.self.view_is (λ e. pair.0 (sym mark ∙ e), λ there. mark ∙ pair.1 there)
