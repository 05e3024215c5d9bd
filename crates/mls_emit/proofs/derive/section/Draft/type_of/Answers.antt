use Rattle.std.proofs.Common.{◌≡◌, ◌≤◌, ap, arith, length}
use Rattle.std.proofs.lemmas.Result.{IfOk-weaker}
use Rattle.mls_solver.proofs.Answered.{always_ok}
use Rattle.mls_lines.specs.PlainLines.{HaveLowPlaces}
use Rattle.mls_allowed.specs.MadeFirsts.{IsFirstLaid}
use Rattle.mls_emit.specs.declared.derive.section.Draft.{Draft}
use Rattle.mls_emit.proofs.derive.section.Draft.type_of.Goals as goal

-- no variable is taken for the whole term
pub returns-in-None-clause-variable : goal.returns-in-None-clause-variable
returns-in-None-clause-variable c =
    let same : c.whole_type.new.self.variable ≡ c.args.self.now.variable = ap (λ (d : Draft). d.variable) c.whole_type.ensures.kept in
    always_ok c.whole_type.result (c.args.self.now.variable ≤ c.whole_type.new.self.variable) (omega (arith, same))

-- the places of the type of a first part
pub returns-in-Some-clause-places : goal.returns-in-Some-clause-places
returns-in-Some-clause-places c =
    IfOk-weaker c.first_type.result (λ at. IsFirstLaid c.args.self.now.book c.args.self.now.variable c.first_type.new.self.book c.first_type.new.self.variable at.scheme at.places)
    (λ at. HaveLowPlaces (length c.first_type.new.self.book) at.places) (λ at laid. laid.inside) c.first_type.ensures.laid
