use Rattle.std.proofs.Common.{◌<◌, ◌∙◌, length, rules, sym}
use Rattle.mls_modules.proofs.ValidSignatures.{signatures_are_valid}
use Rattle.mls_top.proofs.SignedModules.{unsigned_stops, valid_at, asked_import, asked_own, own_stops}
use Rattle.mls_top.proofs.SitesTold.{read_at}
use Rattle.mls_top.proofs.Telling.{passed}
use Rattle.mls_top.proofs.check.check.Goals as goal

pub returns-in_err-found-clause-stop : goal.returns-in_err-found-clause-stop
returns-in_err-found-clause-stop g c =
    passed c.from_residual.result c.in_err-found.field-0.0 _ c.from_residual.ensures.1
    (unsigned_stops c.args.name.now _ _ c.in_err-found.field-0.0 c.in_err-found.ensures.refused c.in_err-found.ensures.counted)

pub compared-requires-clause-entries : goal.compared-requires-clause-entries
compared-requires-clause-entries g c = signatures_are_valid c.in_ok-found.found.source.parsed c.in_ok-found.found.source.imports c.in_ok-found.found.signature c.in_ok-found.ensures.source c.in_ok-found.ensures.signature

pub compared-requires-clause-own : goal.compared-requires-clause-own
compared-requires-clause-own g c =
    let low : c.in-Some.number < length c.as_slice-in-Some.result.now = search rules in
    valid_at c.in_ok-found.found.source.imports c.in-Some.number c.index-as_slice-number.result c.in_ok-found.ensures.imports.valid
    (read_at c.in_ok-found.found.source.imports c.as_slice-in-Some.result.now c.in-Some.number c.index-as_slice-number.result c.as_slice-in-Some.ensures low c.index-as_slice-number.is)

pub returns-in-Some-clause-answer : goal.returns-in-Some-clause-answer
returns-in-Some-clause-answer g c =
    let low : c.in-Some.number < length c.as_slice-in-Some.result.now = search rules in
    asked_import c.args.name.now _ _ c.in_ok-found.found c.in_ok-found.ensures.signed c.as_slice.result.now c.as_slice.ensures c.in-Some.number (sym c.number_of.ensures ∙ c.in-Some.is) c.index-as_slice-number.result
    (read_at c.in_ok-found.found.source.imports c.as_slice-in-Some.result.now c.in-Some.number c.index-as_slice-number.result c.as_slice-in-Some.ensures low c.index-as_slice-number.is)
    c.in_ok-compared-in-Some.field-0 c.in_ok-compared-in-Some.ensures

pub returns-in_err-own-in-None-clause-stop : goal.returns-in_err-own-in-None-clause-stop
returns-in_err-own-in-None-clause-stop g c =
    passed c.from_residual-in_err-own-in-None.result c.in_err-own-in-None.field-0.0 _ c.from_residual-in_err-own-in-None.ensures.1
    (own_stops c.args.name.now _ _ c.in_ok-found.found c.in_ok-found.ensures.signed c.as_slice.result.now c.as_slice.ensures (sym c.number_of.ensures ∙ c.in-None.is) _ c.in_ok-found.ensures.follows
    c.in_err-own-in-None.field-0.0 c.in_err-own-in-None.ensures.refused c.in_err-own-in-None.ensures.counted)

pub compared-requires-in-None-clause-entries : goal.compared-requires-in-None-clause-entries
compared-requires-in-None-clause-entries g c = signatures_are_valid c.in_ok-found.found.source.parsed c.in_ok-found.found.source.imports c.in_ok-found.found.signature c.in_ok-found.ensures.source c.in_ok-found.ensures.signature

pub returns-clause-answer : goal.returns-clause-answer
returns-clause-answer g c =
    asked_own c.args.name.now _ _ c.in_ok-found.found c.in_ok-found.ensures.signed c.as_slice.result.now c.as_slice.ensures (sym c.number_of.ensures ∙ c.in-None.is) _ c.in_ok-found.ensures.follows
    c.in_ok-own-in-None.own c.in_ok-own-in-None.ensures.read c.in_ok-compared-in-None.field-0 c.in_ok-compared-in-None.ensures
