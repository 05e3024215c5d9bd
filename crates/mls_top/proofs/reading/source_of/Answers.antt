use Rattle.std.proofs.Common.{rules, refl, subst}
use Rattle.mls_grammar.specs.Modules.{IsModuleText}
use Rattle.mls_top.proofs.ImportsRead.{imports_distinct}
use Rattle.mls_top.proofs.SourcesRead.{text_learned, no_text_stops, bad_module_stops, bad_import_stops, source_learned, imports_stop, imports_learned, interfaces_of}
use Rattle.mls_top.proofs.Telling.{passed}
use Rattle.mls_top.proofs.reading.source_of.Goals as goal

pub returns-in_err-bytes-clause-refused : goal.returns-in_err-bytes-clause-refused
returns-in_err-bytes-clause-refused g c =
    passed c.from_residual-in_err-bytes.result c.in_err-bytes.field-0.0 _ c.from_residual-in_err-bytes.ensures.1
    (no_text_stops (g.S.Store.holdings c.args.store.now).files c.args.name.now c.as_str.result.now c.in_err-bytes.field-0.0 (search rules) c.in_err-bytes.ensures.refused)

pub returns-in_err-parsed-clause-refused : goal.returns-in_err-parsed-clause-refused
returns-in_err-parsed-clause-refused g c =
    let there = text_learned (g.S.Store.holdings c.args.store.now).files c.args.name.now c.as_str.result.now c.in_ok-bytes.bytes.items (search rules) c.in_ok-bytes.ensures.found in
    passed c.from_residual-in_err-parsed.result c.in_err-parsed.field-0.0 _ c.from_residual-in_err-parsed.ensures.1
    (bad_module_stops (g.S.Store.holdings c.args.store.now).files c.args.name.now c.in_ok-bytes.bytes.items there c.as_str-2.result.now c.as_slice.result.now c.in_err-parsed.field-0.0 (search rules) c.as_slice.ensures.value
    c.in_err-parsed.ensures.refused)

pub returns-in_err-parsed-clause-counted : goal.returns-in_err-parsed-clause-counted
returns-in_err-parsed-clause-counted g c =
    passed c.from_residual-in_err-parsed.result c.in_err-parsed.field-0.0 _ c.from_residual-in_err-parsed.ensures.1 (c.in_err-parsed.ensures.uncounted _ _)

pub imports_of-requires : goal.imports_of-requires
imports_of-requires g c = record { distinct = imports_distinct c.as_slice.result.now c.in_ok-parsed.parsed c.as_slice-2.result.now c.in_ok-parsed.ensures.module c.as_slice-2.ensures }

pub returns-in_err-imports-clause-refused : goal.returns-in_err-imports-clause-refused
returns-in_err-imports-clause-refused g c =
    let told = (g.S.Store.holdings c.args.store.now).files in
    let there = text_learned told c.args.name.now c.as_str.result.now c.in_ok-bytes.bytes.items (search rules) c.in_ok-bytes.ensures.found in
    passed c.from_residual-in_err-imports.result c.in_err-imports.field-0.0 _ c.from_residual-in_err-imports.ensures.1
    (bad_import_stops told c.args.name.now c.in_ok-bytes.bytes.items there c.in_ok-parsed.parsed (subst (λ t. IsModuleText t c.in_ok-parsed.parsed) c.as_slice.ensures.value c.in_ok-parsed.ensures.module) c.in_err-imports.field-0.0
    (imports_stop told (g.S.Store.holdings c.text_of.new.store).files c.as_slice-2.result.now c.in_ok-parsed.parsed.imports c.in_err-imports.field-0.0 c.in_ok-bytes.ensures.follows.files c.as_slice-2.ensures c.in_err-imports.ensures.refused))

pub returns-clause-read : goal.returns-clause-read
returns-clause-read g c =
    let told = (g.S.Store.holdings c.args.store.now).files in
    let there = text_learned told c.args.name.now c.as_str.result.now c.in_ok-bytes.bytes.items (search rules) c.in_ok-bytes.ensures.found in
    let is = subst (λ t. IsModuleText t c.in_ok-parsed.parsed) c.as_slice.ensures.value c.in_ok-parsed.ensures.module in
    source_learned told c.args.name.now c.in_ok-bytes.bytes.items there c.in_ok-parsed.parsed is c.in_ok-imports.imports
    (imports_learned told (g.S.Store.holdings c.text_of.new.store).files c.as_slice-2.result.now c.in_ok-parsed.parsed.imports c.in_ok-imports.imports c.in_ok-bytes.ensures.follows.files c.as_slice-2.ensures c.in_ok-imports.ensures.read)

pub returns-clause-module : goal.returns-clause-module
returns-clause-module g c = subst (λ t. IsModuleText t c.in_ok-parsed.parsed) c.as_slice.ensures.value c.in_ok-parsed.ensures.module

pub returns-clause-imports : goal.returns-clause-imports
returns-clause-imports g c =
    interfaces_of c.in_ok-parsed.parsed c.as_slice-2.result.now c.in_ok-imports.imports c.in_ok-imports.imports c.as_slice-2.ensures refl c.in_ok-imports.ensures.count c.in_ok-imports.ensures.valid
