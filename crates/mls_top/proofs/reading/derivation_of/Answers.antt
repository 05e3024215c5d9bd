use Rattle.std.proofs.Common.{rules}
use Rattle.mls_top.proofs.DerivationsRead.{no_derivation_stops, derivation_learned, bad_line_stops}
use Rattle.mls_top.proofs.Telling.{passed}
use Rattle.mls_top.proofs.reading.derivation_of.Goals as goal

pub returns-in_err-text-clause-refused : goal.returns-in_err-text-clause-refused
returns-in_err-text-clause-refused g c =
    passed c.from_residual-in_err-text.result c.in_err-text.field-0.0 _ c.from_residual-in_err-text.ensures.1
    (no_derivation_stops (g.S.Store.holdings c.args.store.now).files c.args.name.now c.as_str.result.now c.in_err-text.field-0.0 (search rules) c.in_err-text.ensures.refused)

pub returns-clause-read : goal.returns-clause-read
returns-clause-read g c =
    derivation_learned (g.S.Store.holdings c.args.store.now).files c.args.name.now c.as_str.result.now c.in_ok-text.text.items (search rules) c.in_ok-text.ensures.found
    c.as_slice.result.now c.as_slice.ensures.value c.derivation_in.result c.derivation_in.ensures.derivation

pub returns-clause-refused : goal.returns-clause-refused
returns-clause-refused g c =
    bad_line_stops (g.S.Store.holdings c.args.store.now).files c.args.name.now c.as_str.result.now c.in_ok-text.text.items (search rules) c.in_ok-text.ensures.found
    c.as_str-2.result.now c.as_slice.result.now (search rules) c.as_slice.ensures.value c.derivation_in.result c.derivation_in.ensures.refused
