use Rattle.std.proofs.Common.{◌≡◌, Some, rules, sym, subst}
use Rattle.std.specs.BTreeMap.{get}
use Rattle.std.specs.Ordering.{nat_cmp}
use Rattle.std.specs.Cmp.Lexicographic.{slice_cmp}
use Rattle.mls_iface.specs.declared.signature.SigEntry.{SigEntry}
use Rattle.mls_iface.specs.steps.Comparing.{IsHeld, IsNarrow}
use Rattle.std.proofs.lemmas.Result.{IfOk-weaker}
use Rattle.mls_iface.specs.Signatures.{IsEntry}
use Rattle.mls_iface.proofs.EntryNumbers.{held, entry_read}
use Rattle.mls_iface.proofs.matching.failure.Goals as goal

pub against-requires-clause-entry : goal.against-requires-clause-entry
against-requires-clause-entry c =
    let e : SigEntry = c.index-entries-number.result in
    let at : get (slice_cmp nat_cmp) c.args.numbers.now c.args.val.now.name ≡ Some c.in-Some.number.now = search rules in
    entry_read e (subst IsEntry (sym c.index-entries-number.is) (c.requires.entries c.in-Some.number.now e (c.requires.numbers.found c.args.val.now.name c.in-Some.number.now at).0))

pub returns-in-Some : goal.returns-in-Some
returns-in-Some c =
    let e : SigEntry = c.index-entries-number.result in
    let at : get (slice_cmp nat_cmp) c.args.numbers.now c.args.val.now.name ≡ Some c.in-Some.number.now = search rules in
    IfOk-weaker c.against.result (IsNarrow e c.args.val.now) (IsHeld c.args.entries.now c.args.val.now)
    (λ o narrow. held c.args.entries.now c.args.numbers.now c.requires.numbers c.args.val.now c.in-Some.number.now e o at c.index-entries-number.is narrow)
    c.against.ensures
