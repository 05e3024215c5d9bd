use Rattle.std.proofs.Common.{◌≡◌, ◌+◌, ◌<◌, ℕ, suc, List, length, get_or, Some, rules, subst, arith, ◌∙◌}
use Rattle.std.proofs.lemmas.List.{get_or_default}
use Rattle.std.specs.BTreeMap.{Updates}
use Rattle.std.specs.Ordering.{nat_cmp}
use Rattle.std.specs.Cmp.Lexicographic.{slice_cmp}
use Rattle.mls_iface.specs.declared.signature.SigEntry.{SigEntry}
use Rattle.mls_iface.specs.steps.Comparing.{AreNumbers}
use Rattle.mls_iface.proofs.EntryNumbers.{numbers_more}
use Rattle.mls_iface.proofs.matching.numbers_of.Goals as goal

pub loop-number-preserved : goal.loop-number-preserved
loop-number-preserved c =
    let entries : List SigEntry = c.args.entries.now in
    let n : ℕ = c.loop-number.number in
    let e : SigEntry = c.index-entries-number.result in
    let low : n < length entries = search rules in
    let is : (d : SigEntry) → e ≡ get_or entries n d = λ d. c.index-entries-number.is ∙ get_or_default entries n e d low in
    let updates : Updates (slice_cmp nat_cmp) c.loop-number.numbers c.insert.new.self c.in_ok-copy_of.field-0 (Some n) = search rules in
    let more : suc n ≡ n + 1 = omega arith in
    subst (λ n. AreNumbers n entries c.insert.new.self) more
    (numbers_more n entries c.loop-number.numbers c.insert.new.self e is
    (subst (λ x. Updates (slice_cmp nat_cmp) c.loop-number.numbers c.insert.new.self x (Some n)) c.in_ok-copy_of.ensures updates)
    c.loop-number.invariant)
