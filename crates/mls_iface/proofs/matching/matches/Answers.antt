use Rattle.std.proofs.Common.{◌≡◌, ◌<◌, ◌≤◌, length, get_or, None, subst, rules}
use Rattle.mls_iface.specs.steps.Comparing.{IsHeld}
use Rattle.mls_iface.proofs.MatchedFronts.{all_matched, one_more, first_to_fail}
use Rattle.mls_iface.proofs.matching.matches.Goals as goal

pub returns-in-Some : goal.returns-in-Some
returns-in-Some c =
    let low : c.loop-val.val-index < length c.args.interface.now.vals = search rules in
    let here : c.val-item.result ≡ get_or c.args.interface.now.vals c.loop-val.val-index c.val-item.result = search rules in
    first_to_fail c.args.signature.now.entries c.args.interface.now.vals c.loop-val.val-index c.loop-val.invariant c.val-item.result low here c.in-Some.answer
    (subst (IsHeld c.args.signature.now.entries c.val-item.result) c.in-Some.is
    (subst (λ es. IsHeld es c.val-item.result c.in_ok-answer.field-0) c.as_slice-entries.ensures c.in_ok-answer.ensures))

pub loop-val-preserved : goal.loop-val-preserved
loop-val-preserved c =
    let low : c.loop-val.val-index < length c.args.interface.now.vals = search rules in
    let here : c.val-item.result ≡ get_or c.args.interface.now.vals c.loop-val.val-index c.val-item.result = search rules in
    let none : c.in_ok-answer.field-0 ≡ None = search rules in
    one_more c.args.signature.now.entries c.args.interface.now.vals c.loop-val.val-index c.loop-val.invariant c.val-item.result low here
    (subst (IsHeld c.args.signature.now.entries c.val-item.result) none
    (subst (λ es. IsHeld es c.val-item.result c.in_ok-answer.field-0) c.as_slice-entries.ensures c.in_ok-answer.ensures))

pub returns : goal.returns
returns c =
    let past : length c.args.interface.now.vals ≤ c.loop-val.val-index = search rules in
    all_matched c.args.signature.now.entries c.args.interface.now.vals c.loop-val.val-index c.loop-val.invariant past
