use Rattle.std.proofs.Common.{◌≡◌, ◌<◌, ◌+◌, ◌∷◌, drop, length, subst, ◌∙◌, ap, List, rules, get_or}
use Rattle.std.proofs.lemmas.List.{drop_more}
use Rattle.mls_deriv.specs.declared.derivation.SectionLine.{SectionLine}
use Rattle.mls_deriv.specs.inner.Tables.{IsTableWith, Adds}
use Rattle.mls_deriv.proofs.Tables.{with_added}
use Rattle.mls_deriv.proofs.table.table_of.Goals as goal

pub loop-line-preserved : goal.loop-line-preserved
loop-line-preserved c =
    let lines : List SectionLine = c.args.lines.now in
    let line : SectionLine = c.line-item.result in
    let low : c.loop-line.line-index < length lines = search rules in
    let is : get_or lines c.loop-line.line-index line ≡ line = search rules in
    let at : drop c.loop-line.line-index lines ≡ line ∷ drop (c.loop-line.line-index + 1) lines = drop_more lines c.loop-line.line-index line low ∙ ap (λ (l : SectionLine). l ∷ drop (c.loop-line.line-index + 1) lines) is in
    with_added line (drop (c.loop-line.line-index + 1) lines) lines c.loop-line.table c.add.new.self
    (subst (Adds line c.loop-line.table c.add.new.self) c.if-not-branch.false c.in_ok-add.ensures)
    (subst (λ ls. IsTableWith ls c.loop-line.table lines) at c.loop-line.invariant)
