use Rattle.std.proofs.Common.{◌≡◌, true, false, ◌+◌, ◌++◌, ◌∙◌, List, length, subst, sym, ap}
use Rattle.mls_deriv.specs.declared.derivation.SectionLine.{SectionLine}
use Rattle.mls_deriv.specs.Sections.{at_start, schemes_of, HasRefused, a_step, the_end}
use Rattle.mls_deriv.specs.Steps.{Before}
use Rattle.mls_deriv.specs.inner.Walks.{AreChecked}
use Rattle.mls_deriv.proofs.walk.check_section.Goals as goal

pub returns-then-not-branch : goal.returns-then-not-branch
returns-then-not-branch c = λ n.
    let lines : List SectionLine = c.args.section.now.lines in
    let b : Before = at_start (schemes_of (c.args.declared.now ++ c.args.earlier.now)) c.args.binding.now c.args.section.now in
    a_step c.args.read.now c.requires.head
    (subst (λ m. HasRefused b n lines (n + m)) (sym c.len.ensures) (subst (AreChecked b lines c.check_lines.new.steps) c.if-not-branch.true c.in_ok-check_lines.ensures n))

pub returns-then-not-is_end : goal.returns-then-not-is_end
returns-then-not-is_end c = λ n.
    let lines : List SectionLine = c.args.section.now.lines in
    let b : Before = at_start (schemes_of (c.args.declared.now ++ c.args.earlier.now)) c.args.binding.now c.args.section.now in
    let checked : AreChecked b lines c.check_lines.new.steps true = subst (AreChecked b lines c.check_lines.new.steps) c.if-not-branch.false c.in_ok-check_lines.ensures in
    the_end c.args.read.now c.requires.head checked.0
    (λ e. absurd (let yes : c.is_end.result ≡ true = c.is_end.ensures.1 e in let no : c.is_end.result ≡ false = c.if-not-is_end.true in cc))
    (ap (λ m. n + m) (c.len-then-not-is_end.ensures ∙ ap length checked.1))
