use Rattle.std.proofs.Common.{rules, ◌≡◌, ◌≢◌, ◌+◌, List, [], ◌++◌, sym, ap, subst, ◌∙◌}
use Rattle.mls_deriv.specs.declared.derivation.Section.{Section}
use Rattle.mls_deriv.specs.Spellings.{section_text}
use Rattle.mls_deriv.specs.Texts.{IsSectionForm}
use Rattle.mls_deriv.specs.BadLines.{no_head}
use Rattle.mls_deriv.proofs.ReadParts.{HaveRead, read_more, read_bad}
use Rattle.mls_deriv.proofs.read.read_derivation.Goals as goal

pub returns-in-None-clause-bad : goal.returns-in-None-clause-bad
returns-in-None-clause-bad c = no_head c.in-None.ensures

pub returns-in-Bad-clause-bad : goal.returns-in-Bad-clause-bad
returns-in-Bad-clause-bad c =
    let full : c.loop-rest.rest.now ≢ [] = search rules in
    read_bad c.args.text.now c.loop-rest.sections c.loop-rest.rest.now c.loop-rest.number c.in-Bad.k c.in_ok-sum-in-Bad.field-0 c.loop-rest.invariant full
    (rw c.in-Bad.is at c.in_ok-k.ensures) c.in_ok-sum-in-Bad.ensures

pub loop-rest-preserved : goal.loop-rest-preserved
loop-rest-preserved c =
    let good : IsSectionForm c.in-Good.section × (c.loop-rest.rest.now ≡ section_text c.in-Good.section ++ c.in-Good.left.now) = rw c.in-Good.is at c.in_ok-k.ensures in
    subst (λ (ss : List Section). HaveRead c.args.text.now ss c.in-Good.left.now c.in_ok-number-in-Good.number) (sym c.in_ok-push-in-Good.ensures.ok)
    (read_more c.args.text.now c.loop-rest.rest.now c.in-Good.left.now c.loop-rest.sections c.in-Good.section c.loop-rest.number c.in_ok-number-in-Good.number c.loop-rest.invariant good.0 good.1
    (c.in_ok-number-in-Good.ensures ∙ ap (λ k. c.loop-rest.number + k) c.in_ok-line_count-in-Good.ensures))
