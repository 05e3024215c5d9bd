use Rattle.std.proofs.Common.{◌+◌, List, Some, subst, ◌∙◌}
use Rattle.mls_book.specs.declared.book.Node.{Node}
use Rattle.mls_deriv.specs.BadLines.{HasLines}
use Rattle.mls_deriv.specs.inner.Readings.{IsUnfit}
use Rattle.mls_deriv.proofs.SectionsRead.{no_section, unfit_section, endless_section, good_section, none_unfit}
use Rattle.mls_deriv.proofs.section.read_section.Goals as goal

pub returns-in-None : goal.returns-in-None
returns-in-None c = no_section c.args.text.now (rw c.in-None.is at c.in_ok-read_head.ensures)

pub returns-in-Some-first_unfit : goal.returns-in-Some-first_unfit
returns-in-Some-first_unfit c =
    unfit_section c.args.text.now c.in-Some.head c.in_ok-run.run'.nodes.items c.in_ok-run.run'.rest.now c.in-Some-first_unfit.i c.in_ok-sum.field-0 (rw c.in-Some.is at c.in_ok-read_head.ensures) c.in_ok-run.ensures
    (subst (λ (ns : List Node). IsUnfit c.in-Some.head.read.book ns (Some c.in-Some-first_unfit.i)) c.as_slice.ensures.value c.in-Some-first_unfit.ensures) c.in_ok-sum.ensures

pub returns-in-None-behind : goal.returns-in-None-behind
returns-in-None-behind c =
    endless_section c.args.text.now c.in-Some.head c.in_ok-run.run'.nodes.items c.in_ok-run.run'.rest.now c.in_ok-found.found.lines c.in_ok-found.found.rest.now c.in_ok-sum-in-None-behind.field-0
    c.in_ok-sum-in-None-behind-2.field-0 (rw c.in-Some.is at c.in_ok-read_head.ensures) c.in_ok-run.ensures
    (none_unfit c.in-Some.head.read.book c.in_ok-run.run'.nodes.items c.first_unfit.result
    (subst (λ (ns : List Node). IsUnfit c.in-Some.head.read.book ns c.first_unfit.result) c.as_slice.ensures.value c.first_unfit.ensures) c.in_default.not-Some)
    (subst (λ k. HasLines k c.in_ok-run.run'.rest.now c.in_ok-found.found.lines c.in_ok-found.found.rest.now) (c.len-count.ensures ∙ c.in_ok-run.run'.nodes.ok.0) c.in_ok-found.ensures)
    c.in-None-behind.ensures (c.in_ok-sum-in-None-behind.ensures ∙ (λ i. (c.len-count.ensures ∙ c.in_ok-run.run'.nodes.ok.0) i + c.len.ensures i)) c.in_ok-sum-in-None-behind-2.ensures

pub returns : goal.returns
returns c =
    good_section c.args.text.now c.in-Some.head c.in_ok-run.run'.nodes.items c.in_ok-book_of.field-0 c.in_ok-run.run'.rest.now c.in_ok-found.found.lines c.in_ok-found.found.rest.now c.in-Some-behind.left.now
    c.in_ok-new.field-0 c.in_ok-list_of.field-0 (rw c.in-Some.is at c.in_ok-read_head.ensures) c.in_ok-run.ensures
    (none_unfit c.in-Some.head.read.book c.in_ok-run.run'.nodes.items c.first_unfit.result
    (subst (λ (ns : List Node). IsUnfit c.in-Some.head.read.book ns c.first_unfit.result) c.as_slice.ensures.value c.first_unfit.ensures) c.in_default.not-Some)
    (subst (λ k. HasLines k c.in_ok-run.run'.rest.now c.in_ok-found.found.lines c.in_ok-found.found.rest.now) (c.len-count.ensures ∙ c.in_ok-run.run'.nodes.ok.0) c.in_ok-found.ensures)
    c.in-Some-behind.ensures c.in_ok-new.ensures c.in_ok-list_of.ensures c.in_ok-book_of.ensures
