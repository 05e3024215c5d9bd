use Rattle.std.proofs.Common.{◌≡◌, ◌+◌, inl, [], ◌∷◌, ◌++◌, List, drop, length, get_or, refl, subst, sym, ap, ◌∙◌, rules}
use Rattle.std.specs.BTreeMap.{get}
use Rattle.std.specs.Ordering.{nat_cmp}
use Rattle.std.proofs.lemmas.List.{drop_more, take_rest}
use Rattle.mls_book.specs.Schemes.{Scheme}
use Rattle.mls_term.specs.declared.term.TermNode.{TermNode}
use Rattle.mls_deriv.specs.declared.derivation.SectionLine.{SectionLine}
use Rattle.mls_deriv.specs.declared.derivation.SectionLine.TheVariants as line
use Rattle.mls_deriv.specs.declared.derivation.StepLine.{StepLine}
use Rattle.mls_deriv.specs.Sections.{at_start, schemes_of}
use Rattle.mls_deriv.specs.Steps.{Before, IsAllowed, puts_of, pairs_of}
use Rattle.mls_deriv.specs.inner.Walks.{HasCome}
use Rattle.mls_deriv.proofs.Walks.{come_let, come_step}
use Rattle.mls_deriv.proofs.walk.take_line.Goals as goal

pub returns-in_ok-note_let-in-Let : goal.returns-in_ok-note_let-in-Let
returns-in_ok-note_let-in-Let c =
    let lines : List SectionLine = c.args.section.now.lines in
    let b : Before = at_start (schemes_of (c.args.declared.now ++ c.args.earlier.now)) c.args.binding.now c.args.section.now in
    let first : SectionLine = line.Let c.in-Let.k c.in-Let.number in
    let rest : List SectionLine = drop (c.args.i + 1) lines in
    let is : get_or lines c.args.i first ≡ first = search rules in
    let at : drop c.args.i lines ≡ first ∷ rest = drop_more lines c.args.i first c.requires.low ∙ ap (λ (l : SectionLine). l ∷ rest) is in
    come_let b lines c.in-Let.k c.in-Let.number rest c.args.steps.now (get nat_cmp c.args.lets.now) (get nat_cmp c.note_let.new.lets)
    (subst (λ ls. HasCome b lines ls c.args.steps.now (get nat_cmp c.args.lets.now)) at c.requires.come) c.in_ok-note_let-in-Let.ensures

pub returns-in_ok-push-in-Step : goal.returns-in_ok-push-in-Step
returns-in_ok-push-in-Step c =
    let own = c.in-Step.own in
    let lines : List SectionLine = c.args.section.now.lines in
    let b : Before = at_start (schemes_of (c.args.declared.now ++ c.args.earlier.now)) c.args.binding.now c.args.section.now in
    let first : SectionLine = line.Step own in
    let rest : List SectionLine = drop (c.args.i + 1) lines in
    let is : get_or lines c.args.i first ≡ first = search rules in
    let at : drop c.args.i lines ≡ first ∷ rest = drop_more lines c.args.i first c.requires.low ∙ ap (λ (l : SectionLine). l ∷ rest) is in
    let come : HasCome b lines (first ∷ rest) c.args.steps.now (get nat_cmp c.args.lets.now) = subst (λ ls. HasCome b lines ls c.args.steps.now (get nat_cmp c.args.lets.now)) at c.requires.come in
    let globals : List Scheme = schemes_of (c.args.declared.now ++ c.args.earlier.now) in
    let at_nodes : List TermNode → Before = λ ns. record { term_nodes = ns; globals = globals; book = c.args.section.now.nodes; steps = c.args.steps.now; lets = come.given } in
    let Allowed : List TermNode → List SectionLine → Type 0 = λ ns ls. IsAllowed (at_nodes ns) (puts_of (drop (c.args.i + 1) ls)) (pairs_of (drop (c.args.i + 1) ls)) own in
    let found : Allowed c.as_slice-nodes.result.now c.as_slice-lines.result.now =
    subst (λ (s : StepLine). IsAllowed (at_nodes c.as_slice-nodes.result.now) (puts_of (drop (c.args.i + 1) c.as_slice-lines.result.now)) (pairs_of (drop (c.args.i + 1) c.as_slice-lines.result.now)) s) c.get-step.ensures
    (subst (λ ls. IsAllowed (at_nodes c.as_slice-nodes.result.now) (puts_of ls) (pairs_of ls) c.get-step.result.now) (take_rest c.as_slice-lines.result.now (c.args.i + 1))
    ((c.in_ok-is_allowed-in-Step.ensures come.given come.lets_are).0 c.if-not-branch.false)) in
    let allowed : Allowed c.args.binding.now.term.nodes lines =
    subst (λ ns. Allowed ns lines) c.as_slice-nodes.ensures (subst (λ ls. Allowed c.as_slice-nodes.result.now ls) c.as_slice-lines.ensures found) in
    subst (λ ss. HasCome b lines rest ss (get nat_cmp c.args.lets.now)) (sym (c.in_ok-push-in-Step.ensures ∙ ap (λ (s : StepLine). c.args.steps.now ++ s ∷ []) c.get-step.ensures))
    (come_step b lines own rest c.args.steps.now (get nat_cmp c.args.lets.now) come allowed)

pub returns-then-not-branch : goal.returns-then-not-branch
returns-then-not-branch c = λ n.
    let own = c.in-Step.own in
    let lines : List SectionLine = c.args.section.now.lines in
    let b : Before = at_start (schemes_of (c.args.declared.now ++ c.args.earlier.now)) c.args.binding.now c.args.section.now in
    let first : SectionLine = line.Step own in
    let rest : List SectionLine = drop (c.args.i + 1) lines in
    let is : get_or lines c.args.i first ≡ first = search rules in
    let at : drop c.args.i lines ≡ first ∷ rest = drop_more lines c.args.i first c.requires.low ∙ ap (λ (l : SectionLine). l ∷ rest) is in
    let come : HasCome b lines (first ∷ rest) c.args.steps.now (get nat_cmp c.args.lets.now) = subst (λ ls. HasCome b lines ls c.args.steps.now (get nat_cmp c.args.lets.now)) at c.requires.come in
    let globals : List Scheme = schemes_of (c.args.declared.now ++ c.args.earlier.now) in
    let at_nodes : List TermNode → Before = λ ns. record { term_nodes = ns; globals = globals; book = c.args.section.now.nodes; steps = c.args.steps.now; lets = come.given } in
    let Allowed : List TermNode → List SectionLine → Type 0 = λ ns ls. IsAllowed (at_nodes ns) (puts_of (drop (c.args.i + 1) ls)) (pairs_of (drop (c.args.i + 1) ls)) own in
    let not_allowed : Allowed c.args.binding.now.term.nodes lines → ⊥ = λ allowed.
    let here : Allowed c.as_slice-nodes.result.now c.as_slice-lines.result.now =
    subst (λ ls. Allowed c.as_slice-nodes.result.now ls) (sym c.as_slice-lines.ensures) (subst (λ ns. Allowed ns lines) (sym c.as_slice-nodes.ensures) allowed) in
    let yes =
    (c.in_ok-is_allowed-in-Step.ensures come.given come.lets_are).1
    (subst (λ ls. IsAllowed (at_nodes c.as_slice-nodes.result.now) (puts_of ls) (pairs_of ls) c.get-step.result.now) (sym (take_rest c.as_slice-lines.result.now (c.args.i + 1)))
    (subst (λ (s : StepLine). IsAllowed (at_nodes c.as_slice-nodes.result.now) (puts_of (drop (c.args.i + 1) c.as_slice-lines.result.now)) (pairs_of (drop (c.args.i + 1) c.as_slice-lines.result.now)) s) (sym c.get-step.ensures) here)) in
    let no = c.if-not-branch.true in
    absurd (cc) in
    come.refused n (n + length c.args.steps.now) (inl (not_allowed, refl))
