use Rattle.std.proofs.Common.{◌≡◌, ◌∙◌, ◌+◌, ◌++◌, ◌∷◌, [], List, take, get_or, sym, subst, ap, rules}
use Rattle.mls_term.specs.declared.term.Part.{Part}
use Rattle.mls_parts.specs.steps.Owners.{Gives, IsPart}
use Rattle.std.proofs.lemmas.List.{take_more}
use Rattle.mls_parts.proofs.Owners.{given_parts}
use Rattle.mls_parts.proofs.split.own_parts.Goals as goal

pub loop-part-preserved : goal.loop-part-preserved
loop-part-preserved c =
    let parts : List Part = c.args.parts.now in
    let i = c.loop-part.part-index in
    let part : Part = c.part-item.result in
    let is : get_or parts i part ≡ part = search rules in
    let next : take (i + 1) parts ≡ take i parts ++ part ∷ [] = take_more parts i part c.loop-part-test.true ∙ ap (λ p. take i parts ++ p ∷ []) is in
    subst (λ (ps : List Part). Gives (IsPart ps c.args.root) c.args.owners.now.items c.own.new.owners.items) (sym next)
    (given_parts (take i parts) part c.args.root c.args.owners.now.items c.loop-part.owners.items c.own.new.owners.items c.loop-part.invariant c.own.ensures)
