use Rattle.std.proofs.Common.{◌≡◌, List, sym, subst, rules}
use Rattle.mls_term.specs.declared.term.Part.{Part}
use Rattle.mls_term.specs.declared.term.TermForm.{TermForm}
use Rattle.mls_term.specs.declared.term.TermForm.TheVariants.{Make}
use Rattle.mls_parts.specs.steps.Owners.{Gives, IsChildOf, IsPart}
use Rattle.mls_parts.proofs.Owners.{given_make}
use Rattle.mls_parts.proofs.split.own_children.Goals as goal

pub returns-in-Make : goal.returns-in-Make
returns-in-Make c =
    let is : c.args.form.now ≡ Make c.in-Make.parts = search rules in
    subst (λ (f : TermForm). Gives (IsChildOf f c.args.root) c.args.owners.now.items c.own_parts.new.owners.items) (sym is)
    (given_make c.args.root c.args.owners.now.items c.in-Make.parts c.own_parts.new.owners.items
    (subst (λ (parts : List Part). Gives (IsPart parts c.args.root) c.args.owners.now.items c.own_parts.new.owners.items) c.as_slice.ensures c.own_parts.ensures))
