use Rattle.std.proofs.Common.{◌≡◌, ◌<◌, List, ℕ, length, sym, subst, All, Some}
use Rattle.mls_scheme.specs.steps.Layers.{AreAtoms}
use Rattle.mls_scheme.proofs.Layers.{found-low}
use Rattle.mls_scheme.proofs.UsedVariables.{uses-top}
use Rattle.mls_scheme.proofs.uses.add_top.Goals as goal

pub add_uses-requires-clause-atoms : goal.add_uses-requires-clause-atoms
add_uses-requires-clause-atoms c =
    subst (λ (xs : List ℕ). All (λ j. j < length c.args.book.now) xs) (sym c.as_slice.ensures)
    (found-low c.args.book.now c.requires.book.book c.args.i c.in_ok-atoms.atoms.items c.requires.i c.in_ok-atoms.ensures.atoms)

pub returns-clause-uses : goal.returns-clause-uses
returns-clause-uses c =
    uses-top (c.args.sign ≡ Some c.args.p) c.args.book.now c.args.i c.as_slice.result.now c.args.uses.now.items c.add_uses.new.uses.items
    (c.has_sign.ensures.0 c.if-not-has_sign.false) (subst (AreAtoms c.args.book.now c.args.i) (sym c.as_slice.ensures) c.in_ok-atoms.ensures.atoms) c.in_ok-add_uses.ensures
