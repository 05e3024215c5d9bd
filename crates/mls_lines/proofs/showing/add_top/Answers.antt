use Rattle.std.proofs.Common.{◌≡◌, ◌<◌, List, ℕ, length, sym, subst, All, Some}
use Rattle.mls_automaton.specs.declared.automaton.Polarity.TheVariants.{Negative}
use Rattle.mls_scheme.specs.steps.Layers.{AreAtoms}
use Rattle.mls_scheme.proofs.Layers.{found-low}
use Rattle.mls_lines.proofs.ShownTops.{top_shown}
use Rattle.mls_lines.proofs.showing.add_top.Goals as goal

pub add_atoms-requires : goal.add_atoms-requires
add_atoms-requires c =
    subst (λ (xs : List ℕ). All (λ j. j < length c.args.book.now) xs) (sym c.as_slice.ensures)
    (found-low c.args.book.now c.requires.book.book c.args.top c.in_ok-atoms.atoms.items c.requires.top c.in_ok-atoms.ensures.atoms)

pub returns-clause-shown : goal.returns-clause-shown
returns-clause-shown c =
    top_shown (c.args.sign ≡ Some Negative) c.args.book.now c.args.top c.as_slice.result.now c.args.showing.now c.add_atoms.new.showing
    (c.is_negative.ensures.0 c.if-not-is_negative.false) (subst (AreAtoms c.args.book.now c.args.top) (sym c.as_slice.ensures) c.in_ok-atoms.ensures.atoms) c.in_ok-add_atoms.ensures
