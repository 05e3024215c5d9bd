use Rattle.std.proofs.Common.{◌<◌, List, ℕ, length, sym, subst, All}
use Rattle.mls_scheme.proofs.Layers.{found-low}
use Rattle.mls_scheme.proofs.signs.visit.Goals as goal

pub push_layer-requires : goal.push_layer-requires
push_layer-requires c =
    subst (λ (xs : List ℕ). All (λ j. j < length c.args.book.now) xs) (sym c.as_slice.ensures)
    (found-low c.args.book.now c.requires.book.book c.args.task.node c.in_ok-atoms.atoms.items c.requires.task c.in_ok-atoms.ensures.atoms)
