use Rattle.std.proofs.Common.{◌<◌, List, ℕ, length, map, sym, subst, All}
use Rattle.mls_book.specs.Books.{node_at}
use Rattle.mls_automaton.specs.Heads.{combined, parts_of, IsSameSet, Parts}
use Rattle.mls_scheme.specs.ReadAutomata.{atom_parts, atoms}
use Rattle.mls_scheme.proofs.CombinedAll.{same-trans}
use Rattle.mls_scheme.proofs.Layers.{found-low}
use Rattle.mls_scheme.proofs.SameMembers.{same-members}
use Rattle.mls_scheme.proofs.states.top_head.Goals as goal

pub layer_head-requires-clause-atoms : goal.layer_head-requires-clause-atoms
layer_head-requires-clause-atoms c =
    subst (λ (xs : List ℕ). All (λ j. j < length c.args.book.now) xs) (sym c.as_slice.ensures)
    (found-low c.args.book.now c.requires.book.book c.args.i c.in_ok-found.found.items c.requires.i c.in_ok-found.ensures.atoms)

pub returns-clause-same : goal.returns-clause-same
returns-clause-same c =
    let parts : ℕ → Parts = λ j. atom_parts (node_at c.args.book.now j) in
    let there : List ℕ = atoms c.args.book.now c.args.i in
    let same : IsSameSet c.as_slice.result.now there = subst (λ (xs : List ℕ). IsSameSet xs there) (sym c.as_slice.ensures) c.in_ok-found.ensures.atoms.same in
    same-trans (parts_of c.in_ok-head.head) (combined c.args.p (map parts c.as_slice.result.now)) (combined c.args.p (map parts there))
    c.in_ok-head.ensures.same (same-members c.args.p parts c.as_slice.result.now there same)
