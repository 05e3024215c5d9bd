use Rattle.std.proofs.Common.{◌≡◌, ◌∙◌, ◌++◌, ◌∷◌, [], ℕ, List, true, false, ap, sym, subst, arith}
use Rattle.std.proofs.lemmas.Grind.{common_steps}
use Rattle.mls_book.specs.declared.book.Node.{Node}
use Rattle.mls_scheme.specs.steps.Layers.{atom_step, left_step, AreAtoms}
use Rattle.mls_scheme.proofs.Layers.{atom-alone, less-seen, look-less, look-new, look-seen, looked}
use Rattle.mls_scheme.proofs.layer.atoms_of.Goals as goal

pub loop-i-smaller : goal.loop-i-smaller
loop-i-smaller c = less-seen c.args.book.now c.requires.book.book c.loop-i.left.items c.pop.new.self.items c.in-Some.i c.in-Some.ensures.items

pub loop-i-preserved : goal.loop-i-preserved
loop-i-preserved c = (
  c.loop-i.invariant.0,
  look-seen c.args.book.now c.requires.book.book c.args.top c.loop-i.visits.members c.loop-i.found.items c.loop-i.left.items c.pop.new.self.items c.in-Some.i c.loop-i.invariant.1 c.in-Some.ensures.items
      (c.contains.ensures.0 c.if-not-contains.false),
)

pub loop-i-smaller-in-Continue-branch-3 : goal.loop-i-smaller-in-Continue-branch-3
loop-i-smaller-in-Continue-branch-3 c =
    look-less c.args.book.now c.requires.book.book c.loop-i.left.items c.pop.new.self.items c.look_at.new.left.items c.in-Some.i c.in-Some.ensures.items
    (c.in_ok-look_at.ensures.left ∙ ap (λ (x : Node). c.pop.new.self.items ++ left_step x) c.node-then-not-contains.ensures.node)

pub loop-i-preserved-in-Continue-branch-3 : goal.loop-i-preserved-in-Continue-branch-3
loop-i-preserved-in-Continue-branch-3 c = (
  c.in_ok-push.ensures.limit ∙ c.loop-i.invariant.0,
  look-new c.args.book.now c.requires.book.book c.args.top c.loop-i.visits.members c.loop-i.found.items c.loop-i.left.items c.pop.new.self.items c.push.new.self.members c.look_at.new.atoms.items c.look_at.new.left.items c.in-Some.i
      c.loop-i.invariant.1 c.in-Some.ensures.items
      (λ it.
      let yes : c.contains.result ≡ true = c.contains.ensures.1 it in
      let no : c.contains.result ≡ false = c.if-not-contains.true in
      absurd (cc))
      c.in_ok-push.ensures.members
      (c.in_ok-look_at.ensures.atoms ∙ ap (λ (x : Node). c.loop-i.found.items ++ atom_step c.in-Some.i x) c.node-then-not-contains.ensures.node)
      (c.in_ok-look_at.ensures.left ∙ ap (λ (x : Node). c.pop.new.self.items ++ left_step x) c.node-then-not-contains.ensures.node),
)

pub returns-clause-atoms : goal.returns-clause-atoms
returns-clause-atoms c =
    let empty : c.loop-i.left.items ≡ [] = grind (arith, common_steps) in
    looked c.args.book.now c.requires.book.book c.args.top c.loop-i.visits.members c.loop-i.found.items c.loop-i.left.items c.loop-i.invariant.1 empty

pub returns-then-is_atom-clause-atoms : goal.returns-then-is_atom-clause-atoms
returns-then-is_atom-clause-atoms c =
    subst (λ (xs : List ℕ). AreAtoms c.args.book.now c.args.top xs) (sym c.alone.ensures)
    (atom-alone c.args.book.now c.args.top (λ i. subst (λ (x : Node). atom_step i x ≡ i ∷ []) c.node.ensures.node (c.is_atom.ensures c.if-is_atom.true i)))
