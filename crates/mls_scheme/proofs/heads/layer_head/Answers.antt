use Rattle.std.proofs.Common.{◌∙◌, ap, sym, subst, All, List}
use Rattle.mls_automaton.specs.declared.automaton.Head.{Head}
use Rattle.mls_automaton.specs.Heads.{parts_of, IsSameParts}
use Rattle.mls_scheme.specs.steps.Heads.{atom_head_of}
use Rattle.mls_scheme.proofs.AtomHeads.{heads-labels, heads-parts, one-atom}
use Rattle.mls_scheme.proofs.CombinedAll.{all_parts, HasLabels}
use Rattle.mls_scheme.proofs.heads.layer_head.Goals as goal

pub combine_all-requires : goal.combine_all-requires
combine_all-requires c = record {
  labels = subst (λ (hs : List Head). All HasLabels hs) (sym c.in_ok-heads.ensures) (heads-labels c.args.book.now c.requires.book c.args.atoms.now);
}

pub returns-clause-same : goal.returns-clause-same
returns-clause-same c =
    subst (IsSameParts (parts_of c.in_ok-head.head)) (ap (all_parts c.args.p) c.in_ok-heads.ensures ∙ heads-parts c.args.p c.args.book.now c.args.atoms.now) c.in_ok-head.ensures.same

pub returns-then-atoms-eq1-clause-labels : goal.returns-then-atoms-eq1-clause-labels
returns-then-atoms-eq1-clause-labels c =
    (one-atom c.args.p c.args.book.now c.args.atoms.now 0 c.in_ok-alone.alone c.requires.book c.if-atoms-eq1.true
    (c.in_ok-alone.ensures ∙ ap atom_head_of c.node.ensures.node)).0

pub returns-then-atoms-eq1-clause-same : goal.returns-then-atoms-eq1-clause-same
returns-then-atoms-eq1-clause-same c =
    (one-atom c.args.p c.args.book.now c.args.atoms.now 0 c.in_ok-alone.alone c.requires.book c.if-atoms-eq1.true
    (c.in_ok-alone.ensures ∙ ap atom_head_of c.node.ensures.node)).1
