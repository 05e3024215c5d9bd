use Rattle.std.proofs.Common.{◌<◌, ℕ, List, Contains, inl, sym, subst}
use Rattle.mls_automaton.specs.Automata.{HasFlow, flow}
use Rattle.mls_automaton.proofs.Lists.{All-contained}
use Rattle.mls_solver.proofs.Marking.{Inserts-same}
use Rattle.mls_solver.proofs.Members.{partner_of_negative}
use Rattle.mls_solver.proofs.materialise.mark_partners.Goals as goal

pub mark_all-requires : goal.mark_all-requires
mark_all-requires c =
    All-contained (λ x. x < c.args.marks.now.limit) c.as_slice.result.now
    (λ x it.
    let member : Contains c.partners.result.now x = subst (λ (xs : List ℕ). Contains xs x) c.as_slice.ensures.members it in
    let edge : HasFlow c.args.a.now c.args.n.0 x = partner_of_negative c.args.a.now c.requires.closed c.args.n.0 x c.requires.negative.polarity ((c.partners.ensures.partners x).0 member) in
    subst (λ n. x < n) (sym c.requires.limit) (c.requires.closed.positive (flow c.args.n.0 x) edge).in_range)

pub returns : goal.returns
returns c =
    Inserts-same c.args.marks.now c.mark_all.new.marks (Contains c.as_slice.result.now) (HasFlow c.args.a.now c.args.n.0) c.mark_all.ensures
    (λ x it.
    partner_of_negative c.args.a.now c.requires.closed c.args.n.0 x c.requires.negative.polarity
    ((c.partners.ensures.partners x).0 (subst (λ (xs : List ℕ). Contains xs x) c.as_slice.ensures.members it)))
    (λ x it. subst (λ (xs : List ℕ). Contains xs x) (sym c.as_slice.ensures.members) ((c.partners.ensures.partners x).1 (inl it)))
