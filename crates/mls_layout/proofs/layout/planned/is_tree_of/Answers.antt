use Rattle.std.proofs.Common.{◌≡◌, rules, ap, sym, ◌∙◌}
use Rattle.std.specs.Prelude.{◌==◌}
use Rattle.std.specs.Bool.{Decides}
use Rattle.std.proofs.lemmas.Bool.Decides.{Decides-eqb}
use Rattle.std.proofs.lemmas.Slice.Eq.{slice_eq-Decides}
use Rattle.mls_book.specs.declared.book.NodeId.{NodeId}
use Rattle.mls_layout.specs.steps.Planned.{planned_tree}
use Rattle.mls_layout.proofs.layout.planned.is_tree_of.Goals as goal

same_id : (a b : NodeId) → Decides (a.0 == b.0) (a ≡ b)
same_id a b = (λ e. ap (λ n. record { 0 = n }) ((Decides-eqb a.0 b.0).0 e), λ e. (Decides-eqb a.0 b.0).1 (ap (λ (id : NodeId). id.0) e))

pub returns-then-eq : goal.returns-then-eq
returns-then-eq c same =
    let polarity : c.args.tree.now.polarity ≡ c.args.polarity = search rules in
    let members : c.as_slice.result.now ≡ c.args.members.now = (slice_eq-Decides same_id c.as_slice.result.now c.args.members.now c.eq-then-eq.result c.eq-then-eq.ensures).0 same in
    let all : c.args.tree.now.members ≡ c.args.members.now = sym c.as_slice.ensures ∙ members in
    λ n. planned_tree (polarity n) (all n)
