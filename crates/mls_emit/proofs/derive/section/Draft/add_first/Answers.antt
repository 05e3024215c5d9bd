use Rattle.std.proofs.Common.{List, Some, subst}
use Rattle.std.specs.BTreeMap.{Updates}
use Rattle.std.specs.Ordering.{nat_cmp}
use Rattle.mls_book.specs.declared.book.NodeId.{NodeId}
use Rattle.mls_deriv.specs.declared.derivation.BinderNode.{BinderNode}
use Rattle.mls_lines.specs.PlainParts.{type_binders}
use Rattle.mls_parts.proofs.SplitParts.{own_type}
use Rattle.mls_emit.proofs.derive.section.Draft.add_first.Goals as goal

-- the type may be copied wherever its binders are
pub returns-clause-first : goal.returns-clause-first
returns-clause-first c = record {
  knows = record {
    updates = c.in_ok-insert-2.ensures.updates;
    own = own_type c.args.at.scheme c.requires.scheme c.type_env.ensures.rise c.requires.separate;
    rise = c.type_env.ensures.rise;
  };
  firsts =
      subst (λ (root : NodeId). Updates nat_cmp c.args.self.now.firsts c.insert.new.self c.args.k (Some (record { step = c.args.step; root = root; env = type_binders c.args.at.scheme c.args.at.places; variable = c.args.variable }))) c.node.ensures
      (subst (λ (env : List BinderNode). Updates nat_cmp c.args.self.now.firsts c.insert.new.self c.args.k (Some (record { step = c.args.step; root = c.node.result; env = env; variable = c.args.variable }))) c.in_ok-type_env.ensures.env
      c.in_ok-insert.ensures.updates);
  lines = c.in_ok-name.ensures.lines;
  count = c.name.ensures.count;
}
