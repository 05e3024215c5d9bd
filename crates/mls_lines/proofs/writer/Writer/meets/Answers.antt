use Rattle.std.proofs.Common.{List, map, sym, subst}
use Rattle.std.specs.Prelude.{All}
use Rattle.mls_deriv.specs.declared.derivation.BinderNode.{BinderNode}
use Rattle.mls_lines.specs.declared.envs.Needed.{Needed}
use Rattle.mls_lines.specs.Environments.{AreEntries, HasNodes, MeetsIn, needed_binder}
use Rattle.mls_lines.proofs.JoinedEnvironments.{entries_meet}
use Rattle.mls_lines.proofs.writer.Writer.meets.Goals as goal

pub returns-clause-meets : goal.returns-clause-meets
returns-clause-meets c = λ rising rising'.
    let d : List BinderNode = c.args.first.now in
    let e : List BinderNode = c.args.second.now in
    let it = c.in_ok-all.ensures rising rising' in
    entries_meet (λ x. x) c.met_entries.new.self.laid.book d e c.in_ok-met.met (map needed_binder c.in_ok-all.all) it.binders
    (subst (λ (all : List Needed). AreEntries (MeetsIn c.met_entries.new.self.laid.book d e) (map needed_binder all) c.in_ok-met.met) c.as_slice.ensures
    (c.in_ok-met.ensures.entries d e (subst (All (HasNodes d e)) (sym c.as_slice.ensures) it.nodes)))
