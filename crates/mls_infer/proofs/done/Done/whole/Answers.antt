use Rattle.std.proofs.Common.{[], ◌∷◌}
use Rattle.mls_automaton.specs.declared.scheme.Scheme.{Scheme}
use Rattle.mls_biunify.specs.Live.{Live}
use Rattle.mls_infer.specs.Constraints.{no_goals}
use Rattle.mls_infer.specs.Finishing.{without_env}
use Rattle.mls_infer.specs.Pending.{part_in}
use Rattle.mls_infer.specs.Regions.{TablePart, scheme_at}
use Rattle.mls_infer.proofs.DoneOut.{frozen_closed, frozen_env, root_live}
use Rattle.mls_infer.proofs.DoneSteps.{take_one}
use Rattle.mls_infer.proofs.Merges.{types_trans}
use Rattle.mls_infer.proofs.NodeLoop.{same_closed}
use Rattle.mls_infer.proofs.done.Done.whole.Goals as goal

pub freeze-requires-clause-root : goal.freeze-requires-clause-root
freeze-requires-clause-root c =
    let part : TablePart = part_in c.in_ok-part.part in
    let taken = take_one c.args.self.now.live c.args.self.now.nodes.items c.requires.done c.args.last c.take.new.self.live c.take.new.self.nodes.items part c.in_ok-part.ensures in
    root_live c.take.new.self.live part taken.beside.waiting.0

pub returns-clause-env : goal.returns-clause-env
returns-clause-env c = frozen_env c.take.new.self.live c.in_ok-part.part.root.0 c.in_ok-scheme.scheme c.in_ok-scheme.ensures.kept

pub returns-clause-alike : goal.returns-clause-alike
returns-clause-alike c = λ s has.
    let live : Live = c.take.new.self.live in
    let part : TablePart = part_in c.in_ok-part.part in
    let own : Scheme = scheme_at live.table part in
    let taken = take_one c.args.self.now.live c.args.self.now.nodes.items c.requires.done c.args.last live c.take.new.self.nodes.items part c.in_ok-part.ensures in
    let alike = (taken.alike (s ∷ []) (has, tt)).0.1 in
    types_trans (no_goals (without_env s)) (no_goals (without_env own)) (no_goals c.in_ok-scheme.scheme) (same_closed s own alike)
    (frozen_closed live taken.done.is_live part taken.beside.waiting.0 c.in_ok-scheme.scheme c.in_ok-scheme.ensures.scheme c.as_slice.ensures.rise c.in_ok-scheme.ensures.equivalent)
