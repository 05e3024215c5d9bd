use Rattle.std.proofs.Common.{◌++◌, ◌∷◌, [], ℕ, length, subst, sym, Some}
use Rattle.mls_automaton.specs.declared.scheme.Scheme.{Scheme}
use Rattle.mls_infer.specs.Doing.{schemes_known}
use Rattle.mls_infer.specs.Finished.{Finished, Has}
use Rattle.mls_infer.specs.Finishing.{KeepsBut}
use Rattle.mls_infer.specs.Pending.{part_in}
use Rattle.mls_infer.specs.Regions.{scheme_at}
use Rattle.mls_infer.proofs.DoneNodes.{keeps_self}
use Rattle.mls_infer.proofs.Told.{get_end}
use Rattle.mls_infer.proofs.infer.push.Goals as goal

pub name-requires-clause-there : goal.name-requires-clause-there
name-requires-clause-there c =
    let old : Finished = schemes_known c.args.done.now.live c.args.done.now.nodes.items in
    let s : Scheme = scheme_at c.args.done.now.live.table (part_in c.args.part) in
    let new : Finished = schemes_known c.push.new.self.live c.push.new.self.nodes.items in
    let F : Finished → Type 0 = λ known. Has known (length old) s in
    let N : ℕ → Type 0 = λ i. Has new i s in
    (s, subst N (sym c.count-i.ensures) (subst F (sym c.in_ok-push.ensures.added) (get_end old (Some s))))

pub returns-else-is_named-clause-added : goal.returns-else-is_named-clause-added
returns-else-is_named-clause-added c =
    let old : Finished = schemes_known c.args.done.now.live c.args.done.now.nodes.items in
    let longer : Finished = old ++ Some (scheme_at c.args.done.now.live.table (part_in c.args.part)) ∷ [] in
    subst (λ (known : Finished). KeepsBut [] longer known) (sym c.in_ok-push.ensures.added) (keeps_self longer)
