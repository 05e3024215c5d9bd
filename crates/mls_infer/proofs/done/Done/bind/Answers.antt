use Rattle.std.proofs.Common.{◌≡◌, ◌∙◌, ◌++◌, ◌∷◌, [], List, ap, rules, subst, sym}
use Rattle.mls_infer.specs.declared.done.Known.{Known}
use Rattle.mls_infer.specs.declared.done.Known.TheVariants as known
use Rattle.mls_infer.specs.Doing.{AreDone, schemes_known}
use Rattle.mls_infer.proofs.DoneSteps.{bind_done, pushed_schemes}
use Rattle.mls_infer.proofs.done.Done.bind.Goals as goal

pub returns-clause-done : goal.returns-clause-done
returns-clause-done c =
    let nodes : List Known = c.args.self.now.nodes.items in
    let pushed : c.push.new.self.items ≡ nodes ++ known.Bound c.args.binder ∷ [] = search rules in
    subst (AreDone c.args.self.now.live) (sym pushed) (bind_done c.args.self.now.live nodes c.args.binder c.requires.done)

pub returns-clause-added : goal.returns-clause-added
returns-clause-added c =
    let nodes : List Known = c.args.self.now.nodes.items in
    let pushed : c.push.new.self.items ≡ nodes ++ known.Bound c.args.binder ∷ [] = search rules in
    ap (schemes_known c.args.self.now.live) pushed ∙ pushed_schemes c.args.self.now.live nodes (known.Bound c.args.binder)
