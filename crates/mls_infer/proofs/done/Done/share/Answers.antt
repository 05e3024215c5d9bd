use Rattle.std.proofs.Common.{◌≡◌, ◌∙◌, ◌++◌, ◌∷◌, [], List, ap, rules, subst, sym}
use Rattle.mls_infer.specs.declared.done.Known.{Known}
use Rattle.mls_infer.specs.declared.done.Known.TheVariants as known
use Rattle.mls_infer.specs.Doing.{AreDone, schemes_known}
use Rattle.mls_infer.proofs.DoneSteps.{pushed_schemes, shared_done}
use Rattle.mls_infer.proofs.done.Done.share.Goals as goal

pub returns-clause-done : goal.returns-clause-done
returns-clause-done c =
    let nodes : List Known = c.args.self.now.nodes.items in
    let pushed : c.push.new.self.items ≡ nodes ++ known.Named c.args.named ∷ [] = search rules in
    subst (AreDone c.args.self.now.live) (sym pushed) (shared_done c.args.self.now.live nodes c.args.named c.requires.done c.requires.known)

pub returns-clause-added : goal.returns-clause-added
returns-clause-added c =
    let nodes : List Known = c.args.self.now.nodes.items in
    let pushed : c.push.new.self.items ≡ nodes ++ known.Named c.args.named ∷ [] = search rules in
    ap (schemes_known c.args.self.now.live) pushed ∙ pushed_schemes c.args.self.now.live nodes (known.Named c.args.named)
