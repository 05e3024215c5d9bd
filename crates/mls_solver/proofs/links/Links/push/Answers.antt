use Rattle.std.proofs.Common.{◌≡◌, ◌<◌, ◌+◌, ◌++◌, ◌∷◌, [], length, get_or, subst, sym, ◌∙◌}
use Rattle.std.proofs.Math.ListN.{set}
use Rattle.std.proofs.lemmas.List.{get_or_default}
use Rattle.mls_solver.specs.steps.Links.{LinkTable, AreLinked}
use Rattle.mls_solver.proofs.LinkSteps.{linked_more}
use Rattle.mls_solver.proofs.links.Links.push.Goals as goal

pub returns-clause-linked : goal.returns-clause-linked
returns-clause-linked c keys are =
    let table : LinkTable = record { last = c.self.inside.last.items; before = c.self.inside.before.items; len = c.self.inside.len } in
    let old : AreLinked keys table = subst (AreLinked keys) (sym c.self.view_is) are in
    let key : c.args.key < length c.self.inside.last.items = subst (λ (t : LinkTable). c.args.key < length t.last) (sym c.self.view_is) c.requires.key in
    let space : c.self.inside.len < length c.self.inside.before.items = subst (λ (t : LinkTable). t.len < length t.before) (sym c.self.view_is) c.requires.space in
    let read : c.index.result.now ≡ get_or c.self.inside.last.items c.args.key 0 = c.index.ensures ∙ get_or_default c.self.inside.last.items c.args.key c.index.result.now 0 key in
    subst (λ x. AreLinked (keys ++ c.args.key ∷ []) (record { last = set c.self.inside.last.items c.args.key (c.self.inside.len + 1); before = set c.self.inside.before.items c.self.inside.len x; len = c.self.inside.len + 1 })) (sym read)
    (linked_more keys table old c.args.key key space)
