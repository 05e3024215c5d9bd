use Rattle.std.proofs.Common.{◌++◌, ◌∷◌, [], ◌∙◌, List, sym, ap, subst, append_assoc}
use Rattle.mls_deriv.specs.declared.derivation.BinderNode.{BinderNode}
use Rattle.mls_lines.specs.Conclusions.{IsWith}
use Rattle.mls_layout.specs.Scopes.{entry}
use Rattle.mls_lines.specs.Stepping.{above, below}
use Rattle.mls_lines.proofs.Environments.{with_binder}
use Rattle.mls_lines.proofs.envs.with.Goals as goal

pub returns : goal.returns
returns c = λ rising.
    let d = c.args.env.now in
    let x = c.args.binder in
    let own = entry x c.args.node.0 in
    subst (IsWith d x c.args.node.0)
    (sym (c.in_ok-push_above.ensures
    ∙ (ap (λ (l : List BinderNode). l ++ above x d) (c.in_ok-push.ensures.ok ∙ ap (λ (l : List BinderNode). l ++ own ∷ []) (c.in_ok-push_below.ensures ∙ ap (λ (l : List BinderNode). l ++ below x d) c.new-longer.ensures))
    ∙ append_assoc (below x d) (own ∷ []) (above x d))))
    (with_binder d x c.args.node.0 rising)
