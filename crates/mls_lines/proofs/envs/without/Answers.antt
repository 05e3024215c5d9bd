use Rattle.std.proofs.Common.{◌++◌, ◌∙◌, List, sym, ap, subst}
use Rattle.mls_deriv.specs.declared.derivation.BinderNode.{BinderNode}
use Rattle.mls_lines.specs.Conclusions.{IsWithout}
use Rattle.mls_lines.specs.Stepping.{above, below}
use Rattle.mls_lines.proofs.Environments.{without_binder}
use Rattle.mls_lines.proofs.envs.without.Goals as goal

pub returns : goal.returns
returns c = λ rising.
    let d = c.args.env.now in
    let x = c.args.binder in
    subst (IsWithout d x)
    (sym (c.in_ok-push_above.ensures ∙ ap (λ (l : List BinderNode). l ++ above x d) (c.in_ok-push_below.ensures ∙ ap (λ (l : List BinderNode). l ++ below x d) c.new-shorter.ensures)))
    (without_binder d x rising)
