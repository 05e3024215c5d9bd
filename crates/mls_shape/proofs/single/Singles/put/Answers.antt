use Rattle.std.proofs.Common.{◌∙◌, ◌<◌, ℕ, List, Some, None, ap, get_or, length, rules}
use Rattle.std.specs.Prelude.{Option}
use Rattle.std.proofs.lemmas.List.{get_or-set_same, get_or-set_other}
use Rattle.mls_shape.proofs.RegisteredOnes.{longer}
use Rattle.mls_shape.proofs.single.Singles.put.Goals as goal

pub loop-self-init : goal.loop-self-init
loop-self-init c = λ t. ap (λ (numbers : List (Option ℕ)). get_or numbers t None) c.self.view_is

pub loop-self-preserved : goal.loop-self-preserved
loop-self-preserved c = λ t. ap (λ (numbers : List (Option ℕ)). get_or numbers t None) c.in_ok-push.ensures.items ∙ (longer c.loop-self.self-inside.numbers.items t ∙ c.loop-self.invariant t)

pub returns : goal.returns
returns c =
    let low : c.args.s < length c.loop-self.self-inside.numbers.items = search rules in
    record {
      here = get_or-set_same c.loop-self.self-inside.numbers.items c.args.s (Some c.args.number) None low;
      others = λ t apart. get_or-set_other c.loop-self.self-inside.numbers.items c.args.s t (Some c.args.number) None apart ∙ c.loop-self.invariant t;
    }
