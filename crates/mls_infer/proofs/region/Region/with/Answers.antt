use Rattle.std.proofs.Common.{◌∙◌, ap, ◌++◌}
use Rattle.mls_infer.proofs.JoinedLists.{numbers_joined, numbers_turned}
use Rattle.mls_infer.proofs.region.Region.with.Goals as goal

pub returns-then-len : goal.returns-then-len
returns-then-len c =
    numbers_turned c.in_ok-states.states.items c.args.other.states.items c.args.self.states.items
    (c.in_ok-states.ensures ∙ ap (λ xs. c.args.other.states.items ++ xs) c.as_slice.ensures.value)

pub returns : goal.returns
returns c =
    numbers_joined c.in_ok-all.all.items c.args.self.states.items c.args.other.states.items
    (c.in_ok-all.ensures ∙ ap (λ xs. c.args.self.states.items ++ xs) c.as_slice-2.ensures.value)
