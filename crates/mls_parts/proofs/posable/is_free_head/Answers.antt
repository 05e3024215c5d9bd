use Rattle.mls_parts.proofs.posable.is_free_head.Goals as goal

pub returns-then-are_free_arms : goal.returns-then-are_free_arms
returns-then-are_free_arms c = λ yes p. record { function = c.are_free_arms.ensures c.if-are_free_arms.true p; fields = c.are_free_fields.ensures yes p }
