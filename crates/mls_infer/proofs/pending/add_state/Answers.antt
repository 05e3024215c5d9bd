use Rattle.std.proofs.Common.{◌≡◌, inl, inr, rules}
use Rattle.mls_infer.proofs.pending.add_state.Goals as goal

pub returns-then-entry-binder : goal.returns-then-entry-binder
returns-then-entry-binder c = λ n.
    let own : c.args.entry.now.binder ≡ c.args.binder = search rules in
    let it = c.in_ok-insert.ensures.ok n in (
      λ inside. elim (it.0 inside) [ inl same ↦ inl (own, same) | inr old ↦ inr old ],
      λ either. it.1 (elim either [ inl new ↦ inl new.1 | inr old ↦ inr old ]),
    )
