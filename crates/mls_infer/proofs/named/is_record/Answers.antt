use Rattle.mls_infer.proofs.KnownFields.{no_edges}
use Rattle.mls_infer.proofs.named.is_record.Goals as goal

pub returns-then-has_several_fields : goal.returns-then-has_several_fields
returns-then-has_several_fields c = λ yes.
    no_edges c.args.scheme.now.automaton c.args.scheme.now.root.0 c.partners.result.now c.partners.ensures.partners (c.is_empty.ensures.0 yes)
