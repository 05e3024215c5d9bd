use Rattle.std.proofs.Common.{◌∷◌, [], subst}
use Rattle.mls_automaton.specs.declared.automaton.Head.{Head}
use Rattle.mls_infer.specs.Constraints.{positive}
use Rattle.mls_infer.specs.Pending.{Grows, states_in}
use Rattle.mls_infer.proofs.PlainParts.{number_made}
use Rattle.mls_infer.proofs.forms.number.Goals as goal

pub returns : goal.returns
returns c = record {
  made =
      number_made c.args.live.now c.literal.new.live c.in_ok-part.part.root
      (subst (λ (h : Head). Grows c.args.live.now c.literal.new.live ((c.in_ok-part.part.root.0, positive h) ∷ []) []) c.int_head.ensures c.in_ok-part.ensures.grows)
      (states_in c.in_ok-part.part.region) c.in_ok-part.ensures.states c.in_ok-part.part.env c.in_ok-part.ensures.env;
}
