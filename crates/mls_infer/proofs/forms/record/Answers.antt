use Rattle.std.proofs.Common.{◌∷◌, [], sym, subst}
use Rattle.mls_automaton.specs.declared.automaton.Head.{Head}
use Rattle.mls_automaton.specs.declared.automaton.Polarity.TheVariants.{Positive}
use Rattle.mls_automaton.specs.Models.{HasRisingLabels, HasStatesIn}
use Rattle.mls_biunify.specs.Live.{IsLiveState}
use Rattle.mls_infer.specs.Constraints.{positive}
use Rattle.mls_infer.specs.Pending.{Grows, states_in}
use Rattle.mls_infer.proofs.JoinedLists.{joined}
use Rattle.mls_infer.proofs.RecordParts.{record_made, record_states}
use Rattle.mls_infer.proofs.forms.record.Goals as goal

pub add-requires-clause-states : goal.add-requires-clause-states
add-requires-clause-states c =
    subst (HasStatesIn (IsLiveState c.args.live.now) Positive) (sym c.in_ok-head.ensures.fields)
    (record_states c.args.live.now c.requires.0 c.requires.1 c.args.rows c.requires.2 c.requires.3 c.in_ok-head.ensures.ordered).0

pub add-requires-clause-labels : goal.add-requires-clause-labels
add-requires-clause-labels c =
    subst (λ (h : Head). HasRisingLabels h.fields) (sym c.in_ok-head.ensures.fields)
    (record_states c.args.live.now c.requires.0 c.requires.1 c.args.rows c.requires.2 c.requires.3 c.in_ok-head.ensures.ordered).1

pub returns : goal.returns
returns c = λ named parts waiting are distinct.
    record_made c.args.live.now c.add.new.live named parts c.args.rows waiting are c.in_ok-head.ensures.ordered c.in_ok-root.root
    (subst (λ (h : Head). Grows c.args.live.now c.add.new.live ((c.in_ok-root.root.0, positive h) ∷ []) []) c.in_ok-head.ensures.fields c.in_ok-root.ensures.grows)
    (states_in c.add.new.self) (joined (states_in c.add.new.self) (states_in c.args.rows.region) (c.in_ok-root.root.0 ∷ []) c.in_ok-root.ensures.states)
