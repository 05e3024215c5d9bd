use Rattle.std.proofs.Common.{rules, ◌≡◌, ◌∙◌, ℕ, List, length, map, get_or, subst}
use Rattle.std.proofs.lemmas.List.{get_or_default}
use Rattle.mls_automaton.specs.Automata.{head_at}
use Rattle.mls_automaton.specs.Heads.{IsSameParts, combined, parts_of}
use Rattle.mls_shape.specs.declared.register.SetState.{SetState}
use Rattle.mls_shape.specs.steps.Registers.{sets_in}
use Rattle.mls_shape.proofs.states.add_state.Goals as goal

pub returns-clause-state : goal.returns-clause-state
returns-clause-state c =
    let sets : List SetState = sets_in c.args.register.now in
    let next : ℕ = length c.args.d.now.states in
    let set : SetState = c.index-set.result.now in
    let is : get_or sets next set ≡ set = search rules in
    record {
      set = set;
      at = λ d. get_or_default sets next d set c.requires.left ∙ is;
      head = c.in_ok-head.head;
      combined = record {
        parts = subst (λ (xs : List ℕ). IsSameParts (parts_of c.in_ok-head.head) (combined set.polarity (map (λ j. parts_of (head_at c.args.a.now j)) xs))) c.as_slice.ensures.members c.in_ok-head.ensures.parts;
        labels = c.in_ok-head.ensures.labels;
      };
      row = c.in_ok-row.row;
      numbers = c.in_ok-row.ensures.head;
      added = c.in_ok-state.ensures.ok;
    }
