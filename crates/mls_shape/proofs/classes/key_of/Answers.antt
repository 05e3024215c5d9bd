use Rattle.std.proofs.Common.{◌≡◌, ◌∙◌, ◌++◌, ◌∷◌, [], List, ℕ, ap, length}
use Rattle.mls_automaton.specs.Automata.{polarity_at}
use Rattle.mls_shape.specs.steps.Classes.{class_in, head_code}
use Rattle.mls_shape.specs.steps.Registers.{sign}
use Rattle.mls_shape.proofs.classes.key_of.Goals as goal

pub returns : goal.returns
returns c =
    let set : List ℕ = c.partners-partners.result.now in
    let p : ℕ = sign (polarity_at c.args.a.now c.args.s.0) in
    let one : c.push.new.self.items ≡ p ∷ [] = c.in_ok-push.ensures.items ∙ (λ i. c.in_ok-numbers.ensures.items i ++ (c.sign.ensures ∙ ap sign c.polarity.ensures) i ∷ []) in
    let two : c.push-2.new.self.items ≡ p ∷ length set ∷ [] = c.in_ok-push-2.ensures.items ∙ (λ i. one i ++ c.len.ensures.len i ∷ []) in
    let three : c.extend_from_slice.new.self.items ≡ p ∷ length set ∷ set = c.in_ok-extend_from_slice.ensures.items ∙ (λ i. two i ++ c.as_slice.ensures.members i) in
    record {
      partners = set;
      rises = c.partners-partners.ensures.rises;
      are = c.partners-partners.ensures.partners;
      is = c.from_numbers.ensures ∙ (c.in_ok-add_head.ensures ∙ (λ i. three i ++ head_code (class_in c.args.classes.now) (c.head.ensures i)));
    }
