use Rattle.std.proofs.Common.{◌≡◌, ◌≢◌, ℕ, subst, sym}
use Rattle.mls_automaton.specs.Automata.{HasFlow, empty_head, head_at}
use Rattle.mls_automaton.specs.Reached.{Names}
use Rattle.mls_biunify.specs.steps.Tables.{Numbered, SetsPolarity, numbered_of}
use Rattle.mls_biunify.proofs.Polarities.{signed, polarity-sets, polarity-numbered}
use Rattle.mls_biunify.proofs.table.Table.set_polarity.Goals as goal

pub invariant_of-self : goal.invariant_of-self
invariant_of-self c =
    polarity-numbered c.self.inside.states c.self.inside.flows c.self.invariant c.args.s.0 c.index_mut.result.now c.args.polarity c.index_mut.ensures.value
    (subst (λ (t : Numbered). head_at t.automaton c.args.s.0 ≡ empty_head) (sym c.self.view_is) c.requires.empty)
    (subst (λ (t : Numbered). (j : ℕ) → Names t.automaton j c.args.s.0 → ⊥) (sym c.self.view_is) c.requires.unnamed)
    (subst (λ (t : Numbered). (n p : ℕ) → HasFlow t.automaton n p → (n ≢ c.args.s.0) × (p ≢ c.args.s.0)) (sym c.self.view_is) c.requires.unlinked)

pub returns : goal.returns
returns c =
    let empty : head_at (numbered_of c.self.inside.states c.self.inside.flows).automaton c.args.s.0 ≡ empty_head =
    subst (λ (t : Numbered). head_at t.automaton c.args.s.0 ≡ empty_head) (sym c.self.view_is) c.requires.empty in
    subst (λ (t : Numbered). SetsPolarity t (numbered_of (signed c.self.inside.states c.self.inside.flows c.self.invariant c.args.s.0 c.index_mut.result.now c.args.polarity c.index_mut.ensures.value empty) c.self.inside.flows) c.args.s.0 c.args.polarity) c.self.view_is
    (polarity-sets c.self.inside.states c.self.inside.flows c.self.invariant c.args.s.0 c.index_mut.result.now c.args.polarity c.index_mut.ensures.value empty)
