use Rattle.std.proofs.Common.{◌≡◌, ◌++◌, ◌∷◌, ◌∙◌, ℕ, List, [], sym, subst}
use Rattle.mls_automaton.proofs.Refusals.{refused, accepted}
use Rattle.mls_biunify.specs.Live.{free_state}
use Rattle.mls_biunify.specs.steps.Absorbing.{AreLoose, RemovesStates}
use Rattle.mls_biunify.specs.steps.Tables.{InsertsState}
use Rattle.mls_biunify.proofs.Claiming.{AreClaiming, claiming-none, claiming-more, claims-kept, claimed-loose, released-none}
use Rattle.mls_biunify.proofs.absorb.claim_all.Goals as goal

pub loop-init : goal.loop-init
loop-init c = subst (λ (xs : List ℕ). AreClaiming c.args.table.now c.args.table.now xs 0) (sym c.new-numbers.ensures.items) (claiming-none c.args.table.now)

pub loop-preserved : goal.loop-preserved
loop-preserved c =
    let it = accepted c.claim.result ((s : ℕ) × InsertsState c.loop.table c.claim.new.table s free_state × (c.claim.new.numbers.items ≡ c.loop.numbers.items ++ s ∷ [])) (sym c.is_err.ensures.value ∙ c.if-is_err.false) c.claim.ensures.ok in
    claiming-more c.args.table.now c.loop.table c.claim.new.table c.loop.numbers.items c.claim.new.numbers.items c.loop.counter it.0 c.loop.invariant it.1 it.2

pub remove_all-requires : goal.remove_all-requires
remove_all-requires c =
    subst (AreLoose c.claim.new.table) (sym (refused c.claim.result (c.claim.new.numbers.items ≡ c.loop.numbers.items) (sym c.is_err.ensures.value ∙ c.if-is_err.true) c.claim.ensures.noted))
    (claimed-loose c.args.table.now c.claim.new.table c.loop.numbers.items c.limit-limit.ensures.is
    (claims-kept c.args.table.now c.loop.table c.claim.new.table c.loop.numbers.items
    (refused c.claim.result (c.claim.new.table.automaton ≡ c.loop.table.automaton) (sym c.is_err.ensures.value ∙ c.if-is_err.true) c.claim.ensures.automaton)
    (refused c.claim.result (c.claim.new.table.there ≡ c.loop.table.there) (sym c.is_err.ensures.value ∙ c.if-is_err.true) c.claim.ensures.there)
    c.loop.invariant.claims))

pub returns-then-is_err-clause-err : goal.returns-then-is_err-clause-err
returns-then-is_err-clause-err c =
    released-none c.args.table.now c.loop.table c.claim.new.table c.remove_all.new.table c.loop.numbers.items c.limit-limit.ensures.is c.remove_all.ensures.is
    (refused c.claim.result (c.claim.new.table.automaton ≡ c.loop.table.automaton) (sym c.is_err.ensures.value ∙ c.if-is_err.true) c.claim.ensures.automaton)
    (refused c.claim.result (c.claim.new.table.there ≡ c.loop.table.there) (sym c.is_err.ensures.value ∙ c.if-is_err.true) c.claim.ensures.there)
    c.loop.invariant.claims
    (subst (λ (xs : List ℕ). RemovesStates c.claim.new.table xs c.remove_all.new.table) (refused c.claim.result (c.claim.new.numbers.items ≡ c.loop.numbers.items) (sym c.is_err.ensures.value ∙ c.if-is_err.true) c.claim.ensures.noted) c.remove_all.ensures.removes)

pub returns-clause-distinct : goal.returns-clause-distinct
returns-clause-distinct c = c.loop.invariant.distinct

pub returns-clause-ok : goal.returns-clause-ok
returns-clause-ok c = c.loop.invariant.claims
