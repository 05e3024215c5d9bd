use Rattle.std.proofs.Common.{◌≡◌, ◌↔◌, ◌⊎◌, ◌<◌, length, set, Contains, ℕ, true, false, sym, ◌∙◌, subst}
use Rattle.mls_automaton.proofs.Refusals.{refused, accepted}
use Rattle.mls_biunify.specs.steps.TwoWay.{TwoWay, HasPair, AddsPair, IsSamePairs}
use Rattle.mls_biunify.proofs.TwoWays.{with_pair-adds, with_pair-is, without_pair-same, without_pair-is}
use Rattle.mls_biunify.proofs.edges.Edges.insert.Goals as goal

pub invariant_of-self-then-is_err : goal.invariant_of-self-then-is_err
invariant_of-self-then-is_err c =
    let t : TwoWay = record { forward = c.self.inside.forward.items; backward = c.self.inside.backward.items } in
    without_pair-is t c.self.invariant c.args.n c.args.p
    (subst (λ (x : TwoWay). c.args.n < length x.forward) (sym c.self.view_is) c.requires.first)
    (subst (λ (x : TwoWay). c.args.p < length x.forward) (sym c.self.view_is) c.requires.second)
    c.index_mut.result.now c.insert.new.self c.index_mut-2.result.now c.insert-2.new.self
    c.index_mut.ensures.value c.in_ok-insert.ensures.ok c.index_mut-2.ensures.value
    c.index_mut-then-is_err.result.now c.remove.new.self
    (λ it. let yes : c.contains.result ≡ true = c.contains.ensures.1 (subst (λ (x : TwoWay). HasPair x c.args.n c.args.p) c.self.view_is it) in let f : c.contains.result ≡ false = c.if-contains.false in absurd (cc))
    c.index_mut-then-is_err.ensures.value c.remove.ensures.members
    (refused c.insert-2.result (c.insert-2.new.self ≡ c.index_mut-2.result.now) (sym c.is_err.ensures.value ∙ c.if-is_err.true) c.insert-2.ensures.err)

pub returns-then-is_err-clause-err : goal.returns-then-is_err-clause-err
returns-then-is_err-clause-err c =
    let t : TwoWay = record { forward = c.self.inside.forward.items; backward = c.self.inside.backward.items } in
    subst (λ (x : TwoWay). IsSamePairs x (record { forward = set (set t.forward c.args.n c.insert.new.self) c.args.n c.remove.new.self; backward = set t.backward c.args.p c.insert-2.new.self })) c.self.view_is
    (without_pair-same t c.self.invariant c.args.n c.args.p
    (subst (λ (x : TwoWay). c.args.n < length x.forward) (sym c.self.view_is) c.requires.first)
    (subst (λ (x : TwoWay). c.args.p < length x.forward) (sym c.self.view_is) c.requires.second)
    c.index_mut.result.now c.insert.new.self c.index_mut-2.result.now c.insert-2.new.self
    c.index_mut.ensures.value c.in_ok-insert.ensures.ok c.index_mut-2.ensures.value
    c.index_mut-then-is_err.result.now c.remove.new.self
    (λ it. let yes : c.contains.result ≡ true = c.contains.ensures.1 (subst (λ (x : TwoWay). HasPair x c.args.n c.args.p) c.self.view_is it) in let f : c.contains.result ≡ false = c.if-contains.false in absurd (cc))
    c.index_mut-then-is_err.ensures.value c.remove.ensures.members
    (refused c.insert-2.result (c.insert-2.new.self ≡ c.index_mut-2.result.now) (sym c.is_err.ensures.value ∙ c.if-is_err.true) c.insert-2.ensures.err))

pub invariant_of-self-else-is_err : goal.invariant_of-self-else-is_err
invariant_of-self-else-is_err c =
    let t : TwoWay = record { forward = c.self.inside.forward.items; backward = c.self.inside.backward.items } in
    with_pair-is t c.self.invariant c.args.n c.args.p
    (subst (λ (x : TwoWay). c.args.n < length x.forward) (sym c.self.view_is) c.requires.first)
    (subst (λ (x : TwoWay). c.args.p < length x.forward) (sym c.self.view_is) c.requires.second)
    c.index_mut.result.now c.insert.new.self c.index_mut-2.result.now c.insert-2.new.self
    c.index_mut.ensures.value c.in_ok-insert.ensures.ok c.index_mut-2.ensures.value
    (accepted c.insert-2.result ((j : ℕ) → Contains c.insert-2.new.self j ↔ (j ≡ c.args.n) ⊎ Contains c.index_mut-2.result.now j) (sym c.is_err.ensures.value ∙ c.if-is_err.false) c.insert-2.ensures.ok)

pub returns-clause-ok : goal.returns-clause-ok
returns-clause-ok c =
    let t : TwoWay = record { forward = c.self.inside.forward.items; backward = c.self.inside.backward.items } in
    subst (λ (x : TwoWay). AddsPair x (record { forward = set t.forward c.args.n c.insert.new.self; backward = set t.backward c.args.p c.insert-2.new.self }) c.args.n c.args.p) c.self.view_is
    (with_pair-adds t c.self.invariant c.args.n c.args.p
    (subst (λ (x : TwoWay). c.args.n < length x.forward) (sym c.self.view_is) c.requires.first)
    (subst (λ (x : TwoWay). c.args.p < length x.forward) (sym c.self.view_is) c.requires.second)
    c.index_mut.result.now c.insert.new.self c.index_mut-2.result.now c.insert-2.new.self
    c.index_mut.ensures.value c.in_ok-insert.ensures.ok c.index_mut-2.ensures.value
    (accepted c.insert-2.result ((j : ℕ) → Contains c.insert-2.new.self j ↔ (j ≡ c.args.n) ⊎ Contains c.index_mut-2.result.now j) (sym c.is_err.ensures.value ∙ c.if-is_err.false) c.insert-2.ensures.ok))
