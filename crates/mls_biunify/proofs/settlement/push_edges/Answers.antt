use Rattle.std.proofs.Common.{◌≡◌, ℕ, Contains, get_or}
use Rattle.mls_biunify.proofs.Collected.{collected-none, collected-more, collected-all, pushed-one}
use Rattle.mls_biunify.proofs.settlement.push_edges.Goals as goal

pub loop-q-init : goal.loop-q-init
loop-q-init c = collected-none (λ q (y : ℕ × ℕ). y ≡ (c.args.n, q)) (Contains c.args.edges.now.items) c.args.targets.now

pub loop-q-preserved : goal.loop-q-preserved
loop-q-preserved c =
    collected-more (λ q (y : ℕ × ℕ). y ≡ (c.args.n, q)) (Contains c.args.edges.now.items) (Contains c.loop-q.edges.items) (Contains c.push.new.self.items) c.args.targets.now c.loop-q.q-index 0 c.loop-q-test.true c.loop-q.invariant
    (pushed-one c.loop-q.edges.items c.push.new.self.items (c.args.n, get_or c.args.targets.now c.loop-q.q-index 0) c.in_ok-push.ensures.items)

pub returns : goal.returns
returns c = collected-all (λ q (y : ℕ × ℕ). y ≡ (c.args.n, q)) (Contains c.args.edges.now.items) (Contains c.loop-q.edges.items) c.args.targets.now c.loop-q.q-index c.loop-q-test.false c.loop-q.invariant
