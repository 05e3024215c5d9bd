use Rattle.std.proofs.Common.{◌≡◌, ℕ, Contains, get_or}
use Rattle.mls_biunify.proofs.Collected.{collected-none, collected-more, collected-all, pushed-one}
use Rattle.mls_biunify.proofs.settlement.push_ends.Goals as goal

pub loop-n-init : goal.loop-n-init
loop-n-init c = collected-none (λ n (y : ℕ × ℕ). y ≡ (n, c.args.m)) (Contains c.args.ends.now.items) c.args.sources.now

pub loop-n-preserved : goal.loop-n-preserved
loop-n-preserved c =
    collected-more (λ n (y : ℕ × ℕ). y ≡ (n, c.args.m)) (Contains c.args.ends.now.items) (Contains c.loop-n.ends.items) (Contains c.push.new.self.items) c.args.sources.now c.loop-n.n-index 0 c.loop-n-test.true c.loop-n.invariant
    (pushed-one c.loop-n.ends.items c.push.new.self.items (get_or c.args.sources.now c.loop-n.n-index 0, c.args.m) c.in_ok-push.ensures.items)

pub returns : goal.returns
returns c = collected-all (λ n (y : ℕ × ℕ). y ≡ (n, c.args.m)) (Contains c.args.ends.now.items) (Contains c.loop-n.ends.items) c.args.sources.now c.loop-n.n-index c.loop-n-test.false c.loop-n.invariant
