use Rattle.std.proofs.Common.{rules}
use Rattle.mls_deriv.specs.inner.Guesses.{env_guess}
use Rattle.mls_deriv.proofs.WordValues.{env_more, env_all}
use Rattle.mls_deriv.proofs.section_line.entries_of.Goals as goal

pub loop-i-preserved : goal.loop-i-preserved
loop-i-preserved c = env_more c.args.numbers.now c.loop-i.i c.loop-i.entries.items c.push.new.self.items (env_guess c.args.numbers.now) c.loop-i-test.true c.loop-i.invariant (search rules)

pub returns : goal.returns
returns c = env_all c.args.numbers.now c.loop-i.i c.loop-i.entries.items (env_guess c.args.numbers.now) c.loop-i-test.false c.loop-i.invariant
