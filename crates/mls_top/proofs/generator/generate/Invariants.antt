use Rattle.std.proofs.Common.{◌≡◌}
use Rattle.mls_top.specs.Generator.{state, draws_before, generated}
use Rattle.mls_top.proofs.generator.generate.Given as goal

-- the lines so far, and the state behind their draws
abbrev pub invariant-loop-i : goal.invariant-loop-i
invariant-loop-i l = record {
  text : l.text.items ≡ generated l.seed l.i;
  state : l.draws.state ≡ state l.seed (draws_before l.i);
}
