use Rattle.std.proofs.Common.{rules}
use Rattle.mls_top.proofs.GeneratedTexts.{first_text, first_state, next_text, next_state}
use Rattle.mls_top.proofs.generator.generate.Goals as goal

pub loop-i-init : goal.loop-i-init
loop-i-init c = record { text = first_text c.args.seed c.new-text.result.items c.new-text.ensures.items; state = first_state c.args.seed }

pub loop-i-preserved : goal.loop-i-preserved
loop-i-preserved c = record {
  text = next_text c.args.seed c.loop-i.i c.loop-i.draws.state c.loop-i.invariant.state c.loop-i.text.items c.as_bytes.result.now c.extend_from_slice.new.self.items c.loop-i.invariant.text (search rules) (search rules);
  state = next_state c.args.seed c.loop-i.i c.loop-i.draws.state c.line.new.draws.state c.loop-i.invariant.state (search rules);
}
