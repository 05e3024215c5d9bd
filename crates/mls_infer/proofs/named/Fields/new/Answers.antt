use Rattle.mls_infer.proofs.OneState.{scheme_states}
use Rattle.mls_infer.proofs.named.Fields.new.Goals as goal

pub copied-requires : goal.copied-requires
copied-requires c = scheme_states c.args.scheme.now c.requires.scheme c.requires.rise

pub returns-clause-fields : goal.returns-clause-fields
returns-clause-fields c = record {
  is_live = c.ready-copied.ensures.live;
  waits = c.in_ok-part.ensures.copied.waits;
  rise = c.in_ok-part.ensures.rise c.requires.rise;
  free = λ n edge. let it = c.in_ok-part.ensures.edges n edge in c.requires.free it.0 it.1;
}
