use Rattle.std.proofs.Common.{◌∙◌, eq-eqb, sym}
use Rattle.std.proofs.lemmas.Bool.{eqb-true}
use Rattle.mls_automaton.proofs.IndexedFlows.{single-length, length-single}
use Rattle.mls_automaton.proofs.automaton.is_single.Goals as goal

pub returns : goal.returns
returns c = (
  λ h. single-length c.args.set.now (sym c.len.ensures.len ∙ eqb-true c.len.result 1 h),
  λ h. eq-eqb c.len.result 1 (c.len.ensures.len ∙ length-single c.args.set.now h),
)
