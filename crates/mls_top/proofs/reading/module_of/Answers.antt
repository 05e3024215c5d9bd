use Rattle.std.proofs.Common.{rules}
use Rattle.mls_top.specs.Outcomes.{is_faulty}
use Rattle.mls_top.specs.Refusals.{for_fault}
use Rattle.mls_grammar.proofs.FaultsWithin.{fault-within}
use Rattle.mls_top.proofs.reading.module_of.Goals as goal

pub faulty_module-requires : goal.faulty_module-requires
faulty_module-requires c = fault-within c.args.text.now c.in-Err.fault (c.in-Err.ensures.fault (search rules))

pub returns-in_ok-faulty_module-in-Err-clause-refused :
    goal.returns-in_ok-faulty_module-in-Err-clause-refused
returns-in_ok-faulty_module-in-Err-clause-refused c = (
  for_fault c.args.file.now c.args.text.now c.in-Err.fault,
  c.in_ok-faulty_module-in-Err.ensures,
  is_faulty (c.in-Err.ensures.fault (search rules)),
)
