use Rattle.mls_modules.proofs.ValidSignatures.{signatures_are_valid}
use Rattle.mls_modules.proofs.check.check_module.Goals as goal

pub matches-requires-clause-entries : goal.matches-requires-clause-entries
matches-requires-clause-entries c = signatures_are_valid c.args.«module».now c.args.imports.now c.in_ok-signature.signature c.requires.«module» c.in_ok-signature.ensures.signature
