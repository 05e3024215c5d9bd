use Rattle.mls_typetext.proofs.ReadLaws.{read_is_closed}
use Rattle.mls_scheme.proofs.PolarisedTypes.{read-polarised}
use Rattle.mls_emit.proofs.derive.section.scheme_of.Goals as goal

pub returns-clause-read : goal.returns-clause-read
returns-clause-read c =
    (read_is_closed c.args.entry.now.text c.args.entry.now.scheme c.requires.reads, read-polarised c.args.entry.now.text c.args.entry.now.scheme c.requires.reads)
