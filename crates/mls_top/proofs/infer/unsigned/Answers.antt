use Rattle.mls_top.proofs.SitesTold.{unknown_within, unknown_told}
use Rattle.mls_top.proofs.infer.unsigned.Goals as goal

pub faulty_module-requires : goal.faulty_module-requires
faulty_module-requires c = unknown_within c.args.text.now c.args.source.now c.args.fault c.in-UnknownName.at c.in-UnknownName.is c.requires.source c.requires.fault

pub returns-in-UnknownName : goal.returns-in-UnknownName
returns-in-UnknownName c = unknown_told c.args.file.now c.args.text.now c.args.source.now c.args.fault c.in-UnknownName.at c.in-UnknownName.is c.faulty_module.result c.faulty_module.ensures
