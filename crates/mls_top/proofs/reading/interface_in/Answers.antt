use Rattle.std.proofs.Common.{rules}
use Rattle.mls_iface.proofs.FaultsWithin.{fault-within}
use Rattle.mls_top.proofs.reading.interface_in.Goals as goal

pub faulty_interface-requires : goal.faulty_interface-requires
faulty_interface-requires c = fault-within c.args.text.now c.in-Err.fault (c.in-Err.ensures.fault (search rules))
