use Rattle.mls_iface.proofs.PrintedInterfaces.{printed_is_interface}
use Rattle.mls_iface.proofs.laws.printed_text_is_interface.Goals as goal

pub returns : goal.returns
returns c = printed_is_interface
