use Rattle.mls_emit.proofs.KnownNames.{one_name, read_type}
use Rattle.mls_emit.proofs.derive.known.know_type.Goals as goal

-- what was read has no binders
pub returns : goal.returns
returns c =
    one_name c.args.schemes.now c.insert.new.self c.args.g c.args.read.now c.in_ok-scheme.scheme c.in_ok-insert.ensures.updates
    (read_type c.in_ok-scheme.scheme c.in_ok-scheme.ensures.scheme c.in_ok-scheme.ensures.env) c.in_ok-scheme.ensures.book c.in_ok-scheme.ensures.equivalent
