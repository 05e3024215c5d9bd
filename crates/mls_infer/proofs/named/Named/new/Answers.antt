use Rattle.std.proofs.Common.{subst, sym, Some}
use Rattle.mls_infer.specs.declared.named.Named.{Named}
use Rattle.mls_infer.specs.Fields.{IsKnownType}
use Rattle.mls_infer.proofs.named.Named.new.Goals as goal

pub returns-clause-known : goal.returns-clause-known
returns-clause-known c =
    let own : Named = record { scheme = c.args.scheme; fields = Some c.in_ok-fields.fields } in
    let known : IsKnownType own = record { scheme = c.requires.scheme; rise = c.requires.rise; fields = (c.in_ok-fields.ensures.fields, c.in_ok-fields.ensures.alike) } in
    subst IsKnownType (sym c.in_ok-named-2.ensures.ok) known
