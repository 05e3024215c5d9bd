use Rattle.std.proofs.Common.{subst, Some}
use Rattle.std.specs.Prelude.{Option}
use Rattle.std.proofs.lemmas.Option.{IfSome_then}
use Rattle.mls_infer.specs.declared.named.Fields.{Fields}
use Rattle.mls_infer.specs.Fields.{HasRecord}
use Rattle.mls_infer.specs.Pending.{part_in}
use Rattle.mls_infer.specs.Regions.{TablePart, scheme_at}
use Rattle.mls_infer.proofs.TableSolutions.{part_states}
use Rattle.mls_infer.proofs.named.Named.field.Goals as goal

pub returns-in_ok-field-in-Some : goal.returns-in_ok-field-in-Some
returns-in_ok-field-in-Some c =
    let f : Fields = c.in-Some.fields in
    let part : TablePart = part_in f.part in
    let it : HasRecord c.args.self.now.scheme (Some f) = subst (λ (o : Option Fields). HasRecord c.args.self.now.scheme o) c.in-Some.is c.requires.fields in
    IfSome_then c.in_ok-field-in-Some.field c.in_ok-field-in-Some.ensures
    (λ t solution. record {
      taken = scheme_at f.live.table part;
      states = part_states f.live it.0.is_live part.states it.0.waits.there part.env part.root it.0.waits.part;
      alike = it.1;
      solution = solution;
    })
