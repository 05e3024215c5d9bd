use Rattle.std.proofs.Common.{List, Option, subst, sym}
use Rattle.mls_automaton.specs.declared.automaton.FieldSet.{FieldSet}
use Rattle.mls_automaton.specs.Heads.{AreRising}
use Rattle.mls_automaton.specs.Models.{HasRisingLabels}
use Rattle.mls_layout.specs.LaidOut.{place_of}
use Rattle.mls_layout.proofs.OwnNodes.{fields_rising}
use Rattle.mls_layout.proofs.layout.owned.push_record.Goals as goal

pub push-requires : goal.push-requires
push-requires c =
    fields_rising (place_of c.args.places.now) c.args.polarity c.plan_fields.new.trees c.as_slice.result.now c.in_ok-fields-in-Some.fields c.in_ok-fields-in-Some.ensures.fields
    (subst AreRising (sym c.as_slice.ensures) (subst (λ (o : Option (List FieldSet)). HasRisingLabels o) c.in-Some.is c.requires.labels))
