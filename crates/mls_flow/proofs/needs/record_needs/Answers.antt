use Rattle.std.proofs.Common.{◌∙◌, ap, sym, subst}
use Rattle.std.specs.Prelude.{Some}
use Rattle.mls_automaton.specs.Models.{HasSingleFields}
use Rattle.mls_flow.proofs.needs.record_needs.Goals as goal

pub fields_needs-requires-clause-upper : goal.fields_needs-requires-clause-upper
fields_needs-requires-clause-upper c = subst HasSingleFields (c.in-Some-upper.is ∙ ap Some (sym c.as_slice-in-Some-upper.ensures)) c.requires.upper

pub fields_needs-requires-clause-lower : goal.fields_needs-requires-clause-lower
fields_needs-requires-clause-lower c = subst HasSingleFields (c.in-Some.is ∙ ap Some (sym c.as_slice.ensures)) c.requires.lower
