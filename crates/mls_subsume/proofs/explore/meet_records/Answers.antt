use Rattle.std.proofs.Common.{◌∙◌, ap, sym, subst}
use Rattle.std.specs.Prelude.{Some}
use Rattle.mls_automaton.specs.Models.{HasSingleFields}
use Rattle.mls_subsume.proofs.explore.meet_records.Goals as goal

pub meet_fields-requires-clause-general : goal.meet_fields-requires-clause-general
meet_fields-requires-clause-general c = subst HasSingleFields (c.in-Some.is ∙ ap Some (sym c.as_slice.ensures)) c.requires.general

pub meet_fields-requires-clause-special : goal.meet_fields-requires-clause-special
meet_fields-requires-clause-special c = subst HasSingleFields (c.in-Some-special.is ∙ ap Some (sym c.as_slice-in-Some-special.ensures)) c.requires.special
