use Rattle.std.proofs.Common.{◌↔◌, drop}
use Rattle.mls_deriv.specs.inner.Rules.{AreFieldsOf}
use Rattle.mls_deriv.proofs.rules.are_fields_of.Given as goal

-- all have their fields exactly if those that are left have
abbrev pub invariant-loop-i : goal.invariant-loop-i
invariant-loop-i l = AreFieldsOf l.steps l.step l.fields (drop l.i l.numbers) (drop l.i l.parts) ↔ AreFieldsOf l.steps l.step l.fields l.numbers l.parts
