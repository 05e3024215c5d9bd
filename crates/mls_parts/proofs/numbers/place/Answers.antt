use Rattle.std.proofs.Common.{◌<◌, ◌-◌, length, None, subst, arith}
use Rattle.std.proofs.lemmas.List.{get_or_default}
use Rattle.mls_parts.proofs.NumberMaps.{behind}
use Rattle.mls_parts.proofs.numbers.place.Goals as goal
use Rattle.mls_parts.proofs.numbers.place.Goals.{then-len-eq0-via-then-len-eq0, then-len-eq0-via-else-len-eq0+then-entries-len}

-- no number is there, or the last one is below
pub returns-then-len-eq0-clause-absent : goal.returns-then-len-eq0-clause-absent
returns-then-len-eq0-clause-absent g c = behind c.args.entries.now c.args.number c.requires (elim c.then-len-eq0.branch [
  | then-len-eq0-via-then-len-eq0 w ↦ λ (some : 0 < length c.args.entries.now). absurd (omega (arith, w.if-len-eq0.true))
  | then-len-eq0-via-else-len-eq0+then-entries-len w ↦ λ (some : 0 < length c.args.entries.now).
      let read = get_or_default c.args.entries.now (length c.args.entries.now - 1) w.index-entries-len.result (0, None) (omega arith) in
      subst (λ e. e.0 < c.args.number) read w.if-entries-len.true
])
