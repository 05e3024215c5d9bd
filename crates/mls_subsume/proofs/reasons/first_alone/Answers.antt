use Rattle.std.proofs.Common.{ℕ, ◌<◌, ◌≤◌, ◌≡◌, ◌∙◌, ap, not, sym, arith, length}
use Rattle.mls_automaton.specs.Heads.{set_at}
use Rattle.mls_subsume.proofs.HeadReasons.{alone-first, alone-none, not-there}
use Rattle.mls_subsume.proofs.reasons.first_alone.Goals as goal

pub returns-then-is_none : goal.returns-then-is_none
returns-then-is_none c =
    alone-first c.args.fields.now c.args.others.now c.requires.fields c.loop-field.field-index c.field-item.result c.loop-field-test.true (sym c.field-item.is)
    (not-there (λ set. set.now) c.set_of.result (set_at c.args.others.now c.field-item.result.label) c.set_of.ensures (c.is_none.ensures ∙ ap not c.if-is_none.true)) c.loop-field.invariant

pub returns : goal.returns
returns c =
    let high : length c.args.fields.now ≤ c.loop-field.field-index = c.loop-field-test.false in
    alone-none c.args.fields.now c.args.others.now c.requires.fields (λ j d low. c.loop-field.invariant j d (let low : j < length c.args.fields.now = low in omega arith))
