use Rattle.std.proofs.Common.{sym, ap, ◌∙◌, rules, Some}
use Rattle.std.proofs.lemmas.Option.{slice_get-get_or, slice_get_past}
use Rattle.mls_iface.specs.steps.Going.{other, absent}
use Rattle.mls_iface.proofs.grammar.behind.Goals as goal

pub returns-in-None-clause-missing : goal.returns-in-None-clause-missing
returns-in-None-clause-missing c = absent (slice_get_past c.args.tokens.now c.args.at (search rules))

pub returns-then-eq-clause-there : goal.returns-then-eq-clause-there
returns-then-eq-clause-there c = (
  c.in-Some.token.now,
  slice_get-get_or c.args.tokens.now c.args.at c.in-Some.token.now c.in-Some.ensures.lookup.3.0 ∙ ap Some (sym c.in-Some.ensures.lookup.1),
  search rules,
)

pub returns-else-eq-clause-missing : goal.returns-else-eq-clause-missing
returns-else-eq-clause-missing c =
    other c.in-Some.token.now
    (slice_get-get_or c.args.tokens.now c.args.at c.in-Some.token.now c.in-Some.ensures.lookup.3.0 ∙ ap Some (sym c.in-Some.ensures.lookup.1))
    (search rules)
