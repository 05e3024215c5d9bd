use Rattle.std.proofs.Common.{refl, rules}
use Rattle.mls_lines.proofs.known.put_global.Goals as goal

pub returns-clause-at : goal.returns-clause-at
returns-clause-at c = record {
  from = c.in_ok-first.ensures.from;
  root = search rules;
  variables = refl;
  showing = c.in_ok-showing_of.ensures;
}

pub returns-clause-closed : goal.returns-clause-closed
returns-clause-closed c = λ closed. c.in_ok-first.ensures.closed closed c.requires.0.book
