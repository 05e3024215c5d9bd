use Rattle.std.proofs.Common.{refl}
use Rattle.mls_lines.proofs.writer.Writer.puts_of_global.Goals as goal

pub returns-clause-grows : goal.returns-clause-grows
returns-clause-grows c = record {
  more = c.in_ok-puts.ensures.longer.0;
  book = c.in_ok-puts.ensures.longer.1;
  closed = c.in_ok-puts.ensures.closed;
  places = refl;
  own = refl;
  boolean = refl;
  integer = refl;
  steps = refl;
  concluded = refl;
}

pub returns-clause-joins : goal.returns-clause-joins
returns-clause-joins c = λ is. record {
  first = c.copy_at-first.result;
  copy = c.copy_at-first.ensures;
  joins = c.in_ok-puts.ensures.joins is;
}
