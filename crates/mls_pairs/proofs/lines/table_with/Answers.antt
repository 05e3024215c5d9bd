use Rattle.std.proofs.Common.{◌∙◌}
use Rattle.mls_pairs.proofs.LinesRead.{table_is}
use Rattle.mls_pairs.proofs.lines.table_with.Goals as goal

pub returns : goal.returns
returns c =
    table_is c.args.puts.now c.args.pairs.now c.as_slice.result.now c.in_ok-table.table (c.as_slice.ensures ∙ c.in_ok-lines.ensures) c.in_ok-table.ensures
