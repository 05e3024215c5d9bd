-- What holds of the parts of states under numbers.
use Rattle.mls_biunify.specs.steps.Tables.{Numbered, IsNumbered, numbered_of}
use Rattle.mls_biunify.specs.declared.table.Table.TheInside.{Inside}

abbrev pub table_view : Inside → Numbered
table_view a = numbered_of a.states a.flows

abbrev pub IsTableInside : Inside → Type 0
IsTableInside a = IsNumbered (table_view a)
