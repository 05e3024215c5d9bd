-- What a sink over standard output counts.
use Rattle.std.specs.Prelude.{None}
use Rattle.mls_io.specs.Counts.{Count}
use Rattle.mls_io.specs.Sinks.{Written}

-- it does not tell its bytes
abbrev pub untold_written : Count → Written
untold_written faults = record { bytes = None; faults = faults }
