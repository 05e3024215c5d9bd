use Rattle.std.proofs.Common.{◌≡◌, ◌++◌}
use Rattle.std.specs.Prelude.{string_bytes}
use Rattle.std.specs.Vec.Iter.{into_iter_items}
use Rattle.mls_io.proofs.ShelfLaws.{files_of}
use Rattle.mls_io.proofs.memory.SureStore.new.Given as goal

abbrev pub invariant-loop-file : goal.invariant-loop-file
invariant-loop-file l = record {
  filled : files_of string_bytes (λ bytes. bytes.items) l.by_name.entries ≡ l.yielded;
  split : l.yielded ++ into_iter_items l.file-iterator ≡ l.fn.files.items;
}
