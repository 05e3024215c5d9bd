use Rattle.std.proofs.Common.{◌≡◌, ◌++◌, map, take}
use Rattle.mls_book.specs.declared.book.Field.{Field}
use Rattle.mls_pairs.specs.PairLists.{pair_of}
use Rattle.mls_pairs.proofs.needs.push_selves.Given as goal

-- those of the fields so far
abbrev pub invariant-loop-field : goal.invariant-loop-field
invariant-loop-field l =
    l.needs ≡ l.fn.needs ++ map (λ (field : Field). pair_of l.mode field.node.0 field.node.0) (take l.field-index l.fields)
