-- When fields are the same.
use Rattle.std.specs.Prelude.{Bool, ◌&&◌, List, bytes_eq, nat_eq}
use Rattle.std.specs.Cmp.{IsEquivalence}
use Rattle.std.specs.Cmp.Rules.{comparing}
use Rattle.std.specs.Cmp.Lexicographic.{pointwise, lists_equiv}
use Rattle.std.proofs.Common.{rules}
use Rattle.mls_book.specs.declared.book.Field.{Field}

abbrev pub same_field : Field → Field → Bool
same_field first second = bytes_eq first.label second.label && nat_eq first.node.0 second.node.0

abbrev pub same_fields : List Field → List Field → Bool
same_fields = pointwise same_field

pub same_fields_equiv : IsEquivalence same_fields
same_fields_equiv = lists_equiv (search (comparing, rules))
