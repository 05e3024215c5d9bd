-- The line of an entry has one newline, at its end.
use Rattle.std.proofs.Common.{◌++◌, codes, ◌<◌, get_or, refl, subst}
use Rattle.std.proofs.lemmas.Option.{slice_get-get_or}
use Rattle.mls_print.proofs.OneLines.{name-one_line, one_line-append}
use Rattle.mls_iface.specs.declared.signature.SigEntry.{SigEntry}
use Rattle.mls_iface.specs.Signatures.{IsEntry}
use Rattle.mls_modules.proofs.SameEntries.{stands}
use Rattle.mls_top.specs.Laws.{IsOneLine, EachIsOneLine}

entry_is_line : (e : SigEntry) → IsEntry e → IsOneLine e
entry_is_line e is = record {
  line = codes "val " ++ e.name ++ codes " : " ++ e.text;
  plain =
      one_line-append ((codes "val " ++ e.name) ++ codes " : ") e.text
      (one_line-append (codes "val " ++ e.name) (codes " : ") (one_line-append (codes "val ") e.name refl (name-one_line e.name is.name)) refl) is.plain;
  ended = refl;
}

pub each_is_one_line : EachIsOneLine
each_is_one_line m imports s it k d low =
    let b = stands it.resolved.bindings k (subst (λ n. k < n) it.entries.count low) in
    entry_is_line _ (it.entries.are_entries k b.0 (get_or s.entries k d) b.1 (slice_get-get_or s.entries k d low)).is_entry
