use Rattle.std.proofs.Common.{◌≡◌, ◌<◌, ◌++◌, length, get_or, sym, ◌∙◌, rules}
use Rattle.mls_iface.specs.declared.signature.SigEntry.{SigEntry}
use Rattle.mls_iface.specs.Signatures.{entry_line, val_line}
use Rattle.mls_iface.proofs.SignatureLines.{no-lines, line-added}
use Rattle.mls_iface.proofs.print.print_interface.Goals as goal

pub loop-entry-init : goal.loop-entry-init
loop-entry-init c = c.new-text.ensures.items ∙ sym no-lines

pub loop-entry-preserved : goal.loop-entry-preserved
loop-entry-preserved c =
    let e : SigEntry = c.entry-item.result in
    let low : c.loop-entry.entry-index < length c.args.signature.now.entries = search rules in
    let here : e ≡ get_or c.args.signature.now.entries c.loop-entry.entry-index e = search rules in
    c.in_ok-add_val.ensures.line
    ∙ ((λ i. c.loop-entry.text.items ++ val_line e.name (c.as_slice.ensures i))
    ∙ (λ i. c.loop-entry.invariant i ++ entry_line (here i))
    ∙ sym (line-added c.args.signature.now.entries c.loop-entry.entry-index e low))
