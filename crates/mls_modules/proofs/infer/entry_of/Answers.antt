use Rattle.std.proofs.Common.{◌≡◌, ◌∙◌, sym, subst}
use Rattle.mls_typetext.specs.Texts.{IsTypeText}
use Rattle.mls_print.specs.Laws.{ReadsBack}
use Rattle.mls_print.specs.Printed.{IsPrinted}
use Rattle.mls_iface.specs.declared.signature.SigEntry.{SigEntry}
use Rattle.mls_iface.specs.Signatures.{IsPlain}
use Rattle.mls_modules.proofs.Entries.{is_entry}
use Rattle.mls_modules.proofs.infer.entry_of.Goals as goal

pub returns-clause-entry : goal.returns-clause-entry
returns-clause-entry c = λ imports earlier mean.
    let s = c.in_ok-scheme.scheme in
    let e : SigEntry = record { name = c.in_ok-copy_name.field-0; text = c.of.result; scheme = c.in_ok-read.read } in
    let text : c.of.result ≡ c.in_ok-printed.printed.items = c.of.ensures in
    is_entry c.args.environment.now c.args.binding.now s e c.requires.term c.in_ok-copy_name.ensures.copy c.copy_name.ensures.name
    c.in_ok-scheme.ensures.scheme c.in_ok-scheme.ensures.simplified c.in_ok-scheme.ensures.env c.in_ok-printed.ensures.named c.in_ok-scheme.ensures.best
    (subst (IsPrinted s) (sym text) c.in_ok-printed.ensures.text)
    (subst (ReadsBack s) (sym text) c.in_ok-printed.ensures.reads_back)
    (subst IsPlain (sym text) c.in_ok-printed.ensures.one_line)
    (subst (λ t. IsTypeText t c.in_ok-read.read) (c.as_slice.ensures.value ∙ sym text) c.in_ok-read.ensures.read)
    imports earlier mean
