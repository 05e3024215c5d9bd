use Rattle.std.proofs.Common.{◌∙◌, [], ◌∷◌, ◌++◌, ap, subst}
use Rattle.mls_typetext.specs.declared.scheme.Names.{Names}
use Rattle.mls_typetext.specs.Texts.{IsTypeText}
use Rattle.mls_print.specs.Laws.{ReadsBack}
use Rattle.mls_iface.specs.Signatures.{val_line}
use Rattle.mls_modules.proofs.KnownTypes.{text_is_valid}
use Rattle.mls_modules.proofs.Lines.{entry_added}
use Rattle.mls_modules.proofs.infer.add_line.Goals as goal

pub add-requires-clause-read : goal.add-requires-clause-read
add-requires-clause-read c = (text_is_valid c.deref-then-follows.result.now c.in_ok-read.read c.in_ok-read.ensures.read).0

pub add-requires-clause-polarised : goal.add-requires-clause-polarised
add-requires-clause-polarised c = (text_is_valid c.deref-then-follows.result.now c.in_ok-read.read c.in_ok-read.ensures.read).1

pub returns-then-follows-clause-line : goal.returns-then-follows-clause-line
returns-then-follows-clause-line c =
    let s = c.in_ok-scheme.scheme in
    let printed = c.in_ok-printed.printed.items in
    let b = c.args.binding.now in
    entry_added c.args.environment.now c.add.new.self b s c.in_ok-read.read printed c.args.text.now.items c.add_val.new.text.items c.args.follows c.requires.term
    c.add_val.ensures.name c.in_ok-scheme.ensures.scheme c.in_ok-scheme.ensures.simplified c.in_ok-scheme.ensures.env c.in_ok-printed.ensures.named c.in_ok-scheme.ensures.best
    c.in_ok-printed.ensures.text c.in_ok-printed.ensures.reads_back c.in_ok-printed.ensures.one_line
    (subst (λ t. IsTypeText t c.in_ok-read.read) c.deref-then-follows.ensures.value c.in_ok-read.ensures.read)
    (c.in_ok-add_val.ensures.line ∙ ap (λ t. c.args.text.now.items ++ val_line b.name t) c.deref.ensures.value)
    (λ yes. c.in_ok-add.ensures.ok ∙ ap (λ (n : Names). n.schemes ++ c.in_ok-read.read ∷ []) c.in_ok-scheme.ensures.environment)

pub returns-clause-line : goal.returns-clause-line
returns-clause-line c =
    let s = c.in_ok-scheme.scheme in
    let printed = c.in_ok-printed.printed.items in
    let b = c.args.binding.now in
    let back : ReadsBack s printed = c.in_ok-printed.ensures.reads_back in
    entry_added c.args.environment.now c.infer.new.self b s back.0 printed c.args.text.now.items c.add_val.new.text.items c.args.follows c.requires.term
    c.add_val.ensures.name c.in_ok-scheme.ensures.scheme c.in_ok-scheme.ensures.simplified c.in_ok-scheme.ensures.env c.in_ok-printed.ensures.named c.in_ok-scheme.ensures.best
    c.in_ok-printed.ensures.text back c.in_ok-printed.ensures.one_line back.1
    (c.in_ok-add_val.ensures.line ∙ ap (λ t. c.args.text.now.items ++ val_line b.name t) c.deref.ensures.value)
    (λ yes. let no = c.if-follows.false in absurd (cc))
