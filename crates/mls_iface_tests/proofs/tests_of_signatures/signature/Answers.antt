use Rattle.std.proofs.Common.{◌≡◌, ◌∷◌, ◌++◌, [], List, true, false, sym, ap, subst, ◌∙◌, rules}
use Rattle.std.specs.Prelude.{bytes_eq}
use Rattle.mls_typetext.proofs.FieldOrder.{bytes_eq-self}
use Rattle.mls_iface.specs.declared.signature.SigEntry.{SigEntry}
use Rattle.mls_iface.specs.Signatures.{AreEntries}
use Rattle.mls_iface_tests.proofs.TwoEntries.{two_entries}
use Rattle.mls_iface_tests.proofs.tests_of_signatures.signature.Goals as goal

pub returns : goal.returns
returns g c =
    let e : SigEntry = c.in_ok-one.one in
    let f : SigEntry = c.in_ok-other.other in
    let apart : bytes_eq e.name f.name ≡ false = search rules in
    let first : c.push.new.self ≡ e ∷ [] = c.in_ok-push.ensures.ok ∙ ap (λ (es : List SigEntry). es ++ e ∷ []) c.new-entries.ensures in
    let both : c.push-2.new.self ≡ e ∷ f ∷ [] = c.in_ok-push-2.ensures.ok ∙ ap (λ (es : List SigEntry). es ++ f ∷ []) first in
    subst AreEntries (sym both)
    (two_entries e f c.in_ok-one.ensures c.in_ok-other.ensures
    (λ same. let wrong : true ≡ false = sym (bytes_eq-self e.name) ∙ (ap (bytes_eq e.name) same ∙ apart) in absurd (cc)))
