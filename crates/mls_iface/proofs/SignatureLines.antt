-- The lines of a signature, one after another.
use Rattle.std.proofs.Common.{◌≡◌, ℕ, ◌+◌, ◌<◌, List, [], ◌∷◌, ◌++◌, take, length, get_or, refl, sym, ap, ◌∙◌, append-nil, append_assoc}
use Rattle.std.proofs.lemmas.List.{take_more}
use Rattle.mls_iface.specs.declared.signature.SigEntry.{SigEntry}
use Rattle.mls_iface.specs.Signatures.{entry_line, signature_text}

-- an entry behind the others
pub signature_text-append : (es : List SigEntry) (e : SigEntry) → signature_text (es ++ e ∷ []) ≡ signature_text es ++ entry_line e
unfolding signature_text
signature_text-append [] e = append-nil (entry_line e)
signature_text-append (first ∷ es) e = ap (λ l. entry_line first ++ l) (signature_text-append es e) ∙ sym (append_assoc (entry_line first) (signature_text es) (entry_line e))

pub no-lines : signature_text [] ≡ []
unfolding signature_text
no-lines = refl

-- one line more
pub line-added : (es : List SigEntry) (i : ℕ) (d : SigEntry) → i < length es → signature_text (take (i + 1) es) ≡ signature_text (take i es) ++ entry_line (get_or es i d)
line-added es i d low = ap signature_text (take_more es i d low) ∙ signature_text-append (take i es) (get_or es i d)
