-- The lines of the entries of some bindings, one after the other.
use Rattle.std.proofs.Common.{◌≡◌, ℕ, ◌+◌, ◌<◌, Bool, List, [], ◌∷◌, ◌++◌, length, refl, sym, ap, ◌∙◌, Some}
use Rattle.std.specs.Prelude.{slice_get, IsTrue, ltb}
use Rattle.std.proofs.lemmas.Bool.{lt-ltb}
use Rattle.std.proofs.lemmas.List.{length-append}
use Rattle.mls_term.specs.declared.term.Resolved.{Resolved}
use Rattle.mls_term.specs.declared.term.ResolvedBinding.{ResolvedBinding}
use Rattle.mls_grammar.specs.declared.module.Module.{Module}
use Rattle.mls_names.specs.Resolution.{Resolves}
use Rattle.mls_typetext.specs.declared.scheme.Names.{Names}
use Rattle.mls_typetext.specs.declared.scheme.ReadScheme.{ReadScheme}
use Rattle.mls_typetext.specs.Texts.{IsTypeText}
use Rattle.mls_automaton.specs.declared.scheme.Scheme.{Scheme}
use Rattle.mls_automaton.specs.Schemes.{IsScheme}
use Rattle.mls_shape.specs.Simplified.{IsSimplified}
use Rattle.mls_print.specs.Laws.{ReadsBack}
use Rattle.mls_print.specs.Printed.{HasNamedFields, IsPrinted}
use Rattle.mls_infer.specs.Inference.{AreNames, IsBestFor}
use Rattle.mls_base.specs.Spelling.{IsName}
use Rattle.mls_term.specs.WellFormed.{IsTerm}
use Rattle.mls_iface.specs.declared.interface.Interface.{Interface}
use Rattle.mls_iface.specs.Signatures.{entry_line, val_line, IsPlain}
use Rattle.mls_iface.proofs.SignatureLines.{no-lines, signature_text-append}
use Rattle.mls_modules.specs.Environments.{declared_names, MeanAfter}
use Rattle.mls_modules.specs.Entries.{IsSignatureText}
use Rattle.mls_modules.specs.steps.Inferring.{HaveLines, IsLineAdded, IsTextOfAll}
use Rattle.mls_modules.proofs.Entries.{entries-append, is_entry, none_yet, one_more}

-- no binding has a line yet
pub no_line : (imports : List Interface) (bs : List ResolvedBinding) (known : Names) (text : List ℕ) → AreNames known → MeanAfter imports [] known → text ≡ [] → HaveLines imports bs 0 known text
no_line imports bs known text named mean none =
    let start = none_yet imports bs known named mean in
    record { entries = []; count = refl; are_entries = start.are_entries; text_is = none ∙ sym no-lines; before = λ low. start }

-- one binding more has a line
pub line_more : (imports : List Interface) (bs : List ResolvedBinding) (k : ℕ) (b : ResolvedBinding) (follows : Bool) (old new : Names) (old_text new_text : List ℕ) → slice_get bs k ≡ Some b → k < length bs
    → follows ≡ ltb (k + 1) (length bs) → HaveLines imports bs k old old_text → IsLineAdded b follows old new old_text new_text → HaveLines imports bs (k + 1) new new_text
line_more imports bs k b follows old new old_text new_text there low last lines added =
    let before = lines.before low in
    let e = added.entry in
    let is = added.is_entry imports lines.entries before.mean in
    record {
      entries = lines.entries ++ e ∷ [];
      count = length-append lines.entries (e ∷ []) ∙ ap (λ n. n + 1) lines.count;
      are_entries = entries-append imports bs lines.entries b e (ap (slice_get bs) lines.count ∙ there) lines.are_entries is;
      text_is = added.text_is ∙ (ap (λ t. t ++ entry_line e) lines.text_is ∙ sym (signature_text-append lines.entries e));
      before = λ more.
          one_more imports bs k b e old new lines.entries (lines.entries ++ e ∷ []) there before is
          (added.names_are (last ∙ lt-ltb (k + 1) (length bs) more)) refl;
    }

-- all have
pub all_lines : (imports : List Interface) (bs : List ResolvedBinding) (k : ℕ) (known : Names) (text : List ℕ) → k ≡ length bs → HaveLines imports bs k known text → IsTextOfAll imports bs text
all_lines imports bs k known text all lines = record {
  entries = lines.entries;
  are_entries = record { count = lines.count ∙ all; are_entries = lines.are_entries };
  text_is = lines.text_is;
}

-- the text of the entries of all bindings is that of a signature of the module
pub text_of_signature : (m : Module) (imports : List Interface) (r : Resolved) (text : List ℕ) → Resolves m (declared_names imports) r → IsTextOfAll imports r.bindings text → IsSignatureText m imports text
text_of_signature m imports r text resolves it = record {
  signature = record { entries = it.entries };
  is_signature = record { resolved = r; resolves = resolves; entries = it.are_entries };
  text_is = it.text_is;
}

-- the line of an entry is added: its text is printed of the scheme of the binding's term, and is read as the entry's
-- scheme, which is added to the names where another binding follows
pub entry_added : (known new : Names) (b : ResolvedBinding) (s : Scheme) (read : ReadScheme) (printed old_text new_text : List ℕ) (follows : Bool) → IsTerm (length known.schemes) b.term.nodes b.term.binders b.term.lets
    → IsName b.name → IsScheme s → IsSimplified s → s.env ≡ [] → HasNamedFields s.automaton → IsBestFor known b.term s → IsPrinted s printed → ReadsBack s printed → IsPlain printed → IsTypeText printed read
    → new_text ≡ old_text ++ val_line b.name printed → (IsTrue follows → new.schemes ≡ known.schemes ++ read ∷ []) → IsLineAdded b follows known new old_text new_text
entry_added known new b s read printed old_text new_text follows term name is simple free named best shown back plain reads said pushed = record {
  entry = record { name = b.name; text = printed; scheme = read };
  is_entry = is_entry known b s (record { name = b.name; text = printed; scheme = read }) term refl name is simple free named best shown back plain reads;
  text_is = said;
  names_are = pushed;
}
