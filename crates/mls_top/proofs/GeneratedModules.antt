-- What is found for a generated module, which is that of `infer` over the files where just its text is.
use Rattle.std.proofs.Common.{◌≡◌, ℕ, ◌≤◌, List, [], ◌∷◌, All, length, map, codes, refl, sym, ap, ◌∙◌, subst}
use Rattle.std.proofs.lemmas.List.Elements.{All-nil}
use Rattle.std.specs.Prelude.{Ok, Err, slice_range}
use Rattle.mls_lexer.specs.declared.token.Kind.{Kind}
use Rattle.mls_lexer.specs.declared.token.Kind.TheVariants.{Name, Number, WordImport}
use Rattle.mls_lexer.specs.declared.token.Token.{Token}
use Rattle.mls_lexer.specs.Tokens.{Terminal, word, terminal_of, terminals, IsTokens, place_of}
use Rattle.mls_grammar.specs.Phrases.{source, imports, Phrase, whole, no_import, importing, yields}
use Rattle.mls_grammar.specs.Trees.{SourceTree, ImportTree, meaning}
use Rattle.mls_grammar.specs.declared.module.Import.{Import}
use Rattle.mls_grammar.specs.declared.module.Module.{Module}
use Rattle.mls_grammar.specs.Modules.{IsTextOf, IsModuleText, import_of}
use Rattle.mls_iface.specs.declared.interface.Interface.{Interface}
use Rattle.mls_iface.specs.declared.signature.Signature.{Signature}
use Rattle.mls_iface.specs.Signatures.{signature_text}
use Rattle.mls_modules.specs.Entries.{IsSignatureOf}
use Rattle.mls_modules.specs.Environments.{AreInterfacesOf, IsValidInterface}
use Rattle.mls_top.specs.declared.answer.Answer.{Answer}
use Rattle.mls_top.specs.declared.answer.Stop.{Stop}
use Rattle.mls_top.specs.declared.answer.Stop.TheVariants as stop
use Rattle.mls_top.specs.declared.command.Command.TheVariants.{Generate}
use Rattle.mls_top.specs.declared.status.Status.TheVariants.{Done}
use Rattle.mls_top.specs.Answers.{generate}
use Rattle.mls_top.specs.Generator.{generated, generated_name, generated_files}
use Rattle.mls_top.specs.Lines.{module_file, generated_line}
use Rattle.mls_top.specs.Outcomes.{module_limit, ReadsModule, ReadsImports, bad_module, InfersBindings, all_inferred, Infers, no_source, has_source, Outcome, refused, signed, outcome_status, generated_text}
use Rattle.mls_top.specs.Outcomes.{no_import as nothing_imported}
use Rattle.mls_top.specs.Refusals.{found, text_at}
use Rattle.mls_top.specs.Statuses.{is_answer}
use Rattle.mls_top.specs.steps.Answering.{IsStop, IsUncounted, IsAskedOfNone, IsAskedStopOfNone}
use Rattle.mls_top.proofs.FirstTokens.{no_import_first}
use Rattle.mls_top.proofs.GeneratedTexts.{generated_short, generated_begins}
use Rattle.mls_top.proofs.Learning.{bytes_of_one, short, some_files}
use Rattle.mls_top.proofs.Telling.{outcome_is_answer, quiet_is_uncounted, stop_then}

-- a word has its kind
word_kind_is : (kind : Kind) (bytes : List ℕ) → terminal_of kind bytes ≡ word WordImport → kind ≡ WordImport
word_kind_is Name bytes is = absurd (cc)
word_kind_is Number bytes is = absurd (cc)
word_kind_is _ bytes is = cc

-- a text that begins with `l` imports nothing
nothing_spelled : (rest : List ℕ) (i : Phrase imports) (more : List Terminal) (tokens : List Token) → IsTokens (108 ∷ rest) tokens → yields i more ≡ terminals (108 ∷ rest) tokens → (place : ℕ → ℕ) (k : ℕ)
    → meaning place k i ≡ []
unfolding yields meaning
nothing_spelled rest no_import more tokens are is place k = refl
nothing_spelled rest (importing x i) more [] are is place k = absurd (cc)
nothing_spelled rest (importing x i) more (token ∷ tokens) are is place k =
    let first : terminal_of token.kind (slice_range (108 ∷ rest) token.start token.end) ≡ word WordImport = cc in
    absurd (no_import_first rest token tokens _ are (word_kind_is token.kind (slice_range (108 ∷ rest) token.start token.end) first))

source_imports_nothing : (rest : List ℕ) (p : Phrase source) (tokens : List Token) → IsTokens (108 ∷ rest) tokens → yields p [] ≡ terminals (108 ∷ rest) tokens → (place : ℕ → ℕ)
    → (meaning place 0 p).imported ≡ []
unfolding yields meaning
source_imports_nothing rest (whole i b) tokens are is place = nothing_spelled rest i (yields b []) tokens are is place 0

tree_imports_nothing : (text rest : List ℕ) → text ≡ 108 ∷ rest → (tree : SourceTree) → IsTextOf text tree → tree.imported ≡ []
tree_imports_nothing text rest begins tree it =
    let P : List ℕ → Type 0 = λ text. IsTokens text it.tokens in
    let Q : List ℕ → Type 0 = λ text. yields it.phrase [] ≡ terminals text it.tokens in
    ap (λ (tree : SourceTree). tree.imported) it.meant ∙ source_imports_nothing rest it.phrase it.tokens (subst P begins it.has_tokens) (subst Q begins it.spelled) (place_of it.tokens)

imports_nothing : (text rest : List ℕ) → text ≡ 108 ∷ rest → (m : Module) → IsModuleText text m → m.imports ≡ []
imports_nothing text rest begins m it =
    ap (λ (m : Module). m.imports) it.nodes ∙ ap (λ (trees : List ImportTree). map import_of trees) (tree_imports_nothing text rest begins it.tree it.text_of)

module _ (seed count : ℕ) where
  abbrev text : List ℕ
  text = generated seed count

  -- what is found is what is asked for, and no store has to be told of it
  generate_is_asked : (o : Outcome) → Infers (generated_files seed count) generated_name o → (answer : Answer) → answer.status ≡ outcome_status o → answer.text.items ≡ generated_text seed count o
      → IsUncounted (stop.Refused answer) → IsAskedOfNone (Generate seed count) answer
  generate_is_asked o h answer status said quiet store =
      let some = some_files store.files in
      record {
        answers = record { files = some.0; of_store = some.1; holds = generate seed count o h status said };
        caused = quiet store store;
        answer_status = ap is_answer status ∙ outcome_is_answer o;
      }

  generate_stops : (s : Stop) → IsStop (λ r. Infers (generated_files seed count) generated_name (refused r)) s → IsUncounted s → IsAskedStopOfNone (Generate seed count) s
  generate_stops (stop.Refused answer) h quiet store = generate_is_asked (refused h.0) h.2 answer h.1.status h.1.text quiet store
  generate_stops (stop.Halt why) h quiet store = quiet store store

  module _ (some : 1 ≤ count) (few : count ≤ 10000) where
    there : text_at (generated_files seed count) (module_file generated_name) module_limit ≡ Ok text
    there = ap (found (codes "generated.ml") module_limit) (bytes_of_one (codes "generated.ml") text) ∙ short (codes "generated.ml") module_limit text (generated_short seed count few)

    -- the text is no module
    pub generated_module_stops : (file read : List ℕ) (s : Stop) → file ≡ codes "generated.ml" → read ≡ text → IsStop (λ r. ReadsModule file read (Err r)) s → IsUncounted s
        → IsAskedStopOfNone (Generate seed count) s
    generated_module_stops file read s is same h quiet =
        let P : List ℕ → Type 0 = λ file. IsStop (λ r. ReadsModule file read (Err r)) s in
        let Q : List ℕ → Type 0 = λ read. IsStop (λ r. ReadsModule (codes "generated.ml") read (Err r)) s in
        generate_stops s
        (stop_then (λ r. ReadsModule (codes "generated.ml") text (Err r)) (λ r. Infers (generated_files seed count) generated_name (refused r)) (λ r bad. no_source (bad_module there bad)) s (subst Q same (subst P is h)))
        quiet

    module _ (read : List ℕ) (same : read ≡ text) (m : Module) (is : IsModuleText read m) where
      none : m.imports ≡ []
      none = let begins = generated_begins seed count some in imports_nothing read begins.0 (same ∙ begins.1) m is

      pub generated_imports : (given : List Interface) → given ≡ [] → AreInterfacesOf m given
      generated_imports given nothing =
          let P : List Interface → Type 0 = λ given. All IsValidInterface given in
          record {
            count = ap (λ (given : List Interface). length given) nothing ∙ ap (λ (is : List Import). length is) (sym none);
            valid = subst P (sym nothing) (All-nil IsValidInterface);
          }

      of_bindings : (given : List Interface) → given ≡ [] → (o : Outcome) → InfersBindings (codes "generated.ml") read m given o → Infers (generated_files seed count) generated_name o
      of_bindings given nothing o h =
          let P : List ℕ → Type 0 = λ read. InfersBindings (codes "generated.ml") read m [] o in
          let Q : List Interface → Type 0 = λ given. InfersBindings (codes "generated.ml") read m given o in
          let R : List Import → Type 0 = λ is. ReadsImports (generated_files seed count) is (Ok []) in
          has_source {text = text} {m = m} {imports = []} (record { text_is = there; is_module = subst (λ read. IsModuleText read m) same is; reads = subst R (sym none) nothing_imported }) (subst P same (subst Q nothing h))

      -- it has no signature
      pub generated_bindings_stop : (file : List ℕ) (given : List Interface) (s : Stop) → file ≡ codes "generated.ml" → given ≡ [] → IsStop (λ r. InfersBindings file read m given (refused r)) s → IsUncounted s
          → IsAskedStopOfNone (Generate seed count) s
      generated_bindings_stop file given s named nothing h quiet =
          let P : List ℕ → Type 0 = λ file. IsStop (λ r. InfersBindings file read m given (refused r)) s in
          generate_stops s
          (stop_then (λ r. InfersBindings (codes "generated.ml") read m given (refused r)) (λ r. Infers (generated_files seed count) generated_name (refused r)) (λ r h. of_bindings given nothing (refused r) h) s (subst P named h))
          quiet

      -- it has one
      pub generated_signed : (given : List Interface) → given ≡ [] → (s : Signature) → IsSignatureOf m given s → (bytes printed : ℕ) → bytes ≡ length read → printed ≡ length (signature_text s.entries)
          → (answer : Answer) → answer.status ≡ Done → answer.text.items ≡ generated_line count bytes printed → IsAskedOfNone (Generate seed count) answer
      generated_signed given nothing s h bytes printed of_text of_printed answer status said =
          generate_is_asked (signed s) (of_bindings given nothing (signed s) (all_inferred h)) answer status
          (said ∙ λ i. generated_line count ((of_text ∙ ap (λ (t : List ℕ). length t) same) i) (of_printed i)) (quiet_is_uncounted Done answer (λ old new. tt) status)
