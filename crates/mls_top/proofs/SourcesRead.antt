-- The text of a module and the interfaces of its imports, put together: what was learned of each, and the first that is
-- refused.
use Rattle.std.proofs.Common.{◌≡◌, ℕ, List, All, length, sym, ap, ◌∙◌, subst}
use Rattle.std.specs.Prelude.{Option, Ok, Err}
use Rattle.mls_base.specs.Files.{Files}
use Rattle.mls_grammar.specs.declared.module.Import.{Import}
use Rattle.mls_grammar.specs.declared.module.Module.{Module}
use Rattle.mls_grammar.specs.Modules.{IsModuleText}
use Rattle.mls_iface.specs.declared.interface.Interface.{Interface}
use Rattle.mls_modules.specs.Environments.{AreInterfacesOf, IsValidInterface}
use Rattle.mls_top.specs.declared.answer.Stop.{Stop}
use Rattle.mls_top.specs.Answers.{IsOver}
use Rattle.mls_top.specs.Lines.{module_file}
use Rattle.mls_top.specs.Outcomes.{module_limit, ReadsModule, ReadsImports, HasSource, HasNoSource, no_text, bad_module, bad_import}
use Rattle.mls_top.specs.Refusals.{Refusal, text_at}
use Rattle.mls_top.specs.steps.Answering.{IsStop}
use Rattle.mls_top.specs.steps.Fetching.{Learns, IsInterfaceFile, IsFileOf}
use Rattle.mls_top.proofs.FileNames.{not_interface}
use Rattle.mls_top.proofs.Learning.{learned_over, learned_then, learned_both}
use Rattle.mls_top.proofs.Telling.{stop_then}

module _ (told : Option Files) (x : List ℕ) where
  -- a refusal of the module or of an interface
  abbrev IsRefusedOver : Refusal → Type 0
  IsRefusedOver r = IsOver told (λ files. HasNoSource files x r)

  -- the text of the module
  abbrev HasText : List ℕ → Type 0
  HasText text = Learns told (λ f. f ≡ module_file x) (λ files. text_at files (module_file x) module_limit ≡ Ok text)

  pub text_learned : (file text : List ℕ) → file ≡ module_file x → Learns told (λ f. f ≡ file) (λ files. text_at files file module_limit ≡ Ok text) → HasText text
  text_learned file text is h = let P : List ℕ → Type 0 = λ file. Learns told (λ f. f ≡ file) (λ files. text_at files file module_limit ≡ Ok text) in subst P is h

  -- it is not there or too long
  pub no_text_stops : (file : List ℕ) (s : Stop) → file ≡ module_file x → IsStop (λ r. Learns told (λ f. f ≡ file) (λ files. text_at files file module_limit ≡ Err r)) s → IsStop IsRefusedOver s
  no_text_stops file s is h =
      let P : List ℕ → Type 0 = λ file. IsStop (λ r. Learns told (λ f. f ≡ file) (λ files. text_at files file module_limit ≡ Err r)) s in
      stop_then (λ r. Learns told (λ f. f ≡ module_file x) (λ files. text_at files (module_file x) module_limit ≡ Err r)) IsRefusedOver
      (λ r it.
      learned_over told (λ f. f ≡ module_file x) (λ files. HasNoSource files x r)
      (learned_then told (λ f. f ≡ module_file x) (λ f. f ≡ module_file x) (λ files. text_at files (module_file x) module_limit ≡ Err r) (λ files. HasNoSource files x r)
      (λ f n. n) (λ files none. no_text none) it))
      s (subst P is h)

  module _ (text : List ℕ) (there : HasText text) where
    -- it is no module
    pub bad_module_stops : (file read : List ℕ) (s : Stop) → file ≡ module_file x → read ≡ text → IsStop (λ r. ReadsModule file read (Err r)) s → IsStop IsRefusedOver s
    bad_module_stops file read s is same h =
        let P : List ℕ → Type 0 = λ file. IsStop (λ r. ReadsModule file read (Err r)) s in
        let Q : List ℕ → Type 0 = λ read. IsStop (λ r. ReadsModule (module_file x) read (Err r)) s in
        stop_then (λ r. ReadsModule (module_file x) text (Err r)) IsRefusedOver
        (λ r it.
        learned_over told (λ f. f ≡ module_file x) (λ files. HasNoSource files x r)
        (learned_then told (λ f. f ≡ module_file x) (λ f. f ≡ module_file x) (λ files. text_at files (module_file x) module_limit ≡ Ok text) (λ files. HasNoSource files x r)
        (λ f n. n) (λ files is. bad_module is it) there))
        s (subst Q same (subst P is h))

    module _ (m : Module) (is : IsModuleText text m) where
      -- what was learned of the text and of the imports
      abbrev both : (P : Files → Type 0) → Learns told (IsInterfaceFile m.imports) P → Learns told (IsFileOf x m.imports) (λ files. (text_at files (module_file x) module_limit ≡ Ok text) × P files)
      both P read =
          learned_both (λ f. f ≡ module_file x) (IsInterfaceFile m.imports) (λ files. text_at files (module_file x) module_limit ≡ Ok text) P
          (λ f own import. not_interface x import.0.name (sym own ∙ import.2)) told there read

      -- an import is refused
      pub bad_import_stops : (s : Stop) → IsStop (λ r. Learns told (IsInterfaceFile m.imports) (λ files. ReadsImports files m.imports (Err r))) s → IsStop IsRefusedOver s
      bad_import_stops s h =
          stop_then (λ r. Learns told (IsInterfaceFile m.imports) (λ files. ReadsImports files m.imports (Err r))) IsRefusedOver
          (λ r read.
          learned_over told (IsFileOf x m.imports) (λ files. HasNoSource files x r)
          (learned_then told (IsFileOf x m.imports) (IsFileOf x m.imports) (λ files. (text_at files (module_file x) module_limit ≡ Ok text) × ReadsImports files m.imports (Err r)) (λ files. HasNoSource files x r)
          (λ f n. n) (λ files it. bad_import it.0 is it.1) (both (λ files. ReadsImports files m.imports (Err r)) read)))
          s h

      -- all are read
      pub source_learned : (imports : List Interface) → Learns told (IsInterfaceFile m.imports) (λ files. ReadsImports files m.imports (Ok imports)) → Learns told (IsFileOf x m.imports) (λ files. HasSource files x text m imports)
      source_learned imports read =
          learned_then told (IsFileOf x m.imports) (IsFileOf x m.imports) (λ files. (text_at files (module_file x) module_limit ≡ Ok text) × ReadsImports files m.imports (Ok imports)) (λ files. HasSource files x text m imports)
          (λ f n. n) (λ files it. record { text_is = it.0; is_module = is; reads = it.1 }) (both (λ files. ReadsImports files m.imports (Ok imports)) read)

-- what was learned of imports, where they and the files are named otherwise
pub imports_stop : (told mid : Option Files) (given imports : List Import) (s : Stop) → mid ≡ told → given ≡ imports → IsStop (λ r. Learns mid (IsInterfaceFile given) (λ files. ReadsImports files given (Err r))) s
    → IsStop (λ r. Learns told (IsInterfaceFile imports) (λ files. ReadsImports files imports (Err r))) s
imports_stop told mid given imports s is same h =
    let T : Option Files → Type 0 = λ told. IsStop (λ r. Learns told (IsInterfaceFile given) (λ files. ReadsImports files given (Err r))) s in
    let P : List Import → Type 0 = λ is. IsStop (λ r. Learns told (IsInterfaceFile is) (λ files. ReadsImports files is (Err r))) s in
    subst P same (subst T is h)

pub imports_learned : (told mid : Option Files) (given imports : List Import) (read : List Interface) → mid ≡ told → given ≡ imports → Learns mid (IsInterfaceFile given) (λ files. ReadsImports files given (Ok read))
    → Learns told (IsInterfaceFile imports) (λ files. ReadsImports files imports (Ok read))
imports_learned told mid given imports read is same h =
    let T : Option Files → Type 0 = λ told. Learns told (IsInterfaceFile given) (λ files. ReadsImports files given (Ok read)) in
    let P : List Import → Type 0 = λ is. Learns told (IsInterfaceFile is) (λ files. ReadsImports files is (Ok read)) in
    subst P same (subst T is h)

pub interfaces_of : (m : Module) (slice : List Import) (read given : List Interface) → slice ≡ m.imports → given ≡ read → length read ≡ length slice → All IsValidInterface read → AreInterfacesOf m given
interfaces_of m slice read given same same' count valid = record {
  count = ap (λ (is : List Interface). length is) same' ∙ (count ∙ ap (λ (is : List Import). length is) same);
  valid = subst (All IsValidInterface) (sym same') valid;
}
