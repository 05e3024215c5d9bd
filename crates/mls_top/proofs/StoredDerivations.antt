-- The text of a derivation that is stored beside its module is verified.
use Rattle.std.proofs.Common.{◌≡◌, ℕ, ◌≤◌, Bool, true, false, cond, List, ◌∷◌, length, refl, sym, ap, ◌∙◌, subst}
use Rattle.std.proofs.lemmas.Slice.Eq.{bytes_eq-Decides}
use Rattle.std.specs.Prelude.{Some, option_map, find, bytes_eq, Result, Ok, Err}
use Rattle.mls_base.specs.Files.{Files, bytes_at}
use Rattle.mls_grammar.specs.declared.module.Import.{Import}
use Rattle.mls_grammar.specs.declared.module.Module.{Module}
use Rattle.mls_iface.specs.declared.interface.Interface.{Interface}
use Rattle.mls_deriv.specs.Texts.{IsTextOf}
use Rattle.mls_top.specs.declared.status.Status.TheVariants.{Done}
use Rattle.mls_top.specs.Answers.{derive, verify}
use Rattle.mls_top.specs.Laws.{DerivedIsVerified}
use Rattle.mls_top.specs.Lines.{module_file, interface_file, derivation_file}
use Rattle.mls_top.specs.Outcomes.{module_limit, derivation_limit, ReadsInterface, no_interface, is_interface, is_no_interface, ReadsImports, no_import, first_refused, later_refused, all_read, HasSource, names_mean, is_derivation, all_allowed, checked, not_inferred, has_derivation, verified}
use Rattle.mls_top.specs.Refusals.{Refusal, no_file, too_long, bad_text, no_scheme, absent, too_special, bad_line, not_allowed, found, text_at, refusal_status}
use Rattle.mls_top.proofs.FileNames.{module_is_no_derivation, interface_is_no_derivation}
use Rattle.mls_top.proofs.Learning.{short}

module _ (files : Files) (x text : List ℕ) where
  abbrev stored : Files
  stored = (derivation_file x, text) ∷ files

  -- what is found at a name, by whether it is that of the derivation
  found_by : (file : List ℕ) (b : Bool) → bytes_eq (derivation_file x) file ≡ b
      → bytes_at stored file ≡ option_map (λ (f : List ℕ × List ℕ). f.1) (cond b (Some (derivation_file x, text)) (find (λ (f : List ℕ × List ℕ). bytes_eq f.0 file) files))
  found_by file b is = ap (λ b. option_map (λ (f : List ℕ × List ℕ). f.1) (cond b (Some (derivation_file x, text)) (find (λ (f : List ℕ × List ℕ). bytes_eq f.0 file) files))) is

  -- other files stay
  other_stays : (file : List ℕ) → (file ≡ derivation_file x → ⊥) → bytes_at stored file ≡ bytes_at files file
  other_stays file differs = by (bytes_eq (derivation_file x) file) refl
    where
      by : (b : Bool) → bytes_eq (derivation_file x) file ≡ b → bytes_at stored file ≡ bytes_at files file
      by true is = absurd (differs (sym ((bytes_eq-Decides (derivation_file x) file).0 is)))
      by false is = found_by file false is

  text_stays : (file : List ℕ) (limit : ℕ) → (file ≡ derivation_file x → ⊥) → text_at stored file limit ≡ text_at files file limit
  text_stays file limit differs = ap (found file limit) (other_stays file differs)

  interface_stays : (y : List ℕ) (r : Result Interface Refusal) → ReadsInterface files y r → ReadsInterface stored y r
  interface_stays y _ (no_interface h) = no_interface (text_stays (interface_file y) module_limit (interface_is_no_derivation x y) ∙ h)
  interface_stays y _ (is_interface h is) = is_interface (text_stays (interface_file y) module_limit (interface_is_no_derivation x y) ∙ h) is
  interface_stays y _ (is_no_interface h has) = is_no_interface (text_stays (interface_file y) module_limit (interface_is_no_derivation x y) ∙ h) has

  imports_stay : (is : List Import) (r : Result (List Interface) Refusal) → ReadsImports files is r → ReadsImports stored is r
  imports_stay _ _ no_import = no_import
  imports_stay _ _ (first_refused {i} {r} first) = first_refused (interface_stays i.name (Err r) first)
  imports_stay _ _ (later_refused {i} {rest} {first = j} {r} first more) = later_refused (interface_stays i.name (Ok j) first) (imports_stay rest (Err r) more)
  imports_stay _ _ (all_read {i} {rest} {first = j} {others} first more) = all_read (interface_stays i.name (Ok j) first) (imports_stay rest (Ok others) more)

  source_stays : (read : List ℕ) (m : Module) (imports : List Interface) → HasSource files x read m imports → HasSource stored x read m imports
  source_stays read m imports h = record {
    text_is = text_stays (module_file x) module_limit (module_is_no_derivation x x) ∙ h.text_is;
    is_module = h.is_module;
    reads = imports_stay m.imports (Ok imports) h.reads;
  }

  -- and the derivation is there
  derivation_there : length text ≤ derivation_limit → text_at stored (derivation_file x) derivation_limit ≡ Ok text
  derivation_there low =
      ap (found (derivation_file x) derivation_limit) (found_by (derivation_file x) true ((bytes_eq-Decides (derivation_file x) (derivation_file x)).1 refl))
      ∙ short (derivation_file x) derivation_limit text low

-- nothing that is refused is done
never_done : (r : Refusal) → Done ≡ refusal_status r → ⊥
never_done (no_file file) is = absurd (cc)
never_done (too_long file limit) is = absurd (cc)
never_done (bad_text file text place number words) is = absurd (cc)
never_done (no_scheme file text place x kind) is = absurd (cc)
never_done (absent x declared) is = absurd (cc)
never_done (too_special x declared path) is = absurd (cc)
never_done (bad_line file line) is = absurd (cc)
never_done (not_allowed x step) is = absurd (cc)

pub derived_is_verified : DerivedIsVerified
derived_is_verified files _ text (derive x _ (not_inferred {r} none) status said) low = absurd (never_done r status)
derived_is_verified files _ text (derive x _ (has_derivation {text = read} {m} {imports} {d} source is it) status said) low =
    verify x verified
    (checked (source_stays files x text read m imports source) (names_mean it.resolves) (is_derivation (derivation_there files x text low) (subst (λ t. IsTextOf t d) (sym said) it.text_of)) it.mean
    (all_allowed it.derives.allowed it.derivable))
    refl refl
