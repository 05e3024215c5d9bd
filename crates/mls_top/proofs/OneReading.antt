-- What is read of the files is read in one way: a module, an interface, what imports declare, what names mean, and a
-- derivation.
use Rattle.std.proofs.Common.{◌≡◌, ℕ, List, [], ◌∷◌, All, refl, sym, ap, ◌∙◌, subst}
use Rattle.std.proofs.lemmas.List.Elements.{All-nil, All-cons}
use Rattle.std.specs.Prelude.{Result, Ok, Err}
use Rattle.mls_base.specs.Files.{Files}
use Rattle.mls_grammar.specs.declared.module.Module.{Module}
use Rattle.mls_grammar.specs.declared.module.Import.{Import}
use Rattle.mls_grammar.specs.Modules.{IsModuleText}
use Rattle.mls_grammar.proofs.ModuleLaws.{one_module, no_fault_beside_a_module}
use Rattle.mls_grammar.proofs.FirstStops.{one_fault_before_names}
use Rattle.mls_iface.specs.declared.interface.Interface.{Interface}
use Rattle.mls_iface.specs.declared.interface.Val.{Val}
use Rattle.mls_iface.specs.Interfaces.{IsInterfaceText, HasInterfaceFault}
use Rattle.mls_iface.proofs.DeclaredTypes.{interface_is_valid}
use Rattle.mls_iface.proofs.InterfaceLaws.{one_interface, no_fault_beside_interface, one_first_fault}
use Rattle.mls_term.specs.declared.term.Resolved.{Resolved}
use Rattle.mls_names.proofs.OneResolution.{one_resolution, one_unknown_name, no_unknown_name_beside_a_resolution}
use Rattle.mls_deriv.specs.declared.derivation.Derivation.{Derivation}
use Rattle.mls_deriv.specs.BadLines.{IsFirstBadLine}
use Rattle.mls_deriv.specs.Texts.{IsTextOf}
use Rattle.mls_deriv.proofs.OneBadLine as bad_lines
use Rattle.mls_deriv.proofs.TextSections.{one_derivation}
use Rattle.mls_modules.specs.Environments.{IsValidInterface, declared_names}
use Rattle.mls_top.specs.Lines.{module_file, interface_file, derivation_file}
use Rattle.mls_top.specs.Outcomes.{module_limit, ReadsModule, is_module, is_faulty, ReadsInterface, no_interface, is_interface, is_no_interface, ReadsImports, no_import, first_refused, later_refused, all_read, HasSource, HasNoSource, no_text, bad_module, bad_import, ReadsNames, names_mean, no_meaning, ReadsDerivation, no_derivation, is_derivation, is_no_derivation}
use Rattle.mls_top.specs.Refusals.{Refusal, bad_line, for_fault, for_interface_fault, text_at}

abbrev pub ok : (X E : Type 0) → X → Result X E
ok X E x = Ok x

abbrev pub err : (X E : Type 0) → E → Result X E
err X E e = Err e

pub ok_is : {X E : Type 0} {x y : X} → ok X E x ≡ ok X E y → x ≡ y
ok_is e = cc

pub err_is : {X E : Type 0} {x y : E} → err X E x ≡ err X E y → x ≡ y
err_is e = cc

pub ok_is_no_err : {X E : Type 0} {x : X} {y : E} → ok X E x ≡ err X E y → ⊥
ok_is_no_err e = absurd (cc)

pub one_reading : (file text : List ℕ) (r s : Result Module Refusal) → ReadsModule file text r → ReadsModule file text s → r ≡ s
one_reading file text _ _ (is_module {m} h) (is_module {m = n} k) = ap Ok (one_module text m n h k)
one_reading file text _ _ (is_module {m} h) (is_faulty {fault} k) = absurd (no_fault_beside_a_module text m fault h k)
one_reading file text _ _ (is_faulty {fault} h) (is_module {m} k) = absurd (no_fault_beside_a_module text m fault k h)
one_reading file text _ _ (is_faulty {fault} h) (is_faulty {fault = other} k) = ap (λ f. Err (for_fault file text f)) (one_fault_before_names text fault other h k)

-- an interface is what it declares
of_vals : (i j : Interface) → i.vals ≡ j.vals → i ≡ j
of_vals i j same = ap (λ (vals : List Val). record { vals = vals }) same

module _ (files : Files) where
  pub one_interface_read : (x : List ℕ) (r s : Result Interface Refusal) → ReadsInterface files x r → ReadsInterface files x s → r ≡ s
  one_interface_read x _ _ (no_interface {r} h) (no_interface {r = s} k) = let both : Err r ≡ Err s = sym h ∙ k in cc
  one_interface_read x _ _ (no_interface {r} h) (is_interface {text} k it) = let wrong : Err r ≡ Ok text = sym h ∙ k in absurd (cc)
  one_interface_read x _ _ (no_interface {r} h) (is_no_interface {text} k it) = let wrong : Err r ≡ Ok text = sym h ∙ k in absurd (cc)
  one_interface_read x _ _ (is_interface {text} h is) (no_interface {r} k) = let wrong : Ok text ≡ Err r = sym h ∙ k in absurd (cc)
  one_interface_read x _ _ (is_interface {text} {i} h is) (is_interface {text = other} {i = j} k is') =
      let both : Ok text ≡ Ok other = sym h ∙ k in
      let same : text ≡ other = cc in
      let P : List ℕ → Type 0 = λ t. IsInterfaceText t i in
      ap Ok (of_vals i j (one_interface other i j (subst P same is) is'))
  one_interface_read x _ _ (is_interface {text} {i} h is) (is_no_interface {text = other} {fault} k has) =
      let both : Ok text ≡ Ok other = sym h ∙ k in
      let same : text ≡ other = cc in
      let P : List ℕ → Type 0 = λ t. IsInterfaceText t i in
      absurd (no_fault_beside_interface other i fault (subst P same is) has)
  one_interface_read x _ _ (is_no_interface {text} h has) (no_interface {r} k) = let wrong : Ok text ≡ Err r = sym h ∙ k in absurd (cc)
  one_interface_read x _ _ (is_no_interface {text} {fault} h has) (is_interface {text = other} {i} k is) =
      let both : Ok text ≡ Ok other = sym h ∙ k in
      let same : text ≡ other = cc in
      let P : List ℕ → Type 0 = λ t. HasInterfaceFault t fault in
      absurd (no_fault_beside_interface other i fault is (subst P same has))
  one_interface_read x _ _ (is_no_interface {text} {fault} h has) (is_no_interface {text = text'} {fault = other} k has') =
      let both : Ok text ≡ Ok text' = sym h ∙ k in
      let same : text ≡ text' = cc in
      let P : List ℕ → Type 0 = λ t. HasInterfaceFault t fault in
      let one : fault ≡ other = one_first_fault text' fault other (subst P same has) has' in
      λ n. Err (for_interface_fault (interface_file x) (same n) (one n))

  pub one_declared : (is : List Import) (r s : Result (List Interface) Refusal) → ReadsImports files is r → ReadsImports files is s → r ≡ s
  one_declared [] _ _ no_import no_import = refl
  one_declared (i ∷ rest) _ _ (first_refused {r} h) (first_refused {r = s} k) = let both = one_interface_read i.name (Err r) (Err s) h k in cc
  one_declared (i ∷ rest) _ _ (first_refused {r} h) (later_refused {first} k more) = let wrong = one_interface_read i.name (Err r) (Ok first) h k in absurd (cc)
  one_declared (i ∷ rest) _ _ (first_refused {r} h) (all_read {first} k more) = let wrong = one_interface_read i.name (Err r) (Ok first) h k in absurd (cc)
  one_declared (i ∷ rest) _ _ (later_refused {first} h more) (first_refused {r} k) = let wrong = one_interface_read i.name (Ok first) (Err r) h k in absurd (cc)
  one_declared (i ∷ rest) _ _ (later_refused {r} h more) (later_refused {r = s} k more') = let both = one_declared rest (Err r) (Err s) more more' in cc
  one_declared (i ∷ rest) _ _ (later_refused {r} h more) (all_read {others} k more') = let wrong = one_declared rest (Err r) (Ok others) more more' in absurd (cc)
  one_declared (i ∷ rest) _ _ (all_read {first} h more) (first_refused {r} k) = let wrong = one_interface_read i.name (Ok first) (Err r) h k in absurd (cc)
  one_declared (i ∷ rest) _ _ (all_read {others} h more) (later_refused {r} k more') = let wrong = one_declared rest (Ok others) (Err r) more more' in absurd (cc)
  one_declared (i ∷ rest) _ _ (all_read {first} {others} h more) (all_read {first = first'} {others = others'} k more') =
      let one : first ≡ first' = ok_is (one_interface_read i.name (Ok first) (Ok first') h k) in
      let also : others ≡ others' = ok_is (one_declared rest (Ok others) (Ok others') more more') in
      λ n. Ok (one n ∷ also n)

  -- what is read of an interface is valid
  valid_interface : (x : List ℕ) (i : Interface) → ReadsInterface files x (Ok i) → IsValidInterface i
  valid_interface x _ (is_interface {text} {i} h is) = interface_is_valid text i is

  pub valid_imports : (is : List Import) (imports : List Interface) → ReadsImports files is (Ok imports) → All IsValidInterface imports
  valid_imports [] _ no_import = All-nil IsValidInterface
  valid_imports (i ∷ rest) _ (all_read {first} {others} h more) = All-cons IsValidInterface first others (valid_interface i.name first h) (valid_imports rest others more)

module _ (files : Files) (x : List ℕ) where
  -- the module and what its imports declare
  pub one_source : (text other : List ℕ) (m n : Module) (imports others : List Interface) → HasSource files x text m imports → HasSource files x other n others
      → (text ≡ other) × (m ≡ n) × (imports ≡ others)
  one_source text other m n imports others h k =
      let same : text ≡ other = ok_is (sym h.text_is ∙ k.text_is) in
      let P : List ℕ → Type 0 = λ t. IsModuleText t m in
      let one : m ≡ n = one_module other m n (subst P same h.is_module) k.is_module in
      let Q : Module → Type 0 = λ m. ReadsImports files m.imports (Ok imports) in
      (same, one, ok_is (one_declared files n.imports (Ok imports) (Ok others) (subst Q one h.reads) k.reads))

  -- a text that is one module is read as no other, and not refused
  same_text : (text other : List ℕ) (r s : Result Module Refusal) → text_at files (module_file x) module_limit ≡ Ok text → text_at files (module_file x) module_limit ≡ Ok other
      → ReadsModule (module_file x) text r → ReadsModule (module_file x) other s → r ≡ s
  same_text text other r s h k read read' =
      let same : text ≡ other = ok_is (sym h ∙ k) in
      let P : List ℕ → Type 0 = λ t. ReadsModule (module_file x) t r in
      one_reading (module_file x) other r s (subst P same read) read'

  -- imports of one module
  same_imports : (m n : Module) (r s : Result (List Interface) Refusal) → m ≡ n → ReadsImports files m.imports r → ReadsImports files n.imports s → r ≡ s
  same_imports m n r s same read read' =
      let P : Module → Type 0 = λ m. ReadsImports files m.imports r in
      one_declared files n.imports r s (subst P same read) read'

  pub not_refused : (text : List ℕ) (m : Module) (imports : List Interface) (r : Refusal) → HasSource files x text m imports → HasNoSource files x r → ⊥
  not_refused text m imports r h (no_text k) = ok_is_no_err (sym h.text_is ∙ k)
  not_refused text m imports r h (bad_module {text = other} k bad) = ok_is_no_err (same_text text other (Ok m) (Err r) h.text_is k (is_module h.is_module) bad)
  not_refused text m imports r h (bad_import {text = other} {m = n} k is bad) =
      let one : m ≡ n = ok_is (same_text text other (Ok m) (Ok n) h.text_is k (is_module h.is_module) (is_module is)) in
      ok_is_no_err (same_imports m n (Ok imports) (Err r) one h.reads bad)

  pub one_refusal : (r s : Refusal) → HasNoSource files x r → HasNoSource files x s → r ≡ s
  one_refusal r s (no_text h) (no_text k) = err_is (sym h ∙ k)
  one_refusal r s (no_text h) (bad_module k bad) = absurd (ok_is_no_err (sym k ∙ h))
  one_refusal r s (no_text h) (bad_import k is bad) = absurd (ok_is_no_err (sym k ∙ h))
  one_refusal r s (bad_module h bad) (no_text k) = absurd (ok_is_no_err (sym h ∙ k))
  one_refusal r s (bad_module {text} h bad) (bad_module {text = other} k bad') = err_is (same_text text other (Err r) (Err s) h k bad bad')
  one_refusal r s (bad_module {text} h bad) (bad_import {text = other} {m} k is bad') = absurd (ok_is_no_err (same_text other text (Ok m) (Err r) k h (is_module is) bad))
  one_refusal r s (bad_import h is bad) (no_text k) = absurd (ok_is_no_err (sym h ∙ k))
  one_refusal r s (bad_import {text} {m} h is bad) (bad_module {text = other} k bad') = absurd (ok_is_no_err (same_text text other (Ok m) (Err s) h k (is_module is) bad'))
  one_refusal r s (bad_import {text} {m} h is bad) (bad_import {text = other} {m = n} k is' bad') =
      let one : m ≡ n = ok_is (same_text text other (Ok m) (Ok n) h k (is_module is) (is_module is')) in
      err_is (same_imports m n (Err r) (Err s) one bad bad')

  -- the derivation
  pub one_derivation_read : (r s : Result Derivation Refusal) → ReadsDerivation files x r → ReadsDerivation files x s → r ≡ s
  one_derivation_read _ _ (no_derivation {r} h) (no_derivation {r = s} k) = let both : Err r ≡ Err s = sym h ∙ k in cc
  one_derivation_read _ _ (no_derivation {r} h) (is_derivation {text} k it) = absurd (ok_is_no_err (sym k ∙ h))
  one_derivation_read _ _ (no_derivation {r} h) (is_no_derivation {text} k it) = absurd (ok_is_no_err (sym k ∙ h))
  one_derivation_read _ _ (is_derivation {text} h is) (no_derivation {r} k) = absurd (ok_is_no_err (sym h ∙ k))
  one_derivation_read _ _ (is_derivation {text} {d} h is) (is_derivation {text = other} {d = e} k is') =
      let same : text ≡ other = ok_is (sym h ∙ k) in
      let P : List ℕ → Type 0 = λ t. IsTextOf t d in
      ap Ok (one_derivation other d e (subst P same is) is')
  one_derivation_read _ _ (is_derivation {text} {d} h is) (is_no_derivation {text = other} {line} k bad) =
      let same : text ≡ other = ok_is (sym h ∙ k) in
      let P : List ℕ → Type 0 = λ t. IsTextOf t d in
      absurd ((bad_lines.one_reading other).not_both d line (subst P same is) bad)
  one_derivation_read _ _ (is_no_derivation {text} h bad) (no_derivation {r} k) = absurd (ok_is_no_err (sym h ∙ k))
  one_derivation_read _ _ (is_no_derivation {text} {line} h bad) (is_derivation {text = other} {d} k is) =
      let same : text ≡ other = ok_is (sym h ∙ k) in
      let P : List ℕ → Type 0 = λ t. IsFirstBadLine t line in
      absurd ((bad_lines.one_reading other).not_both d line is (subst P same bad))
  one_derivation_read _ _ (is_no_derivation {text} {line} h bad) (is_no_derivation {text = other} {line = second} k bad') =
      let same : text ≡ other = ok_is (sym h ∙ k) in
      let P : List ℕ → Type 0 = λ t. IsFirstBadLine t line in
      ap (λ n. Err (bad_line (derivation_file x) n)) ((bad_lines.one_reading other).one_bad line second (subst P same bad) bad')

-- names mean one thing
pub one_meaning : (file text : List ℕ) (m : Module) (imports : List Interface) (r s : Result Resolved Refusal) → ReadsNames file text m imports r → ReadsNames file text m imports s → r ≡ s
one_meaning file text m imports _ _ (names_mean {b} h) (names_mean {b = c} k) = ap Ok (one_resolution m (declared_names imports) b c h k)
one_meaning file text m imports _ _ (names_mean {b} h) (no_meaning {fault} k) = absurd (no_unknown_name_beside_a_resolution m (declared_names imports) b fault h k)
one_meaning file text m imports _ _ (no_meaning {fault} h) (names_mean {b} k) = absurd (no_unknown_name_beside_a_resolution m (declared_names imports) b fault k h)
one_meaning file text m imports _ _ (no_meaning {fault} h) (no_meaning {fault = other} k) =
    ap (λ f. Err (for_fault file text f)) (one_unknown_name m (declared_names imports) fault other h k)
