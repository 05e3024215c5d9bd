-- Two answers of the same words over the same files agree.
use Rattle.std.proofs.Common.{◌≡◌, ℕ, List, [], All, refl, sym, ap, ◌∙◌, subst}
use Rattle.std.specs.Prelude.{Some, slice_get, Result, Ok, Err}
use Rattle.mls_base.specs.Files.{Files}
use Rattle.mls_lexer.specs.Tokens.{line_of, column_of}
use Rattle.mls_grammar.specs.declared.fault.Fault.TheVariants as names
use Rattle.mls_grammar.specs.declared.module.Binding.{Binding}
use Rattle.mls_grammar.specs.declared.module.ExprNode.{ExprNode}
use Rattle.mls_grammar.specs.declared.module.Module.{Module}
use Rattle.mls_grammar.specs.Modules.{IsModule, IsModuleText}
use Rattle.mls_term.specs.declared.term.Resolved.{Resolved}
use Rattle.mls_term.specs.declared.term.ResolvedBinding.{ResolvedBinding}
use Rattle.mls_term.specs.declared.term.TermNode.{TermNode}
use Rattle.mls_typetext.specs.declared.scheme.ReadScheme.{ReadScheme}
use Rattle.mls_typetext.specs.Schemes.{environment}
use Rattle.mls_deriv.specs.declared.derivation.Derivation.{Derivation}
use Rattle.mls_deriv.specs.declared.derivation.Section.{Section}
use Rattle.mls_deriv.specs.Sections.{schemes_of}
use Rattle.mls_deriv.proofs.Verdicts.{one_verdict}
use Rattle.mls_infer.specs.declared.fault.Site.{Site}
use Rattle.mls_infer.specs.declared.fault.SiteKind.{SiteKind}
use Rattle.mls_iface.specs.declared.interface.Interface.{Interface}
use Rattle.mls_iface.specs.declared.matching.MatchAnswer.TheVariants.{All as all, Missing, TooSpecial}
use Rattle.mls_iface.specs.declared.signature.Signature.{Signature}
use Rattle.mls_iface.specs.Signatures.{AreEntries}
use Rattle.mls_modules.specs.declared.fault.ModuleFault.TheVariants.{UnknownName, NoScheme}
use Rattle.mls_modules.specs.Environments.{IsValidInterface, declared_schemes}
use Rattle.mls_modules.specs.Laws as modules
use Rattle.mls_modules.proofs.SignatureLaws.{one_signature, no_fault_beside_signature, one_module_fault}
use Rattle.mls_modules.proofs.ValidSignatures.{signatures_are_valid}
use Rattle.mls_top.specs.declared.command.Command.{Command}
use Rattle.mls_top.specs.declared.status.Status.{Status}
use Rattle.mls_top.specs.Generator.{generated_name, generated_files}
use Rattle.mls_top.specs.Lines.{module_file, no_scheme_line, too_special_line}
use Rattle.mls_top.specs.Refusals.{Refusal, no_file, too_long, bad_text, no_scheme, absent, too_special, bad_line, not_allowed, for_fault, refusal_status, refusal_text}
use Rattle.mls_top.specs.Outcomes.{HasNoScheme, InfersBindings, unknown_name, one_has_none, all_inferred, Outcome, refused, signed, matching, derived, verified, outcome_status, outcome_text, generated_text, HasSource, Infers, no_source, has_source, Compares, all_match, one_is_absent, one_is_too_special, Checks, no_signature, bad_interface, compared, Derives, not_inferred, has_derivation, ReadsNames, ChecksSteps, all_allowed, one_refused, Verifies, unread, bad_names, bad_derivation, checked}
use Rattle.mls_top.specs.Answers.{no_command, of_command, IsAnswerOf, infer, check, derive, verify, generate}
use Rattle.mls_top.specs.Laws.{both_absent, both_too_special, AreAlike, OneAnswer}
use Rattle.mls_top.proofs.AlikeSignatures.{one_answer_of_alike}
use Rattle.mls_top.proofs.OneReading.{err_is, ok_is, ok_is_no_err, one_interface_read, one_source, not_refused, one_refusal, one_meaning, one_derivation_read, valid_imports}
use Rattle.mls_top.proofs.SamePlaces.{site_stands}
use Rattle.mls_top.proofs.SameVerdicts.{allowed_over, refused_over}

-- two refusals are told alike
abbrev Agree : Refusal → Refusal → Type 0
Agree r s = AreAlike (refusal_status r) (refusal_status s) (refusal_text r) (refusal_text s)

-- a refusal is told as itself
itself : (r : Refusal) → Agree r r
itself (no_file file) = record { one_status = refl; one_text = λ _ _ _. refl; one_binding = λ is. absurd (cc); one_declaration = λ is. absurd (cc) }
itself (too_long file limit) = record { one_status = refl; one_text = λ _ _ _. refl; one_binding = λ is. absurd (cc); one_declaration = λ is. absurd (cc) }
itself (bad_text file text place number words) = record { one_status = refl; one_text = λ _ _ _. refl; one_binding = λ is. absurd (cc); one_declaration = λ is. absurd (cc) }
itself (no_scheme file text place x kind) = record {
  one_status = refl;
  one_text = λ _ other _. absurd (other refl);
  one_binding = λ _. record {
    file = file;
    line = line_of text place;
    column = column_of text place;
    x = x;
    kind = kind;
    other = kind;
    text_is = refl;
    said_is = refl;
  };
  one_declaration = λ is. absurd (cc);
}
itself (absent x declared) = record {
  one_status = refl;
  one_text = λ _ _ other. absurd (other refl);
  one_binding = λ is. absurd (cc);
  one_declaration = λ _. both_absent x declared refl refl;
}
itself (too_special x declared path) = record {
  one_status = refl;
  one_text = λ _ _ other. absurd (other refl);
  one_binding = λ is. absurd (cc);
  one_declaration = λ _. both_too_special x declared path path refl refl;
}
itself (bad_line file line) = record { one_status = refl; one_text = λ _ _ _. refl; one_binding = λ is. absurd (cc); one_declaration = λ is. absurd (cc) }
itself (not_allowed x step) = record { one_status = refl; one_text = λ _ _ _. refl; one_binding = λ is. absurd (cc); one_declaration = λ is. absurd (cc) }

agree : (r s : Refusal) → r ≡ s → Agree r s
agree r s e = subst (λ (s : Refusal). Agree r s) e (itself r)

some_is : {X : Type 0} {x y : X} → Some x ≡ Some y → x ≡ y
some_is e = cc

-- what is found for a module twice: refusals that are told alike, or signatures that are alike
abbrev AreSame : Outcome → Outcome → Type 0
AreSame (refused r) (refused s) = Agree r s
AreSame (signed s) (signed t) = AreEntries s.entries × modules.AreAlike s.entries t.entries
AreSame _ _ = ⊥

module _ (file text : List ℕ) (m : Module) (is : IsModule m) (imports : List Interface) (valid : All IsValidInterface imports) where
  -- the same place of the same binding
  one_site : (x y : List ℕ) (place place' : ℕ) (kind kind' : SiteKind) → HasNoScheme m imports x place → HasNoScheme m imports y place' → Agree (no_scheme file text place x kind) (no_scheme file text place' y kind')
  one_site x y place place' kind kind' h h' =
      let site : Site = record { node = h.node; kind = kind } in
      let other : Site = record { node = h'.node; kind = kind' } in
      let same = one_module_fault m imports (NoScheme h.number site) (NoScheme h'.number other) valid h.without h'.without in
      let number : h.number ≡ h'.number = same.0 in
      let node : h.node ≡ h'.node = same.1 in
      let first = site_stands m imports h.number h.node h.without in
      let second = site_stands m imports h'.number h'.node h'.without in
      let b : first.b ≡ second.b = some_is (sym first.binding ∙ (ap (slice_get m.bindings) number ∙ second.binding)) in
      let n : first.n ≡ second.n = some_is (sym first.stands ∙ ((λ i. slice_get (b i).expr.nodes (node i)) ∙ second.stands)) in
      let found : h.found ≡ first.found = some_is (sym h.stands ∙ first.found_stands) in
      let found' : h'.found ≡ second.found = some_is (sym h'.stands ∙ second.found_stands) in
      let named : x ≡ y = h.x_is ∙ (sym first.name ∙ (ap (λ (b : Binding). b.name) b ∙ (second.name ∙ sym h'.x_is))) in
      let of_first : place ≡ first.n.at = h.place_is ∙ (ap (λ (n : TermNode). n.at) found ∙ sym first.at) in
      let of_second : place' ≡ second.n.at = h'.place_is ∙ (ap (λ (n : TermNode). n.at) found' ∙ sym second.at) in
      let at : place ≡ place' = of_first ∙ (ap (λ (n : ExprNode). n.at) n ∙ sym of_second) in
      record {
        one_status = refl;
        one_text = λ _ other _. absurd (other refl);
        one_binding = λ _. record {
          file = file;
          line = line_of text place;
          column = column_of text place;
          x = x;
          kind = kind;
          other = kind';
          text_is = refl;
          said_is = λ i. no_scheme_line file (line_of text (sym at i)) (column_of text (sym at i)) (sym named i) kind';
        };
        one_declaration = λ is. absurd (cc);
      }

  one_found : (o p : Outcome) → InfersBindings file text m imports o → InfersBindings file text m imports p → AreSame o p
  one_found _ _ (unknown_name {at} h) (unknown_name {at = other} k) =
      agree _ _ (ap (λ at. for_fault file text (names.UnknownName at)) (one_module_fault m imports (UnknownName at) (UnknownName other) valid h k))
  one_found _ _ (unknown_name {at} h) (one_has_none {kind} k) = absurd (one_module_fault m imports (UnknownName at) (NoScheme k.number (record { node = k.node; kind = kind })) valid h k.without)
  one_found _ _ (unknown_name {at} h) (all_inferred {s} k) = absurd (no_fault_beside_signature m imports s (UnknownName at) valid k h)
  one_found _ _ (one_has_none {kind} h) (unknown_name {at} k) = absurd (one_module_fault m imports (UnknownName at) (NoScheme h.number (record { node = h.node; kind = kind })) valid k h.without)
  one_found _ _ (one_has_none {x} {place} {kind} h) (one_has_none {x = y} {place = place'} {kind = kind'} k) = one_site x y place place' kind kind' h k
  one_found _ _ (one_has_none {kind} h) (all_inferred {s} k) = absurd (no_fault_beside_signature m imports s (NoScheme h.number (record { node = h.node; kind = kind })) valid k h.without)
  one_found _ _ (all_inferred {s} h) (unknown_name {at} k) = absurd (no_fault_beside_signature m imports s (UnknownName at) valid h k)
  one_found _ _ (all_inferred {s} h) (one_has_none {kind} k) = absurd (no_fault_beside_signature m imports s (NoScheme k.number (record { node = k.node; kind = kind })) valid h k.without)
  one_found _ _ (all_inferred {s} h) (all_inferred {s = t} k) = (signatures_are_valid m imports s is h, one_signature m imports s t valid h k)

-- a text of a module is one
module_read : (text : List ℕ) (m : Module) → IsModuleText text m → IsModule m
module_read text m it = record { tree = it.tree; no_doubles = it.text_of.no_doubles; nodes = it.nodes }

module _ (files : Files) (x : List ℕ) where
  one_inferred : (o p : Outcome) → Infers files x o → Infers files x p → AreSame o p
  one_inferred _ _ (no_source {r} h) (no_source {r = s} k) = agree r s (one_refusal files x r s h k)
  one_inferred _ _ (no_source {r} h) (has_source {text} {m} {imports} k found) = absurd (not_refused files x text m imports r k h)
  one_inferred _ _ (has_source {text} {m} {imports} h found) (no_source {r} k) = absurd (not_refused files x text m imports r h k)
  one_inferred o p (has_source {text} {m} {imports} h found) (has_source {text = other} {m = n} {imports = others} k found') =
      let same = one_source files x text other m n imports others h k in
      one_found (module_file x) other n (module_read other n k.is_module) others (valid_imports files n.imports others k.reads) o p
      (subst (λ (is : List Interface). InfersBindings (module_file x) other n is o) same.2
      (subst (λ (l : Module). InfersBindings (module_file x) other l imports o) same.1 (subst (λ t. InfersBindings (module_file x) t m imports o) same.0 found)))
      found'

  -- two outcomes are told alike
  abbrev ToldAlike : Outcome → Outcome → Type 0
  ToldAlike o p = AreAlike (outcome_status o) (outcome_status p) (outcome_text x o) (outcome_text x p)

  told : (o p : Outcome) → AreSame o p → ToldAlike o p
  told (refused r) (refused s) same = same
  told (refused r) (signed s) same = absurd same
  told (refused r) matching same = absurd same
  told (refused r) (derived d) same = absurd same
  told (refused r) verified same = absurd same
  told (signed s) (refused r) same = absurd same
  told (signed s) (signed t) same = record { one_status = refl; one_text = λ other _ _. absurd (other refl); one_binding = λ is. absurd (cc); one_declaration = λ is. absurd (cc) }
  told (signed s) matching same = absurd same
  told (signed s) (derived d) same = absurd same
  told (signed s) verified same = absurd same
  told matching p same = absurd same
  told (derived d) p same = absurd same
  told verified p same = absurd same

  module _ (s t : Signature) (i : Interface) (entries : AreEntries s.entries) (are : modules.AreAlike s.entries t.entries) where
    one_comparison : (o p : Outcome) → Compares x s i o → Compares x t i p → ToldAlike o p
    one_comparison _ _ (all_match h) (all_match k) = record { one_status = refl; one_text = λ other _ _. absurd (other refl); one_binding = λ is. absurd (cc); one_declaration = λ is. absurd (cc) }
    one_comparison _ _ (all_match h) (one_is_absent {declared} k) = absurd (one_answer_of_alike s.entries t.entries are entries i.vals all (Missing declared) h k)
    one_comparison _ _ (all_match h) (one_is_too_special {declared} {path} k) = absurd (one_answer_of_alike s.entries t.entries are entries i.vals all (TooSpecial declared path) h k)
    one_comparison _ _ (one_is_absent {declared} h) (all_match k) = absurd (one_answer_of_alike s.entries t.entries are entries i.vals (Missing declared) all h k)
    one_comparison _ _ (one_is_absent {declared} h) (one_is_absent {declared = other} k) =
        let same : declared ≡ other = one_answer_of_alike s.entries t.entries are entries i.vals (Missing declared) (Missing other) h k in
        agree (absent x declared) (absent x other) (ap (absent x) same)
    one_comparison _ _ (one_is_absent {declared} h) (one_is_too_special {declared = other} {path} k) =
        absurd (one_answer_of_alike s.entries t.entries are entries i.vals (Missing declared) (TooSpecial other path) h k)
    one_comparison _ _ (one_is_too_special {declared} {path} h) (all_match k) = absurd (one_answer_of_alike s.entries t.entries are entries i.vals (TooSpecial declared path) all h k)
    one_comparison _ _ (one_is_too_special {declared} {path} h) (one_is_absent {declared = other} k) =
        absurd (one_answer_of_alike s.entries t.entries are entries i.vals (TooSpecial declared path) (Missing other) h k)
    one_comparison _ _ (one_is_too_special {declared} {path} h) (one_is_too_special {declared = other} {path = path'} k) =
        let same : declared ≡ other = one_answer_of_alike s.entries t.entries are entries i.vals (TooSpecial declared path) (TooSpecial other path') h k in
        record {
          one_status = refl;
          one_text = λ _ _ other. absurd (other refl);
          one_binding = λ is. absurd (cc);
          one_declaration = λ _. both_too_special x declared path path' refl (λ n. too_special_line x (sym same n) path');
        }

  one_check : (o p : Outcome) → Checks files x o → Checks files x p → ToldAlike o p
  one_check _ _ (no_signature {r} h) (no_signature {r = s} k) = one_inferred (refused r) (refused s) h k
  one_check _ _ (no_signature {r} h) (bad_interface {s} k read) = absurd (one_inferred (refused r) (signed s) h k)
  one_check _ _ (no_signature {r} h) (compared {s} k read is) = absurd (one_inferred (refused r) (signed s) h k)
  one_check _ _ (bad_interface {s} h read) (no_signature {r} k) = absurd (one_inferred (signed s) (refused r) h k)
  one_check _ _ (bad_interface {r} h read) (bad_interface {r = s} k read') = agree r s (err_is (one_interface_read files x (Err r) (Err s) read read'))
  one_check _ _ (bad_interface {r} h read) (compared {i} k read' is) = absurd (ok_is_no_err (one_interface_read files x (Ok i) (Err r) read' read))
  one_check _ _ (compared {s} h read is) (no_signature {r} k) = absurd (one_inferred (signed s) (refused r) h k)
  one_check _ _ (compared {i} h read is) (bad_interface {r} k read') = absurd (ok_is_no_err (one_interface_read files x (Ok i) (Err r) read read'))
  one_check o p (compared {s} {i} h read is) (compared {s = t} {i = j} k read' is') =
      let same : i ≡ j = ok_is (one_interface_read files x (Ok i) (Ok j) read read') in
      let alike = one_inferred (signed s) (signed t) h k in
      one_comparison s t j alike.0 alike.1 o p (subst (λ (i : Interface). Compares x s i o) same is) is'

  -- whichever derivations of a signature are found, both are
  one_derived : (o p : Outcome) → Derives files x o → Derives files x p → ToldAlike o p
  one_derived _ _ (not_inferred {r} h) (not_inferred {r = s} k) = one_inferred (refused r) (refused s) h k
  one_derived _ _ (not_inferred {r} h) (has_derivation {s} source is d) = absurd (one_inferred (refused r) (signed s) h (has_source source (all_inferred is)))
  one_derived _ _ (has_derivation {s} source is d) (not_inferred {r} k) = absurd (one_inferred (signed s) (refused r) (has_source source (all_inferred is)) k)
  one_derived _ _ (has_derivation source is d) (has_derivation source' is' d') = record {
    one_status = refl;
    one_text = λ other _ _. absurd (other refl);
    one_binding = λ is. absurd (cc);
    one_declaration = λ is. absurd (cc);
  }

  -- steps are checked in one way over names that mean the same
  module _ (known other : List ReadScheme) (same : schemes_of known ≡ schemes_of other) (bindings : List ResolvedBinding) (sections : List Section) where
    one_check_of_steps : (o p : Outcome) → ChecksSteps x known bindings sections o → ChecksSteps x other bindings sections p → ToldAlike o p
    one_check_of_steps _ _ (all_allowed h d) (all_allowed k e) = record { one_status = refl; one_text = λ _ _ _. refl; one_binding = λ is. absurd (cc); one_declaration = λ is. absurd (cc) }
    one_check_of_steps _ _ (all_allowed h d) (one_refused {step} k) = absurd ((one_verdict other bindings sections).not_both step (allowed_over known other same bindings sections h) k)
    one_check_of_steps _ _ (one_refused {step} h) (all_allowed k e) =
        absurd ((one_verdict other bindings sections).not_both step k (refused_over known other same 0 bindings sections step h))
    one_check_of_steps _ _ (one_refused {step} h) (one_refused {step = later} k) =
        agree (not_allowed x step) (not_allowed x later)
        (ap (not_allowed x) ((one_verdict other bindings sections).one_refused step later (refused_over known other same 0 bindings sections step h) k))

  -- names of one source mean one thing
  one_meaning_of : (text other : List ℕ) (m n : Module) (imports others : List Interface) → HasSource files x text m imports → HasSource files x other n others → (r s : Result Resolved Refusal)
      → ReadsNames (module_file x) text m imports r → ReadsNames (module_file x) other n others s → r ≡ s
  one_meaning_of text other m n imports others h k r s read read' =
      let same = one_source files x text other m n imports others h k in
      one_meaning (module_file x) other n others r s
      (subst (λ (is : List Interface). ReadsNames (module_file x) other n is r) same.2
      (subst (λ (l : Module). ReadsNames (module_file x) other l imports r) same.1 (subst (λ t. ReadsNames (module_file x) t m imports r) same.0 read)))
      read'

  one_verified : (o p : Outcome) → Verifies files x o → Verifies files x p → ToldAlike o p
  one_verified _ _ (unread {r} h) (unread {r = s} k) = agree r s (one_refusal files x r s h k)
  one_verified _ _ (unread {r} h) (bad_names {text} {m} {imports} k bad) = absurd (not_refused files x text m imports r k h)
  one_verified _ _ (unread {r} h) (bad_derivation {text} {m} {imports} k means bad) = absurd (not_refused files x text m imports r k h)
  one_verified _ _ (unread {r} h) (checked {text} {m} {imports} k means read mean is) = absurd (not_refused files x text m imports r k h)
  one_verified _ _ (bad_names {text} {m} {imports} h bad) (unread {r} k) = absurd (not_refused files x text m imports r h k)
  one_verified _ _ (bad_names {text} {m} {imports} {r} h bad) (bad_names {text = other} {m = n} {imports = others} {r = s} k bad') =
      agree r s (err_is (one_meaning_of text other m n imports others h k (Err r) (Err s) bad bad'))
  one_verified _ _ (bad_names {text} {m} {imports} {r} h bad) (bad_derivation {text = other} {m = n} {imports = others} {b} k means bad') =
      absurd (ok_is_no_err (one_meaning_of other text n m others imports k h (Ok b) (Err r) means bad))
  one_verified _ _ (bad_names {text} {m} {imports} {r} h bad) (checked {text = other} {m = n} {imports = others} {b} k means read mean is) =
      absurd (ok_is_no_err (one_meaning_of other text n m others imports k h (Ok b) (Err r) means bad))
  one_verified _ _ (bad_derivation {text} {m} {imports} h means bad) (unread {r} k) = absurd (not_refused files x text m imports r h k)
  one_verified _ _ (bad_derivation {text} {m} {imports} {b} h means bad) (bad_names {text = other} {m = n} {imports = others} {r} k bad') =
      absurd (ok_is_no_err (one_meaning_of text other m n imports others h k (Ok b) (Err r) means bad'))
  one_verified _ _ (bad_derivation {r} h means bad) (bad_derivation {r = s} k means' bad') = agree r s (err_is (one_derivation_read files x (Err r) (Err s) bad bad'))
  one_verified _ _ (bad_derivation {r} h means bad) (checked {d} k means' read mean is) = absurd (ok_is_no_err (one_derivation_read files x (Ok d) (Err r) read bad))
  one_verified _ _ (checked {text} {m} {imports} h means read mean is) (unread {r} k) = absurd (not_refused files x text m imports r h k)
  one_verified _ _ (checked {text} {m} {imports} {b} h means read mean is) (bad_names {text = other} {m = n} {imports = others} {r} k bad) =
      absurd (ok_is_no_err (one_meaning_of text other m n imports others h k (Ok b) (Err r) means bad))
  one_verified _ _ (checked {d} h means read mean is) (bad_derivation {r} k means' bad) = absurd (ok_is_no_err (one_derivation_read files x (Ok d) (Err r) read bad))
  one_verified o p (checked {text} {m} {imports} {b} {d} {known} h means read mean is) (checked {text = other} {m = n} {imports = others} {b = c} {d = e} {known = known'} k means' read' mean' is') =
      let source = one_source files x text other m n imports others h k in
      let one : b ≡ c = ok_is (one_meaning_of text other m n imports others h k (Ok b) (Ok c) means means') in
      let also : d ≡ e = ok_is (one_derivation_read files x (Ok d) (Ok e) read read') in
      let alike : schemes_of known ≡ schemes_of known' = mean ∙ (ap (λ (is : List Interface). environment (declared_schemes is) []) source.2 ∙ sym mean') in
      one_check_of_steps known known' alike c.bindings e.sections o p
      (subst (λ (d : Derivation). ChecksSteps x known c.bindings d.sections o) also (subst (λ (b : Resolved). ChecksSteps x known b.bindings d.sections o) one is))
      is'

-- two outcomes for a generated module are told alike
told_generated : (seed count : ℕ) (o p : Outcome) → AreSame o p → AreAlike (outcome_status o) (outcome_status p) (generated_text seed count o) (generated_text seed count p)
told_generated seed count (refused r) (refused s) same = same
told_generated seed count (refused r) (signed s) same = absurd same
told_generated seed count (refused r) matching same = absurd same
told_generated seed count (refused r) (derived d) same = absurd same
told_generated seed count (refused r) verified same = absurd same
told_generated seed count (signed s) (refused r) same = absurd same
told_generated seed count (signed s) (signed t) same = record { one_status = refl; one_text = λ other _ _. absurd (other refl); one_binding = λ is. absurd (cc); one_declaration = λ is. absurd (cc) }
told_generated seed count (signed s) matching same = absurd same
told_generated seed count (signed s) (derived d) same = absurd same
told_generated seed count (signed s) verified same = absurd same
told_generated seed count matching p same = absurd same
told_generated seed count (derived d) p same = absurd same
told_generated seed count verified p same = absurd same

-- answers that tell outcomes by these texts
module _ (said_of : Outcome → List ℕ) where
  told_so : (o p : Outcome) (status other : Status) (text said : List ℕ) → AreAlike (outcome_status o) (outcome_status p) (said_of o) (said_of p)
      → status ≡ outcome_status o → text ≡ said_of o → other ≡ outcome_status p → said ≡ said_of p
      → AreAlike status other text said
  told_so o p status other text said alike s t s' t' =
      subst (λ (s : Status). AreAlike s other text said) (sym s)
      (subst (λ (s : Status). AreAlike (outcome_status o) s text said) (sym s')
      (subst (λ t. AreAlike (outcome_status o) (outcome_status p) t said) (sym t)
      (subst (λ t. AreAlike (outcome_status o) (outcome_status p) (said_of o) t) (sym t') alike)))

one_command : (files : Files) (command : Command) (status other : Status) (text said : List ℕ) → IsAnswerOf files command status text → IsAnswerOf files command other said
    → AreAlike status other text said
one_command files _ status other text said (infer x o found s t) (infer _ p found' s' t') =
    told_so (outcome_text x) o p status other text said (told files x o p (one_inferred files x o p found found')) s t s' t'
one_command files _ status other text said (check x o found s t) (check _ p found' s' t') = told_so (outcome_text x) o p status other text said (one_check files x o p found found') s t s' t'
one_command files _ status other text said (derive x o found s t) (derive _ p found' s' t') =
    told_so (outcome_text x) o p status other text said (one_derived files x o p found found') s t s' t'
one_command files _ status other text said (verify x o found s t) (verify _ p found' s' t') =
    told_so (outcome_text x) o p status other text said (one_verified files x o p found found') s t s' t'
one_command files _ status other text said (generate seed count o found s t) (generate _ _ p found' s' t') =
    told_so (generated_text seed count) o p status other text said (told_generated seed count o p (one_inferred (generated_files seed count) generated_name o p found found')) s t s' t'

pub one_answer : OneAnswer
one_answer files words _ _ _ _ (no_command h) (no_command k) = record { one_status = refl; one_text = λ _ _ _. refl; one_binding = λ is. absurd (cc); one_declaration = λ is. absurd (cc) }
one_answer files words _ other _ said (no_command h) (of_command command k answer) = absurd (cc)
one_answer files words status _ text _ (of_command command h answer) (no_command k) = absurd (cc)
one_answer files words status other text said (of_command command h answer) (of_command command' k answer') =
    let same : command ≡ command' = some_is (sym h ∙ k) in
    one_command files command' status other text said (subst (λ (c : Command). IsAnswerOf files c status text) same answer) answer'
