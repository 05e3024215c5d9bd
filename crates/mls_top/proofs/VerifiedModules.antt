-- A derivation for a module: what was learned of both, and what is found over them.
use Rattle.std.proofs.Common.{◌≡◌, ◌⊎◌, ℕ, suc, ◌+◌, List, [], ◌∷◌, All, length, refl, sym, ap, ◌∙◌, subst, arith}
use Rattle.std.specs.Prelude.{Option, Ok, Err}
use Rattle.mls_base.specs.Files.{Files}
use Rattle.mls_grammar.specs.declared.module.Module.{Module}
use Rattle.mls_grammar.specs.Modules.{IsModule, IsModuleText}
use Rattle.mls_iface.specs.declared.interface.Interface.{Interface}
use Rattle.mls_iface.specs.declared.signature.SigEntry.{SigEntry}
use Rattle.mls_io.specs.Stores.{Holdings, Follows}
use Rattle.mls_term.specs.declared.term.Resolved.{Resolved}
use Rattle.mls_term.specs.declared.term.ResolvedBinding.{ResolvedBinding}
use Rattle.mls_typetext.specs.declared.scheme.Names.{Names}
use Rattle.mls_typetext.specs.declared.scheme.ReadScheme.{ReadScheme}
use Rattle.mls_typetext.specs.Laws.{IsReadScheme}
use Rattle.mls_typetext.specs.Schemes.{environment}
use Rattle.mls_names.specs.Resolution.{Resolves, declared_count}
use Rattle.mls_names.specs.ResolutionLaws as resolution
use Rattle.mls_names.proofs.NumberedTerms.{resolved_are_terms}
use Rattle.mls_infer.specs.Inference.{AreNames}
use Rattle.mls_deriv.specs.declared.derivation.Derivation.{Derivation}
use Rattle.mls_deriv.specs.declared.derivation.Section.{Section}
use Rattle.mls_deriv.specs.Laws.{AreTerms}
use Rattle.mls_modules.specs.Environments.{declared_names, declared_schemes, entry_schemes, MeanAfter}
use Rattle.mls_modules.proofs.Environments.{length-names}
use Rattle.mls_top.specs.declared.answer.Answer.{Answer}
use Rattle.mls_top.specs.declared.answer.Stop.{Stop}
use Rattle.mls_top.specs.declared.command.Command.TheVariants.{Verify}
use Rattle.mls_top.specs.declared.reading.Source.{Source}
use Rattle.mls_top.specs.Answers.{IsOver}
use Rattle.mls_top.specs.Lines.{module_file, derivation_file}
use Rattle.mls_top.specs.Outcomes.{HasSource, HasNoSource, ReadsNames, names_mean, ReadsDerivation, ChecksSteps, all_allowed, one_refused, Verifies, unread, bad_names, bad_derivation, checked, Outcome, refused, outcome_status}
use Rattle.mls_top.specs.Refusals.{Refusal}
use Rattle.mls_top.specs.steps.Answering.{IsStop, IsCausedStop, IsAsked, IsAskedStop, TellsCheck}
use Rattle.mls_top.specs.steps.Fetching.{Learns, IsFileOf}
use Rattle.mls_top.proofs.FileNames.{derivation_not_fetched}
use Rattle.mls_top.proofs.Learning.{learned_over, learned_then, learned_both}
use Rattle.mls_top.proofs.Telling.{IsQuiet, quiet_is_uncounted, caused_later, stop_then, verify_is_asked, verify_stops}

-- names that are read have schemes that are
pub read_schemes : (names : Names) → AreNames names → All IsReadScheme names.schemes
read_schemes names are = λ k d low. (are k d low).0

-- bindings are terms, whichever crate says so
same_terms : (count : ℕ) (bindings : List ResolvedBinding) → resolution.AreTerms count bindings → AreTerms count bindings
same_terms count [] are = tt
same_terms count (b ∷ bindings) are = (are.0, same_terms (suc count) bindings are.1)

-- and terms over as many schemes as the names have
pub terms_over : (imports : List Interface) (entries : List SigEntry) (names : Names) (bindings : List ResolvedBinding) → entries ≡ [] → MeanAfter imports entries names
    → resolution.AreTerms (5 + declared_count (declared_names imports)) bindings → AreTerms (length names.schemes) bindings
terms_over imports entries names bindings none mean are =
    let count : length names.schemes ≡ 5 + declared_count (declared_names imports) + length entries = length-names imports entries names mean in
    let nothing : length entries ≡ 0 = ap (λ (l : List SigEntry). length l) none in
    let same : length names.schemes ≡ 5 + declared_count (declared_names imports) = omega arith in
    subst (λ n. AreTerms n bindings) (sym same) (same_terms (5 + declared_count (declared_names imports)) bindings are)

-- what is known where there are no entries yet
pub nothing_more : (imports : List Interface) (entries : List SigEntry) → entries ≡ [] → environment (declared_schemes imports) (entry_schemes entries) ≡ environment (declared_schemes imports) []
nothing_more imports entries none = ap (λ (l : List SigEntry). environment (declared_schemes imports) (entry_schemes l)) none

-- the bindings of a text's module are terms
pub text_terms : (text : List ℕ) (m : Module) (imports : List Interface) (r : Resolved) → IsModuleText text m → Resolves m (declared_names imports) r
    → resolution.AreTerms (5 + declared_count (declared_names imports)) r.bindings
text_terms text m imports r it resolves =
    resolved_are_terms m (declared_names imports) r (record { tree = it.tree; no_doubles = it.text_of.no_doubles; nodes = it.nodes }) resolves

-- what names mean, and why they mean nothing, over a list of interfaces that was read
pub meant : (m : Module) (given imports : List Interface) (r : Resolved) → given ≡ imports → Resolves m (declared_names given) r → Resolves m (declared_names imports) r
meant m given imports r same = let P : List Interface → Type 0 = λ is. Resolves m (declared_names is) r in subst P same

pub names_stop : (x file read text : List ℕ) (m : Module) (given imports : List Interface) (s : Stop) → file ≡ module_file x → read ≡ text → given ≡ imports
    → IsStop (λ r. ReadsNames file read m given (Err r)) s → IsStop (λ r. ReadsNames (module_file x) text m imports (Err r)) s
names_stop x file read text m given imports s is_file is_text same h =
    let F : List ℕ → Type 0 = λ file. IsStop (λ r. ReadsNames file read m given (Err r)) s in
    let T : List ℕ → Type 0 = λ read. IsStop (λ r. ReadsNames (module_file x) read m given (Err r)) s in
    let G : List Interface → Type 0 = λ given. IsStop (λ r. ReadsNames (module_file x) text m given (Err r)) s in
    subst G same (subst T is_text (subst F is_file h))

pub check_told : (x : List ℕ) (given imports : List Interface) (bindings : List ResolvedBinding) (sections : List Section) (answer : Answer) → given ≡ imports
    → TellsCheck x given bindings sections answer → TellsCheck x imports bindings sections answer
check_told x given imports bindings sections answer same = let P : List Interface → Type 0 = λ is. TellsCheck x is bindings sections answer in subst P same

-- a refused source has no derivation that is allowed
pub unread_stops : (x : List ℕ) (old new : Holdings) (s : Stop) → IsStop (λ r. IsOver old.files (λ files. HasNoSource files x r)) s → IsCausedStop old new s → IsAskedStop old new (Verify x) s
unread_stops x old new s h caused =
    verify_stops x old new s
    (stop_then (λ r. IsOver old.files (λ files. HasNoSource files x r)) (λ r. IsOver old.files (λ files. Verifies files x (refused r)))
    (λ r it. record { files = it.files; of_store = it.of_store; holds = unread it.holds }) s h)
    caused

-- a check is told, and no count speaks of it
check_quiet : (x : List ℕ) (known : List ReadScheme) (bindings : List ResolvedBinding) (sections : List Section) (o : Outcome) → ChecksSteps x known bindings sections o → IsQuiet (outcome_status o)
check_quiet x known bindings sections _ (all_allowed h d) old new = tt
check_quiet x known bindings sections _ (one_refused h) old new = tt

module _ (x : List ℕ) (old mid new : Holdings) (source : Source) (follows : Follows old mid)
    (there : Learns old.files (IsFileOf x source.parsed.imports) (λ files. HasSource files x source.text.items source.parsed source.imports)) where
  abbrev IsSource : Files → Type 0
  IsSource files = HasSource files x source.text.items source.parsed source.imports

  -- a name has no meaning
  pub bad_names_stop : (s : Stop) → IsStop (λ r. ReadsNames (module_file x) source.text.items source.parsed source.imports (Err r)) s → IsCausedStop old new s → IsAskedStop old new (Verify x) s
  bad_names_stop s h caused =
      verify_stops x old new s
      (stop_then (λ r. ReadsNames (module_file x) source.text.items source.parsed source.imports (Err r)) (λ r. IsOver old.files (λ files. Verifies files x (refused r)))
      (λ r bad.
      learned_over old.files (IsFileOf x source.parsed.imports) (λ files. Verifies files x (refused r))
      (learned_then old.files (IsFileOf x source.parsed.imports) (IsFileOf x source.parsed.imports) IsSource (λ files. Verifies files x (refused r))
      (λ f n. n) (λ files is. bad_names is bad) there))
      s h)
      caused

  -- what was learned of the module and of the derivation
  with_derivation : (P : Files → Type 0) → Learns mid.files (λ f. f ≡ derivation_file x) P → IsOver old.files (λ files. IsSource files × P files)
  with_derivation P own =
      let T : Option Files → Type 0 = λ told. Learns told (λ f. f ≡ derivation_file x) P in
      learned_over old.files (λ f. IsFileOf x source.parsed.imports f ⊎ (f ≡ derivation_file x)) (λ files. IsSource files × P files)
      (learned_both (IsFileOf x source.parsed.imports) (λ f. f ≡ derivation_file x) IsSource P (derivation_not_fetched x source.parsed.imports) old.files there (subst T follows.files own))

  module _ (b : Resolved) (means : Resolves source.parsed (declared_names source.imports) b) where
    -- the derivation is refused
    pub bad_derivation_stops : (s : Stop) → IsStop (λ r. Learns mid.files (λ f. f ≡ derivation_file x) (λ files. ReadsDerivation files x (Err r))) s → IsCausedStop mid new s → IsAskedStop old new (Verify x) s
    bad_derivation_stops s h caused =
        verify_stops x old new s
        (stop_then (λ r. Learns mid.files (λ f. f ≡ derivation_file x) (λ files. ReadsDerivation files x (Err r))) (λ r. IsOver old.files (λ files. Verifies files x (refused r)))
        (λ r own.
        let over = with_derivation (λ files. ReadsDerivation files x (Err r)) own in
        record { files = over.files; of_store = over.of_store; holds = bad_derivation over.holds.0 (names_mean means) over.holds.1 })
        s h)
        (caused_later s old mid new follows caused)

    -- it is checked
    pub asked_check : (d : Derivation) → Learns mid.files (λ f. f ≡ derivation_file x) (λ files. ReadsDerivation files x (Ok d)) → (answer : Answer) → TellsCheck x source.imports b.bindings d.sections answer
        → IsAsked old new (Verify x) answer
    asked_check d own answer told =
        let over = with_derivation (λ files. ReadsDerivation files x (Ok d)) own in
        verify_is_asked x old new answer told.outcome told.tells
        (quiet_is_uncounted (outcome_status told.outcome) answer (check_quiet x told.known b.bindings d.sections told.outcome told.checks) told.tells.status old new)
        (record { files = over.files; of_store = over.of_store; holds = checked over.holds.0 (names_mean means) over.holds.1 told.mean told.checks })
