-- All words have an answer over all files, or ask for types of a module whose imports are read and whose names have
-- meanings, or for the check of a derivation for one.
use Rattle.std.proofs.Common.{◌≡◌, ◌⊎◌, inl, inr, ℕ, List, [], ◌∷◌, refl, sym, subst}
use Rattle.std.specs.Prelude.{Option, Some, None, Result, Ok, Err}
use Rattle.mls_base.specs.Files.{Files}
use Rattle.mls_grammar.specs.declared.fault.Fault.{Fault}
use Rattle.mls_grammar.specs.declared.fault.Fault.TheVariants.{UnknownName}
use Rattle.mls_grammar.specs.declared.module.Module.{Module}
use Rattle.mls_grammar.specs.declared.module.Import.{Import}
use Rattle.mls_grammar.specs.Trees.{SourceTree}
use Rattle.mls_grammar.specs.Modules.{IsModule, IsTextOf, module_of, IsModuleText}
use Rattle.mls_grammar.specs.GrammarLaws.{IsTreeOrFault}
use Rattle.mls_grammar.proofs.FirstStops.{tree_or_fault}
use Rattle.mls_term.specs.declared.term.Resolved.{Resolved}
use Rattle.mls_names.specs.Resolution.{Resolves, HasUnknownName}
use Rattle.mls_names.proofs.OneResolution.{resolution_or_unknown_name}
use Rattle.mls_iface.specs.declared.interface.IfaceFault.{IfaceFault}
use Rattle.mls_iface.specs.declared.interface.Interface.{Interface}
use Rattle.mls_iface.specs.Interfaces.{IsInterfaceText, HasInterfaceFault}
use Rattle.mls_iface.proofs.InterfaceTotal.{interface_or_fault}
use Rattle.mls_modules.specs.Environments.{declared_names}
use Rattle.mls_top.specs.declared.command.Command.{Command}
use Rattle.mls_top.specs.declared.command.Command.TheVariants.{Infer, Check, Derive, Verify, Generate}
use Rattle.mls_top.specs.declared.status.Status.{Status}
use Rattle.mls_top.specs.declared.status.Status.TheVariants.{Usage}
use Rattle.mls_top.specs.Commands.{command_of}
use Rattle.mls_top.specs.Generator.{generated_name, generated_files}
use Rattle.mls_top.specs.Lines.{module_file, interface_file, derivation_file, usage_line}
use Rattle.mls_top.specs.Refusals.{Refusal, for_fault, for_interface_fault, text_at, refusal_status, refusal_text}
use Rattle.mls_top.specs.Outcomes.{module_limit, derivation_limit, is_faulty, ReadsInterface, no_interface, is_interface, is_no_interface, ReadsImports, no_import, first_refused, later_refused, all_read, HasSource, HasNoSource, no_text, bad_module, bad_import, unknown_name, refused, Infers, no_source, has_source, no_signature, not_inferred, names_mean, no_meaning, no_derivation, Verifies, unread, bad_names, bad_derivation}
use Rattle.mls_top.specs.Answers.{IsAnswer, IsAnswerOf, no_command, of_command, infer, check, derive, verify, generate}
use Rattle.mls_top.specs.Laws.{InfersTypesOf, files_for, AskForTypes, AskForCheck, AnswerExists}

module _ (files : Files) where
  -- every interface is read or refused,
  abbrev InterfaceRead : List ℕ → Type 0
  InterfaceRead x = (r : Result Interface Refusal) × ReadsInterface files x r

  interface_read : (x : List ℕ) → InterfaceRead x
  interface_read x = of_file (text_at files (interface_file x) module_limit) refl
    where
      of_text : (text : List ℕ) → text_at files (interface_file x) module_limit ≡ Ok text
          → ((interface : Interface) × IsInterfaceText text interface) ⊎ ((fault : IfaceFault) × HasInterfaceFault text fault) → InterfaceRead x
      of_text text there (inl (i, is)) = (Ok i, is_interface there is)
      of_text text there (inr (fault, has)) = (Err (for_interface_fault (interface_file x) text fault), is_no_interface there has)

      of_file : (r : Result (List ℕ) Refusal) → text_at files (interface_file x) module_limit ≡ r → InterfaceRead x
      of_file (Err r) there = (Err r, no_interface there)
      of_file (Ok text) there = of_text text there (interface_or_fault text)

  -- and so are imports, up to the first that is refused
  abbrev ImportsRead : List Import → Type 0
  ImportsRead is = (r : Result (List Interface) Refusal) × ReadsImports files is r

  imports_read : (is : List Import) → ImportsRead is
  imports_read [] = (Ok [], no_import)
  imports_read (i ∷ rest) = by (interface_read i.name) (imports_read rest)
    where
      by : InterfaceRead i.name → ImportsRead rest → ImportsRead (i ∷ rest)
      by (Err r, first) more = (Err r, first_refused first)
      by (Ok j, first) (Err r, more) = (Err r, later_refused first more)
      by (Ok j, first) (Ok others, more) = (Ok (j ∷ others), all_read first more)

  module _ (x : List ℕ) where
    -- the module is there with what its imports declare
    pub record Sourced : Type 0 where
      pub text : List ℕ
      pub m : Module
      pub imports : List Interface
      pub source : HasSource files x text m imports
      pub is_module : IsModule m

    abbrev IsSourced : Type 0
    IsSourced = ((r : Refusal) × HasNoSource files x r) ⊎ Sourced

    module _ (text : List ℕ) (there : text_at files (module_file x) module_limit ≡ Ok text) where
      module _ (tree : SourceTree) (is : IsTextOf text tree) where
        read : IsModuleText text (module_of tree)
        read = record { tree = tree; text_of = is; nodes = refl }

        by_imports : ImportsRead (module_of tree).imports → IsSourced
        by_imports (Err r, reads) = inl (r, bad_import there read reads)
        by_imports (Ok imports, reads) = inr (record {
          text = text;
          m = module_of tree;
          imports = imports;
          source = record { text_is = there; is_module = read; reads = reads };
          is_module = record { tree = tree; no_doubles = is.no_doubles; nodes = refl };
        })

      of_text : IsTreeOrFault text → IsSourced
      of_text (inl (tree, is)) = by_imports tree is (imports_read (module_of tree).imports)
      of_text (inr (fault, has)) = inl (for_fault (module_file x) text fault, bad_module there (is_faulty has))

    of_file : (r : Result (List ℕ) Refusal) → text_at files (module_file x) module_limit ≡ r → IsSourced
    of_file (Err r) there = inl (r, no_text there)
    of_file (Ok text) there = of_text text there (tree_or_fault text)

    pub sourced : IsSourced
    sourced = of_file (text_at files (module_file x) module_limit) refl

    -- its names have meanings, or one of them has none
    abbrev Named : Module → List Interface → Type 0
    Named m imports = ((r : Resolved) × Resolves m (declared_names imports) r) ⊎ ((fault : Fault) × HasUnknownName m (declared_names imports) fault)

    pub named : (it : Sourced) → Named it.m it.imports
    named it = resolution_or_unknown_name it.m (declared_names it.imports) it.is_module

module _ (files : Files) where
  -- a command that infers the types of a refused module has its refusal as answer
  answer_of : (x : List ℕ) (command : Command) → InfersTypesOf x command → (r : Refusal) → Infers (files_for files command) x (refused r) → IsAnswerOf files command (refusal_status r) (refusal_text r)
  answer_of x (Infer y) same r h = let P : List ℕ → Type 0 = λ x. Infers files x (refused r) in infer y (refused r) (subst P (sym same) h) refl refl
  answer_of x (Check y) same r h =
      let P : List ℕ → Type 0 = λ x. Infers files x (refused r) in check y (refused r) (no_signature (subst P (sym same) h)) refl refl
  answer_of x (Derive y) same r h =
      let P : List ℕ → Type 0 = λ x. Infers files x (refused r) in derive y (refused r) (not_inferred (subst P (sym same) h)) refl refl
  answer_of x (Verify y) wrong r h = absurd wrong
  answer_of x (Generate seed count) same r h =
      let P : List ℕ → Type 0 = λ x. Infers (generated_files seed count) x (refused r) in generate seed count (refused r) (subst P (sym same) h) refl refl

  module _ (words : List (List ℕ)) where
    abbrev HasAnswer : Type 0
    HasAnswer = ((status : Status) × (text : List ℕ) × IsAnswer files words status text) ⊎ AskForTypes files words ⊎ AskForCheck files words

    module _ (x : List ℕ) (command : Command) (infers : InfersTypesOf x command) (e : command_of words ≡ Some command) where
      abbrev from : Files
      from = files_for files command

      is_refused : (r : Refusal) → Infers from x (refused r) → HasAnswer
      is_refused r h = inl (refusal_status r, refusal_text r, of_command command e (answer_of x command infers r h))

      types_of_named : (it : Sourced from x) → Named from x it.m it.imports → HasAnswer
      types_of_named it (inl (r, resolves)) = inr (inl (record {
        x = x;
        command = command;
        infers = infers;
        words_are = e;
        text = it.text;
        m = it.m;
        imports = it.imports;
        r = r;
        source = it.source;
        resolves = resolves;
      }))
      types_of_named it (inr (fault, has)) =
          let P : Fault → Type 0 = λ fault. HasUnknownName it.m (declared_names it.imports) fault in
          is_refused (for_fault (module_file x) it.text (UnknownName has.place)) (has_source it.source (unknown_name {at = has.place} (subst P has.fault_is has)))

      types_of : IsSourced from x → HasAnswer
      types_of (inl (r, none)) = is_refused r (no_source none)
      types_of (inr it) = types_of_named it (named from x it)

    module _ (x : List ℕ) (e : command_of words ≡ Some (Verify x)) where
      not_verified : (r : Refusal) → Verifies files x (refused r) → HasAnswer
      not_verified r h = inl (refusal_status r, refusal_text r, of_command (Verify x) e (verify x (refused r) h refl refl))

      check_of_text : (it : Sourced files x) (b : Resolved) → Resolves it.m (declared_names it.imports) b → (r : Result (List ℕ) Refusal) → text_at files (derivation_file x) derivation_limit ≡ r → HasAnswer
      check_of_text it b resolves (Err r) there = not_verified r (bad_derivation it.source (names_mean resolves) (no_derivation there))
      check_of_text it b resolves (Ok derivation) there = inr (inr (record {
        x = x;
        words_are = e;
        text = it.text;
        m = it.m;
        imports = it.imports;
        r = b;
        source = it.source;
        resolves = resolves;
        derivation = derivation;
        derivation_is = there;
      }))

      check_of_named : (it : Sourced files x) → Named files x it.m it.imports → HasAnswer
      check_of_named it (inl (b, resolves)) = check_of_text it b resolves (text_at files (derivation_file x) derivation_limit) refl
      check_of_named it (inr (fault, has)) = not_verified (for_fault (module_file x) it.text fault) (bad_names it.source (no_meaning has))

      check_of : IsSourced files x → HasAnswer
      check_of (inl (r, none)) = not_verified r (unread none)
      check_of (inr it) = check_of_named it (named files x it)

    of_words : (o : Option Command) → command_of words ≡ o → HasAnswer
    of_words None e = inl (Usage, usage_line, no_command e)
    of_words (Some (Infer x)) e = types_of x (Infer x) refl e (sourced files x)
    of_words (Some (Check x)) e = types_of x (Check x) refl e (sourced files x)
    of_words (Some (Derive x)) e = types_of x (Derive x) refl e (sourced files x)
    of_words (Some (Verify x)) e = check_of x e (sourced files x)
    of_words (Some (Generate seed count)) e = types_of generated_name (Generate seed count) refl e (sourced (generated_files seed count) generated_name)

pub answer_exists : AnswerExists
answer_exists files words = of_words files words (command_of words) refl
