-- A module with its signature: what was learned of it, and what is found over it.
use Rattle.std.proofs.Common.{◌≡◌, ◌⊎◌, ℕ, List, All, get_or, sym, ◌∙◌, subst}
use Rattle.std.proofs.lemmas.Option.{slice_get_within, slice_get-get_or}
use Rattle.std.specs.Prelude.{Option, Some, None, Ok, Err, slice_get, position, bytes_eq}
use Rattle.mls_base.specs.Files.{Files}
use Rattle.mls_grammar.specs.declared.module.Import.{Import}
use Rattle.mls_grammar.specs.declared.module.Module.{Module}
use Rattle.mls_iface.specs.declared.interface.Interface.{Interface}
use Rattle.mls_io.specs.Stores.{Holdings, Follows}
use Rattle.mls_iface.specs.declared.signature.Signature.{Signature}
use Rattle.mls_iface.specs.Signatures.{signature_text}
use Rattle.mls_modules.specs.Entries.{IsSignatureOf}
use Rattle.mls_modules.specs.Environments.{IsValidInterface}
use Rattle.mls_top.specs.declared.answer.Answer.{Answer}
use Rattle.mls_top.specs.declared.command.Command.TheVariants.{Infer, Check}
use Rattle.mls_top.specs.declared.status.Status.TheVariants.{Done}
use Rattle.mls_top.specs.declared.answer.Stop.{Stop}
use Rattle.mls_top.specs.declared.infer.SignedModule.{SignedModule}
use Rattle.mls_top.specs.declared.reading.Source.{Source}
use Rattle.mls_top.specs.Answers.{IsOver}
use Rattle.mls_top.specs.Lines.{module_file, interface_file}
use Rattle.mls_top.specs.Outcomes.{ReadsInterface, HasSource, HasNoSource, InfersBindings, all_inferred, Infers, no_source, has_source, refused, signed, Checks, bad_interface, compared, Compares, all_match, one_is_absent, one_is_too_special, Outcome, outcome_status}
use Rattle.mls_top.specs.Refusals.{Refusal}
use Rattle.mls_top.specs.steps.Answering.{IsStop, IsCausedStop, IsAsked, IsAskedStop, IsSignedModule, TellsComparison}
use Rattle.mls_top.specs.steps.Fetching.{Learns, IsFileOf}
use Rattle.mls_top.proofs.FileNames.{own_not_fetched, called}
use Rattle.mls_top.proofs.ImportsRead.{read_among}
use Rattle.mls_top.proofs.Learning.{learned_over, learned_then, learned_both}
use Rattle.mls_top.proofs.Telling.{IsQuiet, quiet_is_uncounted, caused_later, stop_then, infer_is_asked, check_is_asked, check_stops, unsigned_over}

-- a refused source has no signature
pub unsourced_stops : (told : Option Files) (x : List ℕ) (s : Stop) → IsStop (λ r. IsOver told (λ files. HasNoSource files x r)) s → IsStop (λ r. IsOver told (λ files. Infers files x (refused r))) s
unsourced_stops told x s h =
    stop_then (λ r. IsOver told (λ files. HasNoSource files x r)) (λ r. IsOver told (λ files. Infers files x (refused r)))
    (λ r it. record { files = it.files; of_store = it.of_store; holds = no_source it.holds }) s h

module _ (told : Option Files) (x : List ℕ) (source : Source)
    (there : Learns told (IsFileOf x source.parsed.imports) (λ files. HasSource files x source.text.items source.parsed source.imports)) where
  -- there is no signature
  pub bad_bindings_stop : (s : Stop) → IsStop (λ r. InfersBindings (module_file x) source.text.items source.parsed source.imports (refused r)) s
      → IsStop (λ r. IsOver told (λ files. Infers files x (refused r))) s
  bad_bindings_stop s h =
      stop_then (λ r. InfersBindings (module_file x) source.text.items source.parsed source.imports (refused r)) (λ r. IsOver told (λ files. Infers files x (refused r)))
      (λ r none.
      learned_over told (IsFileOf x source.parsed.imports) (λ files. Infers files x (refused r))
      (learned_then told (IsFileOf x source.parsed.imports) (IsFileOf x source.parsed.imports) (λ files. HasSource files x source.text.items source.parsed source.imports) (λ files. Infers files x (refused r))
      (λ f n. n) (λ files is. has_source is none) there))
      s h

  -- there is one
  pub signed_learned : (signature : Signature) → IsSignatureOf source.parsed source.imports signature
      → Learns told (IsFileOf x source.parsed.imports) (λ files. IsSignedModule files x (record { source = source; signature = signature }))
  signed_learned signature is =
      learned_then told (IsFileOf x source.parsed.imports) (IsFileOf x source.parsed.imports) (λ files. HasSource files x source.text.items source.parsed source.imports)
      (λ files. IsSignedModule files x (record { source = source; signature = signature }))
      (λ f n. n) (λ files it. record { source = it; signature = is }) there

-- a module with its signature is one that is found
pub signed_infers : (files : Files) (x : List ℕ) (s : SignedModule) → IsSignedModule files x s → Infers files x (signed s.signature)
signed_infers files x s it = has_source it.source (all_inferred it.signature)

module _ (told : Option Files) (x : List ℕ) (s : SignedModule) (it : Learns told (IsFileOf x s.source.parsed.imports) (λ files. IsSignedModule files x s))
    (apart : (f : List ℕ) → IsFileOf x s.source.parsed.imports f → f ≡ interface_file x → ⊥) where
  -- what was learned of the module and of its own interface
  abbrev with_own : (P : Files → Type 0) → Learns told (λ f. f ≡ interface_file x) P → IsOver told (λ files. IsSignedModule files x s × P files)
  with_own P own =
      learned_over told (λ f. IsFileOf x s.source.parsed.imports f ⊎ (f ≡ interface_file x)) (λ files. IsSignedModule files x s × P files)
      (learned_both (IsFileOf x s.source.parsed.imports) (λ f. f ≡ interface_file x) (λ files. IsSignedModule files x s) P apart told it own)

  -- its own interface is refused
  pub bad_interface_stops : (stop : Stop) → IsStop (λ r. Learns told (λ f. f ≡ interface_file x) (λ files. ReadsInterface files x (Err r))) stop
      → IsStop (λ r. IsOver told (λ files. Checks files x (refused r))) stop
  bad_interface_stops stop h =
      stop_then (λ r. Learns told (λ f. f ≡ interface_file x) (λ files. ReadsInterface files x (Err r))) (λ r. IsOver told (λ files. Checks files x (refused r)))
      (λ r own.
      let over = with_own (λ files. ReadsInterface files x (Err r)) own in
      record { files = over.files; of_store = over.of_store; holds = bad_interface (signed_infers over.files x s over.holds.0) over.holds.1 })
      stop h

  -- it is compared
  pub compared_over : (i : Interface) (o : Outcome) → Learns told (λ f. f ≡ interface_file x) (λ files. ReadsInterface files x (Ok i)) → Compares x s.signature i o
      → IsOver told (λ files. Checks files x o)
  compared_over i o own h =
      let over = with_own (λ files. ReadsInterface files x (Ok i)) own in
      record { files = over.files; of_store = over.of_store; holds = compared (signed_infers over.files x s over.holds.0) over.holds.1 h }

-- a module that imports itself is compared with the interface that was read for the import
pub compared_over_import : (told : Option Files) (x : List ℕ) (s : SignedModule) → Learns told (IsFileOf x s.source.parsed.imports) (λ files. IsSignedModule files x s)
    → (k : ℕ) (i : Import) (own : Interface) (o : Outcome) → slice_get s.source.parsed.imports k ≡ Some i → i.name ≡ x → slice_get s.source.imports k ≡ Some own → Compares x s.signature own o
    → IsOver told (λ files. Checks files x o)
compared_over_import told x s it k i own o at same at' h =
    let over = learned_over told (IsFileOf x s.source.parsed.imports) (λ files. IsSignedModule files x s) it in
    let P : List ℕ → Type 0 = λ x. ReadsInterface over.files x (Ok own) in
    record {
      files = over.files;
      of_store = over.of_store;
      holds = compared (signed_infers over.files x s over.holds) (subst P same (read_among over.files s.source.parsed.imports s.source.imports over.holds.source.reads k i own at at')) h;
    }

-- the comparison is told, and no count speaks of it
compared_quiet : (x : List ℕ) (s : Signature) (i : Interface) (o : Outcome) → Compares x s i o → IsQuiet (outcome_status o)
compared_quiet x s i _ (all_match h) old new = tt
compared_quiet x s i _ (one_is_absent h) old new = tt
compared_quiet x s i _ (one_is_too_special h) old new = tt

module _ (x : List ℕ) (old new : Holdings) (s : SignedModule) (it : Learns old.files (IsFileOf x s.source.parsed.imports) (λ files. IsSignedModule files x s))
    (imports : List Import) (same : imports ≡ s.source.parsed.imports) where
  asked_over : (own : Interface) (answer : Answer) (told : TellsComparison x s.signature own answer) → IsOver old.files (λ files. Checks files x told.outcome) → IsAsked old new (Check x) answer
  asked_over own answer told over =
      check_is_asked x old new answer told.outcome told.tells
      (quiet_is_uncounted (outcome_status told.outcome) answer (compared_quiet x s.signature own told.outcome told.compares) told.tells.status old new) over

  -- where the module imports itself
  pub asked_import : (k : ℕ) → position (λ (i : Import). bytes_eq i.name x) imports ≡ Some k → (own : Interface) → slice_get s.source.imports k ≡ Some own → (answer : Answer) → TellsComparison x s.signature own answer
      → IsAsked old new (Check x) answer
  asked_import k found own at answer told =
      let i = called x imports k found in
      let P : List Import → Type 0 = λ is. slice_get is k ≡ Some i.0 in
      asked_over own answer told (compared_over_import old.files x s it k i.0 own told.outcome (subst P same i.1) i.2 at told.compares)

  module _ (none : position (λ (i : Import). bytes_eq i.name x) imports ≡ None) (mid : Holdings) (follows : Follows old mid) where
    apart : (f : List ℕ) → IsFileOf x s.source.parsed.imports f → f ≡ interface_file x → ⊥
    apart = let P : List Import → Type 0 = λ is. position (λ (i : Import). bytes_eq i.name x) is ≡ None in own_not_fetched x s.source.parsed.imports (subst P same none)

    -- where it does not
    pub asked_own : (own : Interface) → Learns mid.files (λ f. f ≡ interface_file x) (λ files. ReadsInterface files x (Ok own)) → (answer : Answer) → TellsComparison x s.signature own answer
        → IsAsked old new (Check x) answer
    asked_own own read answer told =
        let T : Option Files → Type 0 = λ told. Learns told (λ f. f ≡ interface_file x) (λ files. ReadsInterface files x (Ok own)) in
        asked_over own answer told (compared_over old.files x s it apart own told.outcome (subst T follows.files read) told.compares)

    -- and its interface is refused
    pub own_stops : (stop : Stop) → IsStop (λ r. Learns mid.files (λ f. f ≡ interface_file x) (λ files. ReadsInterface files x (Err r))) stop → IsCausedStop mid new stop → IsAskedStop old new (Check x) stop
    own_stops stop h caused =
        let T : Option Files → Type 0 = λ told. IsStop (λ r. Learns told (λ f. f ≡ interface_file x) (λ files. ReadsInterface files x (Err r))) stop in
        check_stops x old new stop (bad_interface_stops old.files x s it apart stop (subst T follows.files h)) (caused_later stop old mid new follows caused)

-- a module without a signature is refused
pub unsigned_stops : (x : List ℕ) (old new : Holdings) (stop : Stop) → IsStop (λ r. IsOver old.files (λ files. Infers files x (refused r))) stop → IsCausedStop old new stop → IsAskedStop old new (Check x) stop
unsigned_stops x old new stop h caused =
    check_stops x old new stop
    (stop_then (λ r. IsOver old.files (λ files. Infers files x (refused r))) (λ r. IsOver old.files (λ files. Checks files x (refused r))) (unsigned_over old.files x) stop h) caused

-- and one with a signature has it as the answer of `infer`
pub asked_signature : (x : List ℕ) (old new : Holdings) (s : SignedModule) → Learns old.files (IsFileOf x s.source.parsed.imports) (λ files. IsSignedModule files x s)
    → (answer : Answer) → answer.status ≡ Done → answer.text.items ≡ signature_text s.signature.entries → IsAsked old new (Infer x) answer
asked_signature x old new s it answer status text =
    infer_is_asked x old new answer (signed s.signature) (record { status = status; text = text }) (quiet_is_uncounted Done answer (λ old new. tt) status old new)
    (learned_over old.files (IsFileOf x s.source.parsed.imports) (λ files. Infers files x (signed s.signature))
    (learned_then old.files (IsFileOf x s.source.parsed.imports) (IsFileOf x s.source.parsed.imports) (λ files. IsSignedModule files x s) (λ files. Infers files x (signed s.signature))
    (λ f n. n) (λ files. signed_infers files x s) it))

pub bindings_stop : (x file read text : List ℕ) (m : Module) (given imports : List Interface) (s : Stop) → file ≡ module_file x → read ≡ text → given ≡ imports
    → IsStop (λ r. InfersBindings file read m given (refused r)) s → IsStop (λ r. InfersBindings (module_file x) text m imports (refused r)) s
bindings_stop x file read text m given imports s is_file is_text same h =
    let F : List ℕ → Type 0 = λ file. IsStop (λ r. InfersBindings file read m given (refused r)) s in
    let T : List ℕ → Type 0 = λ read. IsStop (λ r. InfersBindings (module_file x) read m given (refused r)) s in
    let G : List Interface → Type 0 = λ given. IsStop (λ r. InfersBindings (module_file x) text m given (refused r)) s in
    subst G same (subst T is_text (subst F is_file h))

-- an interface among valid ones
pub valid_at : (read : List Interface) (k : ℕ) (own : Interface) → All IsValidInterface read → slice_get read k ≡ Some own → IsValidInterface own
valid_at read k own valid at =
    let low = slice_get_within read k own at in
    let here : get_or read k own ≡ own = some_is (sym (slice_get-get_or read k own low) ∙ at) in
    subst IsValidInterface here (valid k own low)
  where
    some_is : {x y : Interface} → Some x ≡ Some y → x ≡ y
    some_is e = cc
