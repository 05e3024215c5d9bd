-- The derivation of a module, as it was read of its file.
use Rattle.std.proofs.Common.{◌≡◌, ℕ, List, sym, subst}
use Rattle.std.specs.Prelude.{Option, Result, Ok, Err, IfOk, IfErr}
use Rattle.mls_base.specs.Files.{Files}
use Rattle.mls_deriv.specs.declared.derivation.Derivation.{Derivation}
use Rattle.mls_deriv.specs.Texts.{IsTextOf}
use Rattle.mls_top.specs.declared.answer.Stop.{Stop}
use Rattle.mls_top.specs.Lines.{derivation_file}
use Rattle.mls_top.specs.Outcomes.{derivation_limit, ReadsDerivation, no_derivation, is_derivation, is_no_derivation}
use Rattle.mls_top.specs.Refusals.{Refusal, text_at}
use Rattle.mls_top.specs.steps.Answering.{IsStop, IsForBadLine}
use Rattle.mls_top.specs.steps.Fetching.{Learns}
use Rattle.mls_top.proofs.Learning.{learned_then}
use Rattle.mls_top.proofs.Telling.{stop_then}

module _ (told : Option Files) (x : List ℕ) where
  -- what was learned of the file of the derivation
  abbrev Learned : (Files → Type 0) → Type 0
  Learned P = Learns told (λ f. f ≡ derivation_file x) P

  then : (P Q : Files → Type 0) → ((files : Files) → P files → Q files) → Learned P → Learned Q
  then P Q more = learned_then told (λ f. f ≡ derivation_file x) (λ f. f ≡ derivation_file x) P Q (λ f n. n) more

  -- it is not there or too long
  pub no_derivation_stops : (file : List ℕ) (s : Stop) → file ≡ derivation_file x → IsStop (λ r. Learns told (λ f. f ≡ file) (λ files. text_at files file derivation_limit ≡ Err r)) s
      → IsStop (λ r. Learned (λ files. ReadsDerivation files x (Err r))) s
  no_derivation_stops file s is h =
      let P : List ℕ → Type 0 = λ file. IsStop (λ r. Learns told (λ f. f ≡ file) (λ files. text_at files file derivation_limit ≡ Err r)) s in
      stop_then (λ r. Learned (λ files. text_at files (derivation_file x) derivation_limit ≡ Err r)) (λ r. Learned (λ files. ReadsDerivation files x (Err r)))
      (λ r it. then (λ files. text_at files (derivation_file x) derivation_limit ≡ Err r) (λ files. ReadsDerivation files x (Err r)) (λ files none. no_derivation none) it)
      s (subst P is h)

  module _ (file text : List ℕ) (is : file ≡ derivation_file x) (there : Learns told (λ f. f ≡ file) (λ files. text_at files file derivation_limit ≡ Ok text)) where
    has_text : Learned (λ files. text_at files (derivation_file x) derivation_limit ≡ Ok text)
    has_text = let P : List ℕ → Type 0 = λ file. Learns told (λ f. f ≡ file) (λ files. text_at files file derivation_limit ≡ Ok text) in subst P is there

    -- it is that of a derivation
    pub derivation_learned : (read : List ℕ) → read ≡ text → (r : Result Derivation Stop) → IfOk r (IsTextOf read) → IfOk r (λ d. Learned (λ files. ReadsDerivation files x (Ok d)))
    derivation_learned read same (Err s) h = tt
    derivation_learned read same (Ok d) h =
        let P : List ℕ → Type 0 = λ read. IsTextOf read d in
        then (λ files. text_at files (derivation_file x) derivation_limit ≡ Ok text) (λ files. ReadsDerivation files x (Ok d)) (λ files it. is_derivation it (subst P same h)) has_text

    -- it has a bad line
    pub bad_line_stops : (second read : List ℕ) → second ≡ derivation_file x → read ≡ text → (r : Result Derivation Stop) → IfErr r (IsStop (IsForBadLine second read))
        → IfErr r (IsStop (λ r. Learned (λ files. ReadsDerivation files x (Err r))))
    bad_line_stops second read is' same (Ok d) h = tt
    bad_line_stops second read is' same (Err s) h =
        let P : List ℕ → Type 0 = λ second. IsStop (IsForBadLine second read) s in
        let Q : List ℕ → Type 0 = λ read. IsStop (IsForBadLine (derivation_file x) read) s in
        stop_then (IsForBadLine (derivation_file x) text) (λ r. Learned (λ files. ReadsDerivation files x (Err r)))
        (λ r it.
        let R : Files → Refusal → Type 0 = λ files r. ReadsDerivation files x (Err r) in
        then (λ files. text_at files (derivation_file x) derivation_limit ≡ Ok text) (λ files. ReadsDerivation files x (Err r))
        (λ files has. subst (R files) (sym it.2) (is_no_derivation has it.1)) has_text)
        s (subst Q same (subst P is' h))
