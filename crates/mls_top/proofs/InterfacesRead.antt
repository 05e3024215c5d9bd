-- The interface of a module, as it was read of its file.
use Rattle.std.proofs.Common.{◌≡◌, ℕ, List, sym, subst}
use Rattle.std.specs.Prelude.{Option, Result, Ok, Err, IfOk, IfErr}
use Rattle.mls_base.specs.Files.{Files}
use Rattle.mls_iface.specs.declared.interface.Interface.{Interface}
use Rattle.mls_iface.specs.Interfaces.{IsInterfaceText}
use Rattle.mls_iface.proofs.DeclaredTypes.{interface_is_valid}
use Rattle.mls_modules.specs.Environments.{IsValidInterface}
use Rattle.mls_top.specs.declared.answer.Stop.{Stop}
use Rattle.mls_top.specs.Lines.{interface_file}
use Rattle.mls_top.specs.Outcomes.{module_limit, ReadsInterface, no_interface, is_interface, is_no_interface}
use Rattle.mls_top.specs.Refusals.{Refusal, text_at}
use Rattle.mls_top.specs.steps.Answering.{IsStop, IsForFault}
use Rattle.mls_top.specs.steps.Fetching.{Learns}
use Rattle.mls_top.proofs.Learning.{learned_then}
use Rattle.mls_top.proofs.Telling.{stop_then}

module _ (told : Option Files) (x : List ℕ) where
  -- what was learned of the file of the interface
  abbrev Learned : (Files → Type 0) → Type 0
  Learned P = Learns told (λ f. f ≡ interface_file x) P

  then : (P Q : Files → Type 0) → ((files : Files) → P files → Q files) → Learned P → Learned Q
  then P Q more = learned_then told (λ f. f ≡ interface_file x) (λ f. f ≡ interface_file x) P Q (λ f n. n) more

  -- it is not there or too long
  pub no_interface_stops : (file : List ℕ) (s : Stop) → file ≡ interface_file x → IsStop (λ r. Learns told (λ f. f ≡ file) (λ files. text_at files file module_limit ≡ Err r)) s
      → IsStop (λ r. Learned (λ files. ReadsInterface files x (Err r))) s
  no_interface_stops file s is h =
      let P : List ℕ → Type 0 = λ file. IsStop (λ r. Learns told (λ f. f ≡ file) (λ files. text_at files file module_limit ≡ Err r)) s in
      stop_then (λ r. Learned (λ files. text_at files (interface_file x) module_limit ≡ Err r)) (λ r. Learned (λ files. ReadsInterface files x (Err r)))
      (λ r it. then (λ files. text_at files (interface_file x) module_limit ≡ Err r) (λ files. ReadsInterface files x (Err r)) (λ files none. no_interface none) it)
      s (subst P is h)

  module _ (file text : List ℕ) (is : file ≡ interface_file x) (there : Learns told (λ f. f ≡ file) (λ files. text_at files file module_limit ≡ Ok text)) where
    has_text : Learned (λ files. text_at files (interface_file x) module_limit ≡ Ok text)
    has_text = let P : List ℕ → Type 0 = λ file. Learns told (λ f. f ≡ file) (λ files. text_at files file module_limit ≡ Ok text) in subst P is there

    -- it is an interface
    pub interface_learned : (read : List ℕ) → read ≡ text → (r : Result Interface Stop) → IfOk r (IsInterfaceText read) → IfOk r (λ i. Learned (λ files. ReadsInterface files x (Ok i)))
    interface_learned read same (Err s) h = tt
    interface_learned read same (Ok i) h =
        let P : List ℕ → Type 0 = λ read. IsInterfaceText read i in
        then (λ files. text_at files (interface_file x) module_limit ≡ Ok text) (λ files. ReadsInterface files x (Ok i)) (λ files it. is_interface it (subst P same h)) has_text

    -- it has a fault
    pub faulty_interface_stops : (second read : List ℕ) → second ≡ interface_file x → read ≡ text → (r : Result Interface Stop) → IfErr r (IsStop (IsForFault second read))
        → IfErr r (IsStop (λ r. Learned (λ files. ReadsInterface files x (Err r))))
    faulty_interface_stops second read is' same (Ok i) h = tt
    faulty_interface_stops second read is' same (Err s) h =
        let P : List ℕ → Type 0 = λ second. IsStop (IsForFault second read) s in
        let Q : List ℕ → Type 0 = λ read. IsStop (IsForFault (interface_file x) read) s in
        stop_then (IsForFault (interface_file x) text) (λ r. Learned (λ files. ReadsInterface files x (Err r)))
        (λ r it.
        let R : Files → Refusal → Type 0 = λ files r. ReadsInterface files x (Err r) in
        then (λ files. text_at files (interface_file x) module_limit ≡ Ok text) (λ files. ReadsInterface files x (Err r))
        (λ files has. subst (R files) (sym it.2) (is_no_interface has it.1)) has_text)
        s (subst Q same (subst P is' h))

-- what a text declares is a valid interface
pub text_is_valid : (read : List ℕ) (r : Result Interface Stop) → IfOk r (IsInterfaceText read) → IfOk r IsValidInterface
text_is_valid read (Err s) h = tt
text_is_valid read (Ok i) h = interface_is_valid read i h
