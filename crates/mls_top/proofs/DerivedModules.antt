-- A derivation of the types of a module, and what is found over it.
use Rattle.std.proofs.Common.{◌≡◌, ℕ, List, subst}
use Rattle.mls_deriv.specs.declared.derivation.Derivation.{Derivation}
use Rattle.mls_deriv.specs.Spellings.{derivation_text}
use Rattle.mls_io.specs.Stores.{Holdings}
use Rattle.mls_iface.specs.declared.interface.Interface.{Interface}
use Rattle.mls_top.specs.declared.answer.Answer.{Answer}
use Rattle.mls_top.specs.declared.command.Command.TheVariants.{Derive}
use Rattle.mls_top.specs.declared.infer.SignedModule.{SignedModule}
use Rattle.mls_top.specs.declared.status.Status.TheVariants.{Done}
use Rattle.mls_top.specs.Outcomes.{IsDerivationOf, Derives, has_derivation, derived}
use Rattle.mls_top.specs.steps.Answering.{IsAsked, IsSignedModule}
use Rattle.mls_top.specs.steps.Fetching.{Learns, IsFileOf}
use Rattle.mls_top.proofs.Learning.{learned_over, learned_then}
use Rattle.mls_top.proofs.Telling.{quiet_is_uncounted, derive_is_asked}

-- a module with its signature has the text of a derivation of it as the answer of `derive`
pub asked_derivation : (x : List ℕ) (old new : Holdings) (s : SignedModule) → Learns old.files (IsFileOf x s.source.parsed.imports) (λ files. IsSignedModule files x s)
    → (given : List Interface) → given ≡ s.source.imports → (d : Derivation) → IsDerivationOf s.source.parsed given s.signature d
    → (answer : Answer) → answer.status ≡ Done → answer.text.items ≡ derivation_text d → IsAsked old new (Derive x) answer
asked_derivation x old new s it given same d is answer status text =
    let P : List Interface → Type 0 = λ given. IsDerivationOf s.source.parsed given s.signature d in
    derive_is_asked x old new answer (derived d) (record { status = status; text = text }) (quiet_is_uncounted Done answer (λ old new. tt) status old new)
    (learned_over old.files (IsFileOf x s.source.parsed.imports) (λ files. Derives files x (derived d))
    (learned_then old.files (IsFileOf x s.source.parsed.imports) (IsFileOf x s.source.parsed.imports) (λ files. IsSignedModule files x s) (λ files. Derives files x (derived d))
    (λ f n. n) (λ files signed. has_derivation signed.source signed.signature (subst P same is)) it))
