use Rattle.std.proofs.Common.{ℕ, List, All, subst, rules}
use Rattle.std.specs.Prelude.{IsTrue}
use Rattle.std.specs.Ordering.{nat_cmp}
use Rattle.std.proofs.lemmas.Result.{IfOk-weaker}
use Rattle.mls_automaton.specs.declared.scheme.EnvEntry.{EnvEntry}
use Rattle.mls_parts.specs.MetCopies.{AreSeparate}
use Rattle.mls_parts.specs.PosedParts.{IsKnownType}
use Rattle.mls_layout.specs.steps.Posable.{Has, HasJust}
use Rattle.mls_parts.proofs.PosableTypes.{known_type}
use Rattle.mls_parts.proofs.posable.is_known_type.Goals as goal

pub returns : goal.returns
returns c =
    let scheme : IsTrue c.is_scheme.result = search rules in
    let within : IsTrue c.has_binders_in.result = search rules in
    let env = c.as_slice.ensures.entries in
    IfOk-weaker c.are_separate.result (λ is. IsTrue is → AreSeparate c.args.known.now)
    (λ is. IsTrue is → (binders : List ℕ) → HasJust nat_cmp binders c.args.around.now → IsKnownType binders c.args.known.now)
    (λ is apart yes binders just.
    known_type binders c.args.around.now c.args.known.now (c.is_scheme.ensures scheme) c.as_slice.ensures.rise
    (subst (All (λ (entry : EnvEntry). Has c.args.around.now entry.binder)) env (c.has_binders_in.ensures within)) (apart yes) just)
    c.are_separate.ensures
