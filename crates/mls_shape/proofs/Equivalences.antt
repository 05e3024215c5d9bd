-- The equivalences, said of schemes; and the binders are the same.
use Rattle.std.proofs.Common.{◌≡◌, ℕ, [], ◌∷◌, refl, sym, ap, ◌∙◌, Some, None}
use Rattle.std.specs.Prelude.{Option, option_map, is_some}
use Rattle.mls_automaton.specs.Heads.{IsSameSet, IsSameOption}
use Rattle.mls_automaton.specs.Reached.{KeepsReached}
use Rattle.mls_automaton.specs.declared.scheme.Scheme.{Scheme}
use Rattle.mls_automaton.specs.Schemes.{state_of, AreEquivalentSchemes, HaveSameBinders, IsScheme}
use Rattle.mls_shape.specs.Determinised.{IsDeterminised}
use Rattle.mls_shape.specs.Dropped.{DropsRedundant}
use Rattle.mls_shape.specs.Minimised.{IsMinimised}
use Rattle.mls_shape.specs.Simplified.{Simplifies}
use Rattle.mls_shape.proofs.Determinising.{determinised_equivalent}
use Rattle.mls_shape.proofs.Dropping.{dropped_equivalent}
use Rattle.mls_shape.proofs.Minimising.{minimised_equivalent}
use Rattle.mls_shape.proofs.Simplifying.{simplified_equivalent}

pub determinised-equivalent : (s d : Scheme) → IsScheme s → IsScheme d → IsDeterminised s d → AreEquivalentSchemes s d
determinised-equivalent s d is_s is_d it b c is_b is_c = determinised_equivalent s d b c is_s is_d is_b is_c it

pub dropped-equivalent : (s d : Scheme) → IsScheme s → DropsRedundant s d → AreEquivalentSchemes s d
dropped-equivalent s d is_s it b c is_b is_c = dropped_equivalent s d is_s it b c is_b is_c

pub minimised-equivalent : (s m : Scheme) → IsScheme s → IsScheme m → IsMinimised s m → AreEquivalentSchemes s m
minimised-equivalent s m is_s is_m it b c is_b is_c = minimised_equivalent s m is_s is_m it b c is_b is_c

pub simplified-equivalent : (s simple : Scheme) → IsScheme s → IsScheme simple → Simplifies s simple → AreEquivalentSchemes s simple
simplified-equivalent s simple is_s is_simple it b c is_b is_c = simplified_equivalent s simple is_s is_simple it b c is_b is_c

-- binders
same_some : (R : ℕ → ℕ → Type 0) (o other : Option ℕ) → IsSameOption R o other → is_some o ≡ is_some other
same_some R None None same = refl
same_some R None (Some j) same = absurd same
same_some R (Some i) None same = absurd same
same_some R (Some i) (Some j) same = refl

map_some : (f : ℕ → ℕ) (o : Option ℕ) → is_some o ≡ is_some (option_map f o)
map_some f None = refl
map_some f (Some i) = refl

pub determinised-binders : (s d : Scheme) → IsDeterminised s d → HaveSameBinders s d
determinised-binders s d it x = same_some (λ n j. IsSameSet (it.members j) (n ∷ [])) (state_of s.env x) (state_of d.env x) (it.env x)

pub dropped-binders : (s d : Scheme) → DropsRedundant s d → HaveSameBinders s d
dropped-binders s d it x = ap (λ env. is_some (state_of env x)) (sym it.env)

pub minimised-binders : (s m : Scheme) → IsMinimised s m → HaveSameBinders s m
minimised-binders s m it x = map_some it.class_of (state_of s.env x) ∙ ap is_some (sym (it.env x))

pub kept-binders : (kept s : Scheme) → KeepsReached kept s → HaveSameBinders s kept
kept-binders kept s it x = ap is_some (it.embedded.env x) ∙ sym (map_some it.place (state_of kept.env x))

pub simplified-binders : (s simple : Scheme) → Simplifies s simple → HaveSameBinders s simple
simplified-binders s simple it x =
    determinised-binders s it.deterministic it.determinised x
    ∙ (dropped-binders it.deterministic it.dropped it.drops x
    ∙ (minimised-binders it.dropped it.minimal it.minimised x
    ∙ kept-binders simple it.minimal it.keeps x))
