-- The laws of names: with them a module has exactly one resolution, or exactly one first name without a meaning.
use Rattle.std.specs.Prelude.{◌≡◌, ℕ, suc, ◌+◌, ◌≤◌, List, [], ◌∷◌, All, ◌⊎◌}
use Rattle.mls_grammar.specs.declared.module.Module.{Module}
use Rattle.mls_grammar.specs.declared.fault.Fault.{Fault}
use Rattle.mls_term.specs.declared.term.Resolved.{Resolved}
use Rattle.mls_term.specs.declared.term.ResolvedBinding.{ResolvedBinding}
use Rattle.mls_term.specs.WellFormed.{IsTerm}
use Rattle.mls_grammar.specs.Modules.{IsModule, IsModuleText}
use Rattle.mls_names.specs.Resolution.{Resolves, HasUnknownName, declared_count}

-- a module has one resolution
abbrev pub OneResolution : Type 0
OneResolution =
    (m : Module) (declared : List (List (List ℕ))) (r s : Resolved) → Resolves m declared r → Resolves m declared s
    → r ≡ s

-- a module has one first name without a meaning
abbrev pub OneUnknownName : Type 0
OneUnknownName =
    (m : Module) (declared : List (List (List ℕ))) (fault other : Fault) → HasUnknownName m declared fault
    → HasUnknownName m declared other → fault ≡ other

-- a module with a resolution has no name without a meaning
abbrev pub NoUnknownNameBesideAResolution : Type 0
NoUnknownNameBesideAResolution =
    (m : Module) (declared : List (List (List ℕ))) (r : Resolved) (fault : Fault) → Resolves m declared r
    → HasUnknownName m declared fault → ⊥

-- a module has the one or the other
abbrev pub ResolutionOrUnknownName : Type 0
ResolutionOrUnknownName =
    (m : Module) (declared : List (List (List ℕ))) → IsModule m → ((r : Resolved) × Resolves m declared r)
    ⊎ ((fault : Fault) × HasUnknownName m declared fault)

-- of the names of a text's module that have no meaning, the first in the order of the text has the least place
abbrev pub FirstUnknownIsLeast : Type 0
FirstUnknownIsLeast =
    (text : List ℕ) (m : Module) (declared : List (List (List ℕ))) (fault : Fault)
    → IsModuleText text m → (it : HasUnknownName m declared fault) → All (λ other. it.place ≤ other) it.later

-- each binding is a term over an environment of so many schemes, and one more for each binding before it
abbrev pub AreTerms : ℕ → List ResolvedBinding → Type 0
AreTerms count [] = Unit {0}
AreTerms count (b ∷ bs) = IsTerm count b.term.nodes b.term.binders b.term.lets × AreTerms (suc count) bs

-- the bindings of a resolved module are terms over the five operators, what the imports declare, and the bindings
-- before
abbrev pub ResolvedAreTerms : Type 0
ResolvedAreTerms =
    (m : Module) (declared : List (List (List ℕ))) (r : Resolved)
    → IsModule m → Resolves m declared r → AreTerms (5 + declared_count declared) r.bindings
