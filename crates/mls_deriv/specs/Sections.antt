-- Which sections and which derivations are allowed, and the first step that is not.
use Rattle.std.specs.Prelude.{◌+◌, ◌≡◌, ◌⊎◌, ℕ, suc, ◌<◌, ◌≤◌, List, [], ◌∷◌, ◌++◌, length, map}
use Rattle.std.specs.FinMap as env
use Rattle.mls_book.specs.Books.{node_at, IsClosedBook}
use Rattle.mls_book.specs.Schemes.{Scheme}
use Rattle.mls_term.specs.declared.term.ResolvedBinding.{ResolvedBinding}
use Rattle.mls_typetext.specs.declared.scheme.ReadScheme.{ReadScheme}
use Rattle.mls_typetext.specs.Texts.{IsTypeText}
use Rattle.mls_typetext.specs.Schemes.{scheme_of}
use Rattle.mls_deriv.specs.declared.derivation.Section.{Section}
use Rattle.mls_deriv.specs.declared.derivation.SectionLine.{SectionLine}
use Rattle.mls_deriv.specs.declared.derivation.SectionLine.TheVariants as line
use Rattle.mls_deriv.specs.declared.derivation.StepLine.{StepLine}
use Rattle.mls_deriv.specs.Steps.{puts_of, pairs_of, env_of, Before, IsAllowed}

-- what stands before the lines that follow a step, or a let line
abbrev pub after_step : Before → StepLine → Before
after_step b step = record b { steps = b.steps ++ step ∷ [] }

abbrev pub after_let : Before → (k number : ℕ) → Before
after_let b k number = record b { lets = b.lets ++ (k, number) ∷ [] }

-- each step of these lines is allowed
abbrev pub AreAllowed : Before → List SectionLine → Type 0
AreAllowed b [] = Unit {0}
AreAllowed b (line.Let k number ∷ rest) = AreAllowed (after_let b k number) rest
AreAllowed b (line.Step step ∷ rest) =
    IsAllowed b (puts_of rest) (pairs_of rest) step × AreAllowed (after_step b step) rest
AreAllowed b (line.Put x n ∷ rest) = AreAllowed b rest
AreAllowed b (line.Pair mode i j ∷ rest) = AreAllowed b rest

-- the steps of these lines
abbrev pub steps_of : List SectionLine → List StepLine
steps_of [] = []
steps_of (line.Let k number ∷ rest) = steps_of rest
steps_of (line.Step step ∷ rest) = step ∷ steps_of rest
steps_of (line.Put x n ∷ rest) = steps_of rest
steps_of (line.Pair mode i j ∷ rest) = steps_of rest

-- the first step of these lines that is not allowed has this number, where the first step has the number n
abbrev pub HasRefused : Before → ℕ → List SectionLine → ℕ → Type 0
HasRefused b n [] refused = ⊥
HasRefused b n (line.Let k number ∷ rest) refused = HasRefused (after_let b k number) n rest refused
HasRefused b n (line.Step step ∷ rest) refused =
    ((IsAllowed b (puts_of rest) (pairs_of rest) step → ⊥) × (refused ≡ n))
    ⊎ (IsAllowed b (puts_of rest) (pairs_of rest) step × HasRefused (after_step b step) (suc n) rest refused)
HasRefused b n (line.Put x m ∷ rest) refused = HasRefused b n rest refused
HasRefused b n (line.Pair mode i j ∷ rest) refused = HasRefused b n rest refused

-- what stands before the lines of a section about this binding
abbrev pub at_start : List Scheme → ResolvedBinding → Section → Before
at_start globals binding section =
    record { term_nodes = binding.term.nodes; globals = globals; book = section.nodes; steps = []; lets = [] }

-- the end of a section is allowed: it has the name of the binding, and its last step gives the whole term the type that
-- was read
pub record IsEndAllowed (binding : ResolvedBinding) (section : Section) (read : ReadScheme) : Type 0 where
  pub name : section.name ≡ binding.name
  pub earlier : List StepLine
  pub last : StepLine
  pub last_is : steps_of section.lines ≡ earlier ++ last ∷ []
  pub root : suc last.node ≡ length binding.term.nodes
  pub env : env_of last.env ≡ env.empty
  pub type : last.root.0 ≡ read.root.0

-- the text of the type of a section is read as this, and the nodes are a closed book that begins with its nodes
pub record IsHeadRead (section : Section) (read : ReadScheme) : Type 0 where
  pub text : IsTypeText section.text read
  pub closed : IsClosedBook section.nodes
  pub longer : length read.book ≤ length section.nodes
  pub begins : (i : ℕ) → i < length read.book → node_at section.nodes i ≡ node_at read.book i

-- the section is about the binding, in an environment of these schemes, and each of its steps and its end are allowed
pub record IsSectionAllowed (globals : List Scheme) (binding : ResolvedBinding) (section : Section)
    (read : ReadScheme) : Type 0 where
  pub head : IsHeadRead section read
  pub lines : AreAllowed (at_start globals binding section) section.lines
  pub end : IsEndAllowed binding section read

-- the schemes of what was read
abbrev pub schemes_of : List ReadScheme → List Scheme
schemes_of known = map scheme_of known

-- there is one allowed section for each binding, where a section knows the types of the sections before it
abbrev pub AreSectionsAllowed : (known : List ReadScheme) → List ResolvedBinding → List Section → Type 0
AreSectionsAllowed known [] [] = Unit {0}
AreSectionsAllowed known (binding ∷ bindings) (section ∷ sections) =
    (read : ReadScheme) × IsSectionAllowed (schemes_of known) binding section read
    × AreSectionsAllowed (known ++ read ∷ []) bindings sections
AreSectionsAllowed known _ _ = ⊥

-- The first step of a section that is not allowed has this number, where its first step has the number n and its end
-- counts as one; a section whose head is not read has none that is.
pub data HasRefusedStep (globals : List Scheme) (n : ℕ) (binding : ResolvedBinding) (section : Section) (refused : ℕ) :
    Type 0 where
  no_head : ((read : ReadScheme) → IsHeadRead section read → ⊥) → refused ≡ n
      → HasRefusedStep globals n binding section refused
  a_step : (read : ReadScheme) → IsHeadRead section read
      → HasRefused (at_start globals binding section) n section.lines refused
      → HasRefusedStep globals n binding section refused
  the_end : (read : ReadScheme) → IsHeadRead section read → AreAllowed (at_start globals binding section) section.lines
      → (IsEndAllowed binding section read → ⊥) → refused ≡ n + length (steps_of section.lines)
      → HasRefusedStep globals n binding section refused

-- The first step of a derivation that is not allowed has this number, where steps are counted from n on and each end
-- counts as one. Where sections are missing or too many, it is the first step that the first of them would have or has.
abbrev pub HasFirstRefused : (known : List ReadScheme) → ℕ → List ResolvedBinding → List Section → ℕ → Type 0
HasFirstRefused known n [] [] refused = ⊥
HasFirstRefused known n [] (section ∷ sections) refused = refused ≡ n
HasFirstRefused known n (binding ∷ bindings) [] refused = refused ≡ n
HasFirstRefused known n (binding ∷ bindings) (section ∷ sections) refused =
    HasRefusedStep (schemes_of known) n binding section refused
    ⊎ ((read : ReadScheme) × IsSectionAllowed (schemes_of known) binding section read
    × HasFirstRefused (known ++ read ∷ []) (n + suc (length (steps_of section.lines))) bindings sections refused)
