-- The parts of a section, each with its constraint, have rows, and so the section has a plan.
--     part_row            the row of one part
--     section_of_parts    the plan of the section
use Rattle.std.proofs.Common.{◌≡◌, ℕ, suc, List, [], ◌∷◌, ◌++◌, length, sym, subst}
use Rattle.std.specs.Prelude.{IsTrue}
use Rattle.std.specs.FinMap as env
use Rattle.mls_book.specs.Schemes.{Env, Scheme}
use Rattle.mls_term.specs.declared.term.ResolvedBinding.{ResolvedBinding}
use Rattle.mls_typetext.specs.declared.scheme.ReadScheme.{ReadScheme}
use Rattle.mls_deriv.specs.declared.derivation.Section.{Section}
use Rattle.mls_deriv.specs.Steps.{env_of, Before}
use Rattle.mls_deriv.specs.Sections.{at_start, IsHeadRead, IsSectionAllowed}
use Rattle.mls_layout.specs.Lets.{FirstPart, HasRowWhere, HaveRows, HaveOwnNumbers}
use Rattle.mls_layout.specs.Parts.{IsGoalOf, HasConstraint, HaveConstraints}
use Rattle.mls_layout.specs.Plans.{PlannedLine, AreLinesOf}
use Rattle.mls_layout.specs.Scopes.{entries}
use Rattle.mls_allowed.proofs.SectionEmitted.{section_emitted}
use Rattle.mls_allowed.proofs.UsesEmitted.{part_has_row}

pub part_row : (b : Before) (known : List FirstPart) (part : ℕ) (d : Env) (type : ℕ) → HasConstraint b known part d type → HasRowWhere b known part d type
part_row b known part d type it =
    subst (λ (e : Env). HasRowWhere b known part e type) (sym it.env)
    (subst (λ t. HasRowWhere b known part (env_of (entries (λ x. it.type_place (it.partner x)) it.scope)) t) (sym it.is_type)
    (part_has_row b it.constraint.automaton (IsGoalOf it.constraint) it.solved.closed it.solved.goals it.solved.free it.general it.special it.solved.solved it.solved.closed_type
    it.walked it.solved.walk it.place it.type_place it.laid_out.layout it.laid_out.closed it.laid_out.parts it.laid_out.places it.laid_out.values
    it.root it.binder known (λ i s. IsTrue (it.is_place i s)) (λ i n. IsTrue (it.is_free i n))
    it.tree it.scope part it.rising it.posed it.is_root it.solved.is_positive it.laid_out.type_places it.partner it.paired))

rows_of : (b : Before) (known firsts : List FirstPart) → HaveConstraints b known firsts → HaveRows b known firsts
rows_of b known [] have = tt
rows_of b known (first ∷ firsts) have = (part_row b known first.part first.env first.type have.0, rows_of b (known ++ first ∷ []) firsts have.1)

pub section_of_parts : (globals : List Scheme) (binding : ResolvedBinding) (section : Section) (read : ReadScheme) → IsHeadRead section read → section.name ≡ binding.name
    → (firsts : List FirstPart) → HaveOwnNumbers firsts → HaveConstraints (at_start globals binding section) [] firsts
    → (e : ℕ) → HasConstraint (at_start globals binding section) firsts e env.empty read.root.0 → suc e ≡ length binding.term.nodes
    → (plan : List PlannedLine) × (AreLinesOf section.nodes [] plan section.lines → IsSectionAllowed globals binding section read)
section_of_parts globals binding section read head name firsts own have e whole is_root =
    section_emitted globals binding section read head name firsts own (rows_of (at_start globals binding section) [] firsts have)
    e (part_row (at_start globals binding section) firsts e env.empty read.root.0 whole) is_root
