-- Models of a constraint, by the types of nodes and binders.
use Rattle.std.specs.Prelude.{◌≡◌, ℕ, Contains, slice_get, Some}
use Rattle.std.specs.BTreeMap.{BTreeMap, get}
use Rattle.std.specs.FinMap as env
use Rattle.std.specs.Ordering.{nat_cmp}
use Rattle.mls_book.specs.Predicates.{Predicate, Implies}
use Rattle.mls_automaton.specs.declared.automaton.Polarity.TheVariants.{Negative}
use Rattle.mls_automaton.specs.Heads.{head_value}
use Rattle.mls_automaton.specs.Models.{IsModel}
use Rattle.mls_automaton.specs.declared.scheme.Scheme.{Scheme}
use Rattle.mls_automaton.specs.Schemes.{IsScheme, IsSchemeOf}
use Rattle.mls_book.specs.Schemes as book
use Rattle.mls_term.specs.Derivations.{Known}
use Rattle.mls_solver.specs.declared.goal.Goal.{Goal}
use Rattle.mls_typing.specs.Typed.{IsType}
use Rattle.mls_parts.specs.declared.pose.Need.{Need}
use Rattle.mls_parts.specs.declared.pose.Posing.{Posing}
use Rattle.mls_parts.specs.Posings.{known_in}

-- A model of the constraint by types: the goals hold, each node's root and each binder has its type, and so has what the
-- branches of a conditional go into; each binder's type is below what is needed of it.
pub record HasModel (p : Posing) (type binder : ℕ → Predicate) : Type 0 where
  pub value : ℕ → Predicate
  pub types_are : (s : ℕ) → IsType (value s)
  pub model : IsModel p.automaton value
  pub goals : (g : Goal) → Contains p.goals g → Implies (value g.positive.0) (value g.negative.0)
  pub roots : (i s : ℕ) → get nat_cmp p.roots i ≡ Some s → value s ≡ type i
  pub binders : (x s : ℕ) → get nat_cmp p.binders x ≡ Some s → value s ≡ binder x
  pub results : (i s : ℕ) → get nat_cmp p.results i ≡ Some s → value s ≡ type i
  pub needs : (need : Need) → Contains p.needs need
      → Implies (binder need.binder) (head_value Negative value need.head)

-- the known types are those of these schemes
pub record AreOver (known : Known) (global_types let_types : BTreeMap ℕ Scheme) : Type 0 where
  pub globals : (g : ℕ) (s : Scheme) (b : book.Scheme) → known_in global_types g ≡ Some s
      → slice_get known.globals g ≡ Some b → IsScheme s × IsSchemeOf s b
  pub lets : (k : ℕ) (s : Scheme) (b : book.Scheme) → known_in let_types k ≡ Some s
      → env.get known.lets k ≡ Some b → IsScheme s × IsSchemeOf s b
