-- The parts of a part have their numbers, and the binders around them.
--     placed_whole                                a whole term
--     placed_fun, placed_fix                      the body of a function and of a recursion
--     placed_project
--     placed_function, placed_argument            the two parts of an application
--     placed_condition, placed_first_branch, placed_second_branch
--     placed_first, placed_second                 the two parts of a let
--     placed_fields, placed_field, placed_rest    the parts of a record
use Rattle.std.proofs.Common.{inl, inr, ℕ, List, [], ◌∷◌, ◌++◌, subst, sym}
use Rattle.std.specs.Prelude.{Contains}
use Rattle.std.proofs.lemmas.List.Elements.{Contains-append_left, Contains-append_right}
use Rattle.mls_term.specs.declared.term.TermNode.{TermNode}
use Rattle.mls_term.specs.Terms.{TermTree, TermFields, fun, apply, make, project, choice, local, fix, a_field}
use Rattle.mls_term.specs.WellFormed.{AreScoped, binders_of, field_binders_of, IsTerm}
use Rattle.mls_typing.proofs.Lists.{Contains-later, Contains-cases, nothing_in}
use Rattle.mls_parts.specs.NumberedNodes.{behind, AreNumbered, IsPlaced}
use Rattle.mls_allowed.proofs.DistinctLists.{AreDistinct, distinct_left, distinct_right, distinct_rest, distinct_first}
use Rattle.mls_parts.proofs.NumberedNodes.{numbered_whole}

-- the binders around are not bound inside
abbrev pub AreApart : List ℕ → List ℕ → Type 0
AreApart scope bs = (x : ℕ) → Contains scope x → Contains bs x → ⊥

pub apart_left : (scope bs cs : List ℕ) → AreApart scope (bs ++ cs) → AreApart scope bs
apart_left scope bs cs apart x around inside = apart x around (Contains-append_left bs cs x inside)

pub apart_right : (scope bs cs : List ℕ) → AreApart scope (bs ++ cs) → AreApart scope cs
apart_right scope bs cs apart x around inside = apart x around (Contains-append_right bs cs x inside)

pub apart_under : (scope : List ℕ) (x : ℕ) (bs : List ℕ) → AreDistinct (x ∷ bs) → AreApart scope (x ∷ bs) → AreApart (x ∷ scope) bs
apart_under scope x bs once apart y around inside = elim (Contains-cases x scope y around) [
  | inl same ↦ (let P : ℕ → Type 0 = λ z. Contains bs z in distinct_first x bs once (subst P (sym same) inside))
  | inr there ↦ apart y there (Contains-later x bs y inside)
]

-- the parts of a record
pub record ArePlaced (nodes : List TermNode) (scope : List ℕ) (n : ℕ) (parts : TermFields) : Type 0 where
  pub numbers : AreNumbered nodes n parts
  pub lets : List ℕ
  pub globals : ℕ
  pub scoped : AreScoped scope lets globals parts
  pub once : AreDistinct (field_binders_of parts)
  pub apart : AreApart scope (field_binders_of parts)

-- a whole term
pub placed_whole : (globals : ℕ) (nodes : List TermNode) (binders lets : ℕ) (it : IsTerm globals nodes binders lets) → IsPlaced nodes [] 0 it.tree
placed_whole globals nodes binders lets it = record {
  numbers = numbered_whole nodes it.tree it.nodes_are;
  lets = [];
  globals = globals;
  scoped = it.scoped;
  once = it.binder_numbers.distinct;
  apart = λ x around inside. nothing_in x around;
}

module _ (nodes : List TermNode) (scope : List ℕ) (n at : ℕ) where
  pub placed_fun : (x : ℕ) (e : TermTree) → IsPlaced nodes scope n (fun at x e) → IsPlaced nodes (x ∷ scope) n e
  placed_fun x e it = record {
    numbers = it.numbers.1;
    lets = it.lets;
    globals = it.globals;
    scoped = it.scoped;
    once = distinct_rest x (binders_of e) it.once;
    apart = apart_under scope x (binders_of e) it.once it.apart;
  }

  pub placed_fix : (x : ℕ) (e : TermTree) → IsPlaced nodes scope n (fix at x e) → IsPlaced nodes (x ∷ scope) n e
  placed_fix x e it = record {
    numbers = it.numbers.1;
    lets = it.lets;
    globals = it.globals;
    scoped = it.scoped;
    once = distinct_rest x (binders_of e) it.once;
    apart = apart_under scope x (binders_of e) it.once it.apart;
  }

  pub placed_project : (e : TermTree) (label : List ℕ) → IsPlaced nodes scope n (project at e label) → IsPlaced nodes scope n e
  placed_project e label it = record {
    numbers = it.numbers.1;
    lets = it.lets;
    globals = it.globals;
    scoped = it.scoped;
    once = it.once;
    apart = it.apart;
  }

  module _ (e e' : TermTree) where
    pub placed_function : IsPlaced nodes scope n (apply at e e') → IsPlaced nodes scope n e
    placed_function it = record {
      numbers = it.numbers.1;
      lets = it.lets;
      globals = it.globals;
      scoped = it.scoped.0;
      once = distinct_left (binders_of e) (binders_of e') it.once;
      apart = apart_left scope (binders_of e) (binders_of e') it.apart;
    }

    pub placed_argument : IsPlaced nodes scope n (apply at e e') → IsPlaced nodes scope (behind n e) e'
    placed_argument it = record {
      numbers = it.numbers.2;
      lets = it.lets;
      globals = it.globals;
      scoped = it.scoped.1;
      once = distinct_right (binders_of e) (binders_of e') it.once;
      apart = apart_right scope (binders_of e) (binders_of e') it.apart;
    }

    pub placed_first : (k : ℕ) → IsPlaced nodes scope n (local at k e e') → IsPlaced nodes scope n e
    placed_first k it = record {
      numbers = it.numbers.1;
      lets = it.lets;
      globals = it.globals;
      scoped = it.scoped.0;
      once = distinct_left (binders_of e) (binders_of e') it.once;
      apart = apart_left scope (binders_of e) (binders_of e') it.apart;
    }

    pub placed_second : (k : ℕ) → IsPlaced nodes scope n (local at k e e') → IsPlaced nodes scope (behind n e) e'
    placed_second k it = record {
      numbers = it.numbers.2;
      lets = k ∷ it.lets;
      globals = it.globals;
      scoped = it.scoped.1;
      once = distinct_right (binders_of e) (binders_of e') it.once;
      apart = apart_right scope (binders_of e) (binders_of e') it.apart;
    }

  module _ (c e e' : TermTree) (it : IsPlaced nodes scope n (choice at c e e')) where
    abbrev early : List ℕ
    early = binders_of c ++ binders_of e

    pub placed_condition : IsPlaced nodes scope n c
    placed_condition = record {
      numbers = it.numbers.1;
      lets = it.lets;
      globals = it.globals;
      scoped = it.scoped.0;
      once = distinct_left (binders_of c) (binders_of e) (distinct_left early (binders_of e') it.once);
      apart = apart_left scope (binders_of c) (binders_of e) (apart_left scope early (binders_of e') it.apart);
    }

    pub placed_first_branch : IsPlaced nodes scope (behind n c) e
    placed_first_branch = record {
      numbers = it.numbers.2;
      lets = it.lets;
      globals = it.globals;
      scoped = it.scoped.1;
      once = distinct_right (binders_of c) (binders_of e) (distinct_left early (binders_of e') it.once);
      apart = apart_right scope (binders_of c) (binders_of e) (apart_left scope early (binders_of e') it.apart);
    }

    pub placed_second_branch : IsPlaced nodes scope (behind (behind n c) e) e'
    placed_second_branch = record {
      numbers = it.numbers.3;
      lets = it.lets;
      globals = it.globals;
      scoped = it.scoped.2;
      once = distinct_right early (binders_of e') it.once;
      apart = apart_right scope early (binders_of e') it.apart;
    }

  pub placed_fields : (parts : TermFields) → IsPlaced nodes scope n (make at parts) → ArePlaced nodes scope n parts
  placed_fields parts it = record {
    numbers = it.numbers.1;
    lets = it.lets;
    globals = it.globals;
    scoped = it.scoped.1;
    once = it.once;
    apart = it.apart;
  }

module _ (nodes : List TermNode) (scope : List ℕ) (n : ℕ) (label : List ℕ) (e : TermTree) (rest : TermFields) (it : ArePlaced nodes scope n (a_field label e rest)) where
  pub placed_field : IsPlaced nodes scope n e
  placed_field = record {
    numbers = it.numbers.0;
    lets = it.lets;
    globals = it.globals;
    scoped = it.scoped.0;
    once = distinct_left (binders_of e) (field_binders_of rest) it.once;
    apart = apart_left scope (binders_of e) (field_binders_of rest) it.apart;
  }

  pub placed_rest : ArePlaced nodes scope (behind n e) rest
  placed_rest = record {
    numbers = it.numbers.1;
    lets = it.lets;
    globals = it.globals;
    scoped = it.scoped.1;
    once = distinct_right (binders_of e) (field_binders_of rest) it.once;
    apart = apart_right scope (binders_of e) (field_binders_of rest) it.apart;
  }
