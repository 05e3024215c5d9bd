-- Binders that are met at the nodes of a part, each with whether the part binds it.
use Rattle.std.specs.Prelude.{◌≡◌, ℕ, Bool, true, false, cond, List, [], ◌∷◌, map, Option, Some, None}
use Rattle.std.specs.BTreeMap.{BTreeMap, get}
use Rattle.std.specs.Ordering.{nat_cmp, is_eq}
use Rattle.mls_automaton.specs.declared.scheme.EnvEntry.{EnvEntry}
use Rattle.mls_automaton.specs.declared.scheme.Scheme.{Scheme}
use Rattle.mls_term.specs.declared.term.TermForm.{TermForm}
use Rattle.mls_term.specs.declared.term.TermForm.TheVariants as form
use Rattle.mls_term.specs.declared.term.TermNode.{TermNode}
use Rattle.mls_parts.specs.declared.binders.PartBinders.{PartBinders}
use Rattle.mls_parts.specs.PartBinders.{IsNamed, IsBound}
use Rattle.mls_parts.specs.Posings.{known_in}

-- a binder that is named is not bound, unless it was
abbrev pub or_named : Option Bool → Option Bool
or_named None = Some false
or_named (Some bound) = Some bound

-- what is noted of binder x, once binder y is named, those of an environment, and those of a known type
abbrev pub met_named : (x y : ℕ) → Option Bool → Option Bool
met_named x y met = cond (is_eq (nat_cmp y x)) (or_named met) met

abbrev pub met_env : (x : ℕ) → List EnvEntry → Option Bool → Option Bool
met_env x [] met = met
met_env x (entry ∷ env) met = met_env x env (met_named x entry.binder met)

abbrev pub met_known : (x : ℕ) → Option Scheme → Option Bool → Option Bool
met_known x None met = met
met_known x (Some s) met = met_env x s.env met

abbrev pub met_bound : (x y : ℕ) → Option Bool → Option Bool
met_bound x y met = cond (is_eq (nat_cmp y x)) (Some true) met

-- once a node of this form is met
abbrev pub met_form : (lets : BTreeMap ℕ Scheme) → TermForm → (x : ℕ) → Option Bool → Option Bool
met_form lets (form.Bound y) x met = met_named x y met
met_form lets (form.Inner k) x met = met_known x (known_in lets k) met
met_form lets (form.Let k j l) x met = met_known x (known_in lets k) met
met_form lets (form.Fun y j) x met = met_bound x y met
met_form lets (form.Rec y j) x met = met_bound x y met
met_form lets _ x met = met

abbrev pub met_node : (lets : BTreeMap ℕ Scheme) → Option TermForm → (x : ℕ) → Option Bool → Option Bool
met_node lets None x met = met
met_node lets (Some f) x met = met_form lets f x met

-- what is noted of a binder says whether it is named and whether it is bound
abbrev pub TellsOf : (IsNamed IsBound : Type 0) → Option Bool → Type 0
TellsOf Named Bound None = (Named → ⊥) × (Bound → ⊥)
TellsOf Named Bound (Some true) = Bound
TellsOf Named Bound (Some false) = Named × (Bound → ⊥)

abbrev pub HasMet : List TermNode → (lets : BTreeMap ℕ Scheme) → (part : List ℕ) → BTreeMap ℕ Bool → Type 0
HasMet nodes lets part met =
    (x : ℕ) → TellsOf (IsNamed nodes lets part x) (IsBound nodes lets part x) (get nat_cmp met x)

-- the binders of entries that are not bound
abbrev pub unbound : List (ℕ × Bool) → List ℕ
unbound [] = []
unbound (entry ∷ rest) = cond entry.1 (unbound rest) (entry.0 ∷ unbound rest)

-- all binders that were met, and those that are not bound
pub record AreListed (met : BTreeMap ℕ Bool) (binders : PartBinders) : Type 0 where
  pub all : binders.all ≡ map (λ (entry : ℕ × Bool). entry.0) met.entries
  pub around : binders.around ≡ unbound met.entries
