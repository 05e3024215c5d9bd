-- The binders of a part of a term: those that it names or binds, and those of them that are around it.
use Rattle.std.specs.Prelude.{◌≡◌, ◌⊎◌, ◌↔◌, ℕ, List, Contains, Option, Some, None}
use Rattle.std.specs.BTreeMap.{BTreeMap}
use Rattle.mls_automaton.specs.Sets.{Rises}
use Rattle.mls_automaton.specs.declared.scheme.EnvEntry.{EnvEntry}
use Rattle.mls_automaton.specs.declared.scheme.Scheme.{Scheme}
use Rattle.mls_term.specs.declared.term.TermForm.{TermForm}
use Rattle.mls_term.specs.declared.term.TermForm.TheVariants as form
use Rattle.mls_term.specs.declared.term.TermNode.{TermNode}
use Rattle.mls_deriv.specs.Steps.{form_at}
use Rattle.mls_parts.specs.declared.binders.PartBinders.{PartBinders}
use Rattle.mls_parts.specs.Posings.{known_in}

-- the known type needs the binder
abbrev pub NeedsBinder : Option Scheme → ℕ → Type 0
NeedsBinder None x = ⊥
NeedsBinder (Some s) x = (entry : EnvEntry) × Contains s.env entry × (entry.binder ≡ x)

-- a node of this form is a use of the binder, or the type of its let's first part needs it
abbrev pub NamesBinder : (lets : BTreeMap ℕ Scheme) → TermForm → ℕ → Type 0
NamesBinder lets (form.Bound y) x = y ≡ x
NamesBinder lets (form.Inner k) x = NeedsBinder (known_in lets k) x
NamesBinder lets (form.Let k j l) x = NeedsBinder (known_in lets k) x
NamesBinder lets _ x = ⊥

-- it binds it
abbrev pub BindsBinder : TermForm → ℕ → Type 0
BindsBinder (form.Fun y j) x = y ≡ x
BindsBinder (form.Rec y j) x = y ≡ x
BindsBinder _ x = ⊥

-- one of these nodes does so
module _ (nodes : List TermNode) (lets : BTreeMap ℕ Scheme) (part : List ℕ) where
  abbrev pub IsNamed : ℕ → Type 0
  IsNamed x = (i : ℕ) × (f : TermForm) × Contains part i × (form_at nodes i ≡ Some f) × NamesBinder lets f x

  abbrev pub IsBound : ℕ → Type 0
  IsBound x = (i : ℕ) × (f : TermForm) × Contains part i × (form_at nodes i ≡ Some f) × BindsBinder f x

  -- each binder that the part names or binds, and each that it names and does not bind
  pub record ArePartBinders (binders : PartBinders) : Type 0 where
    pub all_rise : Rises binders.all
    pub all : (x : ℕ) → Contains binders.all x ↔ (IsNamed x ⊎ IsBound x)
    pub around_rise : Rises binders.around
    pub around : (x : ℕ) → Contains binders.around x ↔ (IsNamed x × (IsBound x → ⊥))
