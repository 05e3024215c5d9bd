-- The types of the names of the environment stand in the book while a section is written.
--     no_globals              no name has a place at first
--     globals_kept            a place stays in a longer book
--     place_more, place_same, no_place    one name more, one that has a place, and a node that is no name
--     places_none, places_more            the names of nodes, one node after another
use Rattle.std.proofs.Common.{◌≡◌, ◌≢◌, ◌⊎◌, inl, inr, ℕ, ◌+◌, ◌≤◌, List, sym, ap, ◌∙◌, subst, arith, slice_get, Some, None}
use Rattle.std.specs.Prelude.{IsSome, is_some}
use Rattle.std.proofs.lemmas.Bool.{cases_eq}
use Rattle.std.specs.BTreeMap.{BTreeMap, IsEmpty, Updates, get, is_at}
use Rattle.std.specs.Map.{lookup}
use Rattle.std.specs.Ordering.{nat_cmp}
use Rattle.mls_book.specs.declared.book.Node.{Node}
use Rattle.mls_book.proofs.LongerBooks.{below_or_more}
use Rattle.mls_typetext.specs.declared.scheme.ReadScheme.{ReadScheme}
use Rattle.mls_typetext.specs.Laws.{IsReadScheme}
use Rattle.mls_term.specs.declared.term.TermForm.{TermForm}
use Rattle.mls_term.specs.declared.term.TermForm.TheVariants as form
use Rattle.mls_term.specs.declared.term.TermNode.{TermNode}
use Rattle.mls_deriv.specs.Steps.{form_at}
use Rattle.mls_layout.specs.LaidOut.{IsLonger}
use Rattle.mls_lines.specs.declared.known.GlobalAt.{GlobalAt}
use Rattle.mls_lines.specs.Globals.{IsGlobalAt}
use Rattle.mls_lines.proofs.Lengthening.{global_kept}
use Rattle.mls_emit.specs.Drafts.{AreGlobalsIn, HavePlaces, IsGlobalIn, PlacesForm}
use Rattle.mls_allowed.proofs.Updated.{updated_at, updated_other, updated_own}

-- no name has a place at first
pub no_globals : (reads : List ReadScheme) (book : List Node) (next : ℕ) (globals : BTreeMap ℕ GlobalAt) → IsEmpty globals → AreGlobalsIn reads book next globals
no_globals reads book next globals none g global is =
    let empty : get nat_cmp globals g ≡ None = ap (lookup (is_at (nat_cmp g))) none in
    absurd (let wrong : None ≡ Some global = sym empty ∙ is in cc)

-- a place stays in a longer book, where later variables have greater numbers
kept_in : (reads : List ReadScheme) (old new : List Node) (next later g : ℕ) (global : GlobalAt) → IsLonger old new → next ≤ later → IsGlobalIn reads old next g global → IsGlobalIn reads new later g global
kept_in reads old new next later g global longer more it = record {
  of = record { read = it.of.read; is = it.of.is; good = it.of.good; at = global_kept old new it.of.read global longer it.of.at };
  below = (let below : it.of.read.vars ≤ next = it.below in omega (arith, below, more));
}

pub globals_kept : (reads : List ReadScheme) (old new : List Node) (next later : ℕ) (globals : BTreeMap ℕ GlobalAt) → IsLonger old new → next ≤ later → AreGlobalsIn reads old next globals → AreGlobalsIn reads new later globals
globals_kept reads old new next later globals longer more it g global is = kept_in reads old new next later g global longer more (it g global is)

-- one name more
pub place_more : (reads : List ReadScheme) (book : List Node) (next : ℕ) (old new : BTreeMap ℕ GlobalAt) (g : ℕ) (read : ReadScheme) (global : GlobalAt) → slice_get reads g ≡ Some read → IsReadScheme read → IsGlobalAt book read global
    → read.vars ≤ next → AreGlobalsIn reads book next old → Updates nat_cmp old new g (Some global) → PlacesForm reads book next old new (form.Global g)
place_more reads book next old new g read global is good at below before updates = record {
  globals = λ h other found. each h other found (cases_eq h g);
  there = λ h same. (let alike : g ≡ h = cc in subst (λ j. IsSome (get nat_cmp new j)) alike (ap is_some (updated_own old new g global updates)));
  kept = λ h has. elim (updated_at old new g global updates h) [
    | inl here ↦ ap is_some here.1
    | inr other ↦ ap is_some other.1 ∙ has
  ];
}
  where
    own : IsGlobalIn reads book next g global
    own = record { of = record { read = read; is = is; good = good; at = at }; below = below }

    each : (h : ℕ) (other : GlobalAt) → get nat_cmp new h ≡ Some other → (h ≡ g) ⊎ (h ≢ g) → IsGlobalIn reads book next h other
    each h other found (inl here) =
        let there : get nat_cmp new h ≡ Some global = subst (λ k. get nat_cmp new k ≡ Some global) (sym here) (updated_own old new g global updates) in
        let alike : global ≡ other = (let both : Some global ≡ Some other = sym there ∙ found in cc) in
        subst (λ k. IsGlobalIn reads book next k other) (sym here) (subst (IsGlobalIn reads book next g) alike own)
    each h other found (inr apart) = before h other (sym (updated_other old new g global updates h apart) ∙ found)

pub place_same : (reads : List ReadScheme) (book : List Node) (next : ℕ) (globals : BTreeMap ℕ GlobalAt) (g : ℕ) → AreGlobalsIn reads book next globals → IsSome (get nat_cmp globals g)
    → PlacesForm reads book next globals globals (form.Global g)
place_same reads book next globals g before there = record {
  globals = before;
  there = λ h same. (let alike : g ≡ h = cc in subst (λ j. IsSome (get nat_cmp globals j)) alike there);
  kept = λ h has. has;
}

pub no_place : (reads : List ReadScheme) (book : List Node) (next : ℕ) (globals : BTreeMap ℕ GlobalAt) (f : TermForm) → AreGlobalsIn reads book next globals → ((g : ℕ) → f ≡ form.Global g → ⊥)
    → PlacesForm reads book next globals globals f
no_place reads book next globals f before none = record {
  globals = before;
  there = λ g is. absurd (none g is);
  kept = λ h has. has;
}

-- the names of nodes, one node after another
pub places_none : (nodes : List TermNode) (globals : BTreeMap ℕ GlobalAt) → HavePlaces nodes globals 0
places_none nodes globals i g low e = absurd (omega (arith, low))

pub places_more : (reads : List ReadScheme) (book : List Node) (next : ℕ) (nodes : List TermNode) (old new : BTreeMap ℕ GlobalAt) (n : ℕ) (f : TermForm) → HavePlaces nodes old n → form_at nodes n ≡ Some f
    → PlacesForm reads book next old new f → HavePlaces nodes new (n + 1)
places_more reads book next nodes old new n f so_far is form_placed i h low e = elim (below_or_more i n) [
  | inl before ↦ form_placed.kept h (so_far i h before e)
  | inr it ↦ form_placed.there h (alike it.0 it.1)
]
  where
    alike : (d : ℕ) → i ≡ n + d → f ≡ form.Global h
    alike d over =
        let same : i ≡ n = omega (arith, low, over) in
        let at : form_at nodes n ≡ Some (form.Global h) = subst (λ j. form_at nodes j ≡ Some (form.Global h)) same e in
        let both : Some f ≡ Some (form.Global h) = sym is ∙ at in
        cc
