-- A module has one resolution, or one first name without a meaning.
use Rattle.std.proofs.Common.{◌≡◌, ℕ, List, [], ◌∷◌, ◌⊎◌, inl, inr, refl, sym, ap, ◌∙◌}
use Rattle.mls_grammar.specs.declared.fault.Fault.TheVariants.{UnknownName}
use Rattle.mls_grammar.specs.declared.fault.Fault.{Fault}
use Rattle.mls_term.specs.declared.term.Resolved.{Resolved}
use Rattle.mls_grammar.specs.Trees.{SourceTree}
use Rattle.mls_names.specs.Resolution.{unknown_names, Resolves, HasUnknownName}
use Rattle.mls_names.specs.steps.Meanings.{bindings_in}
use Rattle.mls_names.specs.ResolutionLaws.{OneResolution, OneUnknownName, NoUnknownNameBesideAResolution, ResolutionOrUnknownName}
use Rattle.mls_names.proofs.Meant.{are_terms, terms_are}
use Rattle.mls_grammar.proofs.TreesOfNodes.{one_source}

pub one_resolution : OneResolution
one_resolution m declared r s h k =
    let same : h.tree ≡ k.tree = one_source m h.tree k.tree h.nodes k.nodes in
    let first = terms_are declared [] h.tree.bound r.bindings h.terms in
    let second = terms_are declared [] k.tree.bound s.bindings k.terms in
    (λ i. record { bindings = (first.0 ∙ ap (λ (t : SourceTree). bindings_in declared [] t.bound) same ∙ sym second.0) i })

pub one_unknown_name : OneUnknownName
one_unknown_name m declared fault other h k =
    let same : h.tree ≡ k.tree = one_source m h.tree k.tree h.nodes k.nodes in
    let places : h.place ∷ h.later ≡ k.place ∷ k.later = sym h.first ∙ ap (λ (t : SourceTree). unknown_names declared [] t.bound) same ∙ k.first in
    let place : h.place ≡ k.place = cc in
    h.fault_is ∙ ap UnknownName place ∙ sym k.fault_is

pub no_unknown_name_beside_a_resolution : NoUnknownNameBesideAResolution
no_unknown_name_beside_a_resolution m declared r fault h k =
    let same : h.tree ≡ k.tree = one_source m h.tree k.tree h.nodes k.nodes in
    let places : [] ≡ k.place ∷ k.later = sym (terms_are declared [] h.tree.bound r.bindings h.terms).1 ∙ ap (λ (t : SourceTree). unknown_names declared [] t.bound) same ∙ k.first in
    absurd (cc)

pub resolution_or_unknown_name : ResolutionOrUnknownName
resolution_or_unknown_name m declared p = by (unknown_names declared [] p.tree.bound) refl
  where
    by : (places : List ℕ) → unknown_names declared [] p.tree.bound ≡ places → ((r : Resolved) × Resolves m declared r) ⊎ ((fault : Fault) × HasUnknownName m declared fault)
    by [] e = inl (record { bindings = bindings_in declared [] p.tree.bound }, record { tree = p.tree; nodes = p.nodes; terms = are_terms declared [] p.tree.bound e })
    by (place ∷ later) e = inr (UnknownName place, record { tree = p.tree; nodes = p.nodes; place = place; later = later; first = e; fault_is = refl })
