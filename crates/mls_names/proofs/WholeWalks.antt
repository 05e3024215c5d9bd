-- Reading all nodes of a tree.
use Rattle.std.proofs.Common.{◌≡◌, ℕ, ◌+◌, ◌<◌, ◌≤◌, List, [], ◌∷◌, ◌++◌, length, get_or, drop, refl, sym, ap, subst, ◌∙◌, arith, reverse, All, Some, None, length-drop}
use Rattle.std.specs.Prelude.{Option, slice_get}
use Rattle.std.proofs.lemmas.List.{reverse-append, reverse-reverse, append-nil, take_all, get_or_default}
use Rattle.std.proofs.lemmas.List.Elements.{All-drop}
use Rattle.mls_names.specs.declared.counts.Count.{Count}
use Rattle.mls_grammar.specs.declared.module.ExprNode.{ExprNode}
use Rattle.mls_term.specs.declared.term.TermNode.{TermNode}
use Rattle.mls_names.specs.declared.resolver.Stretch.{Stretch}
use Rattle.mls_names.specs.declared.resolver.Resolver.{Resolver}
use Rattle.mls_grammar.specs.declared.fault.Fault.TheVariants.{UnknownName}
use Rattle.mls_grammar.specs.Trees.{Tree, before, postorder}
use Rattle.mls_term.specs.Terms as term
use Rattle.mls_names.specs.Resolution.{Scope, names_of, unknowns}
use Rattle.mls_names.specs.steps.Counts.{AreCounts, count_of, count_at}
use Rattle.mls_names.specs.steps.Meanings.{resolved, IsFirstOf, IsExpression}
use Rattle.mls_names.specs.steps.Walks.{Walk, walk, IsAt, IsReady, HasWithin, AreWithin, HasPartsBelow, IsNext, Takes, ReadsNodes, HasTerm, HasUnknown}
use Rattle.mls_names.proofs.Walking.{reads}
use Rattle.mls_names.proofs.Counting.{counted, parts_below, length_is, binders_are, lets_are}
use Rattle.mls_names.proofs.Bounds.{Bounded, walk_bounded, are_within}

-- a whole expression waits, and these nodes are there already
abbrev pub whole : Scope → List TermNode → Walk
whole scope terms = record { waiting = record { scope = scope; stretch = record { first = 0; binders = 0; lets = 0 } } ∷ []; terms = reverse terms; unknown = [] }

module _ (nodes : List ExprNode) (counts : List Count) (all : AreCounts nodes counts) where
  -- where all nodes are read
  whole_walk : (t : Tree) → nodes ≡ postorder 0 t → (scope : Scope) (terms : List TermNode)
      → walk counts nodes (whole scope terms) ≡ record { waiting = []; terms = term.postorder 0 (resolved scope 0 0 t) ++ reverse terms; unknown = unknowns (names_of scope) t ++ [] }
  whole_walk t is scope terms =
      let start : count_at counts 0 ≡ record { binders = 0; lets = 0 } = all.each 0 (omega arith) in
      ap (λ ns. walk counts ns (whole scope terms)) is
      ∙ reads counts t 0 scope 0 0 0 0 [] (reverse terms) [] (counted nodes counts all t 0 [] [] (is ∙ sym (append-nil (postorder 0 t))) refl)
      (ap (λ (c : Count). c.binders + 0) start) (ap (λ (c : Count). c.lets + 0) start)

  below : IsExpression nodes → (limit : ℕ) → length nodes ≤ limit → All (λ (node : ExprNode). HasPartsBelow limit node.form) nodes
  below e limit le =
      subst (λ ns. All (λ (node : ExprNode). HasPartsBelow limit node.form) ns) (sym e.1)
      (parts_below e.0 0 limit (omega (arith, ap length e.1, length_is e.0 0)))

  pub node_below : IsExpression nodes → (i : ℕ) (node : ExprNode) → i < length nodes → node ≡ get_or nodes i node → HasPartsBelow (length counts) node.form
  node_below e i node inside is =
      subst (λ (n : ExprNode). HasPartsBelow (length counts) n.form) (sym is) (below e (length counts) (omega (arith, all.length_is)) i node inside)

  pub waiting_within : IsExpression nodes → (k : ℕ) (r : Resolver) (scope : Scope) (before terms : List TermNode) (unknown : Option ℕ)
      → IsAt scope r terms unknown (walk counts (drop k nodes) (whole scope before)) → HasWithin (length counts) r
  waiting_within e k r scope before terms unknown at =
      let ws = (walk counts (drop k nodes) (whole scope before)).waiting in
      let bound : Bounded (length nodes) (length (drop k nodes)) ws =
      walk_bounded counts (length nodes) (drop k nodes) (whole scope before) (All-drop (λ (node : ExprNode). HasPartsBelow (length nodes) node.form) k nodes (below e (length nodes) (omega arith)))
      (omega arith, omega arith, omega arith, tt) in
      (scope, ws, at.waiting, subst (λ n. AreWithin n ws) (sym all.length_is) (are_within (length nodes) (length (drop k nodes)) ws (omega (arith, length-drop k nodes)) bound))

  pub all_read : (old last new : Resolver) (before terms : List TermNode) (unknown : Option ℕ) (next : Option Stretch) (i : ℕ) → i ≡ 0
      → ((scope : Scope) → IsReady old scope → IsAt scope last terms unknown (walk counts (drop i nodes) (whole scope before)))
      → Takes last new next → ReadsNodes nodes old new before terms unknown
  all_read old last new before terms unknown next i zero_is inv takes scope t is ready =
      let end = ap (λ k. walk counts (drop k nodes) (whole scope before)) zero_is ∙ whole_walk t is scope before in
      let at : IsAt scope last terms unknown (record { waiting = []; terms = term.postorder 0 (resolved scope 0 0 t) ++ reverse before; unknown = unknowns (names_of scope) t ++ [] }) =
      subst (λ (w : Walk). IsAt scope last terms unknown w) end (inv scope ready) in (
        at.terms_are ∙ reverse-append (term.postorder 0 (resolved scope 0 0 t)) (reverse before) ∙ ap (λ ns. ns ++ reverse (term.postorder 0 (resolved scope 0 0 t))) (reverse-reverse before),
        at.unknown_is ∙ ap (λ ps. slice_get ps 0) (append-nil (unknowns (names_of scope) t)),
        finished next (takes scope [] at.waiting),
      )
    where
      finished : (next : Option Stretch) → IsNext scope new [] next → IsReady new scope
      finished None h = h.1
      finished (Some s) h = absurd (cc (h.2))

-- the first of some places
first_of : (places : List ℕ) (at : ℕ) → Some at ≡ slice_get places 0 → IsFirstOf places (UnknownName at)
first_of [] at h = absurd (cc)
first_of (p ∷ ps) at h = (p, ps, refl, let e : at ≡ p = cc in ap UnknownName e)

none_of : (places : List ℕ) → None ≡ slice_get places 0 → places ≡ []
none_of [] h = refl
none_of (p ∷ ps) h = absurd (cc)

pub has_unknown : (nodes : List ExprNode) (old new : Resolver) (before terms : List TermNode) (unknown : Option ℕ) (at : ℕ) → ReadsNodes nodes old new before terms unknown → unknown ≡ Some at
    → HasUnknown old nodes (UnknownName at)
has_unknown nodes old new before terms unknown at h is scope t nodes_are ready =
    first_of (unknowns (names_of scope) t) at (sym is ∙ (h scope t nodes_are ready).1)

pub has_term : (nodes : List ExprNode) (counts : List Count) → AreCounts nodes counts → (old new : Resolver) (terms last : List TermNode) (unknown : Option ℕ) (whole : Count) → ReadsNodes nodes old new [] terms unknown → unknown ≡ None
    → last ≡ reverse terms → whole ≡ get_or counts (length nodes) whole → HasTerm old new nodes (record { nodes = last; binders = whole.binders; lets = whole.lets })
has_term nodes counts all old new terms last unknown whole h none turned is scope t nodes_are ready =
    let it = h scope t nodes_are ready in
    let count : whole ≡ count_of (postorder 0 t) =
    is ∙ get_or_default counts (length nodes) whole (record { binders = 0; lets = 0 }) (omega (arith, all.length_is))
    ∙ all.each (length nodes) (omega arith) ∙ ap count_of (take_all (length nodes) nodes (omega arith) ∙ nodes_are) in (
      λ i. record {
        nodes = (turned ∙ ap reverse it.0 ∙ reverse-reverse (term.postorder 0 (resolved scope 0 0 t))) i;
        binders = (ap (λ (c : Count). c.binders) count ∙ binders_are t 0) i;
        lets = (ap (λ (c : Count). c.lets) count ∙ lets_are t 0) i;
      },
      none_of (unknowns (names_of scope) t) (sym none ∙ it.1),
      it.2,
    )
