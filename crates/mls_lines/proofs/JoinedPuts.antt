-- What the variables of the type of a name of the environment stand for.
--     adds_join               the join of the nodes of copies
--     joins_none, joins_kept, joins_more  one variable after another
--     puts_at_kept            what is put in at a node is so in a longer book
use Rattle.std.proofs.Common.{◌≡◌, ◌↔◌, ℕ, ◌+◌, List, [], ◌∷◌, ◌++◌, map, length, Contains, Option, refl, sym, ap, ◌∙◌, subst, arith}
use Rattle.std.proofs.lemmas.List.{length_push, length-append}
use Rattle.std.specs.BTreeMap.{BTreeMap}
use Rattle.mls_book.specs.declared.book.NodeId.{NodeId}
use Rattle.mls_book.specs.declared.book.Node.{Node}
use Rattle.mls_book.specs.Books.{IsBook, IsClosedBook}
use Rattle.mls_automaton.specs.declared.automaton.Polarity.TheVariants.{Positive}
use Rattle.mls_automaton.proofs.Lists.{Contains-map, Contains-map_back}
use Rattle.mls_deriv.specs.declared.claim.Put.{Put}
use Rattle.mls_layout.specs.declared.layout.Places.{Places}
use Rattle.mls_layout.specs.LaidOut.{node_of, place_of}
use Rattle.mls_layout.specs.Trees.{AddsTree, IsNodeIn, IsPlaceIn}
use Rattle.mls_layout.proofs.PartsLaidOut.{closed_with}
use Rattle.mls_layout.proofs.TreesMade.{tree_kept, tree_same}
use Rattle.mls_automaton.specs.declared.scheme.Scheme.{Scheme}
use Rattle.mls_layout.specs.LaidOut.{IsLonger}
use Rattle.mls_parts.specs.declared.pose.Posing.{Posing}
use Rattle.mls_term.specs.declared.term.TermForm.{TermForm}
use Rattle.mls_term.specs.declared.term.TermForm.TheVariants as form
use Rattle.mls_lines.specs.declared.known.FirstPart.{FirstPart}
use Rattle.mls_lines.specs.declared.known.GlobalAt.{GlobalAt}
use Rattle.mls_lines.specs.Puts.{AddsJoin, AreJoins, ArePutsAt, IsJoinOf}
use Rattle.mls_lines.specs.Showing.{shown_by}
use Rattle.mls_lines.proofs.PutLists.{puts_push, puts_weaker}

pub adds_join : (places : Places) (first : ℕ) (states : List ℕ) (old new : List Node) (ids : List NodeId) (node : ℕ) → ids ≡ map (λ s. node_of places (first + s)) states → AddsTree Positive ids old new node
    → AddsJoin old new (λ s. place_of places (first + s)) states node
adds_join places first states old new ids node is it = record {
  longer = (it.more, it.longer);
  is_book = it.is_book;
  closed = λ is. subst IsClosedBook (sym it.longer) (closed_with old it.more is (subst IsBook it.longer (it.is_book is.book)) it.are);
  join = (it.inside, tree_same new Positive (IsNodeIn ids) (IsPlaceIn (λ s. place_of places (first + s)) states) same node it.tree);
}
  where
    same : (j : ℕ) → IsNodeIn ids j ↔ IsPlaceIn (λ s. place_of places (first + s)) states j
    same j = (
      (λ there.
          let w = Contains-map_back (λ s. node_of places (first + s)) states (record { 0 = j }) (subst (λ (l : List NodeId). Contains l (record { 0 = j })) is there) in
          (w.0, w.1, ap (λ (n : NodeId). n.0) w.2)),
      (λ place.
          let at : node_of places (first + place.0) ≡ record { 0 = j } = λ k. record { 0 = place.2 k } in
          subst (λ (l : List NodeId). Contains l (record { 0 = j })) (sym is)
          (subst (Contains (map (λ s. node_of places (first + s)) states)) at (Contains-map (λ s. node_of places (first + s)) states place.0 place.1))),
    )

pub joins_none : (book : List Node) (place : ℕ → ℕ) (showing : BTreeMap ℕ (List ℕ)) → AreJoins book place showing 0 []
joins_none book place showing = record { count = refl; each = tt }

join_kept : (old new : List Node) (place : ℕ → ℕ) (states : List ℕ) (node : ℕ) → IsBook old → (more : List Node) → new ≡ old ++ more → IsJoinOf old place states node → IsJoinOf new place states node
join_kept old new place states node is more longer (low, tree) =
    subst (λ (book : List Node). IsJoinOf book place states node) (sym longer)
    (omega (arith, low, length-append old more), tree_kept old more is Positive (IsPlaceIn place states) node low tree)

pub joins_kept : (old new : List Node) (place : ℕ → ℕ) (showing : BTreeMap ℕ (List ℕ)) (variables : ℕ) (puts : List Put) → IsBook old → IsLonger old new → AreJoins old place showing variables puts
    → AreJoins new place showing variables puts
joins_kept old new place showing variables puts is (more, longer) it = record {
  count = it.count;
  each =
      puts_weaker (λ x n. IsJoinOf old place (shown_by showing x) n) (λ x n. IsJoinOf new place (shown_by showing x) n)
      (λ x n join. join_kept old new place (shown_by showing x) n is more longer join) 0 puts it.each;
}

-- what is put in at a node
pub puts_at_kept : (old new : List Node) (places : Places) (p : Posing) (globals : BTreeMap ℕ GlobalAt) (firsts : BTreeMap ℕ FirstPart) (lets : BTreeMap ℕ Scheme) (i : ℕ) (f : TermForm) (puts : Option (List Put))
    → IsBook old → IsLonger old new → ArePutsAt old places p globals firsts lets i f puts → ArePutsAt new places p globals firsts lets i f puts
puts_at_kept old new places p globals firsts lets i (form.Global g) puts is longer it = record {
  own = it.own;
  is = it.is;
  global = it.global;
  known = it.known;
  are = record {
    first = it.are.first;
    copy = it.are.copy;
    joins = joins_kept old new (λ s. place_of places (it.are.first + s)) it.global.showing it.global.variables it.own is longer it.are.joins;
  };
}
puts_at_kept old new places p globals firsts lets i (form.Inner k) puts is longer it = it
puts_at_kept old new places p globals firsts lets i (form.Let k j l) puts is longer it = it
puts_at_kept old new places p globals firsts lets i (form.Bound x) puts is longer it = it
puts_at_kept old new places p globals firsts lets i (form.Number value) puts is longer it = it
puts_at_kept old new places p globals firsts lets i (form.Truth value) puts is longer it = it
puts_at_kept old new places p globals firsts lets i (form.Fun x j) puts is longer it = it
puts_at_kept old new places p globals firsts lets i (form.Apply j k) puts is longer it = it
puts_at_kept old new places p globals firsts lets i (form.Make parts) puts is longer it = it
puts_at_kept old new places p globals firsts lets i (form.Project j label) puts is longer it = it
puts_at_kept old new places p globals firsts lets i (form.If j k l) puts is longer it = it
puts_at_kept old new places p globals firsts lets i (form.Rec x j) puts is longer it = it

pub joins_more : (old new : List Node) (place : ℕ → ℕ) (showing : BTreeMap ℕ (List ℕ)) (variable : ℕ) (puts : List Put) (put : Put) → IsBook old → AreJoins old place showing variable puts
    → put.variable ≡ variable → AddsJoin old new place (shown_by showing variable) put.node → AreJoins new place showing (variable + 1) (puts ++ put ∷ [])
joins_more old new place showing variable puts put is so_far at it = record {
  count = length_push puts put ∙ ap (λ n. n + 1) so_far.count;
  each =
      puts_push (Joins new) 0 puts put
      (joins_kept old new place showing variable puts is it.longer so_far).each
      (let count : length puts ≡ variable = so_far.count in omega (arith, at, count))
      (subst (λ x. IsJoinOf new place (shown_by showing x) put.node) (sym at) it.join);
}
  where
    Joins : List Node → ℕ → ℕ → Type 0
    Joins book x n = IsJoinOf book place (shown_by showing x) n
