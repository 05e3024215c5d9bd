-- A layout stays one in a longer book.
--     type_kept           the nodes of a type
--     type_laid_kept      those that are laid out with variables for its edges
--     layout_kept         the nodes of the states of a constraint
--     laid_out_kept       where all of them stand in the book, with the same parts of heads
use Rattle.std.proofs.Common.{◌≡◌, ◌⊎◌, inl, inr, ℕ, ◌+◌, ◌<◌, List, ◌++◌, length, Contains, refl, sym, ap, ◌∙◌, subst, arith, append_assoc, length-append, Option, Some, None}
use Rattle.std.proofs.Math.ListN.{get_or-append}
use Rattle.std.proofs.lemmas.List.{get_or_past}
use Rattle.mls_book.specs.declared.book.NodeId.{NodeId}
use Rattle.mls_book.specs.declared.book.Node.{Node}
use Rattle.mls_book.specs.declared.book.Node.TheVariants as node
use Rattle.mls_book.specs.Books.{node_at, field_at, IsClosedBook}
use Rattle.mls_book.proofs.Children.{HasChildrenIn, at_found, closed_children}
use Rattle.mls_book.proofs.LongerBooks.{below_or_more}
use Rattle.mls_automaton.specs.declared.automaton.HeadKind.{HeadKind}
use Rattle.mls_automaton.specs.declared.automaton.HeadKind.TheVariants as kind
use Rattle.mls_automaton.specs.declared.automaton.Polarity.{Polarity}
use Rattle.mls_automaton.specs.declared.automaton.Polarity.TheVariants.{Positive, Negative}
use Rattle.mls_automaton.specs.declared.scheme.Scheme.{Scheme}
use Rattle.mls_automaton.specs.Automata.{Automaton, opposite, polarity_at, head_at, HasFlow}
use Rattle.mls_automaton.specs.Heads.{Parts, parts_of}
use Rattle.mls_subsume.specs.declared.verdict.StatePair.{StatePair}
use Rattle.mls_subsume.specs.Walks.{IsIn}
use Rattle.mls_layout.specs.Trees.{IsPlaceIn, IsTree}
use Rattle.mls_layout.specs.Heads.{IsFieldAt, IsKindAt, AreParts}
use Rattle.mls_layout.specs.Layouts.{IsTypeLayout, Enters, IsLayout}
use Rattle.mls_layout.specs.LaidOut.{IsTypeLaidOut}
use Rattle.mls_layout.specs.Parts.{Constraint, IsRelatedIn, IsLaidOut}
use Rattle.mls_layout.specs.Uses.{Shows}
use Rattle.mls_layout.proofs.TreesMade.{tree_kept}

module _ (nodes more : List Node) (closed : IsClosedBook nodes) where
  abbrev longer : List Node
  longer = nodes ++ more

  -- a node that is no `Bot` stands in the book
  inside : (i : ℕ) (n : Node) → node_at nodes i ≡ n → (node.Bot ≡ n → ⊥) → i < length nodes
  inside i n e other = go (below_or_more i (length nodes))
    where
      go : (i < length nodes) ⊎ ((j : ℕ) × (i ≡ length nodes + j)) → i < length nodes
      go (inl low) = low
      go (inr (j, is)) = absurd (other (sym (get_or_past nodes i node.Bot (omega (arith, is))) ∙ e))

  kept : (i : ℕ) (n : Node) → node_at nodes i ≡ n → (node.Bot ≡ n → ⊥) → node_at longer i ≡ n
  kept i n e other = get_or-append nodes more node.Bot i (inside i n e other) ∙ e

  children : (i : ℕ) (n : Node) → node_at nodes i ≡ n → (node.Bot ≡ n → ⊥) → HasChildrenIn (λ k. k < length nodes) n
  children i n e other = subst (HasChildrenIn (λ k. k < length nodes)) e (closed_children nodes closed.closed i (inside i n e other))

  tree : (p : Polarity) (M : ℕ → Type 0) (i : ℕ) → i < length nodes → IsTree nodes p M i → IsTree longer p M i
  tree p M i low it = tree_kept nodes more closed.book p M i low it

  module _ (place : ℕ → ℕ) (p : Polarity) where
    field_kept : (set : Option (List ℕ)) (o : Option NodeId) → ((id : NodeId) → o ≡ Some id → id.0 < length nodes) → IsFieldAt nodes place p set o → IsFieldAt longer place p set o
    field_kept None None low it = tt
    field_kept None (Some id) low it = it
    field_kept (Some set) None low it = it
    field_kept (Some set) (Some id) low it = tree p (IsPlaceIn place set) id.0 (low id refl) it

    kind_kept : (h : Parts) (k : HeadKind) (i : ℕ) → IsKindAt nodes place p h k i → IsKindAt longer place p h k i
    kind_kept h kind.Bool i it = (it.0, kept i node.Bool it.1 (λ e. cc))
    kind_kept h kind.Int i it = (it.0, kept i node.Int it.1 (λ e. cc))
    kind_kept h kind.Function i it =
        let low = children i (node.Arrow it.from it.to) it.node (λ e. cc) in
        record {
          arms = it.arms;
          has = it.has;
          from = it.from;
          to = it.to;
          node = kept i (node.Arrow it.from it.to) it.node (λ e. cc);
          domain = tree (opposite p) (IsPlaceIn place it.arms.domain) it.from.0 low.0 it.domain;
          codomain = tree p (IsPlaceIn place it.arms.codomain) it.to.0 low.1 it.codomain;
        }
    kind_kept h kind.Rcd i it =
        let low = children i (node.Rcd it.fields) it.node (λ e. cc) in
        record {
          sets = it.sets;
          has = it.has;
          fields = it.fields;
          node = kept i (node.Rcd it.fields) it.node (λ e. cc);
          field = λ label. field_kept (it.sets label) (field_at label it.fields) (λ id e. at_found (λ k. k < length nodes) label it.fields low id e) (it.field label);
        }

    parts_kept : (h : Parts) (parts : List ℕ) → AreParts nodes place p h parts → AreParts longer place p h parts
    parts_kept h parts it = record {
      all = λ i there. let w = it.all i there in (w.0, kind_kept h w.0 i w.1);
      each = λ k has. let w = it.each k has in (w.0, w.1, kind_kept h k w.0 w.2);
    }

  pub type_kept : (b : Automaton) (place : ℕ → ℕ) → ((s : ℕ) → place s < length nodes) → IsTypeLayout nodes b place → IsTypeLayout longer b place
  type_kept b place places it = record {
    parts = it.parts;
    variables = it.variables;
    heads = λ s. parts_kept place (polarity_at b s) (parts_of (head_at b s)) (it.parts s) (it.heads s);
    are_variables = λ s i there. let w = it.are_variables s i there in (w.0, kept i (node.Var w.0) w.1 (λ e. cc));
    tree = λ s. tree (polarity_at b s) (λ i. Contains (it.parts s) i ⊎ Contains (it.variables s) i) (place s) (places s) (it.tree s);
    flows =
        λ n p edge.
        let w = it.flows n p edge in
        (w.0, w.1, w.2, w.3, w.4, kept w.0 (node.Var w.2) w.5 (λ e. cc), kept w.1 (node.Var w.2) w.6 (λ e. cc));
  }

  pub type_laid_kept : (old : List Node) (b : Automaton) (first : ℕ) (place : ℕ → ℕ) → ((s : ℕ) → place s < length nodes) → IsTypeLaidOut old b first nodes place → IsTypeLaidOut old b first longer place
  unfolding type_kept
  type_laid_kept old b first place places it = record {
    longer = (it.longer.0 ++ more, ap (λ (ns : List Node). ns ++ more) it.longer.1 ∙ append_assoc old it.longer.0 more);
    layout = type_kept b place places it.layout;
    shown = λ s x. (λ there. (it.shown s x).0 (back s x there), λ w. on s x ((it.shown s x).1 w));
  }
    where
      on : (s x : ℕ) → Shows nodes it.layout.variables s x → Shows longer it.layout.variables s x
      on s x (i, there, is) = (i, there, kept i (node.Var x) is (λ e. cc))

      back : (s x : ℕ) → Shows longer it.layout.variables s x → Shows nodes it.layout.variables s x
      back s x (i, there, is) = let w = it.layout.are_variables s i there in (i, there, w.1 ∙ (sym (kept i (node.Var w.0) w.1 (λ e. cc)) ∙ is))

  module _ (a b : Automaton) (R IsPair : ℕ → ℕ → Type 0) (place type_place : ℕ → ℕ) (places : (s : ℕ) → place s < length nodes) (type_places : (s : ℕ) → type_place s < length nodes)
      (it : IsLayout nodes a b R IsPair place type_place) (values : (n : ℕ) → it.value n < length nodes) where
    pub layout_kept : IsLayout longer a b R IsPair place type_place
    layout_kept = record {
      type = type_kept b type_place type_places it.type;
      parts = it.parts;
      value = it.value;
      heads = λ s. parts_kept place (polarity_at a s) (parts_of (head_at a s)) (it.parts s) (it.heads s);
      values = λ n is. tree Positive (Enters a R IsPair it.parts type_place n) (it.value n) (values n) (it.values n is);
      positive = λ q is. tree Positive (λ i. Contains (it.parts q) i ⊎ ((n : ℕ) × HasFlow a n q × (it.value n ≡ i))) (place q) (places q) (it.positive q is);
      negative = λ n is. tree Negative (λ i. Contains (it.parts n) i ⊎ (it.value n ≡ i)) (place n) (places n) (it.negative n is);
    }

  wider : (i : ℕ) → i < length nodes → i < length longer
  wider i low = let all : length longer ≡ length nodes + length more = length-append nodes more in omega (arith, low, all)

  pub laid_out_kept : (c : Constraint) (special : Scheme) (walked : List StatePair) (place type_place : ℕ → ℕ) → IsClosedBook longer
      → (it : IsLaidOut nodes c special walked place type_place) → (now : IsLaidOut longer c special walked place type_place) × (now.layout.parts ≡ it.layout.parts)
  unfolding layout_kept
  laid_out_kept c special walked place type_place closed_longer it = (
    record {
      closed = closed_longer;
      layout = layout_kept c.automaton special.automaton (IsRelatedIn c) (IsIn walked) place type_place it.places it.type_places it.layout it.values;
      parts = λ s i there. wider i (it.parts s i there);
      values = λ n. wider (it.layout.value n) (it.values n);
      places = λ s. wider (place s) (it.places s);
      type_places = λ s. wider (type_place s) (it.type_places s);
    },
    refl,
  )
