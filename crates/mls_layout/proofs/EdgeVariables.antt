-- What the variables of a type that is laid out tell of its edges.
--     begins_at, ends_at      an edge begins at a negative state, and ends at a positive one
--     shown_edge              a variable that is shown is that of an edge, and its beginning shows it
--     one_beginning           no other negative state shows it
--     edge_variables          a negative and a positive state show one variable only where there is an edge
--     edge_puts               what is put in at a use
use Rattle.std.proofs.Common.{◌≡◌, ◌⊎◌, inl, inr, ℕ, ◌+◌, List, refl, sym, ap, ◌∙◌, subst, arith, Contains, Some, slice_get}
use Rattle.std.specs.Prelude.{unwrap_or}
use Rattle.std.proofs.lemmas.Option.{slice_get_within, get_or_from_slice_get}
use Rattle.mls_book.specs.declared.book.Node.{Node}
use Rattle.mls_automaton.specs.declared.automaton.Flow.{Flow}
use Rattle.mls_automaton.specs.declared.automaton.Polarity.TheVariants.{Positive, Negative}
use Rattle.mls_automaton.specs.Automata.{Automaton, HasFlow, polarity_at}
use Rattle.mls_automaton.specs.Models.{IsClosed}
use Rattle.mls_deriv.specs.declared.claim.Put.{Put}
use Rattle.mls_deriv.specs.Pairs.{put_at}
use Rattle.mls_layout.specs.LaidOut.{HasEnd, IsTypeLaidOut}
use Rattle.mls_layout.specs.Uses.{ArePuts, HasEdgeVariables, Shows}
use Rattle.mls_layout.proofs.WorkedParts.{single_tree}

module _ (b : Automaton) (closed : IsClosed b) where
  module _ (k : ℕ) (edge : Flow) (found : slice_get b.flows k ≡ Some edge) where
    pub edge_there : Contains b.flows edge
    edge_there = (k, slice_get_within b.flows k edge found, get_or_from_slice_get b.flows k edge edge found)

    pub begins_at : (s : ℕ) → polarity_at b s ≡ Negative → (edge.negative.0 ≡ s) ⊎ (edge.positive.0 ≡ s) → edge.negative.0 ≡ s
    begins_at s is (inl e) = e
    begins_at s is (inr e) = let no : Negative ≡ Positive = sym is ∙ subst (λ t. polarity_at b t ≡ Positive) e (closed.positive edge edge_there).polarity in absurd (cc)

    pub ends_at : (s : ℕ) → polarity_at b s ≡ Positive → (edge.negative.0 ≡ s) ⊎ (edge.positive.0 ≡ s) → edge.positive.0 ≡ s
    ends_at s is (inl e) = let no : Positive ≡ Negative = sym is ∙ subst (λ t. polarity_at b t ≡ Negative) e (closed.negative edge edge_there).polarity in absurd (cc)
    ends_at s is (inr e) = e

  module _ (old new : List Node) (first : ℕ) (place : ℕ → ℕ) (laid : IsTypeLaidOut old b first new place) where
    abbrev variables : ℕ → List ℕ
    variables = laid.layout.variables

    -- the edge whose variable is shown
    pub record IsEdgeOf (x : ℕ) : Type 0 where
      pub number : ℕ
      pub at : x ≡ first + number
      pub edge : Flow
      pub found : slice_get b.flows number ≡ Some edge
      pub begins : Shows new variables edge.negative.0 x

    pub shown_edge : (s x : ℕ) → Shows new variables s x → IsEdgeOf x
    shown_edge s x shows = go ((laid.shown s x).0 shows)
      where
        go : (k : ℕ) × (x ≡ first + k) × HasEnd b.flows k s → IsEdgeOf x
        go (k, at, (edge, found, ends)) = record { number = k; at = at; edge = edge; found = found; begins = (laid.shown edge.negative.0 x).1 (k, at, (edge, found, inl refl)) }

    -- an edge with this variable is the edge of this number
    same_edge : (s x k : ℕ) (edge : Flow) → x ≡ first + k → slice_get b.flows k ≡ Some edge → Shows new variables s x → (edge.negative.0 ≡ s) ⊎ (edge.positive.0 ≡ s)
    same_edge s x k edge e found shows = go ((laid.shown s x).0 shows)
      where
        go : (j : ℕ) × (x ≡ first + j) × HasEnd b.flows j s → (edge.negative.0 ≡ s) ⊎ (edge.positive.0 ≡ s)
        go (j, at, (other, there, ends)) =
            let same : k ≡ j = omega (arith, e, at) in
            let both : Some edge ≡ Some other = sym found ∙ (ap (slice_get b.flows) same ∙ there) in
            let is_edge : other ≡ edge = cc in
            subst (λ (f : Flow). (f.negative.0 ≡ s) ⊎ (f.positive.0 ≡ s)) is_edge ends

    pub one_beginning : (n x k : ℕ) (edge : Flow) → polarity_at b n ≡ Negative → x ≡ first + k → slice_get b.flows k ≡ Some edge → Shows new variables n x → edge.negative.0 ≡ n
    one_beginning n x k edge is e found shows = begins_at k edge found n is (same_edge n x k edge e found shows)

    pub edge_variables : HasEdgeVariables new b variables
    edge_variables n p x negative positive shows also =
        let w = shown_edge n x shows in
        let begins : w.edge.negative.0 ≡ n = one_beginning n x w.number w.edge negative w.at w.found shows in
        let ending : w.edge.positive.0 ≡ p = ends_at w.number w.edge w.found p positive (same_edge p x w.number w.edge w.at w.found also) in
        subst (λ m. HasFlow b m p) begins (subst (λ q. HasFlow b w.edge.negative.0 q) ending (edge_there w.number w.edge w.found))

    -- What is put in is what the uses of the type want, where the variable of each edge stands for the copy of its beginning.
    module _ (IsPlace : ℕ → Type 0) (all : (s : ℕ) → IsPlace s) (state_place copy : ℕ → ℕ) (puts : List Put) (put : (k : ℕ) (edge : Flow) → slice_get b.flows k ≡ Some edge → put_at puts (first + k) ≡ Some (state_place (copy edge.negative.0))) where
      pub edge_puts : ArePuts new IsPlace (polarity_at b) variables state_place copy puts
      edge_puts = record {
        joined = joined;
        put = λ s x at_s shows. let is = put_is x (shown_edge s x shows) in is ∙ ap (λ n. Some n) (sym (ap (λ o. unwrap_or o 0) is));
        tree = λ s x at_s shows.
            let w = shown_edge s x shows in
            let at : joined x ≡ state_place (copy w.edge.negative.0) = ap (λ o. unwrap_or o 0) (put_is x w) in
            single_tree new Positive (IsJoined x) (joined x) (w.edge.negative.0, all w.edge.negative.0, (closed.negative w.edge (edge_there w.number w.edge w.found)).polarity, w.begins, sym at)
            (λ j m. sym m.4 ∙ (ap (λ n. state_place (copy n)) (sym (one_beginning m.0 x w.number w.edge m.2 w.at w.found m.3)) ∙ sym at));
      }
        where
          joined : ℕ → ℕ
          joined x = unwrap_or (put_at puts x) 0

          IsJoined : ℕ → ℕ → Type 0
          IsJoined x i = (n : ℕ) × IsPlace n × (polarity_at b n ≡ Negative) × Shows new variables n x × (state_place (copy n) ≡ i)

          put_is : (x : ℕ) (w : IsEdgeOf x) → put_at puts x ≡ Some (state_place (copy w.edge.negative.0))
          put_is x w = subst (λ y. put_at puts y ≡ Some (state_place (copy w.edge.negative.0))) (sym w.at) (put w.number w.edge w.found)
