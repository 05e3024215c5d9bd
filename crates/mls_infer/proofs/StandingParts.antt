-- A part whose states stand in another automaton at other places has the same types there. Nothing is said of the other
-- states of the two: where a model of the one is made of a model of the other, these get the greatest or the least type.
--     StandsIn           the states of the one stand in the other
--     HasSameEntries     and so do the entries of the environment
--     HasSameGoals       and the goals
--     standing_types     the types are the same
--     standing_alike     where there are no goals
--     renamed_entries, own_entries     entries under other numbers, and under their own
--     embedded_stands    an automaton within another one stands in it
--     same_stands        states that stay stand where they did
--     agrees_stands      and so does a region at which another automaton agrees
use Rattle.std.proofs.Common.{◌≡◌, ◌≢◌, ◌⊎◌, ◌↔◌, inl, inr, ℕ, ◌+◌, ◌<◌, List, [], ◌∷◌, map, length, refl, sym, ap, ◌∙◌, subst, arith, Contains}
use Rattle.std.specs.List.{range_with_len}
use Rattle.std.proofs.lemmas.Bool.{cases_eq}
use Rattle.mls_book.specs.declared.book.Node.{Node}
use Rattle.mls_book.specs.declared.book.Node.TheVariants as node
use Rattle.mls_book.specs.Books.{IsClosedBook}
use Rattle.mls_book.specs.Predicates.{Predicate, Implies, bot, top, var}
use Rattle.mls_book.proofs.LongerBooks.{Extends, Extends-trans, extended_with}
use Rattle.mls_book.proofs.Representation.{IsIn-longer}
use Rattle.mls_book.proofs.Table.{value-bot, value-top}
use Rattle.mls_automaton.specs.declared.automaton.Polarity.{Polarity}
use Rattle.mls_automaton.specs.declared.automaton.Polarity.TheVariants.{Positive, Negative}
use Rattle.mls_automaton.specs.declared.automaton.State.{State}
use Rattle.mls_automaton.specs.declared.state_set.StateId.{StateId}
use Rattle.mls_automaton.specs.declared.scheme.EnvEntry.{EnvEntry}
use Rattle.mls_automaton.specs.Automata.{Automaton, HasFlow, flow, head_at, opposite, polarity_at, state_at}
use Rattle.mls_automaton.specs.Embeddings.{IsEmbedded}
use Rattle.mls_automaton.specs.Heads.{head_value, none_of, parts_of}
use Rattle.mls_automaton.specs.Models.{IsClosed, IsInside, IsModel}
use Rattle.mls_automaton.specs.Reached.{Names}
use Rattle.mls_automaton.proofs.Combined.{same_parts-value}
use Rattle.mls_automaton.proofs.Embeddings.{renamed_head-value}
use Rattle.mls_automaton.proofs.Lists.{Contains-cases, Contains-here, Contains-later, Contains-map, Contains-range, range_from-contains}
use Rattle.mls_automaton.proofs.Reaching.{named-low}
use Rattle.mls_typing.specs.Typed.{IsTypeOf}
use Rattle.mls_infer.specs.Constraints.{HasTypes, no_goals, renamed_entry}
use Rattle.mls_infer.specs.Merges.{HaveSameTypes, over}
use Rattle.mls_biunify.specs.Live.{IsRegion}
use Rattle.mls_infer.specs.Regions.{AgreesAt, part_over}
use Rattle.mls_infer.proofs.ConstraintRows.{nothing_in}
use Rattle.mls_infer.proofs.Grown.{Contains-mapped, head_value-agree}
use Rattle.mls_infer.proofs.RegionSteps.{all_named}

-- These states of the first automaton stand in the second one at their places. What is at their places has the
-- polarities and heads that they have, as far as values go, and the same edges between them; they name one another alone.
pub record StandsIn (states : List ℕ) (place : ℕ → ℕ) (a b : Automaton) : Type 0 where
  pub distinct : (s j : ℕ) → Contains states s → Contains states j → place s ≡ place j → s ≡ j
  pub polarity : (s : ℕ) → Contains states s → polarity_at b (place s) ≡ polarity_at a s
  pub heads : (s : ℕ) → Contains states s → (p : Polarity) (value : ℕ → Predicate)
      → head_value p value (head_at b (place s)) ≡ head_value p (λ j. value (place j)) (head_at a s)
  pub named : (s j : ℕ) → Contains states s → Names a s j → Contains states j
  pub flows : (n p : ℕ) → Contains states n → Contains states p → HasFlow a n p ↔ HasFlow b (place n) (place p)

-- the entries of the second environment are those of the first, with the places of their states
pub record HasSameEntries (place : ℕ → ℕ) (env other : List EnvEntry) : Type 0 where
  pub to : (e : EnvEntry) → Contains env e → (d : EnvEntry) × Contains other d × (d.binder ≡ e.binder) × (d.state.0 ≡ place e.state.0)
  pub from : (d : EnvEntry) → Contains other d → (e : EnvEntry) × Contains env e × (d.binder ≡ e.binder) × (d.state.0 ≡ place e.state.0)

-- the goals of the second are those of the first, between the places of their states
pub record HasSameGoals (place : ℕ → ℕ) (goals other : List (ℕ × ℕ)) : Type 0 where
  pub to : (p n : ℕ) → Contains goals (p, n) → Contains other (place p, place n)
  pub from : (q m : ℕ) → Contains other (q, m) → (p : ℕ) × (n : ℕ) × Contains goals (p, n) × (place p ≡ q) × (place n ≡ m)

-- the state of these that stands at a place
abbrev StandsAt : List ℕ → (ℕ → ℕ) → ℕ → Type 0
StandsAt states place t = (s : ℕ) × Contains states s × (place s ≡ t)

abbrev Either : List ℕ → (ℕ → ℕ) → ℕ → Type 0
Either states place t = StandsAt states place t ⊎ (StandsAt states place t → ⊥)

search : (states : List ℕ) (place : ℕ → ℕ) (t : ℕ) → Either states place t
search [] place t = inr (λ it. nothing_in it.0 it.1)
search (s ∷ rest) place t = go (cases_eq (place s) t) (search rest place t)
  where
    go : (place s ≡ t) ⊎ (place s ≢ t) → Either rest place t → Either (s ∷ rest) place t
    go (inl same) later = inl (s, Contains-here s rest, same)
    go (inr other) (inl it) = inl (it.0, Contains-later s rest it.0 it.1, it.2)
    go (inr other) (inr none) = inr (λ it. elim (Contains-cases s rest it.0 it.1) [
      | inl same ↦ other (ap place same ∙ it.2)
      | inr there ↦ none (it.0, there, it.2)
    ])

-- a closed book with the greatest and the least type
pub ends_held : (b : List Node) → IsClosedBook b → (c : List Node) × Extends b c × IsTypeOf c top × IsTypeOf c bot
ends_held b closed =
    let one = extended_with b node.Top closed tt tt in
    let two = extended_with one.0 node.Bot one.1.closed tt tt in (
      two.0,
      Extends-trans b one.0 two.0 one.1 two.1,
      IsIn-longer one.0 two.0 top one.1.closed two.1 (one.2.0, one.2.1, value-top var one.0 one.1.closed.book one.2.0 one.2.2),
      (two.2.0, two.2.1, value-bot var two.0 two.1.closed.book two.2.0 two.2.2),
    )

-- what a state passes of which nothing is known: as much as it may
loose_inside : (p : Polarity) (g : Predicate) → IsInside p g (none_of (opposite p))
loose_inside Positive g = λ t e. refl
loose_inside Negative g = λ t e. absurd (cc)

loose_held : (b : List Node) → IsTypeOf b top → IsTypeOf b bot → (p : Polarity) → IsTypeOf b (none_of (opposite p))
loose_held b greatest least Positive = greatest
loose_held b greatest least Negative = least

-- Values of these states, at their places; all other states have what they may.
module _ (a : Automaton) (closed : IsClosed a) (states : List ℕ) (place : ℕ → ℕ) (distinct : (s j : ℕ) → Contains states s → Contains states j → place s ≡ place j → s ≡ j) (value : ℕ → Predicate) where
  picked : (t : ℕ) → Either states place t → Predicate
  picked t (inl it) = value it.0
  picked t (inr none) = none_of (opposite (polarity_at a t))

  pub filled : ℕ → Predicate
  filled t = picked t (search states place t)

  filled_at : (s : ℕ) → Contains states s → filled (place s) ≡ value s
  unfolding filled picked
  filled_at s there = go (search states place (place s))
    where
      go : (o : Either states place (place s)) → picked (place s) o ≡ value s
      go (inl it) = ap value (distinct it.0 s it.1 there it.2)
      go (inr none) = absurd (none (s, there, refl))

  pub filled_held : (b : List Node) → IsTypeOf b top → IsTypeOf b bot → ((s : ℕ) → Contains states s → IsTypeOf b (value s)) → (t : ℕ) → IsTypeOf b (filled t)
  unfolding filled picked
  filled_held b greatest least held t = go (search states place t)
    where
      go : (o : Either states place t) → IsTypeOf b (picked t o)
      go (inl it) = held it.0 it.1
      go (inr none) = loose_held b greatest least (polarity_at a t)

  module _ (flows : (n p : ℕ) → Contains states n → Contains states p → HasFlow a (place n) (place p) → Implies (value n) (value p))
      (heads : (s : ℕ) → Contains states s → IsInside (polarity_at a (place s)) (head_value (polarity_at a (place s)) filled (head_at a (place s))) (value s)) where
    flow_filled : (n p : ℕ) → HasFlow a n p → Implies (filled n) (filled p)
    unfolding filled picked
    flow_filled n p edge = go (search states place n) (search states place p)
      where
        below : (g : Predicate) → Implies (none_of (opposite (polarity_at a n))) g
        below g = subst (λ q. Implies (none_of (opposite q)) g) (sym (closed.negative (flow n p) edge).polarity) (λ t e. absurd (cc))

        above : (g : Predicate) → Implies g (none_of (opposite (polarity_at a p)))
        above g = subst (λ q. Implies g (none_of (opposite q))) (sym (closed.positive (flow n p) edge).polarity) (λ t e. refl)

        go : (o : Either states place n) (o' : Either states place p) → Implies (picked n o) (picked p o')
        go (inl it) (inl it') =
            flows it.0 it'.0 it.1 it'.1 (subst (λ k. HasFlow a k (place it'.0)) (sym it.2) (subst (λ k. HasFlow a n k) (sym it'.2) edge))
        go (inl it) (inr none) = above (value it.0)
        go (inr none) o' = below (picked p o')

    head_filled : (t : ℕ) → IsInside (polarity_at a t) (head_value (polarity_at a t) filled (head_at a t)) (filled t)
    unfolding filled picked
    head_filled t = go (search states place t)
      where
        go : (o : Either states place t) → IsInside (polarity_at a t) (head_value (polarity_at a t) filled (head_at a t)) (picked t o)
        go (inl it) = subst (λ k. IsInside (polarity_at a k) (head_value (polarity_at a k) filled (head_at a k)) (value it.0)) it.2 (heads it.0 it.1)
        go (inr none) = loose_inside (polarity_at a t) (head_value (polarity_at a t) filled (head_at a t))

    pub filled_model : IsModel a filled
    filled_model = record {
      flows = λ f there. flow_filled f.negative.0 f.positive.0 there;
      heads = head_filled;
    }

module _ (a b : Automaton) (closed_a : IsClosed a) (closed_b : IsClosed b) (states : List ℕ) (place : ℕ → ℕ) (stands : StandsIn states place a b)
    (root other_root : StateId) (env other : List EnvEntry) (root_in : Contains states root.0) (env_in : (e : EnvEntry) → Contains env e → Contains states e.state.0)
    (same_root : other_root.0 ≡ place root.0) (same : HasSameEntries place env other)
    (goals other_goals : List (ℕ × ℕ)) (goals_in : (p n : ℕ) → Contains goals (p, n) → Contains states p × Contains states n) (same_goals : HasSameGoals place goals other_goals) (types : ℕ → Predicate) (f : Predicate) where
  itself : ℕ → ℕ
  itself s = s

  back : HasTypes (over b other other_root other_goals) types f → HasTypes (over a env root goals) types f
  unfolding itself
  back h =
      let ends = ends_held h.nodes h.closed in
      let W : ℕ → Predicate = λ s. h.value (place s) in
      let apart : (s j : ℕ) → Contains states s → Contains states j → itself s ≡ itself j → s ≡ j = λ s j one two e. e in
      let V : ℕ → Predicate = filled a closed_a states itself apart W in
      let at : (s : ℕ) → Contains states s → V s ≡ W s = filled_at a closed_a states itself apart W in
      record {
        nodes = ends.0;
        closed = ends.1.closed;
        value = V;
        held = filled_held a closed_a states itself apart W ends.0 ends.2 ends.3 (λ s there. IsIn-longer h.nodes ends.0 (W s) h.closed ends.1 (h.held (place s)));
        model = filled_model a closed_a states itself apart W
            (λ n p n_in p_in edge. h.model.flows (flow (place n) (place p)) ((stands.flows n p n_in p_in).0 edge))
            (λ s there. inside h.value h.model V at s there);
        goals = λ p n it.
            let both = goals_in p n it in
            subst (λ g. Implies g (V n)) (sym (at p both.0)) (subst (Implies (W p)) (sym (at n both.1)) (h.goals (place p) (place n) (same_goals.to p n it)));
        root = subst (λ g. Implies g f) (sym (at root.0 root_in)) (subst (λ k. Implies (h.value k) f) same_root h.root);
        env = λ e there.
            let d = same.to e there in
            subst (Implies (types e.binder)) (sym (at e.state.0 (env_in e there)))
            (subst (λ k. Implies (types e.binder) (h.value k)) d.3 (subst (λ x. Implies (types x) (h.value d.0.state.0)) d.2 (h.env d.0 d.1)));
      }
    where
      inside : (value : ℕ → Predicate) → IsModel b value → (V : ℕ → Predicate) → ((s : ℕ) → Contains states s → V s ≡ value (place s)) → (s : ℕ) → Contains states s
          → IsInside (polarity_at a s) (head_value (polarity_at a s) V (head_at a s)) (value (place s))
      inside value model V at s there =
          let p : Polarity = polarity_at a s in
          let own : IsInside p (head_value p value (head_at b (place s))) (value (place s)) =
          subst (λ q. IsInside q (head_value q value (head_at b (place s))) (value (place s))) (stands.polarity s there) (model.heads (place s)) in
          let agree : head_value p V (head_at a s) ≡ head_value p (λ j. value (place j)) (head_at a s) =
          head_value-agree p V (λ j. value (place j)) (head_at a s) (all_named (λ j. V j ≡ value (place j)) p (head_at a s) (λ j names. at j (stands.named s j there names))) in
          subst (λ g. IsInside p g (value (place s))) (stands.heads s there p value ∙ sym agree) own

  forth : HasTypes (over a env root goals) types f → HasTypes (over b other other_root other_goals) types f
  forth h =
      let ends = ends_held h.nodes h.closed in
      let W : ℕ → Predicate = filled b closed_b states place stands.distinct h.value in
      let at : (s : ℕ) → Contains states s → W (place s) ≡ h.value s = filled_at b closed_b states place stands.distinct h.value in
      record {
        nodes = ends.0;
        closed = ends.1.closed;
        value = W;
        held = filled_held b closed_b states place stands.distinct h.value ends.0 ends.2 ends.3 (λ s there. IsIn-longer h.nodes ends.0 (h.value s) h.closed ends.1 (h.held s));
        model = filled_model b closed_b states place stands.distinct h.value
            (λ n p n_in p_in edge. h.model.flows (flow n p) ((stands.flows n p n_in p_in).1 edge))
            (λ s there. inside h.value h.model W at s there);
        goals = λ q m it.
            let from = same_goals.from q m it in
            let both = goals_in from.0 from.1 from.2 in
            subst (λ k. Implies (W k) (W m)) from.3 (subst (λ k. Implies (W (place from.0)) (W k)) from.4
            (subst (λ g. Implies g (W (place from.1))) (sym (at from.0 both.0)) (subst (Implies (h.value from.0)) (sym (at from.1 both.1)) (h.goals from.0 from.1 from.2))));
        root = subst (λ k. Implies (W k) f) (sym same_root) (subst (λ g. Implies g f) (sym (at root.0 root_in)) h.root);
        env = λ d there.
            let e = same.from d there in
            subst (λ x. Implies (types x) (W d.state.0)) (sym e.2) (subst (λ k. Implies (types e.0.binder) (W k)) (sym e.3)
            (subst (Implies (types e.0.binder)) (sym (at e.0.state.0 (env_in e.0 e.1))) (h.env e.0 e.1)));
      }
    where
      inside : (value : ℕ → Predicate) → IsModel a value → (W : ℕ → Predicate) → ((s : ℕ) → Contains states s → W (place s) ≡ value s) → (s : ℕ) → Contains states s
          → IsInside (polarity_at b (place s)) (head_value (polarity_at b (place s)) W (head_at b (place s))) (value s)
      inside value model W at s there =
          let p : Polarity = polarity_at a s in
          let agree : head_value p (λ j. W (place j)) (head_at a s) ≡ head_value p value (head_at a s) =
          head_value-agree p (λ j. W (place j)) value (head_at a s) (all_named (λ j. W (place j) ≡ value j) p (head_at a s) (λ j names. at j (stands.named s j there names))) in
          subst (λ q. IsInside q (head_value q W (head_at b (place s))) (value s)) (sym (stands.polarity s there))
          (subst (λ g. IsInside p g (value s)) (sym (stands.heads s there p W ∙ agree)) (model.heads s))

  pub standing_types : HasTypes (over a env root goals) types f ↔ HasTypes (over b other other_root other_goals) types f
  standing_types = (forth, back)

-- where there are no goals
pub standing_alike : (a b : Automaton) → IsClosed a → IsClosed b → (states : List ℕ) (place : ℕ → ℕ) → StandsIn states place a b
    → (root other_root : StateId) (env other : List EnvEntry) → Contains states root.0 → ((e : EnvEntry) → Contains env e → Contains states e.state.0)
    → other_root.0 ≡ place root.0 → HasSameEntries place env other → HaveSameTypes (no_goals (part_over a env root)) (no_goals (part_over b other other_root))
standing_alike a b closed_a closed_b states place stands root other_root env other root_in env_in same_root same types f =
    standing_types a b closed_a closed_b states place stands root other_root env other root_in env_in same_root same
    [] [] (λ p n none. absurd (nothing_in (p, n) none)) (record { to = λ p n none. absurd (nothing_in (p, n) none); from = λ q m none. absurd (nothing_in (q, m) none) }) types f

-- the same entries under other numbers
pub renamed_entries : (place : ℕ → ℕ) (env : List EnvEntry) → HasSameEntries place env (map (renamed_entry place) env)
renamed_entries place env = record {
  to = λ e there. (renamed_entry place e, Contains-map (renamed_entry place) env e there, refl, refl);
  from = λ d there.
      let it = Contains-mapped (renamed_entry place) env d there in
      (it.0, it.1, sym (ap (λ (e : EnvEntry). e.binder) it.2), sym (ap (λ (e : EnvEntry). e.state.0) it.2));
}

pub own_entries : (env : List EnvEntry) → HasSameEntries (λ s. s) env env
own_entries env = record { to = λ e there. (e, there, refl, refl); from = λ e there. (e, there, refl, refl) }

-- all states of an automaton
abbrev pub all_states : Automaton → List ℕ
all_states a = range_with_len 0 (length a.states)

pub is_among : (a : Automaton) (s : ℕ) → s < length a.states → Contains (all_states a) s
is_among a s low = Contains-range (length a.states) s low

pub among_low : (a : Automaton) (s : ℕ) → Contains (all_states a) s → s < length a.states
among_low a s there = let it = range_from-contains 0 (length a.states) s there in let low : s < 0 + length a.states = it.1 in omega arith

-- an automaton within another one stands in it
pub embedded_stands : (place : ℕ → ℕ) (a b : Automaton) → IsClosed a → IsEmbedded place a b → StandsIn (all_states a) place a b
embedded_stands place a b closed is = record {
  distinct = λ s j one two e. is.distinct s j (among_low a s one) (among_low a j two) e;
  polarity = λ s there. is.polarity s (among_low a s there);
  heads = λ s there p value. ap (head_value p value) (is.head s (among_low a s there)) ∙ renamed_head-value place value p (head_at a s);
  named = λ s j there names. is_among a j (named-low a closed s j names);
  flows = λ n p one two. (λ edge. is.flows (flow n p) edge, λ edge. is.no_more_flows n p (among_low a n one) (among_low a p two) edge);
}

-- states that stay stand where they did
pub same_stands : (states : List ℕ) (a b : Automaton) → ((s : ℕ) → Contains states s → state_at b s ≡ state_at a s) → ((s j : ℕ) → Contains states s → Names a s j → Contains states j)
    → ((n p : ℕ) → Contains states n → Contains states p → HasFlow a n p ↔ HasFlow b n p) → StandsIn states (λ s. s) a b
same_stands states a b same named flows = record {
  distinct = λ s j one two e. e;
  polarity = λ s there. ap (λ (x : State). x.polarity) (same s there);
  heads = λ s there p value. ap (λ (x : State). head_value p value x.head) (same s there);
  named = named;
  flows = flows;
}

-- a region at which the second automaton agrees stands where it did
pub agrees_stands : (states : List ℕ) (a b : Automaton) → IsRegion a states → AgreesAt states a b → StandsIn states (λ s. s) a b
agrees_stands states a b region agrees = record {
  distinct = λ s j one two e. e;
  polarity = agrees.polarity;
  heads = λ s there p value. same_parts-value p value (parts_of (head_at b s)) (parts_of (head_at a s)) (agrees.heads s there);
  named = λ s j there names. (region.heads s j names).0 there;
  flows = λ n p one two. let it = agrees.flows n p one in (it.1, it.0);
}
