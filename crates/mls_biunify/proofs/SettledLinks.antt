-- Edges that are added and taken out again.
use Rattle.std.proofs.Common.{◌≡◌, ◌↔◌, ◌⊎◌, inl, inr, ℕ, ◌+◌, ◌<◌, ◌∙◌, Bool, true, false, List, [], ◌∷◌, ◌++◌, take, drop, Contains, get_or, length, refl, sym, ap, subst, arith}
use Rattle.std.proofs.lemmas.List.{take-append-drop}
use Rattle.std.proofs.lemmas.List.Elements.{Contains-append_left}
use Rattle.mls_automaton.specs.declared.automaton.Polarity.{Polarity}
use Rattle.mls_automaton.specs.declared.automaton.Polarity.TheVariants.{Positive, Negative}
use Rattle.mls_automaton.specs.declared.automaton.State.{State}
use Rattle.mls_automaton.specs.Automata.{HasFlow, empty_head}
use Rattle.mls_solver.proofs.Relating.{taken-before, taken-last, taken-cases}
use Rattle.mls_biunify.specs.Live.{IsStateIn}
use Rattle.mls_biunify.specs.steps.Settlement.{AddsEdges, Links, Unlinks}
use Rattle.mls_biunify.specs.steps.Tables.{Numbered, RemovesFlow}
use Rattle.mls_biunify.proofs.Collected.{pushed-one}

-- the same states under the same numbers
pub same-state-in : (old new : Numbered) → new.automaton.states ≡ old.automaton.states → new.there ≡ old.there → (p : Polarity) (s : ℕ) → IsStateIn old.automaton old.there p s → IsStateIn new.automaton new.there p s
same-state-in old new states there p s it = record {
  there = ap (λ (numbers : List Bool). get_or numbers s false) there ∙ it.there;
  polarity = ap (λ (xs : List State). (get_or xs s (record { polarity = Positive; head = empty_head })).polarity) states ∙ it.polarity;
}

pub same-there-in : (old new : Numbered) → new.there ≡ old.there → (s : ℕ) → get_or old.there s false ≡ true → get_or new.there s false ≡ true
same-there-in old new there s it = ap (λ (numbers : List Bool). get_or numbers s false) there ∙ it

-- an edge that was there
pub links-there : (t : Numbered) (noted : List (ℕ × ℕ)) (n p : ℕ) → HasFlow t.automaton n p → Links t t noted noted n p
links-there t noted n p edge = record {
  adds = record {
    states = refl;
    there = refl;
    limit = refl;
    flows = λ i j. (
      λ it. inl it,
      λ it.
          elim it [
            | inl before ↦ before
            | inr here ↦ subst (λ k. HasFlow t.automaton k j) (sym here.0) (subst (λ k. HasFlow t.automaton n k) (sym here.1) edge)
          ],
    );
  };
  kept = λ x it. it;
  new_noted = λ x it. inl it;
  either = inl edge;
}

-- an edge that is new
pub links-new : (old new : Numbered) (noted more : List (ℕ × ℕ)) (n p : ℕ) → new.automaton.states ≡ old.automaton.states → new.there ≡ old.there → new.limit ≡ old.limit → ((i j : ℕ) → HasFlow new.automaton i j ↔ HasFlow old.automaton i j ⊎ ((i ≡ n) × (j ≡ p))) → (HasFlow old.automaton n p → ⊥) → more ≡ noted ++ (n, p) ∷ [] → Links old new noted more n p
links-new old new noted more n p states there limit flows absent e = record {
  adds = record { states = states; there = there; limit = limit; flows = flows };
  kept = λ x it. (pushed-one noted more (n, p) e x).1 (inl it);
  new_noted = λ x it.
      elim ((pushed-one noted more (n, p) e x).0 it) [
        | inl before ↦ inl before
        | inr here ↦ inr (here, absent)
      ];
  either = inr ((pushed-one noted more (n, p) e (n, p)).1 (inr refl));
}

pub adds-none : (old new : Numbered) → new.automaton.states ≡ old.automaton.states → new.there ≡ old.there → new.limit ≡ old.limit → ((i j : ℕ) → HasFlow new.automaton i j ↔ HasFlow old.automaton i j) → AddsEdges old new (λ i j. ⊥)
adds-none old new states there limit flows = record {
  states = states;
  there = there;
  limit = limit;
  flows = λ i j. (λ it. inl ((flows i j).0 it), λ it. elim it [ inl before ↦ (flows i j).1 before | inr none ↦ absurd none ]);
}

-- some edges were added, and the new ones among them were noted
pub record AreLinked (old : Numbered) (edges : List (ℕ × ℕ)) (now : Numbered) (noted : List (ℕ × ℕ)) : Type 0 where
  pub adds : AddsEdges old now (λ n p. Contains edges (n, p))
  pub fresh : (x : ℕ × ℕ) → Contains noted x → HasFlow old.automaton x.0 x.1 → ⊥
  pub noted_all : (n p : ℕ) → HasFlow now.automaton n p → HasFlow old.automaton n p ⊎ Contains noted (n, p)
  pub among : (x : ℕ × ℕ) → Contains noted x → Contains edges x

pub linked-none : (t : Numbered) (edges noted : List (ℕ × ℕ)) → noted ≡ [] → AreLinked t (take 0 edges) t noted
linked-none t edges noted e = record {
  adds = record {
    states = refl;
    there = refl;
    limit = refl;
    flows = λ n p. (
      λ it. inl it,
      λ it. elim it [ inl before ↦ before | inr none ↦ let low : none.0 < 0 = none.1 in absurd (omega arith) ],
    );
  };
  fresh = λ x it. absurd (nothing x it);
  noted_all = λ n p it. inl it;
  among = λ x it. absurd (nothing x it);
}
  where
    nothing : (x : ℕ × ℕ) → Contains noted x → ⊥
    nothing x it =
        let none : Contains [] x = subst (λ (xs : List (ℕ × ℕ)). Contains xs x) e it in
        let low : none.0 < 0 = none.1 in
        omega arith

pub linked-more : (old mid new : Numbered) (edges : List (ℕ × ℕ)) (i : ℕ) (noted more : List (ℕ × ℕ)) → i < length edges → AreLinked old (take i edges) mid noted → Links mid new noted more (get_or edges i (0, 0)).0 (get_or edges i (0, 0)).1 → AreLinked old (take (i + 1) edges) new more
linked-more old mid new edges i noted more low so_far it = record {
  adds = record {
    states = it.adds.states ∙ so_far.adds.states;
    there = it.adds.there ∙ so_far.adds.there;
    limit = it.adds.limit ∙ so_far.adds.limit;
    flows = λ n p. (
      λ edge.
          elim ((it.adds.flows n p).0 edge) [
            | inl before ↦ elim ((so_far.adds.flows n p).0 before) [
              | inl first ↦ inl first
              | inr among ↦ inr (taken-before edges i (0, 0) low (n, p) among)
            ]
            | inr here ↦ inr (subst (Contains (take (i + 1) edges)) (λ j. (sym here.0 j, sym here.1 j)) (taken-last edges i (0, 0) low))
          ],
      λ both.
          (it.adds.flows n p).1 (elim both [
            | inl first ↦ inl ((so_far.adds.flows n p).1 (inl first))
            | inr among ↦ elim (taken-cases edges i (0, 0) low (n, p) among) [
              | inl earlier ↦ inl ((so_far.adds.flows n p).1 (inr earlier))
              | inr same ↦ inr (ap (λ (x : ℕ × ℕ). x.0) same, ap (λ (x : ℕ × ℕ). x.1) same)
            ]
          ]),
    );
  };
  fresh = λ x there edge.
      elim (it.new_noted x there) [
        | inl before ↦ so_far.fresh x before edge
        | inr here ↦
            here.1 ((so_far.adds.flows (get_or edges i (0, 0)).0 (get_or edges i (0, 0)).1).1 (inl (subst (λ (y : ℕ × ℕ). HasFlow old.automaton y.0 y.1) here.0 edge)))
      ];
  noted_all = λ n p edge.
      elim ((it.adds.flows n p).0 edge) [
        | inl before ↦ elim (so_far.noted_all n p before) [ inl first ↦ inl first | inr noted_there ↦ inr (it.kept (n, p) noted_there) ]
        | inr here ↦
            let same : get_or edges i (0, 0) ≡ (n, p) = λ j. (sym here.0 j, sym here.1 j) in
            elim it.either [
              | inl before ↦
                  elim (so_far.noted_all (get_or edges i (0, 0)).0 (get_or edges i (0, 0)).1 before) [
                    | inl first ↦ inl (subst (λ (y : ℕ × ℕ). HasFlow old.automaton y.0 y.1) same first)
                    | inr noted_there ↦ inr (it.kept (n, p) (subst (Contains noted) same noted_there))
                  ]
              | inr new_there ↦ inr (subst (Contains more) same new_there)
            ]
      ];
  among = λ x there.
      elim (it.new_noted x there) [
        | inl before ↦ taken-before edges i (0, 0) low x (so_far.among x before)
        | inr here ↦ subst (Contains (take (i + 1) edges)) (sym here.0) (taken-last edges i (0, 0) low)
      ];
}

-- what was noted is taken out
pub unlinks-none : (t : Numbered) (edges : List (ℕ × ℕ)) → Unlinks t (take 0 edges) t
unlinks-none t edges = record {
  states = refl;
  there = refl;
  limit = refl;
  flows = λ i j. (λ it. (it, λ none. let low : none.0 < 0 = none.1 in omega arith), λ it. it.0);
}

pub unlinks-more : (old mid new : Numbered) (edges : List (ℕ × ℕ)) (i : ℕ) → i < length edges → Unlinks old (take i edges) mid → RemovesFlow mid new (get_or edges i (0, 0)).0 (get_or edges i (0, 0)).1 → Unlinks old (take (i + 1) edges) new
unlinks-more old mid new edges i low so_far it = record {
  states = it.states ∙ so_far.states;
  there = it.there ∙ so_far.there;
  limit = it.limit ∙ so_far.limit;
  flows = λ n p. (
    λ edge.
        let both = (it.flows n p).0 edge in
        let before = (so_far.flows n p).0 both.0 in (
          before.0,
          λ among.
              elim (taken-cases edges i (0, 0) low (n, p) among) [
                | inl earlier ↦ before.1 earlier
                | inr same ↦ both.1 (ap (λ (x : ℕ × ℕ). x.0) same) (ap (λ (x : ℕ × ℕ). x.1) same)
              ],
        ),
    λ both.
        (it.flows n p).1 (
          (so_far.flows n p).1 (both.0, λ earlier. both.1 (taken-before edges i (0, 0) low (n, p) earlier)),
          λ e f. both.1 (subst (Contains (take (i + 1) edges)) (λ j. (sym e j, sym f j)) (taken-last edges i (0, 0) low)),
        ),
  );
}

pub unlinked : (old mid new : Numbered) (edges noted : List (ℕ × ℕ)) (i : ℕ) → AreLinked old (take i edges) mid noted → (failed : Numbered) → AddsEdges mid failed (λ n p. ⊥) → Unlinks failed noted new → AddsEdges old new (λ n p. ⊥)
unlinked old mid new edges noted i so_far failed same it = record {
  states = it.states ∙ (same.states ∙ so_far.adds.states);
  there = it.there ∙ (same.there ∙ so_far.adds.there);
  limit = it.limit ∙ (same.limit ∙ so_far.adds.limit);
  flows = λ n p. (
    λ edge.
        let both = (it.flows n p).0 edge in
        elim ((same.flows n p).0 both.0) [
          | inl before ↦ elim (so_far.noted_all n p before) [ inl first ↦ inl first | inr there ↦ absurd (both.1 there) ]
          | inr none ↦ absurd none
        ],
    λ either.
        elim either [
          | inl first ↦
              (it.flows n p).1 (
                (same.flows n p).1 (inl ((so_far.adds.flows n p).1 (inl first))),
                λ there. so_far.fresh (n, p) there first,
              )
          | inr none ↦ absurd none
        ],
  );
}

-- what was noted goes between states that are there
pub noted_there : (old mid failed : Numbered) (edges now_noted noted : List (ℕ × ℕ)) (i : ℕ) → ((n p : ℕ) → Contains edges (n, p) → IsStateIn old.automaton old.there Negative n × IsStateIn old.automaton old.there Positive p) → AreLinked old (take i edges) mid noted → AddsEdges mid failed (λ n p. ⊥) → now_noted ≡ noted → (n p : ℕ) → Contains now_noted (n, p) → (get_or failed.there n false ≡ true) × (get_or failed.there p false ≡ true)
noted_there old mid failed edges now_noted noted i ends so_far same e n p it =
    let among : Contains edges (n, p) = taken-in edges i (n, p) (so_far.among (n, p) (subst (λ (xs : List (ℕ × ℕ)). Contains xs (n, p)) e it)) in
    let both = ends n p among in (
      same-there-in old failed (same.there ∙ so_far.adds.there) n both.0.there,
      same-there-in old failed (same.there ∙ so_far.adds.there) p both.1.there,
    )
  where
    taken-in : (xs : List (ℕ × ℕ)) (k : ℕ) (x : ℕ × ℕ) → Contains (take k xs) x → Contains xs x
    taken-in xs k x it = subst (λ (ys : List (ℕ × ℕ)). Contains ys x) (take-append-drop k xs) (Contains-append_left (take k xs) (drop k xs) x it)
