-- How the table grows.
--     grows_none, grows_inserted, grows_edge     by nothing, by one state, by one edge
--     grows_then          by one after the other
--     grows_passage       by two states and the edge between them
--     grown_insert        a growth by one state is an insertion
use Rattle.std.proofs.Common.{◌≡◌, ◌⊎◌, ◌↔◌, inl, inr, ℕ, Bool, true, false, List, [], ◌∷◌, ◌++◌, map, get_or, sym, ap, ◌∙◌, subst, Contains}
use Rattle.std.proofs.lemmas.List.{map-append}
use Rattle.std.proofs.lemmas.List.Elements.{Contains-append_cases, Contains-append_left, Contains-append_right}
use Rattle.mls_automaton.specs.declared.automaton.Polarity.TheVariants.{Positive}
use Rattle.mls_automaton.specs.declared.automaton.Head.{Head}
use Rattle.mls_automaton.specs.declared.automaton.State.{State}
use Rattle.mls_automaton.specs.Automata.{HasFlow, empty_head, state_at}
use Rattle.mls_automaton.proofs.Lists.{Contains-cases, Contains-here, Contains-map}
use Rattle.mls_biunify.specs.Live.{Inserts, IsLive, Live}
use Rattle.mls_biunify.proofs.TableSteps.{there-or_not}
use Rattle.mls_infer.specs.Constraints.{negative, positive}
use Rattle.mls_infer.specs.Pending.{Grows, numbered}
use Rattle.mls_infer.proofs.ConstraintRows.{nothing_in}
use Rattle.mls_infer.proofs.RegionSteps.{unlike}

pub grows_none : (live : Live) → IsLive live → Grows live live [] []
grows_none live is = record {
  live_old = is;
  live_new = is;
  fresh = λ s it was. nothing_in s it;
  there = λ s. (λ was. inl was, λ either. elim either [ inl was ↦ was | inr none ↦ absurd (nothing_in s none) ]);
  here = λ s state it. absurd (nothing_in (s, state) it);
  others = λ s was. λ i. state_at live.table s;
  flows = λ n p. (λ edge. inl edge, λ either. elim either [ inl edge ↦ edge | inr none ↦ absurd (nothing_in (n, p) none) ]);
}

-- one state came
pub grows_inserted : (old new : Live) (s : ℕ) (state : State) → IsLive old → IsLive new → Inserts old new s state → Grows old new ((s, state) ∷ []) []
grows_inserted old new s state is_old is_new step = record {
  live_old = is_old;
  live_new = is_new;
  fresh = λ j it was. unlike (get_or old.there j false) was (subst (λ k. get_or old.there k false ≡ false) (only j it) step.was_free);
  there = λ j. (
    λ now. elim ((step.there j).0 now) [
      | inl was ↦ inl was
      | inr same ↦ inr (subst (Contains (s ∷ [])) (sym same) (Contains-here s []))
    ],
    λ either. (step.there j).1 (elim either [ inl was ↦ inl was | inr it ↦ inr (sym (only j it)) ]),
  );
  here = λ j other it. elim (Contains-cases (s, state) [] (j, other) it) [
    | inl same ↦ ap (state_at new.table) (sym (ap (λ (x : ℕ × State). x.0) same)) ∙ (step.here ∙ ap (λ (x : ℕ × State). x.1) same)
    | inr none ↦ absurd (nothing_in (j, other) none)
  ];
  others = step.others;
  flows = λ n p. (
    λ edge. inl ((step.flows n p).0 edge),
    λ either. elim either [ inl edge ↦ (step.flows n p).1 edge | inr none ↦ absurd (nothing_in (n, p) none) ],
  );
}
  where
    only : (j : ℕ) → Contains (s ∷ []) j → s ≡ j
    only j it = elim (Contains-cases s [] j it) [ inl same ↦ same | inr none ↦ absurd (nothing_in j none) ]

pub grown_insert : (old new : Live) (s : ℕ) (state : State) → Grows old new ((s, state) ∷ []) [] → Inserts old new s state
grown_insert old new s state grows = record {
  was_free = elim (there-or_not old.there s) [ inl was ↦ absurd (grows.fresh s (Contains-here s []) was) | inr free ↦ free ];
  there = λ j. (
    λ now. elim ((grows.there j).0 now) [
      | inl was ↦ inl was
      | inr it ↦ inr (elim (Contains-cases s [] j it) [ inl same ↦ sym same | inr none ↦ absurd (nothing_in j none) ])
    ],
    λ either. (grows.there j).1 (elim either [ inl was ↦ inl was | inr same ↦ inr (subst (Contains (s ∷ [])) (sym same) (Contains-here s [])) ]),
  );
  here = grows.here s state (Contains-here (s, state) []);
  others = grows.others;
  flows = λ n p. (
    λ edge. elim ((grows.flows n p).0 edge) [ inl before ↦ before | inr none ↦ absurd (nothing_in (n, p) none) ],
    λ edge. (grows.flows n p).1 (inl edge),
  );
}

-- one edge came
pub grows_edge : (old new : Live) (n p : ℕ) → IsLive old → IsLive new → new.table.states ≡ old.table.states → new.there ≡ old.there
    → ((m q : ℕ) → HasFlow new.table m q ↔ HasFlow old.table m q ⊎ ((m ≡ n) × (q ≡ p))) → Grows old new [] ((n, p) ∷ [])
grows_edge old new n p is_old is_new states numbers flows = record {
  live_old = is_old;
  live_new = is_new;
  fresh = λ s it was. nothing_in s it;
  there = λ s. (
    λ now. inl (subst (λ (bits : List Bool). get_or bits s false ≡ true) numbers now),
    λ either. elim either [
      | inl was ↦ subst (λ (bits : List Bool). get_or bits s false ≡ true) (sym numbers) was
      | inr none ↦ absurd (nothing_in s none)
    ],
  );
  here = λ s state it. absurd (nothing_in (s, state) it);
  others = λ s was. ap (λ (xs : List State). get_or xs s (record { polarity = Positive; head = empty_head })) states;
  flows = λ m q. (
    λ edge. elim ((flows m q).0 edge) [
      | inl before ↦ inl before
      | inr came ↦ inr (subst (λ (x : ℕ × ℕ). Contains edges x) (λ i. (sym came.0 i, sym came.1 i)) (Contains-here (n, p) []))
    ],
    λ either. (flows m q).1 (elim either [
      | inl before ↦ inl before
      | inr it ↦ inr (elim (Contains-cases (n, p) [] (m, q) it) [
        | inl same ↦ (sym (ap (λ (x : ℕ × ℕ). x.0) same), sym (ap (λ (x : ℕ × ℕ). x.1) same))
        | inr none ↦ absurd (nothing_in (m, q) none)
      ])
    ]),
  );
}
  where
    edges : List (ℕ × ℕ)
    edges = (n, p) ∷ []

-- one growth after another
module _ (a b c : Live) (first_states second_states : List (ℕ × State)) (first_edges second_edges : List (ℕ × ℕ)) (first : Grows a b first_states first_edges) (second : Grows b c second_states second_edges) where
  abbrev all : List (ℕ × State)
  all = first_states ++ second_states

  numbers : (s : ℕ) → Contains (map numbered all) s → Contains (map numbered first_states) s ⊎ Contains (map numbered second_states) s
  numbers s it =
      Contains-append_cases (map numbered first_states) (map numbered second_states) s
      (subst (λ (xs : List ℕ). Contains xs s) (map-append numbered first_states second_states) it)

  numbers_back : (s : ℕ) → Contains (map numbered first_states) s ⊎ Contains (map numbered second_states) s → Contains (map numbered all) s
  numbers_back s either =
      subst (λ (xs : List ℕ). Contains xs s) (sym (map-append numbered first_states second_states))
      (elim either [
        | inl one ↦ Contains-append_left (map numbered first_states) (map numbered second_states) s one
        | inr two ↦ Contains-append_right (map numbered first_states) (map numbered second_states) s two
      ])

  pub grows_then : Grows a c (first_states ++ second_states) (first_edges ++ second_edges)
  grows_then = record {
    live_old = first.live_old;
    live_new = second.live_new;
    fresh = λ s it was. elim (numbers s it) [
      | inl one ↦ first.fresh s one was
      | inr two ↦ second.fresh s two ((first.there s).1 (inl was))
    ];
    there = λ s. (
      λ now. elim ((second.there s).0 now) [
        | inl mid ↦ elim ((first.there s).0 mid) [ inl was ↦ inl was | inr one ↦ inr (numbers_back s (inl one)) ]
        | inr two ↦ inr (numbers_back s (inr two))
      ],
      λ either. elim either [
        | inl was ↦ (second.there s).1 (inl ((first.there s).1 (inl was)))
        | inr it ↦ elim (numbers s it) [
          | inl one ↦ (second.there s).1 (inl ((first.there s).1 (inr one)))
          | inr two ↦ (second.there s).1 (inr two)
        ]
      ],
    );
    here = λ s state it. elim (Contains-append_cases first_states second_states (s, state) it) [
      | inl one ↦ second.others s ((first.there s).1 (inr (Contains-map numbered first_states (s, state) one))) ∙ first.here s state one
      | inr two ↦ second.here s state two
    ];
    others = λ s was. second.others s ((first.there s).1 (inl was)) ∙ first.others s was;
    flows = λ n p. (
      λ edge. elim ((second.flows n p).0 edge) [
        | inl mid ↦ elim ((first.flows n p).0 mid) [ inl before ↦ inl before | inr one ↦ inr (Contains-append_left first_edges second_edges (n, p) one) ]
        | inr two ↦ inr (Contains-append_right first_edges second_edges (n, p) two)
      ],
      λ either. elim either [
        | inl before ↦ (second.flows n p).1 (inl ((first.flows n p).1 (inl before)))
        | inr it ↦ elim (Contains-append_cases first_edges second_edges (n, p) it) [
          | inl one ↦ (second.flows n p).1 (inl ((first.flows n p).1 (inr one)))
          | inr two ↦ (second.flows n p).1 (inr two)
        ]
      ],
    );
  }

-- a negative state, a positive one, and the edge between them
pub grows_passage : (a b c d : Live) (n p : ℕ) (h h' : Head) → h ≡ empty_head → h' ≡ empty_head → Grows a b ((n, negative h) ∷ []) [] → Grows b c ((p, positive h') ∷ []) []
    → IsLive d → d.table.states ≡ c.table.states → d.there ≡ c.there → ((m q : ℕ) → HasFlow d.table m q ↔ HasFlow c.table m q ⊎ ((m ≡ n) × (q ≡ p)))
    → Grows a d ((n, negative empty_head) ∷ (p, positive empty_head) ∷ []) ((n, p) ∷ [])
grows_passage a b c d n p h h' h_is h'_is first second is states numbers flows =
    let one : Grows a b ((n, negative empty_head) ∷ []) [] = subst (λ (g : Head). Grows a b ((n, negative g) ∷ []) []) h_is first in
    let two : Grows b c ((p, positive empty_head) ∷ []) [] = subst (λ (g : Head). Grows b c ((p, positive g) ∷ []) []) h'_is second in
    let both : Grows a c ((n, negative empty_head) ∷ (p, positive empty_head) ∷ []) [] =
    grows_then a b c ((n, negative empty_head) ∷ []) ((p, positive empty_head) ∷ []) [] [] one two in
    grows_then a c d ((n, negative empty_head) ∷ (p, positive empty_head) ∷ []) [] [] ((n, p) ∷ []) both (grows_edge c d n p second.live_new is states numbers flows)
