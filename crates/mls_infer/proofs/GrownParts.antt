-- Parts that wait while the table grows by the new states of a form, and what they and the new states are together.
--     all_in, in_all      the states of several parts
--     waiting_there       they are there
--     true_flows          the edges of a table
--     parts_region        parts that wait are a region together
--     waiting_part, waiting_states     each is a part, and its scheme has states
--     stays_part, same_types     a part stays one, with the same types
--     beside              parts stand side by side with the new states
--     passage_at          two of the new states are a passage
--     edges_within        edges lead from new states to new states
--     grown_waits, grown_changes     the part of all these states
use Rattle.std.proofs.Common.{◌≡◌, ◌↔◌, inl, inr, ℕ, false, List, [], ◌∷◌, ◌++◌, map, get_or, sym, ap, ◌∙◌, subst, Contains}
use Rattle.std.proofs.lemmas.List.Elements.{Contains-append_cases, Contains-append_left, Contains-append_right}
use Rattle.mls_automaton.specs.declared.automaton.State.{State}
use Rattle.mls_automaton.specs.Automata.{Automaton, HasTrueFlows, empty_head, polarity_at, state_at}
use Rattle.mls_automaton.specs.Models.{IsClosed}
use Rattle.mls_automaton.specs.Reached.{HeadNames}
use Rattle.mls_automaton.proofs.Lists.{Contains-cases, Contains-here, Contains-map}
use Rattle.mls_biunify.specs.Live.{IsLive, IsRegion, IsThere, Live}
use Rattle.mls_biunify.proofs.TableSteps.{table-closed, there-or_not}
use Rattle.mls_infer.specs.Constraints.{HasStates, negative, no_goals, positive}
use Rattle.mls_infer.specs.Merges.{HaveSameTypes}
use Rattle.mls_infer.specs.Pending.{AreWaiting, Changes, Grows, Waits, all_states, numbered}
use Rattle.mls_infer.specs.Regions.{AgreesAt, AreParts, AreSideBySide, ChangesWithin, InParts, IsPart, TablePart, scheme_at}
use Rattle.mls_infer.specs.TableRows.{IsPassage}
use Rattle.mls_infer.proofs.ConstraintRows.{nothing_in}
use Rattle.mls_infer.proofs.PartChanges.{changes_from, within_more}
use Rattle.mls_infer.proofs.RegionSteps.{free_region, free_same, naming_there, own_region, region_union, same_head, unlike}
use Rattle.mls_infer.proofs.Regions.{region_closed, types_agree}
use Rattle.mls_infer.proofs.TableParts.{AreEdgesWithin, AreStatesWith}
use Rattle.mls_infer.proofs.TableSolutions.{part_states}

pub all_in : (parts : List TablePart) (s : ℕ) → Contains (all_states parts) s → InParts parts s
all_in [] s it = nothing_in s it
all_in (part ∷ rest) s it = elim (Contains-append_cases part.states (all_states rest) s it) [ inl here ↦ inl here | inr later ↦ inr (all_in rest s later) ]

pub in_all : (parts : List TablePart) (s : ℕ) → InParts parts s → Contains (all_states parts) s
in_all [] s it = absurd it
in_all (part ∷ rest) s (inl here) = Contains-append_left part.states (all_states rest) s here
in_all (part ∷ rest) s (inr later) = Contains-append_right part.states (all_states rest) s (in_all rest s later)

pub waiting_there : (live : Live) (parts : List TablePart) → AreWaiting live parts → (s : ℕ) → InParts parts s → IsThere live s
waiting_there live [] are s it = absurd it
waiting_there live (part ∷ rest) are s (inl here) = are.0.there s here
waiting_there live (part ∷ rest) are s (inr later) = waiting_there live rest are.2 s later

pub true_flows : (live : Live) → IsLive live → HasTrueFlows live.table
true_flows live is = let closed : IsClosed live.table = table-closed live.table live.there is in record { negative = closed.negative; positive = closed.positive }

empty_region : (a : Automaton) → IsRegion a []
empty_region a = record {
  heads = λ s t names. (λ here. absurd (nothing_in s here), λ here. absurd (nothing_in t here));
  flows = λ n p edge. (λ here. absurd (nothing_in n here), λ here. absurd (nothing_in p here));
}

pub parts_region : (live : Live) (parts : List TablePart) → AreWaiting live parts → IsRegion live.table (all_states parts)
parts_region live [] are = empty_region live.table
parts_region live (part ∷ rest) are = region_union live.table part.states (all_states rest) are.0.part.region (parts_region live rest are.2)

-- a region in another order
same_region : (a : Automaton) (states others : List ℕ) → ((s : ℕ) → Contains others s ↔ Contains states s) → IsRegion a states → IsRegion a others
same_region a states others same region = record {
  heads = λ s t names. let it = region.heads s t names in (λ here. (same t).1 (it.0 ((same s).0 here)), λ here. (same s).1 (it.1 ((same t).0 here)));
  flows = λ n p edge. let it = region.flows n p edge in (λ here. (same p).1 (it.0 ((same n).0 here)), λ here. (same n).1 (it.1 ((same p).0 here)));
}

-- a part that is apart from all else is a part
pub waiting_part : (live : Live) (part : TablePart) → Waits live part → IsPart live.table part.states part.env part.root
waiting_part live part waits = record {
  region = region_closed live.table part.states waits.part.region;
  root_in = waits.part.root_in;
  root_positive = waits.part.root_positive;
  env_in = waits.part.env_in;
  env_negative = waits.part.env_negative;
}

pub waiting_states : (live : Live) → IsLive live → (part : TablePart) → Waits live part → HasStates (scheme_at live.table part)
waiting_states live is part waits = part_states live is part.states waits.there part.env part.root waits.part

-- edges that lead from new states to new states
abbrev pub HasOwnEnds : List (ℕ × State) → List (ℕ × ℕ) → Type 0
HasOwnEnds states edges = (n p : ℕ) → Contains edges (n, p) → Contains (map numbered states) n × Contains (map numbered states) p

module _ (old new : Live) (states : List (ℕ × State)) (edges : List (ℕ × ℕ)) (grows : Grows old new states edges) (ends : HasOwnEnds states edges) where
  abbrev fresh : List ℕ
  fresh = map numbered states

  -- a part stays as it is
  module _ (part : TablePart) (waits : Waits old part) where
    same_at : (s : ℕ) → Contains part.states s → state_at new.table s ≡ state_at old.table s
    same_at s here = grows.others s (waits.there s here)

    same_polarity : (s : ℕ) → Contains part.states s → polarity_at new.table s ≡ polarity_at old.table s
    same_polarity s here = ap (λ (x : State). x.polarity) (same_at s here)

    pub stays_part : IsPart new.table part.states part.env part.root
    stays_part = record {
      region = record {
        heads = λ s t here names. (waits.part.region.heads s t (subst (λ (x : State). HeadNames x.head t) (same_at s here) names)).0 here;
        flows = λ n p edge. elim ((grows.flows n p).0 edge) [
          | inl before ↦ waits.part.region.flows n p before
          | inr came ↦ (
            λ here. absurd (grows.fresh n (ends n p came).0 (waits.there n here)),
            λ here. absurd (grows.fresh p (ends n p came).1 (waits.there p here)),
          )
        ];
      };
      root_in = waits.part.root_in;
      root_positive = same_polarity part.root.0 waits.part.root_in ∙ waits.part.root_positive;
      env_in = waits.part.env_in;
      env_negative = λ entry inside. same_polarity entry.state.0 (waits.part.env_in entry inside) ∙ waits.part.env_negative entry inside;
    }

    agrees : AgreesAt part.states old.table new.table
    agrees = record {
      polarity = same_polarity;
      heads = λ s here. same_head old.table new.table s (same_at s here);
      flows = λ n p here. (
        λ edge. elim ((grows.flows n p).0 edge) [
          | inl before ↦ before
          | inr came ↦ absurd (grows.fresh n (ends n p came).0 (waits.there n here))
        ],
        λ edge. (grows.flows n p).1 (inl edge),
      );
    }

    pub same_types : HaveSameTypes (no_goals (scheme_at old.table part)) (no_goals (scheme_at new.table part))
    same_types types f =
        types_agree old.table new.table part (true_flows old grows.live_old) (true_flows new grows.live_new)
        (waiting_part old part waits) stays_part agrees types f

  stay_parts : (parts : List TablePart) → AreWaiting old parts → AreParts new.table parts
  stay_parts [] are = tt
  stay_parts (part ∷ rest) are = (stays_part part are.0, (λ s here later. are.1 s here (in_all rest s later)), stay_parts rest are.2)

  pub beside : (parts : List TablePart) → AreWaiting old parts → AreSideBySide new.table parts fresh
  beside parts are = record {
    flows = true_flows new grows.live_new;
    are = stay_parts parts are;
    outside = λ s here inside. grows.fresh s here (waiting_there old parts are s inside);
  }

  pub edges_within : AreEdgesWithin new.table fresh
  edges_within n p edge = elim ((grows.flows n p).0 edge) [
    | inl before ↦ (
      λ here. absurd (grows.fresh n here (grows.live_old.negative n p before).there),
      λ here. absurd (grows.fresh p here (grows.live_old.positive n p before).there),
    )
    | inr came ↦ (λ here. (ends n p came).1, λ here. (ends n p came).0)
  ]

  -- Two of the new states are a passage, where no other edge came.
  pub passage_at : (n p : ℕ) → edges ≡ (n, p) ∷ [] → Contains states (n, negative empty_head) → Contains states (p, positive empty_head) → IsPassage new.table n p
  passage_at n p one from to = record {
    from = grows.here n (negative empty_head) from;
    to = grows.here p (positive empty_head) to;
    edges = λ m. (
      λ edge. elim ((grows.flows m p).0 edge) [
        | inl before ↦ absurd (grows.fresh p (Contains-map numbered states (p, positive empty_head) to) (grows.live_old.positive m p before).there)
        | inr came ↦ elim (Contains-cases (n, p) [] (m, p) (subst (λ (es : List (ℕ × ℕ)). Contains es (m, p)) one came)) [
          | inl same ↦ sym (ap (λ (e : ℕ × ℕ). e.0) same)
          | inr none ↦ absurd (nothing_in (m, p) none)
        ]
      ],
      λ same. (grows.flows m p).1 (inr (subst (λ (es : List (ℕ × ℕ)). Contains es (m, p)) (sym one) (subst (λ k. Contains {X = ℕ × ℕ} ((n, p) ∷ []) (k, p)) (sym same) (Contains-here (n, p) [])))),
    );
  }

  -- The parts and the new states together.
  module _ (parts : List TablePart) (are : AreWaiting old parts) (made : TablePart) (each : AreStatesWith parts fresh made.states) (is : IsPart new.table made.states made.env made.root) where
    abbrev together : List ℕ
    together = all_states parts ++ fresh

    same_together : (s : ℕ) → Contains made.states s ↔ Contains together s
    same_together s = (
      λ here. elim ((each s).0 here) [
        | inl inside ↦ Contains-append_left (all_states parts) fresh s (in_all parts s inside)
        | inr came ↦ Contains-append_right (all_states parts) fresh s came
      ],
      λ here. (each s).1 (elim (Contains-append_cases (all_states parts) fresh s here) [ inl inside ↦ inl (all_in parts s inside) | inr came ↦ inr came ]),
    )

    was_free : (s : ℕ) → Contains fresh s → get_or old.there s false ≡ false
    was_free s here = elim (there-or_not old.there s) [ inl was ↦ absurd (grows.fresh s here was) | inr free ↦ free ]

    region_before : IsRegion old.table made.states
    region_before =
        same_region old.table together made.states same_together
        (region_union old.table (all_states parts) fresh (parts_region old parts are) (free_region old grows.live_old fresh was_free))

    same_outside : (s : ℕ) → (Contains made.states s → ⊥) → state_at new.table s ≡ state_at old.table s
    same_outside s out = elim (there-or_not old.there s) [
      | inl was ↦ grows.others s was
      | inr free ↦ free_same old new grows.live_old grows.live_new s (λ was. unlike (get_or old.there s false) was free) (λ now. elim ((grows.there s).0 now) [
        | inl was ↦ unlike (get_or old.there s false) was free
        | inr here ↦ out ((each s).1 (inr here))
      ])
    ]

    grown_within : ChangesWithin made.states old.table new.table
    grown_within = record {
      polarity = λ s out. ap (λ (x : State). x.polarity) (same_outside s out);
      heads = λ s out. same_head old.table new.table s (same_outside s out);
      names = λ s t it. elim ((grows.there s).0 (naming_there new grows.live_new s t it)) [
        | inl was ↦ inl (subst (λ (x : State). HeadNames x.head t) (grows.others s was) it)
        | inr here ↦ let inside : Contains made.states s = (each s).1 (inr here) in inr (inside, is.region.heads s t inside it)
      ];
      flows = λ n p edge. elim ((grows.flows n p).0 edge) [
        | inl before ↦ inl before
        | inr came ↦ inr ((each n).1 (inr (ends n p came).0), (each p).1 (inr (ends n p came).1))
      ];
      old_flows = λ n p out edge. (grows.flows n p).1 (inl edge);
    }

    pub grown_waits : Waits new made
    grown_waits = record {
      there = λ s here. (grows.there s).1 (elim ((each s).0 here) [ inl inside ↦ inl (waiting_there old parts are s inside) | inr came ↦ inr came ]);
      part = record {
        region = own_region made.states old.table new.table grown_within region_before;
        root_in = is.root_in;
        root_positive = is.root_positive;
        env_in = is.env_in;
        env_negative = is.env_negative;
      };
    }

    pub grown_changes : Changes (all_states parts) old new made.states
    grown_changes =
        changes_from (all_states parts) old new made.states
        (within_more made.states (all_states parts ++ made.states) old.table new.table (λ s here. Contains-append_right (all_states parts) made.states s here) grown_within)
        (λ s was. inr ((grows.there s).1 (inl was)))
        (λ s here. elim ((each s).0 here) [ inl inside ↦ inl (in_all parts s inside) | inr came ↦ inr (grows.fresh s came) ])
