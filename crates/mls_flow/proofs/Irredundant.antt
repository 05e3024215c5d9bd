-- An edge is redundant exactly where a claim of its pair stands by heads.
--     kept-irredundant, dropped-redundant       the edges that no claim says are those that are not redundant
--     kept-none, kept-more, kept-same   the edges that are kept, one more at a time
--     kept-all                          all of them
use Rattle.std.proofs.Common.{◌≡◌, ◌⊎◌, inl, inr, ℕ, ◌+◌, ◌<◌, ◌≤◌, List, [], ◌∷◌, ◌++◌, sym, ◌∙◌, subst, arith, length}
use Rattle.std.proofs.Common.{All, Contains, get_or, take}
use Rattle.std.specs.Prelude.{Bool, true}
use Rattle.std.proofs.lemmas.List.{get_or_default, take_all, take_more}
use Rattle.std.proofs.lemmas.List.Elements.{All-contains, Contains-append_cases, Contains-append_left, Contains-append_right}
use Rattle.mls_automaton.proofs.Lists.{Contains-cases, Contains-here}
use Rattle.mls_automaton.specs.declared.automaton.Flow.{Flow}
use Rattle.mls_automaton.specs.Automata.{Automaton, flow, HasFlow, head_at}
use Rattle.mls_automaton.specs.Models.{IsClosed, IsDeterministic}
use Rattle.mls_flow.specs.declared.standing.Claim.{Claim}
use Rattle.mls_flow.specs.Admissible.{booleans, integers, functions, records, IsAdmissible, IsMatched, IsRedundant}
use Rattle.mls_flow.specs.Claims.{IsGreatest, claim_at, kept_at}
use Rattle.mls_flow.specs.Needs.{AreClaimsOf, AreKeptOf, IsClaimOf, IsPair, IsSaid, StandsByHeads, pair_at}
use Rattle.mls_flow.proofs.Claimed.{admissible-kept, at-marked, kept-met, marked-admissible, met-kept}
use Rattle.mls_flow.proofs.Needed.{functions_by_needs, records_by_needs}

module _ (a : Automaton) (closed : IsClosed a) (single : IsDeterministic a) (list : List Flow)
    (pairs : All (IsPair a) list) (claims : List Claim) (are : AreClaimsOf a list claims)
    (same : length claims ≡ length list) (marks : List Bool) (greatest : IsGreatest claims marks) where
  abbrev R : ℕ → ℕ → Type 0
  R = IsAdmissible a

  to-admissible : (k : ℕ) → k < length list → kept_at marks k ≡ true → R (pair_at list k).negative.0 (pair_at list k).positive.0
  to-admissible k low e =
      marked-admissible a closed single list pairs claims are same marks greatest (pair_at list k).negative.0
      (pair_at list k).positive.0 (at-marked list marks k low e)

  to-kept : (k : ℕ) → k < length list → R (pair_at list k).negative.0 (pair_at list k).positive.0 → kept_at marks k ≡ true
  to-kept = admissible-kept a closed single list pairs claims are same marks greatest

  module _ (f : Flow) (c : Claim) (is : IsClaimOf a list f c) where
    abbrev n : ℕ
    n = f.negative.0

    abbrev p : ℕ
    p = f.positive.0

    to : StandsByHeads (kept_at marks) (head_at a n) (head_at a p) c → IsMatched a R n p
    to (inl (inl both)) = booleans both.0 both.1
    to (inl (inr both)) = integers both.0 both.1
    to (inr (inl all)) =
        functions
        ((functions_by_needs R (head_at a n).function (head_at a p).function (single n).0 (single p).0).0
        (kept-met R (kept_at marks) list to-admissible c.first _ is.first all))
    to (inr (inr all)) =
        records
        ((records_by_needs R (head_at a n).fields (head_at a p).fields (single n).1 (single p).1 (closed.labels p)).0
        (kept-met R (kept_at marks) list to-admissible c.second _ is.second all))

    from : IsMatched a R n p → StandsByHeads (kept_at marks) (head_at a n) (head_at a p) c
    from (booleans e e') = inl (inl (e, e'))
    from (integers e e') = inl (inr (e, e'))
    from (functions it) =
        inr (inl (met-kept R (kept_at marks) list to-kept c.first _ is.first
        ((functions_by_needs R (head_at a n).function (head_at a p).function (single n).0 (single p).0).1 it)))
    from (records it) =
        inr (inr (met-kept R (kept_at marks) list to-kept c.second _ is.second
        ((records_by_needs R (head_at a n).fields (head_at a p).fields (single n).1 (single p).1 (closed.labels p)).1 it)))

  claim-is : (k : ℕ) (f : Flow) → k < length list → pair_at list k ≡ f → IsClaimOf a list f (claim_at claims k)
  claim-is k f low is =
      subst (λ f. IsClaimOf a list f (claim_at claims k)) is (are.each k (subst (λ size. k < size) (sym same) low))

  -- what is said, is matched
  said-matched : (f : Flow) → IsSaid a list claims (kept_at marks) f → IsMatched a R f.negative.0 f.positive.0
  said-matched f said = to f (claim_at claims said.0) (claim-is said.0 f said.1 said.2) said.3

  -- and what is matched, is said
  matched-said : (f : Flow) (k : ℕ) → k < length list → pair_at list k ≡ f → IsMatched a R f.negative.0 f.positive.0 → IsSaid a list claims (kept_at marks) f
  matched-said f k low is it = (k, low, is, from f (claim_at claims k) (claim-is k f low is) it)

  -- an edge that is known is redundant exactly where it is said
  module _ (known : All (Contains list) a.flows) where
    redundant-said : (f : Flow) → IsRedundant a f.negative.0 f.positive.0 → IsSaid a list claims (kept_at marks) f
    redundant-said f it =
        let at : Contains list f = All-contains (Contains list) a.flows f known it.0 in
        matched-said f at.0 at.1 (get_or_default list at.0 (flow 0 0) f at.1 ∙ at.2) it.1

    -- the edges that no claim says, by the same claims and marks
    module _ (kept : List Flow) (cs : List Claim) (ms : List Bool) (same-cs : cs ≡ claims) (same-ms : ms ≡ marks)
        (are-kept : AreKeptOf (IsSaid a list cs (kept_at ms)) a.flows kept) where
      those : AreKeptOf (IsSaid a list claims (kept_at marks)) a.flows kept
      those =
          subst (λ ms. AreKeptOf (IsSaid a list claims (kept_at ms)) a.flows kept) same-ms
          (subst (λ cs. AreKeptOf (IsSaid a list cs (kept_at ms)) a.flows kept) same-cs are-kept)

      pub kept-irredundant : (n p : ℕ) → Contains kept (flow n p) → HasFlow a n p × (IsRedundant a n p → ⊥)
      kept-irredundant n p there =
          let it = those.0 (flow n p) there in (it.0, λ redundant. it.1 (redundant-said (flow n p) redundant))

      pub dropped-redundant : (n p : ℕ) → HasFlow a n p → Contains kept (flow n p) ⊎ IsRedundant a n p
      dropped-redundant n p edge =
          elim (those.1 (flow n p) edge) [ inl there ↦ inl there | inr said ↦ inr (edge, said-matched (flow n p) said) ]

module _ (IsSaid : Flow → Type 0) where
  pub kept-none : (edges : List Flow) → AreKeptOf IsSaid (take 0 edges) []
  kept-none edges = (λ f none. let low : none.0 < 0 = none.1 in absurd (omega arith), λ f none. let low : none.0 < 0 = none.1 in absurd (omega arith))

  module _ (edges : List Flow) (i : ℕ) (d : Flow) (low : i < length edges) where
    abbrev edge : Flow
    edge = get_or edges i d

    taken : (f : Flow) → Contains (take (i + 1) edges) f → Contains (take i edges) f ⊎ (f ≡ edge)
    taken f it =
        elim (Contains-append_cases (take i edges) (edge ∷ []) f (subst (λ fs. Contains fs f) (take_more edges i d low) it)) [
          | inl before ↦ inl before
          | inr last ↦
              elim (Contains-cases edge [] f last) [
                | inl same ↦ inr (sym same)
                | inr none ↦ let low : none.0 < 0 = none.1 in absurd (omega arith)
              ]
        ]

    before : (f : Flow) → Contains (take i edges) f → Contains (take (i + 1) edges) f
    before f it = subst (λ fs. Contains fs f) (sym (take_more edges i d low)) (Contains-append_left (take i edges) (edge ∷ []) f it)

    last : Contains (take (i + 1) edges) edge
    last = subst (λ fs. Contains fs edge) (sym (take_more edges i d low)) (Contains-append_right (take i edges) (edge ∷ []) edge (Contains-here edge []))

    pub kept-more : (kept : List Flow) → AreKeptOf IsSaid (take i edges) kept → (IsSaid edge → ⊥) → AreKeptOf IsSaid (take (i + 1) edges) (kept ++ edge ∷ [])
    kept-more kept so_far unsaid = (to, from)
      where
        to : (f : Flow) → Contains (kept ++ edge ∷ []) f → Contains (take (i + 1) edges) f × (IsSaid f → ⊥)
        to f it =
            elim (Contains-append_cases kept (edge ∷ []) f it) [
              | inl old ↦ let was = so_far.0 f old in (before f was.0, was.1)
              | inr new ↦
                  elim (Contains-cases edge [] f new) [
                    | inl same ↦ (subst (Contains (take (i + 1) edges)) same last, λ said. unsaid (subst IsSaid (sym same) said))
                    | inr none ↦ let low : none.0 < 0 = none.1 in absurd (omega arith)
                  ]
            ]

        from : (f : Flow) → Contains (take (i + 1) edges) f → Contains (kept ++ edge ∷ []) f ⊎ IsSaid f
        from f it =
            elim (taken f it) [
              | inl old ↦ elim (so_far.1 f old) [ inl there ↦ inl (Contains-append_left kept (edge ∷ []) f there) | inr said ↦ inr said ]
              | inr same ↦ inl (subst (Contains (kept ++ edge ∷ [])) (sym same) (Contains-append_right kept (edge ∷ []) edge (Contains-here edge [])))
            ]

    pub kept-same : (kept : List Flow) → AreKeptOf IsSaid (take i edges) kept → IsSaid edge → AreKeptOf IsSaid (take (i + 1) edges) kept
    kept-same kept so_far said = (
      λ f it. let was = so_far.0 f it in (before f was.0, was.1),
      λ f it. elim (taken f it) [
        | inl old ↦ so_far.1 f old
        | inr same ↦ inr (subst IsSaid (sym same) said)
      ],
    )

  pub kept-all : (edges kept : List Flow) (i : ℕ) → length edges ≤ i → AreKeptOf IsSaid (take i edges) kept → AreKeptOf IsSaid edges kept
  kept-all edges kept i high so_far = subst (λ fs. AreKeptOf IsSaid fs kept) (take_all i edges high) so_far
