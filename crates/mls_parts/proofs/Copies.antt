-- Copies of known types in a constraint.
--     partner_edge            the other ends of a negative state are those of its edges
--     binder_bound            what the state of a binder asks is asked of the binder around
--     copy_begun, copy_next   one binder after another
--     can_bind                each binder of the known type may be put to the one around
--     copy_posed              a node whose root is in the copy, or that of another node
use Rattle.std.proofs.Common.{◌≡◌, ◌↔◌, inl, inr, ℕ, ◌+◌, ◌<◌, List, [], ◌∷◌, ◌++◌, map, length, Contains, refl, sym, ap, ◌∙◌, subst, arith, Some}
use Rattle.std.specs.BTreeMap.{BTreeMap, Updates}
use Rattle.std.specs.Ordering.{nat_cmp}
use Rattle.std.proofs.lemmas.List.{append_assoc, map-append}
use Rattle.std.proofs.lemmas.List.Elements.{Contains-append_left, Contains-append_right, Contains-push, Contains-push_cases}
use Rattle.mls_automaton.specs.declared.automaton.Polarity.TheVariants.{Negative, Positive}
use Rattle.mls_automaton.specs.declared.automaton.Head.{Head}
use Rattle.mls_automaton.specs.declared.automaton.State.{State}
use Rattle.mls_automaton.specs.declared.scheme.EnvEntry.{EnvEntry}
use Rattle.mls_automaton.specs.declared.scheme.Scheme.{Scheme}
use Rattle.mls_automaton.specs.Automata.{Automaton, flow, head_at, polarity_at, state_at, HasFlow, IsPartner, IsState}
use Rattle.mls_automaton.specs.Embeddings.{appended, renamed_flow, renamed_state}
use Rattle.mls_automaton.specs.Models.{IsClosed}
use Rattle.mls_automaton.proofs.Appends.{flows-appended, length-appended, second-state}
use Rattle.mls_automaton.proofs.Lists.{Contains-map}
use Rattle.mls_parts.specs.declared.pose.Need.{Need}
use Rattle.mls_parts.specs.declared.pose.Posing.{Posing}
use Rattle.mls_parts.specs.Posings.{Adds, AddsCopy, copy_added, IsBinderEdge, IsCopiedEdge, IsEdgeAbove, IsKnownTo, binder_in, copied_need, number_at, size}
use Rattle.mls_parts.specs.steps.Results.{AddsEdges, Binds, CanBind}
use Rattle.mls_parts.proofs.Posings.{longer, nil_behind}

partner_edge : (a : Automaton) → IsClosed a → (s l : ℕ) → IsState a Negative s → IsPartner a s l → HasFlow a s l
partner_edge a closed s l state (inl edge) = edge
partner_edge a closed s l state (inr edge) =
    let positive : polarity_at a s ≡ Positive = (closed.positive (flow l s) edge).polarity in
    let negative : polarity_at a s ≡ Negative = state.polarity in
    absurd (cc)

-- the other ends of a binder's state have copies
pub ends_above : (p : Posing) (n : ℕ) (known : Scheme) (entry : EnvEntry) → CanBind p n known entry → (l : ℕ) → IsPartner known.automaton entry.state.0 l → IsState p.automaton Positive (n + l)
ends_above p n known entry can l partner =
    can.above Positive l (can.closed.positive (flow entry.state.0 l) (partner_edge known.automaton can.closed entry.state.0 l can.state partner))

pub binder_bound : (p m : Posing) (n : ℕ) (known : Scheme) (entry : EnvEntry) (from : ℕ) (ends : List ℕ) (head : Head) (needs : List Need)
    → CanBind p n known entry → from ≡ binder_in p entry.binder → ((l : ℕ) → Contains ends l ↔ IsPartner known.automaton entry.state.0 l)
    → AddsEdges p m (λ k r. (k ≡ from) × (l : ℕ) × Contains ends l × (r ≡ n + l)) → head ≡ head_at m.automaton (n + entry.state.0)
    → needs ≡ m.needs ++ record { binder = entry.binder; head = head } ∷ [] → Binds p (record m { needs = needs }) n known entry
binder_bound p m n known entry from ends head needs can from_is partners it head_is needs_are =
    let same : head ≡ (copied_need n known entry).head = head_is ∙ (ap (λ (xs : List State). head_at (record { states = xs; flows = [] }) (n + entry.state.0)) it.states ∙ can.head) in
    record {
      states = it.states;
      flows = λ k r. (
        λ edge. elim ((it.flows k r).0 edge) [
          | inl old ↦ inl old
          | inr new ↦ inr (new.0 ∙ from_is, new.1, partner_edge known.automaton can.closed entry.state.0 new.1 can.state ((partners new.1).0 new.2), new.3)
        ],
        λ edge. elim edge [
          | inl old ↦ (it.flows k r).1 (inl old)
          | inr new ↦ (it.flows k r).1 (inr (new.0 ∙ sym from_is, new.1, (partners new.1).1 (inl new.2), new.3))
        ],
      );
      goals = it.goals;
      needs = needs_are ∙ (ap (λ (ns : List Need). ns ++ record { binder = entry.binder; head = head } ∷ []) it.needs ∙ ap (λ (h : Head). p.needs ++ record { binder = entry.binder; head = h } ∷ []) same);
      roots = it.roots;
      binders = it.binders;
      copies = it.copies;
      results = it.results;
    }

module _ (p : Posing) (known : Scheme) where
  abbrev n : ℕ
  n = size p

  abbrev none : List EnvEntry
  none = []

  pub copy_begun : (a : Automaton) → a ≡ appended p.automaton known.automaton → AddsCopy p (record p { automaton = a }) n known none
  copy_begun a is = record {
    states = ap (λ (a : Automaton). a.states) is;
    flows = λ m r. (
      λ edge. elim (flows-appended p.automaton known.automaton m r (subst (λ (a : Automaton). HasFlow a m r) is edge)) [
        | inl old ↦ inl old
        | inr new ↦ inr (inl new)
      ],
      λ edge. subst (λ (a : Automaton). HasFlow a m r) (sym is) (elim edge [
        | inl old ↦ Contains-append_left p.automaton.flows (map (renamed_flow (λ k. n + k)) known.automaton.flows) _ old
        | inr (inl new) ↦ second m r new
        | inr (inr it) ↦ let low : it.1.0 < 0 = it.1.1 in absurd (omega arith)
      ]),
    );
    goals = refl;
    needs = sym (nil_behind p.needs);
    roots = refl;
    binders = refl;
    copies = refl;
    results = refl;
  }
    where
      second : (m r : ℕ) → IsEdgeAbove n known m r → HasFlow (appended p.automaton known.automaton) m r
      second m r (k, l, edge, is-m, is-r) =
          subst (λ m. HasFlow (appended p.automaton known.automaton) m r) (sym is-m)
          (subst (λ r. HasFlow (appended p.automaton known.automaton) (n + k) r) (sym is-r)
          (Contains-append_right p.automaton.flows (map (renamed_flow (λ k. n + k)) known.automaton.flows) _ (Contains-map (renamed_flow (λ k. n + k)) known.automaton.flows _ edge)))

  pub copy_next : (m q : Posing) (entries : List EnvEntry) (entry : EnvEntry) → AddsCopy p m n known entries → Binds m q n known entry → AddsCopy p q n known (entries ++ entry ∷ [])
  copy_next m q entries entry it more =
      let binder_is : binder_in m entry.binder ≡ binder_in p entry.binder = ap (λ bs. number_at bs entry.binder) it.binders in
      record {
        states = more.states ∙ it.states;
        flows = λ k r. (
          λ edge. elim ((more.flows k r).0 edge) [
            | inl old ↦ elim ((it.flows k r).0 old) [
              | inl first ↦ inl first
              | inr (inl above) ↦ inr (inl above)
              | inr (inr some) ↦ inr (inr (some.0, Contains-append_left entries (entry ∷ []) some.0 some.1, some.2))
            ]
            | inr new ↦ inr (inr (entry, Contains-push entries entry, (new.0 ∙ binder_is, new.1, new.2, new.3)))
          ],
          λ edge. elim edge [
            | inl first ↦ (more.flows k r).1 (inl ((it.flows k r).1 (inl first)))
            | inr (inl above) ↦ (more.flows k r).1 (inl ((it.flows k r).1 (inr (inl above))))
            | inr (inr some) ↦ elim (Contains-push_cases entries entry some.0 some.1) [
              | inl earlier ↦ (more.flows k r).1 (inl ((it.flows k r).1 (inr (inr (some.0, earlier, some.2)))))
              | inr same ↦ (more.flows k r).1 (inr (subst (λ (e : EnvEntry). IsBinderEdge n (binder_in m) known e k r) (sym same) (some.2.0 ∙ sym (ap (λ bs. number_at bs some.0.binder) it.binders), some.2.1, some.2.2, some.2.3)))
            ]
          ],
        );
        goals = more.goals ∙ it.goals;
        needs =
            more.needs
            ∙ (ap (λ (ns : List Need). ns ++ copied_need n known entry ∷ []) it.needs
            ∙ (append_assoc p.needs (map (copied_need n known) entries) (copied_need n known entry ∷ [])
            ∙ ap (λ (ns : List Need). p.needs ++ ns) (sym (map-append (copied_need n known) entries (entry ∷ [])))));
        roots = more.roots ∙ it.roots;
        binders = more.binders ∙ it.binders;
        copies = more.copies ∙ it.copies;
        results = more.results ∙ it.results;
      }

  module _ (is : IsKnownTo p known) (m : Posing) (entries : List EnvEntry) (it : AddsCopy p m n known entries) where
    -- the states of the copy
    copied_state : (k : ℕ) → state_at m.automaton (n + k) ≡ renamed_state (λ k. n + k) (state_at known.automaton k)
    copied_state k = ap (λ (xs : List State). state_at (record { states = xs; flows = m.automaton.flows }) (n + k)) it.states ∙ second-state p.automaton known.automaton k

    many : size m ≡ n + length known.automaton.states
    many = ap length it.states ∙ length-appended p.automaton known.automaton

    pub can_bind : (entry : EnvEntry) → Contains known.env entry → CanBind m n known entry
    can_bind entry there = record {
      binder = around;
      closed = is.closed;
      state = is.states entry there;
      above = λ q k state. record {
        in_range = let low : k < length known.automaton.states = state.in_range in let size_is : length m.automaton.states ≡ n + length known.automaton.states = many in omega arith;
        polarity = ap (λ (x : State). x.polarity) (copied_state k) ∙ state.polarity;
      };
      head = ap (λ (x : State). x.head) (copied_state entry.state.0);
    }
      where
        around : IsState m.automaton Negative (binder_in m entry.binder)
        around =
            let old : IsState p.automaton Negative (binder_in p entry.binder) = is.around entry there in
            subst (λ s. IsState m.automaton Negative s) (sym (ap (λ bs. number_at bs entry.binder) it.binders))
            (longer p.automaton m.automaton (map (renamed_state (λ k. n + k)) known.automaton.states) Negative (binder_in p entry.binder) it.states old)

pub copy_posed : (p m : Posing) (i : ℕ) (roots copies : BTreeMap ℕ ℕ) (known : Scheme) (root other first : ℕ) → AddsCopy p m (size p) known known.env
    → Updates nat_cmp m.roots roots i (Some root) → root ≡ other → Updates nat_cmp m.copies copies i (Some first) → first ≡ size p
    → Adds p (record m { roots = roots; copies = copies }) i (copy_added (size p) known other) (IsCopiedEdge (size p) (binder_in p) known known.env)
copy_posed p m i roots copies known root other first it updates same noted begins = record {
  states = it.states;
  flows = it.flows;
  goals = it.goals ∙ sym (nil_behind p.goals);
  needs = it.needs;
  roots = subst (λ rs. Updates nat_cmp rs roots i (Some other)) it.roots (subst (λ r. Updates nat_cmp m.roots roots i (Some r)) same updates);
  binders = it.binders;
  copies = subst (λ cs. Updates nat_cmp cs copies i (Some (size p))) it.copies (subst (λ n. Updates nat_cmp m.copies copies i (Some n)) begins noted);
  results = it.results;
}
