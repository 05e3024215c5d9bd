-- Where no pair fails, all pairs together are a walk.
--     path_after                one step more
--     no_failure_walk           the walk
--     no_failure_subsumes       so the general scheme subsumes the special one
use Rattle.std.proofs.Common.{◌≡◌, inl, inr, ℕ, Bool, true, false, List, [], ◌∷◌, ◌++◌, refl, sym, ap, subst, Contains, Some, None}
use Rattle.std.specs.Prelude.{◌↔◌, Option, option_map, is_some}
use Rattle.mls_book.specs.Schemes as book
use Rattle.mls_book.specs.Schemes.{Subsumes}
use Rattle.mls_automaton.specs.declared.automaton.Polarity.{Polarity}
use Rattle.mls_automaton.specs.declared.automaton.Polarity.TheVariants.{Positive, Negative}
use Rattle.mls_automaton.specs.declared.automaton.Arms.{Arms}
use Rattle.mls_automaton.specs.declared.automaton.FieldSet.{FieldSet}
use Rattle.mls_automaton.specs.declared.automaton.Flow.{Flow}
use Rattle.mls_automaton.specs.declared.scheme.Scheme.{Scheme}
use Rattle.mls_automaton.specs.Automata.{Automaton, polarity_at, head_at, flow, HasFlow, IsState}
use Rattle.mls_automaton.specs.Heads.{set_at, parts_of}
use Rattle.mls_automaton.specs.Models.{IsSingle, HasSingleArms, HasSingleFields, IsDeterministic}
use Rattle.mls_automaton.specs.Schemes.{IsScheme, IsSchemeOf}
use Rattle.mls_automaton.proofs.Lists.{Contains-here}
use Rattle.mls_automaton.proofs.Instances.{plain}
use Rattle.mls_automaton.specs.declared.automaton.HeadKind.TheVariants as kind
use Rattle.mls_flow.specs.Simulations.{IsSetWithin, IsFunctionWithin, IsFieldWithin, IsRecordWithin, IsHeadWithin}
use Rattle.mls_flow.specs.Admissible.{IsAdmissible}
use Rattle.mls_flow.proofs.Separating.{single-field}
use Rattle.mls_flow.proofs.Exactness.{separated-apart, admissible-below, decide_admissible}
use Rattle.mls_subsume.specs.declared.verdict.StatePair.{StatePair}
use Rattle.mls_subsume.specs.declared.verdict.Step.{Step}
use Rattle.mls_subsume.specs.declared.verdict.Step.TheVariants as step
use Rattle.mls_subsume.specs.declared.verdict.Reason.{Reason}
use Rattle.mls_subsume.specs.declared.verdict.Reason.TheVariants as reason
use Rattle.mls_subsume.specs.Pairs.{Leads, IsPath, none, more, IsPaired}
use Rattle.mls_subsume.specs.Failures.{FailsByLabel, Fails}
use Rattle.mls_subsume.specs.Walks.{IsIn, IsWalk}
use Rattle.mls_subsume.proofs.Countering.{path_states}
use Rattle.mls_subsume.proofs.Walking.{walk_subsumes}

pub path_after : (a b : Automaton) (steps : List Step) (step : Step) (g s h t g' s' : ℕ) → IsPath a b steps g s h t → Leads a b step h t g' s' → IsPath a b (steps ++ step ∷ []) g s g' s'
path_after a b steps step g s h t g' s' none leads = more leads none
path_after a b steps step g s h t g' s' (more {step = first} {rest = rest} {h = i} {t = j} leads path) last = more leads (path_after a b rest step i j h t g' s' path last)

module _ (general special : Scheme) (is_g : IsScheme general) (is_s : IsScheme special) (single : IsDeterministic special.automaton) (variable : Flow → ℕ) (distinct : (f g : Flow) → Contains special.automaton.flows f → Contains special.automaton.flows g → variable f ≡ variable g → f ≡ g) (pairs : List StatePair) (all : (g s : ℕ) → IsIn pairs g s ↔ IsPaired general special g s) (no_failure : (g s : ℕ) → IsPaired general special g s → (why : Reason) → Fails general special (polarity_at general.automaton g) g s why → ⊥) where
  abbrev a : Automaton
  a = general.automaton

  abbrev b : Automaton
  b = special.automaton

  next : (step : Step) (g s g' s' : ℕ) → IsIn pairs g s → Leads a b step g s g' s' → IsIn pairs g' s'
  next step g s g' s' there leads =
      let it = (all g s).0 there in
      (all g' s').1 (it.0 ++ step ∷ [], path_after a b it.0 step general.root.0 special.root.0 g s g' s' it.1 leads)

  set_within : (xs ys : List ℕ) → IsSingle ys → ((x y : ℕ) → Contains xs x → Contains ys y → IsIn pairs x y) → IsSetWithin (IsIn pairs) xs ys
  set_within xs ys single each x there =
      let in_ys : Contains ys single.0 = subst (λ zs. Contains zs single.0) (sym single.1) (Contains-here single.0 []) in
      (single.0, in_ys, each x single.0 there in_ys)

  states : (g s : ℕ) → IsIn pairs g s → IsState b (polarity_at a g) s
  states g s there =
      let paired = (all g s).0 there in
      let it = path_states a b is_g.automaton is_s.automaton paired.0 general.root.0 special.root.0 g s paired.1 Positive is_g.root is_s.root in
      subst (λ q. IsState b q s) (sym it.1.polarity) it.2

  module _ (g s : ℕ) (there : IsIn pairs g s) where
    fine : (why : Reason) → Fails general special (polarity_at general.automaton g) g s why → ⊥
    fine = no_failure g s ((all g s).0 there)

    boolean : (x : Bool) → (head_at b s).boolean ≡ x → (head_at a g).boolean ≡ true → (head_at b s).boolean ≡ true
    boolean true e has = e
    boolean false e has = absurd (fine (reason.Head kind.Bool) (has, e))

    integer : (x : Bool) → (head_at b s).integer ≡ x → (head_at a g).integer ≡ true → (head_at b s).integer ≡ true
    integer true e has = e
    integer false e has = absurd (fine (reason.Head kind.Int) (has, e))

    function : (o other : Option Arms) → (head_at a g).function ≡ o → (head_at b s).function ≡ other → IsFunctionWithin (IsIn pairs) o other
    function None other e e' = tt
    function (Some f) None e e' = absurd (fine (reason.Head kind.Function) (ap is_some e, ap is_some e'))
    function (Some f) (Some h) e e' =
        let one : HasSingleArms (Some h) = subst HasSingleArms e' (single s).0 in (
          set_within f.domain h.domain one.0 (λ x y in_f in_h. next step.Domain g s x y there ((f, e, in_f), (h, e', in_h))),
          set_within f.codomain h.codomain one.1 (λ x y in_f in_h. next step.Codomain g s x y there ((f, e, in_f), (h, e', in_h))),
        )

    module _ (fs hs : List FieldSet) (e : (head_at general.automaton g).fields ≡ Some fs) (e' : (head_at special.automaton s).fields ≡ Some hs) where
      label_fine : (p : Polarity) → polarity_at general.automaton g ≡ p → (label : List ℕ) → FailsByLabel p (Some fs) (Some hs) label → ⊥
      label_fine p is label fails =
          fine (reason.Label label)
          (subst (λ q. FailsByLabel q (head_at general.automaton g).fields (head_at special.automaton s).fields label) (sym is)
          (subst (λ o. FailsByLabel p o (head_at special.automaton s).fields label) (sym e)
          (subst (λ o. FailsByLabel p (Some fs) o label) (sym e') fails)))

      field : (p : Polarity) → polarity_at general.automaton g ≡ p → (label : List ℕ) (o other : Option (List ℕ)) → set_at fs label ≡ o → set_at hs label ≡ other → IsFieldWithin (IsIn pairs) p o other
      field p is label (Some xs) (Some ys) at at' =
          set_within xs ys (single-field hs (subst HasSingleFields e' (single s).1) label ys at')
          (λ x y in_xs in_ys. next (step.At label) g s x y there ((fs, xs, e, at, in_xs), (hs, ys, e', at', in_ys)))
      field Positive is label None None at at' = tt
      field Positive is label (Some xs) None at at' = tt
      field Positive is label None (Some ys) at at' = absurd (label_fine Positive is label (ys, at', at))
      field Negative is label None None at at' = tt
      field Negative is label None (Some ys) at at' = tt
      field Negative is label (Some xs) None at at' = absurd (label_fine Negative is label (xs, at, at'))

    fields : (o other : Option (List FieldSet)) → (head_at a g).fields ≡ o → (head_at b s).fields ≡ other → IsRecordWithin (IsIn pairs) (polarity_at a g) (option_map set_at o) (option_map set_at other)
    fields None other e e' = tt
    fields (Some fs) None e e' = absurd (fine (reason.Head kind.Rcd) (ap is_some e, ap is_some e'))
    fields (Some fs) (Some hs) e e' = λ label. field fs hs e e' (polarity_at a g) refl label (set_at fs label) (set_at hs label) refl refl

    heads : IsHeadWithin (IsIn pairs) (polarity_at a g) (parts_of (head_at a g)) (parts_of (head_at b s))
    heads = record {
      boolean = boolean (head_at b s).boolean refl;
      integer = integer (head_at b s).integer refl;
      function = function (head_at a g).function (head_at b s).function refl refl;
      fields = fields (head_at a g).fields (head_at b s).fields refl refl;
    }

  flows : (h g t s : ℕ) → HasFlow a h g → IsIn pairs h t → IsIn pairs g s → IsAdmissible b t s
  flows h g t s edge first second =
      elim (decide_admissible b is_s.automaton variable single distinct t s is_t is_end) [
        | inl admissible ↦ admissible
        | inr apart ↦ absurd (no_failure g s ((all g s).0 second) reason.Flow
            (subst (λ p. Fails general special p g s reason.Flow) (sym (is_g.automaton.positive (flow h g) edge).polarity)
            (h, t, edge, (all h t).0 first, λ admissible. separated-apart (plain variable b) t s apart (admissible-below b is_s.automaton variable t s is_t is_end admissible))))
      ]
    where
      is_t : IsState b Negative t
      is_t = subst (λ q. IsState b q t) (is_g.automaton.negative (flow h g) edge).polarity (states h t first)

      is_end : IsState b Positive s
      is_end = subst (λ q. IsState b q s) (is_g.automaton.positive (flow h g) edge).polarity (states g s second)

  pub no_failure_walk : IsWalk general special pairs
  no_failure_walk = record {
    roots = (all general.root.0 special.root.0).1 ([], none);
    states = states;
    heads = heads;
    flows = flows;
  }

-- a general scheme without binders subsumes the special one where no pair fails
pub no_failure_subsumes : (general special : Scheme) (b c : book.Scheme) → IsScheme general → IsScheme special → IsSchemeOf general b → IsSchemeOf special c → IsDeterministic special.automaton → general.env ≡ [] → (pairs : List StatePair) → ((g s : ℕ) → IsIn pairs g s ↔ IsPaired general special g s) → ((g s : ℕ) → IsPaired general special g s → (why : Reason) → Fails general special (polarity_at general.automaton g) g s why → ⊥) → Subsumes b c
no_failure_subsumes general special b c is_g is_s is_b is_c single closed pairs all no_failure =
    walk_subsumes general special b c is_g is_s is_b is_c closed pairs
    (no_failure_walk general special is_g is_s single is_c.variable is_c.book.distinct pairs all no_failure)
