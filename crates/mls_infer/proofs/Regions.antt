-- Models of parts that stand side by side in one automaton.
--     IsModelAt            a model at some of the states
--     types_agree          a part has the same types over automata that agree at its states
--     Assembled, assembled     what each of the parts has gives a model of the whole
--     part_has, each_has       and a model of the whole gives what each of them has
--     region_closed, region_grown     regions
--     empty_names, function_names, record_names     what the heads of new states name
use Rattle.std.proofs.Common.{◌≡◌, ◌⊎◌, ◌↔◌, inl, inr, ℕ, ◌==◌, Bool, true, false, List, [], ◌∷◌, refl, sym, ap, ◌∙◌, subst, arith, Some, None, All, Contains}
use Rattle.std.specs.Prelude.{Option}
use Rattle.std.proofs.lemmas.Bool.{eqb-true, eq-eqb}
use Rattle.mls_book.specs.declared.book.Node.{Node}
use Rattle.mls_book.specs.declared.book.Node.TheVariants as node
use Rattle.mls_book.specs.Books.{IsClosedBook}
use Rattle.mls_book.specs.Predicates.{Predicate, Implies, bot, top, var}
use Rattle.mls_book.proofs.LongerBooks.{closed_from, extended_with, united}
use Rattle.mls_book.proofs.Representation.{IsIn-held, IsIn-longer}
use Rattle.mls_book.proofs.Table.{value-bot, value-top}
use Rattle.mls_automaton.specs.declared.automaton.Polarity.{Polarity}
use Rattle.mls_automaton.specs.declared.automaton.Polarity.TheVariants.{Positive, Negative}
use Rattle.mls_automaton.specs.declared.automaton.Arms.{Arms}
use Rattle.mls_automaton.specs.declared.automaton.FieldSet.{FieldSet}
use Rattle.mls_automaton.specs.declared.automaton.Head.{Head}
use Rattle.mls_automaton.specs.declared.state_set.StateId.{StateId}
use Rattle.mls_automaton.specs.declared.scheme.EnvEntry.{EnvEntry}
use Rattle.mls_automaton.specs.Automata.{Automaton, HasFlow, HasTrueFlows, empty_head, head_at, polarity_at}
use Rattle.mls_automaton.specs.Heads.{head_value, parts_of}
use Rattle.mls_automaton.specs.Models.{HasArmsIn, HasFieldsIn, HasStatesIn, IsInside, IsModel}
use Rattle.mls_automaton.specs.Reached.{HeadNames, Names}
use Rattle.mls_automaton.proofs.Combined.{same_parts-value}
use Rattle.mls_automaton.proofs.Lists.{Contains-cases, Contains-here, Contains-later, All-contained}
use Rattle.mls_typing.specs.Typed.{IsTypeOf}
use Rattle.mls_infer.specs.Constraints.{AllHaveTypes, HasTypes, function_head, no_goals, record_head}
use Rattle.mls_infer.specs.Merges.{HaveSameTypes, over}
use Rattle.mls_biunify.specs.Live.{IsRegion}
use Rattle.mls_infer.specs.Regions.{AgreesAt, AreParts, AreSideBySide, InEnvs, InParts, IsClosedRegion, IsPart, TablePart, part_roots, part_types, scheme_at, schemes_at}
use Rattle.mls_infer.proofs.ConstraintRows.{nothing_in, no_goal}
use Rattle.mls_infer.proofs.Grown.{head_value-agree}
use Rattle.mls_infer.proofs.SideBySide.{AreRootsBelow}

-- A state is in a list or not.
abbrev pub Either : Type 0 → Type 0
Either P = P ⊎ (P → ⊥)

pub find_in : (states : List ℕ) (s : ℕ) → Either (Contains states s)
find_in [] s = inr (nothing_in s)
find_in (y ∷ rest) s = at (y == s) refl (find_in rest s)
  where
    at : (b : Bool) → (y == s) ≡ b → Either (Contains rest s) → Either (Contains (y ∷ rest) s)
    at true e later = inl (subst (Contains (y ∷ rest)) (eqb-true y s e) (Contains-here y rest))
    at false e (inl there) = inl (Contains-later y rest s there)
    at false e (inr none) = inr (λ it. elim (Contains-cases y rest s it) [
      | inl same ↦ let yes : (y == s) ≡ true = eq-eqb y s same in let no_bool : true ≡ false = sym yes ∙ e in absurd (cc)
      | inr there ↦ none there
    ])

pub find_parts : (parts : List TablePart) (s : ℕ) → Either (InParts parts s)
find_parts [] s = inr (λ h. h)
find_parts (part ∷ rest) s = at (find_in part.states s) (find_parts rest s)
  where
    at : Either (Contains part.states s) → Either (InParts rest s) → Either (InParts (part ∷ rest) s)
    at (inl here) later = inl (inl here)
    at (inr out) (inl there) = inl (inr there)
    at (inr out) (inr none) = inr (λ it. elim it [ inl here ↦ out here | inr there ↦ none there ])

-- the first value where it is so, the second where it is not
abbrev pub picked : {P : Type 0} → Either P → Predicate → Predicate → Predicate
picked (inl it) f g = f
picked (inr not_it) f g = g

pub picked_first : {P : Type 0} (o : Either P) (f g : Predicate) → P → picked o f g ≡ f
picked_first (inl it) f g here = refl
picked_first (inr not_it) f g here = absurd (not_it here)

pub picked_second : {P : Type 0} (o : Either P) (f g : Predicate) → (P → ⊥) → picked o f g ≡ g
picked_second (inl it) f g out = absurd (out it)
picked_second (inr not_it) f g out = refl

picked_held : {P : Type 0} (o : Either P) (nodes : List Node) (f g : Predicate) → IsTypeOf nodes f → IsTypeOf nodes g → IsTypeOf nodes (picked o f g)
picked_held (inl it) nodes f g first second = first
picked_held (inr not_it) nodes f g first second = second

-- A head passes the same where the states that it names do.
named_states : (Q : ℕ → Type 0) (p : Polarity) (h : Head) → ((t : ℕ) → HeadNames h t → Q t) → HasStatesIn (λ q s. Q s) p h
named_states Q p h each = record { function = arms h.function refl; fields = records h.fields refl }
  where
    arms : (o : Option Arms) → h.function ≡ o → HasArmsIn (λ q s. Q s) p o
    arms None e = tt
    arms (Some it) e = (
      All-contained Q it.domain (λ t there. each t (inl (it, e, inl there))),
      All-contained Q it.codomain (λ t there. each t (inl (it, e, inr there))),
    )

    records : (o : Option (List FieldSet)) → h.fields ≡ o → HasFieldsIn (λ q s. Q s) p o
    records None e = tt
    records (Some fields) e =
        All-contained (λ field. All Q field.set) fields
        (λ field inside. All-contained Q field.set (λ t there. each t (inr (fields, e, (field, inside, there)))))

pub named-agree : (p : Polarity) (h : Head) (v w : ℕ → Predicate) → ((t : ℕ) → HeadNames h t → v t ≡ w t) → head_value p v h ≡ head_value p w h
named-agree p h v w same = head_value-agree p v w h (named_states (λ t. v t ≡ w t) p h same)

-- what a model asks of one state
abbrev pub Stands : Automaton → (ℕ → Predicate) → ℕ → Type 0
Stands a value s = IsInside (polarity_at a s) (head_value (polarity_at a s) value (head_at a s)) (value s)

stands_agree : (a : Automaton) (v w : ℕ → Predicate) (s : ℕ) → v s ≡ w s → ((t : ℕ) → Names a s t → v t ≡ w t) → Stands a v s → Stands a w s
stands_agree a v w s same named it =
    subst (IsInside (polarity_at a s) (head_value (polarity_at a s) w (head_at a s))) same
    (subst (λ g. IsInside (polarity_at a s) g (v s)) (named-agree (polarity_at a s) (head_at a s) v w named) it)

-- a model at some of the states
pub record IsModelAt (a : Automaton) (states : List ℕ) (value : ℕ → Predicate) : Type 0 where
  pub flows : (n p : ℕ) → HasFlow a n p → Contains states n → Implies (value n) (value p)
  pub heads : (s : ℕ) → Contains states s → Stands a value s

pub model_at : (a : Automaton) (states : List ℕ) (value : ℕ → Predicate) → IsModel a value → IsModelAt a states value
model_at a states value m = record {
  flows = λ n p edge inside. m.flows (record { negative = record { 0 = n }; positive = record { 0 = p } }) edge;
  heads = λ s inside. m.heads s;
}

moved : (states : List ℕ) (a b : Automaton) (value : ℕ → Predicate) → ((n p : ℕ) → Contains states n → HasFlow b n p → HasFlow a n p) → ((s : ℕ) → Contains states s → polarity_at a s ≡ polarity_at b s)
    → ((s : ℕ) (p : Polarity) → Contains states s → head_value p value (head_at a s) ≡ head_value p value (head_at b s)) → IsModelAt a states value → IsModelAt b states value
moved states a b value flows polarity heads m = record {
  flows = λ n p edge inside. m.flows n p (flows n p inside edge) inside;
  heads = λ s inside.
      subst (λ p. IsInside p (head_value p value (head_at b s)) (value s)) (polarity s inside)
      (subst (λ g. IsInside (polarity_at a s) g (value s)) (heads s (polarity_at a s) inside) (m.heads s inside));
}

-- it is one of every automaton that agrees at these states
pub carried : (states : List ℕ) (a b : Automaton) (value : ℕ → Predicate) → AgreesAt states a b → IsModelAt a states value ↔ IsModelAt b states value
carried states a b value same = (
  moved states a b value (λ n p inside. (same.flows n p inside).0) (λ s inside. sym (same.polarity s inside)) (λ s p inside. sym (heads s p inside)),
  moved states b a value (λ n p inside. (same.flows n p inside).1) same.polarity heads,
)
  where
    heads : (s : ℕ) (p : Polarity) → Contains states s → head_value p value (head_at b s) ≡ head_value p value (head_at a s)
    heads s p inside = same_parts-value p value (parts_of (head_at b s)) (parts_of (head_at a s)) (same.heads s inside)

-- The types of a part, by models at its states alone.
pub record HasTypesAt (a : Automaton) (part : TablePart) (types : ℕ → Predicate) (f : Predicate) : Type 0 where
  pub nodes : List Node
  pub closed : IsClosedBook nodes
  pub value : ℕ → Predicate
  pub held : (s : ℕ) → IsTypeOf nodes (value s)
  pub model : IsModelAt a part.states value
  pub root : Implies (value part.root.0) f
  pub env : (entry : EnvEntry) → Contains part.env entry → Implies (types entry.binder) (value entry.state.0)

pub types_at : (a : Automaton) (part : TablePart) (types : ℕ → Predicate) (f : Predicate) → part_types a part types f → HasTypesAt a part types f
types_at a part types f h = record {
  nodes = h.nodes;
  closed = h.closed;
  value = h.value;
  held = h.held;
  model = model_at a part.states h.value h.model;
  root = h.root;
  env = h.env;
}

carried_types : (a b : Automaton) (part : TablePart) (types : ℕ → Predicate) (f : Predicate) → ((value : ℕ → Predicate) → IsModelAt a part.states value → IsModelAt b part.states value)
    → HasTypesAt a part types f → HasTypesAt b part types f
carried_types a b part types f models h = record {
  nodes = h.nodes;
  closed = h.closed;
  value = h.value;
  held = h.held;
  model = models h.value h.model;
  root = h.root;
  env = h.env;
}

-- each part has its type
abbrev pub EachHasAt : Automaton → List TablePart → (ℕ → Predicate) → List Predicate → Type 0
EachHasAt a [] types [] = Unit {0}
EachHasAt a (part ∷ rest) types (f ∷ fs) = HasTypesAt a part types f × EachHasAt a rest types fs
EachHasAt a _ types _ = ⊥

-- what names only itself, and is named by itself alone, is closed
pub region_closed : (a : Automaton) (states : List ℕ) → IsRegion a states → IsClosedRegion a states
region_closed a states is = record { heads = λ s t inside names. (is.heads s t names).0 inside; flows = is.flows }

-- no head leads out of the parts, and no edge in or out
parts_heads : (a : Automaton) (parts : List TablePart) → AreParts a parts → (s t : ℕ) → InParts parts s → Names a s t → InParts parts t
parts_heads a [] are s t inside names = absurd inside
parts_heads a (part ∷ rest) are s t (inl inside) names = inl (are.0.region.heads s t inside names)
parts_heads a (part ∷ rest) are s t (inr inside) names = inr (parts_heads a rest are.2 s t inside names)

parts_flows : (a : Automaton) (parts : List TablePart) → AreParts a parts → (n p : ℕ) → HasFlow a n p → InParts parts n ↔ InParts parts p
parts_flows a [] are n p edge = (λ h. h, λ h. h)
parts_flows a (part ∷ rest) are n p edge =
    let first = are.0.region.flows n p edge in
    let later = parts_flows a rest are.2 n p edge in (
      λ it. elim it [ inl here ↦ inl (first.0 here) | inr there ↦ inr (later.0 there) ],
      λ it. elim it [ inl here ↦ inl (first.1 here) | inr there ↦ inr (later.1 there) ],
    )

parts_roots : (a : Automaton) (parts : List TablePart) → AreParts a parts → (v w : ℕ → Predicate) → ((s : ℕ) → InParts parts s → v s ≡ w s) → (fs : List Predicate) → AreRootsBelow v (part_roots parts) fs → AreRootsBelow w (part_roots parts) fs
parts_roots a [] are v w same [] h = tt
parts_roots a [] are v w same (f ∷ fs) h = absurd h
parts_roots a (part ∷ rest) are v w same [] h = absurd h
parts_roots a (part ∷ rest) are v w same (f ∷ fs) h = (
  subst (λ g. Implies g f) (same part.root.0 (inl are.0.root_in)) h.0,
  parts_roots a rest are.2 v w (λ s inside. same s (inr inside)) fs h.1,
)

-- the states of binders are states of the parts
pub parts_env : (a : Automaton) (parts : List TablePart) → AreParts a parts → (entry : EnvEntry) → InEnvs parts entry → InParts parts entry.state.0
parts_env a [] are entry inside = absurd inside
parts_env a (part ∷ rest) are entry (inl inside) = inl (are.0.env_in entry inside)
parts_env a (part ∷ rest) are entry (inr inside) = inr (parts_env a rest are.2 entry inside)

-- The parts and the new states together are a region again, where the heads of new states name no others, and no edge
-- leads from a new state to an old one or back.
pub region_grown : (a : Automaton) (parts : List TablePart) (new : List ℕ) → AreParts a parts → (states : List ℕ) → ((s : ℕ) → Contains states s ↔ InParts parts s ⊎ Contains new s)
    → ((s t : ℕ) → Contains new s → Names a s t → InParts parts t ⊎ Contains new t) → ((n p : ℕ) → HasFlow a n p → Contains new n ↔ Contains new p) → IsClosedRegion a states
region_grown a parts new are states each names edges = record {
  heads = λ s t inside it. elim ((each s).0 inside) [
    | inl old ↦ (each t).1 (inl (parts_heads a parts are s t old it))
    | inr here ↦ (each t).1 (names s t here it)
  ];
  flows = λ n p edge.
      let old = parts_flows a parts are n p edge in
      let fresh = edges n p edge in (
        λ inside. (each p).1 (elim ((each n).0 inside) [ inl there ↦ inl (old.0 there) | inr here ↦ inr (fresh.0 here) ]),
        λ inside. (each n).1 (elim ((each p).0 inside) [ inl there ↦ inl (old.1 there) | inr here ↦ inr (fresh.1 here) ]),
      );
}

-- what the heads of new states name
pub empty_names : (t : ℕ) → HeadNames empty_head t → ⊥
empty_names t (inl it) = let none : None ≡ Some it.0 = it.1 in absurd (cc)
empty_names t (inr it) = let none : None ≡ Some it.0 = it.1 in absurd (cc)

pub function_names : (domain codomain : List ℕ) (t : ℕ) → HeadNames (function_head domain codomain) t → Contains domain t ⊎ Contains codomain t
function_names domain codomain t (inl it) =
    let arms : Arms = record { domain = domain; codomain = codomain } in
    let same : Some arms ≡ Some it.0 = it.1 in
    let is : arms ≡ it.0 = cc in
    subst (λ (arms : Arms). Contains arms.domain t ⊎ Contains arms.codomain t) (sym is) it.2
function_names domain codomain t (inr it) = let none : None ≡ Some it.0 = it.1 in absurd (cc)

pub record_names : (fields : List FieldSet) (t : ℕ) → HeadNames (record_head fields) t → (field : FieldSet) × Contains fields field × Contains field.set t
record_names fields t (inl it) = let none : None ≡ Some it.0 = it.1 in absurd (cc)
record_names fields t (inr it) =
    let same : Some fields ≡ Some it.0 = it.1 in
    let is : fields ≡ it.0 = cc in
    subst (λ (fields : List FieldSet). (field : FieldSet) × Contains fields field × Contains field.set t) (sym is) it.2

-- a model at all states of the parts, beside which these values stand
record Together (a : Automaton) (parts : List TablePart) (types : ℕ → Predicate) (fs : List Predicate) (w : ℕ → Predicate) : Type 0 where
  pub nodes : List Node
  pub closed : IsClosedBook nodes
  pub value : ℕ → Predicate
  pub held : (s : ℕ) → IsTypeOf nodes (value s)
  pub outside : (s : ℕ) → (InParts parts s → ⊥) → value s ≡ w s
  pub flows : (n p : ℕ) → HasFlow a n p → InParts parts n → Implies (value n) (value p)
  pub heads : (s : ℕ) → InParts parts s → Stands a value s
  pub env : (entry : EnvEntry) → InEnvs parts entry → Implies (types entry.binder) (value entry.state.0)
  pub roots : AreRootsBelow value (part_roots parts) fs

together : (a : Automaton) (parts : List TablePart) → AreParts a parts → (types : ℕ → Predicate) (fs : List Predicate) → EachHasAt a parts types fs
    → (b : List Node) → IsClosedBook b → (w : ℕ → Predicate) → ((s : ℕ) → IsTypeOf b (w s)) → Together a parts types fs w
together a [] are types [] each b closed w held = record {
  nodes = b;
  closed = closed;
  value = w;
  held = held;
  outside = λ s out. refl;
  flows = λ n p edge inside. absurd inside;
  heads = λ s inside. absurd inside;
  env = λ entry inside. absurd inside;
  roots = tt;
}
together a [] are types (f ∷ fs) each b closed w held = absurd each
together a (part ∷ rest) are types [] each b closed w held = absurd each
together a (part ∷ rest) are types (f ∷ fs) each b closed w held =
    let later : Together a rest types fs w = together a rest are.2 types fs each.1 b closed w held in
    let T : ℕ → Predicate = each.0.value in
    let R : ℕ → Predicate = later.value in
    let u = united each.0.nodes later.nodes each.0.closed later.closed in
    let V : ℕ → Predicate = λ s. picked (find_in part.states s) (T s) (R s) in
    let own : (s : ℕ) → Contains part.states s → V s ≡ T s = λ s inside. picked_first (find_in part.states s) (T s) (R s) inside in
    let other : (s : ℕ) → (Contains part.states s → ⊥) → V s ≡ R s = λ s out. picked_second (find_in part.states s) (T s) (R s) out in
    let others : (s : ℕ) → InParts rest s → V s ≡ R s = λ s inside. other s (λ here. are.1 s here inside) in
    record {
      nodes = u.0;
      closed = u.1.closed;
      value = V;
      held = λ s.
          picked_held (find_in part.states s) u.0 (T s) (R s)
          (IsIn-longer each.0.nodes u.0 (T s) each.0.closed u.1 (each.0.held s))
          (IsIn-held later.nodes u.0 u.2.0 (R s) u.2.1 (later.held s));
      outside = λ s out. other s (λ here. out (inl here)) ∙ later.outside s (λ there. out (inr there));
      flows = λ n p edge inside. elim inside [
        | inl here ↦
            subst (λ g. Implies g (V p)) (sym (own n here))
            (subst (Implies (T n)) (sym (own p ((are.0.region.flows n p edge).0 here))) (each.0.model.flows n p edge here))
        | inr there ↦
            subst (λ g. Implies g (V p)) (sym (others n there))
            (subst (Implies (R n)) (sym (others p ((parts_flows a rest are.2 n p edge).0 there))) (later.flows n p edge there))
      ];
      heads = λ s inside. elim inside [
        | inl here ↦ stands_agree a T V s (sym (own s here)) (λ t names. sym (own t (are.0.region.heads s t here names))) (each.0.model.heads s here)
        | inr there ↦ stands_agree a R V s (sym (others s there)) (λ t names. sym (others t (parts_heads a rest are.2 s t there names))) (later.heads s there)
      ];
      env = λ entry inside. elim inside [
        | inl here ↦ subst (Implies (types entry.binder)) (sym (own entry.state.0 (are.0.env_in entry here))) (each.0.env entry here)
        | inr there ↦ subst (Implies (types entry.binder)) (sym (others entry.state.0 (parts_env a rest are.2 entry there))) (later.env entry there)
      ];
      roots = (
        subst (λ g. Implies g f) (sym (own part.root.0 are.0.root_in)) each.0.root,
        parts_roots a rest are.2 R V (λ s inside. sym (others s inside)) fs later.roots,
      );
    }

-- Values that ask nothing: a positive state at the top, a negative one at the bottom.
abbrev pub widest : Polarity → Predicate
widest Positive = top
widest Negative = bot

widest_inside : (p : Polarity) (g f : Predicate) → f ≡ widest p → IsInside p g f
widest_inside Positive g f e = subst (Implies g) (sym e) (λ t h. refl)
widest_inside Negative g f e = subst (λ f. Implies f g) (sym e) (λ t h. absurd (cc))

widest_held : (p : Polarity) (b : List Node) → IsTypeOf b top → IsTypeOf b bot → IsTypeOf b (widest p)
widest_held Positive b first second = first
widest_held Negative b first second = second

-- A model of the parts, beside which the new states have these values. It is one of the whole where it is one at the
-- new states.
pub record Assembled (a : Automaton) (parts : List TablePart) (new : List ℕ) (types : ℕ → Predicate) (fs : List Predicate) (w : ℕ → Predicate) : Type 0 where
  pub nodes : List Node
  pub closed : IsClosedBook nodes
  pub value : ℕ → Predicate
  pub held : (s : ℕ) → IsTypeOf nodes (value s)
  pub at_new : (s : ℕ) → Contains new s → value s ≡ w s
  pub env : (entry : EnvEntry) → InEnvs parts entry → Implies (types entry.binder) (value entry.state.0)
  pub roots : AreRootsBelow value (part_roots parts) fs
  pub model : ((n p : ℕ) → HasFlow a n p → Contains new n → Contains new p → Implies (value n) (value p))
      → ((s : ℕ) → Contains new s → Stands a value s) → IsModel a value

module _ (a : Automaton) (parts : List TablePart) (new : List ℕ) (are : AreSideBySide a parts new) (types : ℕ → Predicate) (fs : List Predicate) (each : EachHasAt a parts types fs)
    (b : List Node) (closed : IsClosedBook b) (w : ℕ → Predicate) (held : (s : ℕ) → IsTypeOf b (w s)) where
  abbrev filled : ℕ → Predicate
  filled s = picked (find_in new s) (w s) (widest (polarity_at a s))

  pub assembled_at : Assembled a parts new types fs w
  assembled_at =
      let one = extended_with b node.Top closed tt tt in
      let two = extended_with one.0 node.Bot one.1.closed tt tt in
      let top_held : IsTypeOf two.0 top = IsIn-longer one.0 two.0 top one.1.closed two.1 (one.2.0, one.2.1, value-top var one.0 one.1.closed.book one.2.0 one.2.2) in
      let bot_held : IsTypeOf two.0 bot = (two.2.0, two.2.1, value-bot var two.0 two.1.closed.book two.2.0 two.2.2) in
      let it : Together a parts types fs filled =
      together a parts are.are types fs each two.0 two.1.closed filled
      (λ s.
      picked_held (find_in new s) two.0 (w s) (widest (polarity_at a s))
      (IsIn-longer one.0 two.0 (w s) one.1.closed two.1 (IsIn-longer b one.0 (w s) closed one.1 (held s)))
      (widest_held (polarity_at a s) two.0 top_held bot_held)) in
      let V : ℕ → Predicate = it.value in
      let rest : (s : ℕ) → (InParts parts s → ⊥) → (Contains new s → ⊥) → V s ≡ widest (polarity_at a s) = λ s out old. it.outside s out ∙ picked_second (find_in new s) (w s) (widest (polarity_at a s)) old in
      record {
        nodes = it.nodes;
        closed = it.closed;
        value = V;
        held = it.held;
        at_new = λ s inside. it.outside s (are.outside s inside) ∙ picked_first (find_in new s) (w s) (widest (polarity_at a s)) inside;
        env = it.env;
        roots = it.roots;
        model = λ flows heads. record {
          flows = λ e there. by_flow V it.flows rest flows e.negative.0 e.positive.0 there (find_parts parts e.negative.0) (find_in new e.negative.0) (find_in new e.positive.0);
          heads = λ s. by_state V it.heads rest heads s (find_parts parts s) (find_in new s);
        };
      }
    where
      by_state : (V : ℕ → Predicate) → ((s : ℕ) → InParts parts s → Stands a V s) → ((s : ℕ) → (InParts parts s → ⊥) → (Contains new s → ⊥) → V s ≡ widest (polarity_at a s)) → ((s : ℕ) → Contains new s → Stands a V s)
          → (s : ℕ) → Either (InParts parts s) → Either (Contains new s) → Stands a V s
      by_state V old rest heads s (inl inside) o = old s inside
      by_state V old rest heads s (inr out) (inl here) = heads s here
      by_state V old rest heads s (inr out) (inr none) = widest_inside (polarity_at a s) (head_value (polarity_at a s) V (head_at a s)) (V s) (rest s out none)

      by_flow : (V : ℕ → Predicate) → ((n p : ℕ) → HasFlow a n p → InParts parts n → Implies (V n) (V p)) → ((s : ℕ) → (InParts parts s → ⊥) → (Contains new s → ⊥) → V s ≡ widest (polarity_at a s))
          → ((n p : ℕ) → HasFlow a n p → Contains new n → Contains new p → Implies (V n) (V p))
          → (n p : ℕ) → HasFlow a n p → Either (InParts parts n) → Either (Contains new n) → Either (Contains new p) → Implies (V n) (V p)
      by_flow V old rest flows n p edge (inl inside) o o' = old n p edge inside
      by_flow V old rest flows n p edge (inr out) (inr none) o' =
          let low : V n ≡ bot = rest n out none ∙ ap widest (are.flows.negative (record { negative = record { 0 = n }; positive = record { 0 = p } }) edge).polarity in
          widest_inside Negative (V p) (V n) low
      by_flow V old rest flows n p edge (inr out) (inl here) (inr none) =
          let high : V p ≡ top = rest p (λ inside. out ((parts_flows a parts are.are n p edge).1 inside)) none ∙ ap widest (are.flows.positive (record { negative = record { 0 = n }; positive = record { 0 = p } }) edge).polarity in
          widest_inside Positive (V n) (V p) high
      by_flow V old rest flows n p edge (inr out) (inl here) (inl there) = flows n p edge here there

each_at : (a : Automaton) (parts : List TablePart) (types : ℕ → Predicate) (fs : List Predicate) → AllHaveTypes types (schemes_at a parts) fs → EachHasAt a parts types fs
each_at a [] types [] each = tt
each_at a [] types (f ∷ fs) each = absurd each
each_at a (part ∷ rest) types [] each = absurd each
each_at a (part ∷ rest) types (f ∷ fs) each = (types_at a part types f each.0, each_at a rest types fs each.1)

pub assembled : (a : Automaton) (parts : List TablePart) (new : List ℕ) → AreSideBySide a parts new → (types : ℕ → Predicate) (fs : List Predicate) → AllHaveTypes types (schemes_at a parts) fs
    → (b : List Node) → IsClosedBook b → (w : ℕ → Predicate) → ((s : ℕ) → IsTypeOf b (w s)) → Assembled a parts new types fs w
assembled a parts new are types fs each = assembled_at a parts new are types fs (each_at a parts types fs each)

-- A model of the whole gives each part its type.
pub part_has : (a : Automaton) (env : List EnvEntry) (root : StateId) (goals : List (ℕ × ℕ)) (types : ℕ → Predicate) (f : Predicate) (h : HasTypes (over a env root goals) types f)
    → (part : TablePart) → ((entry : EnvEntry) → Contains part.env entry → Contains env entry) → (g : Predicate) → Implies (h.value part.root.0) g → part_types a part types g
part_has a env root goals types f h part within g below = record {
  nodes = h.nodes;
  closed = h.closed;
  value = h.value;
  held = h.held;
  model = h.model;
  goals = no_goal h.value;
  root = below;
  env = λ entry inside. h.env entry (within entry inside);
}

pub each_has : (a : Automaton) (env : List EnvEntry) (root : StateId) (goals : List (ℕ × ℕ)) (types : ℕ → Predicate) (f : Predicate) (h : HasTypes (over a env root goals) types f)
    → (parts : List TablePart) → ((entry : EnvEntry) → InEnvs parts entry → Contains env entry) → (fs : List Predicate) → AreRootsBelow h.value (part_roots parts) fs → AllHaveTypes types (schemes_at a parts) fs
each_has a env root goals types f h [] within [] below = tt
each_has a env root goals types f h [] within (g ∷ gs) below = absurd below
each_has a env root goals types f h (part ∷ rest) within [] below = absurd below
each_has a env root goals types f h (part ∷ rest) within (g ∷ gs) below = (
  part_has a env root goals types f h part (λ entry inside. within entry (inl inside)) g below.0,
  each_has a env root goals types f h rest (λ entry inside. within entry (inr inside)) gs below.1,
)

-- a model at the states of a part is one of the whole
pub at_types : (a : Automaton) (part : TablePart) → HasTrueFlows a → IsPart a part.states part.env part.root → (types : ℕ → Predicate) (f : Predicate) → HasTypesAt a part types f → part_types a part types f
at_types a part flows is types f h =
    let one = extended_with [] node.Top (closed_from [] (λ i low. absurd (omega arith))) tt tt in
    let it : Assembled a (part ∷ []) [] types (f ∷ []) (λ s. top) =
    assembled_at a (part ∷ []) [] (record { flows = flows; are = (is, (λ s here there. there), tt); outside = λ s inside. absurd (nothing_in s inside) }) types (f ∷ []) (h, tt) one.0 one.1.closed (λ s. top)
    (λ s. (one.2.0, one.2.1, value-top var one.0 one.1.closed.book one.2.0 one.2.2)) in
    record {
      nodes = it.nodes;
      closed = it.closed;
      value = it.value;
      held = it.held;
      model = it.model (λ n p edge inside. absurd (nothing_in n inside)) (λ s inside. absurd (nothing_in s inside));
      goals = no_goal it.value;
      root = it.roots.0;
      env = λ entry inside. it.env entry (inl inside);
    }

-- a part has the same types over automata that agree at its states
pub types_agree : (a b : Automaton) (part : TablePart) → HasTrueFlows a → HasTrueFlows b → IsPart a part.states part.env part.root → IsPart b part.states part.env part.root → AgreesAt part.states a b
    → HaveSameTypes (no_goals (scheme_at a part)) (no_goals (scheme_at b part))
types_agree a b part flows_a flows_b is_a is_b same types f = (
  λ h. at_types b part flows_b is_b types f (carried_types a b part types f (λ value. (carried part.states a b value same).0) (types_at a part types f h)),
  λ h. at_types a part flows_a is_a types f (carried_types b a part types f (λ value. (carried part.states a b value same).1) (types_at b part types f h)),
)
