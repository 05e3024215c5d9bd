-- What follows from goals between states of an automaton is the same where the states stand at other places in their order, and so are its
-- clashes.
--     renamed_twice, renamed_agree     heads under other numbers
--     IsPlaced                         an automaton with the states of another at other places
--     first_kind_placed                the kind of the first clash
use Rattle.std.proofs.Common.{◌≡◌, ◌⊎◌, inl, inr, ℕ, ◌<◌, ◌≤◌, List, [], ◌∷◌, map, refl, sym, ap, ◌∙◌, subst, arith, All, Contains, Some, None}
use Rattle.std.specs.Prelude.{true, false, IsTrue, Option, option_map, cond, is_some, slice_get, nat_lt, ◌==◌}
use Rattle.std.specs.Ordering.{nat_cmp, is_le, ordering_then}
use Rattle.std.specs.declared.cmp.Ordering.{Ordering}
use Rattle.std.specs.declared.cmp.Ordering.TheVariants.{Less, Equal, Greater}
use Rattle.std.specs.Cmp.Lexicographic.{slice_cmp}
use Rattle.std.proofs.lemmas.Bool.{cases_lt}
use Rattle.std.proofs.lemmas.Bool.Decides.{nat_tests}
use Rattle.std.proofs.lemmas.Option.{slice_get-map}
use Rattle.std.proofs.lemmas.List.Elements.{All-head, All-tail}
use Rattle.mls_automaton.specs.declared.automaton.Polarity.{Polarity}
use Rattle.mls_automaton.specs.declared.automaton.Arms.{Arms}
use Rattle.mls_automaton.specs.declared.automaton.FieldSet.{FieldSet}
use Rattle.mls_automaton.specs.declared.automaton.Head.{Head}
use Rattle.mls_automaton.specs.declared.automaton.HeadKind.{HeadKind}
use Rattle.mls_automaton.specs.declared.automaton.HeadKind.TheVariants as part
use Rattle.mls_automaton.specs.Automata.{Automaton, HasFlow, has_kind, head_at}
use Rattle.mls_automaton.specs.Embeddings.{renamed_arms, renamed_field, renamed_head}
use Rattle.mls_automaton.specs.Heads.{set_at}
use Rattle.mls_automaton.specs.Models.{HasArmsIn, HasFieldsIn, HasStatesIn, IsClosed}
use Rattle.mls_automaton.proofs.Instances.{AreGoals}
use Rattle.mls_automaton.proofs.Lists.{Contains-map, Contains-map_back, map-map, map-same}
use Rattle.mls_solver.specs.declared.goal.Clash.{Clash}
use Rattle.mls_solver.specs.declared.goal.ClashKind.{ClashKind}
use Rattle.mls_solver.specs.declared.goal.ClashKind.TheVariants.{Unlike, Lacks}
use Rattle.mls_solver.specs.Clashes.{Clashes, IsAtMost, IsClashOf, IsFirstClash, LacksField, clash_key, key_cmp, kind_key, label_of}
use Rattle.mls_solver.specs.Relations.{InDomain, InCodomain, InField, IsRelated, goal, domain, codomain, field, along}
use Rattle.mls_solver.proofs.Following.{related_states}
use Rattle.mls_shape.proofs.HeadsAlike.{set_at-renamed}
use Rattle.mls_infer.specs.declared.fault.SiteKind.{SiteKind}
use Rattle.mls_infer.specs.declared.fault.SiteKind.TheVariants as told
use Rattle.mls_infer.specs.Constraints.{id, size}
use Rattle.mls_infer.specs.Solved.{IsFirstKind, TellsKind}

-- what a renamed option has
mapped_some : {X Y : Type 0} (f : X → Y) (o : Option X) (y : Y) → option_map f o ≡ Some y → (x : X) × (o ≡ Some x) × (f x ≡ y)
mapped_some f None y e = absurd (cc)
mapped_some f (Some x) y e = (x, refl, cc)

mapped_none : {X Y : Type 0} (f : X → Y) (o : Option X) → option_map f o ≡ None → o ≡ None
mapped_none f None e = refl
mapped_none f (Some x) e = absurd (cc)

some_mapped : {X Y : Type 0} (f : X → Y) (o : Option X) → is_some (option_map f o) ≡ is_some o
some_mapped f None = refl
some_mapped f (Some x) = refl

-- Heads under other numbers.
module _ (f g : ℕ → ℕ) where
  abbrev both : ℕ → ℕ
  both s = f (g s)

  arms_twice : (o : Option Arms) → option_map (renamed_arms f) (option_map (renamed_arms g) o) ≡ option_map (renamed_arms both) o
  arms_twice None = refl
  arms_twice (Some arms) = λ i. Some (record { domain = map-map f g arms.domain i; codomain = map-map f g arms.codomain i })

  list_twice : (fields : List FieldSet) → map (renamed_field f) (map (renamed_field g) fields) ≡ map (renamed_field both) fields
  list_twice [] = refl
  list_twice (first ∷ rest) = λ i. record { label = first.label; set = map-map f g first.set i } ∷ list_twice rest i

  fields_twice : (o : Option (List FieldSet))
      → option_map (map (renamed_field f)) (option_map (map (renamed_field g)) o) ≡ option_map (map (renamed_field both)) o
  fields_twice None = refl
  fields_twice (Some fields) = ap Some (list_twice fields)

  pub renamed_twice : (h : Head) → renamed_head f (renamed_head g h) ≡ renamed_head (λ s. f (g s)) h
  renamed_twice h = λ i. record {
    boolean = h.boolean;
    integer = h.integer;
    function = arms_twice h.function i;
    fields = fields_twice h.fields i;
  }

  arms_agree : (p : Polarity) (o : Option Arms) → HasArmsIn (λ q s. f s ≡ g s) p o → option_map (renamed_arms f) o ≡ option_map (renamed_arms g) o
  arms_agree p None same = refl
  arms_agree p (Some arms) same = λ i. Some (record { domain = map-same f g arms.domain same.0 i; codomain = map-same f g arms.codomain same.1 i })

  list_agree : (fields : List FieldSet) → All (λ (field : FieldSet). All (λ s. f s ≡ g s) field.set) fields
      → map (renamed_field f) fields ≡ map (renamed_field g) fields
  list_agree [] same = refl
  list_agree (first ∷ rest) same = λ i.
      record { label = first.label; set = map-same f g first.set (All-head (λ (field : FieldSet). All (λ s. f s ≡ g s) field.set) first rest same) i }
      ∷ list_agree rest (All-tail (λ (field : FieldSet). All (λ s. f s ≡ g s) field.set) first rest same) i

  fields_agree : (p : Polarity) (o : Option (List FieldSet)) → HasFieldsIn (λ q s. f s ≡ g s) p o
      → option_map (map (renamed_field f)) o ≡ option_map (map (renamed_field g)) o
  fields_agree p None same = refl
  fields_agree p (Some fields) same = ap Some (list_agree fields same)

  pub renamed_agree : (p : Polarity) (h : Head) → HasStatesIn (λ q s. f s ≡ g s) p h → renamed_head f h ≡ renamed_head g h
  renamed_agree p h same = λ i. record {
    boolean = h.boolean;
    integer = h.integer;
    function = arms_agree p h.function same.function i;
    fields = fields_agree p h.fields same.fields i;
  }

-- Heads clash under other numbers as they do under their own.
module _ (place : ℕ → ℕ) where
  kind_same : (k : HeadKind) (h : Head) → has_kind k (renamed_head place h) ≡ has_kind k h
  kind_same part.Bool h = refl
  kind_same part.Int h = refl
  kind_same part.Function h = some_mapped (renamed_arms place) h.function
  kind_same part.Rcd h = some_mapped (map (renamed_field place)) h.fields

  abbrev moved_fields : Option (List FieldSet) → Option (List FieldSet)
  moved_fields = option_map (map (renamed_field place))

  lacks_placed : (o o' : Option (List FieldSet)) (i : ℕ) → LacksField o o' i → LacksField (moved_fields o) (moved_fields o') i
  lacks_placed None o' i it = absurd it
  lacks_placed (Some fields) None i it = absurd it
  lacks_placed (Some fields) (Some others) i it = (
    renamed_field place it.0,
    slice_get-map (renamed_field place) others i ∙ ap (option_map (renamed_field place)) it.1,
    set_at-renamed place it.0.label fields ∙ ap (option_map (map place)) it.2,
  )

  lacks_back : (o o' : Option (List FieldSet)) (i : ℕ) → LacksField (moved_fields o) (moved_fields o') i → LacksField o o' i
  lacks_back None o' i it = absurd it
  lacks_back (Some fields) None i it = absurd it
  lacks_back (Some fields) (Some others) i it =
      let found = mapped_some (renamed_field place) (slice_get others i) it.0 (sym (slice_get-map (renamed_field place) others i) ∙ it.1) in
      let label : it.0.label ≡ found.0.label = sym (ap (λ (f : FieldSet). f.label) found.2) in
      let none : set_at (map (renamed_field place) fields) found.0.label ≡ None = subst (λ l. set_at (map (renamed_field place) fields) l ≡ None) label it.2 in
      (found.0, found.1, mapped_none (map place) (set_at fields found.0.label) (sym (set_at-renamed place found.0.label fields) ∙ none))

  clashes_placed : (h k : Head) (kind : ClashKind) → Clashes h k kind → Clashes (renamed_head place h) (renamed_head place k) kind
  clashes_placed h k (Unlike first second) it = (kind_same first h ∙ it.0, kind_same second k ∙ it.1, it.2)
  clashes_placed h k (Lacks i) it = lacks_placed h.fields k.fields i it

  clashes_back : (h k : Head) (kind : ClashKind) → Clashes (renamed_head place h) (renamed_head place k) kind → Clashes h k kind
  clashes_back h k (Unlike first second) it = (sym (kind_same first h) ∙ it.0, sym (kind_same second k) ∙ it.1, it.2)
  clashes_back h k (Lacks i) it = lacks_back h.fields k.fields i it

  abbrev label_in : Option FieldSet → List ℕ
  label_in None = []
  label_in (Some found) = found.label

  label_same : (o : Option (List FieldSet)) (i : ℕ) → label_of (moved_fields o) i ≡ label_of o i
  label_same None i = refl
  label_same (Some fields) i =
      ap label_in (slice_get-map (renamed_field place) fields i) ∙ go (slice_get fields i)
    where
      go : (o : Option FieldSet) → label_in (option_map (renamed_field place) o) ≡ label_in o
      go None = refl
      go (Some found) = refl

  kind_key_same : (h : Head) (kind : ClashKind) → kind_key (renamed_head place h) kind ≡ kind_key h kind
  kind_key_same h (Unlike first second) = refl
  kind_key_same h (Lacks i) = λ k. 1 ∷ label_same h.fields i k

  tells_placed : (h : Head) (kind : ClashKind) (m : SiteKind) → TellsKind h kind m → TellsKind (renamed_head place h) kind m
  tells_placed h (Unlike first second) m it = it
  tells_placed h (Lacks i) m it = it ∙ ap told.Lacks (sym (label_same h.fields i))

-- The second automaton has the states of the first at other places, in their order. There they have their heads and their edges.
pub record IsPlaced (place : ℕ → ℕ) (a b : Automaton) : Type 0 where
  pub rising : (s j : ℕ) → s < j → place s < place j
  pub heads : (s : ℕ) → s < size a → head_at b (place s) ≡ renamed_head place (head_at a s)
  pub flows : (n p : ℕ) → HasFlow a n p → HasFlow b (place n) (place p)
  pub flows_back : (n q : ℕ) → n < size a → HasFlow b (place n) q → (p : ℕ) × HasFlow a n p × (q ≡ place p)

less_cmp : (x y : ℕ) → x < y → nat_cmp x y ≡ Less
less_cmp x y less = let test : nat_lt x y ≡ true = grind (arith, nat_tests) in λ i. cond (test i) Less (cond (x == y) Equal Greater)

greater_cmp : (x y : ℕ) → y < x → nat_cmp x y ≡ Greater
greater_cmp x y less =
    let test : nat_lt x y ≡ false = grind (arith, nat_tests) in
    let apart : (x == y) ≡ false = grind (arith, nat_tests) in
    λ i. cond (test i) Less (cond (apart i) Equal Greater)

equal_cmp : (x : ℕ) → nat_cmp x x ≡ Equal
equal_cmp x =
    let test : nat_lt x x ≡ false = grind (arith, nat_tests) in
    let same : (x == x) ≡ true = grind (arith, nat_tests) in
    λ i. cond (test i) Less (cond (same i) Equal Greater)

-- places in the order of their states
module _ (place : ℕ → ℕ) (rising : (s j : ℕ) → s < j → place s < place j) where
  pub distinct_places : (s j : ℕ) → place s ≡ place j → s ≡ j
  distinct_places s j e = go (cases_lt s j) (cases_lt j s)
    where
      go : (s < j) ⊎ (j ≤ s) → (j < s) ⊎ (s ≤ j) → s ≡ j
      go (inl less) other = let up : place s < place j = rising s j less in absurd (omega arith)
      go (inr le) (inl less) = let up : place j < place s = rising j s less in absurd (omega arith)
      go (inr le) (inr le') = omega arith

  cmp_same : (x y : ℕ) → nat_cmp (place x) (place y) ≡ nat_cmp x y
  cmp_same x y = go (cases_lt x y) (cases_lt y x)
    where
      go : (x < y) ⊎ (y ≤ x) → (y < x) ⊎ (x ≤ y) → nat_cmp (place x) (place y) ≡ nat_cmp x y
      go (inl less) other = less_cmp (place x) (place y) (rising x y less) ∙ sym (less_cmp x y less)
      go (inr le) (inl less) = greater_cmp (place x) (place y) (rising y x less) ∙ sym (greater_cmp x y less)
      go (inr le) (inr le') =
          let same : x ≡ y = omega arith in
          subst (λ z. nat_cmp (place x) (place z) ≡ nat_cmp x z) same (equal_cmp (place x) ∙ sym (equal_cmp x))

-- a clash at other places
abbrev placed_clash : (ℕ → ℕ) → Clash → Clash
placed_clash place c = record { positive = id (place c.positive.0); negative = id (place c.negative.0); kind = c.kind }

module _ (place : ℕ → ℕ) (a b : Automaton) (placed : IsPlaced place a b) (s : ℕ) (low : s < size a) where
  function_at : (head_at b (place s)).function ≡ option_map (renamed_arms place) (head_at a s).function
  function_at = ap (λ (h : Head). h.function) (placed.heads s low)

  fields_at : (head_at b (place s)).fields ≡ option_map (map (renamed_field place)) (head_at a s).fields
  fields_at = ap (λ (h : Head). h.fields) (placed.heads s low)

  domain_placed : (m : ℕ) → InDomain a s m → InDomain b (place s) (place m)
  domain_placed m it = (renamed_arms place it.0, function_at ∙ ap (option_map (renamed_arms place)) it.1, Contains-map place it.0.domain m it.2)

  codomain_placed : (m : ℕ) → InCodomain a s m → InCodomain b (place s) (place m)
  codomain_placed m it = (renamed_arms place it.0, function_at ∙ ap (option_map (renamed_arms place)) it.1, Contains-map place it.0.codomain m it.2)

  field_placed : (label : List ℕ) (m : ℕ) → InField a s label m → InField b (place s) label (place m)
  field_placed label m it = (
    map (renamed_field place) it.0,
    map place it.1,
    fields_at ∙ ap (option_map (map (renamed_field place))) it.2,
    set_at-renamed place label it.0 ∙ ap (option_map (map place)) it.3,
    Contains-map place it.1 m it.4,
  )

  domain_back : (m : ℕ) → InDomain b (place s) m → (j : ℕ) × InDomain a s j × (m ≡ place j)
  domain_back m it =
      let found = mapped_some (renamed_arms place) (head_at a s).function it.0 (sym function_at ∙ it.1) in
      let back = Contains-map_back place found.0.domain m (subst (λ (arms : Arms). Contains arms.domain m) (sym found.2) it.2) in
      (back.0, (found.0, found.1, back.1), sym back.2)

  codomain_back : (m : ℕ) → InCodomain b (place s) m → (j : ℕ) × InCodomain a s j × (m ≡ place j)
  codomain_back m it =
      let found = mapped_some (renamed_arms place) (head_at a s).function it.0 (sym function_at ∙ it.1) in
      let back = Contains-map_back place found.0.codomain m (subst (λ (arms : Arms). Contains arms.codomain m) (sym found.2) it.2) in
      (back.0, (found.0, found.1, back.1), sym back.2)

  field_back : (label : List ℕ) (m : ℕ) → InField b (place s) label m → (j : ℕ) × InField a s label j × (m ≡ place j)
  field_back label m it =
      let found = mapped_some (map (renamed_field place)) (head_at a s).fields it.0 (sym fields_at ∙ it.2) in
      let there : set_at (map (renamed_field place) found.0) label ≡ Some it.1 =
      subst (λ (fs : List FieldSet). set_at fs label ≡ Some it.1) (sym found.2) it.3 in
      let own = mapped_some (map place) (set_at found.0 label) it.1 (sym (set_at-renamed place label found.0) ∙ there) in
      let back = Contains-map_back place own.0 m (subst (λ (set : List ℕ). Contains set m) (sym own.2) it.4) in
      (back.0, (found.0, own.0, found.1, own.1, back.1), sym back.2)

module _ (place : ℕ → ℕ) (a b : Automaton) (closed : IsClosed a) (placed : IsPlaced place a b) (R S : ℕ → ℕ → Type 0) (are : AreGoals a R)
    (to : (p n : ℕ) → R p n → S (place p) (place n)) (from : (q m : ℕ) → S q m → (p n : ℕ) × R p n × (q ≡ place p) × (m ≡ place n)) where
  in_range : (p n : ℕ) → IsRelated a R p n → (p < size a) × (n < size a)
  in_range p n it = let states = related_states a R closed are p n it in (states.0.in_range, states.1.in_range)

  related_placed : (p n : ℕ) → IsRelated a R p n → IsRelated b S (place p) (place n)
  related_placed p n (goal it) = goal (to p n it)
  related_placed q m (domain {p = p} {n = n} it left right) =
      let low = in_range p n it in
      domain (related_placed p n it) (domain_placed place a b placed n low.1 q left) (domain_placed place a b placed p low.0 m right)
  related_placed q m (codomain {p = p} {n = n} it left right) =
      let low = in_range p n it in
      codomain (related_placed p n it) (codomain_placed place a b placed p low.0 q left) (codomain_placed place a b placed n low.1 m right)
  related_placed q m (field {p = p} {n = n} label it left right) =
      let low = in_range p n it in
      field label (related_placed p n it) (field_placed place a b placed p low.0 label q left) (field_placed place a b placed n low.1 label m right)
  related_placed p m (along {n = n} {q = q} it edge later) =
      along (related_placed p n it) (placed.flows n q edge) (related_placed q m later)

  -- the two are at the places of two that are related
  abbrev IsPlacedPair : ℕ → ℕ → Type 0
  IsPlacedPair q m = (p n : ℕ) × IsRelated a R p n × (q ≡ place p) × (m ≡ place n)

  related_back : (q m : ℕ) → IsRelated b S q m → IsPlacedPair q m
  related_back q m (goal it) = let found = from q m it in (found.0, found.1, goal found.2, found.3, found.4)
  related_back q m (domain {p = p} {n = n} it left right) =
      let first : IsPlacedPair p n = related_back p n it in
      let low = in_range first.0 first.1 first.2 in
      let one = domain_back place a b placed first.1 low.1 q (subst (λ s. InDomain b s q) first.4 left) in
      let other = domain_back place a b placed first.0 low.0 m (subst (λ s. InDomain b s m) first.3 right) in
      (one.0, other.0, domain first.2 one.1 other.1, one.2, other.2)
  related_back q m (codomain {p = p} {n = n} it left right) =
      let first : IsPlacedPair p n = related_back p n it in
      let low = in_range first.0 first.1 first.2 in
      let one = codomain_back place a b placed first.0 low.0 q (subst (λ s. InCodomain b s q) first.3 left) in
      let other = codomain_back place a b placed first.1 low.1 m (subst (λ s. InCodomain b s m) first.4 right) in
      (one.0, other.0, codomain first.2 one.1 other.1, one.2, other.2)
  related_back q m (field {p = p} {n = n} label it left right) =
      let first : IsPlacedPair p n = related_back p n it in
      let low = in_range first.0 first.1 first.2 in
      let one = field_back place a b placed first.0 low.0 label q (subst (λ s. InField b s label q) first.3 left) in
      let other = field_back place a b placed first.1 low.1 label m (subst (λ s. InField b s label m) first.4 right) in
      (one.0, other.0, field label first.2 one.1 other.1, one.2, other.2)
  related_back p m (along {n = n} {q = q} it edge later) =
      let first : IsPlacedPair p n = related_back p n it in
      let second : IsPlacedPair q m = related_back q m later in
      let low = in_range first.0 first.1 first.2 in
      let own = placed.flows_back first.1 q low.1 (subst (λ s. HasFlow b s q) first.4 edge) in
      let same : own.0 ≡ second.0 = distinct_places place placed.rising own.0 second.0 (sym own.2 ∙ second.3) in
      (first.0, second.1, along first.2 own.1 (subst (λ s. IsRelated a R s second.1) (sym same) second.2), first.3, second.4)

  clash_placed : (c : Clash) → IsClashOf a (IsRelated a R) c → IsClashOf b (IsRelated b S) (placed_clash place c)
  clash_placed c it =
      let low = in_range c.positive.0 c.negative.0 it.0 in (
        related_placed c.positive.0 c.negative.0 it.0,
        subst (λ (h : Head). Clashes h (head_at b (place c.negative.0)) c.kind) (sym (placed.heads c.positive.0 low.0))
            (subst (λ (h : Head). Clashes (renamed_head place (head_at a c.positive.0)) h c.kind) (sym (placed.heads c.negative.0 low.1))
            (clashes_placed place (head_at a c.positive.0) (head_at a c.negative.0) c.kind it.1)),
      )

  clash_back : (d : Clash) → IsClashOf b (IsRelated b S) d → (c : Clash) × IsClashOf a (IsRelated a R) c × (d ≡ placed_clash place c)
  clash_back d it =
      let pair : IsPlacedPair d.positive.0 d.negative.0 = related_back d.positive.0 d.negative.0 it.0 in
      let low = in_range pair.0 pair.1 pair.2 in
      let positive : head_at b d.positive.0 ≡ renamed_head place (head_at a pair.0) = ap (head_at b) pair.3 ∙ placed.heads pair.0 low.0 in
      let negative : head_at b d.negative.0 ≡ renamed_head place (head_at a pair.1) = ap (head_at b) pair.4 ∙ placed.heads pair.1 low.1 in (
        record { positive = id pair.0; negative = id pair.1; kind = d.kind },
        (
          pair.2,
          clashes_back place (head_at a pair.0) (head_at a pair.1) d.kind
              (subst (λ (h : Head). Clashes h (renamed_head place (head_at a pair.1)) d.kind) positive
              (subst (λ (h : Head). Clashes (head_at b d.positive.0) h d.kind) negative it.1)),
        ),
        λ i. record { positive = id (pair.3 i); negative = id (pair.4 i); kind = d.kind },
      )

  key_placed : (c : Clash) → c.negative.0 < size a → kind_key (head_at b (place c.negative.0)) c.kind ≡ kind_key (head_at a c.negative.0) c.kind
  key_placed c low = ap (λ (h : Head). kind_key h c.kind) (placed.heads c.negative.0 low) ∙ kind_key_same place (head_at a c.negative.0) c.kind

  order_placed : (c d : Clash) → c.negative.0 < size a → d.negative.0 < size a
      → key_cmp (clash_key b (placed_clash place c)) (clash_key b (placed_clash place d)) ≡ key_cmp (clash_key a c) (clash_key a d)
  order_placed c d low low' = λ i.
      ordering_then (slice_cmp nat_cmp (key_placed c low i) (key_placed d low' i))
      (ordering_then
      (ordering_then (cmp_same place placed.rising c.positive.0 d.positive.0 i)
      (ordering_then (cmp_same place placed.rising c.negative.0 d.negative.0 i) Equal))
      Equal)

  first_placed : (c : Clash) → IsFirstClash a (IsRelated a R) c → IsFirstClash b (IsRelated b S) (placed_clash place c)
  first_placed c it = record {
    clash = clash_placed c it.clash;
    first = λ d other.
        let found = clash_back d other in
        let low = in_range c.positive.0 c.negative.0 it.clash.0 in
        let low' = in_range found.0.positive.0 found.0.negative.0 found.1.0 in
        subst (λ (d : Clash). IsAtMost b (placed_clash place c) d) (sym found.2)
        (subst (λ (o : Ordering). IsTrue (is_le o)) (sym (order_placed c found.0 low.1 low'.1)) (it.first found.0 found.1));
  }

  pub first_kind_placed : (m : SiteKind) → IsFirstKind a R m → IsFirstKind b S m
  first_kind_placed m it =
      let low = in_range it.clash.positive.0 it.clash.negative.0 it.first.clash.0 in
      record {
        clash = placed_clash place it.clash;
        first = first_placed it.clash it.first;
        tells =
            subst (λ (h : Head). TellsKind h it.clash.kind m) (sym (placed.heads it.clash.negative.0 low.1))
            (tells_placed place (head_at a it.clash.negative.0) it.clash.kind m it.tells);
      }
