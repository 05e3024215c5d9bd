-- The lines that are written plainly for a record, whose parts are brought to their fields one after the other.
--     fields_more, fields_long, field_of_part      the fields of the parts
--     rising_grown, joins_none, joins_more        what the parts are offered
--     brings_none, brings_next        the lines that bring them to their fields
--     make_writes             the lines of a record
use Rattle.std.proofs.Common.{◌≡◌, inl, inr, ℕ, zero, suc, ◌<◌, ◌≤◌, List, [], ◌∷◌, ◌++◌, length, map, get_or, refl, sym, ap, ◌∙◌, subst, arith, append-nil, append_assoc, Contains, Some, None}
use Rattle.std.specs.Prelude.{IsSome}
use Rattle.std.specs.BTreeMap.{BTreeMap, get}
use Rattle.std.specs.Ordering.{nat_cmp}
use Rattle.std.proofs.lemmas.List.{length-map, map-append}
use Rattle.mls_automaton.proofs.Lists.{Contains-cases}
use Rattle.mls_book.specs.declared.book.Field.{Field}
use Rattle.mls_book.specs.declared.book.Node.{Node}
use Rattle.mls_book.specs.declared.book.Node.TheVariants as node
use Rattle.mls_book.specs.declared.book.NodeId.{NodeId}
use Rattle.mls_book.specs.Books.{node_at, field_at}
use Rattle.mls_term.specs.declared.term.Part.{Part}
use Rattle.mls_term.specs.declared.term.TermForm.TheVariants as form
use Rattle.mls_deriv.specs.declared.derivation.BinderNode.{BinderNode}
use Rattle.mls_deriv.specs.declared.derivation.StepLine.{StepLine}
use Rattle.mls_deriv.specs.declared.derivation.StepRule.TheVariants as rule
use Rattle.mls_deriv.specs.Sections.{steps_of}
use Rattle.mls_deriv.specs.Steps.{IsRising}
use Rattle.mls_layout.specs.declared.layout.Places.{Places}
use Rattle.mls_layout.specs.LaidOut.{place_of}
use Rattle.mls_layout.specs.Parts.{Constraint}
use Rattle.mls_layout.specs.Plans.{PlannedLine, a_step_with, planned_steps}
use Rattle.mls_layout.specs.Runs.{a_step}
use Rattle.mls_parts.specs.declared.pose.Posing.{Posing}
use Rattle.mls_parts.specs.Posings.{binder_in, root_in}
use Rattle.mls_automaton.specs.declared.scheme.Scheme.{Scheme}
use Rattle.mls_lines.specs.declared.known.FirstPart.{FirstPart}
use Rattle.mls_lines.specs.declared.known.GlobalAt.{GlobalAt}
use Rattle.mls_lines.specs.declared.steps.Conclusion as conclusion
use Rattle.mls_lines.specs.declared.steps.Steps.{Steps}
use Rattle.mls_lines.specs.declared.writer.Concluded.TheVariants.{Step}
use Rattle.mls_lines.specs.declared.writer.Writer as state
use Rattle.mls_lines.specs.Conclusions.{Concluded, by_step, AreBrought, AreJoined, IsBrought, IsJoined, IsOffered, no_more, one_more}
use Rattle.mls_lines.specs.NodeLines.{AreOffered, NamesKnown}
use Rattle.mls_lines.specs.Stepping.{Adds, AddsStep}
use Rattle.mls_lines.specs.Writer.{concluded_in, own_node, BringsNode, Grows, HaveRisingSteps, Offers}
use Rattle.mls_lines.specs.PlainLines.{AddsLines, AreConclusionsOf, IsSound, WritesNode, standing}
use Rattle.mls_lines.specs.PlainRecords.{AreFieldsOf, BringsParts, JoinsParts, OfferAll}
use Rattle.mls_lines.proofs.Bringing.{planned_append}
use Rattle.mls_lines.proofs.Growing.{grows_itself}
use Rattle.mls_lines.proofs.GoingOn.{begins, brings_more, brought_at, concluded_before, ends, goes_then, grown_on, own_stands, same_on, step_own}
use Rattle.mls_lines.proofs.JoinedEnvironments.{meet_stays}
use Rattle.mls_lines.proofs.LowNodes.{below_longer, nodes_more, parts_low, step_low, there_low, up}
use Rattle.mls_lines.proofs.PlainForms.{is_known, offered_of}
use Rattle.mls_lines.proofs.ToldForms.{all_joined_stay}

-- the field of one part more
pub fields_more : (fields : List Field) (parts : List Part) (nodes : List NodeId) (part : Part) (u : NodeId) → AreFieldsOf fields parts nodes → field_at part.label fields ≡ Some u
    → AreFieldsOf fields (parts ++ part ∷ []) (nodes ++ u ∷ [])
fields_more fields parts nodes part u are found =
    map-append (λ (one : Part). field_at one.label fields) parts (part ∷ [])
    ∙ ((λ n. are n ++ found n ∷ []) ∙ sym (map-append (λ (id : NodeId). Some id) nodes (u ∷ [])))

-- the node at the place of a part is the field of its label
pub fields_long : (fields : List Field) (parts : List Part) (nodes : List NodeId) → AreFieldsOf fields parts nodes → length parts ≤ length nodes
fields_long fields parts nodes are =
    let one : length (map (λ (part : Part). field_at part.label fields) parts) ≡ length parts = length-map parts (λ (part : Part). field_at part.label fields) in
    let other : length (map (λ (id : NodeId). Some id) nodes) ≡ length nodes = length-map nodes (λ (id : NodeId). Some id) in
    let same : length (map (λ (part : Part). field_at part.label fields) parts) ≡ length (map (λ (id : NodeId). Some id) nodes) = ap length are in
    omega (arith, one, other, same)

pub field_of_part : (fields : List Field) (parts : List Part) (nodes : List NodeId) (i : ℕ) (d : Part) (u : NodeId) → AreFieldsOf fields parts nodes → i < length parts → i < length nodes
    → field_at (get_or parts i d).label fields ≡ Some (get_or nodes i u)
field_of_part fields [] nodes i d u are low inside = absurd (omega (arith, low))
field_of_part fields (part ∷ parts) [] i d u are low inside = absurd (omega (arith, inside))
field_of_part fields (part ∷ parts) (id ∷ nodes) zero d u are low inside = cc
field_of_part fields (part ∷ parts) (id ∷ nodes) (suc i) d u are low inside = field_of_part fields parts nodes i d u (cc) (omega (arith, low)) (omega (arith, inside))

-- what one part more is offered
module _ (w : state.Writer) (p : Posing) (fields : List Field) where
  offers_more : (parts : List Part) (offered : List (List BinderNode)) (part : Part) (u : NodeId) (d : List BinderNode) → OfferAll w p fields parts offered → field_at part.label fields ≡ Some u
      → Offers w p part.child u.0 d → OfferAll w p fields (parts ++ part ∷ []) (offered ++ d ∷ [])
  offers_more [] [] part u d all found offers = ((u, found, offers), tt)
  offers_more [] (e ∷ offered) part u d all found offers = absurd all
  offers_more (first ∷ parts) [] part u d all found offers = absurd all
  offers_more (first ∷ parts) (e ∷ offered) part u d all found offers = (all.0, offers_more parts offered part u d all.1 found offers)

  -- each of the parts concludes something
  offers_known : (parts : List Part) (offered : List (List BinderNode)) → OfferAll w p fields parts offered → (part : Part) → Contains parts part → IsSome (concluded_in w part.child)
  offers_known [] offered all part there = let low : there.0 < 0 = there.1 in absurd (omega (arith, low))
  offers_known (first ∷ parts) [] all part there = absurd all
  offers_known (first ∷ parts) (d ∷ offered) all part there = elim (Contains-cases first parts part there) [
    | inl is ↦ subst (λ (one : Part). IsSome (concluded_in w one.child)) is (is_known w first.child all.0.2.own all.0.2.known)
    | inr later ↦ offers_known parts offered all.1 part later
  ]

  offers_told : (of : ℕ → Concluded) → AreConclusionsOf w of → (book : List Node) (c : Constraint) (places : ℕ → List ℕ) (names : NamesKnown) (parts : List Part) (offered : List (List BinderNode))
      → OfferAll w p fields parts offered → AreOffered book c (standing w p places) names of fields parts offered
  offers_told of agree book c places names [] [] all = tt
  offers_told of agree book c places names [] (d ∷ offered) all = absurd all
  offers_told of agree book c places names (first ∷ parts) [] all = absurd all
  offers_told of agree book c places names (first ∷ parts) (d ∷ offered) all =
      ((all.0.0, all.0.1, offered_of w p of first.child all.0.0.0 d agree all.0.2), offers_told of agree book c places names parts offered all.1)

-- one environment more is joined
module _ (node_of : ℕ → ℕ) (book : List Node) where
  all_joined_then : (d e joined last : List BinderNode) (offered : List (List BinderNode)) → AreJoined node_of book d offered joined → IsJoined node_of book joined e last
      → AreJoined node_of book d (offered ++ e ∷ []) last
  all_joined_then d e joined last offered no_more it = one_more it no_more
  all_joined_then d e joined last offered (one_more {e = first} {joined = next} {rest = rest} joins later) it = one_more joins (all_joined_then next e joined last rest later it)

  pub all_joined_rising : (d last : List BinderNode) (offered : List (List BinderNode)) → AreJoined node_of book d offered last → IsRising d → IsRising last
  all_joined_rising d last offered no_more rising = rising
  all_joined_rising d last offered (one_more {joined = next} {rest = rest} joins later) rising = all_joined_rising next last rest later joins.rising

-- environments rise while the book grows
pub rising_grown : (old now : state.Writer) → Grows old now → HaveRisingSteps old → HaveRisingSteps now
rising_grown old now grows rising = λ i c known. rising i c (sym (ap (λ m. get nat_cmp m i) grows.concluded) ∙ known)

-- what is offered while the book grows
offers_before : (old now : state.Writer) (p : Posing) (i u : ℕ) (d : List BinderNode) → Grows old now → Offers now p i u d → Offers old p i u d
offers_before old now p i u d grows it = record {
  own = it.own;
  known = concluded_before old now (grown_on old now grows).fewer i it.own it.known;
  offers = subst (λ (places : Places). IsOffered (λ x. place_of places (binder_in p x)) it.own u d) grows.places it.offers;
  rising = it.rising;
}

module _ (old : state.Writer) (p : Posing) (fields : List Field) where
  pub joins_none : (now : state.Writer) (d : List BinderNode) → d ≡ [] → JoinsParts old now p fields [] d
  joins_none now d none = record { offered = []; offers = tt; joins = subst (AreJoined (own_node old p) now.laid.book [] []) (sym none) no_more }

  pub joins_more : (now new : state.Writer) (parts : List Part) (part : Part) (u : NodeId) (d e joined : List BinderNode) → Grows old now → Grows now new → JoinsParts old now p fields parts d
      → field_at part.label fields ≡ Some u → Offers now p part.child u.0 e → IsJoined (own_node now p) new.laid.book d e joined → JoinsParts old new p fields (parts ++ part ∷ []) joined
  joins_more now new parts part u d e joined before later it found offers joins = record {
    offered = it.offered ++ e ∷ [];
    offers = offers_more old p fields parts it.offered part u e it.offers found (offers_before old now p part.child u.0 e before offers);
    joins =
        all_joined_then (own_node old p) new.laid.book [] e d joined it.offered
        (subst (λ (book : List Node). AreJoined (own_node old p) book [] it.offered d) (sym later.book) (all_joined_stay now.laid.book later.more (own_node old p) [] d it.offered it.joins))
        (subst (λ (places : Places). IsJoined (λ x. place_of places (binder_in p x)) new.laid.book d e joined) before.places joins);
  }

-- one part more is brought to its field
brought_next : (of : ℕ → Concluded) (d : List BinderNode) (fields : List Field) (part : Part) (u : NodeId) (more : List PlannedLine) (number : ℕ) → field_at part.label fields ≡ Some u
    → (steps : List StepLine) (parts : List Part) (plan : List PlannedLine) (numbers : List ℕ) → AreBrought of steps d fields parts plan numbers
    → IsBrought (of part.child) (length (steps ++ planned_steps plan)) part.child d u.0 more number
    → AreBrought of steps d fields (parts ++ part ∷ []) (plan ++ more) (numbers ++ number ∷ [])
brought_next of d fields part u more number found steps [] plan numbers (no_line, no_number) it = (
  u,
  found,
  more,
  [],
  number,
  [],
  ap (λ (l : List PlannedLine). l ++ more) no_line ∙ sym (append-nil more),
  ap (λ (l : List ℕ). l ++ number ∷ []) no_number,
  subst (λ (s : List StepLine). IsBrought (of part.child) (length s) part.child d u.0 more number)
      (ap (λ (l : List PlannedLine). steps ++ planned_steps l) no_line ∙ append-nil steps) it,
  (refl, refl),
)
brought_next of d fields part u more number found steps (one ∷ parts) plan numbers (field, at, first, rest, own, others, plan_is, numbers_are, brought, later) it = (
  field,
  at,
  first,
  rest ++ more,
  own,
  others ++ number ∷ [],
  ap (λ (l : List PlannedLine). l ++ more) plan_is ∙ append_assoc first rest more,
  ap (λ (l : List ℕ). l ++ number ∷ []) numbers_are,
  brought,
  brought_next of d fields part u more number found (steps ++ planned_steps first) parts rest others later
      (subst (λ (s : List StepLine). IsBrought (of part.child) (length s) part.child d u.0 more number)
      (ap (λ (l : List PlannedLine). steps ++ planned_steps l) plan_is
      ∙ (ap (λ (l : List StepLine). steps ++ l) (planned_append first rest) ∙ sym (append_assoc steps (planned_steps first) (planned_steps rest)))) it),
)

module _ (old : state.Writer) (d : List BinderNode) (fields : List Field) where
  pub brings_none : (numbers : List ℕ) → numbers ≡ [] → IsSound old → BringsParts old old d fields [] numbers
  brings_none numbers none sound = record { plan = []; brought = λ of agree. (refl, none); adds = begins old old (grows_itself old) sound }

  pub brings_next : (now new : state.Writer) (parts : List Part) (numbers : List ℕ) (part : Part) (u : NodeId) (number : ℕ) → BringsParts old now d fields parts numbers
      → field_at part.label fields ≡ Some u → BringsNode now new part.child d u number → BringsParts old new d fields (parts ++ part ∷ []) (numbers ++ number ∷ [])
  brings_next now new parts numbers part u number it found later = record {
    plan = it.plan ++ later.plan;
    brought =
        λ of agree.
        brought_next of d fields part u later.plan number found (steps_of old.steps.lines) parts it.plan numbers (it.brought of agree)
        (brought_at old now new of agree part.child d u number later it.plan it.adds);
    adds = brings_more old now new it.plan part.child d u number it.adds later;
  }

-- lines that are added once the book has grown
adds_grown : (old grown new : state.Writer) (plan : List PlannedLine) → Grows old grown → AddsLines grown new plan → AddsLines old new plan
adds_grown old grown new plan grows it = record {
  goes_on = goes_then old grown new (grown_on old grown grows) it.goes_on;
  sound = it.sound;
  adds = subst (λ (s : Steps). Adds new.laid.book s new.steps plan) grows.steps it.adds;
}

-- a record
module _ (globals : BTreeMap ℕ GlobalAt) (firsts : BTreeMap ℕ FirstPart) (lets : BTreeMap ℕ Scheme) (c : Constraint) (p : Posing) (places : ℕ → List ℕ) (i : ℕ) (old grown now new : state.Writer) (grows : Grows old grown)
    (fields : List Field) (parts : List Part) (outer : List BinderNode) (numbers : List ℕ) (joined : JoinsParts old grown p fields parts outer)
    (it : BringsParts grown now outer fields parts numbers) (own : conclusion.Conclusion) (same : new.laid ≡ now.laid) (kept : new.concluded ≡ now.concluded) where
  pub make_writes : (id : NodeId) → IsSound old → Contains (places (root_in p i)) id.0 → node_at old.laid.book id.0 ≡ node.Rcd fields
      → AddsStep now.steps new.steps (a_step i (rule.Make numbers) outer id.0) own → WritesNode globals firsts lets c p places i (form.Make parts) old new (Step own)
  make_writes id sound there is adds =
      let step = a_step i (rule.Make numbers) outer id.0 in
      let so_far = adds_grown old grown now it.plan grows it.adds in
      let later = goes_then grown now new it.adds.goes_on (same_on now new same (λ j known found. sym (ap (λ m. get nat_cmp m j) kept) ∙ found)) in
      let low = step_low (length grown.laid.book) now.steps new.steps step own adds
      (up old grown p sound grows id.0 (there_low old.laid.book id.0 (node.Rcd fields) (λ no. absurd (cc)) is)) (parts_low old grown p sound grows id.0 fields parts outer is joined) in
      record {
        puts = None;
        plan = it.plan ++ a_step_with step [] ∷ [];
        tells = λ names are_names puts of agree. record {
          rcd = id.0;
          fields = fields;
          there = there;
          is =
              subst (λ (book : List Node). node_at book id.0 ≡ node.Rcd fields) (sym later.book)
              (meet_stays grown.laid.book later.more id.0 (node.Rcd fields) (λ no. absurd (cc))
              (subst (λ (book : List Node). node_at book id.0 ≡ node.Rcd fields) (sym grows.book) (meet_stays old.laid.book grows.more id.0 (node.Rcd fields) (λ no. absurd (cc)) is)));
          offered = joined.offered;
          offers = offers_told old p fields of agree new.laid.book c places names parts joined.offered joined.offers;
          outer = outer;
          joins =
              subst (λ (book : List Node). AreJoined (own_node old p) book [] joined.offered outer) (sym later.book)
              (all_joined_stay grown.laid.book later.more (own_node old p) [] outer joined.offered joined.joins);
          lines = it.plan;
          numbers = numbers;
          brought =
              subst (λ (s : Steps). AreBrought of (steps_of s.lines) outer fields parts it.plan numbers) grows.steps
              (it.brought of (λ j known found. agree j known (concluded_before old grown (grown_on old grown grows).fewer j known found)));
          plan_is = refl;
          own_is = ap by_step (step_own old now new it.plan step own so_far adds);
        };
        puts_are = λ closed. refl;
        used = λ m part. subst (λ n. IsSome (concluded_in old n)) part.2 (offers_known old p fields parts joined.offered joined.offers part.0 part.1);
        continues = ends old now new it.plan step own so_far adds refl same kept;
        sound_own = (
          own_stands old now new it.plan step own so_far adds,
          subst IsRising (sym adds.env) (all_joined_rising (own_node old p) grown.laid.book [] outer joined.offered joined.joins tt),
          nodes_more (length grown.laid.book) (length new.laid.book) (λ n. below_longer grown.laid.book new.laid.book n (later.more, later.book)) own low,
        );
      }
