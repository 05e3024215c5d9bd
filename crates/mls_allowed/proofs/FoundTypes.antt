-- Types that are found for the nodes and binders of a tree, form by form, over those that are found for its parts. They
-- are changes of given families on the nodes and binders of the tree alone.
--     IsFound, AreFound         of a tree, and of the parts of a record
--     bound_found, inner_found, global_found, number_found, truth_found
--     fun_found, fix_found, project_found, apply_found, choice_found, local_found
--     no_field_found, field_found, make_found, label_there
use Rattle.std.proofs.Common.{◌≡◌, ◌⊎◌, inl, inr, ℕ, suc, ◌+◌, ◌<◌, ◌≤◌, Bool, true, false, cond, List, [], ◌∷◌, ◌++◌, refl, sym, ap, ◌∙◌, subst, arith, slice_get, Some}
use Rattle.std.specs.Prelude.{Option, None, option_map, find, Contains, bytes_eq, IsSome}
use Rattle.std.specs.FinMap as env
use Rattle.std.proofs.lemmas.List.Elements.{Contains-append_left, Contains-append_right}
use Rattle.std.proofs.lemmas.Slice.Eq.{bytes_eq-Decides}
use Rattle.mls_book.specs.declared.book.Field.{Field}
use Rattle.mls_book.specs.declared.book.NodeId.{NodeId}
use Rattle.mls_book.specs.declared.book.Node.{Node}
use Rattle.mls_book.specs.Books.{field_at}
use Rattle.mls_book.specs.Predicates.{Predicate, Implies, top, bool, int, arrow, rcd}
use Rattle.mls_book.specs.Passes.{passes, passes_by, field_values}
use Rattle.mls_book.specs.Schemes.{Scheme, IsScheme}
use Rattle.mls_book.proofs.Constructors.{arrow-implies, rcd-implies}
use Rattle.mls_book.proofs.Depths.{Implies-trans, Implies-same, Implies-same_back}
use Rattle.mls_term.specs.declared.term.Part.{Part}
use Rattle.mls_term.specs.declared.term.TermNode.{TermNode}
use Rattle.mls_term.specs.Terms.{TermTree, TermFields, bound, inner, global, number, truth, fun, apply, make, project, choice, local, fix, no_field, a_field, before, field_nodes, field_roots}
use Rattle.mls_term.specs.Derivations.{Known, HaveLabels, labels_of}
use Rattle.mls_term.specs.WellFormed.{binders_of, field_binders_of}
use Rattle.mls_typing.specs.Typed.{Types, IsType, with_binder, IsTyped, Allows, OfBound, one_field}
use Rattle.mls_typing.proofs.Instances.{instance_is_type}
use Rattle.mls_typing.proofs.Lists.{Contains-here, Contains-later, Contains-cases, nothing_in}
use Rattle.mls_typing.proofs.TypedForms.{with_binder-same, generated, rule_allows, typed_number, typed_truth, typed_bound}
use Rattle.mls_parts.specs.NodeTypes.{part_types, AreTyped, AreAllTyped, HasInstance, NeedsOnly, IsKnownHere}
use Rattle.mls_parts.specs.NumberedNodes.{behind, IsPlaced}
use Rattle.mls_allowed.proofs.EachTyped.{IsChoice, conditional_tree}
use Rattle.mls_allowed.proofs.DistinctLists.{AreDistinct, distinct_left, distinct_both, distinct_first}
use Rattle.mls_parts.proofs.HeldTypes.{bool_type, int_type, arrow_type}
use Rattle.mls_parts.proofs.NumberedNodes.{before-fun, before-fix, before-project, before-apply, before-local, before-choice, before-make, nodes-a_field}
use Rattle.mls_allowed.proofs.KeptTypes.{with_other, with_is_type, AgreeOn, instance_on, allows_on, AreKept, kept_all, kept_less, kept_then, kept_binder}
use Rattle.mls_allowed.proofs.PlacedParts.{AreApart, apart_left}

-- the binders around and in a tree
abbrev pub Near : List ℕ → List ℕ → ℕ → Type 0
Near scope bs x = Contains scope x ⊎ Contains bs x

module _ (scope : List ℕ) where
  in_left : (bs cs : List ℕ) (x : ℕ) → Near scope bs x → Near scope (bs ++ cs) x
  in_left bs cs x (inl around) = inl around
  in_left bs cs x (inr inside) = inr (Contains-append_left bs cs x inside)

  in_right : (bs cs : List ℕ) (x : ℕ) → Near scope cs x → Near scope (bs ++ cs) x
  in_right bs cs x (inl around) = inl around
  in_right bs cs x (inr inside) = inr (Contains-append_right bs cs x inside)

  not_right : (bs cs : List ℕ) → AreDistinct (bs ++ cs) → AreApart scope (bs ++ cs) → (x : ℕ) → Near scope bs x → Contains cs x → ⊥
  not_right bs cs once apart x (inl around) inside = apart x around (Contains-append_right bs cs x inside)
  not_right bs cs once apart x (inr before) inside = distinct_both bs cs once x before inside

  under : (x : ℕ) (bs : List ℕ) (y : ℕ) → Near (x ∷ scope) bs y → Near scope (x ∷ bs) y
  under x bs y (inr inside) = inr (Contains-later x bs y inside)
  under x bs y (inl around) = elim (Contains-cases x scope y around) [
    | inl same ↦ (let P : ℕ → Type 0 = λ z. Contains (x ∷ bs) z in inr (subst P same (Contains-here x bs)))
    | inr there ↦ inl there
  ]

-- the fields of a record type with the labels of these parts
pub label_there : (b : List Node) (parts : TermFields) (fields : List Field) → HaveLabels parts fields → (label : List ℕ) (g : Predicate) → field_values (passes b) fields label ≡ Some g → Contains (labels_of parts) label
label_there b parts fields labels label g e = (labels label).0 (some_of (field_at label fields) e)
  where
    some_of : (o : Option NodeId) → option_map (λ (id : NodeId). passes b id.0) o ≡ Some g → IsSome o
    some_of None e = absurd (cc)
    some_of (Some id) e = refl

module _ (nodes : List TermNode) (known : Known) where
  -- Types that are found for a tree: whatever agrees with them on the nodes of the tree, and on the binders around and in it, types the tree.
  pub record IsFound (scope : List ℕ) (n : ℕ) (t : TermTree) (f : Predicate) (old : ℕ → Predicate) (olds : Types) : Type 0 where
    pub type : ℕ → Predicate
    pub binder : Types
    pub kept : AreKept n (binders_of t) old olds type binder
    pub root : Implies (type (n + before t)) f
    pub typed : (T : ℕ → Predicate) (B : Types) → ((m : ℕ) → m ≤ n + before t → T m ≡ type m) → ((x : ℕ) → Near scope (binders_of t) x → B x ≡ binder x)
        → AreTyped nodes known T B (n + before t) t

  -- a root of this type over what was found for the parts
  rooted_at : (scope : List ℕ) (n : ℕ) (t : TermTree) (f g : Predicate) (old : ℕ → Predicate) (olds : Types) (type : ℕ → Predicate) (binder : Types)
      → (((m : ℕ) → IsType (old m)) → IsType g) → Implies g f → AreKept n (binders_of t) old olds type binder
      → ((T : ℕ → Predicate) (B : Types) → T (n + before t) ≡ g → ((m : ℕ) → m < n + before t → T m ≡ type m) → ((x : ℕ) → Near scope (binders_of t) x → B x ≡ binder x)
      → AreTyped nodes known T B (n + before t) t)
      → (it : IsFound scope n t f old olds) × (it.type (n + before t) ≡ g)
  rooted_at scope n t f g old olds type binder is below kept typed =
      let i : ℕ = n + before t in (
        record {
          type = with_binder type i g;
          binder = binder;
          kept = record {
            nodes = λ m low. with_other type i g m (λ same. let low' : m < n = low in let at : m ≡ i = same in omega arith) ∙ kept.nodes m low;
            binders = kept.binders;
            nodes_are = λ are m. with_is_type type i g m (is are) (kept.nodes_are are m);
            binders_are = kept.binders_are;
          };
          root = Implies-trans (with_binder type i g i) g f (Implies-same (with_binder type i g i) g (with_binder-same type i g)) below;
          typed = λ T B same_T same_B.
              typed T B (same_T i (omega arith) ∙ with_binder-same type i g)
              (λ m low. let low' : m < i = low in same_T m (omega arith) ∙ with_other type i g m (λ same. let at : m ≡ i = same in omega arith))
              same_B;
        },
        with_binder-same type i g,
      )

  rooted : (scope : List ℕ) (n : ℕ) (t : TermTree) (f g : Predicate) (old : ℕ → Predicate) (olds : Types) (type : ℕ → Predicate) (binder : Types)
      → (((m : ℕ) → IsType (old m)) → IsType g) → Implies g f → AreKept n (binders_of t) old olds type binder
      → ((T : ℕ → Predicate) (B : Types) → T (n + before t) ≡ g → ((m : ℕ) → m < n + before t → T m ≡ type m) → ((x : ℕ) → Near scope (binders_of t) x → B x ≡ binder x)
      → AreTyped nodes known T B (n + before t) t)
      → IsFound scope n t f old olds
  rooted scope n t f g old olds type binder is below kept typed = (rooted_at scope n t f g old olds type binder is below kept typed).0

  -- a node without parts
  leaf : (scope : List ℕ) (n : ℕ) (t : TermTree) (f g : Predicate) (old : ℕ → Predicate) (olds : Types) → IsType g → Implies g f
      → ((T : ℕ → Predicate) (B : Types) → T (n + before t) ≡ g → AgreeOn scope B olds → AreTyped nodes known T B (n + before t) t)
      → IsFound scope n t f old olds
  leaf scope n t f g old olds is below typed =
      rooted scope n t f g old olds old olds (λ are. is) below (kept_all n (binders_of t) old olds)
      (λ T B same same_T same_B. typed T B same (λ x inside. same_B x (inl inside)))

  module _ (scope : List ℕ) (here : Known) (known_here : IsKnownHere known scope here) (n : ℕ) (types olds : Types) (agree : AgreeOn scope olds types) (f : Predicate) (old : ℕ → Predicate) where
    pub bound_found : (at x : ℕ) → IsPlaced nodes scope n (bound at x) → IsTyped here types (bound at x) f → IsFound scope n (bound at x) f old olds
    bound_found at x placed h =
        let it : OfBound x types f = (typed_bound here types f at x).0 h in
        leaf scope n (bound at x) f it.between old olds it.is it.below
        (λ T B same same_B. (
          placed.numbers,
          Implies-trans (B x) (types x) (T (n + before (bound at x)))
              (Implies-same (B x) (types x) (same_B x placed.scoped ∙ agree x placed.scoped))
              (Implies-trans (types x) it.between (T (n + before (bound at x))) it.above (Implies-same_back (T (n + before (bound at x))) it.between same)),
        ))

    -- a name whose scheme needs the binders around alone
    name_typed : (s : Scheme) → NeedsOnly scope s → (a : Allows s types f) → (g : Predicate) (B : Types) → g ≡ passes_by a.reading s.book s.root → AgreeOn scope B olds → HasInstance s B g
    name_typed s needs a g B same same_B = instance_on scope s types B f g needs (λ x inside. same_B x inside ∙ agree x inside) a (sym same)

    pub inner_found : (at k : ℕ) → IsPlaced nodes scope n (inner at k) → IsTyped here types (inner at k) f → IsFound scope n (inner at k) f old olds
    inner_found at k placed h =
        let s : Scheme = (generated here types (inner at k) f h).first in
        let known_is : env.get here.lets k ≡ Some s = (generated here types (inner at k) f h).rule in
        let a : Allows s types f = rule_allows here types (inner at k) f h in
        let is : IsScheme s = known_here.schemes.lets k s known_is in
        leaf scope n (inner at k) f (passes_by a.reading s.book s.root) old olds (instance_is_type s is types f a s.root is.root) a.root
        (λ T B same same_B. (
          placed.numbers,
          (s, known_here.lets k s known_is, name_typed s (known_here.lets_need k s known_is) a (T (n + before (inner at k))) B same same_B),
        ))

    pub global_found : (at g : ℕ) → IsPlaced nodes scope n (global at g) → IsTyped here types (global at g) f → IsFound scope n (global at g) f old olds
    global_found at g placed h =
        let s : Scheme = (generated here types (global at g) f h).first in
        let known_is : slice_get here.globals g ≡ Some s = (generated here types (global at g) f h).rule in
        let a : Allows s types f = rule_allows here types (global at g) f h in
        let is : IsScheme s = known_here.schemes.globals g s known_is in
        leaf scope n (global at g) f (passes_by a.reading s.book s.root) old olds (instance_is_type s is types f a s.root is.root) a.root
        (λ T B same same_B. (
          placed.numbers,
          (s, ap (λ ss. slice_get ss g) (sym known_here.globals) ∙ known_is, name_typed s (known_here.globals_need g s known_is) a (T (n + before (global at g))) B same same_B),
        ))

    pub number_found : (at value : ℕ) → IsPlaced nodes scope n (number at value) → IsTyped here types (number at value) f → IsFound scope n (number at value) f old olds
    number_found at value placed h =
        leaf scope n (number at value) f int old olds int_type ((typed_number here types f at value).0 h)
        (λ T B same same_B. (placed.numbers, Implies-same_back (T (n + before (number at value))) int same))

    pub truth_found : (at : ℕ) (value : Bool) → IsPlaced nodes scope n (truth at value) → IsTyped here types (truth at value) f → IsFound scope n (truth at value) f old olds
    truth_found at value placed h =
        leaf scope n (truth at value) f bool old olds bool_type ((typed_truth here types f at value).0 h)
        (λ T B same same_B. (placed.numbers, Implies-same_back (T (n + before (truth at value))) bool same))

  -- what is found over the parts, form by form
  module _ (scope : List ℕ) (n at : ℕ) (f : Predicate) (old : ℕ → Predicate) (olds : Types) where
    pub fun_found : (x : ℕ) (e : TermTree) (g h : Predicate) → IsType g → IsType h → Implies (arrow g h) f → IsPlaced nodes scope n (fun at x e)
        → IsFound (x ∷ scope) n e h old (with_binder olds x g) → IsFound scope n (fun at x e) f old olds
    fun_found x e g h is_g is_h below placed it =
        let i : ℕ = n + before (fun at x e) in
        let j : ℕ = n + before e in
        let size : before (fun at x e) ≡ suc (before e) = before-fun at x e in
        rooted scope n (fun at x e) f (arrow g h) old olds it.type it.binder (λ are. arrow_type g h is_g is_h) below
        (kept_binder n x (binders_of e) g is_g old olds it.type it.binder it.kept)
        (λ T B same same_T same_B.
        let at_binder : B x ≡ g = same_B x (inr (Contains-here x (binders_of e))) ∙ (it.kept.binders x (distinct_first x (binders_of e) placed.once) ∙ with_binder-same olds x g) in
        let at_body : T j ≡ it.type j = same_T j (omega arith) in (
          j,
          (
            placed.numbers.0,
            Implies-trans (arrow (B x) (T j)) (arrow g h) (T i)
                (arrow-implies (B x) (T j) g h (Implies-same_back (B x) g at_binder) (Implies-trans (T j) (it.type j) h (Implies-same (T j) (it.type j) at_body) it.root))
                (Implies-same_back (T i) (arrow g h) same),
          ),
          it.typed T B (λ m le. let le' : m ≤ j = le in same_T m (omega arith)) (λ y which. same_B y (under scope x (binders_of e) y which)),
        ))

    pub fix_found : (x : ℕ) (e : TermTree) (g : Predicate) → IsType g → Implies g f → IsPlaced nodes scope n (fix at x e)
        → IsFound (x ∷ scope) n e g old (with_binder olds x g) → IsFound scope n (fix at x e) f old olds
    fix_found x e g is below placed it =
        let i : ℕ = n + before (fix at x e) in
        let j : ℕ = n + before e in
        let size : before (fix at x e) ≡ suc (before e) = before-fix at x e in
        rooted scope n (fix at x e) f (it.type j) old olds it.type it.binder (λ are. it.kept.nodes_are are j) (Implies-trans (it.type j) g f it.root below)
        (kept_binder n x (binders_of e) g is old olds it.type it.binder it.kept)
        (λ T B same same_T same_B.
        let at_binder : B x ≡ g = same_B x (inr (Contains-here x (binders_of e))) ∙ (it.kept.binders x (distinct_first x (binders_of e) placed.once) ∙ with_binder-same olds x g) in
        let at_body : T j ≡ it.type j = same_T j (omega arith) in (
          j,
          (
            placed.numbers.0,
            (
              same ∙ sym at_body,
              Implies-trans (T j) (it.type j) (B x) (Implies-same (T j) (it.type j) at_body) (Implies-trans (it.type j) g (B x) it.root (Implies-same_back (B x) g at_binder)),
            ),
          ),
          it.typed T B (λ m le. let le' : m ≤ j = le in same_T m (omega arith)) (λ y which. same_B y (under scope x (binders_of e) y which)),
        ))

    pub project_found : (e : TermTree) (label : List ℕ) (g : Predicate) → IsType g → Implies g f → IsPlaced nodes scope n (project at e label)
        → IsFound scope n e (rcd (one_field label g)) old olds → IsFound scope n (project at e label) f old olds
    project_found e label g is below placed it =
        let i : ℕ = n + before (project at e label) in
        let j : ℕ = n + before e in
        let size : before (project at e label) ≡ suc (before e) = before-project at e label in
        rooted scope n (project at e label) f g old olds it.type it.binder (λ are. is) below it.kept
        (λ T B same same_T same_B.
        let at_body : T j ≡ it.type j = same_T j (omega arith) in (
          j,
          (
            placed.numbers.0,
            subst (λ g. Implies (T j) (rcd (one_field label g))) (sym same) (Implies-trans (T j) (it.type j) (rcd (one_field label g)) (Implies-same (T j) (it.type j) at_body) it.root),
          ),
          it.typed T B (λ m le. let le' : m ≤ j = le in same_T m (omega arith)) same_B,
        ))

    pub apply_found : (e e' : TermTree) (g h : Predicate) → IsType h → Implies h f → IsPlaced nodes scope n (apply at e e')
        → (one : IsFound scope n e (arrow g h) old olds) → IsFound scope (behind n e) e' g one.type one.binder → IsFound scope n (apply at e e') f old olds
    apply_found e e' g h is below placed one two =
        let i : ℕ = n + before (apply at e e') in
        let j : ℕ = n + before e in
        let k : ℕ = behind n e + before e' in
        let size : before (apply at e e') ≡ suc (before e) + suc (before e') = before-apply at e e' in
        rooted scope n (apply at e e') f h old olds two.type two.binder (λ are. is) below
        (kept_then n (behind n e) (binders_of e) (binders_of e') old olds one.type one.binder two.type two.binder (omega arith) one.kept two.kept)
        (λ T B same same_T same_B.
        let at_function : (m : ℕ) → m ≤ j → T m ≡ one.type m = λ m le. let le' : m ≤ j = le in same_T m (omega arith) ∙ two.kept.nodes m (omega arith) in
        let at_argument : T k ≡ two.type k = same_T k (omega arith) in (
          j,
          k,
          (
            placed.numbers.0,
            Implies-trans (T j) (one.type j) (arrow (T k) (T i)) (Implies-same (T j) (one.type j) (at_function j (omega arith)))
                (Implies-trans (one.type j) (arrow g h) (arrow (T k) (T i)) one.root
                (arrow-implies g h (T k) (T i) (Implies-trans (T k) (two.type k) g (Implies-same (T k) (two.type k) at_argument) two.root) (Implies-same_back (T i) h same))),
          ),
          one.typed T B at_function
              (λ x which. same_B x (in_left scope (binders_of e) (binders_of e') x which) ∙ two.kept.binders x (not_right scope (binders_of e) (binders_of e') placed.once placed.apart x which)),
          two.typed T B (λ m le. let le' : m ≤ k = le in same_T m (omega arith)) (λ x which. same_B x (in_right scope (binders_of e) (binders_of e') x which)),
        ))

    pub choice_found : (c e e' : TermTree) (g : Predicate) → IsType g → Implies g f → IsPlaced nodes scope n (choice at c e e')
        → (one : IsFound scope n c bool old olds) (two : IsFound scope (behind n c) e g one.type one.binder) (three : IsFound scope (behind (behind n c) e) e' g two.type two.binder)
        → (IsChoice e → two.type (behind n c + before e) ≡ g) → (IsChoice e' → three.type (behind (behind n c) e + before e') ≡ g)
        → (it : IsFound scope n (choice at c e e') f old olds) × (it.type (n + before (choice at c e e')) ≡ g)
    choice_found c e e' g is below placed one two three first_type second_type =
        let i : ℕ = n + before (choice at c e e') in
        let j : ℕ = n + before c in
        let k : ℕ = behind n c + before e in
        let l : ℕ = behind (behind n c) e + before e' in
        let bs : List ℕ = binders_of c ++ binders_of e in
        let size : before (choice at c e e') ≡ suc (before c) + suc (before e) + suc (before e') = before-choice at c e e' in
        let early : AreDistinct bs = distinct_left bs (binders_of e') placed.once in
        rooted_at scope n (choice at c e e') f g old olds three.type three.binder (λ are. is) below
        (kept_then n (behind (behind n c) e) bs (binders_of e') old olds two.type two.binder three.type three.binder (omega arith)
        (kept_then n (behind n c) (binders_of c) (binders_of e) old olds one.type one.binder two.type two.binder (omega arith) one.kept two.kept) three.kept)
        (λ T B same same_T same_B.
        let at_second : T l ≡ three.type l = same_T l (omega arith) in
        let at_first : (m : ℕ) → m ≤ k → T m ≡ two.type m = λ m le. let le' : m ≤ k = le in same_T m (omega arith) ∙ three.kept.nodes m (omega arith) in
        let at_condition : (m : ℕ) → m ≤ j → T m ≡ one.type m = λ m le. let le' : m ≤ j = le in at_first m (omega arith) ∙ two.kept.nodes m (omega arith) in
        let before_second : (x : ℕ) → Near scope bs x → B x ≡ two.binder x = λ x which.
        same_B x (in_left scope bs (binders_of e') x which) ∙ three.kept.binders x (not_right scope bs (binders_of e') placed.once placed.apart x which) in
        let apart : AreApart scope bs = apart_left scope bs (binders_of e') placed.apart in
        let first_typed : AreTyped nodes known T B k e = two.typed T B at_first (λ x which. before_second x (in_right scope (binders_of c) (binders_of e) x which)) in
        let second_typed : AreTyped nodes known T B l e' = three.typed T B (λ m le. let le' : m ≤ l = le in same_T m (omega arith)) (λ x which. same_B x (in_right scope bs (binders_of e') x which)) in (
          j,
          k,
          l,
          (
            placed.numbers.0,
            (
              Implies-trans (T j) (one.type j) bool (Implies-same (T j) (one.type j) (at_condition j (omega arith))) one.root,
              Implies-trans (T k) g (T i) (Implies-trans (T k) (two.type k) g (Implies-same (T k) (two.type k) (at_first k (omega arith))) two.root) (Implies-same_back (T i) g same),
              Implies-trans (T l) g (T i) (Implies-trans (T l) (three.type l) g (Implies-same (T l) (three.type l) at_second) three.root) (Implies-same_back (T i) g same),
              λ conditional. at_first k (omega arith) ∙ (first_type (conditional_tree nodes known T B e k first_typed conditional) ∙ sym same),
              λ conditional. at_second ∙ (second_type (conditional_tree nodes known T B e' l second_typed conditional) ∙ sym same),
            ),
          ),
          one.typed T B at_condition
              (λ x which. before_second x (in_left scope (binders_of c) (binders_of e) x which) ∙ two.kept.binders x (not_right scope (binders_of c) (binders_of e) early apart x which)),
          first_typed,
          second_typed,
        ))

    -- a let, of whose first part nothing is a node here
    pub local_found : (k : ℕ) (e e' : TermTree) (types : Types) (s : Scheme) → AgreeOn scope olds types → env.get known.lets k ≡ Some s → NeedsOnly scope s → Allows s types top → IsPlaced nodes scope n (local at k e e')
        → IsFound scope (behind n e) e' f old olds → IsFound scope n (local at k e e') f old olds
    local_found k e e' types s agree known_is needs a placed it =
        let l : ℕ = behind n e + before e' in
        let size : before (local at k e e') ≡ suc (before e) + suc (before e') = before-local at k e e' in
        rooted scope n (local at k e e') f (it.type l) old olds it.type it.binder (λ are. it.kept.nodes_are are l) it.root
        (kept_less n (behind n e) (binders_of e') (binders_of e ++ binders_of e') old olds it.type it.binder (omega arith) (λ x inside. Contains-append_right (binders_of e) (binders_of e') x inside) it.kept)
        (λ T B same same_T same_B. (
          n + before e,
          l,
          (
            placed.numbers.0,
            (
              same ∙ sym (same_T l (omega arith)),
              s,
              known_is,
              allows_on scope s types B top needs (λ x inside. same_B x (inl inside) ∙ (it.kept.binders x (λ inner. placed.apart x inside (Contains-append_right (binders_of e) (binders_of e') x inner)) ∙ agree x inside)) a,
            ),
          ),
          it.typed T B (λ m le. let le' : m ≤ l = le in same_T m (omega arith)) (λ x which. same_B x (in_right scope (binders_of e) (binders_of e') x which)),
        ))

  -- the parts of a record
  pub record AreFound (scope : List ℕ) (n : ℕ) (parts : TermFields) (fields : List ℕ → Option Predicate) (old : ℕ → Predicate) (olds : Types) : Type 0 where
    pub type : ℕ → Predicate
    pub binder : Types
    pub kept : AreKept n (field_binders_of parts) old olds type binder
    pub fit : (T : ℕ → Predicate) → ((m : ℕ) → m < n + field_nodes parts → T m ≡ type m) → (label : List ℕ) (g : Predicate) → Contains (labels_of parts) label → fields label ≡ Some g
        → (h : Predicate) × (part_types T (field_roots n parts) label ≡ Some h) × Implies h g
    pub typed : (T : ℕ → Predicate) (B : Types) → ((m : ℕ) → m < n + field_nodes parts → T m ≡ type m) → ((x : ℕ) → Near scope (field_binders_of parts) x → B x ≡ binder x)
        → AreAllTyped nodes known T B (field_roots n parts) parts

  pub no_field_found : (scope : List ℕ) (n : ℕ) (fields : List ℕ → Option Predicate) (old : ℕ → Predicate) (olds : Types) → AreFound scope n no_field fields old olds
  unfolding field_roots
  no_field_found scope n fields old olds = record {
    type = old;
    binder = olds;
    kept = kept_all n [] old olds;
    fit = λ T same label g inside e. absurd (nothing_in label inside);
    typed = λ T B same_T same_B. refl;
  }

  pub field_found : (scope : List ℕ) (n : ℕ) (label : List ℕ) (e : TermTree) (rest : TermFields) (fields : List ℕ → Option Predicate) (g : Predicate) (old : ℕ → Predicate) (olds : Types)
      → AreDistinct (binders_of e ++ field_binders_of rest) → AreApart scope (binders_of e ++ field_binders_of rest) → fields label ≡ Some g
      → (one : IsFound scope n e g old olds) → AreFound scope (behind n e) rest fields one.type one.binder → AreFound scope n (a_field label e rest) fields old olds
  unfolding field_roots
  field_found scope n label e rest fields g old olds once apart field_is one others =
      let j : ℕ = n + before e in
      let size : field_nodes (a_field label e rest) ≡ suc (before e) + field_nodes rest = nodes-a_field label e rest in
      record {
        type = others.type;
        binder = others.binder;
        kept = kept_then n (behind n e) (binders_of e) (field_binders_of rest) old olds one.type one.binder others.type others.binder (omega arith) one.kept others.kept;
        fit = λ T same q h inside has.
            let at_root : T j ≡ one.type j = same j (omega arith) ∙ others.kept.nodes j (omega arith) in
            by_label T q h (bytes_eq label q) refl (Contains-cases label (labels_of rest) q inside) has
            (Implies-trans (T j) (one.type j) g (Implies-same (T j) (one.type j) at_root) one.root)
            (λ there. others.fit T (λ m low. let low' : m < behind n e + field_nodes rest = low in same m (omega arith)) q h there has);
        typed = λ T B same same_B. (
          j,
          field_roots (behind n e) rest,
          refl,
          one.typed T B (λ m le. let le' : m ≤ j = le in same m (omega arith) ∙ others.kept.nodes m (omega arith))
              (λ x which. same_B x (in_left scope (binders_of e) (field_binders_of rest) x which) ∙ others.kept.binders x (not_right scope (binders_of e) (field_binders_of rest) once apart x which)),
          others.typed T B (λ m low. let low' : m < behind n e + field_nodes rest = low in same m (omega arith)) (λ x which. same_B x (in_right scope (binders_of e) (field_binders_of rest) x which)),
        );
      }
    where
      by_label : (T : ℕ → Predicate) (q : List ℕ) (h : Predicate) (b : Bool) → bytes_eq label q ≡ b → (label ≡ q) ⊎ Contains (labels_of rest) q → fields q ≡ Some h → Implies (T (n + before e)) g
          → (Contains (labels_of rest) q → (h' : Predicate) × (part_types T (field_roots (behind n e) rest) q ≡ Some h') × Implies h' h)
          → (h' : Predicate) × (option_map (λ (part : Part). T part.child) (cond b (Some (record { label = label; child = n + before e })) (find (λ (part : Part). bytes_eq part.label q) (field_roots (behind n e) rest))) ≡ Some h') × Implies h' h
      by_label T q h true test which has below later =
          let same : fields q ≡ Some g = ap fields (sym ((bytes_eq-Decides label q).0 test)) ∙ field_is in
          let same_field : g ≡ h = cc in
          (T (n + before e), refl, subst (Implies (T (n + before e))) same_field below)
      by_label T q h false test (inl is) has below later = let own : bytes_eq label q ≡ true = (bytes_eq-Decides label q).1 is in absurd (cc)
      by_label T q h false test (inr there) has below later = later there

  pub make_found : (scope : List ℕ) (n at : ℕ) (parts : TermFields) (f : Predicate) (old : ℕ → Predicate) (olds : Types) (fields : List ℕ → Option Predicate)
      → IsType (rcd fields) → ((label : List ℕ) (g : Predicate) → fields label ≡ Some g → Contains (labels_of parts) label) → Implies (rcd fields) f
      → IsPlaced nodes scope n (make at parts) → AreFound scope n parts fields old olds → IsFound scope n (make at parts) f old olds
  make_found scope n at parts f old olds fields is labelled below placed it =
      let i : ℕ = n + before (make at parts) in
      let size : before (make at parts) ≡ field_nodes parts = before-make at parts in
      rooted scope n (make at parts) f (rcd fields) old olds it.type it.binder (λ are. is) below it.kept
      (λ T B same same_T same_B.
      let at_parts : (m : ℕ) → m < n + field_nodes parts → T m ≡ it.type m = λ m low. let low' : m < n + field_nodes parts = low in same_T m (omega arith) in (
        field_roots n parts,
        (
          placed.numbers.0,
          Implies-trans (rcd (part_types T (field_roots n parts))) (rcd fields) (T i)
              (rcd-implies (part_types T (field_roots n parts)) fields (λ label g has. it.fit T at_parts label g (labelled label g has) has))
              (Implies-same_back (T i) (rcd fields) same),
        ),
        it.typed T B at_parts same_B,
      ))
