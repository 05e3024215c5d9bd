-- The tops of layers are found one after another.
--     signing-first, signing-seen, signing-new     the search
--     signed                                       in the end
use Rattle.std.proofs.Common.{◌≡◌, ◌⊎◌, inl, inr, ℕ, zero, suc, ◌+◌, ◌<◌, ◌≤◌, Bool, true, false, List, [], ◌∷◌, ◌++◌, take, refl, sym, ap, ◌∙◌, subst, arith, length, get_or, All, Contains, Some, None, cond}
use Rattle.std.specs.Prelude.{IsTrue, Option, is_some, set}
use Rattle.std.proofs.lemmas.Bool.{cases_eq}
use Rattle.std.proofs.lemmas.List.{length-append, length-set, get_or-set_same, get_or-set_other}
use Rattle.std.proofs.lemmas.List.Elements.{All-append, All-contains, Contains-append_cases, Contains-append_left, Contains-append_right}
use Rattle.mls_book.specs.declared.book.Field.{Field}
use Rattle.mls_book.specs.declared.book.Node.{Node}
use Rattle.mls_book.specs.declared.book.Node.TheVariants as node
use Rattle.mls_book.specs.Books.{node_at, HasChildrenBelow, IsClosedBook}
use Rattle.mls_automaton.specs.declared.automaton.Polarity.{Polarity}
use Rattle.mls_automaton.specs.declared.automaton.Polarity.TheVariants.{Positive}
use Rattle.mls_automaton.specs.Automata.{opposite}
use Rattle.mls_automaton.proofs.Lists.{All-contained, All-one, Contains-cases, Contains-here, Contains-later, Contains-map_back}
use Rattle.mls_automaton.proofs.Searches.{next-is}
use Rattle.mls_scheme.specs.declared.signs.Task.{Task}
use Rattle.mls_scheme.specs.ReadAutomata.{atoms, AreChildren, AreTops, IsPolarised, IsPolarisedNode}
use Rattle.mls_scheme.specs.steps.Layers.{AreAtoms, AreDifferent}
use Rattle.mls_scheme.specs.steps.Signs.{child_tasks, field_tasks, layer_tasks, left_over, load, sign_at, size_of, task, with_sign, AddsLayer, AreSigned, IsSigning}
use Rattle.mls_scheme.proofs.Atoms.{atoms-are}
use Rattle.mls_scheme.proofs.Layers.{found-low}

tasks-assoc : (xs ys zs : List Task) → (xs ++ ys) ++ zs ≡ xs ++ (ys ++ zs)
tasks-assoc [] ys zs = refl
tasks-assoc (x ∷ rest) ys zs = ap (λ ws. x ∷ ws) (tasks-assoc rest ys zs)

tasks-none : (xs : List Task) → xs ++ [] ≡ xs
tasks-none [] = refl
tasks-none (x ∷ rest) = ap (λ ws. x ∷ ws) (tasks-none rest)

layer-append : (nodes : List Node) (p : Polarity) (xs ys : List ℕ) → layer_tasks nodes p (xs ++ ys) ≡ layer_tasks nodes p xs ++ layer_tasks nodes p ys
layer-append nodes p [] ys = refl
layer-append nodes p (j ∷ rest) ys =
    ap (λ ts. child_tasks p (node_at nodes j) ++ ts) (layer-append nodes p rest ys)
    ∙ sym (tasks-assoc (child_tasks p (node_at nodes j)) (layer_tasks nodes p rest) (layer_tasks nodes p ys))

pub layer-next : (nodes : List Node) (p : Polarity) (atoms : List ℕ) (i d : ℕ) (first old new : List Task) (x : Node) → i < length atoms → old ≡ first ++ layer_tasks nodes p (take i atoms) → x ≡ node_at nodes (get_or atoms i d) → new ≡ old ++ child_tasks p x → new ≡ first ++ layer_tasks nodes p (take (i + 1) atoms)
layer-next nodes p atoms i d first old new x low before is adds =
    adds
    ∙ (ap (λ ts. ts ++ child_tasks p x) before
    ∙ (tasks-assoc first (layer_tasks nodes p (take i atoms)) (child_tasks p x)
    ∙ ap (λ ts. first ++ ts)
    (ap (λ y. layer_tasks nodes p (take i atoms) ++ child_tasks p y) is
    ∙ (ap (λ ts. layer_tasks nodes p (take i atoms) ++ ts) (sym (tasks-none (child_tasks p (node_at nodes (get_or atoms i d)))))
    ∙ (sym (layer-append nodes p (take i atoms) (get_or atoms i d ∷ [])) ∙ ap (layer_tasks nodes p) (sym (next-is atoms i d low)))))))

-- which atom a task is of
layer-of : (nodes : List Node) (p : Polarity) (xs : List ℕ) (t : Task) → Contains (layer_tasks nodes p xs) t → (j : ℕ) × Contains xs j × Contains (child_tasks p (node_at nodes j)) t
layer-of nodes p [] t it = let none : it.0 < 0 = it.1 in absurd (omega arith)
layer-of nodes p (j ∷ rest) t it = elim (Contains-append_cases (child_tasks p (node_at nodes j)) (layer_tasks nodes p rest) t it) [
  | inl here ↦ (j, Contains-here j rest, here)
  | inr there ↦ let found = layer-of nodes p rest t there in (found.0, Contains-later j rest found.0 found.1, found.2)
]

pub layer-in : (nodes : List Node) (p : Polarity) (xs : List ℕ) (j : ℕ) (t : Task) → Contains xs j → Contains (child_tasks p (node_at nodes j)) t → Contains (layer_tasks nodes p xs) t
layer-in nodes p [] j t it child = let none : it.0 < 0 = it.1 in absurd (omega arith)
layer-in nodes p (k ∷ rest) j t it child = elim (Contains-cases k rest j it) [
  | inl same ↦ Contains-append_left (child_tasks p (node_at nodes k)) (layer_tasks nodes p rest) t (subst (λ l. Contains (child_tasks p (node_at nodes l)) t) (sym same) child)
  | inr later ↦ Contains-append_right (child_tasks p (node_at nodes k)) (layer_tasks nodes p rest) t (layer-in nodes p rest j t later child)
]

-- of more atoms
layer-within : (nodes : List Node) (p : Polarity) (xs ys : List ℕ) → ((j : ℕ) → Contains xs j → Contains ys j) → (t : Task) → Contains (layer_tasks nodes p xs) t → Contains (layer_tasks nodes p ys) t
layer-within nodes p xs ys within t it =
    let found = layer-of nodes p xs t it in
    layer-in nodes p ys found.0 t (within found.0 found.1) found.2

-- where a number stands
split : (xs : List ℕ) (x : ℕ) → Contains xs x → (front : List ℕ) × (back : List ℕ) × (xs ≡ front ++ x ∷ back)
split [] x it = let none : it.0 < 0 = it.1 in absurd (omega arith)
split (y ∷ rest) x it = elim (Contains-cases y rest x it) [
  | inl same ↦ ([], rest, (λ i. same i ∷ rest))
  | inr later ↦ let found = split rest x later in (y ∷ found.0, found.1, ap (λ zs. y ∷ zs) found.2)
]

-- different atoms among others have no more children
different-few : (nodes : List Node) (p : Polarity) (xs ys : List ℕ) → AreDifferent xs → ((j : ℕ) → Contains xs j → Contains ys j) → length (layer_tasks nodes p xs) ≤ length (layer_tasks nodes p ys)
different-few nodes p [] ys different within = omega arith
different-few nodes p (x ∷ rest) ys different within = go (split ys x (within x (Contains-here x rest))) (λ zs. different-few nodes p rest zs different.1)
  where
    go : ((front : List ℕ) × (back : List ℕ) × (ys ≡ front ++ x ∷ back)) → ((zs : List ℕ) → ((j : ℕ) → Contains rest j → Contains zs j) → length (layer_tasks nodes p rest) ≤ length (layer_tasks nodes p zs))
        → length (layer_tasks nodes p (x ∷ rest)) ≤ length (layer_tasks nodes p ys)
    go (front, back, is) few =
        let others : length (layer_tasks nodes p rest) ≤ length (layer_tasks nodes p (front ++ back)) = few (front ++ back) other in
        let whole : length (layer_tasks nodes p ys) ≡ length (layer_tasks nodes p front ++ layer_tasks nodes p (x ∷ back)) = ap length (ap (layer_tasks nodes p) is ∙ layer-append nodes p front (x ∷ back)) in
        let a : length (layer_tasks nodes p front ++ layer_tasks nodes p (x ∷ back)) ≡ length (layer_tasks nodes p front) + length (layer_tasks nodes p (x ∷ back)) = length-append (layer_tasks nodes p front) (layer_tasks nodes p (x ∷ back)) in
        let b : length (layer_tasks nodes p (x ∷ back)) ≡ length (child_tasks p (node_at nodes x)) + length (layer_tasks nodes p back) = length-append (child_tasks p (node_at nodes x)) (layer_tasks nodes p back) in
        let c : length (layer_tasks nodes p (front ++ back)) ≡ length (layer_tasks nodes p front) + length (layer_tasks nodes p back) = ap length (layer-append nodes p front back) ∙ length-append (layer_tasks nodes p front) (layer_tasks nodes p back) in
        let e : length (layer_tasks nodes p (x ∷ rest)) ≡ length (child_tasks p (node_at nodes x)) + length (layer_tasks nodes p rest) = length-append (child_tasks p (node_at nodes x)) (layer_tasks nodes p rest) in
        omega arith
      where
        other : (j : ℕ) → Contains rest j → Contains (front ++ back) j
        other j it = elim (Contains-append_cases front (x ∷ back) j (subst (λ zs. Contains zs j) is (within j (Contains-later x rest j it)))) [
          | inl before ↦ Contains-append_left front back j before
          | inr there ↦ elim (Contains-cases x back j there) [
            | inl same ↦ absurd (different.0 (subst (Contains rest) (sym same) it))
            | inr behind ↦ Contains-append_right front back j behind
          ]
        ]

-- their number
children-length : (p : Polarity) (x : Node) → length (child_tasks p x) ≡ length (child_tasks Positive x)
children-length p (node.Rcd fields) = go fields
  where
    go : (fields : List Field) → length (field_tasks p fields) ≡ length (field_tasks Positive fields)
    go [] = refl
    go (first ∷ rest) = ap suc (go rest)
children-length p (node.Arrow j k) = refl
children-length p node.Bot = refl
children-length p node.Top = refl
children-length p (node.Var v) = refl
children-length p node.Bool = refl
children-length p node.Int = refl
children-length p (node.Join j k) = refl
children-length p (node.Meet j k) = refl

layer-length : (nodes : List Node) (p : Polarity) (xs : List ℕ) → length (layer_tasks nodes p xs) ≡ length (layer_tasks nodes Positive xs)
layer-length nodes p [] = refl
layer-length nodes p (j ∷ rest) =
    length-append (child_tasks p (node_at nodes j)) (layer_tasks nodes p rest)
    ∙ ((λ i. children-length p (node_at nodes j) i + layer-length nodes p rest i)
    ∙ sym (length-append (child_tasks Positive (node_at nodes j)) (layer_tasks nodes Positive rest)))

none-false : (o : Option Polarity) → is_some o ≡ false → o ≡ None
none-false None e = refl
none-false (Some p) e = absurd (cc)

some-true : (o : Option Polarity) (p : Polarity) → o ≡ Some p → is_some o ≡ true
some-true o p e = ap is_some e

-- a sign more
load-set : (nodes : List Node) (k : ℕ) (signs : List (Option Polarity)) (i : ℕ) (p : Polarity) → i < length signs → is_some (sign_at signs i) ≡ false → load nodes k signs ≡ size_of nodes (k + i) + load nodes k (set signs i (Some p))
load-set nodes k [] i p low none = absurd (omega arith)
load-set nodes k (o ∷ rest) zero p low none =
    let here : cond (is_some o) 0 (size_of nodes k) ≡ size_of nodes k = ap (λ b. cond b 0 (size_of nodes k)) none in
    let at : size_of nodes (k + 0) ≡ size_of nodes k = ap (size_of nodes) (let e : k + 0 ≡ k = omega arith in e) in
    omega arith
load-set nodes k (o ∷ rest) (suc i) p low none =
    let later = load-set nodes (1 + k) rest i p (omega arith) none in
    let at : size_of nodes (1 + k + i) ≡ size_of nodes (k + suc i) = ap (size_of nodes) (let e : 1 + k + i ≡ k + suc i = omega arith in e) in
    let here : ℕ = cond (is_some o) 0 (size_of nodes k) in
    omega arith

module _ (nodes : List Node) (closed : IsClosedBook nodes) (root : ℕ) where
  children-low : (p : Polarity) (x : Node) (t : Task) → HasChildrenBelow (length nodes) x → Contains (child_tasks p x) t → t.node < length nodes
  children-low p (node.Arrow j k) t below it = elim (Contains-cases (task j.0 (opposite p)) (task k.0 p ∷ []) t it) [
    | inl same ↦ subst (λ (u : Task). u.node < length nodes) same below.0
    | inr later ↦ elim (Contains-cases (task k.0 p) [] t later) [
      | inl same ↦ subst (λ (u : Task). u.node < length nodes) same below.1
      | inr none ↦ let low : none.0 < 0 = none.1 in absurd (omega arith)
    ]
  ]
  children-low p (node.Rcd fields) t below it =
      let found = Contains-map_back (λ (field : Field). task field.node.0 p) fields t it in
      subst (λ (u : Task). u.node < length nodes) found.2 (All-contains (λ (field : Field). field.node.0 < length nodes) fields found.0 below found.1)
  children-low p node.Bot t below it = let low : it.0 < 0 = it.1 in absurd (omega arith)
  children-low p node.Top t below it = let low : it.0 < 0 = it.1 in absurd (omega arith)
  children-low p (node.Var v) t below it = let low : it.0 < 0 = it.1 in absurd (omega arith)
  children-low p node.Bool t below it = let low : it.0 < 0 = it.1 in absurd (omega arith)
  children-low p node.Int t below it = let low : it.0 < 0 = it.1 in absurd (omega arith)
  children-low p (node.Join j k) t below it = let low : it.0 < 0 = it.1 in absurd (omega arith)
  children-low p (node.Meet j k) t below it = let low : it.0 < 0 = it.1 in absurd (omega arith)

  layer-low : (p : Polarity) (xs : List ℕ) → All (λ j. j < length nodes) xs → All (λ (t : Task). t.node < length nodes) (layer_tasks nodes p xs)
  layer-low p xs low =
      All-contained (λ (t : Task). t.node < length nodes) (layer_tasks nodes p xs)
      (λ t it.
      let found = layer-of nodes p xs t it in
      children-low p (node_at nodes found.0) t
      (closed.closed found.0 node.Bot (All-contains (λ j. j < length nodes) xs found.0 low found.1)) found.2)

  children-true : (sign : ℕ → Polarity) (p : Polarity) (j : ℕ) (x : Node) (t : Task) → IsPolarisedNode sign j x → sign j ≡ p → Contains (child_tasks p x) t → sign t.node ≡ t.sign
  children-true sign p j (node.Arrow k l) t is e it = elim (Contains-cases (task k.0 (opposite p)) (task l.0 p ∷ []) t it) [
    | inl same ↦ subst (λ (u : Task). sign u.node ≡ u.sign) same (is.0 ∙ ap opposite e)
    | inr later ↦ elim (Contains-cases (task l.0 p) [] t later) [
      | inl same ↦ subst (λ (u : Task). sign u.node ≡ u.sign) same (is.1 ∙ e)
      | inr none ↦ let low : none.0 < 0 = none.1 in absurd (omega arith)
    ]
  ]
  children-true sign p j (node.Rcd fields) t is e it =
      let found = Contains-map_back (λ (field : Field). task field.node.0 p) fields t it in
      subst (λ (u : Task). sign u.node ≡ u.sign) found.2 (All-contains (λ (field : Field). sign field.node.0 ≡ sign j) fields found.0 is found.1 ∙ e)
  children-true sign p j node.Bot t is e it = let low : it.0 < 0 = it.1 in absurd (omega arith)
  children-true sign p j node.Top t is e it = let low : it.0 < 0 = it.1 in absurd (omega arith)
  children-true sign p j (node.Var v) t is e it = let low : it.0 < 0 = it.1 in absurd (omega arith)
  children-true sign p j node.Bool t is e it = let low : it.0 < 0 = it.1 in absurd (omega arith)
  children-true sign p j node.Int t is e it = let low : it.0 < 0 = it.1 in absurd (omega arith)
  children-true sign p j (node.Join k l) t is e it = let low : it.0 < 0 = it.1 in absurd (omega arith)
  children-true sign p j (node.Meet k l) t is e it = let low : it.0 < 0 = it.1 in absurd (omega arith)

  pub layer-true : (sign : ℕ → Polarity) (p : Polarity) (i : ℕ) (t : Task) → IsPolarised sign nodes → i < length nodes → sign i ≡ p → Contains (layer_tasks nodes p (atoms nodes i)) t → sign t.node ≡ t.sign
  layer-true sign p i t polarised low e it =
      let found = layer-of nodes p (atoms nodes i) t it in
      let of = atoms-are sign nodes closed polarised (suc i) i low found.0 found.1 in
      children-true sign p found.0 (node_at nodes found.0) t (polarised found.0 of.in_range) (of.polarity ∙ e) found.2

  -- the children of an atom of a top are tops
  children-tops : (Q : ℕ → Type 0) (p : Polarity) (x : Node) (t : Task) → AreChildren Q x → Contains (child_tasks p x) t → Q t.node
  children-tops Q p (node.Arrow k l) t are it = elim (Contains-cases (task k.0 (opposite p)) (task l.0 p ∷ []) t it) [
    | inl same ↦ subst (λ (u : Task). Q u.node) same are.0
    | inr later ↦ elim (Contains-cases (task l.0 p) [] t later) [
      | inl same ↦ subst (λ (u : Task). Q u.node) same are.1
      | inr none ↦ let low : none.0 < 0 = none.1 in absurd (omega arith)
    ]
  ]
  children-tops Q p (node.Rcd fields) t are it =
      let found = Contains-map_back (λ (field : Field). task field.node.0 p) fields t it in
      subst (λ (u : Task). Q u.node) found.2 (All-contains (λ (field : Field). Q field.node.0) fields found.0 are found.1)
  children-tops Q p node.Bot t are it = let low : it.0 < 0 = it.1 in absurd (omega arith)
  children-tops Q p node.Top t are it = let low : it.0 < 0 = it.1 in absurd (omega arith)
  children-tops Q p (node.Var v) t are it = let low : it.0 < 0 = it.1 in absurd (omega arith)
  children-tops Q p node.Bool t are it = let low : it.0 < 0 = it.1 in absurd (omega arith)
  children-tops Q p node.Int t are it = let low : it.0 < 0 = it.1 in absurd (omega arith)
  children-tops Q p (node.Join k l) t are it = let low : it.0 < 0 = it.1 in absurd (omega arith)
  children-tops Q p (node.Meet k l) t are it = let low : it.0 < 0 = it.1 in absurd (omega arith)

  layer-tops : (is_top : ℕ → Bool) (p : Polarity) (i : ℕ) (t : Task) → AreTops nodes root is_top → IsTrue (is_top i) → Contains (layer_tasks nodes p (atoms nodes i)) t → IsTrue (is_top t.node)
  layer-tops is_top p i t tops top it =
      let found = layer-of nodes p (atoms nodes i) t it in
      children-tops (λ k. IsTrue (is_top k)) p (node_at nodes found.0) t (tops.next i found.0 top found.1) found.2

  pub signing-first : (signs : List (Option Polarity)) (work : List Task) → root < length nodes → length signs ≡ length nodes → ((i : ℕ) → sign_at signs i ≡ None) → work ≡ task root Positive ∷ [] → IsSigning nodes root signs work
  signing-first signs work low size none is =
      rw is
      record {
        size = size;
        low = All-one (λ (t : Task). t.node < length nodes) (task root Positive) low;
        has_root = inr (Contains-here (task root Positive) []);
        next = λ i p e t it. let never : None ≡ Some p = sym (none i) ∙ e in absurd (cc);
        signs_true = λ sign polarised e i p at. let never : None ≡ Some p = sym (none i) ∙ at in absurd (cc);
        work_true = λ sign polarised e i p it. elim (Contains-cases (task root Positive) [] (task i p) it) [
          | inl same ↦ subst (λ (u : Task). sign u.node ≡ u.sign) same e
          | inr later ↦ let low : later.0 < 0 = later.1 in absurd (omega arith)
        ];
        least = λ is_top tops i p at. let never : None ≡ Some p = sym (none i) ∙ at in absurd (cc);
        work_least = λ is_top tops i p it. elim (Contains-cases (task root Positive) [] (task i p) it) [
          | inl same ↦ subst (λ (u : Task). IsTrue (is_top u.node)) same tops.has_root
          | inr later ↦ let low : later.0 < 0 = later.1 in absurd (omega arith)
        ];
      }

  module _ (signs : List (Option Polarity)) (work rest : List Task) (t : Task) (is : IsSigning nodes root signs work) (popped : work ≡ rest ++ t ∷ []) where
    in-work : (u : Task) → Contains rest u → Contains work u
    in-work u it = subst (λ (ts : List Task). Contains ts u) (sym popped) (Contains-append_left rest (t ∷ []) u it)

    last-in : Contains work t
    last-in = subst (λ (ts : List Task). Contains ts t) (sym popped) (Contains-append_right rest (t ∷ []) t (Contains-here t []))

    work-cases : (u : Task) → Contains work u → Contains rest u ⊎ (t ≡ u)
    work-cases u it = elim (Contains-append_cases rest (t ∷ []) u (subst (λ (ts : List Task). Contains ts u) popped it)) [
      | inl before ↦ inl before
      | inr last ↦ elim (Contains-cases t [] u last) [
        | inl same ↦ inr same
        | inr none ↦ let low : none.0 < 0 = none.1 in absurd (omega arith)
      ]
    ]

    pub task-low : t.node < length nodes
    task-low = All-contains (λ (u : Task). u.node < length nodes) work t is.low last-in

    rest-low : All (λ (u : Task). u.node < length nodes) rest
    rest-low = All-contained (λ (u : Task). u.node < length nodes) rest (λ u it. All-contains (λ (u : Task). u.node < length nodes) work u is.low (in-work u it))

    signing-seen : is_some (sign_at signs t.node) ≡ true → IsSigning nodes root signs rest
    signing-seen seen = record {
      size = is.size;
      low = rest-low;
      has_root = elim is.has_root [
        | inl it ↦ inl it
        | inr it ↦ elim (work-cases (task root Positive) it) [
          | inl before ↦ inr before
          | inr same ↦ inl (subst (λ (u : Task). is_some (sign_at signs u.node) ≡ true) same seen)
        ]
      ];
      next = λ i p e u it. elim (is.next i p e u it) [
        | inl known ↦ inl known
        | inr there ↦ elim (work-cases u there) [
          | inl before ↦ inr before
          | inr same ↦ inl (subst (λ (u : Task). is_some (sign_at signs u.node) ≡ true) same seen)
        ]
      ];
      signs_true = is.signs_true;
      work_true = λ sign polarised e i p it. is.work_true sign polarised e i p (in-work (task i p) it);
      least = is.least;
      work_least = λ is_top tops i p it. is.work_least is_top tops i p (in-work (task i p) it);
    }

    abbrev new : List (Option Polarity)
    new = with_sign signs t

    low-signs : t.node < length signs
    low-signs = let a : length signs ≡ length nodes = is.size in let b : t.node < length nodes = task-low in omega arith

    new-same : sign_at new t.node ≡ Some t.sign
    new-same = get_or-set_same signs t.node (Some t.sign) None low-signs

    still : (i : ℕ) → is_some (sign_at signs i) ≡ true → is_some (sign_at new i) ≡ true
    still i e = elim (cases_eq i t.node) [
      | inl same ↦ subst (λ j. is_some (sign_at new j) ≡ true) (sym same) (ap is_some new-same)
      | inr other ↦ ap is_some (get_or-set_other signs t.node i (Some t.sign) None other) ∙ e
    ]

    signing-new : (found : List ℕ) → AreAtoms nodes t.node found → is_some (sign_at signs t.node) ≡ false → All (λ j. j < length nodes) found → IsSigning nodes root new (rest ++ layer_tasks nodes t.sign found)
    signing-new found are none atoms-low = record {
      size = length-set signs t.node (Some t.sign) ∙ is.size;
      low = All-append (λ (u : Task). u.node < length nodes) rest more rest-low (layer-low t.sign found atoms-low);
      has_root = elim is.has_root [
        | inl it ↦ inl (still root it)
        | inr it ↦ elim (work-cases (task root Positive) it) [
          | inl before ↦ inr (Contains-append_left rest more (task root Positive) before)
          | inr same ↦ inl (subst (λ (u : Task). is_some (sign_at new u.node) ≡ true) same (ap is_some new-same))
        ]
      ];
      next = λ i p e u it. elim (cases_eq i t.node) [
        | inl same ↦ inr (Contains-append_right rest more u (here i p same e u it))
        | inr other ↦ elim (is.next i p (sym (get_or-set_other signs t.node i (Some t.sign) None other) ∙ e) u it) [
          | inl known ↦ inl (still u.node known)
          | inr there ↦ elim (work-cases u there) [
            | inl before ↦ inr (Contains-append_left rest more u before)
            | inr same ↦ inl (subst (λ (u : Task). is_some (sign_at new u.node) ≡ true) same (ap is_some new-same))
          ]
        ]
      ];
      signs_true = λ sign polarised r i p e. elim (cases_eq i t.node) [
        | inl same ↦
            let at : Some t.sign ≡ Some p = sym new-same ∙ (ap (sign_at new) (sym same) ∙ e) in
            let equal : t.sign ≡ p = cc in
            ap sign same ∙ (is.work_true sign polarised r t.node t.sign last-in ∙ equal)
        | inr other ↦ is.signs_true sign polarised r i p (sym (get_or-set_other signs t.node i (Some t.sign) None other) ∙ e)
      ];
      work_true = λ sign polarised r i p it. elim (Contains-append_cases rest more (task i p) it) [
        | inl before ↦ is.work_true sign polarised r i p (in-work (task i p) before)
        | inr child ↦ layer-true sign t.sign t.node (task i p) polarised task-low (is.work_true sign polarised r t.node t.sign last-in) (layer-within nodes t.sign found (atoms nodes t.node) are.same.0 (task i p) child)
      ];
      least = λ is_top tops i p e. elim (cases_eq i t.node) [
        | inl same ↦ subst (λ j. IsTrue (is_top j)) (sym same) (is.work_least is_top tops t.node t.sign last-in)
        | inr other ↦ is.least is_top tops i p (sym (get_or-set_other signs t.node i (Some t.sign) None other) ∙ e)
      ];
      work_least = λ is_top tops i p it. elim (Contains-append_cases rest more (task i p) it) [
        | inl before ↦ is.work_least is_top tops i p (in-work (task i p) before)
        | inr child ↦ layer-tops is_top t.sign t.node (task i p) tops (is.work_least is_top tops t.node t.sign last-in) (layer-within nodes t.sign found (atoms nodes t.node) are.same.0 (task i p) child)
      ];
    }
      where
        more : List Task
        more = layer_tasks nodes t.sign found

        here : (i : ℕ) (p : Polarity) → i ≡ t.node → sign_at new i ≡ Some p → (u : Task) → Contains (layer_tasks nodes p (atoms nodes i)) u → Contains (layer_tasks nodes t.sign found) u
        here i p same e u it =
            let at : Some t.sign ≡ Some p = sym new-same ∙ (ap (sign_at new) (sym same) ∙ e) in
            let equal : t.sign ≡ p = cc in
            layer-within nodes t.sign (atoms nodes t.node) found are.same.1 u
            (subst (λ q. Contains (layer_tasks nodes q (atoms nodes t.node)) u) (sym equal) (subst (λ j. Contains (layer_tasks nodes p (atoms nodes j)) u) same it))

    -- one step of the search
    pub signing-next : (signs' : List (Option Polarity)) (work' : List Task)
        → (is_some (sign_at signs t.node) ≡ true → signs' ≡ signs) → (is_some (sign_at signs t.node) ≡ true → work' ≡ rest)
        → (is_some (sign_at signs t.node) ≡ false → signs' ≡ with_sign signs t) → (is_some (sign_at signs t.node) ≡ false → AddsLayer nodes t rest work')
        → IsSigning nodes root signs' work' × (left_over nodes signs' work' < left_over nodes signs work)
    signing-next signs' work' seen seen-work fresh fresh-work = go (is_some (sign_at signs t.node)) refl
      where
        size : length work ≡ length rest + 1
        size = ap length popped ∙ length-append rest (t ∷ [])

        go : (b : Bool) → is_some (sign_at signs t.node) ≡ b → IsSigning nodes root signs' work' × (left_over nodes signs' work' < left_over nodes signs work)
        go true e = rw (seen e, seen-work e) (signing-seen e, (let s = size in omega arith))
        go false e =
            let found : List ℕ = (fresh-work e).0 in
            let are : AreAtoms nodes t.node found = (fresh-work e).1 in
            let more : List Task = layer_tasks nodes t.sign found in
            let s = size in
            let l : load nodes 0 signs ≡ size_of nodes (0 + t.node) + load nodes 0 (with_sign signs t) = load-set nodes 0 signs t.node t.sign low-signs e in
            let m : length (rest ++ more) ≡ length rest + length more = length-append rest more in
            let few : length more ≤ length (layer_tasks nodes t.sign (atoms nodes t.node)) = different-few nodes t.sign found (atoms nodes t.node) are.once are.same.0 in
            let n : length (layer_tasks nodes t.sign (atoms nodes t.node)) ≡ length (layer_tasks nodes Positive (atoms nodes t.node)) = layer-length nodes t.sign (atoms nodes t.node) in
            let o : size_of nodes (0 + t.node) ≡ size_of nodes t.node = ap (size_of nodes) (let e : 0 + t.node ≡ t.node = omega arith in e) in
            rw (fresh e, (fresh-work e).2) (signing-new found are e (found-low nodes closed.book t.node found task-low are), (omega arith))

  pub signed : (signs : List (Option Polarity)) (work : List Task) → IsSigning nodes root signs work → work ≡ [] → AreSigned nodes root signs
  signed signs work is none = record {
    size = is.size;
    has_root = elim is.has_root [ inl it ↦ it | inr it ↦ absurd (empty (task root Positive) it) ];
    next = λ i p e t it. elim (is.next i p e t it) [ inl known ↦ known | inr there ↦ absurd (empty t there) ];
    signs_true = is.signs_true;
    least = is.least;
  }
    where
      empty : (t : Task) → Contains work t → ⊥
      empty t it = let there : Contains [] t = subst (λ (ts : List Task). Contains ts t) none it in let low : there.0 < 0 = there.1 in omega arith

-- in the beginning there is none
pub none-more : (signs more : List (Option Polarity)) → ((i : ℕ) → sign_at signs i ≡ None) → more ≡ signs ++ None ∷ [] → (i : ℕ) → sign_at more i ≡ None
none-more signs more none is i = ap (λ (ss : List (Option Polarity)). sign_at ss i) is ∙ go signs i none
  where
    go : (xs : List (Option Polarity)) (i : ℕ) → ((i : ℕ) → sign_at xs i ≡ None) → sign_at (xs ++ None ∷ []) i ≡ None
    go [] zero none = refl
    go [] (suc i) none = refl
    go (x ∷ rest) zero none = none 0
    go (x ∷ rest) (suc i) none = go rest i (λ j. none (suc j))
