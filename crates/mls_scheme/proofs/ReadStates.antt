-- The automaton that the passes over a book make is that of the book, and closed.
--     signed-low, signed-tops     the nodes with signs are tops
--     read-made                   the scheme that is made is that of what was read
use Rattle.std.proofs.Common.{◌≡◌, ◌↔◌, ◌⊎◌, inl, inr, ℕ, ◌+◌, ◌<◌, Bool, true, false, List, [], ◌∷◌, map, refl, sym, ap, ◌∙◌, subst, arith, length, get_or, All, Contains, Some, None}
use Rattle.std.specs.Prelude.{Option, IsTrue, is_some}
use Rattle.std.specs.FinMap.{get-empty}
use Rattle.std.specs.Ordering.{nat_cmp}
use Rattle.std.proofs.lemmas.List.{get_or_past}
use Rattle.mls_book.specs.declared.book.Field.{Field}
use Rattle.mls_book.specs.declared.book.Node.{Node}
use Rattle.mls_book.specs.declared.book.Node.TheVariants as node
use Rattle.mls_book.specs.Books.{node_at}
use Rattle.mls_book.proofs.LongerBooks.{below_or_more}
use Rattle.mls_typetext.specs.declared.scheme.ReadScheme.{ReadScheme}
use Rattle.mls_typetext.specs.Schemes.{scheme_of}
use Rattle.mls_typetext.specs.Laws.{IsReadScheme}
use Rattle.mls_automaton.specs.declared.automaton.Polarity.{Polarity}
use Rattle.mls_automaton.specs.declared.automaton.Polarity.TheVariants.{Positive, Negative}
use Rattle.mls_automaton.specs.declared.automaton.Head.{Head}
use Rattle.mls_automaton.specs.declared.automaton.State.{State}
use Rattle.mls_automaton.specs.declared.scheme.EnvEntry.{EnvEntry}
use Rattle.mls_automaton.specs.declared.scheme.Scheme.{Scheme}
use Rattle.mls_automaton.specs.Automata.{Automaton, empty_head, head_at, opposite, polarity_at, state_at, HasFlow, IsState}
use Rattle.mls_automaton.specs.Heads.{combined, parts_of}
use Rattle.mls_automaton.specs.Models.{HasRisingLabels, HasStatesIn}
use Rattle.mls_automaton.specs.Schemes.{state_of, IsScheme}
use Rattle.mls_automaton.proofs.CombinedStates.{combined_in, head_in, same_in, HasPartsIn}
use Rattle.mls_automaton.proofs.Lists.{All-contained, All-one, Contains-here, Contains-later, Contains-map}
use Rattle.mls_scheme.specs.declared.signs.Task.{Task}
use Rattle.mls_scheme.specs.ReadAutomata.{atom_parts, atoms, AreChildren, AreTops, IsReadAutomaton}
use Rattle.mls_scheme.specs.ReadTypes.{IsEquivalentToRead, IsPolarisedRead, IsReadFromBook}
use Rattle.mls_scheme.specs.steps.Signs.{child_tasks, sign_at, task, AreSigned}
use Rattle.mls_scheme.specs.steps.States.{AreNodeStates, IsNodeState, IsTopState}
use Rattle.mls_scheme.specs.steps.Uses.{IsEdge}
use Rattle.mls_scheme.proofs.FoundSigns.{layer-in, layer-true}
use Rattle.mls_scheme.proofs.ReadSchemes.{atom_in, read_equivalent}

field_children : (Q : ℕ → Type 0) (p : Polarity) (fields : List Field) → ((t : Task) → Contains (child_tasks p (node.Rcd fields)) t → Q t.node) → All (λ (field : Field). Q field.node.0) fields
field_children Q p fields each =
    All-contained (λ (field : Field). Q field.node.0) fields
    (λ f it. each (task f.node.0 p) (Contains-map (λ (field : Field). task field.node.0 p) fields f it))

children-are : (Q : ℕ → Type 0) (p : Polarity) (x : Node) → ((t : Task) → Contains (child_tasks p x) t → Q t.node) → AreChildren Q x
children-are Q p (node.Arrow j k) each = (
  each (task j.0 (opposite p)) (Contains-here (task j.0 (opposite p)) (task k.0 p ∷ [])),
  each (task k.0 p) (Contains-later (task j.0 (opposite p)) (task k.0 p ∷ []) (task k.0 p) (Contains-here (task k.0 p) [])),
)
children-are Q p (node.Rcd fields) each = field_children Q p fields each
children-are Q p node.Bot each = tt
children-are Q p node.Top each = tt
children-are Q p (node.Var x) each = tt
children-are Q p node.Bool each = tt
children-are Q p node.Int each = tt
children-are Q p (node.Join j k) each = tt
children-are Q p (node.Meet j k) each = tt

-- the states that an atom names
parts-are : (Q : Polarity → ℕ → Type 0) (p : Polarity) (x : Node) → ((t : Task) → Contains (child_tasks p x) t → Q t.sign t.node) → HasPartsIn Q p (atom_parts x)
parts-are Q p (node.Arrow j k) each = record {
  function = (
    All-one (Q (opposite p)) j.0 (each (task j.0 (opposite p)) (Contains-here (task j.0 (opposite p)) (task k.0 p ∷ []))),
    All-one (Q p) k.0 (each (task k.0 p) (Contains-later (task j.0 (opposite p)) (task k.0 p ∷ []) (task k.0 p) (Contains-here (task k.0 p) []))),
  );
  fields = tt;
}
parts-are Q p (node.Rcd fields) each = record {
  function = tt;
  fields =
      (atom_in (Q p) p (node.Rcd fields)
      (All-contained (λ (field : Field). Q p field.node.0) fields
      (λ f it. each (task f.node.0 p) (Contains-map (λ (field : Field). task field.node.0 p) fields f it)))).fields;
}
parts-are Q p node.Bot each = record { function = tt; fields = tt }
parts-are Q p node.Top each = record { function = tt; fields = tt }
parts-are Q p (node.Var x) each = record { function = tt; fields = tt }
parts-are Q p node.Bool each = record { function = tt; fields = tt }
parts-are Q p node.Int each = record { function = tt; fields = tt }
parts-are Q p (node.Join j k) each = record { function = tt; fields = tt }
parts-are Q p (node.Meet j k) each = record { function = tt; fields = tt }

-- the nodes with signs are tops
pub signed-low : (nodes : List Node) (root : ℕ) (signs : List (Option Polarity)) → AreSigned nodes root signs → (k : ℕ) (q : Polarity) → sign_at signs k ≡ Some q → k < length nodes
signed-low nodes root signs signed k q e = go (below_or_more k (length nodes))
  where
    go : (k < length nodes) ⊎ ((j : ℕ) × (k ≡ length nodes + j)) → k < length nodes
    go (inl lower) = lower
    go (inr (j, more)) =
        let size : length signs ≡ length nodes = signed.size in
        let past : sign_at signs k ≡ None = get_or_past signs k None (omega arith) in
        absurd (cc)

pub signed-tops : (nodes : List Node) (root : ℕ) (signs : List (Option Polarity)) → AreSigned nodes root signs → AreTops nodes root (λ i. is_some (sign_at signs i))
signed-tops nodes root signs signed = record {
  has_root = signed.has_root;
  low = λ i top. low i (sign_at signs i) refl top;
  next = λ i j top it. next i j it (sign_at signs i) refl top;
}
  where
    low : (i : ℕ) (o : Option Polarity) → sign_at signs i ≡ o → is_some o ≡ true → i < length nodes
    low i None e some = absurd (cc)
    low i (Some p) e some = signed-low nodes root signs signed i p e

    next : (i j : ℕ) → Contains (atoms nodes i) j → (o : Option Polarity) → sign_at signs i ≡ o → is_some o ≡ true → AreChildren (λ k. IsTrue (is_some (sign_at signs k))) (node_at nodes j)
    next i j it None e some = absurd (cc)
    next i j it (Some p) e some =
        children-are (λ k. IsTrue (is_some (sign_at signs k))) p (node_at nodes j) (λ t child. signed.next i p e t (layer-in nodes p (atoms nodes i) j t it child))

module _ (read : ReadScheme) (is : IsReadScheme read) (polarity : IsPolarisedRead read) (signs : List (Option Polarity)) (signed : AreSigned read.book read.root.0 signs)
    (a : Automaton) (s : Scheme) (states : AreNodeStates read.book signs a) (same : s.automaton.states ≡ a.states) (flows : (n p : ℕ) → HasFlow s.automaton n p ↔ IsEdge read.book signs n p)
    (root : s.root.0 ≡ read.root.0) (env : s.env ≡ []) where
  abbrev nodes : List Node
  nodes = read.book

  abbrev b : Automaton
  b = s.automaton

  abbrev sign : ℕ → Polarity
  sign = polarity.sign

  abbrev is_top : ℕ → Bool
  is_top i = is_some (sign_at signs i)

  top-sign : (i : ℕ) → is_top i ≡ true → sign_at signs i ≡ Some (sign i)
  top-sign i top = go (sign_at signs i) refl top
    where
      go : (o : Option Polarity) → sign_at signs i ≡ o → is_some o ≡ true → sign_at signs i ≡ Some (sign i)
      go None e it = absurd (cc)
      go (Some p) e it = e ∙ ap Some (sym (signed.signs_true sign polarity.polarised polarity.root i p e))

  no-sign : (o : Option Polarity) → is_some o ≡ false → o ≡ None
  no-sign None e = refl
  no-sign (Some p) e = absurd (cc)

  sign-low : (k : ℕ) (q : Polarity) → sign_at signs k ≡ Some q → k < length nodes
  sign-low = signed-low nodes read.root.0 signs signed

  state-same : (i : ℕ) → state_at a i ≡ state_at b i
  state-same i = ap (λ (ss : List State). get_or ss i (record { polarity = Positive; head = empty_head })) (sym same)

  node_state : (i : ℕ) (o : Option Polarity) → i < length nodes → sign_at signs i ≡ o → IsNodeState nodes i o (state_at b i)
  node_state i o low e =
      subst (IsNodeState nodes i o) (state-same i)
      (subst (λ (o : Option Polarity). IsNodeState nodes i o (state_at a i)) e (states.state i low))

  top_state : (i : ℕ) → is_top i ≡ true → IsTopState nodes i (sign i) (state_at b i)
  top_state i top = node_state i (Some (sign i)) (sign-low i (sign i) (top-sign i top)) (top-sign i top)

  signed_state : (k : ℕ) (q : Polarity) → sign_at signs k ≡ Some q → IsState b q k
  signed_state k q e =
      let size : length a.states ≡ length nodes = states.size in
      let more : length b.states ≡ length a.states = ap length same in
      let low : k < length nodes = sign-low k q e in
      record { in_range = omega arith; polarity = (node_state k (Some q) low e).polarity }

  abbrev is_child : (i j : ℕ) → Task → Type 0
  is_child i j t = Contains (child_tasks (sign i) (node_at nodes j)) t

  child-top : (i j : ℕ) → is_top i ≡ true → Contains (atoms nodes i) j → (t : Task) → is_child i j t → is_top t.node ≡ true
  child-top i j top it t child = signed.next i (sign i) (top-sign i top) t (layer-in nodes (sign i) (atoms nodes i) j t it child)

  child-state : (i j : ℕ) → is_top i ≡ true → Contains (atoms nodes i) j → (t : Task) → is_child i j t → IsState b t.sign t.node
  child-state i j top it t child =
      signed_state t.node t.sign
      (top-sign t.node (child-top i j top it t child)
      ∙ ap Some (layer-true nodes is.book read.root.0 sign (sign i) i t polarity.polarised (sign-low i (sign i) (top-sign i top)) refl (layer-in nodes (sign i) (atoms nodes i) j t it child)))

  tops : AreTops nodes read.root.0 is_top
  tops = signed-tops nodes read.root.0 signs signed

  other_head : (i : ℕ) → is_top i ≡ false → head_at b i ≡ empty_head
  other_head i none = go (below_or_more i (length nodes))
    where
      go : (i < length nodes) ⊎ ((j : ℕ) × (i ≡ length nodes + j)) → head_at b i ≡ empty_head
      go (inl low) = ap (λ (t : State). t.head) (node_state i None low (no-sign (sign_at signs i) none))
      go (inr (j, more)) =
          let size : length a.states ≡ length nodes = states.size in
          let longer : length b.states ≡ length a.states = ap length same in
          ap (λ (t : State). t.head) (get_or_past b.states i (record { polarity = Positive; head = empty_head }) (omega arith))

  is_read : IsReadAutomaton sign is_top nodes b
  is_read = record {
    same_length = ap length same ∙ states.size;
    polarity = λ i top. (top_state i top).polarity;
    heads = λ i top. (top_state i top).head;
    others = other_head;
    flows = λ n p it. let edge = (flows n p).0 it in (ap is_some edge.0, ap is_some edge.1, edge.2);
    all_flows = λ n p x top_n top_p negative positive first second.
        (flows n p).1 (top-sign n top_n ∙ ap Some negative, top-sign p top_p ∙ ap Some positive, (x, first, second));
  }

  head_states : (i : ℕ) (t : Bool) → is_top i ≡ t → HasStatesIn (IsState b) (polarity_at b i) (head_at b i)
  head_states i true top =
      let here = top_state i top in
      subst (λ q. HasStatesIn (IsState b) q (head_at b i)) (sym here.polarity)
      (head_in (IsState b) (sign i) (head_at b i) here.labels
      (same_in (IsState b) (sign i) (parts_of (head_at b i)) (combined (sign i) (map (λ j. atom_parts (node_at nodes j)) (atoms nodes i))) here.head
      (combined_in (IsState b) (sign i) (λ j. atom_parts (node_at nodes j)) (atoms nodes i)
      (All-contained (λ j. HasPartsIn (IsState b) (sign i) (atom_parts (node_at nodes j))) (atoms nodes i)
      (λ j it. parts-are (IsState b) (sign i) (node_at nodes j) (child-state i j top it))))))
  head_states i false none = subst (λ (h : Head). HasStatesIn (IsState b) (polarity_at b i) h) (sym (other_head i none)) (record { function = tt; fields = tt })

  head_labels : (i : ℕ) (t : Bool) → is_top i ≡ t → HasRisingLabels (head_at b i).fields
  head_labels i true top = (top_state i top).labels
  head_labels i false none = subst (λ (h : Head). HasRisingLabels h.fields) (sym (other_head i none)) tt

  no_binder : (x : ℕ) → state_of s.env x ≡ None
  no_binder x = ap (λ (entries : List EnvEntry). state_of entries x) env

  pub read-is_scheme : IsScheme s
  read-is_scheme = record {
    automaton = record {
      heads = λ i. head_states i (is_top i) refl;
      labels = λ i. head_labels i (is_top i) refl;
      negative = λ f it. signed_state f.negative.0 Negative ((flows f.negative.0 f.positive.0).0 it).0;
      positive = λ f it. signed_state f.positive.0 Positive ((flows f.negative.0 f.positive.0).0 it).1;
    };
    root = subst (IsState b Positive) (sym root) (signed_state read.root.0 Positive (top-sign read.root.0 signed.has_root ∙ ap Some polarity.root));
    env = λ x n e. let never : None ≡ Some n = sym (no_binder x) ∙ e in absurd (cc);
  }

  pub read-is_from_book : IsReadFromBook read s
  read-is_from_book = record {
    automaton = record {
      sign = sign;
      is_top = is_top;
      closed = is.book;
      polarised = polarity.polarised;
      is_positive = polarity.root;
      tops = tops;
      automaton = is_read;
    };
    root = root;
  }

  pub read-is_equivalent : IsEquivalentToRead read s
  read-is_equivalent u is_u =
      read_equivalent sign (scheme_of read) s u is.book polarity.polarised is_top tops is_read read-is_scheme is_u root no_binder (get-empty nat_cmp)

-- so the scheme that is made is that of what was read
pub read-made : (read : ReadScheme) → IsReadScheme read → IsPolarisedRead read → (found one two : List (Option Polarity)) → AreSigned read.book read.root.0 found → one ≡ found → two ≡ found
    → (a : Automaton) (s : Scheme) → AreNodeStates read.book one a → s.automaton.states ≡ a.states → ((n p : ℕ) → HasFlow s.automaton n p ↔ IsEdge read.book two n p)
    → s.root.0 ≡ read.root.0 → s.env ≡ [] → IsScheme s × IsEquivalentToRead read s × IsReadFromBook read s
read-made read is polarity found one two signed is_one is_two a s states same flows root env =
    let states' : AreNodeStates read.book found a = subst (λ (signs : List (Option Polarity)). AreNodeStates read.book signs a) is_one states in
    let flows' : ((n p : ℕ) → HasFlow s.automaton n p ↔ IsEdge read.book found n p) = subst (λ (signs : List (Option Polarity)). (n p : ℕ) → HasFlow s.automaton n p ↔ IsEdge read.book signs n p) is_two flows in (
      read-is_scheme read is polarity found signed a s states' same flows' root env,
      read-is_equivalent read is polarity found signed a s states' same flows' root env,
      read-is_from_book read is polarity found signed a s states' same flows' root env,
    )
