-- What a declaration of an interface is read as.
use Rattle.std.proofs.Common.{◌≡◌, inl, inr, ℕ, suc, ◌+◌, ◌-◌, ◌<◌, ◌≤◌, true, false, ◌||◌, if◌then◌else◌, List, [], ◌∷◌, ◌++◌, map, length, take, drop, slice_range, refl, sym, ap, ◌∙◌, subst, arith, Some, None, append-nil, append_assoc}
use Rattle.std.specs.Prelude.{Option, slice_get, option_map, unwrap_or, bytes_eq}
use Rattle.std.specs.List.{list_any}
use Rattle.std.specs.BTreeSet.{BTreeSet, contains}
use Rattle.std.specs.Ordering.{nat_cmp}
use Rattle.std.specs.Cmp.Lexicographic.{slice_cmp}
use Rattle.std.proofs.Math.Seq.{take-append-add, drop-append-add, take-append_seam}
use Rattle.std.proofs.lemmas.List.{length-map, length-drop, drop_all}
use Rattle.std.proofs.lemmas.Option.{slice_get-map, slice_get_within}
use Rattle.mls_lexer.specs.declared.token.Kind.TheVariants as kind
use Rattle.mls_lexer.specs.declared.token.Token.{Token}
use Rattle.mls_lexer.specs.Tokens.{Terminal, name, word, terminal_of, terminal, terminals, IsTokens, place_of}
use Rattle.mls_typetext.specs.declared.scheme.ReadScheme.{ReadScheme}
use Rattle.mls_typetext.specs.declared.scheme.TypeFault.{TypeFault}
use Rattle.mls_typetext.specs.Phrases.{Phrase, whole, yields, width}
use Rattle.mls_typetext.specs.Trees.{meaning}
use Rattle.mls_typetext.specs.Faults.{faults}
use Rattle.mls_typetext.specs.Texts.{read_of}
use Rattle.mls_typetext.specs.TextsFrom.{ReadsFrom, HasFaultFrom, stops, in_tree_from}
use Rattle.mls_typetext.specs.Stops.{BeginsType, IsFurthest, EndsBefore}
use Rattle.mls_typetext.proofs.OnePhrase.{one_phrase}
use Rattle.mls_iface.proofs.Widths.{width-yields}
use Rattle.mls_typetext.proofs.StopLaws.{begins-type, one_furthest, one_end}
use Rattle.mls_iface.specs.declared.interface.IfaceFault.{IfaceFault}
use Rattle.mls_iface.specs.declared.interface.IfaceFault.TheVariants.{DuplicateVal}
use Rattle.mls_iface.specs.declared.interface.Interface.{Interface}
use Rattle.mls_iface.specs.declared.interface.Val.{Val}
use Rattle.mls_iface.specs.Declarations.{Declaration, spelled, IsInterface, behind, vals_of}
use Rattle.mls_iface.specs.Faults.{of_type, faults_of}
use Rattle.mls_iface.specs.Interfaces.{IsInterfaceText, HasInterfaceFault, in_declarations}
use Rattle.mls_iface.specs.steps.Going.{IsThere}
use Rattle.mls_iface.specs.steps.Reading.{IsNamed, IsTyped, IsFaulty, AreRead}
use Rattle.mls_iface.proofs.TokenTerminals.{kind_of, kind_of-terminal, slice_get-behind, drop-behind}
use Rattle.mls_iface.proofs.Yields.{yields-append}
use Rattle.mls_iface.proofs.Fronts.{IsBound, spelled-bound, no_val_within}

-- a type that is over ends there and no earlier or later
type_furthest : (p : Phrase whole) (vs : List Terminal) → IsBound vs → IsFurthest (yields p vs) (width p)
type_furthest p vs bound = record { within = within; begins = begins; no_further = no_further }
  where
    all : length (yields p vs) ≡ width p + length vs
    all = width-yields p vs

    within : width p ≤ length (yields p vs)
    within = let size = all in omega arith

    front : (n : ℕ) → take (width p + n) (yields p vs) ≡ yields p (take n vs)
    front n =
        let size : length (yields p []) ≡ width p + 0 = width-yields p [] in
        let count : width p + n ≡ length (yields p []) + n = omega arith in
        ap (λ i. take i (yields p vs)) count
        ∙ (ap (take (length (yields p []) + n)) (yields-append p [] vs)
        ∙ (take-append-add (yields p []) vs n
        ∙ sym (yields-append p [] (take n vs))))

    begins : BeginsType (take (width p) (yields p vs))
    begins =
        let same : width p ≡ width p + 0 = omega arith in
        subst BeginsType (sym (ap (λ i. take i (yields p vs)) same ∙ front 0)) (begins-type (yields p []) (p, refl))

    no_further : (m : ℕ) → width p < m → m ≤ length (yields p vs) → BeginsType (take m (yields p vs)) → ⊥
    no_further m less low more = go bound
      where
        n : ℕ
        n = m - suc (width p)

        same : m ≡ width p + suc n
        same = omega arith

        longer : BeginsType (yields p (take (suc n) vs))
        longer = subst BeginsType (ap (λ i. take i (yields p vs)) same ∙ front (suc n)) more

        go : IsBound vs → ⊥
        go (inl none) = let empty : length vs ≡ 0 = ap length none in let size = all in absurd (omega arith)
        go (inr (rest, is)) =
            no_val_within longer.1.0 p (take n rest ++ longer.0)
            (longer.1.1 ∙ (sym (yields-append p (take (suc n) vs) longer.0) ∙ ap (λ us. yields p (take (suc n) us ++ longer.0)) is))

module _ (text : List ℕ) (tokens : List Token) where
  abbrev ts : List Terminal
  ts = terminals text tokens

  token_of : (i : ℕ) (t : Terminal) → slice_get ts i ≡ Some t → (token : Token) × (slice_get tokens i ≡ Some token) × (terminal text token ≡ t)
  token_of i t at = go (slice_get tokens i) refl
    where
      go : (o : Option Token) → slice_get tokens i ≡ o → (token : Token) × (slice_get tokens i ≡ Some token) × (terminal text token ≡ t)
      go None is =
          let wrong : None ≡ Some t =
          sym (slice_get-map (λ token. terminal text token) tokens i ∙ ap (option_map (λ token. terminal text token)) is) ∙ at in
          absurd (cc)
      go (Some token) is =
          let some : Some (terminal text token) ≡ Some t =
          sym (slice_get-map (λ token. terminal text token) tokens i ∙ ap (option_map (λ token. terminal text token)) is) ∙ at in
          (token, is, cc)

  module _ (from : ℕ) (low : from < length tokens) where
    size : length (drop from ts) ≡ length tokens - from
    size = length-drop from ts ∙ ap (λ n. n - from) (length-map tokens (λ (token : Token). terminal text token))

    second_terminal : (d : Declaration) (ds : List Declaration) → spelled (d ∷ ds) ≡ drop from ts → slice_get ts (from + 1) ≡ Some (name d.declared)
    unfolding spelled
    second_terminal d ds is = sym (slice_get-behind ts from 1) ∙ ap (λ us. slice_get us 1) (sym is)

    third_terminal : (d : Declaration) (ds : List Declaration) → spelled (d ∷ ds) ≡ drop from ts → slice_get ts (from + 2) ≡ Some (word kind.Colon)
    unfolding spelled
    third_terminal d ds is = sym (slice_get-behind ts from 2) ∙ ap (λ us. slice_get us 2) (sym is)

    some_declaration : spelled [] ≡ drop from ts → ⊥
    unfolding spelled
    some_declaration is = let none : 0 ≡ length (drop from ts) = ap length is in let count = size in absurd (omega arith)

    -- the declared name is there,
    pub second_there : IsInterface (drop from ts) → IsThere tokens (from + 1) kind.Name
    second_there ([], is) = absurd (some_declaration is)
    second_there (d ∷ ds, is) =
        let it = token_of (from + 1) (name d.declared) (second_terminal d ds is) in
        (it.0, it.1, sym (kind_of-terminal it.0.kind (slice_range text it.0.start it.0.end)) ∙ ap kind_of it.2)

    same_name : (x y : List ℕ) → name x ≡ name y → x ≡ y
    same_name x y e = cc

    same_token : (t u : Token) → Some t ≡ Some u → t ≡ u
    same_token t u e = cc

    pub second_name : (token : Token) → slice_get tokens (from + 1) ≡ Some token
        → (ds : List Declaration) → spelled ds ≡ drop from ts → IsNamed tokens from ds (slice_range text token.start token.end) token.start
    second_name token at [] is = absurd (some_declaration is)
    second_name token at (d ∷ ds) is =
        let it = token_of (from + 1) (name d.declared) (second_terminal d ds is) in
        let same : it.0 ≡ token = same_token it.0 token (sym it.1 ∙ at) in
        let here : terminal text token ≡ name d.declared = ap (λ t. terminal text t) (sym same) ∙ it.2 in
        let kind_is : token.kind ≡ kind.Name = sym (kind_of-terminal token.kind (slice_range text token.start token.end)) ∙ ap kind_of here in (
          same_name (slice_range text token.start token.end) d.declared (ap (λ k. terminal_of k (slice_range text token.start token.end)) (sym kind_is) ∙ here),
          sym (ap (λ o. unwrap_or (option_map (λ (token : Token). token.start) o) 0) at),
        )

    -- and its type;
    pub type_within : IsInterface (drop from ts) → from + 3 ≤ length tokens
    type_within ([], is) = absurd (some_declaration is)
    type_within (d ∷ ds, is) =
        let it = token_of (from + 2) (word kind.Colon) (third_terminal d ds is) in
        let there = slice_get_within tokens (from + 2) it.0 it.1 in
        omega arith

    module _ (d : Declaration) (ds : List Declaration) (is : spelled (d ∷ ds) ≡ drop from ts) where
      type_there : drop (from + 3) ts ≡ yields d.type (spelled ds)
      unfolding spelled
      type_there = sym (drop-behind ts from 3) ∙ ap (drop 3) (sym is)

      front_is : take (width d.type) (drop (from + 3) ts) ≡ yields d.type []
      front_is =
          let count : length (yields d.type []) ≡ width d.type + 0 = width-yields d.type [] in
          let same : width d.type ≡ length (yields d.type []) = omega arith in
          (λ i. take (same i) (type_there i))
          ∙ (ap (take (length (yields d.type []))) (yields-append d.type [] (spelled ds))
          ∙ take-append_seam (yields d.type []) (spelled ds))

      furthest : IsFurthest (drop (from + 3) ts) (width d.type)
      furthest = subst (λ us. IsFurthest us (width d.type)) (sym type_there) (type_furthest d.type (spelled ds) (spelled-bound ds))

      type_ends : EndsBefore text tokens (from + 3) (behind from d)
      type_ends = record { count = width d.type; furthest = furthest; is_type = (d.type, sym front_is); place = refl }

      phrase_is : (k : ℕ) (ends : EndsBefore text tokens (from + 3) k) (p : Phrase whole) → yields p [] ≡ take ends.count (drop (from + 3) ts) → p ≡ d.type
      phrase_is k ends p spells =
          let count : ends.count ≡ width d.type = one_furthest (drop (from + 3) ts) ends.count (width d.type) ends.furthest furthest in
          one_phrase p d.type (spells ∙ (ap (λ n. take n (drop (from + 3) ts)) count ∙ front_is))

      behind_there : spelled ds ≡ drop (behind from d) ts
      behind_there =
          let count : length (yields d.type []) ≡ width d.type + 0 = width-yields d.type [] in
          let same : width d.type ≡ length (yields d.type []) + 0 = omega arith in
          sym
          (sym (drop-behind ts (from + 3) (width d.type))
          ∙ ((λ i. drop (same i) (type_there i))
          ∙ (ap (drop (length (yields d.type []) + 0)) (yields-append d.type [] (spelled ds))
          ∙ drop-append-add (yields d.type []) (spelled ds) 0)))

      typed_first : (read : ReadScheme) (end : ℕ) → ReadsFrom text tokens (from + 3) read end → IsTyped text tokens from (d ∷ ds) read end
      typed_first read end it =
          let same = phrase_is end it.ends it.phrase it.spelled in
          let place : end ≡ behind from d = (one_end text tokens (from + 3)).one_end end (behind from d) it.ends type_ends in (
            it.read_as ∙ ap (λ p. read_of (meaning (place_of tokens) (from + 3) p)) same,
            ap (λ p. faults true [] 0 (meaning (place_of tokens) (from + 3) p)) (sym same) ∙ it.no_fault,
            place,
            behind_there ∙ ap (λ n. drop n ts) (sym place),
          )

      faulty_first : (fault : TypeFault) → HasFaultFrom text tokens (from + 3) fault → IsFaulty tokens from (d ∷ ds) (of_type fault)
      faulty_first _ (stops has) = absurd ((one_end text tokens (from + 3)).no_stop (behind from d) _ type_ends has)
      faulty_first _ (in_tree_from k ends p spells fault later first) =
          let same = phrase_is k ends p spells in
          (fault, later, ap (λ p. faults true [] 0 (meaning (place_of tokens) (from + 3) p)) (sym same) ∙ first, refl)

    pub typed : (read : ReadScheme) (end : ℕ) → ReadsFrom text tokens (from + 3) read end
        → (ds : List Declaration) → spelled ds ≡ drop from ts → IsTyped text tokens from ds read end
    typed read end it [] is = absurd (some_declaration is)
    typed read end it (d ∷ ds) is = typed_first d ds is read end it

    pub faulty : (fault : TypeFault) → HasFaultFrom text tokens (from + 3) fault
        → (ds : List Declaration) → spelled ds ≡ drop from ts → IsFaulty tokens from ds (of_type fault)
    faulty fault has [] is = absurd (some_declaration is)
    faulty fault has (d ∷ ds) is = faulty_first d ds is fault has

  module _ (are : IsTokens text tokens) where
    -- a name that is declared again,
    pub declared_again : (k : ℕ) (vals : List Val) (known : BTreeSet (List ℕ)) → AreRead text tokens k vals known → (x : List ℕ) (at : ℕ)
        → ((ds : List Declaration) → spelled ds ≡ drop k ts → IsNamed tokens k ds x at) → contains (slice_cmp nat_cmp) known x ≡ true
        → HasInterfaceFault text (DuplicateVal at)
    unfolding faults_of
    declared_again k vals known r x at named known_it = go r.left r.spells_left (named r.left r.spells_left) (r.faulty)
      where
        go : (left : List Declaration) → spelled left ≡ drop k ts → IsNamed tokens k left x at
            → faults_of (place_of tokens) 0 [] r.all ≡ faults_of (place_of tokens) k r.earlier left → HasInterfaceFault text (DuplicateVal at)
        go [] is is_named from = absurd (is_named)
        go (d ∷ ds) is is_named from =
            let again : list_any (bytes_eq d.declared) r.earlier ≡ true =
            ap (λ y. list_any (bytes_eq y) r.earlier) (sym is_named.0) ∙ (sym (r.names x) ∙ known_it) in
            let rest : List IfaceFault =
            map of_type (faults true [] 0 (meaning (place_of tokens) (k + 3) d.type)) ++ faults_of (place_of tokens) (behind k d) (d.declared ∷ r.earlier) ds in
            in_declarations tokens are r.all r.spells (DuplicateVal at) rest
            (from ∙ (λ i. ((if again i then DuplicateVal (sym is_named.1 i) ∷ [] else [])
            ++ map of_type (faults true [] 0 (meaning (place_of tokens) (k + 3) d.type)))
            ++ faults_of (place_of tokens) (behind k d) (d.declared ∷ r.earlier) ds))

    -- or a type with a fault,
    pub type_faulty : (k : ℕ) (vals : List Val) (known : BTreeSet (List ℕ)) → AreRead text tokens k vals known → (x : List ℕ) (at : ℕ) (fault : IfaceFault)
        → ((ds : List Declaration) → spelled ds ≡ drop k ts → IsNamed tokens k ds x at) → contains (slice_cmp nat_cmp) known x ≡ false
        → ((ds : List Declaration) → spelled ds ≡ drop k ts → IsFaulty tokens k ds fault)
        → HasInterfaceFault text fault
    unfolding faults_of
    type_faulty k vals known r x at fault named unknown bad =
        go r.left r.spells_left (named r.left r.spells_left) (bad r.left r.spells_left) r.faulty
      where
        go : (left : List Declaration) → spelled left ≡ drop k ts → IsNamed tokens k left x at → IsFaulty tokens k left fault
            → faults_of (place_of tokens) 0 [] r.all ≡ faults_of (place_of tokens) k r.earlier left → HasInterfaceFault text fault
        go [] is is_named is_bad from = absurd (is_named)
        go (d ∷ ds) is is_named is_bad from =
            let new : list_any (bytes_eq d.declared) r.earlier ≡ false =
            ap (λ y. list_any (bytes_eq y) r.earlier) (sym is_named.0) ∙ (sym (r.names x) ∙ unknown) in
            subst (HasInterfaceFault text) (sym is_bad.3)
            (in_declarations tokens are r.all r.spells (of_type is_bad.0)
            (map of_type is_bad.1 ++ faults_of (place_of tokens) (behind k d) (d.declared ∷ r.earlier) ds)
            (from ∙ (λ i. ((if new i then DuplicateVal (place_of tokens (k + 1)) ∷ [] else []) ++ map of_type (is_bad.2 i))
            ++ faults_of (place_of tokens) (behind k d) (d.declared ∷ r.earlier) ds)))

    -- behind the last declaration
    pub all_read : (k : ℕ) (vals : List Val) (known : BTreeSet (List ℕ)) → AreRead text tokens k vals known → length tokens ≤ k
        → (i : Interface) → i.vals ≡ vals → IsInterfaceText text i
    unfolding spelled faults_of vals_of
    all_read k vals known r past i same = go r.left r.spells_left r.declares r.faulty
      where
        count : length ts ≡ length tokens
        count = length-map tokens (λ (token : Token). terminal text token)

        over : drop k ts ≡ []
        over = let size = count in drop_all k ts (omega arith)

        go : (left : List Declaration) → spelled left ≡ drop k ts
            → vals_of (place_of tokens) 0 r.all ≡ vals ++ vals_of (place_of tokens) k left
            → faults_of (place_of tokens) 0 [] r.all ≡ faults_of (place_of tokens) k r.earlier left → IsInterfaceText text i
        go [] is declares no_fault =
            record {
              tokens = tokens;
              has_tokens = are;
              declarations = r.all;
              spells = r.spells;
              no_fault = no_fault;
              declares = same ∙ sym (declares ∙ append-nil vals);
            }
        go (d ∷ ds) is declares no_fault =
            let wrong : spelled (d ∷ ds) ≡ [] = is ∙ over in
            absurd (cc)

  -- one declaration more is read
  pub read_more : (k : ℕ) (vals : List Val) (known after : BTreeSet (List ℕ)) → AreRead text tokens k vals known → (val : Val) (end : ℕ)
      → ((ds : List Declaration) → spelled ds ≡ drop k ts → IsNamed tokens k ds val.name val.at)
      → ((ds : List Declaration) → spelled ds ≡ drop k ts → IsTyped text tokens k ds val.scheme end)
      → contains (slice_cmp nat_cmp) known val.name ≡ false
      → ((x : List ℕ) → contains (slice_cmp nat_cmp) after x ≡ (bytes_eq x val.name || contains (slice_cmp nat_cmp) known x))
      → AreRead text tokens end (vals ++ val ∷ []) after
  unfolding faults_of vals_of
  read_more k vals known after r val end named is_typed unknown noted =
      go r.left r.spells_left (named r.left r.spells_left) (is_typed r.left r.spells_left) r.declares r.faulty
    where
      go : (left : List Declaration) → spelled left ≡ drop k ts → IsNamed tokens k left val.name val.at → IsTyped text tokens k left val.scheme end
          → vals_of (place_of tokens) 0 r.all ≡ vals ++ vals_of (place_of tokens) k left
          → faults_of (place_of tokens) 0 [] r.all ≡ faults_of (place_of tokens) k r.earlier left → AreRead text tokens end (vals ++ val ∷ []) after
      go [] is is_named is_type declares from = absurd (is_named)
      go (d ∷ ds) is is_named is_type declares from =
          let new : list_any (bytes_eq d.declared) r.earlier ≡ false =
          ap (λ y. list_any (bytes_eq y) r.earlier) (sym is_named.0) ∙ (sym (r.names val.name) ∙ unknown) in
          let value : record { name = d.declared; at = place_of tokens (k + 1); scheme = read_of (meaning (place_of tokens) (k + 3) d.type) } ≡ val =
          λ i. record { name = sym is_named.0 i; at = sym is_named.1 i; scheme = sym is_type.0 i } in
          record {
            all = r.all;
            spells = r.spells;
            earlier = d.declared ∷ r.earlier;
            left = ds;
            spells_left = is_type.3;
            declares =
                declares
                ∙ ((λ i. vals ++ value i ∷ vals_of (place_of tokens) (sym is_type.2 i) ds)
                ∙ sym (append_assoc vals (val ∷ []) (vals_of (place_of tokens) end ds)));
            faulty =
                from
                ∙ (λ i. ((if new i then DuplicateVal (place_of tokens (k + 1)) ∷ [] else []) ++ map of_type (is_type.1 i))
                ++ faults_of (place_of tokens) (sym is_type.2 i) (d.declared ∷ r.earlier) ds);
            names = λ x. noted x ∙ (λ i. bytes_eq x (is_named.0 i) || r.names x i);
          }

  -- before the first declaration
  pub none_read : (ds : List Declaration) → spelled ds ≡ ts → (vals : List Val) → vals ≡ [] → (known : BTreeSet (List ℕ)) → known.keys ≡ []
      → AreRead text tokens 0 vals known
  none_read ds is vals empty known none = record {
    all = ds;
    spells = is;
    earlier = [];
    left = ds;
    spells_left = is;
    declares = ap (λ vs. vs ++ vals_of (place_of tokens) 0 ds) (sym empty);
    faulty = refl;
    names = λ x. ap (λ keys. contains (slice_cmp nat_cmp) (record { keys = keys }) x) none;
  }
