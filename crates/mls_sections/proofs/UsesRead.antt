-- The uses of names and the lets of a part are read as its lines ask, by what is told of what is put in at its nodes.
--     put_list            what is put in at each node
--     put_in              it is what the lines put in
--     is_place            the places of the type that is known of the name at a node
--     uses_read           the uses of names and the lets
use Rattle.std.proofs.Common.{◌≡◌, ◌⊎◌, inl, inr, ℕ, ◌+◌, ◌<◌, Bool, true, List, [], length, map, refl, sym, ap, ◌∙◌, subst, arith, Contains, slice_get, Option, Some, None}
use Rattle.std.specs.Prelude.{IsSome, IsTrue, is_some, option_map}
use Rattle.std.proofs.lemmas.Option.{slice_get-map}
use Rattle.std.specs.BTreeMap.{BTreeMap, get}
use Rattle.std.specs.Ordering.{nat_cmp}
use Rattle.mls_book.specs.declared.book.NodeId.{NodeId}
use Rattle.mls_book.specs.Books.{IsClosedBook}
use Rattle.mls_book.specs.Schemes as book
use Rattle.mls_automaton.specs.declared.automaton.Polarity.{Polarity}
use Rattle.mls_automaton.specs.declared.scheme.EnvEntry.{EnvEntry}
use Rattle.mls_automaton.specs.declared.scheme.Scheme.{Scheme}
use Rattle.mls_automaton.specs.Environments.{BindersRise}
use Rattle.mls_automaton.specs.Models.{IsClosed}
use Rattle.mls_automaton.specs.Schemes.{state_of, IsScheme}
use Rattle.mls_automaton.proofs.Lists.{Contains-map}
use Rattle.mls_scheme.specs.ReadTypes.{IsReadFromBook}
use Rattle.mls_scheme.specs.steps.Signs.{sign_at}
use Rattle.mls_typetext.specs.declared.scheme.ReadScheme.{ReadScheme}
use Rattle.mls_typetext.specs.Schemes.{scheme_of}
use Rattle.mls_term.specs.declared.term.TermForm.{TermForm}
use Rattle.mls_term.specs.declared.term.TermForm.TheVariants as form
use Rattle.mls_deriv.specs.declared.claim.Put.{Put}
use Rattle.mls_deriv.specs.Sections.{schemes_of}
use Rattle.mls_deriv.specs.Steps.{HasFrom, env_of, form_at, Before}
use Rattle.mls_layout.specs.declared.layout.Places.{Places}
use Rattle.mls_layout.specs.LaidOut.{place_of, IsTypeLaidOut}
use Rattle.mls_layout.specs.Lets.{FirstPart}
use Rattle.mls_layout.specs.PosedNodes.{IsUsable}
use Rattle.mls_parts.specs.declared.pose.Posing.{Posing}
use Rattle.mls_parts.specs.MetCopies.{HasCopy, IsUseMet}
use Rattle.mls_parts.specs.Posings.{binder_in, known_in, root_in}
use Rattle.mls_lines.specs.declared.known.FirstPart as known
use Rattle.mls_lines.specs.declared.known.GlobalAt.{GlobalAt}
use Rattle.mls_lines.specs.Conclusions.{AreClear}
use Rattle.mls_lines.specs.NodeLines.{NamesKnown, Standing}
use Rattle.mls_lines.specs.PlainLines.{ArePutIn}
use Rattle.mls_lines.specs.PlainParts.{ArePutInAt, type_binders}
use Rattle.mls_lines.specs.Puts.{AreJoins, ArePutsAt, ArePutsOfEdges, ArePutsOfFirst, IsNodeOfCopy, PutsFirst, PutsGlobal}
use Rattle.mls_allowed.specs.FirstTypes.{HaveOwnLets}
use Rattle.mls_sections.specs.KnownFirsts.{AreFirstsKnown, AreFirstsSaid, IsFirstKnown}
use Rattle.mls_sections.specs.KnownNames.{AreGlobalsOf, AreNameTypes, IsGlobalOf}
use Rattle.mls_allowed.specs.PartNodes.{IsPartNode}
use Rattle.mls_allowed.specs.ReadyParts.{needed_by, needed_binders, IsUseAround}
use Rattle.mls_allowed.specs.WrittenUses.{IsGlobalRead, IsInnerRead, IsLetRead, IsReadAs, IsUseRead}
use Rattle.mls_allowed.proofs.LetPuts.{edges_weaker, node_of_copy}
use Rattle.mls_sections.proofs.NamesOfPart.{binders_of, copy_at, copy_is, edge_puts, edges_put, first_among, first_env, first_of, first_said, first_type, names_of, root_of, said_is}
use Rattle.mls_allowed.proofs.ReadUses.{global_read, inner_read, let_read, state_entry}

-- What is put in at a node: what the lines put in, and at a let whose first part needs no binders a node for each edge.
module _ (p : Posing) (places : Places) where
  let_edges : Option known.FirstPart → Option Scheme → Option ℕ → List Put
  let_edges (Some part) (Some type) (Some first) = edge_puts (λ s. place_of places (copy_at (binder_in p) type first s)) part.variable type.automaton.flows
  let_edges (Some part) (Some type) None = []
  let_edges (Some part) None first = []
  let_edges None type first = []

  form_edges : BTreeMap ℕ known.FirstPart → BTreeMap ℕ Scheme → ℕ → Option TermForm → List Put
  form_edges firsts lets i (Some (form.Let k j l)) = let_edges (get nat_cmp firsts k) (known_in lets k) (get nat_cmp p.copies i)
  form_edges firsts lets i _ = []

  own_puts : List Put → Option (List Put) → List Put
  own_puts edges None = edges
  own_puts edges (Some puts) = puts

module _ (b : Before) (p : Posing) (members : List ℕ) (types lets : BTreeMap ℕ Scheme) (places : Places) (type_place : ℕ → ℕ) (parts : ℕ → List ℕ) (globals : BTreeMap ℕ GlobalAt) (firsts : BTreeMap ℕ known.FirstPart) (said : List FirstPart) (puts : ℕ → Option (List Put)) where
  pub put_list : ℕ → List Put
  put_list i = own_puts p places (form_edges p places firsts lets i (form_at b.term_nodes i)) (puts i)

  -- it is what the lines put in
  put_by : (i : ℕ) (o : Option (List Put)) → puts i ≡ o → ArePutIn o (put_list i)
  unfolding put_list own_puts
  put_by i None none = tt
  put_by i (Some own) some = ap (own_puts p places (form_edges p places firsts lets i (form_at b.term_nodes i))) some

  pub put_in : ArePutInAt puts (names_of globals firsts said put_list) members
  unfolding names_of
  put_in i there = put_by i (puts i) refl

  own_is : (i : ℕ) (own : List Put) → puts i ≡ Some own → put_list i ≡ own
  unfolding put_list own_puts
  own_is i own is = ap (own_puts p places (form_edges p places firsts lets i (form_at b.term_nodes i))) is

  edges_are : (i k j l : ℕ) (part : known.FirstPart) (type : Scheme) (first : ℕ) → form_at b.term_nodes i ≡ Some (form.Let k j l) → get nat_cmp firsts k ≡ Some part → known_in lets k ≡ Some type → get nat_cmp p.copies i ≡ Some first → puts i ≡ None
      → put_list i ≡ edge_puts (λ s. place_of places (copy_at (binder_in p) type first s)) part.variable type.automaton.flows
  unfolding put_list own_puts form_edges let_edges
  edges_are i k j l part type first is there is_known noted none =
      ap (own_puts p places (form_edges p places firsts lets i (form_at b.term_nodes i))) none
      ∙ (ap (form_edges p places firsts lets i) is
      ∙ (ap (λ o. let_edges p places o (known_in lets k) (get nat_cmp p.copies i)) there
      ∙ (ap (λ o. let_edges p places (Some part) o (get nat_cmp p.copies i)) is_known
      ∙ ap (let_edges p places (Some part) (Some type)) noted)))

  -- the places of the type that is known of the name at a node
  module _ (reads : List ReadScheme) (stand : AreGlobalsOf b.book reads globals) where
    signs_at : (g : ℕ) (o : Option GlobalAt) → get nat_cmp globals g ≡ o → List (Option Polarity)
    signs_at g None e = []
    signs_at g (Some global) e = (stand g global e).at.showing.signs

    -- what stands of a name, with these signs
    signed : (g : ℕ) (o : Option GlobalAt) (e : get nat_cmp globals g ≡ o) (global : GlobalAt) → o ≡ Some global → (it : IsGlobalOf b.book reads g global) × (signs_at g o e ≡ it.at.showing.signs)
    unfolding signs_at
    signed g None e global same = absurd (cc)
    signed g (Some other) e global same =
        let alike : other ≡ global = cc in
        let P : GlobalAt → Type 0 = λ z. (it : IsGlobalOf b.book reads g z) × ((stand g other e).at.showing.signs ≡ it.at.showing.signs) in
        subst P alike (stand g other e, refl)

    place_by : Option TermForm → ℕ → Bool
    place_by (Some (form.Global g)) s = is_some (sign_at (signs_at g (get nat_cmp globals g) refl) s)
    place_by _ s = true

    pub is_place : ℕ → ℕ → Bool
    is_place i = place_by (form_at b.term_nodes i)

    module _ (closed : IsClosedBook b.book) (inside : (s : ℕ) → place_of places s < length b.book) (are_schemes : b.globals ≡ schemes_of reads) (are_said : AreFirstsSaid b.term_nodes firsts b.lets said) (known_firsts : AreFirstsKnown b.book lets firsts)
        (name_types : AreNameTypes reads types)
        (own_lets : HaveOwnLets b.term_nodes)
        (puts_are : (i : ℕ) (f : TermForm) → Contains members i → form_at b.term_nodes i ≡ Some f → ArePutsAt b.book places p globals firsts lets i f (puts i))
        (clear : (k : ℕ) (part : known.FirstPart) → get nat_cmp firsts k ≡ Some part → (type : Scheme) → known_in lets k ≡ Some type
        → (own : List Put) (node : ℕ → ℕ) → ArePutsOfEdges (λ s n. n ≡ node s) type.automaton.flows part.variable own → AreClear b.book (IsPartNode b.book (place_of places) type_place) own) where
      abbrev names : NamesKnown
      names = names_of globals firsts said put_list

      abbrev at : Standing
      at = record { root = root_in p; binder = binder_in p; place = place_of places; parts = parts }

      abbrev Own : ℕ → Type 0
      Own = IsPartNode b.book (place_of places) type_place

      abbrev numbers : List ℕ
      numbers = map (λ (first : FirstPart). first.number) said

      abbrev IsPlace : ℕ → ℕ → Type 0
      IsPlace i s = IsTrue (is_place i s)

      -- a name of the environment
      global_use : (scope : List ℕ) (i g : ℕ) → form_at b.term_nodes i ≡ Some (form.Global g) → PutsGlobal b.book places p globals i g (puts i) → (s : Scheme) → known_in types g ≡ Some s
          → (has : HasCopy p.automaton (binder_in p) p.copies i s) → root_in p i ≡ has.copy s.root.0 → IsGlobalRead b p.automaton at names numbers IsPlace Own i g
      unfolding names_of first_of root_of is_place place_by
      global_use scope i g is put s s_is has root =
          let global : GlobalAt = put.global in
          let there : get nat_cmp globals g ≡ Some global = put.known in
          let (it, signs) = signed g (get nat_cmp globals g) refl global there in
          let type = name_types g s s_is in
          let read : ReadScheme = it.read in
          let both : Some type.read ≡ Some read = sym type.is ∙ it.is in
          let same_read : type.read ≡ read = cc in
          let from : IsReadFromBook read s = subst (λ (r : ReadScheme). IsReadFromBook r s) same_read type.from in
          let first_is : Some put.are.first ≡ Some has.first = sym put.are.copy ∙ has.noted in
          let same_first : put.are.first ≡ has.first = cc in
          let states : length s.automaton.states ≡ length read.book = from.automaton.automaton.same_length in
          let joins : AreJoins b.book (λ q. place_of places (has.first + q)) global.showing read.vars (put_list i) =
          subst (λ (own : List Put). AreJoins b.book (λ q. place_of places (has.first + q)) global.showing read.vars own) (sym (own_is i put.own put.is))
          (subst (λ n. AreJoins b.book (λ q. place_of places (has.first + q)) global.showing n put.own) it.at.variables
          (subst (λ n. AreJoins b.book (λ q. place_of places (n + q)) global.showing global.variables put.own) same_first put.are.joins)) in
          let first_is_at : names.from g ≡ global.first = ap first_of there in
          let root_is_at : names.type g ≡ global.root.0 = ap root_of there in
          global_read b p.automaton at names numbers Own i g read it.good s from global.showing it.at.showing
          (subst (λ n. HasFrom b.book n read.book) (sym first_is_at) it.at.from) has.copy has.met root has.first
          (λ q low. has.stands q (let few : q < length read.book = low in omega (arith, few, states)) (λ entry in_env. absurd (none_in entry (type.known.around entry in_env))))
          joins (scheme_of read) (ap (λ (gs : List book.Scheme). slice_get gs g) are_schemes ∙ (slice_get-map scheme_of reads g ∙ ap (option_map scheme_of) it.is)) refl refl
          (root_is_at ∙ (it.at.root ∙ ap (λ n. n + read.root.0) (sym first_is_at)))
          is_place
          (λ n q. (ap (λ o. place_by o q) is ∙ ap (λ (ss : List (Option Polarity)). is_some (sign_at ss q)) signs) n)
        where
          none_in : (entry : EnvEntry) → Contains {X = ℕ} [] entry.binder → ⊥
          none_in entry there = let low = there.1 in absurd (omega (arith, low))

      -- what is put in for a let: a node for each edge, that of the copy of the state where it begins
      module _ (i k : ℕ) (part : known.FirstPart) (there : get nat_cmp firsts k ≡ Some part) (s : Scheme) (s_is : known_in lets k ≡ Some s) (has : HasCopy p.automaton (binder_in p) p.copies i s) where
        abbrev first : IsFirstKnown b.book lets k part
        first = known_firsts k part there

        same_type : first.type ≡ s
        same_type = let both : Some first.type ≡ Some s = sym first.is_known ∙ s_is in cc

        abbrev copies : ℕ → ℕ → Type 0
        copies q n = n ≡ place_of places (has.copy q)

        first_is : IsScheme s
        first_is = subst IsScheme same_type first.is

        first_closed : IsClosed s.automaton
        first_closed = first_is.automaton

        edges_of : (own : List Put) → ArePutsOfFirst places p lets i k part.variable own → ArePutsOfEdges copies s.automaton.flows part.variable own
        edges_of own are =
            let type_is : Some are.known ≡ Some s = sym are.is_known ∙ s_is in
            let same : are.known ≡ s = cc in
            let first_is : Some are.first ≡ Some has.first = sym are.copy ∙ has.noted in
            let same_first : are.first ≡ has.first = cc in
            edges_weaker s.automaton first_closed (IsNodeOfCopy places p s has.first) copies (λ q n low is_node. node_of_copy p.automaton p s has.copy has.met has.first has.stands places q n low is_node) part.variable own
            (subst (λ n. ArePutsOfEdges (IsNodeOfCopy places p s n) s.automaton.flows part.variable own) same_first
            (subst (λ (z : Scheme). ArePutsOfEdges (IsNodeOfCopy places p z are.first) z.automaton.flows part.variable own) same are.edges))

        edges_none : (j l : ℕ) → form_at b.term_nodes i ≡ Some (form.Let k j l) → puts i ≡ None → ArePutsOfEdges copies s.automaton.flows part.variable (put_list i)
        edges_none j l is none =
            subst (ArePutsOfEdges copies s.automaton.flows part.variable) (sym (edges_are i k j l part s has.first is there s_is has.noted none))
            (edges_weaker s.automaton first_closed (λ q n. n ≡ place_of places (copy_at (binder_in p) s has.first q)) copies
            (λ q n low same. same ∙ ap (place_of places) (sym (copy_is p.automaton (binder_in p) s has.copy has.met has.first has.stands q low))) part.variable (edge_puts (λ q. place_of places (copy_at (binder_in p) s has.first q)) part.variable s.automaton.flows)
            (edges_put (λ q. place_of places (copy_at (binder_in p) s has.first q)) part.variable s.automaton.flows))

        -- the binders of its type are around
        scoped_by : (scope : List ℕ) → ((x : ℕ) → Contains (needed_by lets k) x → Contains scope x) → (x : ℕ) → IsSome (state_of s.env x) → Contains scope x
        scoped_by scope usable x some = by_state (state_of s.env x) refl some
          where
            by_state : (o : Option ℕ) → state_of s.env x ≡ o → IsSome o → Contains scope x
            by_state None none it = absurd (cc)
            by_state (Some q) is it =
                let (entry, in_env, binder, state) = state_entry s.env x q is in
                usable x
                (subst (λ (o : Option Scheme). Contains (needed_binders o) x) (sym s_is)
                (subst (Contains (map (λ (e : EnvEntry). e.binder) s.env)) binder (Contains-map (λ (e : EnvEntry). e.binder) s.env entry in_env)))

        abbrev IsAround : List ℕ → Type 0
        IsAround scope = (x : ℕ) → Contains (needed_by lets k) x → Contains scope x

        -- the type as it stands in the book
        first_laid : IsTypeLaidOut first.old s.automaton part.variable b.book (place_of first.places)
        first_laid = subst (λ (z : Scheme). IsTypeLaidOut first.old z.automaton part.variable b.book (place_of first.places)) same_type first.laid

        env_is : (first_among said k).env ≡ env_of (type_binders s first.places)
        env_is =
            first_env b.term_nodes globals firsts b.lets said are_said k part there
            ∙ (ap env_of first.env ∙ ap (λ (z : Scheme). env_of (type_binders z first.places)) same_type)

        root_at : (first_among said k).type ≡ place_of first.places s.root.0
        root_at =
            first_type b.term_nodes globals firsts b.lets said are_said k part there
            ∙ (ap (λ (id : NodeId). id.0) first.root ∙ ap (λ (z : Scheme). place_of first.places z.root.0) same_type)

        binders_at : names.binders k ≡ type_binders s first.places
        unfolding names_of binders_of
        binders_at = ap binders_of there ∙ (first.env ∙ ap (λ (z : Scheme). type_binders z first.places) same_type)

        in_numbers : Contains numbers k
        in_numbers =
            let it = first_said b.term_nodes globals firsts b.lets said are_said k part there in
            subst (Contains numbers) it.1 (Contains-map (λ (f : FirstPart). f.number) said (first_among said k) it.0)

        inner_use : (scope : List ℕ) → IsAround scope → ((q : ℕ) → IsPlace i q) → root_in p i ≡ has.copy s.root.0 → (own : List Put) → puts i ≡ Some own → ArePutsOfFirst places p lets i k part.variable own
            → IsInnerRead b p.automaton at names numbers IsPlace Own scope i k
        unfolding names_of
        inner_use scope usable all root own own_is_put are =
            inner_read b p.automaton p places parts names numbers is_place Own scope i k s first_is first.old part.variable first.places first_laid first.inside inside has.copy has.met
            (subst (ArePutsOfEdges copies s.automaton.flows part.variable) (sym (own_is i own own_is_put)) (edges_of own are)) all (scoped_by scope usable) env_is in_numbers
            root root_at binders_at closed (subst (λ (z : Scheme). BindersRise z.env) same_type first.rise)

        let_use : (scope : List ℕ) → IsAround scope → ((q : ℕ) → IsPlace i q) → (j l : ℕ) → form_at b.term_nodes i ≡ Some (form.Let k j l)
            → ((part.env ≡ []) × (puts i ≡ None)) ⊎ PutsFirst places p lets i k part (puts i) → IsLetRead b p.automaton at names numbers IsPlace Own scope i k j
        unfolding names_of
        let_use scope usable all j l is put =
            let edges : ArePutsOfEdges copies s.automaton.flows part.variable (put_list i) =
            elim put [ inl nothing ↦ edges_none j l is nothing.1 | inr it ↦ subst (ArePutsOfEdges copies s.automaton.flows part.variable) (sym (own_is i it.own it.is)) (edges_of it.own it.are) ] in
            let_read b p.automaton p places parts names numbers is_place Own scope i k s first_is first.old part.variable first.places first_laid first.inside inside has.copy has.met
            edges all (scoped_by scope usable) env_is in_numbers j first_part (clear k part there s s_is (put_list i) (λ q. place_of places (has.copy q)) edges)
          where
            first_part : (first_among said k).part ≡ j
            first_part =
                let it = said_is b.term_nodes globals firsts b.lets said are_said k part there in
                let number : (first_among said k).number ≡ k = (first_said b.term_nodes globals firsts b.lets said are_said k part there).1 in
                let there_is : form_at b.term_nodes it.node ≡ Some (form.Let k (first_among said k).part it.second) = subst (λ n. form_at b.term_nodes it.node ≡ Some (form.Let n (first_among said k).part it.second)) number it.is in
                let one : it.node ≡ i = own_lets it.node i k (first_among said k).part it.second j l there_is is in
                let both : Some (form.Let k (first_among said k).part it.second) ≡ Some (form.Let k j l) = sym (subst (λ n. form_at b.term_nodes n ≡ Some (form.Let k (first_among said k).part it.second)) one there_is) ∙ is in
                cc

      -- by the form of the node
      use_by : (scope : List ℕ) (i : ℕ) (f : TermForm) → form_at b.term_nodes i ≡ Some f → ArePutsAt b.book places p globals firsts lets i f (puts i) → IsUsable (needed_by lets) scope f
          → IsUseMet (known_in types) (known_in lets) p.automaton (root_in p) (binder_in p) p.copies i f → IsReadAs b p.automaton at names numbers IsPlace Own scope i (Some f)
      unfolding is_place place_by
      use_by scope i (form.Inner k) is put usable (s, s_is, has, root) =
          inner_use i k put.part put.known s s_is has scope usable (λ q. subst (λ o. IsTrue (place_by o q)) (sym is) refl) root put.first.own put.first.is put.first.are
      use_by scope i (form.Global g) is put usable (s, s_is, has, root) = global_use scope i g is put s s_is has root
      use_by scope i (form.Let k j l) is put usable (s, s_is, has) =
          let_use i k put.part put.known s s_is has scope usable (λ q. subst (λ o. IsTrue (place_by o q)) (sym is) refl) j l is put.first
      use_by scope i (form.Bound x) is put usable met = absurd usable
      use_by scope i (form.Number value) is put usable met = absurd usable
      use_by scope i (form.Truth value) is put usable met = absurd usable
      use_by scope i (form.Fun x j) is put usable met = absurd usable
      use_by scope i (form.Apply j k) is put usable met = absurd usable
      use_by scope i (form.Make ps) is put usable met = absurd usable
      use_by scope i (form.Project j label) is put usable met = absurd usable
      use_by scope i (form.If j k l) is put usable met = absurd usable
      use_by scope i (form.Rec x j) is put usable met = absurd usable

      pub uses_read : (scope : List ℕ) (i : ℕ) → IsUseAround b.term_nodes types lets p members scope i → IsUseRead b p.automaton at names numbers IsPlace Own scope i
      uses_read scope i (there, f, is, usable, met) =
          subst (IsReadAs b p.automaton at names numbers IsPlace Own scope i) (sym is) (use_by scope i f is (puts_are i f there is) usable met)
