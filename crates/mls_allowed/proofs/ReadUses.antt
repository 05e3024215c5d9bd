-- The uses of names and the lets of a part are read as its lines ask, where it is told what is put in at them.
--     state_entry         the entry of a binder that has a state
--     global_read         a name of the environment
--     first_copy          the nodes of the type of a let's first part, at a use of it
--     first_bound         the binders of that type are around
--     inner_read          a name that a let binds
--     let_read            a let
use Rattle.std.proofs.Common.{◌≡◌, ◌≢◌, ◌⊎◌, inl, inr, ℕ, ◌+◌, ◌<◌, ◌≤◌, ◌==◌, Bool, true, false, List, [], ◌∷◌, length, refl, sym, ap, ◌∙◌, subst, arith, Contains, slice_get, Option, Some, None}
use Rattle.std.specs.Prelude.{IsSome, IsTrue, cond, is_some, find, option_map}
use Rattle.std.proofs.lemmas.Bool.Decides.{eqb_tells}
use Rattle.std.proofs.lemmas.List.Elements.{Contains-append_right}
use Rattle.mls_typing.proofs.Lists.{Contains-here}
use Rattle.std.specs.BTreeMap.{BTreeMap}
use Rattle.std.specs.FinMap as env
use Rattle.mls_book.specs.declared.book.Node.{Node}
use Rattle.mls_book.specs.Books.{IsClosedBook}
use Rattle.mls_book.specs.Schemes as book
use Rattle.mls_automaton.specs.declared.automaton.Polarity.TheVariants.{Negative}
use Rattle.mls_automaton.specs.declared.scheme.EnvEntry.{EnvEntry}
use Rattle.mls_automaton.specs.declared.scheme.Scheme.{Scheme}
use Rattle.mls_automaton.specs.Automata.{Automaton, polarity_at}
use Rattle.mls_automaton.specs.Environments.{BindersRise}
use Rattle.mls_automaton.specs.Schemes.{state_of, IsScheme}
use Rattle.mls_scheme.specs.ReadTypes.{IsReadFromBook}
use Rattle.mls_scheme.specs.steps.Signs.{sign_at}
use Rattle.mls_typetext.specs.declared.scheme.ReadScheme.{ReadScheme}
use Rattle.mls_typetext.specs.Laws.{IsReadScheme}
use Rattle.mls_deriv.specs.Steps.{HasFrom, env_of, Before}
use Rattle.mls_layout.specs.declared.layout.Places.{Places}
use Rattle.mls_layout.specs.LaidOut.{place_of, IsTypeLaidOut}
use Rattle.mls_layout.specs.Rows.{Fits}
use Rattle.mls_layout.specs.Uses.{IsCopyOf}
use Rattle.mls_layout.proofs.EdgeVariables.{edge_variables}
use Rattle.mls_parts.specs.declared.pose.Posing.{Posing}
use Rattle.mls_parts.specs.MetCopies.{IsCopyMet}
use Rattle.mls_parts.specs.Posings.{binder_in, or_zero, root_in}
use Rattle.mls_lines.specs.Conclusions.{AreClear}
use Rattle.mls_lines.specs.NodeLines.{NamesKnown, Standing}
use Rattle.mls_lines.specs.PlainParts.{type_binders}
use Rattle.mls_lines.specs.Puts.{AreJoins, ArePutsOfEdges}
use Rattle.mls_lines.specs.Showing.{ShowTops}
use Rattle.mls_allowed.specs.WrittenUses.{IsGlobalRead, IsInnerRead, IsLetRead}
use Rattle.mls_allowed.proofs.GlobalPuts.{global_copy}
use Rattle.mls_allowed.proofs.LetPuts.{let_puts, let_puts_low}
use Rattle.mls_allowed.proofs.NameLayouts.{name_layout}
use Rattle.mls_allowed.proofs.PartLines.{type_binder, type_fits}
use Rattle.mls_allowed.proofs.UseCopies.{use_copy}

-- the entry of a binder that has a state
pub state_entry : (entries : List EnvEntry) (x s : ℕ) → state_of entries x ≡ Some s → (e : EnvEntry) × Contains entries e × (e.binder ≡ x) × (e.state.0 ≡ s)
state_entry [] x s e = absurd (cc)
state_entry (first ∷ rest) x s found = go (eqb_tells first.binder x) (state_entry rest x s)
  where
    tested : Bool → Option ℕ
    tested t = option_map (λ (e : EnvEntry). e.state.0) (cond t (Some first) (find (λ (e : EnvEntry). e.binder == x) rest))

    go : (((first.binder == x) ≡ true) × (first.binder ≡ x)) ⊎ (((first.binder == x) ≡ false) × (first.binder ≢ x)) → (state_of rest x ≡ Some s → (e : EnvEntry) × Contains rest e × (e.binder ≡ x) × (e.state.0 ≡ s))
        → (e : EnvEntry) × Contains (first ∷ rest) e × (e.binder ≡ x) × (e.state.0 ≡ s)
    go (inl same) later = let is : Some first.state.0 ≡ Some s = sym (ap tested same.0) ∙ found in (first, Contains-here first rest, same.1, ap or_zero is)
    go (inr unlike) later = let (e, there, binder, state) = later (sym (ap tested unlike.0) ∙ found) in (e, Contains-append_right (first ∷ []) rest e there, binder, state)

-- A name of the environment, whose type was read, and has a copy whose states stand from one on.
module _ (b : Before) (a : Automaton) (at : Standing) (names : NamesKnown) (lets : List ℕ) (Own : ℕ → Type 0) (i g : ℕ) (read : ReadScheme) (is_read : IsReadScheme read) (known : Scheme) (is : IsReadFromBook read known) (showing : BTreeMap ℕ (List ℕ)) (shows : ShowTops read.book read.root.0 showing)
    (from : HasFrom b.book (names.from g) read.book) (copy : ℕ → ℕ) (met : IsCopyMet a at.binder known copy) (is_root : at.root i ≡ copy known.root.0) (first : ℕ) (copies : (s : ℕ) → s < length read.book → copy s ≡ first + s)
    (joins : AreJoins b.book (λ s. at.place (first + s)) showing read.vars (names.puts i)) (scheme : book.Scheme) (there : slice_get b.globals g ≡ Some scheme) (same_book : scheme.book ≡ read.book) (same_root : scheme.root ≡ read.root.0) (type : names.type g ≡ names.from g + read.root.0) where
  abbrev Copied : (ℕ → Bool) → Type 0
  Copied test = (c : IsCopyOf b.book a at.place (λ s. IsTrue (test s)) read.root.0) × (c.copy ≡ copy) × (c.known_place ≡ (λ s. names.from g + s)) × (c.puts ≡ names.puts i)

  global_copied : Copied (λ s. is_some (sign_at shows.signs s))
  unfolding global_copy
  global_copied = (global_copy b.book (names.from g) read from known is showing shows a at.binder copy met is_read at.place first copies (names.puts i) joins, refl, refl, refl)

  pub global_read : (is_place : ℕ → ℕ → Bool) → is_place i ≡ (λ s. is_some (sign_at shows.signs s)) → IsGlobalRead b a at names lets (λ j s. IsTrue (is_place j s)) Own i g
  global_read is_place places =
      let c = subst Copied (sym places) global_copied in
      record {
        top = read.root.0;
        copied = c.0;
        is_root = ap (λ f. f read.root.0) c.1 ∙ (ap copy (sym is.root) ∙ sym is_root);
        scheme = scheme;
        known = there;
        stands = subst (HasFrom b.book (names.from g)) (sym same_book) from;
        type = type ∙ ap (λ r. names.from g + r) (sym same_root);
        at_top = type ∙ sym (ap (λ f. f read.root.0) c.2);
        inside = let within : names.from g + length read.book ≤ length b.book = from.within in let low : read.root.0 < length read.book = is_read.root in subst (λ n. n < length b.book) (sym type) (omega (arith, within, low));
        puts = sym c.3;
      }

-- A use of the name of a let, or the let, whose first part has a type that is laid out, with a variable for each edge, and
-- has a copy.
module _ (b : Before) (a : Automaton) (p : Posing) (places : Places) (parts : ℕ → List ℕ) (names : NamesKnown) (lets : List ℕ) (is_place : ℕ → ℕ → Bool) (Own : ℕ → Type 0) (scope : List ℕ) (i k : ℕ) (known : Scheme) (is : IsScheme known) (old : List Node) (first : ℕ) (type_places : Places)
    (laid : IsTypeLaidOut old known.automaton first b.book (place_of type_places)) (inside : (s : ℕ) → place_of type_places s < length b.book) (own_inside : (s : ℕ) → place_of places s < length b.book) (copy : ℕ → ℕ) (met : IsCopyMet a (binder_in p) known copy)
    (edges : ArePutsOfEdges (λ s n. n ≡ place_of places (copy s)) known.automaton.flows first (names.puts i)) (all : (s : ℕ) → IsTrue (is_place i s))
    (scoped : (x : ℕ) → IsSome (state_of known.env x) → Contains scope x) (first_env : (names.first k).env ≡ env_of (type_binders known type_places)) (known_there : Contains lets k) where
  abbrev IsPlace : ℕ → Type 0
  IsPlace s = IsTrue (is_place i s)

  abbrev at : Standing
  at = record { root = root_in p; binder = binder_in p; place = place_of places; parts = parts }

  pub first_copy : (c : IsCopyOf b.book a (place_of places) IsPlace known.root.0) × (c.sign ≡ polarity_at known.automaton) × (c.known_place ≡ place_of type_places) × (c.copy ≡ copy) × (c.puts ≡ names.puts i)
  unfolding name_layout use_copy
  first_copy = (
    use_copy b.book a (binder_in p) known copy met is IsPlace all (place_of type_places) (place_of places) laid.layout (edge_variables known.automaton is.automaton old b.book first (place_of type_places) laid) (names.puts i)
        (let_puts known.automaton is.automaton first (place_of places) copy (λ s n. n ≡ place_of places (copy s)) (λ s n low same. same) (names.puts i) edges old b.book (place_of type_places) laid IsPlace all)
        (let_puts_low known.automaton is.automaton first (place_of places) copy (λ s n. n ≡ place_of places (copy s)) (λ s n low same. same) (names.puts i) edges b.book own_inside),
    refl,
    refl,
    refl,
    refl,
  )

  -- a binder of the type is around, and its state has that of the binder as its copy
  first_bound : (x n : ℕ) → env.get (names.first k).env x ≡ Some n → Contains scope x × (s : ℕ) × (n ≡ first_copy.0.known_place s) × IsPlace s × (first_copy.0.sign s ≡ Negative) × (first_copy.0.copy s ≡ binder_in p x)
  first_bound x n found = go (state_of known.env x) refl (sym (ap (λ d. env.get d x) first_env ∙ type_binder type_places known x) ∙ found)
    where
      go : (o : Option ℕ) → state_of known.env x ≡ o → option_map (place_of type_places) (state_of known.env x) ≡ Some n → Contains scope x × (s : ℕ) × (n ≡ first_copy.0.known_place s) × IsPlace s × (first_copy.0.sign s ≡ Negative) × (first_copy.0.copy s ≡ binder_in p x)
      go None none got = let nothing : option_map (place_of type_places) (state_of known.env x) ≡ None = ap (option_map (place_of type_places)) none in absurd (cc)
      go (Some s) some got =
          let there : option_map (place_of type_places) (state_of known.env x) ≡ Some (place_of type_places s) = ap (option_map (place_of type_places)) some in
          let at_state : place_of type_places s ≡ n = cc in
          let (entry, held, binder, state) = state_entry known.env x s some in (
            scoped x (ap is_some some),
            s,
            sym at_state ∙ sym (ap (λ f. f s) first_copy.2),
            all s,
            ap (λ f. f s) first_copy.1 ∙ (is.env x s some).polarity,
            ap (λ f. f s) first_copy.3 ∙ (ap copy (sym state) ∙ (met.bound entry held ∙ ap (binder_in p) binder)),
          )

  pub inner_read : root_in p i ≡ copy known.root.0 → (names.first k).type ≡ place_of type_places known.root.0 → names.binders k ≡ type_binders known type_places → IsClosedBook b.book → BindersRise known.env → IsInnerRead b a at names lets (λ j s. IsTrue (is_place j s)) Own scope i k
  inner_read is_root type binders closed rise = record {
    known = known_there;
    top = known.root.0;
    copied = first_copy.0;
    is_root = ap (λ f. f known.root.0) first_copy.3 ∙ sym is_root;
    at_top = type ∙ sym (ap (λ f. f known.root.0) first_copy.2);
    env = first_env ∙ ap env_of (sym binders);
    fits = subst (λ d. Fits b d (names.first k).type) (sym binders) (subst (Fits b (type_binders known type_places)) (sym type) (type_fits type_places b known closed inside rise));
    bound = first_bound;
    puts = sym first_copy.4;
  }

  pub let_read : (j : ℕ) → (names.first k).part ≡ j → AreClear b.book Own (names.puts i) → IsLetRead b a at names lets (λ j s. IsTrue (is_place j s)) Own scope i k j
  let_read j part clear = record {
    known = known_there;
    part = part;
    top = known.root.0;
    copied = first_copy.0;
    bound = first_bound;
    low = λ x n found. let w = first_bound x n found in subst (λ m. m < length b.book) (sym (w.2 ∙ ap (λ f. f w.1) first_copy.2)) (inside w.1);
    clear = subst (AreClear b.book Own) (sym first_copy.4) clear;
    puts = sym first_copy.4;
  }
