-- The lines of a part, with those that bring its root to its type.
--     binders_rising, binders_low     the binders of a type
--     at_end              the last node
--     whole_writes        the lines of the nodes, and then the last ones
use Rattle.std.proofs.Common.{◌≡◌, ℕ, suc, ◌+◌, ◌-◌, ◌<◌, ◌≤◌, List, [], ◌∷◌, ◌++◌, length, map, take, get_or, sym, ap, ◌∙◌, subst, arith, append-nil, Bool, true, false, cond, Some}
use Rattle.std.specs.Prelude.{All}
use Rattle.std.specs.List.{flat_map}
use Rattle.std.specs.BTreeMap.{BTreeMap}
use Rattle.std.proofs.lemmas.List.{take_all, take_more}
use Rattle.std.proofs.lemmas.List.Elements.{All-nil, All-cons}
use Rattle.mls_automaton.specs.declared.scheme.EnvEntry.{EnvEntry}
use Rattle.mls_automaton.specs.declared.scheme.Scheme.{Scheme}
use Rattle.mls_automaton.specs.Environments.{BindersRise}
use Rattle.mls_book.specs.declared.book.Node.{Node}
use Rattle.mls_book.specs.declared.book.NodeId.{NodeId}
use Rattle.mls_book.specs.Books.{IsClosedBook}
use Rattle.mls_term.specs.declared.term.TermNode.{TermNode}
use Rattle.mls_deriv.specs.declared.derivation.BinderNode.{BinderNode}
use Rattle.mls_deriv.specs.declared.derivation.StepLine.{StepLine}
use Rattle.mls_deriv.specs.Sections.{steps_of}
use Rattle.mls_deriv.specs.Steps.{IsRising}
use Rattle.mls_layout.specs.declared.layout.LaidOut.{LaidOut}
use Rattle.mls_layout.specs.declared.layout.Places.{Places}
use Rattle.mls_layout.specs.LaidOut.{place_of}
use Rattle.mls_layout.specs.Parts.{Constraint}
use Rattle.mls_layout.specs.Plans.{planned_steps}
use Rattle.mls_layout.specs.Scopes.{entry}
use Rattle.mls_parts.specs.declared.pose.Posing.{Posing}
use Rattle.mls_parts.specs.Posings.{binder_in, root_in}
use Rattle.mls_lines.specs.declared.known.FirstPart.{FirstPart}
use Rattle.mls_lines.specs.declared.known.GlobalAt.{GlobalAt}
use Rattle.mls_lines.specs.declared.steps.Steps.{Steps}
use Rattle.mls_lines.specs.declared.writer.Writer as state
use Rattle.mls_lines.specs.Conclusions.{Concluded, IsBrought}
use Rattle.mls_lines.specs.Writings.{IsWriting}
use Rattle.mls_layout.specs.LaidOut.{IsLonger}
use Rattle.mls_lines.specs.Stepping.{Adds}
use Rattle.mls_lines.specs.PlainLines.{HaveLowPlaces}
use Rattle.mls_lines.specs.Puts.{ArePutsAt}
use Rattle.mls_lines.specs.Writer.{BringsNode, HasLowEnv}
use Rattle.mls_lines.proofs.Scopes.{looked, got}
use Rattle.std.specs.Ordering.{nat_cmp, eq_by_cmp}
use Rattle.mls_lines.specs.PlainParts.{WritesPart, WritesWhole, type_binders}
use Rattle.mls_lines.proofs.Growing.{longer_then}
use Rattle.mls_lines.proofs.Bringing.{adds_steps, adds_then}

-- the binders of a type rise
module _ (places : Places) where
  above : (x : ℕ) (env : List EnvEntry) → ((j : ℕ) (d : EnvEntry) → j < length env → x < (get_or env j d).binder)
      → All (λ (later : BinderNode). x < later.binder) (map (λ (e : EnvEntry). entry e.binder (place_of places e.state.0)) env)
  above x [] each = All-nil (λ (later : BinderNode). x < later.binder)
  above x (first ∷ env) each =
      All-cons (λ (later : BinderNode). x < later.binder) (entry first.binder (place_of places first.state.0)) (map (λ (e : EnvEntry). entry e.binder (place_of places e.state.0)) env) (each 0 first (omega arith))
      (above x env (λ j d low. each (suc j) d (omega (arith, low))))

  rising_all : (env : List EnvEntry) → BindersRise env → IsRising (map (λ (e : EnvEntry). entry e.binder (place_of places e.state.0)) env)
  rising_all [] rise = tt
  rising_all (first ∷ env) rise = (
    above first.binder env (λ j d low. rise 0 (suc j) d (omega arith) (omega (arith, low))),
    rising_all env (λ i j d less low. rise (suc i) (suc j) d (omega (arith, less)) (omega (arith, low))),
  )

  pub binders_rising : (s : Scheme) → BindersRise s.env → IsRising (type_binders s places)
  binders_rising s rise = rising_all s.env rise

-- and have nodes of the book
module _ (n : ℕ) (places : Places) (low : HaveLowPlaces n places) where
  binder_low : (env : List EnvEntry) (x m : ℕ) → looked (map (λ (e : EnvEntry). entry e.binder (place_of places e.state.0)) env) x ≡ Some m → m < n
  binder_low [] x m found = absurd (cc)
  binder_low (e ∷ env) x m found = by_test (eq_by_cmp nat_cmp x e.binder) found (binder_low env x m)
    where
      by_test : (t : Bool) → cond t (Some (place_of places e.state.0)) (looked (map (λ (e : EnvEntry). entry e.binder (place_of places e.state.0)) env) x) ≡ Some m
          → (looked (map (λ (e : EnvEntry). entry e.binder (place_of places e.state.0)) env) x ≡ Some m → m < n) → m < n
      by_test true is later = (let same : place_of places e.state.0 ≡ m = cc in subst (λ k. k < n) same (low e.state.0))
      by_test false is later = later is

  pub binders_low : (s : Scheme) → HasLowEnv n (type_binders s places)
  binders_low s = λ x m found. binder_low s.env x m (sym (got (type_binders s places) x) ∙ found)

-- the last member stands behind the others
pub at_end : (xs : List ℕ) (x : ℕ) → 0 < length xs → x ≡ get_or xs (length xs - 1) x → xs ≡ take (length xs - 1) xs ++ x ∷ []
at_end xs x low is =
    let high : length xs ≤ (length xs - 1) + 1 = omega (arith, low) in
    let less : length xs - 1 < length xs = omega (arith, low) in
    sym (take_all ((length xs - 1) + 1) xs high) ∙ (take_more xs (length xs - 1) x less ∙ ap (λ y. take (length xs - 1) xs ++ y ∷ []) (sym is))

module _ (globals : BTreeMap ℕ GlobalAt) (firsts : BTreeMap ℕ FirstPart) (lets : BTreeMap ℕ Scheme) (c : Constraint) (p : Posing) (parts : ℕ → List ℕ) (nodes : List TermNode) (members : List ℕ) (laid : LaidOut)
    (begun : Steps) (first last new : state.Writer) (same : first.laid ≡ laid) (from : first.steps ≡ begun) (it : WritesPart globals firsts lets c p parts nodes members first last) where
  pub whole_writes : (earlier : List ℕ) (root : ℕ) (d : List BinderNode) (u : NodeId) (number : ℕ) → members ≡ earlier ++ root ∷ [] → BringsNode last new root d u number
      → WritesWhole globals firsts lets c p parts nodes members laid begun new.steps new.laid.book d u.0 number
  whole_writes earlier root d u number at_end brings =
      let book_is : new.laid.book ≡ last.laid.book = λ n. (brings.laid n).book in
      let longer_now : IsLonger last.laid.book new.laid.book = ([], book_is ∙ sym (append-nil last.laid.book)) in
      let steps_are : steps_of last.steps.lines ≡ steps_of begun.lines ++ planned_steps (flat_map it.plan members) =
      adds_steps last.laid.book first.steps last.steps (flat_map it.plan members) it.adds ∙ ap (λ (s : Steps). steps_of s.lines ++ planned_steps (flat_map it.plan members)) from in
      record {
        earlier = earlier;
        root = root;
        last = at_end;
        puts = it.puts;
        plan = it.plan;
        of = it.of;
        writing = λ b longer nodes_are names are_names put_in.
            subst
            (λ (l : LaidOut).
            (w : IsWriting b c (record { root = root_in p; binder = binder_in p; place = place_of l.places; parts = parts }) names (steps_of begun.lines) members) × (w.plan ≡ it.plan) × (w.of ≡ it.of))
            same
            (subst
            (λ (s : Steps).
            (w : IsWriting b c (record { root = root_in p; binder = binder_in p; place = place_of first.laid.places; parts = parts }) names (steps_of s.lines) members) × (w.plan ≡ it.plan)
            × (w.of ≡ it.of))
            from (it.writing b (longer_then last.laid.book new.laid.book b.book longer_now longer) nodes_are names are_names put_in));
        puts_are = λ closed i f there form_is.
            subst (λ (l : LaidOut). ArePutsAt new.laid.book l.places p globals firsts lets i f (it.puts i)) same
            (subst (λ (book : List Node). ArePutsAt book first.laid.places p globals firsts lets i f (it.puts i)) (sym book_is)
            (it.puts_are (subst (λ (l : LaidOut). IsClosedBook l.book) (sym same) closed) i f there form_is));
        lines = brings.plan;
        brought =
            subst (λ (l : List StepLine). IsBrought (it.of root) (length l) root d u.0 brings.plan number) steps_are
            (subst (λ (o : Concluded). IsBrought o (length (steps_of last.steps.lines)) root d u.0 brings.plan number) (sym (it.concluded root brings.own brings.known).1) brings.brought);
        longer = subst (λ (l : LaidOut). IsLonger l.book new.laid.book) same (longer_then first.laid.book last.laid.book new.laid.book it.keeps.book longer_now);
        closed = subst IsClosedBook (sym book_is) it.sound.closed;
        adds =
            subst (λ (book : List Node). Adds book begun new.steps (flat_map it.plan members ++ brings.plan)) (sym book_is)
            (subst (λ (s : Steps). Adds last.laid.book s new.steps (flat_map it.plan members ++ brings.plan)) from
            (adds_then last.laid.book first.steps last.steps new.steps (flat_map it.plan members) brings.plan it.adds brings.adds));
      }
