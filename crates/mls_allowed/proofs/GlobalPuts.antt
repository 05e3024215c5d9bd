-- What stands for the variables of the type of a name of the environment, at a use of it.
--     is_used, IsUsed     the tops of the type that the root leads to
--     used_heads, used_copied, used_layout        its book, where these are the places
--     global_puts         the joins of the copies of those that show a variable are what a use asks for
--     global_puts_low     and they are nodes of the book
--     global_copy         so the nodes of the type are those of a copy
use Rattle.std.proofs.Common.{◌≡◌, ◌↔◌, ◌⊎◌, inl, inr, ℕ, ◌+◌, ◌<◌, Bool, List, length, refl, sym, ap, ◌∙◌, subst, arith, Option, Some, None}
use Rattle.std.specs.Prelude.{IsTrue, is_some}
use Rattle.std.proofs.lemmas.List.{get_or_past}
use Rattle.std.specs.BTreeMap.{BTreeMap}
use Rattle.mls_book.specs.declared.book.Node.{Node}
use Rattle.mls_book.specs.declared.book.Node.TheVariants as node
use Rattle.mls_book.specs.Books.{node_at}
use Rattle.mls_book.proofs.LongerBooks.{below_or_more}
use Rattle.mls_automaton.specs.declared.automaton.Polarity.{Polarity}
use Rattle.mls_automaton.specs.declared.automaton.Polarity.TheVariants.{Negative, Positive}
use Rattle.mls_automaton.specs.declared.scheme.Scheme.{Scheme}
use Rattle.mls_automaton.specs.Automata.{Automaton, head_at}
use Rattle.mls_automaton.specs.Heads.{parts_of}
use Rattle.mls_flow.specs.Simulations.{IsHeadWithin}
use Rattle.mls_scheme.specs.ReadAutomata.{AreTops, HasVariable, IsReadFrom}
use Rattle.mls_scheme.specs.ReadTypes.{IsReadFromBook}
use Rattle.mls_scheme.specs.steps.Signs.{sign_at}
use Rattle.mls_scheme.proofs.ReadStates.{signed-tops}
use Rattle.mls_typetext.specs.declared.scheme.ReadScheme.{ReadScheme}
use Rattle.mls_typetext.specs.Laws.{IsReadScheme}
use Rattle.mls_deriv.specs.declared.claim.Put.{Put}
use Rattle.mls_deriv.specs.Pairs.{put_at}
use Rattle.mls_deriv.specs.Steps.{HasFrom}
use Rattle.mls_layout.specs.Trees.{IsPlaceIn, IsTree}
use Rattle.mls_layout.specs.Uses.{ArePuts, IsCopyOf, IsNameLayout, Shows}
use Rattle.mls_layout.proofs.TreesMade.{tree_same}
use Rattle.mls_parts.specs.MetCopies.{IsCopyMet}
use Rattle.mls_parts.specs.Posings.{or_zero}
use Rattle.mls_lines.specs.Puts.{AreJoins, IsJoinOf}
use Rattle.mls_lines.specs.Showing.{ShowTops, shown_by}
use Rattle.mls_lines.proofs.PutLists.{puts_hold, puts_there}
use Rattle.mls_typenodes.proofs.ReadLayouts.{HasTops, IsTopCopied, read_layout, read_variables, shown_variable, top_variables, variable_shown}

-- the book of the type stands among the nodes from n on, and these states show its variables
module _ (book : List Node) (n : ℕ) (read : ReadScheme) (from : HasFrom book n read.book) (known : Scheme) (is : IsReadFromBook read known) (showing : BTreeMap ℕ (List ℕ)) (shows : ShowTops read.book read.root.0 showing) where
  abbrev of : IsReadFrom read.book read.root.0 known.automaton
  of = is.automaton

  -- the tops that the root leads to
  abbrev pub is_used : ℕ → Bool
  is_used s = is_some (sign_at shows.signs s)

  abbrev pub IsUsed : ℕ → Type 0
  IsUsed s = IsTrue (is_used s)

  abbrev used_tops : AreTops read.book read.root.0 is_used
  used_tops = signed-tops read.book read.root.0 shows.signs shows.signed

  -- they have their signs, and are among those of the scheme
  used_sign : (s : ℕ) → IsUsed s → sign_at shows.signs s ≡ Some (of.sign s)
  used_sign s used = go (sign_at shows.signs s) refl used
    where
      go : (o : Option Polarity) → sign_at shows.signs s ≡ o → IsTrue (is_some o) → sign_at shows.signs s ≡ Some (of.sign s)
      go None e some = absurd (cc)
      go (Some p) e some = e ∙ ap Some (sym (shows.signed.signs_true of.sign of.polarised of.is_positive s p e))

  used_top : (s : ℕ) → IsUsed s → IsTrue (of.is_top s)
  used_top s used = shows.signed.least of.is_top of.tops s (of.sign s) (used_sign s used)

  abbrev used_variables : ℕ → List ℕ
  used_variables = top_variables book n read.book from of.closed of.sign of.polarised read.root.0 is_used used_tops

  pub used_heads : HasTops book n read.book from of.closed of.sign of.polarised read.root.0 is_used used_tops known.automaton
  used_heads = record {
    heads = λ i used. of.automaton.heads i (used_top i used);
    all_flows = λ l m x used_l used_m is_l is_m one two. of.automaton.all_flows l m x (used_top l used_l) (used_top m used_m) is_l is_m one two;
  }

  module _ (a : Automaton) (binder : ℕ → ℕ) (copy : ℕ → ℕ) (met : IsCopyMet a binder known copy) where
    pub used_copied : IsTopCopied book n read.book from of.closed of.sign of.polarised read.root.0 is_used used_tops known.automaton a copy
    used_copied = record {
      polarity = λ s used. met.polarity s ∙ of.automaton.polarity s (used_top s used);
      heads =
          λ s used.
          subst (λ p. IsHeadWithin (λ x y. copy x ≡ y) p (parts_of (head_at known.automaton s)) (parts_of (head_at a (copy s)))) (of.automaton.polarity s (used_top s used)) (met.heads s);
      flows = λ l m used_l used_m edge. met.flows l m edge;
    }

    abbrev pub used_layout : IsNameLayout book a IsUsed of.sign (λ s. n + s) copy
    used_layout = read_layout book n read.book from of.closed of.sign of.polarised read.root.0 is_used used_tops known.automaton a copy used_heads used_copied

    -- the copies of the states stand from one on
    module _ (is_read : IsReadScheme read) (place : ℕ → ℕ) (first : ℕ) (copies : (s : ℕ) → s < length read.book → copy s ≡ first + s) (puts : List Put)
        (joins : AreJoins book (λ s. place (first + s)) showing read.vars puts) where
      abbrev Joins : ℕ → ℕ → Type 0
      Joins x = IsJoinOf book (λ s. place (first + s)) (shown_by showing x)

      abbrev Copies : ℕ → ℕ → Type 0
      Copies x i = (m : ℕ) × IsUsed m × (of.sign m ≡ Negative) × Shows book used_variables m x × (place (copy m) ≡ i)

      has_variable : (s x : ℕ) → IsUsed s → Shows book used_variables s x → HasVariable read.book s x
      has_variable s x used it = shown_variable book n read.book from of.closed of.sign of.polarised read.root.0 is_used used_tops s x used it

      copy_place : (s : ℕ) → IsUsed s → place (copy s) ≡ place (first + s)
      copy_place s used = ap place (copies s (used_tops.low s used))

      -- the variable is one of the type's, so it has a node
      used_put : (s x : ℕ) → IsUsed s → Shows book used_variables s x → (i : ℕ) × (put_at puts x ≡ Some i) × Joins x i
      used_put s x used it =
          let (j, there, at) = has_variable s x used it in
          let low : j < length read.book = variable_low j x at in
          let few : x < read.vars = is_read.variables j x low at in
          let count : length puts ≡ read.vars = joins.count in
          puts_there Joins 0 puts joins.each x (omega arith) (omega (arith, few, count))
        where
          variable_low : (j x : ℕ) → node_at read.book j ≡ node.Var x → j < length read.book
          variable_low j x at = go (below_or_more j (length read.book))
            where
              go : (j < length read.book) ⊎ ((k : ℕ) × (j ≡ length read.book + k)) → j < length read.book
              go (inl low) = low
              go (inr (k, more)) = absurd (let past : node_at read.book j ≡ node.Bot = get_or_past read.book j node.Bot (omega (arith, more)) in let wrong : node.Bot ≡ node.Var x = sym past ∙ at in cc)

      same_copies : (x i : ℕ) → IsPlaceIn (λ s. place (first + s)) (shown_by showing x) i ↔ Copies x i
      same_copies x i = (
        (λ it.
            let (s, there, at) = it in
            let (negative, has) = (shows.members x s).0 there in
            let used : IsUsed s = ap is_some negative in (
              s,
              used,
              shows.signed.signs_true of.sign of.polarised of.is_positive s Negative negative,
              variable_shown book n read.book from of.closed of.sign of.polarised read.root.0 is_used used_tops s x used has,
              copy_place s used ∙ at,
            )),
        (λ it.
            let (s, used, negative, shown, at) = it in
            (s, (shows.members x s).1 (used_sign s used ∙ ap Some negative, has_variable s x used shown), sym (copy_place s used) ∙ at)),
      )

      pub used_puts : ArePuts book IsUsed of.sign used_variables place copy puts
      used_puts = record {
        joined = λ x. or_zero (put_at puts x);
        put = λ s x used it. let w = used_put s x used it in w.1 ∙ ap Some (sym (ap or_zero w.1));
        tree =
            λ s x used it.
            let w = used_put s x used it in
            subst (IsTree book Positive (Copies x)) (sym (ap or_zero w.1)) (tree_same book Positive (IsPlaceIn (λ s. place (first + s)) (shown_by showing x)) (Copies x) (same_copies x) w.0 w.2.1);
      }

      pub global_puts : ArePuts book IsUsed of.sign used_layout.variables place copy puts
      global_puts =
          subst (λ (variables : ℕ → List ℕ). ArePuts book IsUsed of.sign variables place copy puts)
          (sym (read_variables book n read.book from of.closed of.sign of.polarised read.root.0 is_used used_tops known.automaton a copy used_heads used_copied)) used_puts

      pub global_puts_low : (x i : ℕ) → put_at puts x ≡ Some i → i < length book
      global_puts_low x i e = (puts_hold Joins 0 puts joins.each x i e).0

      unfoldable pub global_copy : IsCopyOf book a place IsUsed read.root.0
      global_copy = record {
        sign = of.sign;
        known_place = λ s. n + s;
        copy = copy;
        type = used_layout;
        puts = puts;
        are = global_puts;
        low = global_puts_low;
        at_top = used_tops.has_root;
        is_positive = of.is_positive;
      }
