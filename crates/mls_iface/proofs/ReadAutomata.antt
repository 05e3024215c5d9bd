-- Two schemes that were read are compared by their automata.
--     automaton_made    the deterministic automaton of what was read
--     is_enough         where an automaton subsumes another, so does what it is of,
--     is_too_special    and where not, neither does that
use Rattle.std.proofs.Common.{◌≡◌, ℕ, ◌==◌, Bool, true, false, List, [], ◌∷◌, refl, sym, ap, ◌∙◌, cond, Some}
use Rattle.std.specs.Prelude.{is_some, option_map, find}
use Rattle.std.proofs.lemmas.Bool.{eq-eqb}
use Rattle.mls_book.specs.Schemes as book
use Rattle.mls_book.specs.Schemes.{AreEquivalent, Subsumes}
use Rattle.mls_book.proofs.Subsumption.{Subsumes-trans}
use Rattle.mls_typetext.specs.declared.scheme.ReadScheme.{ReadScheme}
use Rattle.mls_typetext.specs.Schemes.{scheme_of}
use Rattle.mls_automaton.specs.declared.scheme.EnvEntry.{EnvEntry}
use Rattle.mls_automaton.specs.declared.scheme.Scheme.{Scheme}
use Rattle.mls_automaton.specs.Models.{IsDeterministic}
use Rattle.mls_automaton.specs.Schemes.{IsScheme, AreEquivalentSchemes, HaveSameBinders, state_of}
use Rattle.mls_automaton.proofs.BooksExist.{scheme_exists}
use Rattle.mls_scheme.specs.ReadTypes.{IsEquivalentToRead}
use Rattle.mls_subsume.specs.declared.verdict.Path.{Path}
use Rattle.mls_subsume.specs.Failures.{IsFirstFailure}
use Rattle.mls_subsume.specs.Verdicts.{DoesSubsume, DoesNotSubsume}
use Rattle.mls_iface.specs.Matches.{IsAutomatonOf, IsAllowedPath}

first_there : (e : EnvEntry) (rest : List EnvEntry) → is_some (state_of (e ∷ rest) e.binder) ≡ true
first_there e rest = at (e.binder == e.binder) (eq-eqb e.binder e.binder refl)
  where
    at : (b : Bool) → b ≡ true → is_some (option_map (λ (f : EnvEntry). f.state.0) (cond b (Some e) (find (λ (f : EnvEntry). f.binder == e.binder) rest))) ≡ true
    at true is = refl
    at false is = absurd (cc)

no_entries : (env : List EnvEntry) → ((x : ℕ) → false ≡ is_some (state_of env x)) → env ≡ []
no_entries [] none = refl
no_entries (e ∷ rest) none = let no : false ≡ true = none e.binder ∙ first_there e rest in absurd (cc)

pub automaton_made : (read : ReadScheme) (s d : Scheme) → IsScheme s → s.env ≡ [] → IsEquivalentToRead read s → IsScheme d → IsDeterministic d.automaton
    → AreEquivalentSchemes s d → HaveSameBinders s d → IsAutomatonOf (scheme_of read) d
automaton_made read s d is no_env of_read is_d deterministic same binders =
    let b = scheme_exists s is in
    let read_as : AreEquivalent b.0 (scheme_of read) = of_read b.0 b.1 in
    record {
      is = is_d;
      no_binders = no_entries d.env (λ x. sym (ap (λ env. is_some (state_of env x)) no_env) ∙ binders x);
      deterministic = deterministic;
      equivalent = λ u is_u.
          let both : AreEquivalent b.0 u = same b.0 u b.1 is_u in
          (Subsumes-trans u b.0 (scheme_of read) both.1 read_as.0, Subsumes-trans (scheme_of read) b.0 u read_as.1 both.0);
    }

module _ (t v : book.Scheme) (general special : Scheme) (of_general : IsAutomatonOf t general) (of_special : IsAutomatonOf v special) where
  pub is_enough : DoesSubsume general special → Subsumes t v
  is_enough does =
      let b = scheme_exists general of_general.is in
      let c = scheme_exists special of_special.is in
      Subsumes-trans t b.0 v (of_general.equivalent b.0 b.1).1
      (Subsumes-trans b.0 c.0 v (does b.0 c.0 b.1 c.1) (of_special.equivalent c.0 c.1).0)

  pub is_too_special : (path : Path) → DoesNotSubsume general special → IsFirstFailure general special path → (Subsumes t v → ⊥) × IsAllowedPath t v path
  is_too_special path does_not first =
      let b = scheme_exists general of_general.is in
      let c = scheme_exists special of_special.is in (
        λ enough.
            does_not b.0 c.0 b.1 c.1
            (Subsumes-trans b.0 t c.0 (of_general.equivalent b.0 b.1).0 (Subsumes-trans t v c.0 enough (of_special.equivalent c.0 c.1).1)),
        record { general_automaton = general; special_automaton = special; of_general = of_general; of_special = of_special; first = first },
      )
