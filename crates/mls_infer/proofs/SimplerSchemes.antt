-- A simpler scheme that is equivalent to a most general one is most general too.
--     simpler_env       without binders it stays
--     simpler_best      the theorem
use Rattle.std.proofs.Common.{◌≡◌, ℕ, Bool, true, false, List, [], ◌∷◌, refl, sym, ap, ◌∙◌, subst, Some}
use Rattle.std.specs.Prelude.{cond, find, is_some, option_map, ◌==◌}
use Rattle.std.proofs.lemmas.Bool.{eq-eqb}
use Rattle.mls_book.specs.Schemes as book
use Rattle.mls_automaton.specs.declared.scheme.EnvEntry.{EnvEntry}
use Rattle.mls_automaton.specs.declared.scheme.Scheme.{Scheme}
use Rattle.mls_automaton.specs.Schemes.{AreEquivalentSchemes, HaveSameBinders, IsScheme, IsSchemeOf, state_of}
use Rattle.mls_automaton.proofs.BooksExist.{scheme_exists}
use Rattle.mls_term.specs.Terms.{TermTree}
use Rattle.mls_term.specs.Derivations.{Known, IsBest}
use Rattle.mls_term.proofs.Metatheory.{best_stays}
use Rattle.mls_typing.proofs.Lists.{nothing_in}
use Rattle.mls_infer.proofs.Models.{EachFound}
use Rattle.mls_infer.proofs.Reading.{read_as}

-- the first binder of an environment has a state
first_there : (e : EnvEntry) (rest : List EnvEntry) → is_some (state_of (e ∷ rest) e.binder) ≡ true
first_there e rest = at (e.binder == e.binder) (eq-eqb e.binder e.binder refl)
  where
    at : (b : Bool) → b ≡ true → is_some (option_map (λ (f : EnvEntry). f.state.0) (cond b (Some e) (find (λ (f : EnvEntry). f.binder == e.binder) rest))) ≡ true
    at true is = refl
    at false is = absurd (cc)

pub no_entries : (env : List EnvEntry) → ((x : ℕ) → false ≡ is_some (state_of env x)) → env ≡ []
no_entries [] none = refl
no_entries (e ∷ rest) none = let no : false ≡ true = none e.binder ∙ first_there e rest in absurd (cc)

module _ (s simple : Scheme) (is : IsScheme s) (is_simple : IsScheme simple) (no_env : s.env ≡ []) (binders : HaveSameBinders s simple) where
  pub simpler_env : simple.env ≡ []
  simpler_env = no_entries simple.env (λ x. sym (ap (λ env. is_some (state_of env x)) no_env) ∙ binders x)

  module _ (same : AreEquivalentSchemes s simple) (known : Known) (t : TermTree) (best : (v : book.Scheme) → IsSchemeOf s v → IsBest known t v) where
    pub simpler_best : (u : book.Scheme) → IsSchemeOf simple u → IsBest known t u
    simpler_best u is_u =
        let v = scheme_exists s is in
        let each : EachFound simple.env = subst EachFound (sym simpler_env) (λ entry inside. absurd (nothing_in entry inside)) in
        best_stays known t v.0 u (best v.0 v.1) (same v.0 u v.1 is_u) (read_as simple is_simple each u is_u).is
