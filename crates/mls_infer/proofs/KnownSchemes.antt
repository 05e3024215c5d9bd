-- The schemes of the environment, as automata.
--     read_means             the automaton of a scheme that was read is read as this scheme
--     scheme_read                 a known name has its scheme
--     answer_read, answer_copied  and is answered with its types
--     reads_more             one more name that was read
--     reads_stay             the same that were read
--     reads_grow, names_grow an environment with one more name
--     none_rise              an environment without binders
--     names_are              what names mean are schemes that need nothing of any binder
use Rattle.std.proofs.Common.{◌≡◌, ◌≢◌, ◌⊎◌, inl, inr, ℕ, zero, suc, ◌<◌, List, [], ◌∷◌, ◌++◌, map, length, get_or, All, Contains, refl, sym, ap, ◌∙◌, subst, arith, Some, slice_get}
use Rattle.std.specs.Prelude.{Option, None, option_map}
use Rattle.std.specs.BTreeMap.{BTreeMap, IsUnchanged, get}
use Rattle.std.proofs.lemmas.Bool.{cases_eq}
use Rattle.std.proofs.lemmas.List.{map-append}
use Rattle.std.proofs.lemmas.List.Elements.{All-push}
use Rattle.std.specs.FinMap as finmap
use Rattle.std.specs.FinMap.{get-empty}
use Rattle.std.specs.Ordering.{nat_cmp}
use Rattle.std.proofs.lemmas.Option.{slice_get-map, slice_get_within, get_or_from_slice_get}
use Rattle.mls_book.specs.Schemes as book
use Rattle.mls_automaton.specs.declared.scheme.Scheme.{Scheme}
use Rattle.mls_automaton.specs.declared.scheme.EnvEntry.{EnvEntry}
use Rattle.mls_automaton.specs.Environments.{BindersRise}
use Rattle.mls_automaton.specs.Schemes.{IsScheme}
use Rattle.mls_term.specs.declared.term.TermForm.TheVariants as form
use Rattle.mls_automaton.proofs.BooksExist.{scheme_exists}
use Rattle.mls_scheme.specs.ReadTypes.{IsPolarisedRead, IsEquivalentToRead}
use Rattle.mls_typetext.specs.declared.scheme.Names.{Names}
use Rattle.mls_typetext.specs.declared.scheme.ReadScheme.{ReadScheme}
use Rattle.mls_typetext.specs.Laws.{IsReadScheme}
use Rattle.mls_typetext.specs.Schemes.{scheme_of}
use Rattle.mls_typing.proofs.Instances.{Allows-equivalent}
use Rattle.mls_typing.proofs.Lists.{nothing_in}
use Rattle.mls_typing.proofs.Rows.{both_ways}
use Rattle.mls_infer.specs.Constraints.{no_goals}
use Rattle.mls_infer.specs.Merges.{HaveSameTypes}
use Rattle.mls_infer.specs.Finished.{Finished, Has}
use Rattle.mls_infer.specs.Fields.{AreReads, IsKnownType, Shared}
use Rattle.mls_infer.specs.Finishing.{IsAnswer, IsRead, Scope, is_copied, is_named, is_read}
use Rattle.mls_infer.specs.Inference.{AreNames, schemes_in}
use Rattle.mls_infer.specs.Steps.{IsReadAs}
use Rattle.mls_infer.proofs.Models.{EachFound}
use Rattle.mls_infer.proofs.Reading.{read_as}
use Rattle.mls_infer.proofs.Told.{get_old}

scheme_of_is : (read : ReadScheme) → IsReadScheme read → book.IsScheme (scheme_of read)
scheme_of_is read is = record {
  book = is.book;
  root = is.root;
  env = λ x i e. let nothing : finmap.get (finmap.empty {X = ℕ} {R = nat_cmp}) x ≡ None = get-empty nat_cmp x in absurd (cc);
}

pub read_means : (read : ReadScheme) (s : Scheme) → IsReadScheme read → IsScheme s → s.env ≡ [] → IsEquivalentToRead read s → IsReadAs s (scheme_of read)
read_means read s read_is is no_env equivalent =
    let it = scheme_exists s is in
    let found : EachFound s.env = subst EachFound (sym no_env) (λ entry inside. absurd (nothing_in entry inside)) in
    let own : IsReadAs s it.0 = read_as s is found it.0 it.1 in
    let of_read : book.IsScheme (scheme_of read) = scheme_of_is read read_is in
    record { is = of_read; just = λ types f. both_ways (own.just types f) (Allows-equivalent it.0 (scheme_of read) own.is of_read (equivalent it.0 it.1) types f) }

-- what a name means is a scheme that was read
module _ (reads : List ReadScheme) (are : All (λ read. IsReadScheme read × IsPolarisedRead read) reads) where
  from_read : (g : ℕ) (u : book.Scheme) (o : Option ReadScheme) → slice_get reads g ≡ o → option_map scheme_of o ≡ Some u → book.IsScheme u × (u.env ≡ finmap.empty)
  from_read g u None at is = absurd (cc)
  from_read g u (Some read) at is =
      let same : scheme_of read ≡ u = cc in
      let P : book.Scheme → Type 0 = λ u. book.IsScheme u × (u.env ≡ finmap.empty) in
      let R : ReadScheme → Type 0 = IsReadScheme in
      let read_is : IsReadScheme read = subst R (get_or_from_slice_get reads g read read at) (are g read (slice_get_within reads g read at)).0 in
      subst P same (scheme_of_is read read_is, refl)

  pub names_are : (g : ℕ) (u : book.Scheme) → slice_get (map scheme_of reads) g ≡ Some u → book.IsScheme u × (u.env ≡ finmap.empty)
  names_are g u e = from_read g u (slice_get reads g) refl (sym (slice_get-map scheme_of reads g) ∙ e)

at_place : {X : Type 0} (xs : List X) (g : ℕ) (d : X) → g < length xs → slice_get xs g ≡ Some (get_or xs g d)
at_place [] g d low = absurd (omega arith)
at_place (x ∷ xs) zero d low = refl
at_place (x ∷ xs) (suc g) d low = at_place xs g d (omega arith)

-- the scheme of a name of the environment
pub scheme_read : (names : Names) (g : ℕ) (read : ReadScheme) (s : Scheme) → AreNames names → g < length names.schemes → get_or names.schemes g read ≡ read → IsScheme s → s.env ≡ [] → IsEquivalentToRead read s → IsRead (map scheme_of names.schemes) g s
scheme_read names g read s are low at is no_env equivalent =
    let read_is : IsReadScheme read = subst IsReadScheme at (are g read low).0 in
    let there : slice_get (map scheme_of names.schemes) g ≡ Some (scheme_of read) = slice_get-map scheme_of names.schemes g ∙ ap (option_map scheme_of) (at_place names.schemes g read low ∙ ap Some at) in
    record {
      book = scheme_of read;
      there = there;
      read = read_means read s read_is is no_env equivalent;
      states = record {
        automaton = is.automaton;
        root = is.root;
        env = λ entry inside. absurd (nothing_in entry (subst (λ (env : List EnvEntry). Contains env entry) no_env inside));
      };
    }

-- a name of the environment is answered with its types
pub answer_read : (scope : Scope) (done : Finished) (g : ℕ) (s copy : Scheme) → IsRead scope.globals g s → HaveSameTypes (no_goals s) (no_goals copy) → IsAnswer scope (form.Global g) done copy
answer_read scope done g s copy it same = is_named s (is_read g it.book refl it.there it.read) same

-- and a let-bound name with those of the first part of its let
pub answer_copied : (scope : Scope) (done : Finished) (k root : ℕ) (s copy : Scheme) → scope.first_of k ≡ Some root → Has done root s → HaveSameTypes (no_goals s) (no_goals copy) → IsAnswer scope (form.Inner k) done copy
answer_copied scope done k root s copy first there same = is_named s (is_copied k root refl first there) same

-- one more name that was read
pub reads_more : (globals : List book.Scheme) (old new : BTreeMap ℕ Shared) (g : ℕ) (r : Shared) → AreReads globals old → get nat_cmp new g ≡ Some r → ((k : ℕ) → k ≢ g → get nat_cmp new k ≡ get nat_cmp old k) → IsKnownType r.value → IsRead globals g r.value.scheme → AreReads globals new
reads_more globals old new g r are here others is one k t e = go (cases_eq k g)
  where
    go : (k ≡ g) ⊎ (k ≢ g) → IsKnownType t.value × IsRead globals k t.value.scheme
    go (inl same) =
        let both : Some r ≡ Some t = sym here ∙ (ap (get nat_cmp new) (sym same) ∙ e) in
        let at : r ≡ t = cc in
        let P : ℕ → Type 0 = λ k. IsKnownType t.value × IsRead globals k t.value.scheme in
        let Q : Shared → Type 0 = λ t. IsKnownType t.value × IsRead globals g t.value.scheme in
        subst P (sym same) (subst Q at (is, one))
    go (inr apart) = are k t (sym (others k apart) ∙ e)

-- the same that were read
pub reads_stay : (globals : List book.Scheme) (old new : BTreeMap ℕ Shared) → IsUnchanged old new → AreReads globals old → AreReads globals new
reads_stay globals old new same are g r e =
    let at : get nat_cmp new g ≡ get nat_cmp old g = cc in
    are g r (sym at ∙ e)

-- what was read is read with one more name in the environment
pub reads_grow : (globals : List book.Scheme) (u : book.Scheme) (reads : BTreeMap ℕ Shared) → AreReads globals reads → AreReads (globals ++ u ∷ []) reads
reads_grow globals u reads are g r e =
    let it = are g r e in
    (it.0, record { book = it.1.book; there = get_old globals u it.1.book g it.1.there; read = it.1.read; states = it.1.states })

-- an environment, and what was read of it, with one more name
pub names_grow : (names : Names) (more : List ReadScheme) (read : ReadScheme) (reads : BTreeMap ℕ Shared) → more ≡ names.schemes ++ read ∷ []
    → IsReadScheme read → IsPolarisedRead read → AreNames names × AreReads (schemes_in names) reads
    → AreNames (record { schemes = more }) × AreReads (schemes_in (record { schemes = more })) reads
names_grow names more read reads added is polarised known =
    let P : List ReadScheme → Type 0 = λ schemes. AreNames (record { schemes = schemes }) × AreReads (schemes_in (record { schemes = schemes })) reads in
    let both : map scheme_of (names.schemes ++ read ∷ []) ≡ map scheme_of names.schemes ++ scheme_of read ∷ [] = map-append scheme_of names.schemes (read ∷ []) in
    subst P (sym added) (
      All-push (λ r. IsReadScheme r × IsPolarisedRead r) names.schemes read known.0 (is, polarised),
      subst (λ (globals : List book.Scheme). AreReads globals reads) (sym both) (reads_grow (map scheme_of names.schemes) (scheme_of read) reads known.1),
    )

-- a type that needs nothing of any binder has rising binders
pub none_rise : (env : List EnvEntry) → env ≡ [] → BindersRise env
none_rise env none = subst BindersRise (sym none) (λ i j d less low. absurd (omega arith))
