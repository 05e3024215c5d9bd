-- The entries of some bindings, one after the other.
--     is_entry        what is printed and read back of the scheme of a binding's term is its entry
--     entries-append  an entry more is one for the next binding
--     term_at, failed_at, one_more     the turn of the loop
use Rattle.std.proofs.Common.{◌≡◌, ◌≢◌, ◌⊎◌, inl, inr, ℕ, zero, suc, ◌+◌, ◌<◌, ◌≤◌, List, [], ◌∷◌, ◌++◌, length, take, get_or, refl, sym, ap, ◌∙◌, subst, Some, arith, All}
use Rattle.std.specs.Prelude.{slice_get}
use Rattle.std.proofs.lemmas.Bool.{cases_lt}
use Rattle.std.proofs.lemmas.Option.{slice_get-get_or}
use Rattle.std.proofs.lemmas.List.{take-append-le, length-append}
use Rattle.std.proofs.lemmas.List.Elements.{All-push}
use Rattle.mls_base.specs.Spelling.{IsName}
use Rattle.mls_book.specs.Schemes as book
use Rattle.mls_grammar.specs.declared.fault.Fault.{Fault}
use Rattle.mls_grammar.specs.declared.fault.Fault.TheVariants as names
use Rattle.mls_grammar.specs.declared.module.Module.{Module}
use Rattle.mls_term.specs.declared.term.Resolved.{Resolved}
use Rattle.mls_term.specs.declared.term.ResolvedBinding.{ResolvedBinding}
use Rattle.mls_term.specs.Terms.{TermTree}
use Rattle.mls_term.specs.Derivations.{Known, IsBest}
use Rattle.mls_term.specs.WellFormed.{IsTerm, IsFirstNone}
use Rattle.mls_names.specs.Resolution.{Resolves, HasUnknownName, declared_count}
use Rattle.mls_names.specs.ResolutionLaws.{AreTerms}
use Rattle.mls_term.proofs.Metatheory.{best_stays}
use Rattle.mls_typing.specs.InferenceLaws.{at_start}
use Rattle.mls_typetext.specs.declared.scheme.Names.{Names}
use Rattle.mls_typetext.specs.declared.scheme.ReadScheme.{ReadScheme}
use Rattle.mls_typetext.specs.Schemes.{scheme_of}
use Rattle.mls_typetext.specs.Texts.{IsTypeText}
use Rattle.mls_typetext.proofs.ReadLaws.{one_reading, read_is_closed}
use Rattle.mls_automaton.specs.declared.scheme.Scheme.{Scheme}
use Rattle.mls_automaton.specs.Schemes.{IsScheme, IsSchemeOf}
use Rattle.mls_automaton.proofs.BooksExist.{scheme_exists}
use Rattle.mls_infer.specs.declared.fault.InferFault.{InferFault}
use Rattle.mls_infer.specs.declared.fault.InferFault.TheVariants as fault
use Rattle.mls_infer.specs.Inference.{AreNames, schemes_in, IsBestFor, IsFirstWithout}
use Rattle.mls_shape.specs.Simplified.{IsSimplified}
use Rattle.mls_print.specs.Laws.{ReadsBack}
use Rattle.mls_print.specs.Printed.{HasNamedFields, IsPrinted}
use Rattle.mls_iface.specs.declared.interface.Interface.{Interface}
use Rattle.mls_iface.specs.declared.signature.SigEntry.{SigEntry}
use Rattle.mls_iface.specs.Signatures.{IsPlain}
use Rattle.mls_modules.specs.declared.fault.ModuleFault.{ModuleFault}
use Rattle.mls_modules.specs.declared.fault.ModuleFault.TheVariants.{UnknownName, NoScheme, Memory}
use Rattle.mls_iface.specs.Matches.{IsRead}
use Rattle.mls_modules.specs.Environments.{declared_names, MeanAfter}
use Rattle.mls_modules.specs.Entries.{IsEntryOf, AreEntriesOf}
use Rattle.mls_modules.specs.ModuleFaults.{HasModuleFault}
use Rattle.mls_modules.specs.steps.Inferring.{of_names, at_binding, EndsAt, HaveEntries}
use Rattle.mls_modules.proofs.KnownTypes.{text_is_valid, read_is_scheme}
use Rattle.mls_modules.proofs.Environments.{length-names, mean_more}

-- what is printed of a best scheme is read as a best scheme
printed_best : (known : Known) (t : TermTree) (s : Scheme) (printed : List ℕ) (read : ReadScheme) → IsScheme s → ReadsBack s printed → IsTypeText printed read
    → ((u : book.Scheme) → IsSchemeOf s u → IsBest known t u) → IsBest known t (scheme_of read)
printed_best known t s printed read is (other, other_reads, alike) reads best =
    let it = scheme_exists s is in
    let same : other ≡ read = one_reading printed other read other_reads reads in
    let both : book.AreEquivalent (scheme_of read) it.0 = subst (λ (r : ReadScheme). book.AreEquivalent (scheme_of r) it.0) same (alike it.0 it.1) in
    best_stays known t it.0 (scheme_of read) (best it.0 it.1) (both.1, both.0) (read_is_scheme read (read_is_closed printed read reads))

-- what is printed is read as an equivalent scheme
printed_alike : (s : Scheme) (printed : List ℕ) (read : ReadScheme) → ReadsBack s printed → IsTypeText printed read
    → (t : book.Scheme) → IsSchemeOf s t → book.AreEquivalent (scheme_of read) t
printed_alike s printed read (other, other_reads, alike) reads t is_t =
    subst (λ (r : ReadScheme). book.AreEquivalent (scheme_of r) t) (one_reading printed other read other_reads reads) (alike t is_t)

-- the entry of a binding whose term has this scheme, of which this is printed
pub is_entry : (known : Names) (b : ResolvedBinding) (s : Scheme) (e : SigEntry)
    → IsTerm (length known.schemes) b.term.nodes b.term.binders b.term.lets → e.name ≡ b.name → IsName b.name → IsScheme s → IsSimplified s → s.env ≡ [] → HasNamedFields s.automaton → IsBestFor known b.term s
    → IsPrinted s e.text → ReadsBack s e.text → IsPlain e.text → IsTypeText e.text e.scheme
    → (imports : List Interface) (earlier : List SigEntry) → MeanAfter imports earlier known → IsEntryOf imports earlier b e
is_entry known b s e term same name is simple free named best shown back plain reads imports earlier mean = record {
  name = same;
  is_entry = record { name = subst IsName (sym same) name; plain = plain; reads = reads };
  term_tree = term.tree;
  nodes = term.nodes_are;
  best =
      let K : Known → Type 0 = λ known. IsBest known term.tree (scheme_of e.scheme) in
      subst K (ap at_start mean)
      (printed_best (at_start (schemes_in known)) term.tree s e.text e.scheme is back reads (λ u of. best term.tree u term.nodes_are of));
  printed = record { scheme = s; is = is; simplified = simple; free = free; named = named; printed = shown; equivalent = printed_alike s e.text e.scheme back reads };
}

-- what stands at a number of a list with one member more
module _ {X : Type 0} (xs : List X) (x : X) where
  pub get_before : (k : ℕ) (y : X) → k < length xs → slice_get (xs ++ x ∷ []) k ≡ Some y → slice_get xs k ≡ Some y
  get_before k y low e = before xs k low e
    where
      before : (xs : List X) (k : ℕ) → k < length xs → slice_get (xs ++ x ∷ []) k ≡ Some y → slice_get xs k ≡ Some y
      before [] k low e = absurd (omega arith)
      before (first ∷ xs) zero low e = e
      before (first ∷ xs) (suc k) low e = before xs k (omega arith) e

  pub get_last : (k : ℕ) (y : X) → length xs ≤ k → slice_get (xs ++ x ∷ []) k ≡ Some y → (x ≡ y) × (k ≡ length xs)
  get_last k y past e = last xs k past e
    where
      last : (xs : List X) (k : ℕ) → length xs ≤ k → slice_get (xs ++ x ∷ []) k ≡ Some y → (x ≡ y) × (k ≡ length xs)
      last [] zero past e = (cc, refl)
      last [] (suc k) past e = absurd (cc)
      last (first ∷ xs) zero past e = absurd (omega arith)
      last (first ∷ xs) (suc k) past e = let rest = last xs k (omega arith) e in (rest.0, ap suc rest.1)

-- an entry more is one for the next binding
pub entries-append : (imports : List Interface) (bs : List ResolvedBinding) (es : List SigEntry) (b : ResolvedBinding) (e : SigEntry) → slice_get bs (length es) ≡ Some b
    → AreEntriesOf imports bs es → IsEntryOf imports es b e → AreEntriesOf imports bs (es ++ e ∷ [])
entries-append imports bs es b e there are is k b' e' at at' = by_place (cases_lt k (length es))
  where
    by_place : (k < length es) ⊎ (length es ≤ k) → IsEntryOf imports (take k (es ++ e ∷ [])) b' e'
    by_place (inl low) =
        subst (λ earlier. IsEntryOf imports earlier b' e') (sym (take-append-le k es (e ∷ []) (omega arith)))
        (are k b' e' at (get_before es e k e' low at'))
    by_place (inr past) =
        let last = get_last es e k e' past at' in
        let one : Some b ≡ Some b' = sym there ∙ (ap (slice_get bs) (sym last.1) ∙ at) in
        let same : b ≡ b' = cc in
        let front : es ≡ take k (es ++ e ∷ []) = sym (take_front es (e ∷ []) k last.1) in
        subst (λ earlier. IsEntryOf imports earlier b' e') front
        (subst (λ (b : ResolvedBinding). IsEntryOf imports es b e') same
        (subst (λ (e'' : SigEntry). IsEntryOf imports es b e'') last.0 is))
      where
        take_front : (xs ys : List SigEntry) (k : ℕ) → k ≡ length xs → take k (xs ++ ys) ≡ xs
        take_front [] ys zero e = refl
        take_front [] ys (suc k) e = absurd (omega arith)
        take_front (x ∷ xs) ys zero e = absurd (omega arith)
        take_front (x ∷ xs) ys (suc k) e = ap (λ (l : List SigEntry). x ∷ l) (take_front xs ys k (omega arith))

-- the binding at a number
pub binding_at : (bs : List ResolvedBinding) (k : ℕ) (b : ResolvedBinding) → k < length bs → b ≡ get_or bs k b → slice_get bs k ≡ Some b
binding_at bs k b low is = slice_get-get_or bs k b low ∙ ap (λ (b : ResolvedBinding). Some b) (sym is)

terms_at : (bs : List ResolvedBinding) (n k : ℕ) (b : ResolvedBinding) → AreTerms n bs → slice_get bs k ≡ Some b → IsTerm (n + k) b.term.nodes b.term.binders b.term.lets
terms_at [] n k b terms e = absurd (cc)
terms_at (first ∷ bs) n zero b terms e =
    let same : first ≡ b = cc in
    let T : ResolvedBinding → Type 0 = λ b. IsTerm (n + 0) b.term.nodes b.term.binders b.term.lets in
    let none : n ≡ n + 0 = omega arith in
    subst T same (subst (λ m. IsTerm m first.term.nodes first.term.binders first.term.lets) none terms.0)
terms_at (first ∷ bs) n (suc k) b terms e =
    let more : suc n + k ≡ n + suc k = omega arith in
    subst (λ m. IsTerm m b.term.nodes b.term.binders b.term.lets) more (terms_at bs (suc n) k b terms.1 e)

-- its term is one over the names so far
pub term_at : (imports : List Interface) (bs : List ResolvedBinding) (k : ℕ) (b : ResolvedBinding) (known : Names) (es : List SigEntry)
    → AreTerms (5 + declared_count (declared_names imports)) bs → slice_get bs k ≡ Some b → HaveEntries imports bs k known es
    → IsTerm (length known.schemes) b.term.nodes b.term.binders b.term.lets
term_at imports bs k b known es terms there so_far =
    let count : length es ≡ k = so_far.count in
    let all : length known.schemes ≡ 5 + declared_count (declared_names imports) + length es = length-names imports es known so_far.mean in
    let same : 5 + declared_count (declared_names imports) + k ≡ length known.schemes = omega arith in
    subst (λ n. IsTerm n b.term.nodes b.term.binders b.term.lets) same (terms_at bs (5 + declared_count (declared_names imports)) k b terms there)

-- the bindings before one without a scheme have entries
pub failed_at : (imports : List Interface) (bs : List ResolvedBinding) (k : ℕ) (b : ResolvedBinding) (known : Names) (es : List SigEntry) (f : InferFault)
    → AreTerms (5 + declared_count (declared_names imports)) bs → slice_get bs k ≡ Some b → HaveEntries imports bs k known es
    → IsFirstWithout known b.term f → EndsAt imports bs (at_binding k f)
failed_at imports bs k b known es (fault.NoScheme site) terms there so_far h =
    let term = term_at imports bs k b known es terms there so_far in
    let K : Known → Type 0 = λ known. IsFirstNone known.globals term.tree site.node in
    record {
      entries = es;
      count = so_far.count;
      are_entries = so_far.are_entries;
      b = b;
      binding = there;
      first = record {
        term_tree = term.tree;
        nodes = term.nodes_are;
        first = subst K (ap at_start so_far.mean) (h term.tree term.nodes_are);
      };
    }
failed_at imports bs k b known es fault.Memory terms there so_far h = tt

-- no binding has an entry yet
pub none_yet : (imports : List Interface) (bs : List ResolvedBinding) (known : Names) → AreNames known → MeanAfter imports [] known → HaveEntries imports bs 0 known []
none_yet imports bs known named mean = record {
  count = refl;
  are_entries = λ k b e at at'. absurd (cc);
  are_names = named;
  mean = mean;
}

-- one binding more has an entry
pub one_more : (imports : List Interface) (bs : List ResolvedBinding) (k : ℕ) (b : ResolvedBinding) (e : SigEntry) (old new : Names) (es more : List SigEntry) → slice_get bs k ≡ Some b
    → HaveEntries imports bs k old es → IsEntryOf imports es b e → new.schemes ≡ old.schemes ++ e.scheme ∷ [] → more ≡ es ++ e ∷ [] → HaveEntries imports bs (k + 1) new more
one_more imports bs k b e old new es more there so_far is pushed added =
    let H : List SigEntry → Type 0 = λ l. HaveEntries imports bs (k + 1) new l in
    subst H (sym added)
    (record {
      count = length-append es (e ∷ []) ∙ ap (λ n. n + 1) so_far.count;
      are_entries = entries-append imports bs es b e (ap (slice_get bs) so_far.count ∙ there) so_far.are_entries is;
      are_names = subst (All IsRead) (sym pushed) (All-push IsRead old.schemes e.scheme so_far.are_names (text_is_valid e.text e.scheme is.is_entry.reads));
      mean = mean_more imports es e old new so_far.mean pushed;
    })

-- a fault of names is one of the module
pub names_fault : (m : Module) (imports : List Interface) (f : Fault) → (f ≢ names.Memory → HasUnknownName m (declared_names imports) f)
    → of_names f ≢ Memory → HasModuleFault m imports (of_names f)
names_fault m imports f h off = by_case (h not_memory)
  where
    not_memory : f ≢ names.Memory
    not_memory e = off (ap of_names e)

    by_case : HasUnknownName m (declared_names imports) f → HasModuleFault m imports (of_names f)
    by_case unknown =
        let M : Fault → Type 0 = λ f. HasModuleFault m imports (of_names f) in
        let U : Fault → Type 0 = λ f. HasUnknownName m (declared_names imports) f in
        subst M (sym unknown.fault_is) (subst U unknown.fault_is unknown)

-- why the bindings have no entries is why the module has no signature
pub module_fault : (m : Module) (imports : List Interface) (r : Resolved) (f : ModuleFault) → Resolves m (declared_names imports) r → EndsAt imports r.bindings f
    → f ≢ Memory → HasModuleFault m imports f
module_fault m imports r (NoScheme k site) resolves ends off = record { resolved = r; resolves = resolves; none = ends }
module_fault m imports r (UnknownName at) resolves ends off = absurd ends
module_fault m imports r Memory resolves ends off = absurd (off refl)
