-- A module has one signature or one fault.
use Rattle.std.proofs.Common.{◌≡◌, ◌⊎◌, inl, inr, ℕ, suc, ◌+◌, ◌<◌, List, [], ◌∷◌, length, refl, sym, ap, ◌∙◌, subst, Some, arith, All}
use Rattle.std.specs.Prelude.{slice_get}
use Rattle.mls_book.specs.Schemes.{AreEquivalent}
use Rattle.mls_book.proofs.LongerBooks.{below_or_more}
use Rattle.mls_grammar.specs.declared.fault.Fault.TheVariants as names
use Rattle.mls_term.specs.declared.term.Resolved.{Resolved}
use Rattle.mls_term.specs.declared.term.ResolvedBinding.{ResolvedBinding}
use Rattle.mls_names.proofs.OneResolution.{one_resolution, one_unknown_name, no_unknown_name_beside_a_resolution}
use Rattle.mls_typetext.specs.Schemes.{scheme_of}
use Rattle.mls_iface.specs.declared.interface.Interface.{Interface}
use Rattle.mls_iface.specs.declared.signature.SigEntry.{SigEntry}
use Rattle.mls_modules.specs.declared.fault.ModuleFault.TheVariants.{UnknownName, NoScheme, Memory}
use Rattle.mls_modules.specs.Environments.{IsValidInterface, declared_names}
use Rattle.mls_modules.specs.Entries.{AreEntriesOf, AreAllEntriesOf, HasFirstNone, HasNoEntry}
use Rattle.mls_modules.specs.Laws.{AreAlike, OneSignature, NoFaultBesideSignature, OneModuleFault}
use Rattle.mls_modules.proofs.SameEntries.{same_entry, no_entry, one_node, stands, below_length}

-- lists of one length are alike where their entries are, number by number
alike : (es fs : List SigEntry) → length es ≡ length fs
    → ((k : ℕ) (e f : SigEntry) → slice_get es k ≡ Some e → slice_get fs k ≡ Some f → (e.name ≡ f.name) × AreEquivalent (scheme_of e.scheme) (scheme_of f.scheme))
    → AreAlike es fs
alike [] [] same each = tt
alike [] (f ∷ fs) same each = absurd (omega arith)
alike (e ∷ es) [] same each = absurd (omega arith)
alike (e ∷ es) (f ∷ fs) same each = let first = each 0 e f refl refl in (first.0, first.1, alike es fs (omega arith) (λ k. each (suc k)))

pub one_signature : OneSignature
one_signature m imports s other valid is is' =
    let same : is.resolved ≡ is'.resolved = one_resolution m (declared_names imports) is.resolved is'.resolved is.resolves is'.resolves in
    let B : Resolved → Type 0 = λ r. AreAllEntriesOf imports r.bindings s.entries in
    let all : AreAllEntriesOf imports is'.resolved.bindings s.entries = subst B same is.entries in
    let bs : List ResolvedBinding = is'.resolved.bindings in
    alike s.entries other.entries (all.count ∙ sym is'.entries.count)
    (λ k e f at_e at_f.
    let low : k < length s.entries = below_length s.entries k e at_e in
    let b = stands bs k (subst (λ n. k < n) all.count low) in
    same_entry imports valid bs s.entries other.entries all.are_entries is'.entries.are_entries k b.0 e f b.1 at_e at_f)

-- a binding without an entry is none of all that have entries
past_all : (imports : List Interface) (valid : All IsValidInterface imports) (bs : List ResolvedBinding) (fs : List SigEntry) (k node : ℕ) → HasNoEntry imports bs k node → AreEntriesOf imports bs fs → k < length fs → ⊥
past_all imports valid bs fs k node none are low =
    no_entry imports valid bs none.entries fs none.are_entries are none.b node (ap (slice_get bs) none.count ∙ none.binding) none.first (subst (λ n. n < length fs) (sym none.count) low)

pub no_fault_beside_signature : NoFaultBesideSignature
no_fault_beside_signature m imports s (UnknownName at) valid is h = no_unknown_name_beside_a_resolution m (declared_names imports) is.resolved (names.UnknownName at) is.resolves h
no_fault_beside_signature m imports s (NoScheme k site) valid is h =
    let same : is.resolved ≡ h.resolved = one_resolution m (declared_names imports) is.resolved h.resolved is.resolves h.resolves in
    let B : Resolved → Type 0 = λ r. AreAllEntriesOf imports r.bindings s.entries in
    let all : AreAllEntriesOf imports h.resolved.bindings s.entries = subst B same is.entries in
    past_all imports valid h.resolved.bindings s.entries k site.node h.none all.are_entries
    (subst (λ n. k < n) (sym all.count) (below_length h.resolved.bindings k h.none.b h.none.binding))
no_fault_beside_signature m imports s Memory valid is h = absurd h

one_none : (imports : List Interface) (valid : All IsValidInterface imports) (bs : List ResolvedBinding) (k l node node' : ℕ) → HasNoEntry imports bs k node → HasNoEntry imports bs l node' → (k ≡ l) × (node ≡ node')
one_none imports valid bs k l node node' h h' = by_case (below_or_more k l) (below_or_more l k)
  where
    by_case : (k < l) ⊎ ((i : ℕ) × (k ≡ l + i)) → (l < k) ⊎ ((i : ℕ) × (l ≡ k + i)) → (k ≡ l) × (node ≡ node')
    by_case (inl low) other = absurd (past_all imports valid bs h'.entries k node h h'.are_entries (subst (λ n. k < n) (sym h'.count) low))
    by_case (inr more) (inl low) = absurd (past_all imports valid bs h.entries l node' h' h.are_entries (subst (λ n. l < n) (sym h.count) low))
    by_case (inr (i, at)) (inr (j, at')) =
        let a : k ≡ l + i = at in
        let b : l ≡ k + j = at' in
        let same : k ≡ l = omega arith in
        let binding : Some h.b ≡ Some h'.b = sym h.binding ∙ (ap (slice_get bs) same ∙ h'.binding) in
        let one : h.b ≡ h'.b = cc in
        let N : ResolvedBinding → Type 0 = λ b. HasFirstNone imports h.entries b node in (
          same,
          one_node imports valid bs h.entries h'.entries h.are_entries h'.are_entries h'.b node node' (h.count ∙ (same ∙ sym h'.count)) (ap (slice_get bs) (h.count ∙ same) ∙ h'.binding)
              (subst N one h.first) h'.first,
        )

pub one_module_fault : OneModuleFault
one_module_fault m imports (UnknownName at) (UnknownName other) valid h h' =
    let same : names.UnknownName at ≡ names.UnknownName other = one_unknown_name m (declared_names imports) (names.UnknownName at) (names.UnknownName other) h h' in
    cc
one_module_fault m imports (UnknownName at) (NoScheme k site) valid h h' = absurd (no_unknown_name_beside_a_resolution m (declared_names imports) h'.resolved (names.UnknownName at) h'.resolves h)
one_module_fault m imports (UnknownName at) Memory valid h h' = absurd h'
one_module_fault m imports (NoScheme k site) (UnknownName at) valid h h' = absurd (no_unknown_name_beside_a_resolution m (declared_names imports) h.resolved (names.UnknownName at) h.resolves h')
one_module_fault m imports (NoScheme k site) (NoScheme l other) valid h h' =
    let same : h.resolved ≡ h'.resolved = one_resolution m (declared_names imports) h.resolved h'.resolved h.resolves h'.resolves in
    let B : Resolved → Type 0 = λ r. HasNoEntry imports r.bindings k site.node in
    one_none imports valid h'.resolved.bindings k l site.node other.node (subst B same h.none) h'.none
one_module_fault m imports (NoScheme k site) Memory valid h h' = absurd h'
one_module_fault m imports Memory other valid h h' = absurd h
