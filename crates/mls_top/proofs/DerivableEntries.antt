-- The entries of a signature of a module can be derived.
--     entries_can         behind entries that were gone over
--     signature_can       all entries of a signature
use Rattle.std.proofs.Common.{◌≡◌, ℕ, zero, suc, List, [], ◌∷◌, ◌++◌, map, take, length, refl, sym, ap, ◌∙◌, subst, arith, append_assoc, append-nil, slice_get, Some}
use Rattle.std.specs.Prelude.{All}
use Rattle.std.proofs.lemmas.List.{map-append}
use Rattle.mls_grammar.specs.declared.module.Module.{Module}
use Rattle.mls_term.specs.declared.term.Resolved.{Resolved}
use Rattle.mls_term.specs.declared.term.ResolvedBinding.{ResolvedBinding}
use Rattle.mls_term.specs.Derivations.{Derives}
use Rattle.mls_term.specs.WellFormed.{HasRisingTree}
use Rattle.mls_typetext.specs.declared.scheme.ReadScheme.{ReadScheme}
use Rattle.mls_typetext.specs.Schemes.{environment, scheme_of}
use Rattle.mls_typetext.proofs.ReadLaws.{read_is_closed}
use Rattle.mls_names.specs.Resolution.{Resolves}
use Rattle.mls_names.proofs.OneResolution.{one_resolution}
use Rattle.mls_names.proofs.RisingBinders.{resolved_rise}
use Rattle.mls_typing.specs.InferenceLaws.{at_start}
use Rattle.mls_deriv.specs.Sections.{schemes_of}
use Rattle.mls_iface.specs.declared.interface.Interface.{Interface}
use Rattle.mls_iface.specs.declared.signature.SigEntry.{SigEntry}
use Rattle.mls_iface.specs.declared.signature.Signature.{Signature}
use Rattle.mls_modules.specs.Entries.{AreAllEntriesOf, IsEntryOf, IsSignatureOf}
use Rattle.mls_modules.specs.Environments.{declared_names, declared_schemes, entry_schemes}
use Rattle.mls_modules.proofs.Environments.{known_more}
use Rattle.mls_modules.proofs.KnownTypes.{read_is_scheme}
use Rattle.mls_emit.specs.Derivable.{CanAllBeDerived, CanBeDerived}

module _ (imports : List Interface) where
  -- what is known behind these entries
  abbrev Means : List ReadScheme → List SigEntry → Type 0
  Means known done = schemes_of known ≡ environment (declared_schemes imports) (entry_schemes done)

  entry_can : (known : List ReadScheme) (done : List SigEntry) (b : ResolvedBinding) (e : SigEntry) → Means known done → HasRisingTree b.term.nodes → IsEntryOf imports done b e → CanBeDerived known b e
  entry_can known done b e mean rising it = record {
    name = it.name;
    text = record { scheme = it.printed.scheme; is = it.printed.is; free = it.printed.free; named = it.printed.named; printed = it.printed.printed };
    rising = rising;
    derivable = record {
      is = read_is_scheme e.scheme (read_is_closed e.text e.scheme it.is_entry.reads);
      term_tree = it.term_tree;
      nodes = it.nodes;
      derives = subst (λ globals. Derives (at_start globals) it.term_tree (scheme_of e.scheme)) (sym mean) it.best.derives;
    };
  }

  -- behind entries that were gone over
  entries_can : (known : List ReadScheme) (done : List SigEntry) (bindings : List ResolvedBinding) (entries : List SigEntry) → Means known done → length entries ≡ length bindings
      → ((k : ℕ) (b : ResolvedBinding) (e : SigEntry) → slice_get bindings k ≡ Some b → slice_get entries k ≡ Some e → IsEntryOf imports (done ++ take k entries) b e)
      → All (λ (b : ResolvedBinding). HasRisingTree b.term.nodes) bindings → CanAllBeDerived known bindings entries
  entries_can known done [] [] mean count are rise = tt
  entries_can known done (b ∷ bindings) [] mean count are rise = absurd (omega (arith, count))
  entries_can known done [] (e ∷ entries) mean count are rise = absurd (omega (arith, count))
  entries_can known done (b ∷ bindings) (e ∷ entries) mean count are rise = (
    entry_can known done b e mean (rise 0 b (omega arith)) (subst (λ earlier. IsEntryOf imports earlier b e) (append-nil done) (are 0 b e refl refl)),
    entries_can (known ++ e.scheme ∷ []) (done ++ e ∷ []) bindings entries
        (map-append scheme_of known (e.scheme ∷ []) ∙ (ap (λ l. l ++ scheme_of e.scheme ∷ []) mean ∙ sym (known_more imports done e)))
        (omega (arith, count))
        (λ k c f at is. subst (λ earlier. IsEntryOf imports earlier c f) (sym (append_assoc done (e ∷ []) (take k entries))) (are (suc k) c f at is))
        (λ i d low. rise (suc i) d (omega (arith, low))),
  )

  pub signature_can : (m : Module) (s : Signature) (r : Resolved) (known : List ReadScheme) → IsSignatureOf m imports s → Resolves m (declared_names imports) r → schemes_of known ≡ environment (declared_schemes imports) []
      → CanAllBeDerived known r.bindings s.entries
  signature_can m s r known is resolves mean =
      let same : is.resolved ≡ r = one_resolution m (declared_names imports) is.resolved r is.resolves resolves in
      let are : AreAllEntriesOf imports r.bindings s.entries = subst (λ (x : Resolved). AreAllEntriesOf imports x.bindings s.entries) same is.entries in
      entries_can known [] r.bindings s.entries mean are.count are.are_entries (resolved_rise m (declared_names imports) r resolves)
