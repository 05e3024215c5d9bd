-- Entries are found by the numbers of their names.
--     none_numbered, numbers_more    the numbers of some first entries
--     held, not_there                what the entry of a declared name says of the declaration
--     entry_read                     the scheme of an entry is one that was read
use Rattle.std.proofs.Common.{◌≡◌, ◌⊎◌, inl, inr, ℕ, suc, ◌<◌, ◌≤◌, Bool, true, false, cond, List, length, get_or, refl, sym, ap, ◌∙◌, subst, arith, Some, None}
use Rattle.std.specs.Prelude.{Option, IsSome, is_some, bytes_eq}
use Rattle.std.specs.Ordering.{nat_cmp}
use Rattle.std.specs.Cmp.Lexicographic.{slice_cmp}
use Rattle.std.specs.BTreeMap.{BTreeMap, get, Updates}
use Rattle.std.proofs.lemmas.Bool.{cases_lt}
use Rattle.std.proofs.lemmas.Map.Text.{is_eq-slice_cmp}
use Rattle.std.proofs.lemmas.Slice.Eq.{bytes_eq-Decides}
use Rattle.mls_typetext.proofs.ReadLaws.{read_is_closed}
use Rattle.mls_scheme.proofs.PolarisedTypes.{read-polarised}
use Rattle.mls_iface.specs.declared.interface.Val.{Val}
use Rattle.mls_iface.specs.declared.matching.MatchAnswer.{MatchAnswer}
use Rattle.mls_iface.specs.declared.matching.MatchAnswer.TheVariants as answer
use Rattle.mls_iface.specs.declared.signature.SigEntry.{SigEntry}
use Rattle.mls_iface.specs.Signatures.{IsEntry}
use Rattle.mls_iface.specs.Matches.{IsRead, IsEntryFor, Fails}
use Rattle.mls_iface.specs.steps.Comparing.{AreNumbers, IsHeld, IsNarrow}

abbrev Numbers : Type 0
Numbers = BTreeMap (List ℕ) ℕ

abbrev number_at : Numbers → List ℕ → Option ℕ
number_at = get (slice_cmp nat_cmp)

pub none_numbered : (entries : List SigEntry) (m : Numbers) → ((x : List ℕ) → number_at m x ≡ None) → AreNumbers 0 entries m
none_numbered entries m empty = record {
  found = λ x k e. let wrong : None ≡ Some k = sym (empty x) ∙ e in absurd (cc);
  all = λ k d low. absurd (omega arith);
}

-- one entry more
module _ (n : ℕ) (entries : List SigEntry) (m m' : Numbers) (e : SigEntry) (is : (d : SigEntry) → e ≡ get_or entries n d)
    (updates : Updates (slice_cmp nat_cmp) m m' e.name (Some n)) (are : AreNumbers n entries m) where
  now : (x : List ℕ) → number_at m' x ≡ cond (bytes_eq e.name x) (Some n) (number_at m x)
  now x = updates.0 x ∙ ap (λ b. cond b (Some n) (number_at m x)) (is_eq-slice_cmp e.name x)

  found_more : (x : List ℕ) (k : ℕ) → number_at m' x ≡ Some k → (k < suc n) × ((d : SigEntry) → (get_or entries k d).name ≡ x)
  found_more x k at = go (bytes_eq e.name x) refl (sym (now x) ∙ at)
    where
      go : (b : Bool) → bytes_eq e.name x ≡ b → cond b (Some n) (number_at m x) ≡ Some k → (k < suc n) × ((d : SigEntry) → (get_or entries k d).name ≡ x)
      go true test some =
          let same : n ≡ k = cc in
          let named : e.name ≡ x = (bytes_eq-Decides e.name x).0 test in
          (omega arith, (λ d. ap (λ k. (get_or entries k d).name) (sym same) ∙ (ap (λ (e : SigEntry). e.name) (sym (is d)) ∙ named)))
      go false test some =
          let it = are.found x k some in
          let low : k < n = it.0 in
          (omega arith, it.1)

  all_more : (k : ℕ) (d : SigEntry) → k < suc n → IsSome (number_at m' (get_or entries k d).name)
  all_more k d low = subst IsSome (sym (now (get_or entries k d).name)) (go (bytes_eq e.name (get_or entries k d).name) refl (cases_lt k n))
    where
      go : (b : Bool) → bytes_eq e.name (get_or entries k d).name ≡ b → (k < n) ⊎ (n ≤ k) → IsSome (cond b (Some n) (number_at m (get_or entries k d).name))
      go true test either = refl
      go false test (inl before) = are.all k d before
      go false test (inr after) =
          let last : n ≡ k = omega arith in
          let named : e.name ≡ (get_or entries k d).name = ap (λ (e : SigEntry). e.name) (is d) ∙ ap (λ k. (get_or entries k d).name) last in
          let wrong : true ≡ false = sym ((bytes_eq-Decides e.name (get_or entries k d).name).1 named) ∙ test in
          absurd (cc)

  pub numbers_more : AreNumbers (suc n) entries m'
  numbers_more = record { found = found_more; all = all_more }

module _ (entries : List SigEntry) (m : Numbers) (are : AreNumbers (length entries) entries m) (val : Val) where
  -- what the entry of the declared name says of the declaration
  pub held : (k : ℕ) (e : SigEntry) (o : Option MatchAnswer) → number_at m val.name ≡ Some k → e ≡ get_or entries k e → IsNarrow e val o → IsHeld entries val o
  held k e o at is narrow = go o narrow
    where
      is_entry : IsEntryFor entries val e
      is_entry = ((k, (are.found val.name k at).0, sym is), ap (λ (e : SigEntry). e.name) is ∙ (are.found val.name k at).1 e)

      go : (o : Option MatchAnswer) → IsNarrow e val o → IsHeld entries val o
      go None enough = (e, is_entry, enough)
      go (Some answer.All) narrow = absurd narrow
      go (Some (answer.Missing x)) narrow = absurd narrow
      go (Some (answer.TooSpecial x path)) narrow =
          (narrow.0, record { e = e; is_entry = is_entry; not_general = narrow.1; allowed = narrow.2 })

  -- and where it has none
  pub not_there : (x : List ℕ) → number_at m val.name ≡ None → x ≡ val.name → Fails entries val (answer.Missing x)
  not_there x none same = (same, λ e is. no_entry e is)
    where
      no_entry : (e : SigEntry) → IsEntryFor entries val e → ⊥
      no_entry e ((k, low, at), named) =
          let some : IsSome (number_at m (get_or entries k e).name) = are.all k e low in
          let named_so : (get_or entries k e).name ≡ val.name = ap (λ (e : SigEntry). e.name) at ∙ named in
          let wrong : false ≡ true = sym (ap (λ (o : Option ℕ). is_some o) (ap (number_at m) named_so ∙ none)) ∙ some in
          absurd (cc)

pub entry_read : (e : SigEntry) → IsEntry e → IsRead e.scheme
entry_read e is = (read_is_closed e.text e.scheme is.reads, read-polarised e.text e.scheme is.reads)
