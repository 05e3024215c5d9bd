-- The entries of one binder are a piece of the sorted ones, and give way to one entry.
--     taken, piece         the members of a piece of a list
--     one_of               a list of one
--     merged_start, merged_next, merged_end     group after group
use Rattle.std.proofs.Common.{◌≡◌, ◌≢◌, ◌⊎◌, inl, inr, ℕ, ◌<◌, ◌≤◌, ◌+◌, ◌-◌, suc, List, [], ◌∷◌, ◌++◌, length, get_or, take, drop, refl, sym, ap, ◌∙◌, subst, arith, Contains, All}
use Rattle.std.proofs.lemmas.List.{append-nil, append_assoc, drop-drop, drop_all, get_or-drop, get_or-take, get_or_append_left, get_or_default, length-append, length-drop, length-take-le, take-append-drop}
use Rattle.std.proofs.Math.Seq.{get_or-append_seam}
use Rattle.std.proofs.lemmas.List.Elements.{Contains-get_or, Contains-append_left, Contains-append_right, Contains-append_cases}
use Rattle.mls_book.proofs.LongerBooks.{below_or_more}
use Rattle.mls_automaton.specs.declared.automaton.Polarity.TheVariants.{Negative}
use Rattle.mls_automaton.specs.declared.scheme.EnvEntry.{EnvEntry}
use Rattle.mls_automaton.specs.Environments.{BindersRise}
use Rattle.mls_automaton.proofs.Lists.{All-contained, Contains-cases}
use Rattle.mls_biunify.specs.Live.{IsLiveState, Live}
use Rattle.mls_infer.specs.Merges.{BindersAscend, HasSameMembers, IsGroup}
use Rattle.mls_infer.specs.Pending.{IsMeeting, IsRemade, Waits}
use Rattle.mls_infer.specs.Regions.{TablePart}
use Rattle.mls_infer.proofs.ConstraintRows.{nothing_in}
use Rattle.mls_infer.proofs.Merges.{swapped_in}
use Rattle.mls_infer.proofs.PartChanges.{remade_none, remade_then}
use Rattle.mls_infer.proofs.SameParts.{remade_members, same_members, waits_members, with_lists}

-- the members of a piece of a list are members of it
module _ {X : Type 0} (xs : List X) where
  pub taken : (n : ℕ) (x : X) → Contains (take n xs) x → Contains xs x
  taken n x it = subst (λ ys. Contains ys x) (take-append-drop n xs) (Contains-append_left (take n xs) (drop n xs) x it)

  pub dropped : (n : ℕ) (x : X) → Contains (drop n xs) x → Contains xs x
  dropped n x it = subst (λ ys. Contains ys x) (take-append-drop n xs) (Contains-append_right (take n xs) (drop n xs) x it)

pub piece : {X : Type 0} (xs : List X) (m n : ℕ) (x : X) → Contains (take m (drop n xs)) x → Contains xs x
piece xs m n x it = dropped xs n x (taken (drop n xs) m x it)

-- a list of one
pub one_of : {X : Type 0} (xs : List X) (d : X) → length xs ≡ 1 → xs ≡ get_or xs 0 d ∷ []
one_of [] d e = absurd (omega arith)
one_of (x ∷ []) d e = refl
one_of (x ∷ y ∷ rest) d e = absurd (let h : suc (suc (length rest)) ≡ 1 = e in omega arith)

-- a higher binder at the end
pub rise_next : (xs : List EnvEntry) (e : EnvEntry) → BindersRise xs → All (λ (x : EnvEntry). x.binder < e.binder) xs → BindersRise (xs ++ e ∷ [])
rise_next xs e rise all i j d less low = at (below_or_more j (length xs))
  where
    size : length (xs ++ e ∷ []) ≡ length xs + 1
    size = length-append xs (e ∷ [])

    at : (j < length xs) ⊎ ((k : ℕ) × (j ≡ length xs + k)) → (get_or (xs ++ e ∷ []) i d).binder < (get_or (xs ++ e ∷ []) j d).binder
    at (inl old) =
        let i_old : i < length xs = omega arith in
        subst (λ (x : EnvEntry). x.binder < (get_or (xs ++ e ∷ []) j d).binder) (sym (get_or_append_left xs (e ∷ []) d i i_old))
        (subst (λ (x : EnvEntry). (get_or xs i d).binder < x.binder) (sym (get_or_append_left xs (e ∷ []) d j old)) (rise i j d less old))
    at (inr (k, is)) =
        let length_is : length (xs ++ e ∷ []) ≡ length xs + 1 = size in
        let last : j ≡ length xs = omega arith in
        let i_old : i < length xs = omega arith in
        let new : get_or (xs ++ e ∷ []) j d ≡ e = ap (λ n. get_or (xs ++ e ∷ []) n d) last ∙ get_or-append_seam xs e [] d in
        subst (λ (x : EnvEntry). x.binder < (get_or (xs ++ e ∷ []) j d).binder) (sym (get_or_append_left xs (e ∷ []) d i i_old))
        (subst (λ (x : EnvEntry). (get_or xs i d).binder < x.binder) (sym new) (all i d i_old))

-- the entries before this place have given way to these, whose binders are below those of the rest
pub record IsMergedTo (old : Live) (part : TablePart) (entries : List EnvEntry) (i : ℕ) (live : Live) (states : List ℕ) (env : List EnvEntry) : Type 0 where
  pub within : i ≤ length entries
  pub remade : IsRemade old part live (with_lists states (env ++ drop i entries) part.root)
  pub rise : BindersRise env
  pub below : (e : EnvEntry) → Contains env e → (k : ℕ) (d : EnvEntry) → i ≤ k → k < length entries → e.binder < (get_or entries k d).binder

pub merged_start : (live : Live) (part : TablePart) (entries : List EnvEntry) → Waits live part → HasSameMembers part.env entries → IsMergedTo live part entries 0 live part.states []
merged_start live part entries waits same = record {
  within = omega arith;
  remade =
      remade_members live live part.states part.states part.env part.env part.root part.states part.states part.env entries part.root
      (same_members part.states) (same_members part.env) (same_members part.states) same (remade_none live part waits);
  rise = λ i j d less low. absurd (omega arith);
  below = λ e it. absurd (nothing_in e it);
}

-- group after group
module _ (old live : Live) (part : TablePart) (entries : List EnvEntry) (i : ℕ) (states : List ℕ) (env : List EnvEntry) (is : IsMergedTo old part entries i live states env)
    (end : ℕ) (group : IsGroup entries i end) (default : EnvEntry) where
  abbrev group_of : List EnvEntry
  group_of = take (end - i) (drop i entries)

  abbrev rest : List EnvEntry
  rest = drop end entries

  low : i < length entries
  low = let more : i < end = group.some in let all : end ≤ length entries = group.within in omega arith

  group_length : length group_of ≡ end - i
  group_length =
      let more : i < end = group.some in
      let all : end ≤ length entries = group.within in
      let size : length (drop i entries) ≡ length entries - i = length-drop i entries in
      length-take-le (end - i) (drop i entries) (omega arith)

  pub group_some : 0 < length group_of
  group_some = let more : i < end = group.some in let size : length group_of ≡ end - i = group_length in omega arith

  group_at : (k : ℕ) (d : EnvEntry) → k < length group_of → get_or group_of k d ≡ get_or entries (i + k) d
  group_at k d k_low =
      let size : length group_of ≡ end - i = group_length in
      get_or-take (end - i) (drop i entries) k d (omega arith) ∙ get_or-drop i entries k d

  pub group_binder : All (λ (e : EnvEntry). e.binder ≡ (get_or entries i default).binder) group_of
  group_binder k d k_low =
      let size : length group_of ≡ end - i = group_length in
      ap (λ (e : EnvEntry). e.binder) (group_at k d k_low)
      ∙ (group.same (i + k) d (omega arith) (omega arith) ∙ ap (λ (e : EnvEntry). e.binder) (get_or_default entries i d default low))

  rest_is : drop i entries ≡ group_of ++ rest
  rest_is =
      let more : i < end = group.some in
      let at_end : i + (end - i) ≡ end = omega arith in
      sym (take-append-drop (end - i) (drop i entries)) ∙ ap (λ (xs : List EnvEntry). group_of ++ xs) (drop-drop (end - i) i entries ∙ ap (λ n. drop n entries) at_end)

  waits : Waits live (with_lists states (env ++ (group_of ++ rest)) part.root)
  waits = subst (λ (xs : List EnvEntry). Waits live (with_lists states (env ++ xs) part.root)) rest_is is.remade.waits

  pub group_states : All (λ (e : EnvEntry). IsLiveState live Negative e.state.0) group_of
  group_states =
      All-contained (λ (e : EnvEntry). IsLiveState live Negative e.state.0) group_of (λ e it.
      let inside : Contains (env ++ (group_of ++ rest)) e = Contains-append_right env (group_of ++ rest) e (Contains-append_left group_of rest e it) in
      record { there = waits.there e.state.0 (waits.part.env_in e inside); polarity = waits.part.env_negative e inside })

  module _ (new : Live) (more : List ℕ) (entry : EnvEntry) (env' : List EnvEntry) (meeting : IsMeeting live states group_of new more entry) (env_is : env' ≡ env ++ entry ∷ []) (ascend : BindersAscend entries) where
    binder_at : (d : EnvEntry) → entry.binder ≡ (get_or entries i d).binder
    binder_at d =
        let e : EnvEntry = get_or group_of 0 d in
        sym (meeting.binder e (Contains-get_or group_of 0 d group_some))
        ∙ (group_binder 0 d group_some ∙ ap (λ (e : EnvEntry). e.binder) (get_or_default entries i default d low))

    -- the part with the entry in place of the group
    remade : IsRemade old part new (with_lists more ((env ++ entry ∷ []) ++ rest) part.root)
    remade =
        let before : List EnvEntry = env ++ (group_of ++ rest) in
        let moved : List EnvEntry = group_of ++ (env ++ rest) in
        let met : List EnvEntry = entry ∷ (env ++ rest) in
        let after : List EnvEntry = env ++ (entry ∷ rest) in
        let step : IsRemade live (with_lists states moved part.root) new (with_lists more met part.root) =
        meeting.remade (env ++ rest) part.root (waits_members states states (same_members states) before moved (swapped_in env group_of rest) part.root live waits) in
        let back : IsRemade live (with_lists states before part.root) new (with_lists more after part.root) =
        remade_members live new states states moved before part.root more more met after part.root
        (same_members states) (swapped_in group_of env rest) (same_members more) (swapped_in (entry ∷ []) env rest) step in
        let own : IsRemade live (with_lists states (env ++ drop i entries) part.root) new (with_lists more after part.root) =
        subst (λ (xs : List EnvEntry). IsRemade live (with_lists states (env ++ xs) part.root) new (with_lists more after part.root)) (sym rest_is) back in
        let whole : IsRemade old part new (with_lists more after part.root) =
        remade_then old part live (with_lists states (env ++ drop i entries) part.root) new (with_lists more after part.root) is.remade own in
        subst (λ (xs : List EnvEntry). IsRemade old part new (with_lists more xs part.root)) (sym (append_assoc env (entry ∷ []) rest)) whole

    new_below : (k : ℕ) (d : EnvEntry) → end ≤ k → k < length entries → entry.binder < (get_or entries k d).binder
    new_below k d le k_low =
        let some : i < end = group.some in
        let first : (get_or entries i d).binder ≤ (get_or entries end d).binder = ascend i end d (omega arith) (omega arith) in
        let other : (get_or entries end d).binder ≢ (get_or entries i d).binder = group.other d (omega arith) in
        let later : (get_or entries end d).binder ≤ (get_or entries k d).binder = ascend end k d le k_low in
        let at : entry.binder ≡ (get_or entries i d).binder = binder_at d in
        let strict : (get_or entries i d).binder < (get_or entries end d).binder = strictly (get_or entries i d).binder (get_or entries end d).binder first other in
        omega arith
      where
        strictly : (m n : ℕ) → m ≤ n → n ≢ m → m < n
        strictly m n le unlike = omega arith

    below : (e : EnvEntry) → Contains env e ⊎ Contains (entry ∷ []) e → (k : ℕ) (d : EnvEntry) → end ≤ k → k < length entries → e.binder < (get_or entries k d).binder
    below e (inl earlier) k d le k_low = let some : i < end = group.some in is.below e earlier k d (omega arith) k_low
    below e (inr one) k d le k_low = elim (Contains-cases entry [] e one) [
      | inl same ↦ subst (λ (e : EnvEntry). e.binder < (get_or entries k d).binder) same (new_below k d le k_low)
      | inr none ↦ absurd (nothing_in e none)
    ]

    lower : All (λ (e : EnvEntry). e.binder < entry.binder) env
    lower =
        All-contained (λ (e : EnvEntry). e.binder < entry.binder) env
        (λ e it. subst (λ n. e.binder < n) (sym (binder_at default)) (is.below e it i default (omega arith) low))

    pub merged_next : IsMergedTo old part entries end new more env'
    merged_next =
        subst (IsMergedTo old part entries end new more) (sym env_is)
        (record {
          within = group.within;
          remade = remade;
          rise = rise_next env entry is.rise lower;
          below = λ e it. below e (Contains-append_cases env (entry ∷ []) e it);
        })

pub merged_end : (old live : Live) (part : TablePart) (entries : List EnvEntry) (i : ℕ) (states : List ℕ) (env : List EnvEntry) → IsMergedTo old part entries i live states env → length entries ≤ i
    → IsRemade old part live (with_lists states env part.root)
merged_end old live part entries i states env is all =
    subst (λ (xs : List EnvEntry). IsRemade old part live (with_lists states xs part.root))
    (ap (λ (xs : List EnvEntry). env ++ xs) (drop_all i entries all) ∙ append-nil env) is.remade
