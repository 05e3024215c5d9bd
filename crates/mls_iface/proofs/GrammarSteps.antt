-- How the grammar of an interface goes on, and where it stops, one declaration after another.
use Rattle.std.proofs.Common.{◌≡◌, ◌≢◌, ◌⊎◌, inl, inr, ℕ, suc, ◌+◌, ◌-◌, ◌<◌, ◌≤◌, List, [], ◌∷◌, ◌++◌, length, take, drop, slice_range, refl, sym, ap, ◌∙◌, subst, arith, Some, None}
use Rattle.std.specs.Prelude.{Option, slice_get}
use Rattle.std.proofs.lemmas.List.{length-map, length-drop, drop_all, take-append-drop, length-take-le}
use Rattle.std.proofs.lemmas.Option.{slice_get_within}
use Rattle.mls_lexer.specs.declared.token.Kind.{Kind}
use Rattle.mls_lexer.specs.declared.token.Kind.TheVariants as kind
use Rattle.mls_lexer.specs.declared.token.Token.{Token}
use Rattle.mls_lexer.specs.Tokens.{Terminal, name, word, terminal_of, terminal, terminals}
use Rattle.mls_typetext.specs.declared.scheme.TypeFault.{TypeFault}
use Rattle.mls_typetext.specs.Phrases.{Phrase, yields, width, joined, joins, meets, integer, no_meet, no_join, no_codomain}
use Rattle.mls_typetext.specs.Phrases as type
use Rattle.mls_typetext.specs.Stops.{IsType, BeginsType, IsFurthest, EndsBefore, HasStop, stops_before, stops_at_end}
use Rattle.mls_iface.proofs.Widths.{width-yields}
use Rattle.mls_typetext.proofs.TypeEnds.{take-more}
use Rattle.mls_iface.specs.declared.interface.IfaceFault.{IfaceFault}
use Rattle.mls_iface.specs.declared.interface.IfaceFault.TheVariants.{Unexpected, Ended}
use Rattle.mls_iface.specs.Declarations.{spelled, IsInterface, BeginsInterface}
use Rattle.mls_iface.specs.Faults.{of_type, HasGrammarFault, before, at_end}
use Rattle.mls_iface.specs.steps.Going.{LeadsTo, IsThere, IsMissing, other, absent}
use Rattle.mls_iface.proofs.TokenTerminals.{kind_of, kind_of-terminal, drop-next, drop-none, slice_get-behind, drop-behind, terminal-there, terminal-absent}
use Rattle.mls_iface.proofs.Yields.{yields-append}
use Rattle.mls_iface.proofs.Fronts.{header, IsBound, with_first, without_first, begins_with_first, begins_without_first, take-header, type_begins, type_goes_on, type_owed}

-- what begins an interface after the first terminals of a declaration
some_type : Phrase type.whole
some_type = joined (joins (meets integer no_meet) no_join) no_codomain

begins_nothing : BeginsInterface []
unfolding spelled
begins_nothing = ([], ([], refl))

begins_val : BeginsInterface (word kind.WordVal ∷ [])
unfolding spelled
begins_val = (name [] ∷ word kind.Colon ∷ yields some_type [], (record { declared = []; type = some_type } ∷ [], refl))

begins_name : (x : List ℕ) → BeginsInterface (word kind.WordVal ∷ name x ∷ [])
unfolding spelled
begins_name x = (word kind.Colon ∷ yields some_type [], (record { declared = x; type = some_type } ∷ [], refl))

not_val : (t : Terminal) → BeginsInterface (t ∷ []) → kind_of t ≡ kind.WordVal
unfolding spelled
not_val t (more, ([], is)) = absurd (cc)
not_val t (more, (d ∷ ds, is)) = let same : word kind.WordVal ≡ t = cc in ap kind_of (sym same)

not_name : (t : Terminal) → BeginsInterface (word kind.WordVal ∷ t ∷ []) → kind_of t ≡ kind.Name
unfolding spelled
not_name t (more, ([], is)) = absurd (cc)
not_name t (more, (d ∷ ds, is)) = let same : name d.declared ≡ t = cc in ap kind_of (sym same)

not_colon : (x : List ℕ) (t : Terminal) → BeginsInterface (word kind.WordVal ∷ name x ∷ t ∷ []) → kind_of t ≡ kind.Colon
unfolding spelled
not_colon x t (more, ([], is)) = absurd (cc)
not_colon x t (more, (d ∷ ds, is)) = let same : word kind.Colon ≡ t = cc in ap kind_of (sym same)

owed_name : IsInterface (word kind.WordVal ∷ []) → ⊥
unfolding spelled
owed_name ([], is) = absurd (cc)
owed_name (d ∷ ds, is) = absurd (cc)

owed_colon : (x : List ℕ) → IsInterface (word kind.WordVal ∷ name x ∷ []) → ⊥
unfolding spelled
owed_colon x ([], is) = absurd (cc)
owed_colon x (d ∷ ds, is) = absurd (cc)

module _ (text : List ℕ) (tokens : List Token) where
  abbrev ts : List Terminal
  ts = terminals text tokens

  kind_is : (token : Token) → kind_of (terminal text token) ≡ token.kind
  kind_is token = kind_of-terminal token.kind (slice_range text token.start token.end)

  next_terminal : (i : ℕ) (token : Token) → slice_get tokens i ≡ Some token → drop i ts ≡ terminal text token ∷ drop (suc i) ts
  next_terminal i token at = drop-next ts i (terminal text token) (terminal-there text tokens i token at)

  no_terminal : (i : ℕ) → slice_get tokens i ≡ None → drop i ts ≡ []
  no_terminal i at = drop-none ts i (terminal-absent text tokens i at)

  word_there : (i : ℕ) (token : Token) (k : Kind) → slice_get tokens i ≡ Some token → token.kind ≡ k
      → drop i ts ≡ terminal_of k (slice_range text token.start token.end) ∷ drop (suc i) ts
  word_there i token k at is =
      next_terminal i token at ∙ ap (λ k. terminal_of k (slice_range text token.start token.end) ∷ drop (suc i) ts) is

  -- a token with which nothing goes on
  fails : (from n : ℕ) (front : List Terminal) (token : Token) → slice_get tokens (from + n) ≡ Some token
      → take n (drop from ts) ≡ front → BeginsInterface front → (BeginsInterface (front ++ terminal text token ∷ []) → ⊥)
      → HasGrammarFault text tokens from (Unexpected token.start token.kind)
  fails from n front token at is begins not_so =
      before n token at (subst BeginsInterface (sym is) begins)
      (λ more. not_so (subst BeginsInterface
      (take-more (drop from ts) n (terminal text token) (slice_get-behind ts from n ∙ terminal-there text tokens (from + n) token at)
      ∙ ap (λ f. f ++ terminal text token ∷ []) is) more))

  ends : (from : ℕ) (all : List Terminal) → drop from ts ≡ all → BeginsInterface all → (IsInterface all → ⊥) → HasGrammarFault text tokens from Ended
  ends from all is begins not_so = at_end (subst BeginsInterface (sym is) begins) (λ it. not_so (subst IsInterface is it))

  -- the first token of a declaration is missing,
  pub val_missing : (from : ℕ) (fault : IfaceFault) → from < length tokens → IsMissing tokens from kind.WordVal fault → HasGrammarFault text tokens from fault
  val_missing from _ low (other token at differs) =
      fails from 0 [] token (ap (slice_get tokens) (omega arith) ∙ at) refl begins_nothing
      (λ begins. differs (sym (kind_is token) ∙ not_val (terminal text token) begins))
  val_missing from _ low (absent at) = absurd (there (slice_get tokens from) refl)
    where
      there : (o : Option Token) → slice_get tokens from ≡ o → ⊥
      there None none =
          let nothing = no_terminal from none in
          let size : length (drop from ts) ≡ length ts - from = length-drop from ts in
          let all : length ts ≡ length tokens = length-map tokens (λ (token : Token). terminal text token) in
          let empty : length (drop from ts) ≡ 0 = ap length nothing in
          absurd (omega arith)
      there (Some token) some = let wrong : None ≡ Some token = sym at ∙ some in absurd (cc)

  -- the second,
  pub name_missing : (from : ℕ) (fault : IfaceFault) → IsThere tokens from kind.WordVal → IsMissing tokens (suc from) kind.Name fault → HasGrammarFault text tokens from fault
  name_missing from _ (val, at, is) (other token at' differs) =
      fails from 1 (word kind.WordVal ∷ []) token (ap (slice_get tokens) (omega arith) ∙ at')
      (ap (take 1) (word_there from val kind.WordVal at is)) begins_val
      (λ begins. differs (sym (kind_is token) ∙ not_name (terminal text token) begins))
  name_missing from _ (val, at, is) (absent at') =
      ends from (word kind.WordVal ∷ []) (word_there from val kind.WordVal at is ∙ ap (λ us. word kind.WordVal ∷ us) (no_terminal (suc from) at'))
      begins_val owed_name

  -- the first two terminals
  two_there : (from : ℕ) → IsThere tokens from kind.WordVal → (second : IsThere tokens (suc from) kind.Name)
      → drop from ts ≡ word kind.WordVal ∷ name (slice_range text second.0.start second.0.end) ∷ drop (suc (suc from)) ts
  two_there from (val, at, is) (second, at', is') =
      word_there from val kind.WordVal at is ∙ ap (λ us. word kind.WordVal ∷ us) (word_there (suc from) second kind.Name at' is')

  -- or the third;
  pub colon_missing : (from : ℕ) (fault : IfaceFault) → IsThere tokens from kind.WordVal → IsThere tokens (suc from) kind.Name
      → IsMissing tokens (suc (suc from)) kind.Colon fault → HasGrammarFault text tokens from fault
  colon_missing from _ val second (other token at differs) =
      let x : List ℕ = slice_range text second.0.start second.0.end in
      fails from 2 (word kind.WordVal ∷ name x ∷ []) token (ap (slice_get tokens) (omega arith) ∙ at)
      (ap (take 2) (two_there from val second)) (begins_name x)
      (λ begins. differs (sym (kind_is token) ∙ not_colon x (terminal text token) begins))
  colon_missing from _ val second (absent at) =
      let x : List ℕ = slice_range text second.0.start second.0.end in
      ends from (word kind.WordVal ∷ name x ∷ [])
      (two_there from val second ∙ ap (λ us. word kind.WordVal ∷ name x ∷ us) (no_terminal (suc (suc from)) at))
      (begins_name x) (owed_colon x)

  -- behind the first three
  module _ (from : ℕ) (val : IsThere tokens from kind.WordVal) (second : IsThere tokens (suc from) kind.Name)
      (third : IsThere tokens (suc (suc from)) kind.Colon) where
    abbrev x : List ℕ
    x = slice_range text second.0.start second.0.end

    abbrev rest : List Terminal
    rest = drop (suc (suc (suc from))) ts

    three_there : drop from ts ≡ word kind.WordVal ∷ name x ∷ word kind.Colon ∷ rest
    three_there =
        two_there from val second
        ∙ ap (λ us. word kind.WordVal ∷ name x ∷ us) (word_there (suc (suc from)) third.0 kind.Colon third.1 third.2)

    -- the type cannot go on with this token
    type_fails : (count : ℕ) (token : Token) → IsFurthest rest count → slice_get tokens (suc (suc (suc from)) + count) ≡ Some token
        → (IsType (take count rest) → terminal text token ≡ word kind.WordVal → ⊥)
        → HasGrammarFault text tokens from (Unexpected token.start token.kind)
    type_fails count token furthest at not_so =
        fails from (suc (suc (suc count))) (word kind.WordVal ∷ name x ∷ word kind.Colon ∷ take count rest) token
        (ap (slice_get tokens) (omega arith) ∙ at)
        (ap (take (suc (suc (suc count)))) three_there)
        (type_begins x (take count rest) furthest.begins)
        (λ begins. go (type_goes_on x (take count rest) (terminal text token) furthest.begins begins))
      where
        here : slice_get rest count ≡ Some (terminal text token)
        here = slice_get-behind ts (suc (suc (suc from))) count ∙ terminal-there text tokens (suc (suc (suc from)) + count) token at

        go : BeginsType (take count rest ++ terminal text token ∷ []) ⊎ (IsType (take count rest) × (terminal text token ≡ word kind.WordVal)) → ⊥
        go (inl longer) =
            let low : count < length rest = slice_get_within rest count (terminal text token) here in
            furthest.no_further (suc count) (omega arith) (omega arith)
            (subst BeginsType (sym (take-more rest count (terminal text token) here)) longer)
        go (inr (is, val')) = not_so is val'

    -- no type comes,
    pub type_missing : (fault : TypeFault) → HasStop text tokens (suc (suc (suc from))) fault → HasGrammarFault text tokens from (of_type fault)
    type_missing _ (stops_before count token furthest not_so at) = type_fails count token furthest at (λ is val'. not_so is)
    type_missing _ (stops_at_end begins not_so) =
        ends from (word kind.WordVal ∷ name x ∷ word kind.Colon ∷ rest) three_there (type_begins x rest begins) (type_owed x rest begins not_so)

    -- or it comes, and after it no declaration,
    pub val_missing_behind : (k : ℕ) (token : Token) → EndsBefore text tokens (suc (suc (suc from))) k → slice_get tokens k ≡ Some token
        → token.kind ≢ kind.WordVal → HasGrammarFault text tokens from (Unexpected token.start token.kind)
    val_missing_behind k token it at differs =
        type_fails it.count token it.furthest (ap (slice_get tokens) (sym it.place) ∙ at)
        (λ is val'. differs (sym (kind_is token) ∙ ap kind_of val'))

    declaration_there : (k : ℕ) (it : EndsBefore text tokens (suc (suc (suc from))) k) → drop from ts ≡ header x it.is_type.0 (drop k ts)
    declaration_there k it =
        three_there
        ∙ ap (λ us. word kind.WordVal ∷ name x ∷ word kind.Colon ∷ us)
        (sym (take-append-drop it.count rest)
        ∙ ((λ i. sym it.is_type.1 i ++ drop it.count rest)
        ∙ (ap (λ us. yields it.is_type.0 [] ++ us) behind-rest
        ∙ sym (yields-append it.is_type.0 [] (drop k ts)))))
      where
        behind-rest : drop it.count rest ≡ drop k ts
        behind-rest = drop-behind ts (suc (suc (suc from))) it.count ∙ ap (λ n. drop n ts) (sym it.place)

    -- or the next declaration begins, or nothing comes
    pub leads_behind : (k : ℕ) (it : EndsBefore text tokens (suc (suc (suc from))) k) → IsBound (drop k ts) → LeadsTo text tokens from k
    leads_behind k it bound = record { whole = whole; faulty = faulty }
      where
        p : Phrase type.whole
        p = it.is_type.0

        there : drop from ts ≡ header x p (drop k ts)
        there = declaration_there k it

        size : it.count ≡ width p
        size =
            let all = width-yields p [] in
            let same : length (yields p []) ≡ length (take it.count rest) = ap length it.is_type.1 in
            let low : it.count ≤ length rest = it.furthest.within in
            let front : length (take it.count rest) ≡ it.count = length-take-le it.count rest low in
            omega arith

        whole : IsInterface (drop k ts) → IsInterface (drop from ts)
        whole is = subst IsInterface (sym there) (with_first x p (drop k ts) is)

        go_on : (n : ℕ) → take (suc (suc (suc (width p + n)))) (drop from ts) ≡ header x p (take n (drop k ts))
        go_on n = ap (take (suc (suc (suc (width p + n))))) there ∙ take-header x p (drop k ts) (suc (suc (suc (width p + n)))) n refl

        place_is : (n : ℕ) → k + n ≡ from + (suc (suc (suc (width p + n))))
        place_is n = let place : k ≡ suc (suc (suc from)) + it.count = it.place in let count = size in omega arith

        next_val : (n : ℕ) (token : Token) → slice_get tokens (k + n) ≡ Some token → IsBound (drop k ts)
            → (us : List Terminal) × (take (suc n) (drop k ts) ≡ word kind.WordVal ∷ us)
        next_val n token at (inl none) =
            let here : slice_get (drop k ts) n ≡ Some (terminal text token) = slice_get-behind ts k n ∙ terminal-there text tokens (k + n) token at in
            let low : n < length (drop k ts) = slice_get_within (drop k ts) n (terminal text token) here in
            let empty : length (drop k ts) ≡ 0 = ap length none in
            absurd (omega arith)
        next_val n token at (inr (us, is)) = (take n us, ap (take (suc n)) is)

        faulty : (fault : IfaceFault) → HasGrammarFault text tokens k fault → HasGrammarFault text tokens from fault
        faulty _ (before count token at begins not_so) =
            before (suc (suc (suc (width p + count)))) token (ap (slice_get tokens) (sym (place_is count)) ∙ at)
            (subst BeginsInterface (sym (go_on count)) (begins_with_first x p (take count (drop k ts)) begins))
            (λ more.
            let next = next_val count token at bound in
            let same : suc (suc (suc (suc (width p + count)))) ≡ suc (suc (suc (width p + suc count))) = omega arith in
            not_so (begins_without_first x p (take (suc count) (drop k ts)) next.0 next.1
            (subst BeginsInterface (ap (λ n. take n (drop from ts)) same ∙ go_on (suc count)) more)))
        faulty _ (at_end begins not_so) =
            at_end (subst BeginsInterface (sym there) (begins_with_first x p (drop k ts) begins))
            (λ is. not_so (all_without (subst IsInterface there is)))
          where
            all_without : IsInterface (header x p (drop k ts)) → IsInterface (drop k ts)
            all_without (es, spells) = without_first es x p (drop k ts) spells bound

  pub bound_none : (k : ℕ) → slice_get tokens k ≡ None → IsBound (drop k ts)
  bound_none k at = inl (no_terminal k at)

  pub bound_val : (k : ℕ) → IsThere tokens k kind.WordVal → IsBound (drop k ts)
  bound_val k (token, at, is) = inr (drop (suc k) ts, word_there k token kind.WordVal at is)

  pub leads_on : (from k n : ℕ) → LeadsTo text tokens from k → LeadsTo text tokens k n → LeadsTo text tokens from n
  leads_on from k n first next = record {
    whole = λ is. first.whole (next.whole is);
    faulty = λ fault has. first.faulty fault (next.faulty fault has);
  }

  pub leads_nowhere : (from : ℕ) → LeadsTo text tokens from from
  leads_nowhere from = record { whole = λ is. is; faulty = λ fault has. has }

  pub all_gone : (k : ℕ) → length tokens ≤ k → LeadsTo text tokens 0 k → IsInterface ts
  unfolding spelled
  all_gone k past leads =
      let size : length ts ≡ length tokens = length-map tokens (λ (token : Token). terminal text token) in
      leads.whole ([], sym (drop_all k ts (omega arith)))
