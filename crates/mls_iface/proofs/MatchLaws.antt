-- A signature has one answer to an interface, but for the path.
use Rattle.std.proofs.Common.{◌≡◌, ◌⊎◌, inl, inr, ℕ, ◌<◌, ◌≤◌, List, length, map, take, get_or, sym, ap, subst, ◌∙◌, arith, []}
use Rattle.std.proofs.lemmas.Bool.{cases_lt}
use Rattle.std.proofs.lemmas.List.{get_or_default, get_or-map, get_or-take, length-map, length-take-le}
use Rattle.std.proofs.lemmas.Option.{slice_get_within, get_or_from_slice_get}
use Rattle.mls_iface.specs.declared.interface.Val.{Val}
use Rattle.mls_iface.specs.declared.matching.MatchAnswer.{MatchAnswer}
use Rattle.mls_iface.specs.declared.matching.MatchAnswer.TheVariants as answer
use Rattle.mls_iface.specs.declared.signature.SigEntry.{SigEntry}
use Rattle.mls_iface.specs.Signatures.{AreEntries}
use Rattle.mls_iface.specs.Matches.{IsEntryFor, IsGeneralEnough, IsMatched, Match, Fails, IsFirstToFail, IsMatchAnswer}
use Rattle.mls_iface.specs.Laws.{IsSameAnswer, OneMatchAnswer}

abbrev name_of : SigEntry → List ℕ
name_of e = e.name

module _ (entries : List SigEntry) (are : AreEntries entries) where
  apart : (i j : ℕ) (e f : SigEntry) → i < j → j < length entries → get_or entries i e ≡ e → get_or entries j f ≡ f → e.name ≡ f.name → ⊥
  apart i j e f less low at at' same =
      let size : length (map name_of entries) ≡ length entries = length-map entries name_of in
      are.distinct i j [] less (omega arith)
      (get_or-map name_of entries i e [] (omega arith) ∙ (ap name_of at ∙ (same ∙ (sym (ap name_of at') ∙ sym (get_or-map name_of entries j f [] low)))))

  one_entry : (val : Val) (e f : SigEntry) → IsEntryFor entries val e → IsEntryFor entries val f → e ≡ f
  one_entry val e f ((i, low, at), named) ((j, low', at'), named') = go (cases_lt i j) (cases_lt j i)
    where
      same : e.name ≡ f.name
      same = named ∙ sym named'

      go : (i < j) ⊎ (j ≤ i) → (j < i) ⊎ (i ≤ j) → e ≡ f
      go (inl less) either = absurd (apart i j e f less low' at at' same)
      go (inr le) (inl less) = absurd (apart j i f e less low at' at (sym same))
      go (inr le) (inr le') =
          let is : i ≡ j = omega arith in
          sym at ∙ (get_or_default entries i e f low ∙ (ap (λ k. get_or entries k f) is ∙ at'))

  unmatched : (val : Val) (reason : MatchAnswer) → Fails entries val reason → IsMatched entries val → ⊥
  unmatched val answer.All fails is = fails
  unmatched val (answer.Missing x) fails is = fails.1 is.0 is.1
  unmatched val (answer.TooSpecial x path) fails is =
      fails.1.not_general (subst (λ e. IsGeneralEnough e val) (one_entry val is.0 fails.1.e is.1 fails.1.is_entry) is.2)

  same_answer : (val : Val) (a b : MatchAnswer) → Fails entries val a → Fails entries val b → IsSameAnswer a b
  same_answer val answer.All b fails fails' = absurd fails
  same_answer val (answer.Missing x) answer.All fails fails' = absurd fails'
  same_answer val (answer.Missing x) (answer.Missing y) fails fails' = fails.0 ∙ sym fails'.0
  same_answer val (answer.Missing x) (answer.TooSpecial y path) fails fails' = absurd (fails.1 fails'.1.e fails'.1.is_entry)
  same_answer val (answer.TooSpecial x path) answer.All fails fails' = absurd fails'
  same_answer val (answer.TooSpecial x path) (answer.Missing y) fails fails' = absurd (fails'.1 fails.1.e fails.1.is_entry)
  same_answer val (answer.TooSpecial x path) (answer.TooSpecial y other) fails fails' = fails.0 ∙ sym fails'.0

  module _ (vals : List Val) where
    -- the first that fails is not matched,
    not_all : (reason : MatchAnswer) → IsFirstToFail entries vals reason → Match entries vals → ⊥
    not_all reason first all =
        let low : first.number < length vals = slice_get_within vals first.number first.val first.stands in
        unmatched first.val reason first.fails
        (subst (IsMatched entries) (get_or_from_slice_get vals first.number first.val first.val first.stands) (all first.number first.val low))

    -- so it is not before another one that is the first,
    not_before : (a b : MatchAnswer) (first : IsFirstToFail entries vals a) (other : IsFirstToFail entries vals b) → first.number < other.number → ⊥
    not_before a b first other less =
        let within : other.number < length vals = slice_get_within vals other.number other.val other.stands in
        let size : length (take other.number vals) ≡ other.number = length-take-le other.number vals (omega arith) in
        unmatched first.val a first.fails
        (subst (IsMatched entries)
        (get_or-take other.number vals first.number first.val less ∙ get_or_from_slice_get vals first.number first.val first.val first.stands)
        (other.before first.number first.val (omega arith)))

    -- and both are one declaration, which fails in one way
    two_firsts : (a b : MatchAnswer) → IsFirstToFail entries vals a → IsFirstToFail entries vals b → IsSameAnswer a b
    two_firsts a b first other = go (cases_lt first.number other.number) (cases_lt other.number first.number)
      where
        go : (first.number < other.number) ⊎ (other.number ≤ first.number) → (other.number < first.number) ⊎ (first.number ≤ other.number) → IsSameAnswer a b
        go (inl less) either = absurd (not_before a b first other less)
        go (inr le) (inl less) = absurd (not_before b a other first less)
        go (inr le) (inr le') =
            let same : other.number ≡ first.number = omega arith in
            let one : other.val ≡ first.val =
            sym (get_or_from_slice_get vals other.number other.val other.val other.stands)
            ∙ (ap (λ k. get_or vals k other.val) same ∙ get_or_from_slice_get vals first.number first.val other.val first.stands) in
            same_answer first.val a b first.fails (subst (λ val. Fails entries val b) one other.fails)

    one_answer : (a b : MatchAnswer) → IsMatchAnswer entries vals a → IsMatchAnswer entries vals b → IsSameAnswer a b
    one_answer answer.All answer.All is is' = tt
    one_answer answer.All (answer.Missing y) is is' = absurd (not_all (answer.Missing y) is' is)
    one_answer answer.All (answer.TooSpecial y other) is is' = absurd (not_all (answer.TooSpecial y other) is' is)
    one_answer (answer.Missing x) answer.All is is' = absurd (not_all (answer.Missing x) is is')
    one_answer (answer.Missing x) (answer.Missing y) is is' = two_firsts (answer.Missing x) (answer.Missing y) is is'
    one_answer (answer.Missing x) (answer.TooSpecial y other) is is' = two_firsts (answer.Missing x) (answer.TooSpecial y other) is is'
    one_answer (answer.TooSpecial x path) answer.All is is' = absurd (not_all (answer.TooSpecial x path) is is')
    one_answer (answer.TooSpecial x path) (answer.Missing y) is is' = two_firsts (answer.TooSpecial x path) (answer.Missing y) is is'
    one_answer (answer.TooSpecial x path) (answer.TooSpecial y other) is is' = two_firsts (answer.TooSpecial x path) (answer.TooSpecial y other) is is'

pub one_match_answer : OneMatchAnswer
one_match_answer entries vals a b are is is' = one_answer entries are vals a b is is'
