-- Declarations are compared one after another, up to the first that fails.
use Rattle.std.proofs.Common.{◌≡◌, ℕ, ◌+◌, ◌<◌, ◌≤◌, List, length, take, get_or, Some, sym, ap, subst, ◌∙◌}
use Rattle.std.proofs.lemmas.List.{take_more, take_all}
use Rattle.std.proofs.lemmas.List.Elements.{All-push}
use Rattle.std.proofs.lemmas.Option.{slice_get-get_or}
use Rattle.mls_iface.specs.declared.interface.Val.{Val}
use Rattle.mls_iface.specs.declared.matching.MatchAnswer.{MatchAnswer}
use Rattle.mls_iface.specs.declared.matching.MatchAnswer.TheVariants as answer
use Rattle.mls_iface.specs.declared.signature.SigEntry.{SigEntry}
use Rattle.mls_iface.specs.Matches.{IsMatched, Match, Fails, IsMatchAnswer}

module _ (entries : List SigEntry) (vals : List Val) (i : ℕ) (before : Match entries (take i vals)) where
  pub all_matched : length vals ≤ i → Match entries vals
  all_matched past = subst (Match entries) (take_all i vals past) before

  module _ (val : Val) (low : i < length vals) (here : val ≡ get_or vals i val) where
    pub one_more : IsMatched entries val → Match entries (take (i + 1) vals)
    one_more is =
        subst (Match entries) (sym (take_more vals i val low))
        (All-push (IsMatched entries) (take i vals) (get_or vals i val) before (subst (IsMatched entries) here is))

    pub first_to_fail : (reason : MatchAnswer) → Fails entries val reason → IsMatchAnswer entries vals reason
    first_to_fail answer.All fails = absurd fails
    first_to_fail (answer.Missing x) fails =
        record { number = i; val = val; stands = slice_get-get_or vals i val low ∙ ap Some (sym here); before = before; fails = fails }
    first_to_fail (answer.TooSpecial x path) fails =
        record { number = i; val = val; stands = slice_get-get_or vals i val low ∙ ap Some (sym here); before = before; fails = fails }
