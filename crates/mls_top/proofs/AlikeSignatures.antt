-- Signatures with the same names and equivalent schemes have one answer to an interface, but for the path.
use Rattle.std.proofs.Common.{◌≡◌, ◌⊎◌, inl, inr, ◌<◌, List, [], ◌∷◌, take, get_or, Contains, sym, ◌∙◌, subst, arith}
use Rattle.mls_book.specs.Schemes.{AreEquivalent}
use Rattle.mls_book.proofs.Subsumption.{Subsumes-trans, Equivalent-sym, Equivalent-trans}
use Rattle.mls_automaton.proofs.Lists.{Contains-here, Contains-later, Contains-cases}
use Rattle.mls_typetext.specs.Schemes.{scheme_of}
use Rattle.mls_subsume.specs.declared.verdict.Path.{Path}
use Rattle.mls_iface.specs.declared.interface.Val.{Val}
use Rattle.mls_iface.specs.declared.matching.MatchAnswer.{MatchAnswer}
use Rattle.mls_iface.specs.declared.matching.MatchAnswer.TheVariants as answer
use Rattle.mls_iface.specs.declared.signature.SigEntry.{SigEntry}
use Rattle.mls_iface.specs.Signatures.{AreEntries}
use Rattle.mls_iface.specs.Matches.{IsMatched, Match, IsTooSpecial, Fails, IsFirstToFail, IsMatchAnswer}
use Rattle.mls_iface.specs.Laws.{IsSameAnswer}
use Rattle.mls_iface.proofs.MatchLaws.{one_match_answer}
use Rattle.mls_modules.specs.Laws.{AreAlike}

-- an entry of the first list that is like one of the second
abbrev HasLike : List SigEntry → SigEntry → Type 0
HasLike es f = (e : SigEntry) × Contains es e × (e.name ≡ f.name) × AreEquivalent (scheme_of e.scheme) (scheme_of f.scheme)

like : (es fs : List SigEntry) → AreAlike es fs → (f : SigEntry) → Contains fs f → HasLike es f
like [] [] are f inside = let low : inside.0 < 0 = inside.1 in absurd (omega arith)
like [] (g ∷ fs) are f inside = absurd are
like (e ∷ es) [] are f inside = absurd are
like (e ∷ es) (g ∷ fs) are f inside = by (like es fs are.2 f) (Contains-cases g fs f inside)
  where
    by : (Contains fs f → HasLike es f) → (g ≡ f) ⊎ Contains fs f → HasLike (e ∷ es) f
    by later (inl same) =
        let P : SigEntry → Type 0 = λ f. HasLike (e ∷ es) f in
        subst P same (e, Contains-here e es, are.0, are.1)
    by later (inr inside) = let it = later inside in (it.0, Contains-later e es it.0 it.1, it.2, it.3)

-- likeness goes both ways
turned : (es fs : List SigEntry) → AreAlike es fs → AreAlike fs es
turned [] [] are = tt
turned [] (f ∷ fs) are = absurd are
turned (e ∷ es) [] are = absurd are
turned (e ∷ es) (f ∷ fs) are = (sym are.0, Equivalent-sym (scheme_of e.scheme) (scheme_of f.scheme) are.1, turned es fs are.2)

module _ (es fs : List SigEntry) (are : AreAlike es fs) where
  -- what the second matches, the first matches,
  is_matched : (val : Val) → IsMatched fs val → IsMatched es val
  is_matched val (f, is, general) =
      let e = like es fs are f is.0 in
      (e.0, (e.1, e.2 ∙ is.1), Subsumes-trans (scheme_of e.0.scheme) (scheme_of f.scheme) (scheme_of val.scheme) e.3.0 general)

  matched : (vals : List Val) → Match fs vals → Match es vals
  matched vals all k d low = is_matched (get_or vals k d) (all k d low)

  -- and what is too special for the second is so for the first
  is_too_special : (val : Val) (path : Path) → IsTooSpecial fs val path → IsTooSpecial es val path
  is_too_special val path it =
      let e = like es fs are it.e it.is_entry.0 in
      let general = it.allowed.of_general in
      record {
        e = e.0;
        is_entry = (e.1, e.2 ∙ it.is_entry.1);
        not_general = λ subsumes. it.not_general (Subsumes-trans (scheme_of it.e.scheme) (scheme_of e.0.scheme) (scheme_of val.scheme) e.3.1 subsumes);
        allowed = record {
          general_automaton = it.allowed.general_automaton;
          special_automaton = it.allowed.special_automaton;
          of_general = record {
            is = general.is;
            no_binders = general.no_binders;
            deterministic = general.deterministic;
            equivalent = λ u of_it. Equivalent-trans u (scheme_of it.e.scheme) (scheme_of e.0.scheme) (general.equivalent u of_it) (Equivalent-sym (scheme_of e.0.scheme) (scheme_of it.e.scheme) e.3);
          };
          of_special = it.allowed.of_special;
          first = it.allowed.first;
        };
      }

  fails : (val : Val) (reason : MatchAnswer) → Fails fs val reason → Fails es val reason
  fails val answer.All h = h
  fails val (answer.Missing x) (named, none) = (named, λ e is. let f = like fs es (turned es fs are) e is.0 in none f.0 (f.1, f.2 ∙ is.1))
  fails val (answer.TooSpecial x path) (named, it) = (named, is_too_special val path it)

  first_to_fail : (vals : List Val) (reason : MatchAnswer) → IsFirstToFail fs vals reason → IsFirstToFail es vals reason
  first_to_fail vals reason it = record {
    number = it.number;
    val = it.val;
    stands = it.stands;
    before = matched (take it.number vals) it.before;
    fails = fails it.val reason it.fails;
  }

  -- so the first has the answers of the second
  has_answer : (vals : List Val) (reason : MatchAnswer) → IsMatchAnswer fs vals reason → IsMatchAnswer es vals reason
  has_answer vals answer.All h = matched vals h
  has_answer vals (answer.Missing x) h = first_to_fail vals (answer.Missing x) h
  has_answer vals (answer.TooSpecial x path) h = first_to_fail vals (answer.TooSpecial x path) h

pub one_answer_of_alike : (es fs : List SigEntry) → AreAlike es fs → AreEntries es → (vals : List Val) (reason other : MatchAnswer) → IsMatchAnswer es vals reason → IsMatchAnswer fs vals other
    → IsSameAnswer reason other
one_answer_of_alike es fs are entries vals reason other h k = one_match_answer es vals reason other entries h (has_answer es fs are vals other k)
