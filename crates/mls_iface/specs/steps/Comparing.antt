-- How a declaration is compared with the entry of its name.
use Rattle.std.specs.Prelude.{◌≡◌, ℕ, ◌<◌, List, get_or, Option, Some, None, IsSome}
use Rattle.std.specs.BTreeMap.{BTreeMap, get}
use Rattle.std.specs.Ordering.{nat_cmp}
use Rattle.std.specs.Cmp.Lexicographic.{slice_cmp}
use Rattle.mls_book.specs.Schemes as book
use Rattle.mls_book.specs.Schemes.{Subsumes}
use Rattle.mls_typetext.specs.Schemes.{scheme_of}
use Rattle.mls_subsume.specs.declared.verdict.Path.{Path}
use Rattle.mls_iface.specs.declared.interface.Val.{Val}
use Rattle.mls_iface.specs.declared.matching.MatchAnswer.{MatchAnswer}
use Rattle.mls_iface.specs.declared.matching.MatchAnswer.TheVariants as answer
use Rattle.mls_iface.specs.declared.signature.SigEntry.{SigEntry}
use Rattle.mls_iface.specs.Matches.{IsMatched, Fails, IsGeneralEnough, IsAllowedPath}

-- the map has, for each name of the first n entries, the number of one of these with this name
pub record AreNumbers (n : ℕ) (entries : List SigEntry) (numbers : BTreeMap (List ℕ) ℕ) : Type 0 where
  pub found : (x : List ℕ) (k : ℕ) → get (slice_cmp nat_cmp) numbers x ≡ Some k
      → (k < n) × ((d : SigEntry) → (get_or entries k d).name ≡ x)
  pub all : (k : ℕ) (d : SigEntry) → k < n → IsSome (get (slice_cmp nat_cmp) numbers (get_or entries k d).name)

-- how a declaration fails, or none where it is matched
abbrev pub IsHeld : List SigEntry → Val → Option MatchAnswer → Type 0
IsHeld entries val None = IsMatched entries val
IsHeld entries val (Some reason) = Fails entries val reason

-- the first failure, or none where the one scheme subsumes the other
abbrev pub IsCompared : book.Scheme → book.Scheme → Option Path → Type 0
IsCompared general special None = Subsumes general special
IsCompared general special (Some path) = (Subsumes general special → ⊥) × IsAllowedPath general special path

-- how the entry is not general enough, or none where it is
abbrev pub IsNarrow : SigEntry → Val → Option MatchAnswer → Type 0
IsNarrow e val None = IsGeneralEnough e val
IsNarrow e val (Some answer.All) = ⊥
IsNarrow e val (Some (answer.Missing x)) = ⊥
IsNarrow e val (Some (answer.TooSpecial x path)) =
    (x ≡ val.name) × (IsGeneralEnough e val → ⊥) × IsAllowedPath (scheme_of e.scheme) (scheme_of val.scheme) path
