-- Which signatures match which interfaces, and which declaration is the first that fails.
use Rattle.std.specs.Prelude.{◌≡◌, ◌≢◌, ℕ, List, [], map, take, slice_get, All, AllPairs, Contains, Some}
use Rattle.mls_book.specs.Schemes as book
use Rattle.mls_book.specs.Schemes.{AreEquivalent, Subsumes}
use Rattle.mls_typetext.specs.declared.scheme.ReadScheme.{ReadScheme}
use Rattle.mls_typetext.specs.Laws.{IsReadScheme}
use Rattle.mls_typetext.specs.Schemes.{scheme_of}
use Rattle.mls_automaton.specs.declared.scheme.Scheme.{Scheme}
use Rattle.mls_automaton.specs.Models.{IsDeterministic}
use Rattle.mls_automaton.specs.Schemes.{IsScheme, IsSchemeOf}
use Rattle.mls_scheme.specs.ReadTypes.{IsPolarisedRead}
use Rattle.mls_subsume.specs.declared.verdict.Path.{Path}
use Rattle.mls_subsume.specs.Failures.{IsFirstFailure}
use Rattle.mls_iface.specs.declared.interface.Val.{Val}
use Rattle.mls_iface.specs.declared.matching.MatchAnswer.{MatchAnswer}
use Rattle.mls_iface.specs.declared.matching.MatchAnswer.TheVariants as answer
use Rattle.mls_iface.specs.declared.signature.SigEntry.{SigEntry}

-- a scheme such as the text of a type is read as
abbrev pub IsRead : ReadScheme → Type 0
IsRead read = IsReadScheme read × IsPolarisedRead read

-- declarations such as a text declares: their schemes were read, and each name stands once
pub record AreDeclarations (vals : List Val) : Type 0 where
  pub schemes : All (λ val. IsRead val.scheme) vals
  pub distinct : AllPairs (λ x y. x ≢ y) (map (λ val. val.name) vals)

-- the entry is one of the signature for the declared name
abbrev pub IsEntryFor : List SigEntry → Val → SigEntry → Type 0
IsEntryFor entries val e = Contains entries e × (e.name ≡ val.name)

-- the scheme of the entry subsumes the declared scheme
abbrev pub IsGeneralEnough : SigEntry → Val → Type 0
IsGeneralEnough e val = Subsumes (scheme_of e.scheme) (scheme_of val.scheme)

-- the declared name has an entry whose scheme subsumes the declared one
abbrev pub IsMatched : List SigEntry → Val → Type 0
IsMatched entries val = (e : SigEntry) × IsEntryFor entries val e × IsGeneralEnough e val

-- the signature matches the interface: each declared name has such an entry
abbrev pub Match : List SigEntry → List Val → Type 0
Match entries vals = All (IsMatched entries) vals

-- a scheme without binders over a deterministic automaton, which is equivalent to this one
pub record IsAutomatonOf (t : book.Scheme) (s : Scheme) : Type 0 where
  pub is : IsScheme s
  pub no_binders : s.env ≡ []
  pub deterministic : IsDeterministic s.automaton
  pub equivalent : (u : book.Scheme) → IsSchemeOf s u → AreEquivalent u t

-- the path is the first failure of two such schemes
pub record IsAllowedPath (general special : book.Scheme) (path : Path) : Type 0 where
  pub general_automaton : Scheme
  pub special_automaton : Scheme
  pub of_general : IsAutomatonOf general general_automaton
  pub of_special : IsAutomatonOf special special_automaton
  pub first : IsFirstFailure general_automaton special_automaton path

-- the entry of the declared name is not general enough, with this path
pub record IsTooSpecial (entries : List SigEntry) (val : Val) (path : Path) : Type 0 where
  pub e : SigEntry
  pub is_entry : IsEntryFor entries val e
  pub not_general : IsGeneralEnough e val → ⊥
  pub allowed : IsAllowedPath (scheme_of e.scheme) (scheme_of val.scheme) path

-- the declaration fails so: its name has no entry, or one that is not general enough
abbrev pub Fails : List SigEntry → Val → MatchAnswer → Type 0
Fails entries val answer.All = ⊥
Fails entries val (answer.Missing x) = (x ≡ val.name) × ((e : SigEntry) → IsEntryFor entries val e → ⊥)
Fails entries val (answer.TooSpecial x path) = (x ≡ val.name) × IsTooSpecial entries val path

-- this declaration is the first that is not matched, and it fails so
pub record IsFirstToFail (entries : List SigEntry) (vals : List Val) (reason : MatchAnswer) : Type 0 where
  pub number : ℕ
  pub val : Val
  pub stands : slice_get vals number ≡ Some val
  pub before : Match entries (take number vals)
  pub fails : Fails entries val reason

-- all declarations are matched, or this is the first that is not
abbrev pub IsMatchAnswer : List SigEntry → List Val → MatchAnswer → Type 0
IsMatchAnswer entries vals answer.All = Match entries vals
IsMatchAnswer entries vals (answer.Missing x) = IsFirstToFail entries vals (answer.Missing x)
IsMatchAnswer entries vals (answer.TooSpecial x path) = IsFirstToFail entries vals (answer.TooSpecial x path)
