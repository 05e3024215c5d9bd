-- Laws of inference.
use Rattle.std.specs.Prelude.{◌≡◌, ◌↔◌, ℕ, List, [], slice_get, Some}
use Rattle.std.specs.FinMap as finmap
use Rattle.mls_book.specs.Predicates.{Predicate}
use Rattle.mls_book.specs.Schemes.{Scheme, IsScheme}
use Rattle.mls_term.specs.Terms.{TermTree}
use Rattle.mls_term.specs.Derivations.{Known, IsBest, HasNone}
use Rattle.mls_term.specs.TypingLaws.{AreSchemes}
use Rattle.mls_term.specs.WellFormed.{IsScoped, IsFirstNone}
use Rattle.mls_typing.specs.Typed.{Types, IsTyped, Allows}
use Rattle.mls_typing.specs.Runs.{best, none, Infers}

-- only these schemes are known
abbrev pub at_start : List Scheme → Known
at_start globals = record { globals = globals; lets = finmap.empty }

abbrev pub AllSchemes : List Scheme → Type 0
AllSchemes globals = (g : ℕ) (s : Scheme) → slice_get globals g ≡ Some s → IsScheme s

-- a scheme that inference answers is best
abbrev pub AnswersAreBest : Type 0
AnswersAreBest =
    (globals : List Scheme) (t : TermTree) (s : Scheme) → AllSchemes globals → Infers (at_start globals) 0 t (best s)
    → IsScheme s × IsBest (at_start globals) t s

-- a node that inference answers is the first that has none
abbrev pub AnswersAreFirst : Type 0
AnswersAreFirst =
    (globals : List Scheme) (t : TermTree) (i : ℕ) → AllSchemes globals → Infers (at_start globals) 0 t (none i)
    → IsFirstNone globals t i

-- at most one node is the first that has none
abbrev pub OneFirstNone : Type 0
OneFirstNone =
    (globals : List Scheme) (t : TermTree) (i j : ℕ) → AllSchemes globals
    → IsFirstNone globals t i → IsFirstNone globals t j → i ≡ j

-- and then the whole term has none
abbrev pub FirstNoneFails : Type 0
FirstNoneFails =
    (globals : List Scheme) (t : TermTree) (i : ℕ) → AllSchemes globals → IsFirstNone globals t i
    → HasNone (at_start globals) t

-- of a whole term over schemes that need no binders, a best scheme is best without its environment
abbrev pub ClosedIsBest : Type 0
ClosedIsBest =
    (globals : List Scheme) (count : ℕ) (t : TermTree) (s : Scheme) → AllSchemes globals
    → ((g : ℕ) (u : Scheme) → slice_get globals g ≡ Some u → u.env ≡ finmap.empty)
    → IsScoped [] [] count t → IsScheme s → IsBest (at_start globals) t s
    → IsBest (at_start globals) t (record { book = s.book; env = finmap.empty; root = s.root })

-- a scheme is best exactly if it allows just the types that the expression has
abbrev pub BestAllowsTypes : Type 0
BestAllowsTypes =
    (known : Known) (t : TermTree) (s : Scheme) → AreSchemes known → IsScheme s
    → IsBest known t s ↔ ((types : Types) (f : Predicate) → IsTyped known types t f ↔ Allows s types f)
