-- The nodes of a printed type are a layout of the automaton that is read from it, which is deterministic.
--     read_is_laid_out, read_is_deterministic      of all books whose layers have one function and one record at most
--     printed_tops       the layers of a printed type are such
--     printed_layout     so its nodes are a layout, in each book that has them
--     made_layout, made_deterministic      the same of the scheme that is made of it
use Rattle.std.proofs.Common.{◌≡◌, ℕ, ◌^◌, ◌<◌, List, [], length}
use Rattle.mls_book.specs.declared.book.Node.{Node}
use Rattle.mls_automaton.specs.declared.automaton.Polarity.{Polarity}
use Rattle.mls_automaton.specs.Automata.{Automaton, head_at}
use Rattle.mls_automaton.specs.Models.{IsDeterministic}
use Rattle.mls_automaton.specs.declared.scheme.Scheme.{Scheme}
use Rattle.mls_automaton.specs.Schemes.{IsScheme}
use Rattle.mls_typetext.specs.declared.scheme.ReadScheme.{ReadScheme}
use Rattle.mls_typetext.specs.Texts.{IsTypeText}
use Rattle.mls_scheme.specs.ReadAutomata.{IsReadFrom}
use Rattle.mls_scheme.specs.ReadTypes.{IsReadFromBook}
use Rattle.mls_print.specs.Printed.{IsPrinted, HasNamedFields}
use Rattle.mls_deriv.specs.Steps.{HasFrom}
use Rattle.mls_layout.specs.Layouts.{IsTypeLayout}
use Rattle.mls_typenodes.specs.OneEach.{HaveOneEach, HasRisingSets, AreNoneNodes, read_place, ReadIsLaidOut, ReadIsDeterministic}
use Rattle.mls_typenodes.proofs.PrintedTypes.{printed_has_one}
use Rattle.mls_typenodes.proofs.SingleSets.{single_heads}
use Rattle.mls_typenodes.proofs.TypeLayouts.{type_layout, places_low}

pub read_is_laid_out : ReadIsLaidOut
read_is_laid_out nodes root b it one book n from none are_none = (
  type_layout book n nodes from it.closed it.sign it.polarised root it.is_top it.tops b it.automaton one none are_none,
  places_low book n nodes from it.closed it.sign it.polarised root it.is_top it.tops b it.automaton one none are_none,
)

pub read_is_deterministic : ReadIsDeterministic
read_is_deterministic nodes root b it one labels sets = single_heads nodes it.sign it.is_top b it.automaton one labels sets

-- all tops are nodes of the book
pub printed_tops : (s : Scheme) (text : List ℕ) (read : ReadScheme) → IsScheme s → HasNamedFields s.automaton → s.env ≡ [] → IsPrinted s text → length text < 2 ^ 64 → IsTypeText text read
    → (b : Automaton) (it : IsReadFrom read.book read.root.0 b) → HaveOneEach read.book it.is_top
printed_tops s text read is labelled no_env printed short is_text b it i top = printed_has_one s text read is labelled no_env printed short is_text i (it.tops.low i top)

pub printed_layout : (s : Scheme) (text : List ℕ) (read : ReadScheme) → IsScheme s → HasNamedFields s.automaton → s.env ≡ [] → IsPrinted s text → length text < 2 ^ 64 → IsTypeText text read
    → (b : Automaton) (it : IsReadFrom read.book read.root.0 b) (book : List Node) (n : ℕ) → HasFrom book n read.book → (none : Polarity → ℕ) → AreNoneNodes book none
    → IsTypeLayout book b (read_place n it.is_top none b) × ((i : ℕ) → read_place n it.is_top none b i < length book)
printed_layout s text read is labelled no_env printed short is_text b it =
    read_is_laid_out read.book read.root.0 b it (printed_tops s text read is labelled no_env printed short is_text b it)

-- and so are they of the scheme that is made of what was read
pub made_layout : (s : Scheme) (text : List ℕ) (read : ReadScheme) → IsScheme s → HasNamedFields s.automaton → s.env ≡ [] → IsPrinted s text → length text < 2 ^ 64 → IsTypeText text read
    → (made : Scheme) (it : IsReadFromBook read made) (book : List Node) (n : ℕ) → HasFrom book n read.book → (none : Polarity → ℕ) → AreNoneNodes book none
    → IsTypeLayout book made.automaton (read_place n it.automaton.is_top none made.automaton) × ((i : ℕ) → read_place n it.automaton.is_top none made.automaton i < length book)
made_layout s text read is labelled no_env printed short is_text made it = printed_layout s text read is labelled no_env printed short is_text made.automaton it.automaton

pub made_deterministic : (s : Scheme) (text : List ℕ) (read : ReadScheme) → IsScheme s → HasNamedFields s.automaton → s.env ≡ [] → IsPrinted s text → length text < 2 ^ 64 → IsTypeText text read
    → (made : Scheme) → IsReadFromBook read made → IsScheme made → ((i : ℕ) → HasRisingSets (head_at made.automaton i)) → IsDeterministic made.automaton
made_deterministic s text read is labelled no_env printed short is_text made it is_made sets =
    read_is_deterministic read.book read.root.0 made.automaton it.automaton (printed_tops s text read is labelled no_env printed short is_text made.automaton it.automaton) is_made.automaton.labels sets
