-- What is laid out of a table is the printed text of the scheme.
--     is_plan      the tree of the shown sets is the plan of the layout
use Rattle.std.proofs.Common.{◌≡◌, ℕ, ◌<◌, List, [], ◌∷◌, map, ap, ◌∙◌, subst, sym, length, All}
use Rattle.mls_automaton.specs.declared.automaton.Polarity.TheVariants.{Positive}
use Rattle.mls_automaton.specs.declared.scheme.Scheme.{Scheme}
use Rattle.mls_automaton.specs.Schemes.{IsScheme}
use Rattle.mls_automaton.proofs.Lists.{All-one}
use Rattle.mls_print.specs.declared.piece.Layout.{Layout}
use Rattle.mls_print.specs.declared.row.Table.{Table}
use Rattle.mls_print.specs.Walks.{Visits}
use Rattle.mls_print.specs.Shown.{Shown, Shows}
use Rattle.mls_print.specs.Pieces.{text_of}
use Rattle.mls_print.specs.Printed.{IsPrinted}
use Rattle.mls_print.specs.steps.Tables.{IsTable}
use Rattle.mls_print.specs.steps.Visits.{IsVisited}
use Rattle.mls_print.specs.steps.Writing.{piece_of}
use Rattle.mls_print.specs.steps.Progress.{Plan, IsPlan, IsLaidOut}
use Rattle.mls_print.proofs.Visited.{walk-closed}
use Rattle.mls_print.proofs.TreeExists.{tree_exists}
use Rattle.mls_print.proofs.ReadsBack.{pieces_are_printed}

module _ (s : Scheme) (is : IsScheme s) (order : List ℕ) (walked : Visits s.automaton [] (s.root.0 ∷ []) order) where
  pub root_visited : IsVisited s.automaton order Positive s.root.0
  root_visited = record { state = is.root; visited = (walk-closed s.automaton s.root.0 order walked).0 }

  pub tree_of : (t : Shown) × Shows s.automaton order [] Positive (s.root.0 ∷ []) t
  tree_of = tree_exists s.automaton is.automaton order (walk-closed s.automaton s.root.0 order walked).1 Positive (s.root.0 ∷ []) (All-one (IsVisited s.automaton order Positive) s.root.0 root_visited)

  abbrev pub plan : Plan
  plan = record { automaton = s.automaton; order = order; root = s.root.0; tree = tree_of.0 }

  pub is_plan : (table : Table) → All (λ s. s < length plan.automaton.states) order → IsTable s.automaton order s.root.0 table → IsPlan plan table
  is_plan table low tabled = record {
    closed = is.automaton;
    low = low;
    walked = walked;
    root = root_visited;
    tabled = tabled;
    shows = tree_of.1;
  }

  pub laid_out_is_printed : (layout : Layout) → IsLaidOut plan layout → (text : List ℕ) → text ≡ text_of (map piece_of layout.pieces.items) → IsPrinted s text
  laid_out_is_printed layout it text e = subst (IsPrinted s) (sym (e ∙ ap text_of it.pieces)) (pieces_are_printed s order walked tree_of.0 tree_of.1)
