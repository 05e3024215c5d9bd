use Rattle.std.proofs.Common.{List, Option, length, subst}
use Rattle.mls_automaton.specs.declared.automaton.Polarity.{Polarity}
use Rattle.mls_lines.specs.Showing.{ShowTopsTo}
use Rattle.mls_lines.proofs.ShownTops.{tops_all}
use Rattle.mls_lines.proofs.showing.showing_of.Goals as goal

pub returns : goal.returns
returns c =
    tops_all c.args.read.now.book c.in_ok-signs.signs.items c.args.read.now.root.0 c.in_ok-showing.showing c.in_ok-signs.ensures
    (subst (λ (signs : List (Option Polarity)). ShowTopsTo (length signs) c.args.read.now.book signs c.in_ok-showing.showing) c.as_slice.ensures.value c.in_ok-showing.ensures)
