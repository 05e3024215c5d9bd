use Rattle.std.proofs.Common.{◌≡◌, ◌++◌, length}
use Rattle.std.specs.Prelude.{All}
use Rattle.std.specs.List.{flat_map}
use Rattle.mls_deriv.specs.Spellings.{node_line}
use Rattle.mls_deriv.specs.Forms.{IsNodeForm}
use Rattle.mls_deriv.proofs.section.read_nodes.Given as goal

-- the nodes so far and what is left are the text
abbrev pub invariant-loop-front : goal.invariant-loop-front
invariant-loop-front l = record {
  spelled : l.text ≡ flat_map node_line l.nodes.items ++ l.rest;
  forms : All IsNodeForm l.nodes.items;
}

abbrev pub decreases-loop-front : goal.decreases-loop-front
decreases-loop-front l = length l.rest
