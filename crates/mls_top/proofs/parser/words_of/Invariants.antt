use Rattle.std.proofs.Common.{◌≡◌, ◌∷◌, ◌++◌, flat_map}
use Rattle.clap.specs.Matches.{found_of, ids_left}
use Rattle.clap.specs.Walk.{rows_of, texts}
use Rattle.mls_top.specs.steps.CommandLines.{values_of}
use Rattle.mls_top.proofs.parser.words_of.Given as goal

abbrev pub invariant-loop-operand : goal.invariant-loop-operand
invariant-loop-operand l =
    (texts l.words.items ≡ l.name ∷ flat_map (values_of (rows_of (found_of l.operands))) (texts l.yielded))
    × (texts l.yielded ++ ids_left l.operand-iterator ≡ ids_left l.initial.operand-iterator)
