use Rattle.std.proofs.Common.{drop}
use Rattle.mls_lexer.specs.Tokens.{terminals}
use Rattle.mls_typetext.specs.steps.EndStacks.{stack_of}
use Rattle.mls_typetext.proofs.TypeStops.{IsRead}
use Rattle.mls_typetext.proofs.end.type_end.Given as goal

abbrev pub invariant-loop-count : goal.invariant-loop-count
invariant-loop-count l = IsRead (drop l.from (terminals l.text l.tokens)) l.count (stack_of l.stack.items)
