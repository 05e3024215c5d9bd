use Rattle.std.proofs.Common.{◌≡◌, map, drop, take, length}
use Rattle.mls_io.specs.Paths.{EachMisses}
use Rattle.mls_io.proofs.path.ask_in_turn.Given as goal

abbrev pub invariant-loop-i : goal.invariant-loop-i
invariant-loop-i g l = record {
  into : l.into.items ≡ l.fn.into.items;
  lengths : length l.members ≡ length l.fn.members;
  front : EachMisses l.name (map (λ b. (goal.Store-dyn g (b.vtable, b.value)).holdings b.value) (take l.i l.fn.members)) (map (λ b. (goal.Store-dyn g (b.vtable, b.value)).holdings b.value) (take l.i l.members));
  rest : drop l.i l.members ≡ drop l.i l.fn.members;
}
