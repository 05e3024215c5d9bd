use Rattle.std.proofs.Common.{◌≡◌, ◌++◌, take}
use Rattle.std.specs.List.{flat_map}
use Rattle.mls_top.specs.Lines.{step_text}
use Rattle.mls_top.proofs.mismatches.add_steps.Given as goal

-- the steps before this one were added
abbrev pub invariant-loop-step : goal.invariant-loop-step
invariant-loop-step l = l.line.items ≡ l.fn.line.items ++ flat_map step_text (take l.step-index l.steps)
