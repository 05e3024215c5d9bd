use Rattle.std.proofs.Common.{rules, refl, inl, inr}
use Rattle.std.specs.Prelude.{map, string_bytes}
use Rattle.mls_top.proofs.CommandLimits.{command_within}
use Rattle.mls_top.proofs.Running.{usage_run, command_run, stopped_run}
use Rattle.mls_top.proofs.run.run.Goals as goal

pub returns-in-Ok-None-clause-run : goal.returns-in-Ok-None-clause-run
returns-in-Ok-None-clause-run g c = usage_run _ _ _ _ (search rules) _ c.told.ensures.cases

pub returns-in-Err-clause-run : goal.returns-in-Err-clause-run
returns-in-Err-clause-run g c = stopped_run _ _ _ _ _ refl (inr refl)

pub answer_to-requires : goal.answer_to-requires
answer_to-requires g c = record { limits = command_within (map string_bytes c.args.words.now.items) c.in-Ok-Some.command (search rules) }

pub returns-in-Ok-clause-run : goal.returns-in-Ok-clause-run
returns-in-Ok-clause-run g c =
    command_run _ _ _ _ c.in-Ok-Some.command _ _ _ (search rules) c.as_slice.ensures.value c.in-Ok.ensures.answer c.in-Ok.ensures.status _ c.told-in-Ok.ensures.cases

pub returns-in-Err-ReadFault-clause-run : goal.returns-in-Err-ReadFault-clause-run
returns-in-Err-ReadFault-clause-run g c = stopped_run _ _ _ _ _ refl (inl refl)

pub returns-clause-run : goal.returns-clause-run
returns-clause-run g c = stopped_run _ _ _ _ _ refl (inr refl)
