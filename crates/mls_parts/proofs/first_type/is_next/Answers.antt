use Rattle.std.proofs.lemmas.Bool.{ltb-true}
use Rattle.std.specs.Prelude.{length, get_or, ◌-◌}
use Rattle.mls_automaton.specs.declared.scheme.EnvEntry.{EnvEntry}
use Rattle.mls_automaton.proofs.CheckedSchemes.{all_below}
use Rattle.mls_parts.proofs.first_type.is_next.Goals as goal

pub returns-else-is_empty : goal.returns-else-is_empty
returns-else-is_empty c low =
    let env = c.args.env.now in
    let d : EnvEntry = record { binder = 0; state = record { 0 = 0 } } in
    all_below env d c.args.binder c.requires (ltb-true (get_or env (length env - 1) d).binder c.args.binder low)
