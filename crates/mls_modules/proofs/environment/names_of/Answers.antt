use Rattle.std.proofs.Common.{◌∙◌, ◌++◌, ap}
use Rattle.mls_modules.specs.Environments.{entry_schemes}
use Rattle.mls_modules.proofs.Environments.{names_mean, names_named}
use Rattle.mls_modules.proofs.environment.names_of.Goals as goal

pub returns-clause-names : goal.returns-clause-names
returns-clause-names c =
    names_named c.args.imports.now c.args.before.now.entries c.in_ok-names.names c.add_imports.new.names c.add_entries.new.names c.in_ok-names.ensures.names c.requires.imports c.requires.before
    c.in_ok-add_imports.ensures (c.in_ok-add_entries.ensures ∙ ap (λ l. c.add_imports.new.names.schemes ++ entry_schemes l) c.as_slice.ensures)

pub returns-clause-environment : goal.returns-clause-environment
returns-clause-environment c =
    names_mean c.args.imports.now c.args.before.now.entries c.in_ok-names.names c.add_imports.new.names c.add_entries.new.names c.in_ok-names.ensures.schemes
    c.in_ok-add_imports.ensures (c.in_ok-add_entries.ensures ∙ ap (λ l. c.add_imports.new.names.schemes ++ entry_schemes l) c.as_slice.ensures)
