use Rattle.std.proofs.Common.{subst, refl}
use Rattle.mls_print.specs.declared.row.Row.{Row}
use Rattle.mls_print.specs.steps.Items.{row_is_alone}
use Rattle.mls_print.specs.steps.Tables.{set_at}
use Rattle.mls_print.specs.steps.Progress.{AreParens}
use Rattle.mls_print.proofs.LayoutRounds.{domain_advances}
use Rattle.mls_print.proofs.layout.Printer.show_domain.Goals as goal

pub returns : goal.returns
returns c =
    let table = c.args.table.now in
    domain_advances table c.requires.table c.args.self.now _ c.show.new.self c.args.polarity c.args.set c.index.result.now c.parens_of.result.0 c.parens_of.result.1 c.requires.below c.requires.new
    (subst (λ (row : Row). AreParens (row_is_alone (set_at table) row) c.args.self.now.sets c.parens_of.result.0 c.parens_of.result.1) c.index.ensures (c.parens_of.ensures (set_at table)))
    c.in_ok-push.ensures.items refl refl c.in_ok-push-2.ensures.items c.in_ok-show.ensures
