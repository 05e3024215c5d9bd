use Rattle.std.specs.Prelude.{option_map}
use Rattle.mls_print.specs.declared.row.Row.{Row}
use Rattle.mls_print.specs.steps.Joining.{arms_in}
use Rattle.mls_print.specs.steps.Grouping.{fields_in}
use Rattle.mls_print.specs.steps.Registers.{sets_in}
use Rattle.mls_print.proofs.Rows.{makes_row}
use Rattle.mls_print.proofs.table.row_of.Goals as goal

pub returns-clause-row : goal.returns-clause-row
returns-clause-row c =
    let row : Row = record {
      variables = c.in_ok-shown_variables.field-0;
      boolean = c.has_boolean.result;
      integer = c.has_integer.result;
      function = c.in_ok-function.function;
      fields = c.in_ok-fields-2.fields;
    } in
    makes_row c.args.automaton.now c.args.order.now.states.items c.args.polarity c.args.set.now (sets_in c.args.register.now) (sets_in c.numbered_arms.new.self) (sets_in c.numbered_record.new.self)
    (option_map arms_in c.in_ok-arms.arms) (option_map fields_in c.in_ok-fields.fields) row
    c.in_ok-arms.ensures c.in_ok-fields.ensures c.in_ok-function.ensures.arms c.in_ok-fields-2.ensures.fields c.in_ok-shown_variables.ensures c.has_boolean.ensures c.has_integer.ensures
