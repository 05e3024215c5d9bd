use Rattle.std.proofs.Common.{◌≡◌, get_or, rules, None, Some}
use Rattle.mls_shape.proofs.FromLast.{class_known, class_new}
use Rattle.mls_shape.proofs.upwards.number_of_class.Goals as goal

pub returns-in-Some : goal.returns-in-Some
returns-in-Some c =
    let known : get_or c.args.known.now c.args.class None ≡ Some c.in-Some.number = search rules in
    class_known c.args.known.now c.args.class c.in-Some.number known

pub returns : goal.returns
returns c =
    let absent : get_or c.args.known.now c.args.class None ≡ None = search rules in
    class_new c.args.known.now c.put.new.self c.args.class c.args.new absent c.in_ok-put.ensures
