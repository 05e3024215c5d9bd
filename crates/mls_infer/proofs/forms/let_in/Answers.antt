use Rattle.mls_infer.specs.Pending.{part_in, states_in}
use Rattle.mls_infer.proofs.FormSteps.{two_entries}
use Rattle.mls_infer.proofs.PlainParts.{let_made, two_with}
use Rattle.mls_infer.proofs.forms.let_in.Goals as goal

pub returns : goal.returns
returns c = λ live is are.
    let_made live is (part_in c.args.first) (part_in c.args.second) are
    (states_in c.in_ok-region.region) (two_with (part_in c.args.first) (part_in c.args.second) (states_in c.in_ok-region.region) c.in_ok-region.ensures)
    c.in_ok-env.env (two_entries (part_in c.args.first) (part_in c.args.second) c.in_ok-env.env c.in_ok-env.ensures)
