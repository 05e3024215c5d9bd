use Rattle.std.proofs.Common.{◌∙◌, List, subst}
use Rattle.mls_deriv.specs.declared.claim.Pair.{Pair}
use Rattle.mls_deriv.specs.inner.Tables.{put_in}
use Rattle.mls_pairs.specs.steps.Growth.{Finds}
use Rattle.mls_pairs.proofs.Growing.{needs_found}
use Rattle.mls_pairs.proofs.found.Found.add_needs.Goals as goal

pub returns : goal.returns
returns c =
    needs_found c.args.alone c.args.book.now (put_in c.args.self.now.table) c.args.self.now c.add_all.new.self c.args.pair
    (subst (λ (l : List Pair). Finds c.args.self.now c.add_all.new.self l) (c.as_slice.ensures ∙ c.in_ok-needs.ensures) c.in_ok-add_all.ensures)
