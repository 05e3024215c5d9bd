use Rattle.std.proofs.Common.{◌≡◌, subst}
use Rattle.std.specs.Bool.{OnFalse}
use Rattle.mls_biunify.proofs.FoundMarks.{set-finds}
use Rattle.mls_biunify.proofs.marks.BTreeSetUsizeFound.find.Goals as goal

pub returns : goal.returns
returns c =
    set-finds c.args.self.now c.insert.new.self c.args.s c.in_ok-is_new.is_new c.in_ok-is_new.ensures.added c.in_ok-is_new.ensures.updates
    (λ none. subst (λ b. OnFalse b (c.insert.new.self.keys ≡ c.args.self.now.keys)) none c.in_ok-is_new.ensures.unchanged)
