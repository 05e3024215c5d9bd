use Rattle.std.proofs.Common.{◌≡◌, List, rules, slice_get, subst, sym, Some}
use Rattle.mls_infer.specs.declared.done.Known.{Known}
use Rattle.mls_infer.specs.declared.done.Known.TheVariants as known
use Rattle.mls_infer.specs.declared.named.Named.{Named}
use Rattle.mls_infer.specs.Constraints.{no_goals}
use Rattle.mls_infer.specs.Doing.{finished_in}
use Rattle.mls_infer.specs.Fields.{IsKnownType, Shared}
use Rattle.mls_infer.specs.Merges.{HaveSameTypes}
use Rattle.mls_infer.proofs.DonePlaces.{named_read, read_at}
use Rattle.mls_infer.proofs.DoneSteps.{named_alike}
use Rattle.mls_infer.proofs.done.Done.named.Goals as goal

pub unreachable-requires : goal.unreachable-requires
unreachable-requires c =
    let named = c.in_ok-name.ensures.named in
    c.in_default.not-Named named.0 (read_at c.name.new.self.nodes.items c.args.i (known.Named named.0) c.index.result.now named.1 c.index.ensures)

pub returns-clause-known : goal.returns-clause-known
returns-clause-known c =
    let named = c.in_ok-name.ensures.named in
    let r : Shared = c.in-Named.named in
    let at : slice_get c.name.new.self.nodes.items c.args.i ≡ Some (known.Named r) =
    named_read c.name.new.self.nodes.items c.args.i (known.Named named.0) (known.Named r) c.index.result.now named.1 c.index.ensures c.in-Named.is in
    let same : c.in_ok-one_more-in-Named.one_more.value ≡ r.value = search rules in
    subst IsKnownType (sym same) (c.in_ok-name.ensures.done.stand c.args.i (known.Named r) at)

pub returns-clause-alike : goal.returns-clause-alike
returns-clause-alike c = λ s has.
    let named = c.in_ok-name.ensures.named in
    let nodes : List Known = c.name.new.self.nodes.items in
    let r : Shared = c.in-Named.named in
    let at : slice_get nodes c.args.i ≡ Some (known.Named r) =
    named_read nodes c.args.i (known.Named named.0) (known.Named r) c.index.result.now named.1 c.index.ensures c.in-Named.is in
    let same : c.in_ok-one_more-in-Named.one_more.value ≡ r.value = search rules in
    subst (λ (n : Named). HaveSameTypes (no_goals s) (no_goals n.scheme)) (sym same)
    (named_alike (finished_in c.args.self.now) c.name.new.self.live nodes c.args.i c.in_ok-name.ensures.done c.in_ok-name.ensures.keeps r at s has)
