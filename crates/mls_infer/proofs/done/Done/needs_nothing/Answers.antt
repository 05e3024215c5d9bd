use Rattle.std.proofs.Common.{◌≡◌, [], List, refl, subst, sym, slice_get, Some}
use Rattle.mls_infer.specs.declared.done.Known.{Known}
use Rattle.mls_infer.specs.declared.done.Known.TheVariants as known
use Rattle.mls_infer.specs.declared.named.Named.{Named}
use Rattle.mls_infer.specs.Fields.{Shared}
use Rattle.mls_infer.proofs.DoneNodes.{has_known}
use Rattle.mls_infer.proofs.DonePlaces.{found_at}
use Rattle.mls_infer.proofs.done.Done.needs_nothing.Goals as goal

pub returns-in-Named : goal.returns-in-Named
returns-in-Named c = λ yes.
    let nodes : List Known = c.args.self.now.nodes.items in
    let r : Shared = c.in-Named.named in
    let at : slice_get nodes c.args.i ≡ Some (known.Named r) =
    found_at c.args.self.now.live nodes c.args.i c.requires.there.0 c.requires.there.1 (known.Named r) c.index.result.now (sym c.in-Named.is) c.index.ensures in
    (r.value.scheme, has_known c.args.self.now.live nodes c.args.i (known.Named r) r.value.scheme at refl, (c.requires.done.stand c.args.i (known.Named r) at).scheme, subst (λ (n : Named). n.scheme.env ≡ []) c.deref.ensures (c.is_empty.ensures.0 yes))
