use Rattle.std.proofs.Common.{◌≡◌, List, refl, subst, sym, slice_get, Some}
use Rattle.std.proofs.lemmas.Option.{IfSome_then}
use Rattle.mls_automaton.specs.declared.scheme.Scheme.{Scheme}
use Rattle.mls_infer.specs.declared.done.Known.{Known}
use Rattle.mls_infer.specs.declared.done.Known.TheVariants as known
use Rattle.mls_infer.specs.declared.named.Named.{Named}
use Rattle.mls_infer.specs.Fields.{IsFieldOf, IsKnownType, Shared}
use Rattle.mls_infer.proofs.DonePlaces.{found_at}
use Rattle.mls_infer.proofs.DoneSteps.{the_scheme}
use Rattle.mls_infer.proofs.done.Done.field.Goals as goal

pub field-requires : goal.field-requires
field-requires c =
    let nodes : List Known = c.args.self.now.nodes.items in
    let r : Shared = c.in-Named.named in
    let at : slice_get nodes c.args.i ≡ Some (known.Named r) =
    found_at c.args.self.now.live nodes c.args.i c.requires.there.0 c.requires.there.1 (known.Named r) c.index.result.now (sym c.in-Named.is) c.index.ensures in
    subst IsKnownType (sym c.deref.ensures) (c.requires.done.stand c.args.i (known.Named r) at)

pub returns-in_ok-field-in-Named : goal.returns-in_ok-field-in-Named
returns-in_ok-field-in-Named c =
    let nodes : List Known = c.args.self.now.nodes.items in
    let r : Shared = c.in-Named.named in
    let at : slice_get nodes c.args.i ≡ Some (known.Named r) =
    found_at c.args.self.now.live nodes c.args.i c.requires.there.0 c.requires.there.1 (known.Named r) c.index.result.now (sym c.in-Named.is) c.index.ensures in
    IfSome_then c.in_ok-field-in-Named.field c.in_ok-field-in-Named.ensures
    (λ t it s has.
    let same : s ≡ r.value.scheme = the_scheme c.args.self.now.live nodes c.requires.done c.args.i (known.Named r) r.value.scheme s at refl has in
    subst (λ (u : Scheme). IsFieldOf c.args.label.now u t) (sym same) (subst (λ (n : Named). IsFieldOf c.args.label.now n.scheme t) c.deref.ensures it))
