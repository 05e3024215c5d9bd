use Rattle.std.proofs.Common.{◌≡◌, ◌++◌, ◌∷◌, [], List, refl, subst, sym, slice_get, slice_set, Some}
use Rattle.mls_infer.specs.declared.done.Known.{Known}
use Rattle.mls_infer.specs.declared.done.Known.TheVariants as known
use Rattle.mls_infer.specs.Constraints.{bound_scheme}
use Rattle.mls_infer.specs.Doing.{AreTaken}
use Rattle.mls_infer.specs.declared.named.Named.{Named}
use Rattle.mls_infer.specs.Pending.{IsCopied, part_in}
use Rattle.mls_infer.proofs.DonePlaces.{found_at, none_at}
use Rattle.mls_infer.proofs.DoneSteps.{take_copied, take_waiting}
use Rattle.mls_infer.proofs.OneState.{scheme_states}
use Rattle.mls_infer.proofs.done.Done.take.Goals as goal

pub copied-requires : goal.copied-requires
copied-requires c =
    let at : slice_get c.args.self.now.nodes.items c.args.i ≡ Some (known.Named c.in-Named.named) =
    found_at c.args.self.now.live c.args.self.now.nodes.items c.args.i c.requires.there.0 c.requires.there.1 (known.Named c.in-Named.named) c.index_mut.result.now c.in-Named.ensures.value c.index_mut.ensures.value in
    let stands = c.requires.done.stand c.args.i (known.Named c.in-Named.named) at in
    rw c.deref.ensures (scheme_states c.in-Named.named.value.scheme stands.scheme stands.rise)

pub unreachable-requires : goal.unreachable-requires
unreachable-requires c =
    none_at c.args.self.now.live c.args.self.now.nodes.items c.args.i c.requires.there.0 c.requires.there.1
    (found_at c.args.self.now.live c.args.self.now.nodes.items c.args.i c.requires.there.0 c.requires.there.1 known.Taken c.index_mut.result.now c.in-Taken.ensures.value c.index_mut.ensures.value)

pub returns-in-Waiting : goal.returns-in-Waiting
returns-in-Waiting c = λ first gone parts taken fresh.
    let nodes : List Known = c.args.self.now.nodes.items in
    let at : slice_get nodes c.args.i ≡ Some (known.Waiting c.in-Waiting.part) =
    found_at c.args.self.now.live nodes c.args.i c.requires.there.0 c.requires.there.1 (known.Waiting c.in-Waiting.part) c.index_mut.result.now c.in-Waiting.ensures.value c.index_mut.ensures.value in
    subst (λ (k : Known). AreTaken first (gone ++ c.args.i ∷ []) c.args.self.now.live (slice_set nodes c.args.i k) (parts ++ part_in c.in-Waiting.part ∷ [])) (sym c.replace.ensures.after)
    (take_waiting first gone c.args.self.now.live nodes parts taken c.args.i fresh c.in-Waiting.part at)

pub returns-in_ok-part-in-Named : goal.returns-in_ok-part-in-Named
returns-in_ok-part-in-Named c = λ first gone parts taken fresh.
    let nodes : List Known = c.args.self.now.nodes.items in
    let at : slice_get nodes c.args.i ≡ Some (known.Named c.in-Named.named) =
    found_at c.args.self.now.live nodes c.args.i c.requires.there.0 c.requires.there.1 (known.Named c.in-Named.named) c.index_mut.result.now c.in-Named.ensures.value c.index_mut.ensures.value in
    let copy : IsCopied c.in-Named.named.value.scheme c.args.self.now.live c.copied.new.live (part_in c.in_ok-part-in-Named.part) =
    subst (λ (n : Named). IsCopied n.scheme c.args.self.now.live c.copied.new.live (part_in c.in_ok-part-in-Named.part)) c.deref.ensures c.in_ok-part-in-Named.ensures.copied in
    subst (λ (k : Known). AreTaken first (gone ++ c.args.i ∷ []) c.copied.new.live (slice_set nodes c.args.i k) (parts ++ part_in c.in_ok-part-in-Named.part ∷ [])) (sym c.replace.ensures.after)
    (take_copied first gone c.args.self.now.live nodes parts taken c.args.i fresh (known.Named c.in-Named.named) c.in-Named.named.value.scheme at refl c.copied.new.live c.ready-copied.ensures.live (part_in c.in_ok-part-in-Named.part) copy)

pub returns-in_ok-part-in-Bound : goal.returns-in_ok-part-in-Bound
returns-in_ok-part-in-Bound c = λ first gone parts taken fresh.
    let nodes : List Known = c.args.self.now.nodes.items in
    let at : slice_get nodes c.args.i ≡ Some (known.Bound c.in-Bound.x) =
    found_at c.args.self.now.live nodes c.args.i c.requires.there.0 c.requires.there.1 (known.Bound c.in-Bound.x) c.index_mut.result.now c.in-Bound.ensures.value c.index_mut.ensures.value in
    subst (λ (k : Known). AreTaken first (gone ++ c.args.i ∷ []) c.bound.new.live (slice_set nodes c.args.i k) (parts ++ part_in c.in_ok-part-in-Bound.part ∷ [])) (sym c.replace.ensures.after)
    (take_copied first gone c.args.self.now.live nodes parts taken c.args.i fresh (known.Bound c.in-Bound.x) (bound_scheme c.in-Bound.x) at refl c.bound.new.live c.ready-made.ensures.live (part_in c.in_ok-part-in-Bound.part) c.in_ok-part-in-Bound.ensures)
