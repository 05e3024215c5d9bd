use Rattle.std.proofs.Common.{◌≡◌, ◌<◌, List, [], length, refl, rules, subst, sym, Some, slice_get, slice_set}
use Rattle.mls_infer.specs.declared.done.Known.{Known}
use Rattle.mls_infer.specs.declared.done.Known.TheVariants as known
use Rattle.mls_infer.specs.Constraints.{bound_scheme}
use Rattle.mls_infer.specs.Doing.{AreDone, IsTakenOut, schemes_known}
use Rattle.mls_infer.specs.Fields.{Shared}
use Rattle.mls_infer.specs.Finishing.{KeepsBut}
use Rattle.mls_infer.specs.Pending.{part_in}
use Rattle.mls_infer.specs.Regions.{TablePart, scheme_at}
use Rattle.mls_infer.proofs.DoneNodes.{keeps_self}
use Rattle.mls_infer.proofs.DonePlaces.{found_at, known_low, none_at}
use Rattle.mls_infer.proofs.DoneSteps.{IsBoundOut, bound_out, named_done, named_here, named_keeps, set_back}
use Rattle.mls_infer.proofs.done.Done.name.Goals as goal

pub taken_out-requires-clause-waits : goal.taken_out-requires-clause-waits
taken_out-requires-clause-waits c =
    let at : slice_get c.args.self.now.nodes.items c.args.i ≡ Some (known.Waiting c.in-Waiting.part) =
    found_at c.args.self.now.live c.args.self.now.nodes.items c.args.i c.requires.there.0 c.requires.there.1 (known.Waiting c.in-Waiting.part) c.index_mut.result.now c.in-Waiting.ensures.value c.index_mut.ensures.value in
    c.requires.done.stand c.args.i (known.Waiting c.in-Waiting.part) at

pub new-requires-clause-scheme : goal.new-requires-clause-scheme
new-requires-clause-scheme c = c.in_ok-scheme-in-Waiting.ensures.scheme

pub new-requires-clause-rise : goal.new-requires-clause-rise
new-requires-clause-rise c = c.in_ok-scheme-in-Waiting.ensures.rise

pub index_mut-requires-in-Waiting : goal.index_mut-requires-in-Waiting
index_mut-requires-in-Waiting c =
    let low : c.args.i < length c.args.self.now.nodes.items = known_low c.args.self.now.live c.args.self.now.nodes.items c.args.i c.requires.there.0 c.requires.there.1 in
    search rules

pub index_mut-requires-in-Named : goal.index_mut-requires-in-Named
index_mut-requires-in-Named c =
    let low : c.args.i < length c.args.self.now.nodes.items = known_low c.args.self.now.live c.args.self.now.nodes.items c.args.i c.requires.there.0 c.requires.there.1 in
    search rules

pub unreachable-requires : goal.unreachable-requires
unreachable-requires c =
    let at : slice_get c.args.self.now.nodes.items c.args.i ≡ Some known.Taken =
    found_at c.args.self.now.live c.args.self.now.nodes.items c.args.i c.requires.there.0 c.requires.there.1 known.Taken c.index_mut.result.now c.in-Taken.ensures.value c.index_mut.ensures.value in
    none_at c.args.self.now.live c.args.self.now.nodes.items c.args.i c.requires.there.0 c.requires.there.1 at

pub returns-in_ok-named-in-Waiting-clause-done : goal.returns-in_ok-named-in-Waiting-clause-done
returns-in_ok-named-in-Waiting-clause-done c =
    let nodes : List Known = c.args.self.now.nodes.items in
    let r : Shared = c.in_ok-named-in-Waiting.named in
    let at : slice_get nodes c.args.i ≡ Some (known.Waiting c.in-Waiting.part) =
    found_at c.args.self.now.live c.args.self.now.nodes.items c.args.i c.requires.there.0 c.requires.there.1 (known.Waiting c.in-Waiting.part) c.index_mut.result.now c.in-Waiting.ensures.value c.index_mut.ensures.value in
    let out : IsTakenOut c.args.self.now.live (part_in c.in-Waiting.part) c.taken_out.new.live r.value.scheme =
    subst (IsTakenOut c.args.self.now.live (part_in c.in-Waiting.part) c.taken_out.new.live) (sym c.in_ok-named-in-Waiting.ensures.scheme) c.in_ok-scheme-in-Waiting.ensures in
    subst (λ (k : Known). AreDone c.taken_out.new.live (slice_set (slice_set nodes c.args.i k) c.args.i (known.Named r))) (sym c.replace.ensures.after)
    (named_done c.args.self.now.live nodes c.requires.done c.args.i (known.Waiting c.in-Waiting.part) (scheme_at c.args.self.now.live.table (part_in c.in-Waiting.part)) at refl c.taken_out.new.live out.is_live out.changes r c.in_ok-named-in-Waiting.ensures.known out.alike)

pub returns-in_ok-named-in-Waiting-clause-keeps : goal.returns-in_ok-named-in-Waiting-clause-keeps
returns-in_ok-named-in-Waiting-clause-keeps c =
    let nodes : List Known = c.args.self.now.nodes.items in
    let r : Shared = c.in_ok-named-in-Waiting.named in
    let at : slice_get nodes c.args.i ≡ Some (known.Waiting c.in-Waiting.part) =
    found_at c.args.self.now.live c.args.self.now.nodes.items c.args.i c.requires.there.0 c.requires.there.1 (known.Waiting c.in-Waiting.part) c.index_mut.result.now c.in-Waiting.ensures.value c.index_mut.ensures.value in
    let out : IsTakenOut c.args.self.now.live (part_in c.in-Waiting.part) c.taken_out.new.live r.value.scheme =
    subst (IsTakenOut c.args.self.now.live (part_in c.in-Waiting.part) c.taken_out.new.live) (sym c.in_ok-named-in-Waiting.ensures.scheme) c.in_ok-scheme-in-Waiting.ensures in
    subst (λ (k : Known). KeepsBut [] (schemes_known c.args.self.now.live nodes) (schemes_known c.taken_out.new.live (slice_set (slice_set nodes c.args.i k) c.args.i (known.Named r)))) (sym c.replace.ensures.after)
    (named_keeps c.args.self.now.live nodes c.requires.done c.args.i (known.Waiting c.in-Waiting.part) (scheme_at c.args.self.now.live.table (part_in c.in-Waiting.part)) at refl c.taken_out.new.live out.is_live out.changes r c.in_ok-named-in-Waiting.ensures.known out.alike)

pub returns-in_ok-named-in-Waiting-clause-named : goal.returns-in_ok-named-in-Waiting-clause-named
returns-in_ok-named-in-Waiting-clause-named c =
    let nodes : List Known = c.args.self.now.nodes.items in
    let r : Shared = c.in_ok-named-in-Waiting.named in
    let at : slice_get nodes c.args.i ≡ Some (known.Waiting c.in-Waiting.part) =
    found_at c.args.self.now.live c.args.self.now.nodes.items c.args.i c.requires.there.0 c.requires.there.1 (known.Waiting c.in-Waiting.part) c.index_mut.result.now c.in-Waiting.ensures.value c.index_mut.ensures.value in
    let out : IsTakenOut c.args.self.now.live (part_in c.in-Waiting.part) c.taken_out.new.live r.value.scheme =
    subst (IsTakenOut c.args.self.now.live (part_in c.in-Waiting.part) c.taken_out.new.live) (sym c.in_ok-named-in-Waiting.ensures.scheme) c.in_ok-scheme-in-Waiting.ensures in (
      r,
      subst (λ (k : Known). slice_get (slice_set (slice_set nodes c.args.i k) c.args.i (known.Named r)) c.args.i ≡ Some (known.Named r)) (sym c.replace.ensures.after)
          (named_here c.args.self.now.live nodes c.requires.done c.args.i (known.Waiting c.in-Waiting.part) (scheme_at c.args.self.now.live.table (part_in c.in-Waiting.part)) at refl c.taken_out.new.live out.is_live out.changes r c.in_ok-named-in-Waiting.ensures.known out.alike),
    )

-- A binder: its new states are taken out at once.

pub taken_out-requires-in-Bound-clause-waits : goal.taken_out-requires-in-Bound-clause-waits
taken_out-requires-in-Bound-clause-waits c = c.in_ok-part-in-Bound.ensures.waits

pub taken_out-requires-in-Bound-clause-live : goal.taken_out-requires-in-Bound-clause-live
taken_out-requires-in-Bound-clause-live c = c.ready-made.ensures.live

pub new-requires-in-Bound-clause-scheme : goal.new-requires-in-Bound-clause-scheme
new-requires-in-Bound-clause-scheme c = c.in_ok-scheme-in-Bound.ensures.scheme

pub new-requires-in-Bound-clause-rise : goal.new-requires-in-Bound-clause-rise
new-requires-in-Bound-clause-rise c = c.in_ok-scheme-in-Bound.ensures.rise

pub index_mut-requires-in-Bound : goal.index_mut-requires-in-Bound
index_mut-requires-in-Bound c =
    let low : c.args.i < length c.args.self.now.nodes.items = known_low c.args.self.now.live c.args.self.now.nodes.items c.args.i c.requires.there.0 c.requires.there.1 in
    search rules

pub returns-in_ok-named-in-Bound-clause-done : goal.returns-in_ok-named-in-Bound-clause-done
returns-in_ok-named-in-Bound-clause-done c =
    let nodes : List Known = c.args.self.now.nodes.items in
    let r : Shared = c.in_ok-named-in-Bound.named in
    let part : TablePart = part_in c.in_ok-part-in-Bound.part in
    let at : slice_get nodes c.args.i ≡ Some (known.Bound c.in-Bound.x) =
    found_at c.args.self.now.live c.args.self.now.nodes.items c.args.i c.requires.there.0 c.requires.there.1 (known.Bound c.in-Bound.x) c.index_mut.result.now c.in-Bound.ensures.value c.index_mut.ensures.value in
    let out : IsTakenOut c.bound.new.live part c.taken_out-in-Bound.new.live r.value.scheme =
    subst (IsTakenOut c.bound.new.live part c.taken_out-in-Bound.new.live) (sym c.in_ok-named-in-Bound.ensures.scheme) c.in_ok-scheme-in-Bound.ensures in
    let is : IsBoundOut c.args.self.now.live c.in-Bound.x c.taken_out-in-Bound.new.live r.value.scheme = bound_out c.args.self.now.live c.in-Bound.x c.bound.new.live part c.in_ok-part-in-Bound.ensures c.taken_out-in-Bound.new.live r.value.scheme out in
    subst (λ (k : Known). AreDone c.taken_out-in-Bound.new.live (slice_set (slice_set nodes c.args.i k) c.args.i (known.Named r))) (sym c.replace.ensures.after)
    (named_done c.args.self.now.live nodes c.requires.done c.args.i (known.Bound c.in-Bound.x) (bound_scheme c.in-Bound.x) at refl c.taken_out-in-Bound.new.live is.is_live is.changes r c.in_ok-named-in-Bound.ensures.known is.alike)

pub returns-in_ok-named-in-Bound-clause-keeps : goal.returns-in_ok-named-in-Bound-clause-keeps
returns-in_ok-named-in-Bound-clause-keeps c =
    let nodes : List Known = c.args.self.now.nodes.items in
    let r : Shared = c.in_ok-named-in-Bound.named in
    let part : TablePart = part_in c.in_ok-part-in-Bound.part in
    let at : slice_get nodes c.args.i ≡ Some (known.Bound c.in-Bound.x) =
    found_at c.args.self.now.live c.args.self.now.nodes.items c.args.i c.requires.there.0 c.requires.there.1 (known.Bound c.in-Bound.x) c.index_mut.result.now c.in-Bound.ensures.value c.index_mut.ensures.value in
    let out : IsTakenOut c.bound.new.live part c.taken_out-in-Bound.new.live r.value.scheme =
    subst (IsTakenOut c.bound.new.live part c.taken_out-in-Bound.new.live) (sym c.in_ok-named-in-Bound.ensures.scheme) c.in_ok-scheme-in-Bound.ensures in
    let is : IsBoundOut c.args.self.now.live c.in-Bound.x c.taken_out-in-Bound.new.live r.value.scheme = bound_out c.args.self.now.live c.in-Bound.x c.bound.new.live part c.in_ok-part-in-Bound.ensures c.taken_out-in-Bound.new.live r.value.scheme out in
    subst (λ (k : Known). KeepsBut [] (schemes_known c.args.self.now.live nodes) (schemes_known c.taken_out-in-Bound.new.live (slice_set (slice_set nodes c.args.i k) c.args.i (known.Named r)))) (sym c.replace.ensures.after)
    (named_keeps c.args.self.now.live nodes c.requires.done c.args.i (known.Bound c.in-Bound.x) (bound_scheme c.in-Bound.x) at refl c.taken_out-in-Bound.new.live is.is_live is.changes r c.in_ok-named-in-Bound.ensures.known is.alike)

pub returns-in_ok-named-in-Bound-clause-named : goal.returns-in_ok-named-in-Bound-clause-named
returns-in_ok-named-in-Bound-clause-named c =
    let nodes : List Known = c.args.self.now.nodes.items in
    let r : Shared = c.in_ok-named-in-Bound.named in
    let part : TablePart = part_in c.in_ok-part-in-Bound.part in
    let at : slice_get nodes c.args.i ≡ Some (known.Bound c.in-Bound.x) =
    found_at c.args.self.now.live c.args.self.now.nodes.items c.args.i c.requires.there.0 c.requires.there.1 (known.Bound c.in-Bound.x) c.index_mut.result.now c.in-Bound.ensures.value c.index_mut.ensures.value in
    let out : IsTakenOut c.bound.new.live part c.taken_out-in-Bound.new.live r.value.scheme =
    subst (IsTakenOut c.bound.new.live part c.taken_out-in-Bound.new.live) (sym c.in_ok-named-in-Bound.ensures.scheme) c.in_ok-scheme-in-Bound.ensures in
    let is : IsBoundOut c.args.self.now.live c.in-Bound.x c.taken_out-in-Bound.new.live r.value.scheme = bound_out c.args.self.now.live c.in-Bound.x c.bound.new.live part c.in_ok-part-in-Bound.ensures c.taken_out-in-Bound.new.live r.value.scheme out in (
      r,
      subst (λ (k : Known). slice_get (slice_set (slice_set nodes c.args.i k) c.args.i (known.Named r)) c.args.i ≡ Some (known.Named r)) (sym c.replace.ensures.after)
          (named_here c.args.self.now.live nodes c.requires.done c.args.i (known.Bound c.in-Bound.x) (bound_scheme c.in-Bound.x) at refl c.taken_out-in-Bound.new.live is.is_live is.changes r c.in_ok-named-in-Bound.ensures.known is.alike),
    )

pub returns-in-Named-clause-done : goal.returns-in-Named-clause-done
returns-in-Named-clause-done c =
    let nodes : List Known = c.args.self.now.nodes.items in
    let at : slice_get nodes c.args.i ≡ Some (known.Named c.in-Named.named) =
    found_at c.args.self.now.live c.args.self.now.nodes.items c.args.i c.requires.there.0 c.requires.there.1 (known.Named c.in-Named.named) c.index_mut.result.now c.in-Named.ensures.value c.index_mut.ensures.value in
    subst (AreDone c.args.self.now.live) (sym (set_back nodes c.args.i (known.Named c.in-Named.named) c.replace.new.dest at)) c.requires.done

pub returns-in-Named-clause-keeps : goal.returns-in-Named-clause-keeps
returns-in-Named-clause-keeps c =
    let nodes : List Known = c.args.self.now.nodes.items in
    let at : slice_get nodes c.args.i ≡ Some (known.Named c.in-Named.named) =
    found_at c.args.self.now.live c.args.self.now.nodes.items c.args.i c.requires.there.0 c.requires.there.1 (known.Named c.in-Named.named) c.index_mut.result.now c.in-Named.ensures.value c.index_mut.ensures.value in
    subst (λ (xs : List Known). KeepsBut [] (schemes_known c.args.self.now.live nodes) (schemes_known c.args.self.now.live xs)) (sym (set_back nodes c.args.i (known.Named c.in-Named.named) c.replace.new.dest at))
    (keeps_self (schemes_known c.args.self.now.live nodes))

pub returns-in-Named-clause-named : goal.returns-in-Named-clause-named
returns-in-Named-clause-named c =
    let nodes : List Known = c.args.self.now.nodes.items in
    let at : slice_get nodes c.args.i ≡ Some (known.Named c.in-Named.named) =
    found_at c.args.self.now.live c.args.self.now.nodes.items c.args.i c.requires.there.0 c.requires.there.1 (known.Named c.in-Named.named) c.index_mut.result.now c.in-Named.ensures.value c.index_mut.ensures.value in
    (c.in-Named.named, subst (λ (xs : List Known). slice_get xs c.args.i ≡ Some (known.Named c.in-Named.named)) (sym (set_back nodes c.args.i (known.Named c.in-Named.named) c.replace.new.dest at)) at)
