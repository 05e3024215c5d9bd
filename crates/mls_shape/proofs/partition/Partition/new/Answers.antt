use Rattle.std.proofs.Common.{◌<◌, ℕ, List, All, length, subst}
use Rattle.mls_shape.specs.declared.partition.Partition.{Partition}
use Rattle.mls_shape.specs.steps.Partitions.{AreMembers}
use Rattle.mls_shape.proofs.Refining.{partition_begun}
use Rattle.mls_shape.proofs.partition.Partition.new.Goals as goal

pub returns-clause-partition : goal.returns-clause-partition
returns-clause-partition c =
    let p : Partition = record { blocks = c.args.blocks; members = c.in_ok-members.members; parts = c.in_ok-parts.parts; agenda = c.in_ok-agenda.agenda } in
    let count : ℕ = c.in_ok-count.count in
    partition_begun p count
    (subst (λ (xs : List ℕ). All (λ b. b < count) xs) c.as_slice.ensures.value c.in_ok-count.ensures)
    (subst (λ (xs : List ℕ). AreMembers xs count (length xs) c.in_ok-members.members.items) c.as_slice-2.ensures.value c.in_ok-members.ensures)
    (c.in_ok-parts.ensures.items_if_clones_equal (λ y h. h))
