-- A put is counted, and a listed one adds a part of its piece.
use Rattle.std.proofs.Common.{◌≡◌, ◌++◌, take, sym, subst, arith}
use Rattle.std.proofs.lemmas.Grind.{common_steps}
use Rattle.std.specs.Prelude.{IsSomeAnd}
use Rattle.mls_io.specs.Counts.{Count}
use Rattle.mls_io.specs.Listed.{FailingTape, failing_written, kept_at, next_count}
use Rattle.mls_io.specs.Sinks.{Follows, TakesSome}
use Rattle.mls_io.proofs.ListedLaws.{put-Follows, put-TakesSome}
use Rattle.mls_io.proofs.failing.MemSinkSink.put.Goals as goal

pub returns-clause-follows : goal.returns-clause-follows
returns-clause-follows c =
    let inside : FailingTape = record { bytes = c.self.inside.bytes.items; failing = c.self.inside.failing.items; puts = c.self.inside.puts } in
    subst (λ (old : FailingTape). Follows (failing_written old) (failing_written (record { bytes = c.extend_from_slice.new.self.items; failing = c.self.inside.failing.items; puts = c.rise.new.self }))) c.self.view_is (put-Follows inside c.extend_from_slice.new.self.items c.rise.new.self c.rise.ensures.grows)

pub returns-clause-failed : goal.returns-clause-failed
returns-clause-failed c failed =
    let old = c.args.self.now in
    let bytes = c.extend_from_slice.new.self.items in
    let kept : IsSomeAnd (kept_at old.failing old.puts.value) (λ k. bytes ≡ old.bytes ++ take k c.args.piece.now) = grind (arith, common_steps) in
    let counted : TakesSome (failing_written old) (failing_written (record { bytes = bytes; failing = c.self.inside.failing.items; puts = next_count c.self.inside.puts })) c.args.piece.now =
    subst (λ (sink : FailingTape). TakesSome (failing_written old) (failing_written (record { bytes = bytes; failing = sink.failing; puts = next_count sink.puts })) c.args.piece.now) (sym c.self.view_is) (put-TakesSome old bytes c.args.piece.now kept) in
    subst (λ (puts : Count). TakesSome (failing_written old) (failing_written (record { bytes = bytes; failing = c.self.inside.failing.items; puts = puts })) c.args.piece.now) (sym c.rise.ensures.next) counted
