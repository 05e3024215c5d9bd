use Rattle.std.proofs.Common.{◌≡◌, ◌+◌, ◌<◌, ◌≤◌, length, arith}
use Rattle.mls_solver.specs.Rooms.{Holds}
use Rattle.mls_solver.proofs.Searching.{direct_states, found_states, searched-all, searched-direct, searched-found, searched-none, searched-same}
use Rattle.mls_solver.proofs.search.close.Goals as goal
use Rattle.mls_solver.proofs.search.close.Goals.{then-next_direct-len+in_ok-take_direct, else-next_direct-len+then-next-len+in_ok-take_found}

pub loop-init : goal.loop-init
loop-init c = searched-none c.args.a.now c.new-found.result c.args.direct.now c.new-found.ensures

pub take_direct-requires-clause-positive : goal.take_direct-requires-clause-positive
take_direct-requires-clause-positive c =
    let len : c.len.result ≡ length c.loop.direct.pairs = c.len.ensures in
    let less : c.loop.next_direct < length c.loop.direct.pairs = omega arith in
    (direct_states c.args.a.now (Holds c.args.direct.now) c.loop.next c.loop.next_direct c.loop.found c.loop.direct c.loop.invariant c.requires.closed c.requires.states
    c.pair-pair.result.0.0 c.pair-pair.result.1.0 less c.pair-pair.ensures).0

pub take_found-requires-clause-positive : goal.take_found-requires-clause-positive
take_found-requires-clause-positive c =
    let len : c.len-else-next_direct-len.result ≡ length c.loop.found.pairs = c.len-else-next_direct-len.ensures in
    let less : c.loop.next < length c.loop.found.pairs = omega arith in
    (found_states c.args.a.now (Holds c.args.direct.now) c.loop.next c.loop.next_direct c.loop.found c.loop.direct c.loop.invariant c.requires.closed c.requires.states
    c.pair-pair-then-next-len.result.0.0 c.pair-pair-then-next-len.result.1.0 less c.pair-pair-then-next-len.ensures).0

pub take_found-requires-clause-negative : goal.take_found-requires-clause-negative
take_found-requires-clause-negative c =
    let len : c.len-else-next_direct-len.result ≡ length c.loop.found.pairs = c.len-else-next_direct-len.ensures in
    let less : c.loop.next < length c.loop.found.pairs = omega arith in
    (found_states c.args.a.now (Holds c.args.direct.now) c.loop.next c.loop.next_direct c.loop.found c.loop.direct c.loop.invariant c.requires.closed c.requires.states
    c.pair-pair-then-next-len.result.0.0 c.pair-pair-then-next-len.result.1.0 less c.pair-pair-then-next-len.ensures).1

pub returns-else-next-len : goal.returns-else-next-len
returns-else-next-len c =
    let direct_len : c.len.result ≡ length c.loop.direct.pairs = c.len.ensures in
    let len : c.len-else-next_direct-len.result ≡ length c.loop.found.pairs = c.len-else-next_direct-len.ensures in
    let all : length c.loop.found.pairs ≤ c.loop.next = omega arith in
    let all_direct : length c.loop.direct.pairs ≤ c.loop.next_direct = omega arith in
    searched-all c.args.a.now (Holds c.args.direct.now) c.loop.next c.loop.next_direct c.loop.found c.loop.direct c.loop.invariant all all_direct

pub loop-preserved : goal.loop-preserved
loop-preserved c =
    let direct_len : c.len.result ≡ length c.loop.direct.pairs = c.len.ensures in
    elim c.if-next_direct-len.branch [
      | then-next_direct-len+in_ok-take_direct w ↦
          let less : c.loop.next_direct < length c.loop.direct.pairs = omega arith in
          searched-same c.args.a.now (Holds c.args.direct.now) c.loop.next (c.loop.next_direct + 1) w.take_direct.new.found c.loop.direct
          (searched-direct c.args.a.now (Holds c.args.direct.now) c.loop.next c.loop.next_direct c.loop.found c.loop.direct c.loop.invariant
          w.pair-pair.result.0.0 w.pair-pair.result.1.0 w.take_direct.new.found less w.pair-pair.ensures w.in_ok-take_direct.ensures)
          c.if-next_direct-len.next c.if-next_direct-len.next_direct c.if-next_direct-len.found c.if-next_direct-len.direct w.next-is w.next_direct-is w.found-is w.direct-is
      | else-next_direct-len+then-next-len+in_ok-take_found w ↦
          let len : w.len-else-next_direct-len.result ≡ length c.loop.found.pairs = w.len-else-next_direct-len.ensures in
          let less : c.loop.next < length c.loop.found.pairs = omega arith in
          searched-same c.args.a.now (Holds c.args.direct.now) (c.loop.next + 1) c.loop.next_direct w.take_found.new.found w.take_found.new.direct
          (searched-found c.args.a.now (Holds c.args.direct.now) c.loop.next c.loop.next_direct c.loop.found c.loop.direct c.loop.invariant c.requires.closed
          w.pair-pair-then-next-len.result.0.0 w.pair-pair-then-next-len.result.1.0 w.take_found.new.found w.take_found.new.direct less w.pair-pair-then-next-len.ensures
          w.in_ok-take_found.ensures.direct w.in_ok-take_found.ensures.found)
          c.if-next_direct-len.next c.if-next_direct-len.next_direct c.if-next_direct-len.found c.if-next_direct-len.direct w.next-is w.next_direct-is w.found-is w.direct-is
    ]
