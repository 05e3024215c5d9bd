-- The answer is that of a store over the files of all members in turn.
use Rattle.std.proofs.Common.{◌≡◌, length, rules}
use Rattle.mls_io.proofs.PathLaws.{members_asked, written_back}
use Rattle.mls_io.proofs.path.SearchPathStore.fetch.Goals as goal

pub returns-clause-follows : goal.returns-clause-follows
returns-clause-follows g c =
    let lengths : length c.ask_in_turn-answer.new.members ≡ c.args.self.now.members.len = search rules in
    (members_asked _ c.args.self.now.misses c.count.new.misses c.args.self.now.members.items c.deref_mut.result.now _ c.ask_in_turn-answer.new.members c.args.name.now c.args.limit c.args.into.now.items c.ask_in_turn-answer.new.into.items c.ask_in_turn-answer.result c.deref_mut.ensures.value (written_back c.ask_in_turn-answer.new.members c.args.self.now.members.items c.args.self.now.members.len lengths) c.ask_in_turn-answer.ensures c.count.ensures.grows c.count.ensures.rose).follows

pub returns-clause-found : goal.returns-clause-found
returns-clause-found g c =
    let lengths : length c.ask_in_turn-answer.new.members ≡ c.args.self.now.members.len = search rules in
    (members_asked _ c.args.self.now.misses c.count.new.misses c.args.self.now.members.items c.deref_mut.result.now _ c.ask_in_turn-answer.new.members c.args.name.now c.args.limit c.args.into.now.items c.ask_in_turn-answer.new.into.items c.ask_in_turn-answer.result c.deref_mut.ensures.value (written_back c.ask_in_turn-answer.new.members c.args.self.now.members.items c.args.self.now.members.len lengths) c.ask_in_turn-answer.ensures c.count.ensures.grows c.count.ensures.rose).found

pub returns-clause-missing : goal.returns-clause-missing
returns-clause-missing g c =
    let lengths : length c.ask_in_turn-answer.new.members ≡ c.args.self.now.members.len = search rules in
    (members_asked _ c.args.self.now.misses c.count.new.misses c.args.self.now.members.items c.deref_mut.result.now _ c.ask_in_turn-answer.new.members c.args.name.now c.args.limit c.args.into.now.items c.ask_in_turn-answer.new.into.items c.ask_in_turn-answer.result c.deref_mut.ensures.value (written_back c.ask_in_turn-answer.new.members c.args.self.now.members.items c.args.self.now.members.len lengths) c.ask_in_turn-answer.ensures c.count.ensures.grows c.count.ensures.rose).missing

pub returns-clause-long : goal.returns-clause-long
returns-clause-long g c =
    let lengths : length c.ask_in_turn-answer.new.members ≡ c.args.self.now.members.len = search rules in
    (members_asked _ c.args.self.now.misses c.count.new.misses c.args.self.now.members.items c.deref_mut.result.now _ c.ask_in_turn-answer.new.members c.args.name.now c.args.limit c.args.into.now.items c.ask_in_turn-answer.new.into.items c.ask_in_turn-answer.result c.deref_mut.ensures.value (written_back c.ask_in_turn-answer.new.members c.args.self.now.members.items c.args.self.now.members.len lengths) c.ask_in_turn-answer.ensures c.count.ensures.grows c.count.ensures.rose).long

pub returns-clause-failed : goal.returns-clause-failed
returns-clause-failed g c =
    let lengths : length c.ask_in_turn-answer.new.members ≡ c.args.self.now.members.len = search rules in
    (members_asked _ c.args.self.now.misses c.count.new.misses c.args.self.now.members.items c.deref_mut.result.now _ c.ask_in_turn-answer.new.members c.args.name.now c.args.limit c.args.into.now.items c.ask_in_turn-answer.new.into.items c.ask_in_turn-answer.result c.deref_mut.ensures.value (written_back c.ask_in_turn-answer.new.members c.args.self.now.members.items c.args.self.now.members.len lengths) c.ask_in_turn-answer.ensures c.count.ensures.grows c.count.ensures.rose).failed
