-- Each turn that goes on adds a member that has no such file.
use Rattle.std.proofs.Common.{◌≡◌, ◌<◌, length, inl, inr, refl, ◌∙◌, rules, length-set}
use Rattle.std.specs.Prelude.{◌≢◌}
use Rattle.mls_io.specs.declared.store.Fetch.TheVariants.{Found, Missing}
use Rattle.mls_io.proofs.AskingLaws.{all_asked, asked-Misses, front_more, rest_more, stops}
use Rattle.mls_io.proofs.path.ask_in_turn.Goals as goal

pub loop-i-init : goal.loop-i-init
loop-i-init g c = record { into = refl; lengths = refl; front = tt; rest = refl }

pub returns-then-ne : goal.returns-then-ne
returns-then-ne g c =
    let in_news : c.loop-i.i < length c.loop-i.members = search rules in
    let in_olds : c.loop-i.i < length c.args.members.now = search rules in
    let other : c.ask-answer.result ≢ Missing = search rules in
    inr (stops _ c.args.name.now c.args.limit c.args.into.now.items c.loop-i.into.items c.ask-answer.new.into.items c.ask-answer.result c.args.members.now c.loop-i.members c.loop-i.i c.ask-answer.new.member c.index-members-i.result in_olds in_news c.loop-i.invariant.rest c.loop-i.invariant.front c.loop-i.invariant.into c.ask-answer.ensures other)

pub loop-i-preserved : goal.loop-i-preserved
loop-i-preserved g c =
    let in_news : c.loop-i.i < length c.loop-i.members = search rules in
    let in_olds : c.loop-i.i < length c.args.members.now = search rules in
    let missing : c.ask-answer.result ≡ Missing = search rules in
    let not_found : c.ask-answer.result ≢ Found = search rules in
    record {
      into = c.ask-answer.ensures.unchanged not_found ∙ c.loop-i.invariant.into;
      lengths = length-set c.loop-i.members c.loop-i.i c.ask-answer.new.member ∙ c.loop-i.invariant.lengths;
      front = front_more _ c.args.name.now c.args.members.now c.loop-i.members c.loop-i.i c.ask-answer.new.member c.index-members-i.result in_olds in_news c.loop-i.invariant.rest c.loop-i.invariant.front (asked-Misses c.ask-answer.ensures missing);
      rest = rest_more c.args.members.now c.loop-i.members c.loop-i.i c.ask-answer.new.member c.index-members-i.result in_olds in_news c.loop-i.invariant.rest;
    }

pub returns : goal.returns
returns g c =
    let at_end : c.loop-i.i ≡ length c.args.members.now = search rules in
    inl (record {
      missed = all_asked _ c.args.name.now c.args.members.now c.loop-i.members c.loop-i.i at_end c.loop-i.invariant.lengths c.loop-i.invariant.front;
      unchanged = c.loop-i.invariant.into;
      answers = refl;
    })
