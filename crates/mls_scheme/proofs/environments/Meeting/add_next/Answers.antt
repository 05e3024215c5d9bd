use Rattle.std.proofs.Common.{◌<◌, ◌∙◌, inl, inr, length, arith, sym}
use Rattle.mls_scheme.proofs.MetEnvironments.{meet-both, meet-first, meet-second, order-equal, order-greater, order-less}
use Rattle.mls_scheme.proofs.environments.Meeting.add_next.Goals as goal

pub returns-then-j-second-clause-meeting : goal.returns-then-j-second-clause-meeting
returns-then-j-second-clause-meeting c =
    let low : c.args.i < length c.args.first.now = elim c.requires.left [ inl h ↦ h | inr h ↦ absurd (omega arith) ] in
    meet-first c.args.first.now c.args.second.now c.requires.first c.requires.second c.args.i c.args.j c.args.self.now.start c.args.self.now.env c.args.self.now.shared.items c.requires.meeting
    c.entry_at-entry.result c.add_one.new.self.env c.add_one.new.self.shared.items low c.entry_at-entry.ensures
    c.in_ok-add_one.ensures.env c.in_ok-add_one.ensures.shared
    (λ d there. absurd (omega arith))

pub returns-then-i-first-clause-meeting : goal.returns-then-i-first-clause-meeting
returns-then-i-first-clause-meeting c =
    let low : c.args.j < length c.args.second.now = elim c.requires.left [ inl h ↦ absurd (omega arith) | inr h ↦ h ] in
    meet-second c.args.first.now c.args.second.now c.requires.first c.requires.second c.args.i c.args.j c.args.self.now.start c.args.self.now.env c.args.self.now.shared.items c.requires.meeting
    c.entry_at-entry-then-i-first.result c.add_one-then-i-first.new.self.env c.add_one-then-i-first.new.self.shared.items low c.entry_at-entry-then-i-first.ensures
    c.in_ok-add_one-2.ensures.env c.in_ok-add_one-2.ensures.shared
    (λ d there. absurd (omega arith))

pub returns-in_ok-add_one-in-Less-clause-meeting : goal.returns-in_ok-add_one-in-Less-clause-meeting
returns-in_ok-add_one-in-Less-clause-meeting c =
    let one = c.requires.meeting.first_there in
    let other = c.requires.meeting.second_there in
    let low : c.args.i < length c.args.first.now = omega arith in
    meet-first c.args.first.now c.args.second.now c.requires.first c.requires.second c.args.i c.args.j c.args.self.now.start c.args.self.now.env c.args.self.now.shared.items c.requires.meeting
    c.entry_at-one.result c.add_one-in-Less.new.self.env c.add_one-in-Less.new.self.shared.items low c.entry_at-one.ensures
    c.in_ok-add_one-in-Less.ensures.env c.in_ok-add_one-in-Less.ensures.shared
    (λ d there. order-less c.entry_at-one.result.binder c.entry_at-other.result c.args.second.now c.args.j d c.entry_at-other.ensures (sym c.cmp.ensures ∙ c.in-Less.is))

pub returns-in_ok-add_one-in-Greater-clause-meeting : goal.returns-in_ok-add_one-in-Greater-clause-meeting
returns-in_ok-add_one-in-Greater-clause-meeting c =
    let one = c.requires.meeting.first_there in
    let other = c.requires.meeting.second_there in
    let low : c.args.j < length c.args.second.now = omega arith in
    meet-second c.args.first.now c.args.second.now c.requires.first c.requires.second c.args.i c.args.j c.args.self.now.start c.args.self.now.env c.args.self.now.shared.items c.requires.meeting
    c.entry_at-other.result c.add_one-in-Greater.new.self.env c.add_one-in-Greater.new.self.shared.items low c.entry_at-other.ensures
    c.in_ok-add_one-in-Greater.ensures.env c.in_ok-add_one-in-Greater.ensures.shared
    (λ d there. order-greater c.entry_at-one.result c.entry_at-other.result.binder c.args.first.now c.args.i d c.entry_at-one.ensures (sym c.cmp.ensures ∙ c.in-Greater.is))

pub returns-in_ok-add_both-in-Equal-clause-meeting : goal.returns-in_ok-add_both-in-Equal-clause-meeting
returns-in_ok-add_both-in-Equal-clause-meeting c =
    let one = c.requires.meeting.first_there in
    let other = c.requires.meeting.second_there in
    let low : c.args.i < length c.args.first.now = omega arith in
    let low' : c.args.j < length c.args.second.now = omega arith in
    meet-both c.args.first.now c.args.second.now c.requires.first c.requires.second c.args.i c.args.j c.args.self.now.start c.args.self.now.env c.args.self.now.shared.items c.requires.meeting
    c.entry_at-one.result c.entry_at-other.result c.add_both.new.self.env c.add_both.new.self.shared.items low low' c.entry_at-one.ensures c.entry_at-other.ensures
    (order-equal c.entry_at-one.result.binder c.entry_at-other.result.binder (sym c.cmp.ensures ∙ c.in-Equal.is))
    c.in_ok-add_both-in-Equal.ensures.env c.in_ok-add_both-in-Equal.ensures.shared
