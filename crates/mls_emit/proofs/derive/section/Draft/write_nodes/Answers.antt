use Rattle.mls_emit.proofs.derive.section.Draft.write_nodes.Goals as goal

pub returns-clause-writes : goal.returns-clause-writes
returns-clause-writes c = λ k parts way can nothing. c.write_plain_part.ensures.writes k parts can nothing

pub returns-in-Short-way-clause-writes : goal.returns-in-Short-way-clause-writes
returns-in-Short-way-clause-writes c = λ k parts way can nothing. absurd (cc (c.in-Short-way.is))
