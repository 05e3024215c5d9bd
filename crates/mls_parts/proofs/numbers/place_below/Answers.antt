use Rattle.std.proofs.Common.{rules}
use Rattle.std.proofs.lemmas.List.Sorted.{answers_always}
use Rattle.mls_parts.proofs.NumberMaps.{searched}
use Rattle.mls_parts.proofs.numbers.place_below.Goals as goal

-- the closure gives the number of an entry
pub returns-else-entries-guess-clause-found : goal.returns-else-entries-guess-clause-found
returns-else-entries-guess-clause-found g c =
    let facts = c.binary_search_by_key.ensures in
    let by_number = facts.position (λ e. e.0) (answers_always _ _ _ (λ f a r s called. search rules)) in
    (searched c.args.entries.now c.requires.rising c.args.number c.binary_search_by_key.result facts.bound by_number).found

pub returns-else-entries-guess-clause-absent : goal.returns-else-entries-guess-clause-absent
returns-else-entries-guess-clause-absent g c =
    let facts = c.binary_search_by_key.ensures in
    let by_number = facts.position (λ e. e.0) (answers_always _ _ _ (λ f a r s called. search rules)) in
    (searched c.args.entries.now c.requires.rising c.args.number c.binary_search_by_key.result facts.bound by_number).absent
