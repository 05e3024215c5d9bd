use Rattle.std.proofs.Common.{◌≡◌, ◌∙◌, ◌<◌, ap, sym, subst, rules, length, get_or, Some}
use Rattle.std.specs.Prelude.{is_some, filter, option_map}
use Rattle.mls_automaton.specs.Automata.{head_at}
use Rattle.mls_print.specs.steps.Grouping.{record_of_all, fields_in, entry_fields}
use Rattle.mls_print.specs.steps.Tables.{IsRecordOf}
use Rattle.mls_print.proofs.Grouped.{no_record_found, record_found}
use Rattle.mls_print.proofs.OneRecord.{one_answer}
use Rattle.mls_print.proofs.record.joined_record.Goals as goal

pub returns-then-set-eq1 : goal.returns-then-set-eq1
returns-then-set-eq1 c = one_answer c.args.automaton.now c.args.polarity c.args.set.now c.if-set-eq1.true c.head.result.now c.head.ensures (c.requires.closed.labels (get_or c.args.set.now 0 0)) (option_map fields_in c.in_ok-whole.whole) c.in_ok-whole.ensures

pub returns-then-records-eq0 : goal.returns-then-records-eq0
returns-then-records-eq0 c =
    let none : length (filter (λ s. is_some (head_at c.args.automaton.now s).fields) c.args.set.now) ≡ 0 = search rules in
    no_record_found c.args.automaton.now c.args.polarity c.args.set.now none

pub returns : goal.returns
returns c =
    let a = c.args.automaton.now in
    let some : 0 < length (filter (λ s. is_some (head_at a s).fields) c.args.set.now) = search rules in
    let is : fields_in c.in_ok-fields.fields ≡ entry_fields c.args.polarity (length (filter (λ s. is_some (head_at a s).fields) c.args.set.now)) c.in_ok-groups.groups.entries =
    c.in_ok-fields.ensures.fields ∙ ap (λ n. entry_fields c.args.polarity n c.in_ok-groups.groups.entries) c.count_records-records.ensures in
    subst (λ fields. IsRecordOf (record_of_all a c.args.polarity c.args.set.now) (Some fields)) (sym is)
    (record_found a c.args.polarity c.args.set.now c.in_ok-groups.groups c.in_ok-fields.ensures.ordered c.in_ok-groups.ensures some)
