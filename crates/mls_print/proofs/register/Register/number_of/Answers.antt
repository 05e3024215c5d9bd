use Rattle.std.proofs.Common.{◌≡◌, ◌++◌, ◌∷◌, [], ◌∙◌, ap, sym, subst, rules, length, Some, None, map}
use Rattle.std.proofs.lemmas.List.{map-append, length-map}
use Rattle.std.specs.Ordering.{nat_cmp}
use Rattle.std.specs.Cmp.Lexicographic.{slice_cmp}
use Rattle.std.specs.BTreeMap.{Updates}
use Rattle.mls_automaton.specs.Heads.{IsSameSet}
use Rattle.mls_print.specs.declared.register.Register.{Register}
use Rattle.mls_print.specs.steps.Registers.{sets_in, number_in, Numbers}
use Rattle.mls_print.proofs.Registered.{found_number, new_number, registered}
use Rattle.mls_print.proofs.register.Register.number_of.Goals as goal

pub returns-in-Some-clause-number : goal.returns-in-Some-clause-number
returns-in-Some-clause-number c =
    let same : IsSameSet c.args.states.items c.of-members.result = ((λ s. (c.of-members.ensures.members s).1), (λ s. (c.of-members.ensures.members s).0)) in
    let known : number_in c.args.self.now c.of-members.result ≡ Some c.in-Some.number.now = search rules in
    let it : Numbers c.args.states.items (sets_in c.args.self.now) (sets_in c.args.self.now) c.in-Some.number.now = found_number c.args.self.now c.requires c.args.states.items c.of-members.result same c.in-Some.number.now known in
    it

pub returns-clause-register : goal.returns-clause-register
returns-clause-register c =
    let old : Register = c.args.self.now in
    let new : Register = record { sets = c.push.new.self; numbers = c.insert.new.self } in
    let pushed : new.sets.items ≡ old.sets.items ++ c.in_ok-to_vec.field-0 ∷ [] = c.in_ok-push.ensures.items in
    let grown : sets_in new ≡ sets_in old ++ c.of-members.result ∷ [] =
    ap (map (λ set. set.items)) pushed ∙ (map-append (λ set. set.items) old.sets.items (c.in_ok-to_vec.field-0 ∷ []) ∙ ap (λ set. sets_in old ++ set ∷ []) c.in_ok-to_vec.ensures) in
    let count : c.len-number.result ≡ length old.sets.items = search rules in
    let size : c.len-number.result ≡ length (sets_in old) = count ∙ sym (length-map old.sets.items (λ set. set.items)) in
    let unknown : number_in old c.of-members.result ≡ None = search rules in
    let updates : Updates (slice_cmp nat_cmp) old.numbers new.numbers c.of-members.result (Some c.len-number.result) = c.in_ok-insert.ensures.updates in
    registered old new c.requires c.of-members.result grown c.of-members.ensures.rising unknown (subst (λ n. Updates (slice_cmp nat_cmp) old.numbers new.numbers c.of-members.result (Some n)) size updates)

pub returns-clause-number : goal.returns-clause-number
returns-clause-number c =
    let old : Register = c.args.self.now in
    let new : Register = record { sets = c.push.new.self; numbers = c.insert.new.self } in
    let pushed : new.sets.items ≡ old.sets.items ++ c.in_ok-to_vec.field-0 ∷ [] = c.in_ok-push.ensures.items in
    let grown : sets_in new ≡ sets_in old ++ c.of-members.result ∷ [] =
    ap (map (λ set. set.items)) pushed ∙ (map-append (λ set. set.items) old.sets.items (c.in_ok-to_vec.field-0 ∷ []) ∙ ap (λ set. sets_in old ++ set ∷ []) c.in_ok-to_vec.ensures) in
    let count : c.len-number.result ≡ length old.sets.items = search rules in
    let size : c.len-number.result ≡ length (sets_in old) = count ∙ sym (length-map old.sets.items (λ set. set.items)) in
    let same : IsSameSet c.args.states.items c.of-members.result = ((λ s. (c.of-members.ensures.members s).1), (λ s. (c.of-members.ensures.members s).0)) in
    subst (Numbers c.args.states.items (sets_in old) (sets_in new)) (sym size) (new_number old new c.requires c.of-members.result grown c.args.states.items same)
