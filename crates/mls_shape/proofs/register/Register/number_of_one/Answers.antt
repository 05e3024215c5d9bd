use Rattle.std.proofs.Common.{◌≡◌, ◌∙◌, ◌∷◌, [], List, ℕ, ap, sym, subst, refl, rules, length, Some, None}
use Rattle.std.proofs.lemmas.List.{length-map}
use Rattle.mls_automaton.specs.Sets.{Rises}
use Rattle.mls_shape.specs.declared.register.Register.{Register}
use Rattle.mls_shape.specs.steps.Registers.{sets_in, keys_in, key_in, key_of, number_in, single_in, Numbers, PutsSingle}
use Rattle.mls_shape.proofs.Registered.{GetsNumber, found_number, new_number, registered}
use Rattle.mls_shape.proofs.RegisteredOnes.{one_key, one_rises, gets_one}
use Rattle.mls_shape.proofs.register.Register.number_of_one.Goals as goal

pub returns-in-Some-clause-number : goal.returns-in-Some-clause-number
returns-in-Some-clause-number c =
    let old : Register = c.args.self.now in
    let known : single_in old c.args.polarity c.args.s ≡ Some c.in-Some.number = search rules in
    found_number old c.requires.register c.args.polarity c.args.members c.in-Some.number
    (ap (λ (members : List ℕ). number_in old (key_of c.args.polarity members)) c.requires.one ∙ (one_key old c.args.polarity c.args.s ∙ known))

pub returns-clause-register : goal.returns-clause-register
returns-clause-register c =
    let old : Register = c.args.self.now in
    let new : Register = c.put_single.new.self in
    let now : Register = record { sets = c.push.new.self; positive = old.positive; negative = old.negative; numbers = old.numbers } in
    let count : c.len-number.result ≡ length old.sets.items = search rules in
    let size : c.len-number.result ≡ length (keys_in old) = count ∙ sym (length-map old.sets.items key_in) in
    let unknown : single_in old c.args.polarity c.args.s ≡ None = search rules in
    let puts : PutsSingle c.args.polarity c.args.s c.len-number.result now new = c.in_ok-put_single.ensures in
    let gets : GetsNumber old new (key_of c.args.polarity (c.args.s ∷ [])) (length (keys_in old)) =
    subst (GetsNumber old new (key_of c.args.polarity (c.args.s ∷ []))) size (gets_one old now new c.args.polarity c.args.s c.len-number.result refl refl refl puts) in
    registered old new c.requires.register c.args.polarity c.args.members (ap (λ sets. sets.items) puts.sets ∙ c.in_ok-push.ensures.items)
    (subst Rises (sym c.requires.one) (one_rises c.args.s))
    (ap (λ (members : List ℕ). number_in old (key_of c.args.polarity members)) c.requires.one ∙ (one_key old c.args.polarity c.args.s ∙ unknown))
    (subst (λ (members : List ℕ). GetsNumber old new (key_of c.args.polarity members) (length (keys_in old))) (sym c.requires.one) gets)

pub returns-clause-number : goal.returns-clause-number
returns-clause-number c =
    let old : Register = c.args.self.now in
    let new : Register = c.put_single.new.self in
    let now : Register = record { sets = c.push.new.self; positive = old.positive; negative = old.negative; numbers = old.numbers } in
    let count : c.len-number.result ≡ length (sets_in old) = search rules in
    let puts : PutsSingle c.args.polarity c.args.s c.len-number.result now new = c.in_ok-put_single.ensures in
    subst (Numbers c.args.polarity c.args.members (sets_in old) (sets_in new)) (sym count)
    (new_number old new c.requires.register c.args.polarity c.args.members (ap (λ sets. sets.items) puts.sets ∙ c.in_ok-push.ensures.items))
