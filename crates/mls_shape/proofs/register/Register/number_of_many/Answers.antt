use Rattle.std.proofs.Common.{◌≡◌, ◌≢◌, ◌<◌, ◌∙◌, ℕ, ap, sym, subst, rules, length, refl, Some, None}
use Rattle.std.proofs.lemmas.List.{length-map}
use Rattle.std.specs.Prelude.{unwrap_or}
use Rattle.std.specs.Ordering.{nat_cmp}
use Rattle.std.specs.Cmp.Lexicographic.{slice_cmp}
use Rattle.std.specs.BTreeMap.{get, Updates}
use Rattle.mls_shape.specs.declared.register.Register.{Register}
use Rattle.mls_shape.specs.steps.Registers.{sets_in, keys_in, key_in, key_of, number_in, Numbers}
use Rattle.mls_shape.proofs.Registered.{found_number, new_number, registered, same_register, is_next, is_given}
use Rattle.mls_shape.proofs.RegisteredOnes.{many_key, gets_many, stays_same}
use Rattle.mls_shape.proofs.register.Register.number_of_many.Goals as goal

pub returns-in_ok-push-clause-register : goal.returns-in_ok-push-clause-register
returns-in_ok-push-clause-register c =
    let old : Register = c.args.self.now in
    let new : Register = record { sets = c.push.new.self; positive = old.positive; negative = old.negative; numbers = c.number_or.new.numbers } in
    let number : ℕ = c.in_ok-number.number in
    let count : c.len-next.result ≡ length old.sets.items = search rules in
    let size : c.len-next.result ≡ length (keys_in old) = count ∙ sym (length-map old.sets.items key_in) in
    let next : number ≡ c.len-next.result = search rules in
    let key : c.in_ok-key.key ≡ key_of c.args.polarity c.args.members = c.in_ok-key.ensures.key in
    let is : number ≡ unwrap_or (get (slice_cmp nat_cmp) old.numbers c.in_ok-key.key) c.len-next.result = c.in_ok-number.ensures.number in
    let at : number_in old (key_of c.args.polarity c.args.members) ≡ get (slice_cmp nat_cmp) old.numbers c.in_ok-key.key =
    many_key old c.args.polarity c.args.members c.requires.many ∙ ap (get (slice_cmp nat_cmp) old.numbers) (sym key) in
    let unknown : number_in old (key_of c.args.polarity c.args.members) ≡ None =
    is_next (number_in old (key_of c.args.polarity c.args.members)) c.len-next.result
    (λ k e. subst (λ n. k < n) (sym size) (c.requires.register.found (key_of c.args.polarity c.args.members) k e).0)
    (ap (λ found. unwrap_or found c.len-next.result) at ∙ (sym is ∙ next)) in
    registered old new c.requires.register c.args.polarity c.args.members c.in_ok-push.ensures.items c.in_ok-key.ensures.rises unknown
    (gets_many old new c.args.polarity c.args.members (length (keys_in old)) c.requires.many refl refl
    (subst (λ key. Updates (slice_cmp nat_cmp) old.numbers new.numbers key (Some (length (keys_in old)))) key
    (subst (λ n. Updates (slice_cmp nat_cmp) old.numbers new.numbers c.in_ok-key.key (Some n)) (next ∙ size) c.in_ok-number.ensures.updates)))

pub returns-in_ok-push-clause-number : goal.returns-in_ok-push-clause-number
returns-in_ok-push-clause-number c =
    let old : Register = c.args.self.now in
    let new : Register = record { sets = c.push.new.self; positive = old.positive; negative = old.negative; numbers = c.number_or.new.numbers } in
    let count : c.in_ok-number.number ≡ length (sets_in old) = search rules in
    subst (Numbers c.args.polarity c.args.members (sets_in old) (sets_in new)) (sym count) (new_number old new c.requires.register c.args.polarity c.args.members c.in_ok-push.ensures.items)

pub returns-else-number-next-clause-register : goal.returns-else-number-next-clause-register
returns-else-number-next-clause-register c =
    let old : Register = c.args.self.now in
    let new : Register = record { sets = old.sets; positive = old.positive; negative = old.negative; numbers = c.number_or.new.numbers } in
    let apart : c.in_ok-number.number ≢ c.len-next.result = search rules in
    same_register old new c.requires.register refl
    (stays_same old new c.in_ok-key.key c.in_ok-number.number refl refl
    (is_given (get (slice_cmp nat_cmp) old.numbers c.in_ok-key.key) c.in_ok-number.number c.len-next.result c.in_ok-number.ensures.number apart)
    c.in_ok-number.ensures.updates)

pub returns-else-number-next-clause-number : goal.returns-else-number-next-clause-number
returns-else-number-next-clause-number c =
    let old : Register = c.args.self.now in
    let apart : c.in_ok-number.number ≢ c.len-next.result = search rules in
    let key : c.in_ok-key.key ≡ key_of c.args.polarity c.args.members = c.in_ok-key.ensures.key in
    found_number old c.requires.register c.args.polarity c.args.members c.in_ok-number.number
    (many_key old c.args.polarity c.args.members c.requires.many ∙ (ap (get (slice_cmp nat_cmp) old.numbers) (sym key)
    ∙ is_given (get (slice_cmp nat_cmp) old.numbers c.in_ok-key.key) c.in_ok-number.number c.len-next.result c.in_ok-number.ensures.number apart))
