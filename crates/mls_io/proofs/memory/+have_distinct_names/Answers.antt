use Rattle.std.proofs.Common.{◌≡◌, ◌∷◌, ℕ, List, true, sym, ap, ◌∙◌, rules}
use Rattle.std.specs.Prelude.{bytes_eq}
use Rattle.std.specs.List.{list_any}
use Rattle.mls_io.proofs.ShelfLaws.{distinct_more, not_distinct}
use Rattle.mls_io.proofs.memory.+have_distinct_names.Goals as goal

pub returns-then-not-is_among : goal.returns-then-not-is_among
returns-then-not-is_among t c =
    let split : c.args.files.now ≡ c.in-Some.first.now ∷ c.in-Some.rest.now = search rules in
    let named : c.as_str.result.now ≡ c.in-Some.first.now.0 = search rules in
    distinct_more c.args.files.now c.in-Some.rest.now c.in-Some.first.now split
    (ap (λ (name : List ℕ). list_any (λ (file : List ℕ × List ℕ). bytes_eq file.0 name) c.in-Some.rest.now) (sym named) ∙ sym c.is_among.ensures ∙ c.if-not-is_among.true)
    c.have_distinct_names.result c.have_distinct_names.ensures

pub returns-else-not-is_among : goal.returns-else-not-is_among
returns-else-not-is_among t c =
    let split : c.args.files.now ≡ c.in-Some.first.now ∷ c.in-Some.rest.now = search rules in
    let named : c.as_str.result.now ≡ c.in-Some.first.now.0 = search rules in
    let among : c.is_among.result ≡ true = search rules in (
      (λ is. absurd (cc)),
      (λ is. absurd (not_distinct c.args.files.now c.in-Some.rest.now c.in-Some.first.now split
          (ap (λ (name : List ℕ). list_any (λ (file : List ℕ × List ℕ). bytes_eq file.0 name) c.in-Some.rest.now) (sym named) ∙ sym c.is_among.ensures ∙ among) is)),
    )
