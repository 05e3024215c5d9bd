use Rattle.std.proofs.Common.{◌≡◌, ◌≢◌, ◌∙◌, ◌++◌, ◌∷◌, [], ℕ, List, Some, ap, sym, subst, rules, length}
use Rattle.std.specs.Prelude.{unwrap_or}
use Rattle.std.specs.BTreeMap.{BTreeMap, Updates}
use Rattle.std.specs.Ordering.{nat_cmp}
use Rattle.std.specs.Cmp.Lexicographic.{slice_cmp}
use Rattle.mls_shape.specs.declared.numbering.Numbering.{Numbering}
use Rattle.mls_shape.specs.steps.Classes.{known_in}
use Rattle.mls_shape.proofs.Numberings.{adds_known, adds_unknown}
use Rattle.mls_shape.proofs.numbering.Numbering.add.Goals.{then-number-next+in_ok-push, else-number-next}
use Rattle.mls_shape.proofs.numbering.Numbering.add.Goals as goal

pub returns : goal.returns
returns c =
    let old : Numbering = c.args.self.now in
    let new : Numbering = record { classes = record { numbers = c.push-2.new.self; chosen = c.if-number-next.self.classes.chosen }; known = c.if-number-next.self.known } in
    let number : ℕ = c.in_ok-number.number in
    let next : c.len-next.result ≡ length old.classes.chosen.items = search rules in
    let is : number ≡ unwrap_or (known_in old c.args.key) (length old.classes.chosen.items) =
    subst (λ n. number ≡ unwrap_or (known_in old c.args.key) n) next c.in_ok-number.ensures.number in
    elim c.if-number-next.branch [
      | then-number-next+in_ok-push w ↦
          let place : w.len.result ≡ length old.classes.numbers.items = search rules in
          let same : number ≡ c.len-next.result = search rules in
          adds_unknown old new c.args.key number is
          (c.in_ok-push-2.ensures.items ∙ ap (λ (self : Numbering). self.classes.numbers.items ++ number ∷ []) w.self-is)
          (subst (λ (known : BTreeMap (List ℕ) ℕ). Updates (slice_cmp nat_cmp) old.known known c.args.key (Some number)) (sym (ap (λ (self : Numbering). self.known) w.self-is)) c.in_ok-number.ensures.updates)
          (c.requires c.args.key) (same ∙ next)
          (ap (λ (self : Numbering). self.classes.chosen.items) w.self-is ∙ (w.in_ok-push.ensures.items ∙ ap (λ n. old.classes.chosen.items ++ n ∷ []) place))
      | else-number-next w ↦
          let apart : number ≢ c.len-next.result = w.if-number-next.false in
          adds_known old new c.args.key number is
          (c.in_ok-push-2.ensures.items ∙ ap (λ (self : Numbering). self.classes.numbers.items ++ number ∷ []) w.self-is)
          (subst (λ (known : BTreeMap (List ℕ) ℕ). Updates (slice_cmp nat_cmp) old.known known c.args.key (Some number)) (sym (ap (λ (self : Numbering). self.known) w.self-is)) c.in_ok-number.ensures.updates)
          (λ e. apart (e ∙ sym next))
          (ap (λ (self : Numbering). self.classes.chosen.items) w.self-is)
    ]
