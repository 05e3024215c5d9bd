use Rattle.std.proofs.Common.{◌≡◌, ◌++◌, ◌≤◌, ◌+◌, ap, ◌∙◌, arith, length, List, ℕ, codes, append_assoc}
use Rattle.std.proofs.lemmas.List.{length-append}
use Rattle.mls_print.specs.Keys.{recursion}
use Rattle.mls_print.specs.steps.Writing.{name_behind}
use Rattle.mls_print.proofs.write.Writer.write_binder.Goals as goal

pub returns : goal.returns
returns c =
    let it = c.in_ok-write_recursion.ensures in
    let before : List ℕ = c.args.self.now.text.items in
    let named : List ℕ = c.write_recursion.new.self.text.items in
    let first : c.extend_from_slice.new.self.items ≡ before ++ codes "rec " = c.in_ok-extend_from_slice.ensures.items in
    let last : c.extend_from_slice-2.new.self.items ≡ named ++ codes ". " = c.in_ok-extend_from_slice-2.ensures.items in
    let longer : length c.extend_from_slice-2.new.self.items ≡ length named + length (codes ". ") = ap length last ∙ length-append named (codes ". ") in
    let had : c.write_recursion.new.self.named ≤ length named = it.keeps.fits in
    let fits : c.write_recursion.new.self.named ≤ length c.extend_from_slice-2.new.self.items = omega (arith, longer, had) in record {
      keeps = record { variables = it.keeps.variables; recursions = it.keeps.recursions; fits = fits };
      names = it.names;
      text = λ seen has.
          let name : List ℕ = name_behind seen (recursion c.args.set) in
          last
          ∙ (ap (λ text. text ++ codes ". ") (it.text seen has ∙ ap (λ text. text ++ name) first)
          ∙ (append_assoc (before ++ codes "rec ") name (codes ". ") ∙ append_assoc before (codes "rec ") (name ++ codes ". ")));
    }
