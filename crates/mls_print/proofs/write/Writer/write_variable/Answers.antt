use Rattle.std.proofs.Common.{◌≡◌, ◌++◌, ◌≤◌, ◌+◌, refl, ap, ◌∙◌, arith, length, List, ℕ}
use Rattle.std.proofs.lemmas.List.{length-append}
use Rattle.mls_print.specs.Keys.{name_at}
use Rattle.mls_print.proofs.NamedKeys.{variable_step}
use Rattle.mls_print.proofs.write.Writer.write_variable.Goals as goal

pub returns : goal.returns
returns c =
    let before : List ℕ = c.args.self.now.text.items in
    let step = variable_step c.args.self.now.variables.items c.number_of-number.new.numbers.items c.args.self.now.recursions.items c.args.state c.args.self.now.named c.number_of-number.new.named c.number_of-number.result c.requires.in_range c.number_of-number.ensures in
    let written : c.write_name.new.text.items ≡ before ++ name_at c.number_of-number.result = c.in_ok-write_name.ensures in
    let longer : length c.write_name.new.text.items ≡ length before + length (name_at c.number_of-number.result) = ap length written ∙ length-append before (name_at c.number_of-number.result) in
    let more : c.number_of-number.new.named ≤ c.args.self.now.named + 1 = step.0.1 in
    let fits : c.number_of-number.new.named ≤ length c.write_name.new.text.items = omega (arith, longer, more, c.requires.fits) in record {
      keeps = record {
        variables = step.0.0;
        recursions = refl;
        fits = fits;
      };
      names = λ seen has. (step.1 seen has).0;
      text = λ seen has. written ∙ ap (λ k. before ++ name_at k) (step.1 seen has).1;
    }
