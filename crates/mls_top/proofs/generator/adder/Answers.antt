use Rattle.std.proofs.Common.{List, ℕ, ◌∷◌, ◌++◌, codes, decimal, ap, ◌∙◌}
use Rattle.mls_top.specs.Generator.{binding}
use Rattle.mls_top.proofs.GeneratedTexts.{six_pieces}
use Rattle.mls_top.proofs.generator.adder.Goals as goal

pub returns : goal.returns
returns c = c.in_ok-format.ensures.ok ∙ ap (λ (rest : List ℕ). codes "let v" ++ rest) (six_pieces (decimal c.args.i) (codes " = fun r -> r.") c.args.label.now (codes " + ") (binding c.args.j) (codes ".c\n"))
