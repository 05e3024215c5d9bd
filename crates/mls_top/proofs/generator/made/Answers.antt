use Rattle.std.proofs.Common.{List, ℕ, ◌∷◌, ◌++◌, codes, decimal, ap, ◌∙◌}
use Rattle.mls_top.specs.Generator.{binding}
use Rattle.mls_top.proofs.GeneratedTexts.{six_pieces}
use Rattle.mls_top.proofs.generator.made.Goals as goal

pub returns : goal.returns
returns c = c.in_ok-format.ensures.ok ∙ ap (λ (rest : List ℕ). codes "let v" ++ rest) (six_pieces (decimal c.args.i) (codes " = (") (binding c.args.j) (codes " ") (decimal c.args.n) (codes ") true\n"))
