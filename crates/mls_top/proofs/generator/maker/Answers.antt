use Rattle.std.proofs.Common.{List, ℕ, ◌∷◌, ◌++◌, codes, decimal, ap, ◌∙◌}
use Rattle.mls_top.specs.Generator.{binding}
use Rattle.mls_top.proofs.GeneratedTexts.{four_pieces}
use Rattle.mls_top.proofs.generator.maker.Goals as goal

pub returns : goal.returns
returns c = c.in_ok-format.ensures.ok ∙ ap (λ (rest : List ℕ). codes "let v" ++ rest) (four_pieces (decimal c.args.i) (codes " = fun x -> fun y -> {a = x, b = y, c = ") (decimal c.args.n) (codes "}\n"))
