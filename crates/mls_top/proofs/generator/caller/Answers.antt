use Rattle.std.proofs.Common.{List, ℕ, ◌∷◌, ◌++◌, codes, decimal, ap, ◌∙◌}
use Rattle.mls_top.specs.Generator.{binding}
use Rattle.mls_top.proofs.GeneratedTexts.{eight_pieces}
use Rattle.mls_top.proofs.generator.caller.Goals as goal

pub returns : goal.returns
returns c = c.in_ok-format.ensures.ok ∙ ap (λ (rest : List ℕ). codes "let rec v" ++ rest) (eight_pieces (decimal c.args.i) (codes " = fun n -> if n < ") (decimal c.args.n) (codes " then ") (binding c.args.j) (codes " {a = n, b = n, c = n} else ") (binding c.args.i) (codes " (n - 1)\n"))
