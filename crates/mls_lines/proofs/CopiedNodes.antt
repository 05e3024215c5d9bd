-- Copies of the nodes of a book, while they are added behind another one.
--     copied_length       where the next copy stands
--     raised_ordered      that it may stand there
use Rattle.std.proofs.Common.{◌≡◌, ◌∙◌, ℕ, ◌+◌, ◌<◌, List, ◌++◌, map, take, length, ap, arith, length-append}
use Rattle.std.proofs.lemmas.List.{length-map, length-take-le}
use Rattle.mls_book.specs.declared.book.Node.{Node}
use Rattle.mls_book.specs.declared.book.Node.TheVariants as node
use Rattle.mls_book.specs.Books.{IsOrdered}
use Rattle.mls_book.proofs.LongerBooks.{AreRising-renamed}
use Rattle.mls_deriv.specs.Steps.{raised}

-- where the next copy stands
pub copied_length : (old book other : List Node) (n i : ℕ) → i < length other → n ≡ length old → book ≡ old ++ map (raised n) (take i other) → length book ≡ n + i
copied_length old book other n i low first is =
    let all : length book ≡ length old + length (map (raised n) (take i other)) = ap length is ∙ length-append old (map (raised n) (take i other)) in
    let same : length (map (raised n) (take i other)) ≡ length (take i other) = length-map (take i other) (raised n) in
    let front : length (take i other) ≡ i = length-take-le i other (omega (arith, low)) in
    omega (arith, all, same, front, first)

-- a copy may stand as far behind the first one as its node does
pub raised_ordered : (n i : ℕ) (x : Node) → IsOrdered i x → IsOrdered (n + i) (raised n x)
raised_ordered n i node.Bot ordered = tt
raised_ordered n i node.Top ordered = tt
raised_ordered n i (node.Var x) ordered = tt
raised_ordered n i node.Bool ordered = tt
raised_ordered n i node.Int ordered = tt
raised_ordered n i (node.Arrow j k) ordered = tt
raised_ordered n i (node.Rcd fields) ordered = AreRising-renamed (λ m. n + m) fields ordered
raised_ordered n i (node.Join j k) ordered = (omega arith, omega arith)
raised_ordered n i (node.Meet j k) ordered = (omega arith, omega arith)
