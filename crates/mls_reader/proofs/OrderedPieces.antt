-- The pieces that tell a module, put into the order of the nodes, make the module.
use Rattle.std.proofs.Common.{◌≡◌, ℕ, zero, suc, ◌+◌, Bool, true, false, ◌||◌, List, [], ◌∷◌, ◌++◌, reverse, Result, Ok, Err, IfOk, refl, sym, ap, ◌∙◌, arith}
use Rattle.std.specs.List.{list_any}
use Rattle.std.proofs.lemmas.List.{reverse-reverse}
use Rattle.mls_base.specs.declared.memory.Memory.{Memory}
use Rattle.mls_grammar.specs.declared.module.Module.{Module}
use Rattle.mls_reader.specs.declared.piece.Piece.{Piece}
use Rattle.mls_reader.specs.declared.piece.Piece.TheVariants as piece
use Rattle.mls_reader.specs.declared.nodes.Later.TheVariants.{Part}
use Rattle.mls_reader.specs.steps.Arranging.{is_operator, node_piece, part_count, parts, fronts, told, left, arrangement}
use Rattle.mls_reader.specs.steps.Linking.{linked, link_start, module_linked}
use Rattle.mls_grammar.specs.Modules.{module_of}
use Rattle.mls_reader.specs.steps.Told.{TellsSource, arranged_source}
use Rattle.mls_grammar.specs.Trees.{SourceTree}
use Rattle.mls_reader.proofs.Arrangements.{arrangement-source}
use Rattle.mls_reader.proofs.Links.{linked-source}

module-told : (pieces ordered : List Piece) (m : Module) (tree : SourceTree) → reverse ordered ≡ arrangement [] (reverse pieces)
    → m ≡ module_linked (linked link_start ordered) → TellsSource pieces tree → m ≡ module_of tree
module-told pieces ordered m tree e f it =
    let same : ordered ≡ arranged_source tree = sym (reverse-reverse ordered) ∙ (ap reverse (e ∙ arrangement-source pieces tree it) ∙ reverse-reverse (arranged_source tree)) in
    f ∙ (ap (λ l. module_linked (linked link_start l)) same ∙ linked-source tree)

pub ok-told : (result : Result Module Memory) (pieces ordered : List Piece) → reverse ordered ≡ arrangement [] (reverse pieces)
    → IfOk result (λ m. m ≡ module_linked (linked link_start ordered)) → IfOk result (λ m. (tree : SourceTree) → TellsSource pieces tree → m ≡ module_of tree)
ok-told (Ok m) pieces ordered e f = λ tree it. module-told pieces ordered m tree e f it
ok-told (Err memory) pieces ordered e f = f

-- the pieces from the last to the first
pub ok-told-back : (result : Result Module Memory) (pieces backward : List Piece) → backward ≡ arrangement [] (reverse pieces)
    → IfOk result (λ m. m ≡ module_linked (linked link_start (reverse backward))) → IfOk result (λ m. (tree : SourceTree) → TellsSource pieces tree → m ≡ module_of tree)
ok-told-back result pieces backward e f = ok-told result pieces (reverse backward) (reverse-reverse backward ∙ e) f

parts-append : (a b : ℕ) → parts a ++ parts b ≡ parts (a + b)
parts-append zero b = let e : b ≡ 0 + b = omega arith in ap parts e
parts-append (suc a) b = let e : suc (a + b) ≡ suc a + b = omega arith in ap (λ l. Part ∷ l) (parts-append a b) ∙ ap parts e

-- nothing is told before a part
left-parts : (k : ℕ) → (j : ℕ) × (left (parts k) ≡ parts j)
left-parts zero = (zero, refl)
left-parts (suc k) = (k, refl)

told-parts : (k : ℕ) → told (parts k) ≡ []
told-parts zero = refl
told-parts (suc k) = refl

record IsUnmoved (p : Piece) : Type 0 where
  pub piece : node_piece p ≡ p
  pub parts : fronts p ≡ parts (part_count p)

is_unmoved : (p : Piece) → is_operator p ≡ false → IsUnmoved p
is_unmoved (piece.Name at x) none = record { piece = refl; parts = refl }
is_unmoved (piece.Number at x) none = record { piece = refl; parts = refl }
is_unmoved (piece.Truth at x) none = record { piece = refl; parts = refl }
is_unmoved (piece.Fun at x) none = record { piece = refl; parts = refl }
is_unmoved (piece.Rec at x) none = record { piece = refl; parts = refl }
is_unmoved (piece.Let at x) none = record { piece = refl; parts = refl }
is_unmoved (piece.If at) none = record { piece = refl; parts = refl }
is_unmoved (piece.Apply at) none = record { piece = refl; parts = refl }
is_unmoved (piece.Make at) none = record { piece = refl; parts = refl }
is_unmoved (piece.Project at x) none = record { piece = refl; parts = refl }
is_unmoved (piece.Binary at o) none = absurd (cc)
is_unmoved (piece.Operator at o) none = record { piece = refl; parts = refl }
is_unmoved piece.Last none = record { piece = refl; parts = refl }
is_unmoved (piece.Field x) none = record { piece = refl; parts = refl }
is_unmoved (piece.Import at x) none = record { piece = refl; parts = refl }
is_unmoved (piece.Binding at x) none = record { piece = refl; parts = refl }

none-first : (b c : Bool) → (b || c) ≡ false → (b ≡ false) × (c ≡ false)
none-first true c e = absurd (cc)
none-first false c e = (refl, e)

-- without an operator behind its operands, all pieces stay where they are
pub stay : (k : ℕ) (ps : List Piece) → list_any is_operator ps ≡ false → arrangement (parts k) ps ≡ ps
unfolding arrangement
stay k [] none = told-parts k
stay k (p ∷ ps) none =
    let both = none-first (is_operator p) (list_any is_operator ps) none in
    let here = is_unmoved p both.0 in
    let next = left-parts k in
    let st : fronts p ++ left (parts k) ≡ parts (part_count p + next.0) = (λ i. here.parts i ++ next.1 i) ∙ parts-append (part_count p) next.0 in
    (λ i. told-parts k i ++ (here.piece i ∷ arrangement (st i) ps))
    ∙ ap (λ l. p ∷ l) (stay (part_count p + next.0) ps both.1)
