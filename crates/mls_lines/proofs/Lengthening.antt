-- What was laid out, while its book grows.
--     lengthens_itself, lengthens_then, lengthens_kept, lengthens_on, lengthens_grown, lengthens_book   the nodes of states stay
--     stepped_long, stepped_kept  so they do for a step as what a node concludes
--     longer_from             the nodes of another book stay where they are
--     global_kept             so does the type of a name of the environment
--     copied_more, copied_from    copies of nodes, one after the other
--     copied_closed           a closed book behind a closed one
use Rattle.std.proofs.Common.{◌≡◌, ℕ, ◌+◌, ◌<◌, ◌≤◌, List, [], ◌∷◌, ◌++◌, map, take, length, refl, sym, ap, ◌∙◌, subst, arith, append_assoc, length-append}
use Rattle.std.specs.Prelude.{IfOk, Ok, OnOk, Result}
use Rattle.std.proofs.lemmas.Result.{on_ok_weaker}
use Rattle.std.proofs.Math.ListN.{get_or-append, get_or-map}
use Rattle.std.proofs.lemmas.List.{get_or-append-add, length-map, map-append, take_more}
use Rattle.mls_book.specs.declared.book.Node.{Node}
use Rattle.mls_book.specs.declared.book.Node.TheVariants as node
use Rattle.mls_book.specs.Books.{node_at, IsClosedBook}
use Rattle.mls_book.proofs.LongerBooks.{renamed, Extends-both}
use Rattle.mls_deriv.specs.Steps.{raised, HasFrom}
use Rattle.mls_layout.specs.declared.layout.LaidOut.{LaidOut}
use Rattle.mls_layout.specs.LaidOut.{IsLonger}
use Rattle.mls_lines.specs.declared.steps.Conclusion as conclusion
use Rattle.mls_lines.specs.declared.writer.Concluded as written
use Rattle.mls_lines.specs.declared.writer.Concluded.TheVariants.{Step}
use Rattle.mls_lines.specs.declared.writer.Writer as state
use Rattle.mls_typetext.specs.declared.scheme.ReadScheme.{ReadScheme}
use Rattle.mls_lines.specs.declared.known.GlobalAt.{GlobalAt}
use Rattle.mls_lines.specs.Globals.{IsGlobalAt}
use Rattle.mls_lines.specs.Writer.{Grows, Lengthens}
use Rattle.mls_lines.proofs.Growing.{longer_itself, longer_then}
use Rattle.mls_lines.proofs.PlainForms.{stepped_is}

pub lengthens_itself : (laid : LaidOut) → Lengthens laid laid
lengthens_itself laid = record { book = longer_itself laid.book; places = refl; own = refl; boolean = refl; integer = refl }

pub lengthens_then : (first second third : LaidOut) → Lengthens first second → Lengthens second third → Lengthens first third
lengthens_then first second third it later = record {
  book = longer_then first.book second.book third.book it.book later.book;
  places = later.places ∙ it.places;
  own = later.own ∙ it.own;
  boolean = later.boolean ∙ it.boolean;
  integer = later.integer ∙ it.integer;
}

-- where it is as it was since
pub lengthens_kept : (old now new : LaidOut) → Lengthens old now → new ≡ now → Lengthens old new
lengthens_kept old now new it same = subst (Lengthens old) (sym same) it

pub lengthens_on : (old now later new : LaidOut) → Lengthens old now → Lengthens now later → new ≡ later → Lengthens old new
lengthens_on old now later new first second same = lengthens_kept old later new (lengthens_then old now later first second) same

pub lengthens_grown : (old new : state.Writer) → Grows old new → Lengthens old.laid new.laid
lengthens_grown old new it = record { book = (it.more, it.book); places = it.places; own = it.own; boolean = it.boolean; integer = it.integer }

-- where the book alone is longer
pub lengthens_book : (old : LaidOut) (book : List Node) → IsLonger old.book book → Lengthens old (record old { book = book })
lengthens_book old book longer = record { book = longer; places = refl; own = refl; boolean = refl; integer = refl }

-- a step as what a node concludes
module _ {E : Type 0} (r : Result conclusion.Conclusion E) (s : Result written.Concluded E) (made : IfOk s (λ o. (own : conclusion.Conclusion) × (r ≡ Ok own) × (o ≡ Step own))) (old new : LaidOut) where
  pub stepped_long : OnOk r (Lengthens old new) → OnOk s (Lengthens old new)
  stepped_long it = stepped_is r s (λ own. Lengthens old new) made it

  pub stepped_kept : OnOk r (new ≡ old) → OnOk s (Lengthens old new)
  stepped_kept it = stepped_long (on_ok_weaker r (lengthens_kept old old new (lengthens_itself old)) it)

-- the nodes of another book stay where they are
pub longer_from : (old new other : List Node) (n : ℕ) → IsLonger old new → HasFrom old n other → HasFrom new n other
longer_from old new other n (more, is) from = record {
  within =
      let all : length new ≡ length old + length more = ap length is ∙ length-append old more in
      let within : n + length other ≤ length old = from.within in
      omega (arith, all, within);
  nodes = λ i low.
      let within : n + length other ≤ length old = from.within in
      let here : n + i < length old = omega (arith, low, within) in
      ap (λ (xs : List Node). node_at xs (n + i)) is ∙ (get_or-append old more node.Bot (n + i) here ∙ from.nodes i low);
}

-- the type of a name of the environment stays in its place
pub global_kept : (old new : List Node) (read : ReadScheme) (global : GlobalAt) → IsLonger old new → IsGlobalAt old read global → IsGlobalAt new read global
global_kept old new read global longer it = record {
  from = longer_from old new read.book global.first longer it.from;
  root = it.root;
  variables = it.variables;
  showing = it.showing;
}

-- one node more is copied
pub copied_more : (old book new other : List Node) (n i : ℕ) (x : Node) → i < length other → book ≡ old ++ map (raised n) (take i other) → new ≡ book ++ x ∷ [] → x ≡ raised n (node_at other i)
    → new ≡ old ++ map (raised n) (take (i + 1) other)
copied_more old book new other n i x low before is same =
    let so_far : List Node = map (raised n) (take i other) in
    let one : so_far ++ x ∷ [] ≡ map (raised n) (take (i + 1) other) =
    ap (λ (y : Node). so_far ++ y ∷ []) same ∙ (sym (map-append (raised n) (take i other) (node_at other i ∷ [])) ∙ ap (map (raised n)) (sym (take_more other i node.Bot low))) in
    is ∙ (ap (λ (xs : List Node). xs ++ x ∷ []) before ∙ (append_assoc old so_far (x ∷ []) ∙ ap (λ (xs : List Node). old ++ xs) one))

-- all nodes are copied
pub copied_from : (old book other : List Node) (n : ℕ) → n ≡ length old → book ≡ old ++ map (raised n) other → HasFrom book n other
copied_from old book other n first is = record {
  within =
      let all : length book ≡ length old + length (map (raised n) other) = ap length is ∙ length-append old (map (raised n) other) in
      let same : length (map (raised n) other) ≡ length other = length-map other (raised n) in
      omega (arith, all, same, first);
  nodes = λ i low.
      ap (λ (xs : List Node). node_at xs (n + i)) is
      ∙ (ap (λ m. node_at (old ++ map (raised n) other) (m + i)) first
      ∙ (get_or-append-add old (map (raised n) other) i node.Bot ∙ get_or-map (raised n) other i node.Bot));
}

-- a closed book behind a closed one
raised_renamed : (n : ℕ) (x : Node) → renamed (λ i. n + i) (λ v. v) x ≡ raised n x
raised_renamed n node.Bot = refl
raised_renamed n node.Top = refl
raised_renamed n (node.Var x) = refl
raised_renamed n node.Bool = refl
raised_renamed n node.Int = refl
raised_renamed n (node.Arrow j k) = refl
raised_renamed n (node.Rcd fields) = refl
raised_renamed n (node.Join j k) = refl
raised_renamed n (node.Meet j k) = refl

pub copied_closed : (old book other : List Node) (n : ℕ) → n ≡ length old → book ≡ old ++ map (raised n) other → IsClosedBook old → IsClosedBook other → IsClosedBook book
copied_closed old book other n first is closed own =
    subst IsClosedBook (ap (λ (f : Node → Node). old ++ map f other) (λ i x. raised_renamed (length old) x i) ∙ (ap (λ k. old ++ map (raised k) other) (sym first) ∙ sym is))
    (Extends-both old other closed own).closed
