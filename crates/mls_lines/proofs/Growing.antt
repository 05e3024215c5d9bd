-- The writer of a part's lines, while nodes are added to its book.
--     longer_itself, longer_then      a longer book
--     grows_itself, grows_then, grows_laid, grows_pushed      the book grows
--     pushed_node             the node that was added last
--     joins_more, meets_more  one binder more of two environments
use Rattle.std.proofs.Common.{◌≡◌, ℕ, List, [], ◌∷◌, ◌++◌, length, refl, sym, ap, ◌∙◌, subst, append-nil, append_assoc}
use Rattle.mls_book.specs.declared.book.Node.{Node}
use Rattle.mls_book.specs.declared.book.NodeId.{NodeId}
use Rattle.mls_book.specs.Books.{node_at, IsClosedBook}
use Rattle.mls_deriv.specs.declared.derivation.BinderNode.{BinderNode}
use Rattle.mls_layout.specs.declared.layout.Places.{Places}
use Rattle.mls_layout.specs.LaidOut.{place_of, IsLonger}
use Rattle.mls_layout.specs.Scopes.{entry}
use Rattle.mls_parts.specs.declared.pose.Posing.{Posing}
use Rattle.mls_parts.specs.Posings.{binder_in}
use Rattle.mls_lines.specs.declared.writer.Writer as state
use Rattle.mls_lines.specs.Environments.{JoinsAt, JoinsIn, MeetsAt, MeetsIn, AreEntries}
use Rattle.mls_lines.specs.Stepping.{binder_node}
use Rattle.mls_lines.specs.Writer.{Grows, own_node}
use Rattle.mls_lines.proofs.JoinedEnvironments.{entries_push, entries_more, joins_stays, meets_stays}

pub longer_itself : (book : List Node) → IsLonger book book
longer_itself book = ([], sym (append-nil book))

pub longer_then : (first second third : List Node) → IsLonger first second → IsLonger second third → IsLonger first third
longer_then first second third (more, is) (others, later) =
    (more ++ others, later ∙ (ap (λ (l : List Node). l ++ others) is ∙ append_assoc first more others))

pub grows_itself : (w : state.Writer) → Grows w w
grows_itself w = record {
  more = [];
  book = sym (append-nil w.laid.book);
  closed = λ is. is;
  places = refl;
  own = refl;
  boolean = refl;
  integer = refl;
  steps = refl;
  concluded = refl;
}

pub grows_then : (first second third : state.Writer) → Grows first second → Grows second third → Grows first third
grows_then first second third it later = record {
  more = it.more ++ later.more;
  book = later.book ∙ (ap (λ (l : List Node). l ++ later.more) it.book ∙ append_assoc first.laid.book it.more later.more);
  closed = λ is. later.closed (it.closed is);
  places = later.places ∙ it.places;
  own = later.own ∙ it.own;
  boolean = later.boolean ∙ it.boolean;
  integer = later.integer ∙ it.integer;
  steps = later.steps ∙ it.steps;
  concluded = later.concluded ∙ it.concluded;
}

-- where nothing that is told of has changed since
pub grows_laid : (old now new : state.Writer) → Grows old now → new.laid ≡ now.laid → new.steps ≡ now.steps → new.concluded ≡ now.concluded → Grows old new
grows_laid old now new it laid steps concluded = record {
  more = it.more;
  book = (λ n. (laid n).book) ∙ it.book;
  closed = λ is. subst IsClosedBook (sym (λ n. (laid n).book)) (it.closed is);
  places = (λ n. (laid n).places) ∙ it.places;
  own = (λ n. (laid n).own) ∙ it.own;
  boolean = (λ n. (laid n).boolean) ∙ it.boolean;
  integer = (λ n. (laid n).integer) ∙ it.integer;
  steps = steps ∙ it.steps;
  concluded = concluded ∙ it.concluded;
}

-- the node that was added last
pub pushed_node : (book : List Node) (node : Node) → node_at (book ++ node ∷ []) (length book) ≡ node
pushed_node [] node = refl
pushed_node (first ∷ book) node = pushed_node book node

module _ (w now new : state.Writer) (before : Grows w now) (later : Grows now new) (d e : List BinderNode) (xs : List ℕ) (env : List BinderNode) (x : ℕ) (n : NodeId) where
  pub joins_more : (p : Posing) → AreEntries (JoinsIn now.laid.book (own_node w p) d e) xs env
      → JoinsAt new.laid.book (own_node now p x) (binder_node d x) (binder_node e x) n.0
      → AreEntries (JoinsIn new.laid.book (own_node w p) d e) (xs ++ x ∷ []) (env ++ entry x n.0 ∷ [])
  joins_more p all joins =
      entries_push (JoinsIn new.laid.book (own_node w p) d e) xs env x (entry x n.0)
      (entries_more (JoinsIn now.laid.book (own_node w p) d e) (JoinsIn new.laid.book (own_node w p) d e) stays xs env all) refl
      (subst (λ (places : Places). JoinsAt new.laid.book (place_of places (binder_in p x)) (binder_node d x) (binder_node e x) n.0) before.places joins)
    where
      stays : (y m : ℕ) → JoinsIn now.laid.book (own_node w p) d e y m → JoinsIn new.laid.book (own_node w p) d e y m
      stays y m it =
          subst (λ (book : List Node). JoinsIn book (own_node w p) d e y m) (sym later.book)
          (joins_stays now.laid.book later.more (own_node w p y) (binder_node d y) (binder_node e y) m it)

  pub meets_more : AreEntries (MeetsIn now.laid.book d e) xs env → MeetsAt new.laid.book (binder_node d x) (binder_node e x) n.0
      → AreEntries (MeetsIn new.laid.book d e) (xs ++ x ∷ []) (env ++ entry x n.0 ∷ [])
  meets_more all meets =
      entries_push (MeetsIn new.laid.book d e) xs env x (entry x n.0)
      (entries_more (MeetsIn now.laid.book d e) (MeetsIn new.laid.book d e) stays xs env all) refl meets
    where
      stays : (y m : ℕ) → MeetsIn now.laid.book d e y m → MeetsIn new.laid.book d e y m
      stays y m it =
          subst (λ (book : List Node). MeetsIn book d e y m) (sym later.book)
          (meets_stays now.laid.book later.more (binder_node d y) (binder_node e y) m it)
