-- Lists in which no variable stands twice.
--     follow_own          variables that follow each other
--     joined_own          two lists that share none
--     global_puts_own, first_puts_own, let_own    what stands for the variables of a name's type, and of a let's first part
--     puts_all_low        where each variable has a low node, all entries have
use Rattle.std.proofs.Common.{◌≡◌, ◌≢◌, ℕ, suc, ◌+◌, ◌<◌, ◌≤◌, Bool, true, false, cond, List, [], ◌∷◌, ◌++◌, refl, sym, ap, ◌∙◌, subst, arith, Option, Some, None}
use Rattle.std.specs.Prelude.{find, option_map, All, ◌==◌}
use Rattle.std.proofs.lemmas.Bool.{eqb-true, eq-eqb}
use Rattle.std.proofs.lemmas.List.Elements.{All-nil, All-cons}
use Rattle.std.specs.BTreeMap.{BTreeMap}
use Rattle.mls_automaton.specs.declared.scheme.Scheme.{Scheme}
use Rattle.mls_book.specs.declared.book.Node.{Node}
use Rattle.mls_deriv.specs.declared.claim.Put.{Put}
use Rattle.mls_deriv.specs.declared.derivation.BinderNode.{BinderNode}
use Rattle.mls_deriv.specs.Pairs.{put_at}
use Rattle.mls_layout.specs.declared.layout.Places.{Places}
use Rattle.mls_layout.specs.LaidOut.{place_of}
use Rattle.mls_layout.specs.Plans.{HaveOwnVariables}
use Rattle.mls_parts.specs.declared.pose.Posing.{Posing}
use Rattle.mls_lines.specs.declared.known.GlobalAt.{GlobalAt}
use Rattle.mls_lines.specs.Puts.{ArePutsOfFirst, ArePutsOfGlobal, FollowFrom, IsJoinOf, IsNodeOfCopy, IsPutOfEdge}
use Rattle.mls_lines.specs.Showing.{shown_by}
use Rattle.mls_lines.proofs.PutLists.{follow_inside, put_inside, puts_follow}

-- variables that follow each other
put_before : (x : ℕ) (puts : List Put) → FollowFrom x puts → (y : ℕ) → y < x → put_at puts y ≡ None
put_before x puts follow y less = go (put_at puts y) refl
  where
    go : (o : Option ℕ) → put_at puts y ≡ o → put_at puts y ≡ None
    go None none = none
    go (Some n) some =
        let w = put_inside puts y n some in
        let more : x ≤ w.0.variable = (follow_inside x puts follow w.0 w.1).0 in
        let at : w.0.variable ≡ y = w.2 in
        absurd (omega (arith, less, more, at))

pub follow_own : (x : ℕ) (puts : List Put) → FollowFrom x puts → HaveOwnVariables puts
follow_own x [] follow = tt
follow_own x (put ∷ puts) follow = (put_before (suc x) puts follow.1 put.variable (let at : put.variable ≡ x = follow.0 in omega (arith, at)), follow_own (suc x) puts follow.1)

-- what is found behind an entry is found, and the entry itself
abbrev node_of_test : Put → List Put → ℕ → Bool → Option ℕ
node_of_test put puts x t = option_map (λ (p : Put). p.node) (cond t (Some put) (find (λ (p : Put). p.variable == x) puts))

at_itself : (put : Put) (puts : List Put) → put_at (put ∷ puts) put.variable ≡ Some put.node
at_itself put puts = ap (node_of_test put puts put.variable) (eq-eqb put.variable put.variable refl)

behind_found : (put : Put) (puts : List Put) (x m : ℕ) → put_at puts put.variable ≡ None → put_at puts x ≡ Some m → put_at (put ∷ puts) x ≡ Some m
behind_found put puts x m own found = go (put.variable == x) refl
  where
    go : (t : Bool) → (put.variable == x) ≡ t → put_at (put ∷ puts) x ≡ Some m
    go true is = absurd (let none : put_at puts x ≡ None = ap (put_at puts) (sym (eqb-true put.variable x is)) ∙ own in let wrong : None ≡ Some m = sym none ∙ found in cc)
    go false is = ap (node_of_test put puts x) is ∙ found

behind_none : (put : Put) (puts : List Put) (x : ℕ) → put_at (put ∷ puts) x ≡ None → put_at puts x ≡ None
behind_none put puts x none = go (put.variable == x) refl
  where
    go : (t : Bool) → (put.variable == x) ≡ t → put_at puts x ≡ None
    go true is = absurd (let some : put_at (put ∷ puts) x ≡ Some put.node = ap (node_of_test put puts x) is in let wrong : None ≡ Some put.node = sym none ∙ some in cc)
    go false is = sym (ap (node_of_test put puts x) is) ∙ none

-- two lists that share none
joined_none : (first second : List Put) (x : ℕ) → put_at first x ≡ None → put_at second x ≡ None → put_at (first ++ second) x ≡ None
joined_none [] second x one two = two
joined_none (put ∷ first) second x one two = go (put.variable == x) refl (joined_none first second x (behind_none put first x one) two)
  where
    go : (t : Bool) → (put.variable == x) ≡ t → put_at (first ++ second) x ≡ None → put_at (put ∷ (first ++ second)) x ≡ None
    go true is later = absurd (let some : put_at (put ∷ first) x ≡ Some put.node = ap (node_of_test put first x) is in let wrong : None ≡ Some put.node = sym one ∙ some in cc)
    go false is later = ap (node_of_test put (first ++ second) x) is ∙ later

pub joined_own : (first second : List Put) → HaveOwnVariables first → HaveOwnVariables second → ((x n : ℕ) → put_at second x ≡ Some n → put_at first x ≡ None) → HaveOwnVariables (first ++ second)
joined_own [] second one two apart = two
joined_own (put ∷ first) second one two apart = (
  joined_none first second put.variable one.0 (other (put_at second put.variable) refl),
  joined_own first second one.1 two (λ x n found. behind_none put first x (apart x n found)),
)
  where
    other : (o : Option ℕ) → put_at second put.variable ≡ o → put_at second put.variable ≡ None
    other None none = none
    other (Some n) some =
        absurd (let none : put_at (put ∷ first) put.variable ≡ None = apart put.variable n some in let wrong : None ≡ Some put.node = sym none ∙ at_itself put first in cc)

-- what stands for the variables of a name's type
pub global_puts_own : (book : List Node) (places : Places) (p : Posing) (node : ℕ) (global : GlobalAt) (puts : List Put) → ArePutsOfGlobal book places p node global puts → HaveOwnVariables puts
global_puts_own book places p node global puts it =
    follow_own 0 puts (puts_follow (λ x. IsJoinOf book (λ s. place_of places (it.first + s)) (shown_by global.showing x)) 0 puts it.joins.each)

-- and for those of a let's first part
module _ (places : Places) (p : Posing) (lets : BTreeMap ℕ Scheme) (node k variable : ℕ) (puts : List Put) where
  pub first_puts_own : ArePutsOfFirst places p lets node k variable puts → HaveOwnVariables puts
  first_puts_own it =
      follow_own variable puts (puts_follow (IsPutOfEdge (IsNodeOfCopy places p it.known it.first) it.known.automaton.flows variable) variable puts it.edges.each)

  pub let_own : (d : List BinderNode) → (d ≡ [] → puts ≡ []) → (d ≢ [] → ArePutsOfFirst places p lets node k variable puts) → HaveOwnVariables puts
  let_own [] none edges = subst HaveOwnVariables (sym (none refl)) tt
  let_own (first ∷ rest) none edges = first_puts_own (edges (λ no. absurd (cc)))

-- where each variable has a low node, all entries have
pub puts_all_low : (n : ℕ) (puts : List Put) → HaveOwnVariables puts → ((x m : ℕ) → put_at puts x ≡ Some m → m < n) → All (λ (put : Put). put.node < n) puts
puts_all_low n [] own low = All-nil (λ (put : Put). put.node < n)
puts_all_low n (put ∷ puts) own low =
    All-cons (λ (p : Put). p.node < n) put puts (low put.variable put.node (at_itself put puts)) (puts_all_low n puts own.1 (λ x m found. low x m (behind_found put puts x m own.0 found)))
