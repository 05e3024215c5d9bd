-- Nodes without those that stand twice, in order.
--     numbers_none, numbers_more, numbers_all     the numbers of a list, one after another
--     nodes_more, nodes_are                       the nodes of numbers
use Rattle.std.proofs.Common.{◌≡◌, ◌<◌, ◌+◌, ◌⊎◌, inl, inr, ℕ, zero, suc, List, [], ◌∷◌, ◌++◌, length, take, map, refl, sym, ap, subst, arith}
use Rattle.std.specs.Prelude.{◌↔◌, Contains, get_or}
use Rattle.std.proofs.lemmas.List.{take_more}
use Rattle.std.proofs.lemmas.List.Elements.{Contains-append_cases, Contains-append_left, Contains-push}
use Rattle.mls_book.specs.declared.book.NodeId.{NodeId}
use Rattle.mls_layout.specs.Trees.{IsNodeIn}
use Rattle.mls_layout.specs.steps.Sources.{node_id}

-- the numbers of these nodes
abbrev pub AreNumbersOf : List NodeId → List ℕ → Type 0
AreNumbersOf ids numbers = (i : ℕ) → Contains numbers i ↔ IsNodeIn ids i

pub numbers_more : (ids : List NodeId) (k : ℕ) (d : NodeId) (old new : List ℕ) → k < length ids → AreNumbersOf (take k ids) old → ((i : ℕ) → Contains new i ↔ (i ≡ (get_or ids k d).0) ⊎ Contains old i)
    → AreNumbersOf (take (k + 1) ids) new
numbers_more ids k d old new low are adds i =
    subst (λ (ns : List NodeId). Contains new i ↔ IsNodeIn ns i) (sym (take_more ids k d low)) (
      λ there. to ((adds i).0 there),
      λ there. (adds i).1 (from (Contains-append_cases (take k ids) (id ∷ []) (node_id i) there)),
    )
  where
    id : NodeId
    id = get_or ids k d

    to : (i ≡ id.0) ⊎ Contains old i → IsNodeIn (take k ids ++ id ∷ []) i
    to (inl same) = subst (IsNodeIn (take k ids ++ id ∷ [])) (sym same) (Contains-push (take k ids) id)
    to (inr before) = Contains-append_left (take k ids) (id ∷ []) (node_id i) ((are i).0 before)

    from : IsNodeIn (take k ids) i ⊎ Contains (id ∷ []) (node_id i) → (i ≡ id.0) ⊎ Contains old i
    from (inl before) = inr ((are i).1 before)
    from (inr (zero, low, e)) = inl (sym (ap (λ (n : NodeId). n.0) e))
    from (inr (suc j, low, e)) = absurd (omega arith)

pub nodes_more : (numbers : List ℕ) (n : ℕ) → map node_id (numbers ++ n ∷ []) ≡ map node_id numbers ++ node_id n ∷ []
nodes_more [] n = refl
nodes_more (m ∷ numbers) n = ap (λ (ns : List NodeId). node_id m ∷ ns) (nodes_more numbers n)

nodes_there : (numbers : List ℕ) (i : ℕ) → Contains numbers i → IsNodeIn (map node_id numbers) i
nodes_there [] i (k, low, e) = absurd (omega arith)
nodes_there (m ∷ numbers) i (zero, low, e) = (zero, omega arith, ap node_id e)
nodes_there (m ∷ numbers) i (suc k, low, e) = let rest = nodes_there numbers i (k, omega (arith, low), e) in (suc rest.0, omega (arith, rest.1), rest.2)

there_nodes : (numbers : List ℕ) (i : ℕ) → IsNodeIn (map node_id numbers) i → Contains numbers i
there_nodes [] i (k, low, e) = absurd (omega arith)
there_nodes (m ∷ numbers) i (zero, low, e) = (zero, omega arith, ap (λ (n : NodeId). n.0) e)
there_nodes (m ∷ numbers) i (suc k, low, e) = let rest = there_nodes numbers i (k, omega (arith, low), e) in (suc rest.0, omega (arith, rest.1), rest.2)

pub nodes_are : (ids left : List NodeId) (numbers : List ℕ) → AreNumbersOf ids numbers → left ≡ map node_id numbers → (i : ℕ) → IsNodeIn left i ↔ IsNodeIn ids i
nodes_are ids left numbers are is i = (
  λ there. (are i).0 (there_nodes numbers i (subst (λ (ns : List NodeId). IsNodeIn ns i) is there)),
  λ there. subst (λ (ns : List NodeId). IsNodeIn ns i) (sym is) (nodes_there numbers i ((are i).1 there)),
)
