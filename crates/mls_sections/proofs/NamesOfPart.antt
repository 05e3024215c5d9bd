-- What is known of names when the lines of a part are read: where the types of names of the environment stand, the first
-- parts of lets, and what is put in at each node.
--     names_of            it
--     first_said          the first part of a let
--     numbers_known       the numbers of first parts have them
--     are_names           it is what the section has of names
--     copy_at, copy_is    the copy of a state of a type, by the first state of the copy
--     edge_puts           a node for the variable of each edge
use Rattle.std.proofs.Common.{◌≡◌, ℕ, suc, ◌+◌, ◌<◌, ◌==◌, true, false, List, [], ◌∷◌, length, map, refl, sym, ap, ◌∙◌, subst, arith, Contains, slice_get, Option, Some, None}
use Rattle.std.specs.Prelude.{find}
use Rattle.std.proofs.lemmas.Bool.{eqb-true, eq-eqb}
use Rattle.std.specs.BTreeMap.{BTreeMap, get}
use Rattle.std.specs.FinMap as env
use Rattle.std.specs.Ordering.{nat_cmp}
use Rattle.mls_automaton.specs.declared.automaton.Flow.{Flow}
use Rattle.mls_automaton.specs.declared.scheme.EnvEntry.{EnvEntry}
use Rattle.mls_automaton.specs.declared.scheme.Scheme.{Scheme}
use Rattle.mls_automaton.specs.Automata.{Automaton}
use Rattle.mls_automaton.proofs.Lists.{Contains-map_back}
use Rattle.mls_term.specs.declared.term.TermNode.{TermNode}
use Rattle.mls_deriv.specs.declared.claim.Put.{Put}
use Rattle.mls_deriv.specs.declared.derivation.BinderNode.{BinderNode}
use Rattle.mls_deriv.specs.Steps.{env_of}
use Rattle.mls_layout.specs.Lets.{FirstPart}
use Rattle.mls_parts.specs.MetCopies.{IsCopyMet, IsOfNoBinder}
use Rattle.mls_lines.specs.declared.known.FirstPart as known
use Rattle.mls_lines.specs.declared.known.GlobalAt.{GlobalAt}
use Rattle.mls_lines.specs.NodeLines.{NamesKnown}
use Rattle.mls_lines.specs.PlainLines.{AreNamesOf}
use Rattle.mls_lines.specs.Puts.{ArePutsFrom, ArePutsOfEdges, IsPutOfEdge}
use Rattle.mls_sections.specs.KnownFirsts.{AreFirstsSaid, IsFirstSaid}
use Rattle.mls_sections.proofs.Found.{found_is, found_none, found_there}

-- what there is of a name, or nothing
unfoldable pub first_of : Option GlobalAt → ℕ
first_of None = 0
first_of (Some g) = g.first

unfoldable pub root_of : Option GlobalAt → ℕ
root_of None = 0
root_of (Some g) = g.root.0

unfoldable pub step_of : Option known.FirstPart → ℕ
step_of None = 0
step_of (Some part) = part.step

unfoldable pub binders_of : Option known.FirstPart → List BinderNode
binders_of None = []
binders_of (Some part) = part.env

unfoldable pub said_of : Option FirstPart → FirstPart
said_of None = record { number = 0; part = 0; env = env.empty; type = 0 }
said_of (Some first) = first

-- the first part of a let among these
unfoldable pub first_among : List FirstPart → ℕ → FirstPart
first_among said k = said_of (find (λ (first : FirstPart). first.number == k) said)

unfoldable pub names_of : BTreeMap ℕ GlobalAt → BTreeMap ℕ known.FirstPart → List FirstPart → (puts : ℕ → List Put) → NamesKnown
names_of globals firsts said puts = record {
  from = λ g. first_of (get nat_cmp globals g);
  type = λ g. root_of (get nat_cmp globals g);
  first = first_among said;
  step = λ k. step_of (get nat_cmp firsts k);
  binders = λ k. binders_of (get nat_cmp firsts k);
  puts = puts;
}

module _ (nodes : List TermNode) (globals : BTreeMap ℕ GlobalAt) (firsts : BTreeMap ℕ known.FirstPart) (lines : List (ℕ × ℕ)) (said : List FirstPart) (are : AreFirstsSaid nodes firsts lines said) where
  -- the first part of a let whose part is known
  pub first_said : (k : ℕ) (part : known.FirstPart) → get nat_cmp firsts k ≡ Some part → Contains said (first_among said k) × ((first_among said k).number ≡ k)
  unfolding first_among said_of
  first_said k part there =
      let it = are.all k part there in
      let found = found_there (λ (first : FirstPart). first.number == k) said it.0 it.1 (eq-eqb it.0.number k it.2) in
      let is = found_is (λ (first : FirstPart). first.number == k) said found.0 found.1 in
      let same : first_among said k ≡ found.0 = ap said_of found.1 in
      (subst (Contains said) (sym same) is.0, ap (λ (first : FirstPart). first.number) same ∙ eqb-true found.0.number k is.1)

  -- as it was said
  module _ (k : ℕ) (part : known.FirstPart) (there : get nat_cmp firsts k ≡ Some part) where
    pub said_is : IsFirstSaid nodes firsts lines (first_among said k)
    said_is = are.each (first_among said k) (first_said k part there).0

    pub same_part : said_is.part ≡ part
    unfolding said_is
    same_part =
        let at : get nat_cmp firsts k ≡ Some said_is.part = subst (λ n. get nat_cmp firsts n ≡ Some said_is.part) (first_said k part there).1 said_is.there in
        let both : Some said_is.part ≡ Some part = sym at ∙ there in
        cc

    pub first_env : (first_among said k).env ≡ env_of part.env
    first_env = said_is.env ∙ ap (λ (p : known.FirstPart). env_of p.env) same_part

    pub first_type : (first_among said k).type ≡ part.root.0
    first_type = said_is.type ∙ ap (λ (p : known.FirstPart). p.root.0) same_part

    pub first_step : env.find nat_cmp k lines ≡ Some part.step
    first_step = subst (λ n. env.find nat_cmp n lines ≡ Some part.step) (first_said k part there).1 (said_is.said ∙ ap (λ (p : known.FirstPart). Some p.step) same_part)

  -- the numbers of first parts have them
  pub numbers_known : (puts : ℕ → List Put) (k : ℕ) → Contains (map (λ (first : FirstPart). first.number) said) k
      → Contains said ((names_of globals firsts said puts).first k) × (((names_of globals firsts said puts).first k).number ≡ k) × (env.find nat_cmp k lines ≡ Some ((names_of globals firsts said puts).step k))
  unfolding names_of step_of
  numbers_known puts k there =
      let (first, is_in, same) = Contains-map_back (λ (f : FirstPart). f.number) said k there in
      let it = are.each first is_in in
      let at : get nat_cmp firsts k ≡ Some it.part = subst (λ n. get nat_cmp firsts n ≡ Some it.part) same it.there in
      let known = first_said k it.part at in
      (known.0, known.1, first_step k it.part at ∙ ap Some (sym (ap step_of at)))

  pub are_names : (puts : ℕ → List Put) → AreNamesOf globals firsts (names_of globals firsts said puts)
  unfolding names_of first_of root_of step_of binders_of
  are_names puts = record {
    from = λ g known there. ap first_of there;
    type = λ g known there. ap root_of there;
    step = λ k part there. ap step_of there;
    binders = λ k part there. ap binders_of there;
    first_env = first_env;
    first_type = first_type;
  }

-- the copy of a state of a type: that of its binder, or one behind the first state of the copy
entry_copy : (binder : ℕ → ℕ) (first s : ℕ) → Option EnvEntry → ℕ
entry_copy binder first s None = first + s
entry_copy binder first s (Some entry) = binder entry.binder

pub copy_at : (binder : ℕ → ℕ) → Scheme → (first s : ℕ) → ℕ
copy_at binder known first s = entry_copy binder first s (find (λ (entry : EnvEntry). entry.state.0 == s) known.env)

-- numbers that are not the same
unlike : (n s : ℕ) → (n == s) ≡ false → n ≡ s → ⊥
unlike n s e same = absurd (let equal : (n == s) ≡ true = eq-eqb n s same in cc)

pub copy_is : (a : Automaton) (binder : ℕ → ℕ) (known : Scheme) (copy : ℕ → ℕ) → IsCopyMet a binder known copy → (first : ℕ) → ((k : ℕ) → k < length known.automaton.states → IsOfNoBinder known k → copy k ≡ first + k)
    → (s : ℕ) → s < length known.automaton.states → copy s ≡ copy_at binder known first s
unfolding copy_at entry_copy
copy_is a binder known copy met first stands s low = go (find (λ (entry : EnvEntry). entry.state.0 == s) known.env) refl
  where
    go : (o : Option EnvEntry) → find (λ (entry : EnvEntry). entry.state.0 == s) known.env ≡ o → copy s ≡ entry_copy binder first s (find (λ (entry : EnvEntry). entry.state.0 == s) known.env)
    go None none =
        stands s low (λ entry there at. unlike entry.state.0 s (found_none (λ (e : EnvEntry). e.state.0 == s) known.env none entry there) at)
        ∙ sym (ap (entry_copy binder first s) none)
    go (Some entry) some =
        let is = found_is (λ (e : EnvEntry). e.state.0 == s) known.env entry some in
        sym (ap copy (eqb-true entry.state.0 s is.1)) ∙ (met.bound entry is.0 ∙ sym (ap (entry_copy binder first s) some))

-- a node for the variable of each edge, from this variable on
pub edge_puts : (node : ℕ → ℕ) → (variable : ℕ) → List Flow → List Put
edge_puts node variable [] = []
edge_puts node variable (edge ∷ edges) = record { variable = variable; node = node edge.negative.0 } ∷ edge_puts node (suc variable) edges

edge_count : (node : ℕ → ℕ) (variable : ℕ) (edges : List Flow) → length (edge_puts node variable edges) ≡ length edges
unfolding edge_puts
edge_count node variable [] = refl
edge_count node variable (edge ∷ edges) = ap suc (edge_count node (suc variable) edges)

edges_hold : (node : ℕ → ℕ) (all : List Flow) (first n : ℕ) (edges : List Flow) → ((i : ℕ) → slice_get edges i ≡ slice_get all (n + i))
    → ArePutsFrom (IsPutOfEdge (λ s m. m ≡ node s) all first) (first + n) (edge_puts node (first + n) edges)
unfolding edge_puts
edges_hold node all first n [] stand = tt
edges_hold node all first n (edge ∷ edges) stand = (
  refl,
  (n, edge, sym (stand 0 ∙ ap (slice_get all) (omega arith)), refl, refl),
  subst (λ x. ArePutsFrom (IsPutOfEdge (λ s m. m ≡ node s) all first) x (edge_puts node x edges)) {y = suc (first + n)} (omega arith)
      (edges_hold node all first (suc n) edges (λ i. stand (suc i) ∙ ap (slice_get all) (omega arith))),
)

pub edges_put : (node : ℕ → ℕ) (first : ℕ) (edges : List Flow) → ArePutsOfEdges (λ s m. m ≡ node s) edges first (edge_puts node first edges)
edges_put node first edges = record {
  count = edge_count node first edges;
  each =
      subst (λ x. ArePutsFrom (IsPutOfEdge (λ s m. m ≡ node s) edges first) x (edge_puts node x edges)) {y = first} (omega arith)
      (edges_hold node edges first 0 edges (λ i. ap (slice_get edges) (omega arith)));
}
