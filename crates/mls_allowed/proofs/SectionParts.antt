-- While the parts of a section are written, the types of first parts become known, each made of its part.
--     first_made      the type of a first part was made of the part
--     adds_first      so it becomes known
--     come_added      what is known of lets when these parts have come
use Rattle.std.proofs.Common.{ℕ, ◌+◌, List, sym, subst}
use Rattle.std.specs.BTreeMap.{IsEmpty}
use Rattle.mls_automaton.specs.declared.scheme.Scheme.{Scheme}
use Rattle.mls_automaton.specs.Environments.{BindersRise}
use Rattle.mls_solver.specs.Relations.{IsGoal, IsRelated}
use Rattle.mls_solver.specs.Rooms.{Holds}
use Rattle.mls_solver.proofs.SolvedRooms.{solved-same}
use Rattle.mls_term.specs.declared.term.TermNode.{TermNode}
use Rattle.mls_typetext.specs.declared.scheme.ReadScheme.{ReadScheme}
use Rattle.mls_parts.specs.declared.pose.KnownTypes.{KnownTypes}
use Rattle.mls_parts.specs.declared.pose.Posing.{Posing}
use Rattle.mls_parts.specs.declared.solve.Solution.{Solution}
use Rattle.mls_parts.specs.declared.split.TermPart.{TermPart}
use Rattle.mls_parts.specs.PartUses.{KnowTypes}
use Rattle.mls_parts.specs.Posings.{root_in}
use Rattle.mls_parts.specs.TermParts.{IsTermPart}
use Rattle.mls_allowed.specs.MadeFirsts as added
use Rattle.mls_allowed.specs.MadeFirsts.{around_states, AddsFirst, AreAdded, IsFirstMade, IsFirstType, IsPartSolved}
use Rattle.mls_allowed.specs.SectionParts.{AddsFirstPart, HaveCome, SoFar, start, same, more, whole}

-- the type of a first part was made of the part
unfoldable pub first_made : (nodes : List TermNode) (known : KnownTypes) (r : ℕ) (part : TermPart) → IsTermPart nodes r part → KnowTypes known.globals known.lets nodes part.nodes → (posing : Posing) (solution : Solution) (around : List ℕ)
    → IsPartSolved nodes known part.nodes posing solution around → (own : Scheme) → IsFirstType solution.automaton (root_in posing r) (around_states posing around) own → BindersRise own.env → IsFirstMade nodes known.globals known.lets r own
first_made nodes known r part is_part know posing solution around it own type rise = record {
  part = part;
  is_part = is_part;
  know = know;
  binders = it.binders;
  are_binders = it.are_binders;
  posing = posing;
  posed = it.posed;
  solved = solution.automaton;
  is_solved = solved-same posing.automaton (Holds solution.found) (IsRelated posing.automaton (IsGoal posing.goals)) it.related solution.automaton it.solved;
  closed = it.closed;
  is = own_type.is;
  rise = rise;
  single = own_type.single;
  all = own_type.all;
  same = own_type.same;
  subsumes = own_type.subsumes;
  subsumed = own_type.subsumed;
}
  where
    own_type : IsFirstType solution.automaton (root_in posing r) (around_states posing it.binders.around) own
    own_type = subst (λ (xs : List ℕ). IsFirstType solution.automaton (root_in posing r) (around_states posing xs) own) it.is_around type

-- so it becomes known
pub adds_first : (nodes : List TermNode) (r : ℕ) (old new : SoFar) → AddsFirstPart nodes r old new → AddsFirst nodes r old.known new.known
adds_first nodes r old new it = record {
  node = it.node;
  number = it.number;
  second = it.second;
  is = it.is;
  scheme = it.type;
  made = first_made nodes old.known r it.part it.adds.is_part it.adds.know it.adds.posing it.adds.solution it.adds.around it.adds.solved it.type it.is_type it.rise;
  updates = it.lets;
  globals = it.types;
}

-- what is known of lets when these parts have come
pub come_added : (nodes : List TermNode) (read : ReadScheme) (begun : SoFar) → IsEmpty begun.known.lets → {r : ℕ} {now : SoFar} → HaveCome nodes read begun r now → AreAdded nodes r now.known
come_added nodes read begun empty start = added.start empty
come_added nodes read begun empty (same come none last) = added.same (come_added nodes read begun empty come) none
come_added nodes read begun empty (more {r = r} {old = old} {new = new} come adds) = added.more (come_added nodes read begun empty come) (adds_first nodes r old new adds)
come_added nodes read begun empty (whole {r = r} {old = old} come adds) =
    subst (AreAdded nodes (r + 1)) (sym adds.known) (added.same (come_added nodes read begun empty come) adds.no_first)
