-- What is looked up for the lines of a part is found while a section is written.
--     no_firsts       no let is known at first
--     one_first       the first part of one let more
--     found_in        it stays found while lines are added
--     kept_firsts     and each known let has its first part
--     all_found       for the nodes of a part: the names have places and types, and the posing gave each use its copy
use Rattle.std.proofs.Common.{◌≡◌, ◌≢◌, ◌⊎◌, inl, inr, ℕ, ◌<◌, false, List, length, sym, ap, ◌∙◌, subst, Contains, Some, None}
use Rattle.std.specs.Prelude.{IsSome, is_some}
use Rattle.std.proofs.lemmas.Bool.{cases_eq}
use Rattle.std.specs.BTreeMap.{BTreeMap, IsEmpty, Updates, get, is_at}
use Rattle.std.specs.Map.{lookup}
use Rattle.std.specs.Ordering.{nat_cmp}
use Rattle.mls_automaton.specs.declared.scheme.Scheme.{Scheme}
use Rattle.mls_solver.specs.Relations.{IsGoal}
use Rattle.mls_term.specs.declared.term.TermForm.{TermForm}
use Rattle.mls_term.specs.declared.term.TermForm.TheVariants as form
use Rattle.mls_term.specs.declared.term.TermNode.{TermNode}
use Rattle.mls_deriv.specs.Steps.{form_at}
use Rattle.mls_layout.specs.PosedNodes.{IsNodePosed}
use Rattle.mls_parts.specs.declared.pose.KnownTypes.{KnownTypes}
use Rattle.mls_parts.specs.declared.pose.Posing.{Posing}
use Rattle.mls_parts.specs.declared.solve.Solution.{Solution}
use Rattle.mls_parts.specs.MetCopies.{IsUseMet}
use Rattle.mls_parts.specs.PosedGoals.{constraint_of, IsPosedAt}
use Rattle.mls_parts.specs.Posings.{binder_in, known_in, root_in}
use Rattle.mls_lines.specs.declared.known.FirstPart.{FirstPart}
use Rattle.mls_lines.specs.declared.known.GlobalAt.{GlobalAt}
use Rattle.mls_lines.specs.Found.{AreFound, HaveFirsts, IsFound}
use Rattle.mls_allowed.specs.MadeFirsts.{IsPartSolved}
use Rattle.mls_allowed.proofs.Updated.{updated_other, updated_own}
use Rattle.mls_emit.specs.declared.derive.section.Draft.{Draft}
use Rattle.mls_emit.specs.Drafts.{HavePlaces}

-- no let is known at first
pub no_firsts : (lets : BTreeMap ℕ Scheme) (firsts : BTreeMap ℕ FirstPart) → IsEmpty lets → HaveFirsts lets firsts
no_firsts lets firsts none k some =
    let empty : get nat_cmp lets k ≡ None = ap (lookup (is_at (nat_cmp k))) none in
    absurd (let wrong : is_some (get nat_cmp lets k) ≡ false = ap is_some empty in cc)

-- the first part of one let more
pub one_first : (lets later : BTreeMap ℕ Scheme) (firsts more : BTreeMap ℕ FirstPart) (k : ℕ) (type : Scheme) (part : FirstPart) → HaveFirsts lets firsts → Updates nat_cmp lets later k (Some type)
    → Updates nat_cmp firsts more k (Some part) → HaveFirsts later more
one_first lets later firsts more k type part have types parts j some = each (cases_eq j k)
  where
    each : (j ≡ k) ⊎ (j ≢ k) → IsSome (get nat_cmp more j)
    each (inl here) = subst (λ i. IsSome (get nat_cmp more i)) (sym here) (ap is_some (updated_own firsts more k part parts))
    each (inr apart) = ap is_some (updated_other firsts more k part parts j apart) ∙ have j (ap is_some (sym (updated_other lets later k type types j apart)) ∙ some)

-- while lines are added
module _ (old new : Draft) (known : new.known ≡ old.known) (firsts : new.firsts ≡ old.firsts) where
  pub found_in : new.globals ≡ old.globals → (nodes : List TermNode) (list : List ℕ) (p : Posing) → AreFound old.globals old.firsts old.known.lets p nodes list → AreFound new.globals new.firsts new.known.lets p nodes list
  found_in globals nodes list p have =
      subst (λ (globals : BTreeMap ℕ GlobalAt). AreFound globals new.firsts new.known.lets p nodes list) (sym globals)
      (subst (λ (firsts : BTreeMap ℕ FirstPart). AreFound old.globals firsts new.known.lets p nodes list) (sym firsts)
      (subst (λ (known : KnownTypes). AreFound old.globals old.firsts known.lets p nodes list) (sym known) have))

  pub kept_firsts : HaveFirsts old.known.lets old.firsts → HaveFirsts new.known.lets new.firsts
  kept_firsts have = subst (λ (known : KnownTypes). HaveFirsts known.lets new.firsts) (sym known) (subst (HaveFirsts old.known.lets) (sym firsts) have)

-- for the nodes of a part
pub all_found : (nodes : List TermNode) (globals : BTreeMap ℕ GlobalAt) (firsts : BTreeMap ℕ FirstPart) (known : KnownTypes) (list : List ℕ) (p : Posing) (solution : Solution) (around : List ℕ) → HavePlaces nodes globals (length nodes)
    → HaveFirsts known.lets firsts → ((i : ℕ) → Contains list i → i < length nodes) → IsPartSolved nodes known list p solution around → AreFound globals firsts known.lets p nodes list
all_found nodes globals firsts known list p solution around places have low solved i f there is = by_form f is (solved.posed.posed i f there is) (solved.posed.posed_at i f there is)
  where
    by_form : (f : TermForm) → form_at nodes i ≡ Some f
        → IsNodePosed p.automaton (IsGoal p.goals) (root_in p) (binder_in p) (IsUseMet (known_in known.globals) (known_in known.lets) p.automaton (root_in p) (binder_in p) p.copies) i f
        → IsPosedAt (constraint_of p) p f i → IsFound globals firsts known.lets p f i
    by_form (form.Bound x) e posed at = tt
    by_form (form.Inner k) e posed at = record {
      part = have k (ap is_some posed.1);
      type = ap is_some posed.1;
      copy = ap is_some posed.2.noted;
    }
    by_form (form.Global g) e posed at = record {
      place = places i g (low i there) e;
      copy = ap is_some posed.2.noted;
    }
    by_form (form.Number value) e posed at = tt
    by_form (form.Truth value) e posed at = tt
    by_form (form.Fun x j) e posed at = tt
    by_form (form.Apply j k) e posed at = tt
    by_form (form.Make parts) e posed at = tt
    by_form (form.Project j label) e posed at = tt
    by_form (form.If j k l) e posed at = ap is_some at.2
    by_form (form.Let k j l) e posed at = record {
      part = have k (ap is_some posed.1.1);
      type = ap is_some posed.1.1;
      copy = ap is_some posed.1.2.noted;
    }
    by_form (form.Rec x j) e posed at = tt
