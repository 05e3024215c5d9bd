-- What is told of the lines of a node stays true in a longer book.
--     arrow_stays, offers_stay, all_joined_stay, met_stays    what it tells of nodes and environments
--     told_stays              what it tells of a form
use Rattle.std.proofs.Common.{◌≡◌, ℕ, List, [], ◌∷◌, ◌++◌, Option, Some, None}
use Rattle.std.specs.FinMap as env
use Rattle.mls_book.specs.Schemes.{Env}
use Rattle.mls_book.specs.declared.book.Field.{Field}
use Rattle.mls_book.specs.declared.book.Node.{Node}
use Rattle.mls_book.specs.declared.book.Node.TheVariants as node
use Rattle.mls_book.specs.declared.book.NodeId.{NodeId}
use Rattle.mls_term.specs.declared.term.Part.{Part}
use Rattle.mls_term.specs.declared.term.TermForm.{TermForm}
use Rattle.mls_term.specs.declared.term.TermForm.TheVariants as form
use Rattle.mls_term.specs.Derivations.{IsMeet, IsMeetAt}
use Rattle.mls_deriv.specs.declared.derivation.BinderNode.{BinderNode}
use Rattle.mls_deriv.specs.declared.derivation.StepLine.{StepLine}
use Rattle.mls_deriv.specs.Steps.{env_of}
use Rattle.mls_layout.specs.Parts.{Constraint}
use Rattle.mls_layout.specs.Plans.{PlannedLine}
use Rattle.mls_layout.specs.Runs.{id}
use Rattle.mls_lines.specs.Conclusions.{Concluded, AreJoined, no_more, one_more}
use Rattle.mls_lines.specs.NodeLines.{Standing, NamesKnown, AreOffered, IsArrowOf, IsLeafWritten, IsWrittenAs}
use Rattle.mls_lines.proofs.GoingOn.{joined_stays}
use Rattle.mls_lines.proofs.JoinedEnvironments.{meet_stays}

module _ (book more : List Node) where
  meet_at_stays : (left right both : Option ℕ) → IsMeetAt book left right both → IsMeetAt (book ++ more) left right both
  meet_at_stays None right both it = it
  meet_at_stays (Some i) None both it = it
  meet_at_stays (Some i) (Some j) both (n, is, meet) = (n, is, meet_stays book more n (node.Meet (id i) (id j)) (λ no. absurd (cc)) meet)

  pub met_stays : (left right both : Env) → IsMeet book left right both → IsMeet (book ++ more) left right both
  met_stays left right both it x = meet_at_stays (env.get left x) (env.get right x) (env.get both x) (it x)

  pub all_joined_stay : (node_of : ℕ → ℕ) (d last : List BinderNode) (offered : List (List BinderNode)) → AreJoined node_of book d offered last → AreJoined node_of (book ++ more) d offered last
  all_joined_stay node_of d last offered no_more = no_more
  all_joined_stay node_of d last offered (one_more {e = e} {joined = joined} {rest = rest} joins later) =
      one_more (joined_stays node_of book more d e joined joins) (all_joined_stay node_of joined last rest later)

  module _ (c : Constraint) (at : Standing) (names : NamesKnown) (of : ℕ → Concluded) where
    pub arrow_stays : (s arrow : ℕ) (from to : NodeId) → IsArrowOf book c at names of s arrow from to → IsArrowOf (book ++ more) c at names of s arrow from to
    arrow_stays s arrow from to it = record { there = it.there; is = meet_stays book more arrow (node.Arrow from to) (λ no. absurd (cc)) it.is }

    leaf_stays : (leaf : Node) (i : ℕ) (steps : List StepLine) (plan : List PlannedLine) (own : Concluded) → (leaf ≡ node.Bot → ⊥) → IsLeafWritten book c at names of leaf i steps plan own
        → IsLeafWritten (book ++ more) c at names of leaf i steps plan own
    leaf_stays leaf i steps plan own other it =
        record { node = it.node; there = it.there; is = meet_stays book more it.node leaf other it.is; plan_is = it.plan_is; own_is = it.own_is }

    pub offers_stay : (fields : List Field) (parts : List Part) (offered : List (List BinderNode)) → AreOffered book c at names of fields parts offered → AreOffered (book ++ more) c at names of fields parts offered
    offers_stay fields [] [] it = tt
    offers_stay fields [] (d ∷ rest) it = it
    offers_stay fields (part ∷ parts) [] it = it
    offers_stay fields (part ∷ parts) (d ∷ rest) (one, others) = (one, offers_stay fields parts rest others)

    pub told_stays : (f : TermForm) (i : ℕ) (steps : List StepLine) (plan : List PlannedLine) (own : Concluded) → IsWrittenAs book c at names of f i steps plan own
        → IsWrittenAs (book ++ more) c at names of f i steps plan own
    told_stays (form.Bound x) i steps plan own it = it
    told_stays (form.Inner k) i steps plan own it = record { plan_is = it.plan_is; own_is = it.own_is }
    told_stays (form.Global g) i steps plan own it = record { plan_is = it.plan_is; own_is = it.own_is }
    told_stays (form.Number value) i steps plan own it = leaf_stays node.Int i steps plan own (λ no. absurd (cc)) it
    told_stays (form.Truth value) i steps plan own it = leaf_stays node.Bool i steps plan own (λ no. absurd (cc)) it
    told_stays (form.Fun x j) i steps plan own it = record {
      arrow = it.arrow;
      from = it.from;
      to = it.to;
      is = arrow_stays (at.root i) it.arrow it.from it.to it.is;
      offered = it.offered;
      inner = it.inner;
      outer = it.outer;
      offers = it.offers;
      with_binder = it.with_binder;
      without_binder = it.without_binder;
      lines = it.lines;
      number = it.number;
      brought = it.brought;
      plan_is = it.plan_is;
      own_is = it.own_is;
    }
    told_stays (form.Apply j k) i steps plan own it = record {
      goal = it.goal;
      result = it.result;
      arms = it.arms;
      is_goal = it.is_goal;
      flows = it.flows;
      arrow = it.arrow;
      from = it.from;
      to = it.to;
      is = arrow_stays it.goal it.arrow it.from it.to it.is;
      left = it.left;
      right = it.right;
      outer = it.outer;
      offers_left = it.offers_left;
      offers_right = it.offers_right;
      joins = joined_stays (λ x. at.place (at.binder x)) book more it.left it.right it.outer it.joins;
      lines = it.lines;
      more = it.more;
      first = it.first;
      second = it.second;
      brought_first = it.brought_first;
      brought_second = it.brought_second;
      plan_is = it.plan_is;
      own_is = it.own_is;
    }
    told_stays (form.Make parts) i steps plan own it = record {
      rcd = it.rcd;
      fields = it.fields;
      there = it.there;
      is = meet_stays book more it.rcd (node.Rcd it.fields) (λ no. absurd (cc)) it.is;
      offered = it.offered;
      offers = offers_stay it.fields parts it.offered it.offers;
      outer = it.outer;
      joins = all_joined_stay (λ x. at.place (at.binder x)) [] it.outer it.offered it.joins;
      lines = it.lines;
      numbers = it.numbers;
      brought = it.brought;
      plan_is = it.plan_is;
      own_is = it.own_is;
    }
    told_stays (form.Project j label) i steps plan own it = record {
      goal = it.goal;
      result = it.result;
      fields = it.fields;
      is_goal = it.is_goal;
      flows = it.flows;
      rcd = it.rcd;
      others = it.others;
      there = it.there;
      is = meet_stays book more it.rcd (node.Rcd it.others) (λ no. absurd (cc)) it.is;
      to = it.to;
      found = it.found;
      outer = it.outer;
      offers = it.offers;
      lines = it.lines;
      number = it.number;
      brought = it.brought;
      plan_is = it.plan_is;
      own_is = it.own_is;
    }
    told_stays (form.If j k l) i steps plan own it = record {
      bit = it.bit;
      result = it.result;
      truth = it.truth;
      there = it.there;
      is = meet_stays book more it.truth node.Bool (λ no. absurd (cc)) it.is;
      goal_first = it.goal_first;
      goal_second = it.goal_second;
      goal_third = it.goal_third;
      flows = it.flows;
      left = it.left;
      middle = it.middle;
      right = it.right;
      upper = it.upper;
      outer = it.outer;
      offers_left = it.offers_left;
      offers_middle = it.offers_middle;
      offers_right = it.offers_right;
      joins_upper = joined_stays (λ x. at.place (at.binder x)) book more it.left it.middle it.upper it.joins_upper;
      joins = joined_stays (λ x. at.place (at.binder x)) book more it.upper it.right it.outer it.joins;
      lines = it.lines;
      more = it.more;
      rest = it.rest;
      first = it.first;
      second = it.second;
      third = it.third;
      brought_first = it.brought_first;
      brought_second = it.brought_second;
      brought_third = it.brought_third;
      plan_is = it.plan_is;
      own_is = it.own_is;
    }
    told_stays (form.Let k j l) i steps plan own it = record {
      lines = it.lines;
      second = it.second;
      settles = it.settles;
      met = it.met;
      rising = it.rising;
      meets = met_stays (names.first k).env (env_of it.second.env) (env_of it.met) it.meets;
      more = it.more;
      puts = it.puts;
      apart = it.apart;
      plan_is = it.plan_is;
      own_is = it.own_is;
    }
    told_stays (form.Rec x j) i steps plan own it = record {
      offered = it.offered;
      inner = it.inner;
      outer = it.outer;
      offers = it.offers;
      with_binder = it.with_binder;
      without_binder = it.without_binder;
      lines = it.lines;
      number = it.number;
      brought = it.brought;
      plan_is = it.plan_is;
      own_is = it.own_is;
    }
