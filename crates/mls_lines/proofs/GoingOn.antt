-- The writer of a part goes on: its book grows, lines are added, and what nodes conclude is taken.
--     concluded_before        what a node concludes it concluded before
--     goes_nowhere, goes_then, grown_on, brought_on, same_on  the writer goes on
--     found_kept, sound_grown, sound_added, sound_brought     it stays sound
--     offered_rising          what a node is offered rises
--     begins, brings_more, ends   lines that are added one after the other
--     brought_first, brought_at, step_own     what they tell
--     joined_stays            joined environments in a longer book
use Rattle.std.proofs.Common.{◌≡◌, inl, inr, ℕ, zero, suc, ◌<◌, List, [], ◌∷◌, ◌++◌, length, refl, sym, ap, ◌∙◌, subst, slice_get, append-nil, append_assoc, Option, Some, None}
use Rattle.std.specs.Prelude.{option_map}
use Rattle.std.specs.BTreeMap.{get}
use Rattle.std.specs.Ordering.{nat_cmp}
use Rattle.std.specs.FinMap as env
use Rattle.mls_book.specs.declared.book.Node.{Node}
use Rattle.mls_book.specs.declared.book.Node.TheVariants as node
use Rattle.mls_book.specs.Books.{IsClosedBook}
use Rattle.mls_book.specs.declared.book.NodeId.{NodeId}
use Rattle.mls_deriv.specs.declared.derivation.BinderNode.{BinderNode}
use Rattle.mls_deriv.specs.declared.derivation.StepLine.{StepLine}
use Rattle.mls_deriv.specs.Sections.{steps_of}
use Rattle.mls_deriv.specs.Steps.{env_of, IsRising}
use Rattle.mls_layout.specs.declared.layout.Places.{Places}
use Rattle.mls_layout.specs.Emitted.{asked_at}
use Rattle.mls_layout.specs.LaidOut.{place_of, IsLonger}
use Rattle.mls_layout.specs.Plans.{PlannedLine, a_step_with, planned_steps}
use Rattle.mls_lines.specs.declared.steps.Conclusion as conclusion
use Rattle.mls_lines.specs.declared.steps.Steps.{Steps}
use Rattle.mls_lines.specs.declared.writer.Concluded as written
use Rattle.mls_lines.specs.declared.writer.Concluded.TheVariants.{Step}
use Rattle.mls_lines.specs.declared.writer.Writer as state
use Rattle.mls_lines.specs.Conclusions.{Conclusion, Concluded, by_step, IsBrought, IsOffered, IsJoined, Replaces, ComesFrom}
use Rattle.mls_lines.specs.NodeLines.{by_rule}
use Rattle.mls_lines.specs.Stepping.{conclusion_of, AddsStep, Adds, AreCounted, Stands}
use Rattle.mls_lines.specs.Writer.{concluded_of, concluded_in, ConcludesNoMore, BringsNode, Grows}
use Rattle.mls_lines.specs.PlainLines.{AreConclusionsOf, HaveLowPlaces, IsSound, GoesOn, AddsLines}
use Rattle.mls_lines.proofs.Bringing.{adds_steps, adds_then, step_stands}
use Rattle.mls_lines.proofs.JoinedEnvironments.{meet_stays}
use Rattle.mls_lines.proofs.LowNodes.{below_longer, nodes_more}
use Rattle.mls_lines.proofs.Stepping.{step_adds}

pub concluded_before : (old new : state.Writer) → ConcludesNoMore old new → (i : ℕ) (own : Concluded) → concluded_in new i ≡ Some own → concluded_in old i ≡ Some own
concluded_before old new fewer i own known = by_now (get nat_cmp new.concluded i) refl known
  where
    by_now : (o : Option written.Concluded) → get nat_cmp new.concluded i ≡ o → option_map concluded_of o ≡ Some own → concluded_in old i ≡ Some own
    by_now None is known = absurd (cc)
    by_now (Some now) is known = ap (option_map concluded_of) (fewer i now is) ∙ known

-- the writer goes on
pub goes_nowhere : (w : state.Writer) → GoesOn w w
goes_nowhere w = record {
  more = [];
  book = sym (append-nil w.laid.book);
  closed = λ is. is;
  places = refl;
  own = refl;
  boolean = refl;
  integer = refl;
  fewer = λ i own known. known;
}

pub goes_then : (first second third : state.Writer) → GoesOn first second → GoesOn second third → GoesOn first third
goes_then first second third it later = record {
  more = it.more ++ later.more;
  book = later.book ∙ (ap (λ (l : List Node). l ++ later.more) it.book ∙ append_assoc first.laid.book it.more later.more);
  closed = λ is. later.closed (it.closed is);
  places = later.places ∙ it.places;
  own = later.own ∙ it.own;
  boolean = later.boolean ∙ it.boolean;
  integer = later.integer ∙ it.integer;
  fewer = λ i own known. it.fewer i own (later.fewer i own known);
}

pub grown_on : (old new : state.Writer) → Grows old new → GoesOn old new
grown_on old new it = record {
  more = it.more;
  book = it.book;
  closed = it.closed;
  places = it.places;
  own = it.own;
  boolean = it.boolean;
  integer = it.integer;
  fewer = λ i own known. sym (ap (λ m. get nat_cmp m i) it.concluded) ∙ known;
}

pub same_on : (old new : state.Writer) → new.laid ≡ old.laid → ConcludesNoMore old new → GoesOn old new
same_on old new laid fewer = record {
  more = [];
  book = (λ n. (laid n).book) ∙ sym (append-nil old.laid.book);
  closed = λ is. subst IsClosedBook (sym (λ n. (laid n).book)) is;
  places = λ n. (laid n).places;
  own = λ n. (laid n).own;
  boolean = λ n. (laid n).boolean;
  integer = λ n. (laid n).integer;
  fewer = fewer;
}

pub brought_on : (old new : state.Writer) (i : ℕ) (d : List BinderNode) (u : NodeId) (number : ℕ) → BringsNode old new i d u number → GoesOn old new
brought_on old new i d u number it = same_on old new it.laid it.fewer

-- it stays sound
pub found_kept : (steps more : List StepLine) (found : StepLine) (n : ℕ) → slice_get steps n ≡ Some found → slice_get (steps ++ more) n ≡ Some found
found_kept [] more found n e = absurd (cc)
found_kept (first ∷ steps) more found zero e = e
found_kept (first ∷ steps) more found (suc n) e = found_kept steps more found n e

pub stands_kept : (steps more : List StepLine) (c : conclusion.Conclusion) → Stands steps c → Stands (steps ++ more) c
stands_kept steps more c it = record { step = it.step; found = found_kept steps more it.step c.step it.found; env = it.env; root = it.root }

-- the nodes of states are nodes of a longer book
places_grown : (old new : state.Writer) → IsLonger old.laid.book new.laid.book → new.laid.places ≡ old.laid.places → HaveLowPlaces (length old.laid.book) old.laid.places
    → HaveLowPlaces (length new.laid.book) new.laid.places
places_grown old new longer same low = λ s.
    subst (λ (places : Places). place_of places s < length new.laid.book) (sym same) (below_longer old.laid.book new.laid.book (place_of old.laid.places s) longer (low s))

pub sound_grown : (old new : state.Writer) → Grows old new → IsSound old → IsSound new
sound_grown old new it sound = record {
  counted = subst AreCounted (sym it.steps) sound.counted;
  have = λ i c known. subst (λ (s : Steps). Stands (steps_of s.lines) c) (sym it.steps) (sound.have i c (sym (ap (λ m. get nat_cmp m i) it.concluded) ∙ known));
  rising = λ i c known. sound.rising i c (sym (ap (λ m. get nat_cmp m i) it.concluded) ∙ known);
  closed = it.closed sound.closed;
  places = places_grown old new (it.more, it.book) it.places sound.places;
  low = λ i c known. nodes_more (length old.laid.book) (length new.laid.book) (λ n. below_longer old.laid.book new.laid.book n (it.more, it.book)) c (sound.low i c (sym (ap (λ m. get nat_cmp m i) it.concluded) ∙ known));
}

pub sound_added : (book : List Node) (old new : state.Writer) (plan : List PlannedLine) → Adds book old.steps new.steps plan → GoesOn old new → IsSound old → IsSound new
sound_added book old new plan it goes sound = record {
  counted = it.counted;
  have =
      λ i c known.
      subst (λ (s : List StepLine). Stands s c) (sym (adds_steps book old.steps new.steps plan it))
      (stands_kept (steps_of old.steps.lines) (planned_steps plan) c (sound.have i c (goes.fewer i (Step c) known)));
  rising = λ i c known. sound.rising i c (goes.fewer i (Step c) known);
  closed = goes.closed sound.closed;
  places = places_grown old new (goes.more, goes.book) goes.places sound.places;
  low = λ i c known. nodes_more (length old.laid.book) (length new.laid.book) (λ n. below_longer old.laid.book new.laid.book n (goes.more, goes.book)) c (sound.low i c (goes.fewer i (Step c) known));
}

pub sound_brought : (old new : state.Writer) (i : ℕ) (d : List BinderNode) (u : NodeId) (number : ℕ) → BringsNode old new i d u number → IsSound old → IsSound new
sound_brought old new i d u number it sound = sound_added old.laid.book old new it.plan it.adds (brought_on old new i d u number it) sound

-- what a node is offered rises
pub offered_rising : (node_of : ℕ → ℕ) (c : Conclusion) (u : ℕ) (d : List BinderNode) → IsRising c.env → IsOffered node_of (by_step c) u d → IsRising d
offered_rising node_of c u d rising (inl (none, same)) = subst IsRising (sym same) rising
offered_rising node_of c u d rising (inr placed) = placed.rising

-- lines that are added one after the other
pub begins : (old now : state.Writer) → Grows old now → IsSound old → AddsLines old now []
begins old now it sound = record {
  goes_on = grown_on old now it;
  sound = sound_grown old now it sound;
  adds = record {
    more = [];
    lines = (λ n. (it.steps n).lines) ∙ sym (append-nil old.steps.lines);
    are = λ later. refl;
    no_lets = tt;
    counted = subst AreCounted (sym it.steps) sound.counted;
  };
}

pub brings_more : (old now new : state.Writer) (plan : List PlannedLine) (i : ℕ) (d : List BinderNode) (u : NodeId) (number : ℕ) → AddsLines old now plan
    → (it : BringsNode now new i d u number) → AddsLines old new (plan ++ it.plan)
brings_more old now new plan i d u number so_far it = record {
  goes_on = goes_then old now new so_far.goes_on (brought_on now new i d u number it);
  sound = sound_brought now new i d u number it so_far.sound;
  adds =
      subst (λ (book : List Node). Adds book old.steps new.steps (plan ++ it.plan)) (sym (λ n. (it.laid n).book))
      (adds_then now.laid.book old.steps now.steps new.steps plan it.plan so_far.adds it.adds);
}

module _ (old now new : state.Writer) (plan : List PlannedLine) (step : StepLine) (own : conclusion.Conclusion) (so_far : AddsLines old now plan) (it : AddsStep now.steps new.steps step own) where
  pub ends : asked_at (steps_of now.steps.lines) step ≡ [] → new.laid ≡ now.laid → new.concluded ≡ now.concluded → AddsLines old new (plan ++ a_step_with step [] ∷ [])
  ends none laid concluded =
      let fewer : ConcludesNoMore now new = λ i own known. sym (ap (λ m. get nat_cmp m i) concluded) ∙ known in
      let adds = step_adds now.laid.book now.steps new.steps step own none so_far.sound.counted it in
      record {
        goes_on = goes_then old now new so_far.goes_on (same_on now new laid fewer);
        sound = sound_added now.laid.book now new (a_step_with step [] ∷ []) adds (same_on now new laid fewer) so_far.sound;
        adds =
            subst (λ (book : List Node). Adds book old.steps new.steps (plan ++ a_step_with step [] ∷ [])) (sym (λ n. (laid n).book))
            (adds_then now.laid.book old.steps now.steps new.steps plan (a_step_with step [] ∷ []) so_far.adds adds);
      }

  pub step_own : conclusion_of own ≡ by_rule (length (steps_of old.steps.lines ++ planned_steps plan)) step
  step_own =
      let number : own.step ≡ length (steps_of old.steps.lines ++ planned_steps plan) =
      it.number ∙ (so_far.sound.counted ∙ ap (λ (l : List StepLine). length l) (adds_steps now.laid.book old.steps now.steps plan so_far.adds)) in
      λ n. record { number = number n; type = (it.root n).0; env = it.env n; puts = it.puts n }

  pub own_stands : Stands (steps_of new.steps.lines) own
  own_stands = step_stands now.steps new.steps step own so_far.sound.counted it

-- what they tell
module _ (old now new : state.Writer) (of : ℕ → Concluded) (agree : AreConclusionsOf old of) (i : ℕ) (d : List BinderNode) (u : NodeId) (number : ℕ) (it : BringsNode now new i d u number) where
  own_of : ConcludesNoMore old now → it.own ≡ of i
  own_of fewer = sym (agree i it.own (concluded_before old now fewer i it.own it.known))

  pub brought_first : Grows old now → IsBrought (of i) (length (steps_of old.steps.lines)) i d u.0 it.plan number
  brought_first grown =
      subst (λ (o : Concluded). IsBrought o (length (steps_of old.steps.lines)) i d u.0 it.plan number) (own_of (grown_on old now grown).fewer)
      (subst (λ (s : Steps). IsBrought it.own (length (steps_of s.lines)) i d u.0 it.plan number) grown.steps it.brought)

  pub brought_at : (plan : List PlannedLine) → AddsLines old now plan → IsBrought (of i) (length (steps_of old.steps.lines ++ planned_steps plan)) i d u.0 it.plan number
  brought_at plan so_far =
      subst (λ (o : Concluded). IsBrought o (length (steps_of old.steps.lines ++ planned_steps plan)) i d u.0 it.plan number) (own_of so_far.goes_on.fewer)
      (subst (λ (s : List StepLine). IsBrought it.own (length s) i d u.0 it.plan number) (adds_steps now.laid.book old.steps now.steps plan so_far.adds) it.brought)

-- joined environments in a longer book
pub joined_stays : (node_of : ℕ → ℕ) (book more : List Node) (d e joined : List BinderNode) → IsJoined node_of book d e joined → IsJoined node_of (book ++ more) d e joined
joined_stays node_of book more d e joined it = record {
  rising = it.rising;
  first = λ x m found. let (n, there, replaces) = it.first x m found in (n, there, replaces_stays x m n replaces);
  second = λ x m found. let (n, there, replaces) = it.second x m found in (n, there, replaces_stays x m n replaces);
  from = λ x n found. from_stays (env.get (env_of d) x) (env.get (env_of e) x) x n (it.from x n found);
}
  where
    replaces_stays : (x m n : ℕ) → Replaces node_of book x m n → Replaces node_of (book ++ more) x m n
    replaces_stays x m n (inl same) = inl same
    replaces_stays x m n (inr (inl same)) = inr (inl same)
    replaces_stays x m n (inr (inr (l, r, is, one))) = inr (inr (l, r, meet_stays book more n (node.Meet l r) (λ no. absurd (cc)) is, one))

    from_stays : (left right : Option ℕ) (x n : ℕ) → ComesFrom node_of book left right x n → ComesFrom node_of (book ++ more) left right x n
    from_stays left right x n (inl same) = inl same
    from_stays left right x n (inr (inl same)) = inr (inl same)
    from_stays left right x n (inr (inr (inl it))) = inr (inr (inl it))
    from_stays left right x n (inr (inr (inr (l, r, is, of_left, of_right)))) = inr (inr (inr (l, r, meet_stays book more n (node.Meet l r) (λ no. absurd (cc)) is, of_left, of_right)))
