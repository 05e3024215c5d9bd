use Rattle.std.proofs.Common.{◌≡◌, inl, inr, true, false, List, ℕ, All, get_or, map, refl, subst, sym}
use Rattle.mls_automaton.specs.Automata.{head_at, polarity_at}
use Rattle.mls_automaton.specs.Heads.{IsSameParts, combined, parts_of}
use Rattle.mls_solver.specs.Rooms.{Holds}
use Rattle.mls_biunify.proofs.SettledHeads.{members_there, solved_state}
use Rattle.mls_biunify.proofs.settlement.push_head.Goals as goal

pub is_alone-requires : goal.is_alone-requires
is_alone-requires c =
    subst (λ (xs : List ℕ). All (λ j. get_or c.args.table.now.there j false ≡ true) xs) (sym c.as_slice.ensures.members)
    (members_there c.args.table.now c.args.relation.now c.requires.states c.args.s.0 c.requires.there c.in_ok-members.members c.in_ok-members.ensures)

pub combined_head-requires : goal.combined_head-requires
combined_head-requires c =
    subst (λ (xs : List ℕ). All (λ j. get_or c.args.table.now.there j false ≡ true) xs) (sym c.as_slice-2.ensures.members)
    (members_there c.args.table.now c.args.relation.now c.requires.states c.args.s.0 c.requires.there c.in_ok-members.members c.in_ok-members.ensures)

pub returns-then-is_alone : goal.returns-then-is_alone
returns-then-is_alone c =
    let a = c.args.table.now.automaton in
    inl (
      refl,
      record {
        members = c.in_ok-members.members;
        are = c.in_ok-members.ensures;
        parts =
            subst (λ (xs : List ℕ). IsSameParts (parts_of (head_at a c.args.s.0)) (combined (polarity_at a c.args.s.0) (map (λ j. parts_of (head_at a j)) xs)))
            c.as_slice.ensures.members (c.is_alone.ensures c.if-is_alone.true (polarity_at a c.args.s.0));
      },
    )

pub returns : goal.returns
returns c =
    inr (
      c.in_ok-head.head,
      c.in_ok-push.ensures.items,
      solved_state c.args.table.now.automaton (Holds c.args.relation.now) c.args.s.0 c.polarity-polarity.result c.polarity-polarity.ensures.polarity c.in_ok-members.members c.in_ok-members.ensures c.as_slice-2.result.now c.as_slice-2.ensures.members
          c.in_ok-head.head c.in_ok-head.ensures.parts c.in_ok-head.ensures.labels,
    )
