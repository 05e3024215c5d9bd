use Rattle.std.proofs.Common.{◌≡◌, ◌↔◌, ℕ, List, Bool, All, true, false, Contains, get_or, sym, subst}
use Rattle.mls_automaton.specs.declared.state_set.StateId.{StateId}
use Rattle.mls_automaton.specs.Automata.{HasFlow}
use Rattle.mls_biunify.specs.Live.{IsReachedFrom}
use Rattle.mls_biunify.specs.steps.Keeping.{AreShortened, EmptiesHeads, StaysAmong}
use Rattle.mls_biunify.specs.steps.Tables.{CutsEdges}
use Rattle.mls_biunify.specs.steps.TwoWay.{AreCuts}
use Rattle.mls_biunify.proofs.KeptTables.{cuts-of, found-there, gone-loose, keeps-rest, roots-of, unfound-closed, unfound-here, unfound-stays, unfound-there}
use Rattle.mls_biunify.proofs.keep.keep_among.Goals as goal

pub mark_reached-requires : goal.mark_reached-requires
mark_reached-requires c = roots-of c.args.table.now c.args.states.now c.requires.states c.args.roots.now c.requires.roots

pub returns-clause-kept : goal.returns-clause-kept
returns-clause-kept c =
    subst (λ (xs : List ℕ). (s : ℕ) → Contains xs s ↔ IsReachedFrom c.args.table.now.automaton c.args.roots.now s) (sym c.in_ok-kept.ensures) c.in_ok-mark_reached.ensures

pub cuts_after-requires : goal.cuts_after-requires
cuts_after-requires c =
    subst (All (λ (s : StateId). get_or c.args.table.now.there s.0 false ≡ true)) (sym c.as_slice.ensures.value)
    (found-there c.args.table.now c.limit-limit.ensures.is c.args.states.now c.requires.states c.args.roots.now c.requires.roots c.requires.heads c.mark_reached.new.search.found c.in_ok-mark_reached.ensures c.in_ok-gone.gone.items c.in_ok-gone.ensures c.in_ok-kept.kept.items c.in_ok-kept.ensures)

pub cuts_before-requires : goal.cuts_before-requires
cuts_before-requires c =
    subst (All (λ (s : StateId). get_or c.args.table.now.there s.0 false ≡ true)) (sym c.as_slice-2.ensures.value)
    (found-there c.args.table.now c.limit-limit.ensures.is c.args.states.now c.requires.states c.args.roots.now c.requires.roots c.requires.heads c.mark_reached.new.search.found c.in_ok-mark_reached.ensures c.in_ok-gone.gone.items c.in_ok-gone.ensures c.in_ok-kept.kept.items c.in_ok-kept.ensures)

pub cut-requires-clause-there : goal.cut-requires-clause-there
cut-requires-clause-there c = subst (All (λ s. get_or c.args.table.now.there s false ≡ true)) (sym c.as_slice-3.ensures.value) (unfound-there c.args.table.now c.args.states.now c.requires.states c.args.roots.now c.requires.heads c.mark_reached.new.search.found c.in_ok-mark_reached.ensures c.in_ok-gone.gone.items c.in_ok-gone.ensures)

pub cut-requires-clause-after : goal.cut-requires-clause-after
cut-requires-clause-after c =
    subst (λ (xs : List ℕ). AreCuts xs c.args.table.now.limit (HasFlow c.args.table.now.automaton) c.in_ok-after.after.items) (sym c.as_slice-3.ensures.value)
    (cuts-of c.args.table.now c.limit-limit.ensures.is c.args.states.now c.requires.states c.args.roots.now c.requires.roots c.requires.heads c.mark_reached.new.search.found c.in_ok-mark_reached.ensures c.in_ok-gone.gone.items c.in_ok-gone.ensures (HasFlow c.args.table.now.automaton) c.requires.flows c.in_ok-kept.kept.items c.in_ok-after.after.items c.in_ok-kept.ensures
    (subst (λ (xs : List StateId). AreShortened (HasFlow c.args.table.now.automaton) c.mark_reached.new.search.found xs c.in_ok-after.after.items) c.as_slice.ensures.value c.in_ok-after.ensures))

pub cut-requires-clause-before : goal.cut-requires-clause-before
cut-requires-clause-before c =
    subst (λ (xs : List ℕ). AreCuts xs c.args.table.now.limit (λ p n. HasFlow c.args.table.now.automaton n p) c.in_ok-before.before.items) (sym c.as_slice-3.ensures.value)
    (cuts-of c.args.table.now c.limit-limit.ensures.is c.args.states.now c.requires.states c.args.roots.now c.requires.roots c.requires.heads c.mark_reached.new.search.found c.in_ok-mark_reached.ensures c.in_ok-gone.gone.items c.in_ok-gone.ensures (λ p n. HasFlow c.args.table.now.automaton n p) (λ p n edge. let both = c.requires.flows n p edge in (both.1, both.0)) c.in_ok-kept.kept.items c.in_ok-before.before.items c.in_ok-kept.ensures
    (subst (λ (xs : List StateId). AreShortened (λ p n. HasFlow c.args.table.now.automaton n p) c.mark_reached.new.search.found xs c.in_ok-before.before.items) c.as_slice-2.ensures.value c.in_ok-before.ensures))

pub empty_heads-requires : goal.empty_heads-requires
empty_heads-requires c =
    subst (λ (bits : List Bool). All (λ s. get_or bits s false ≡ true) c.as_slice-4.result.now) (sym c.cut.ensures.cuts.there)
    (subst (All (λ s. get_or c.args.table.now.there s false ≡ true)) (sym c.as_slice-4.ensures.value) (unfound-there c.args.table.now c.args.states.now c.requires.states c.args.roots.now c.requires.heads c.mark_reached.new.search.found c.in_ok-mark_reached.ensures c.in_ok-gone.gone.items c.in_ok-gone.ensures))

pub remove_all-requires : goal.remove_all-requires
remove_all-requires c =
    gone-loose c.args.table.now c.limit-limit.ensures.is c.in_ok-gone.gone.items (unfound-here c.args.table.now c.args.states.now c.requires.states c.args.roots.now c.requires.heads c.mark_reached.new.search.found c.in_ok-mark_reached.ensures c.in_ok-gone.gone.items c.in_ok-gone.ensures) (unfound-closed c.args.table.now c.args.states.now c.requires.states c.args.roots.now c.requires.heads c.mark_reached.new.search.found c.in_ok-mark_reached.ensures c.in_ok-gone.gone.items c.in_ok-gone.ensures) c.cut.new.self c.empty_heads.new.table
    (subst (λ (xs : List ℕ). CutsEdges c.args.table.now xs c.cut.new.self) c.as_slice-3.ensures.value c.cut.ensures.cuts)
    (subst (λ (xs : List ℕ). EmptiesHeads c.cut.new.self xs c.empty_heads.new.table) c.as_slice-4.ensures.value c.empty_heads.ensures)

pub returns-clause-ok : goal.returns-clause-ok
returns-clause-ok c =
    keeps-rest c.args.table.now c.limit-limit.ensures.is c.in_ok-gone.gone.items (unfound-here c.args.table.now c.args.states.now c.requires.states c.args.roots.now c.requires.heads c.mark_reached.new.search.found c.in_ok-mark_reached.ensures c.in_ok-gone.gone.items c.in_ok-gone.ensures) (unfound-closed c.args.table.now c.args.states.now c.requires.states c.args.roots.now c.requires.heads c.mark_reached.new.search.found c.in_ok-mark_reached.ensures c.in_ok-gone.gone.items c.in_ok-gone.ensures) c.cut.new.self c.empty_heads.new.table
    (subst (λ (xs : List ℕ). CutsEdges c.args.table.now xs c.cut.new.self) c.as_slice-3.ensures.value c.cut.ensures.cuts)
    (subst (λ (xs : List ℕ). EmptiesHeads c.cut.new.self xs c.empty_heads.new.table) c.as_slice-4.ensures.value c.empty_heads.ensures)
    c.remove_all.new.table c.remove_all.ensures.removes (StaysAmong c.args.table.now c.args.states.now c.args.roots.now) (unfound-stays c.args.table.now c.args.states.now c.requires.states c.args.roots.now c.requires.heads c.mark_reached.new.search.found c.in_ok-mark_reached.ensures c.in_ok-gone.gone.items c.in_ok-gone.ensures)
