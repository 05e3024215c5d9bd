use Rattle.std.proofs.Common.{◌≡◌, ◌∙◌, ◌<◌, ◌≤◌, ℕ, List, length, ap, subst, sym, arith}
use Rattle.std.proofs.lemmas.Result.{on_ok_weaker}
use Rattle.std.specs.Prelude.{Contains}
use Rattle.mls_automaton.specs.Sets.{Rises}
use Rattle.mls_parts.specs.declared.pose.KnownTypes.{KnownTypes}
use Rattle.mls_parts.specs.PartUses.{KnowTypes}
use Rattle.mls_parts.specs.PosedParts.{IsPartList}
use Rattle.mls_parts.specs.Posings.{root_in}
use Rattle.mls_parts.proofs.SplitParts.{part_list}
use Rattle.mls_allowed.specs.MadeFirsts.{around_states, IsFirstType, IsPartSolved}
use Rattle.mls_allowed.proofs.SectionParts.{first_made}
use Rattle.mls_emit.specs.Drafts.{KnowsBefore}
use Rattle.mls_emit.specs.PlainSections.{so_far, NamesFirst}
use Rattle.mls_emit.specs.declared.derive.section.Draft.{Draft}
use Rattle.mls_emit.specs.declared.derive.Way.TheVariants.{Plain}
use Rattle.mls_emit.proofs.AddedParts.{adds_first_part, adds_whole, has_nodes, last_root}
use Rattle.mls_emit.proofs.KnownNames.{before_more, before_same, know_types}
use Rattle.mls_solver.proofs.Answered.{always_ok}
use Rattle.mls_layout.specs.LaidOut.{IsLonger}
use Rattle.mls_lines.proofs.Growing.{longer_then}
use Rattle.mls_emit.proofs.FoundNames.{all_found, found_in, kept_firsts, one_first}
use Rattle.mls_emit.proofs.derive.section.Draft.add_part.Goals as goal

-- `parts_of` gives the nodes of a part in order
pub solved-requires-clause-list : goal.solved-requires-clause-list
solved-requires-clause-list c =
    subst (λ (xs : List ℕ). IsPartList c.args.nodes.now xs) (sym c.as_slice-list.ensures)
    (part_list c.args.nodes.now c.requires.term.tree c.args.root c.args.part.now c.requires.part)

pub solved-requires-clause-known : goal.solved-requires-clause-known
solved-requires-clause-known c =
    subst (λ (xs : List ℕ). KnowTypes c.args.self.now.known.globals c.args.self.now.known.lets c.args.nodes.now xs) (sym c.as_slice-list.ensures)
    (know_types c.args.nodes.now c.requires.term c.args.self.now.known c.args.root c.requires.known c.args.part.now c.requires.part)

pub add_lines-requires-clause-closed : goal.add_lines-requires-clause-closed
add_lines-requires-clause-closed c = c.in_ok-solved.ensures.posed.closed

pub add_lines-requires-clause-related : goal.add_lines-requires-clause-related
add_lines-requires-clause-related c = c.in_ok-solved.ensures.states

pub add_lines-requires-clause-rises : goal.add_lines-requires-clause-rises
add_lines-requires-clause-rises c = subst Rises (sym c.in_ok-solved.ensures.is_around) c.in_ok-solved.ensures.are_binders.around_rise

-- a part has its root, and the places of its type are nodes of the book
pub add_lines-requires-clause-list : goal.add_lines-requires-clause-list
add_lines-requires-clause-list c = subst (λ (xs : List ℕ). 0 < length xs) (sym c.as_slice-list.ensures) (has_nodes c.args.nodes.now c.args.root c.args.part.now c.requires.part)

pub add_lines-requires-clause-places : goal.add_lines-requires-clause-places
add_lines-requires-clause-places c = c.in_ok-at.ensures.places

-- what is looked up for the nodes of the part is found
pub add_lines-requires-clause-found : goal.add_lines-requires-clause-found
add_lines-requires-clause-found c =
    let old = c.args.self.now in
    let own = c.in_ok-solved.solved in
    let kept = c.type_of.ensures.kept in
    found_in old c.type_of.new.self (ap (λ (d : Draft). d.known) kept) (ap (λ (d : Draft). d.firsts) kept) (ap (λ (d : Draft). d.globals) kept) c.args.nodes.now c.as_slice-list.result.now own.posing
    (all_found c.args.nodes.now old.globals old.firsts old.known c.as_slice-list.result.now own.posing own.solution own.around c.requires.places c.requires.firsts
    (λ i there. (c.requires.part.only i (subst (λ (xs : List ℕ). Contains xs i) c.as_slice-list.ensures there)).0) c.in_ok-solved.ensures)

-- each let that is known has its first part
pub returns-in-Some-clause-firsts : goal.returns-in-Some-clause-firsts
returns-in-Some-clause-firsts c =
    let old = c.args.self.now in
    let made = c.type_of.new.self in
    let wrote = c.add_lines.new.self in
    let new = c.add_first.new.self in
    let at = c.in_ok-at.at in
    let typed = c.type_of.ensures.kept in
    let written = c.add_lines.ensures.kept in
    let have =
    kept_firsts old wrote ((ap (λ (d : Draft). d.known) written) ∙ (ap (λ (d : Draft). d.known) typed)) ((ap (λ (d : Draft). d.firsts) written) ∙ (ap (λ (d : Draft). d.firsts) typed)) c.requires.firsts in
    on_ok_weaker c.add_first.result
    (λ (names : NamesFirst (so_far wrote) (so_far new) c.in-Some.k c.in_ok-step.step old.variable at.scheme at.places).
    one_first wrote.known.lets new.known.lets wrote.firsts new.firsts c.in-Some.k at.scheme _ have names.knows.updates names.firsts)
    c.add_first.ensures.first

pub returns-in-None-clause-firsts : goal.returns-in-None-clause-firsts
returns-in-None-clause-firsts c =
    let typed = c.type_of.ensures.kept in
    let written = c.add_lines.ensures.kept in
    kept_firsts c.args.self.now c.add_lines.new.self ((ap (λ (d : Draft). d.known) written) ∙ (ap (λ (d : Draft). d.known) typed)) ((ap (λ (d : Draft). d.firsts) written) ∙ (ap (λ (d : Draft). d.firsts) typed)) c.requires.firsts

-- the type of a first part is known now
pub returns-in-Some-clause-known : goal.returns-in-Some-clause-known
returns-in-Some-clause-known c =
    let path : c.add_lines.new.self.known ≡ c.args.self.now.known = (ap (λ (d : Draft). d.known) c.add_lines.ensures.kept) ∙ (ap (λ (d : Draft). d.known) c.type_of.ensures.kept) in
    let before : KnowsBefore c.args.nodes.now c.add_lines.new.self.known c.args.root = subst (λ (known : KnownTypes). KnowsBefore c.args.nodes.now known c.args.root) (sym path) c.requires.known in
    let first = c.requires.part.of_let c.in-Some.k c.in-Some.is in
    let posing = c.in_ok-solved.solved.posing in
    let solution = c.in_ok-solved.solved.solution in
    let around : List ℕ = c.in_ok-solved.solved.around in
    let solved : IsPartSolved c.args.nodes.now c.add_lines.new.self.known c.args.part.now.nodes posing solution around =
    subst (λ (known : KnownTypes). IsPartSolved c.args.nodes.now known c.args.part.now.nodes posing solution around) (sym path)
    (subst (λ (xs : List ℕ). IsPartSolved c.args.nodes.now c.args.self.now.known xs posing solution around) c.as_slice-list.ensures c.in_ok-solved.ensures) in
    let type : IsFirstType c.in_ok-solved.solved.solution.automaton (root_in c.in_ok-solved.solved.posing c.args.root) (around_states c.in_ok-solved.solved.posing c.in_ok-solved.solved.around) c.in_ok-at.at.scheme =
    subst (λ (root : ℕ). IsFirstType c.in_ok-solved.solved.solution.automaton root (around_states c.in_ok-solved.solved.posing c.in_ok-solved.solved.around) c.in_ok-at.at.scheme) c.root-state.ensures
    (c.in_ok-at.ensures.first c.in-Some.k c.in-Some.is) in
    on_ok_weaker c.add_first.result
    (λ (names : NamesFirst (so_far c.add_lines.new.self) (so_far c.add_first.new.self) c.in-Some.k c.in_ok-step.step c.args.self.now.variable c.in_ok-at.at.scheme c.in_ok-at.at.places).
    before_more c.args.nodes.now c.args.root c.requires.term.tree c.add_lines.new.self.known c.add_first.new.self.known c.in-Some.k before c.add_first.ensures.types first.0 first.1 first.2 c.in_ok-at.at.scheme names.knows
    (first_made c.args.nodes.now c.add_lines.new.self.known c.args.root c.args.part.now c.requires.part (know_types c.args.nodes.now c.requires.term c.add_lines.new.self.known c.args.root before c.args.part.now c.requires.part) posing solution around solved
    c.in_ok-at.at.scheme type names.knows.rise))
    c.add_first.ensures.first

pub returns-in-None-clause-known : goal.returns-in-None-clause-known
returns-in-None-clause-known c =
    before_same c.args.nodes.now c.args.root c.args.self.now.known c.add_lines.new.self.known ((ap (λ (d : Draft). d.known) c.add_lines.ensures.kept) ∙ (ap (λ (d : Draft). d.known) c.type_of.ensures.kept)) c.requires.known (c.requires.part.of_none c.in-None.is)

-- the book is longer
pub returns-in-Some-clause-longer : goal.returns-in-Some-clause-longer
returns-in-Some-clause-longer c =
    always_ok c.add_first.result (IsLonger c.args.self.now.book c.add_first.new.self.book)
    (subst (IsLonger c.args.self.now.book) (sym (ap (λ (d : Draft). d.book) c.add_first.ensures.kept))
    (longer_then c.args.self.now.book c.type_of.new.self.book c.add_lines.new.self.book c.in_ok-at.ensures.longer c.in_ok-step.ensures.longer))

pub returns-in-None-clause-longer : goal.returns-in-None-clause-longer
returns-in-None-clause-longer c = longer_then c.args.self.now.book c.type_of.new.self.book c.add_lines.new.self.book c.in_ok-at.ensures.longer c.in_ok-step.ensures.longer

-- the next variable is no less
pub returns-in-Some-clause-variable : goal.returns-in-Some-clause-variable
returns-in-Some-clause-variable c =
    let first : c.args.self.now.variable ≤ c.type_of.new.self.variable = c.in_ok-at.ensures.variable in
    let second : c.add_lines.new.self.variable ≡ c.type_of.new.self.variable = ap (λ (d : Draft). d.variable) c.add_lines.ensures.kept in
    let third : c.add_first.new.self.variable ≡ c.add_lines.new.self.variable = ap (λ (d : Draft). d.variable) c.add_first.ensures.kept in
    always_ok c.add_first.result (c.args.self.now.variable ≤ c.add_first.new.self.variable) (omega (arith, first, second, third))

pub returns-in-None-clause-variable : goal.returns-in-None-clause-variable
returns-in-None-clause-variable c =
    let first : c.args.self.now.variable ≤ c.type_of.new.self.variable = c.in_ok-at.ensures.variable in
    let second : c.add_lines.new.self.variable ≡ c.type_of.new.self.variable = ap (λ (d : Draft). d.variable) c.add_lines.ensures.kept in
    omega (arith, first, second)

-- the way stays
pub returns-in-Some-clause-way : goal.returns-in-Some-clause-way
returns-in-Some-clause-way c = (ap (λ (d : Draft). d.way) c.add_first.ensures.kept) ∙ ((ap (λ (d : Draft). d.way) c.add_lines.ensures.kept) ∙ (ap (λ (d : Draft). d.way) c.type_of.ensures.kept))

pub returns-in-None-clause-way : goal.returns-in-None-clause-way
returns-in-None-clause-way c = (ap (λ (d : Draft). d.way) c.add_lines.ensures.kept) ∙ (ap (λ (d : Draft). d.way) c.type_of.ensures.kept)

-- the first part of a let
pub returns-in-Some-clause-first : goal.returns-in-Some-clause-first
returns-in-Some-clause-first c = λ k way is.
    let old = c.args.self.now in
    let made = c.type_of.new.self in
    let wrote = c.add_lines.new.self in
    let new = c.add_first.new.self in
    let nodes = c.args.nodes.now in
    let r = c.args.root in
    let part = c.args.part.now in
    let own = c.in_ok-solved.solved in
    let at = c.in_ok-at.at in
    let step : ℕ = c.in_ok-step.step in
    let first = c.requires.part.of_let c.in-Some.k c.in-Some.is in
    let plain : made.way ≡ Plain = (ap (λ (d : Draft). d.way) c.type_of.ensures.kept) ∙ way in
    on_ok_weaker c.add_first.result
    (λ (names : NamesFirst (so_far wrote) (so_far new) c.in-Some.k step old.variable at.scheme at.places).
    adds_first_part nodes r part own.posing own.solution own.around at.scheme at.places step old made wrote c.type_of.ensures.kept c.add_lines.ensures.kept c.requires.part
    (know_types nodes c.requires.term old.known r c.requires.known part c.requires.part)
    (subst (λ (xs : List ℕ). IsPartSolved nodes old.known xs own.posing own.solution own.around) c.as_slice-list.ensures c.in_ok-solved.ensures)
    c.in_ok-at.ensures.longer c.root-state.result c.as_slice-list.result.now c.root-state.ensures c.as_slice-list.ensures (c.in_ok-step.ensures.lines plain)
    new c.add_first.ensures.kept first.0 c.in-Some.k first.1 first.2
    (subst (λ (root : ℕ). IsFirstType own.solution.automaton root (around_states own.posing own.around) at.scheme) c.root-state.ensures (c.in_ok-at.ensures.first c.in-Some.k c.in-Some.is))
    (c.in_ok-at.ensures.first_laid c.in-Some.k c.in-Some.is) names c.add_first.ensures.types)
    c.add_first.ensures.first

pub returns-in-None-clause-first : goal.returns-in-None-clause-first
returns-in-None-clause-first c = λ k way is. absurd (let none = c.in-None.is in cc)

-- the whole term
pub returns-in-Some-clause-whole : goal.returns-in-Some-clause-whole
returns-in-Some-clause-whole c = λ way is. absurd (let some = c.in-Some.is in cc)

pub returns-in-None-clause-whole : goal.returns-in-None-clause-whole
returns-in-None-clause-whole c = λ way is.
    let old = c.args.self.now in
    let made = c.type_of.new.self in
    let wrote = c.add_lines.new.self in
    let nodes = c.args.nodes.now in
    let r = c.args.root in
    let part = c.args.part.now in
    let own = c.in_ok-solved.solved in
    let at = c.in_ok-at.at in
    let step : ℕ = c.in_ok-step.step in
    let plain : made.way ≡ Plain = (ap (λ (d : Draft). d.way) c.type_of.ensures.kept) ∙ way in
    let no_first = c.requires.part.of_none is in
    adds_whole nodes r part own.posing own.solution own.around at.scheme at.places step old made wrote c.type_of.ensures.kept c.add_lines.ensures.kept c.requires.part
    (know_types nodes c.requires.term old.known r c.requires.known part c.requires.part)
    (subst (λ (xs : List ℕ). IsPartSolved nodes old.known xs own.posing own.solution own.around) c.as_slice-list.ensures c.in_ok-solved.ensures)
    c.in_ok-at.ensures.longer c.root-state.result c.as_slice-list.result.now c.root-state.ensures c.as_slice-list.ensures (c.in_ok-step.ensures.lines plain)
    c.args.read.now (last_root nodes r c.requires.part.root no_first) no_first (c.in_ok-at.ensures.whole is)
