-- A section whose parts are written one after the other is allowed.
--     part_row            the row of a part that is written
--     lets_behind, none_stand, lets_then  where let lines stand
--     firsts_written      the first parts of all lets, in order
--     section_written     the section
--     section_stands      and each of its lines may stand where it does
use Rattle.std.proofs.Common.{◌≡◌, ◌≢◌, ◌⊎◌, inl, inr, ℕ, suc, ◌+◌, ◌<◌, List, [], ◌∷◌, ◌++◌, length, refl, sym, ap, ◌∙◌, subst, append-nil, append_assoc, length-append, arith, Some, None}
use Rattle.std.specs.Prelude.{Contains, IsTrue}
use Rattle.std.specs.List.{flat_map}
use Rattle.std.proofs.lemmas.List.Elements.{All-contains, Contains-push_cases}
use Rattle.std.proofs.lemmas.Option.{slice_get_within}
use Rattle.std.specs.FinMap as env
use Rattle.std.specs.Ordering.{nat_cmp}
use Rattle.mls_book.specs.Schemes.{Env, Scheme}
use Rattle.mls_automaton.proofs.Lists.{Contains-cases}
use Rattle.mls_term.specs.declared.term.ResolvedBinding.{ResolvedBinding}
use Rattle.mls_typetext.specs.declared.scheme.ReadScheme.{ReadScheme}
use Rattle.mls_deriv.specs.declared.derivation.Section.{Section}
use Rattle.mls_deriv.specs.declared.derivation.StepLine.{StepLine}
use Rattle.mls_deriv.specs.Steps.{env_of, Before, Says}
use Rattle.mls_deriv.specs.Sections.{at_start, IsHeadRead, IsSectionAllowed}
use Rattle.mls_deriv.specs.Texts.{none_given, LinesStand}
use Rattle.mls_lines.specs.Conclusions.{IsBrought}
use Rattle.mls_layout.specs.Lets.{FirstPart, KnowsLet, KnowsLets, after, HaveOwnNumbers}
use Rattle.mls_layout.specs.Plans.{PlannedLine, a_let, a_step_with, planned_steps, AreLinesOf, HasNoLets, LetsStand}
use Rattle.mls_layout.specs.Rows.{at, concluded, Fits, HasRow}
use Rattle.mls_layout.specs.Parts.{IsRelatedIn}
use Rattle.mls_subsume.specs.Walks.{IsIn}
use Rattle.mls_allowed.specs.PartNodes.{IsPartNode, of_state, of_type}
use Rattle.mls_allowed.specs.WrittenParts.{IsPartWritten, AreFirstsWritten}
use Rattle.mls_allowed.proofs.PartNodes.{part_children, part_of_state}
use Rattle.mls_allowed.proofs.SectionEmitted.{Goes, goes_still, goes_then, row_goes, let_goes, let_known, let_kept, find_other, section_allowed}
use Rattle.mls_allowed.proofs.StandingLines.{lines_stand}
use Rattle.mls_allowed.proofs.WrittenEnds.{HasWrittenRow, part_written}

-- a row with this plan and this number
pub record IsRowOf (b : Before) (steps : List StepLine) (part : ℕ) (d : Env) (type : ℕ) (plan : List PlannedLine) (number : ℕ) : Type 0 where
  pub row : HasRow b steps part d type
  pub plan_is : row.leads.plan ≡ plan
  pub number_is : row.number ≡ number

pub part_row : (b : Before) (known : List FirstPart) (part : ℕ) (d : Env) (type : ℕ) (plan : List PlannedLine) → KnowsLets b known
    → (it : IsPartWritten b b.steps known part d type plan) → IsRowOf b b.steps part d type plan it.number
part_row b known part d type plan knows it =
    subst (λ (e : Env). IsRowOf b b.steps part e type plan it.number) (sym it.env)
    (subst (λ t. IsRowOf b b.steps part (env_of it.binders) t plan it.number) (sym it.is_type)
    (record { row = written.row; plan_is = written.same ∙ sym it.is_plan; number_is = written.number_is }))
  where
    said : (k : ℕ) → Contains it.lets k → Says (at b b.steps) (it.names.step k) (it.names.first k).part (concluded b (it.names.first k).env (it.names.first k).type)
    said k there =
        let known_k = it.are_known k there in
        let let_k = knows (it.names.first k) known_k.0 in
        let found : env.find nat_cmp k b.lets ≡ Some let_k.number = ap (λ z. env.find nat_cmp z b.lets) (sym known_k.1) ∙ let_k.found in
        let same : let_k.number ≡ it.names.step k = (let h : Some let_k.number ≡ Some (it.names.step k) = sym found ∙ known_k.2 in cc) in
        subst (λ z. Says (at b b.steps) z (it.names.first k).part (concluded b (it.names.first k).env (it.names.first k).type)) same
        (record { step = let_k.says.step; stands = let_k.says.stands; about = let_k.says.about; concludes = let_k.says.concludes })

    Own : ℕ → Type 0
    Own = IsPartNode b.book it.place it.type_place

    own_part : (s i : ℕ) → Contains (it.laid_out.layout.parts s) i → Own i
    own_part =
        part_of_state b.book it.place it.type_place it.constraint.automaton it.special.automaton it.solved.closed (IsRelatedIn it.constraint) (IsIn it.walked) it.laid_out.layout

    written : HasWrittenRow b it.constraint it.general it.special it.walked it.solved it.place it.type_place it.laid_out it.root it.binder it.names it.lets (λ i s. IsTrue (it.is_place i s)) Own
        (part_children b.book it.place it.type_place) (λ s. of_state s refl) own_part b.steps it.members it.writing (λ k there. (it.are_known k there).2) said (λ s. of_type s refl) part it.is_root it.scope it.partner it.paired
        (flat_map it.writing.plan it.members ++ it.lines) (env_of it.binders) it.number
    written =
        part_written b it.constraint it.general it.special it.walked it.solved it.place it.type_place it.laid_out it.root it.binder it.names it.lets (λ i s. IsTrue (it.is_place i s)) Own
        (part_children b.book it.place it.type_place) (λ s. of_state s refl) own_part b.steps it.members it.writing (λ k there. (it.are_known k there).2) said (λ s. of_type s refl) part it.is_root it.scope it.partner it.paired
        it.tree it.posed it.earlier it.last it.nodes it.binders (subst (λ t. Fits b it.binders t) it.is_type it.fits) it.envs it.lines it.number
        (subst (λ t. IsBrought (it.writing.of part) (length (b.steps ++ planned_steps (flat_map it.writing.plan it.members))) part it.binders t it.lines it.number) it.is_type it.brought)

-- let lines behind a plan without any
pub lets_behind : (plan rest : List PlannedLine) (count : ℕ) (given : List ℕ) → HasNoLets plan → LetsStand (count + length (planned_steps plan)) given rest → LetsStand count given (plan ++ rest)
lets_behind [] rest count given none it = subst (λ n. LetsStand n given rest) (omega arith) it
lets_behind (a_step_with step puts ∷ plan) rest count given none it =
    lets_behind plan rest (suc count) given none (subst (λ n. LetsStand n given rest) (omega arith) it)
lets_behind (a_let k number ∷ plan) rest count given none it = absurd none

pub none_stand : (plan : List PlannedLine) (count : ℕ) (given : List ℕ) → HasNoLets plan → LetsStand count given plan
none_stand [] count given none = tt
none_stand (a_step_with step puts ∷ plan) count given none = none_stand plan (suc count) given none
none_stand (a_let k number ∷ plan) count given none = absurd none

-- a plan without let lines behind one whose let lines stand
pub lets_then : (plan rest : List PlannedLine) (count : ℕ) (given : List ℕ) → LetsStand count given plan → HasNoLets rest → LetsStand count given (plan ++ rest)
lets_then [] rest count given it none = none_stand rest count given none
lets_then (a_step_with step puts ∷ plan) rest count given it none = lets_then plan rest (suc count) given it none
lets_then (a_let k number ∷ plan) rest count given it none = (it.0, it.1, lets_then plan rest count (k ∷ given) it.2 none)

-- behind the first parts their lets are known, and the let lines stand behind so many steps and these lets
pub record HaveFirsts (b : Before) (given : List ℕ) (steps : List StepLine) (lets : List (ℕ × ℕ)) (firsts : List FirstPart) (plan : List PlannedLine) (more : List StepLine) (others : List (ℕ × ℕ)) : Type 0 where
  pub goes : Goes b steps lets more others plan
  pub stand : LetsStand (length steps) given plan
  pub knows : KnowsLets (after b more others) firsts

pub firsts_written : (b : Before) (known firsts : List FirstPart) (given : List ℕ) (steps : List StepLine) (lets : List (ℕ × ℕ)) (plan : List PlannedLine) (more : List StepLine) (others : List (ℕ × ℕ))
    → KnowsLets (after b steps lets) known → HaveOwnNumbers firsts → ((first : FirstPart) → Contains firsts first → env.find nat_cmp first.number lets ≡ None)
    → ((first : FirstPart) → Contains firsts first → Contains given first.number → ⊥)
    → AreFirstsWritten b steps lets known firsts plan more others → HaveFirsts b given steps lets (known ++ firsts) plan more others
firsts_written b known [] given steps lets plan more others knows own new fresh (no_plan, same_steps, same_lets) =
    subst (λ (l : List PlannedLine). HaveFirsts b given steps lets (known ++ []) l more others) (sym no_plan)
    (subst (λ (l : List StepLine). HaveFirsts b given steps lets (known ++ []) [] l others) (sym same_steps)
    (subst (λ (l : List (ℕ × ℕ)). HaveFirsts b given steps lets (known ++ []) [] steps l) (sym same_lets)
    (record { goes = goes_still b steps lets; stand = tt; knows = subst (KnowsLets (after b steps lets)) (sym (append-nil known)) knows })))
firsts_written b known (first ∷ firsts) given steps lets plan more others knows own new fresh (lines, rest, it, is_plan, later) =
    joined
    (firsts_written b (known ++ first ∷ []) firsts (first.number ∷ given) row.more (lets ++ (first.number, row.number) ∷ []) rest more others
    (λ other there. now_known other (Contains-push_cases known first other there)) own.1 still_new still_fresh
    (subst (λ (l : List StepLine). AreFirstsWritten b l (lets ++ (first.number, row.number) ∷ []) (known ++ first ∷ []) firsts rest more others) (sym adds)
    (subst (λ z. AreFirstsWritten b (steps ++ planned_steps lines) (lets ++ (first.number, z) ∷ []) (known ++ first ∷ []) firsts rest more others) (sym own_row.number_is) later)))
  where
    c : Before
    c = after b steps lets

    own_row : IsRowOf c steps first.part first.env first.type lines it.number
    own_row = part_row c known first.part first.env first.type lines knows it

    row : HasRow c c.steps first.part first.env first.type
    row = own_row.row

    adds : row.more ≡ steps ++ planned_steps lines
    adds = row.leads.adds ∙ ap (λ (l : List PlannedLine). steps ++ planned_steps l) own_row.plan_is

    is_new : env.find nat_cmp first.number lets ≡ None
    is_new = new first (0, omega arith, refl)

    now_known : (other : FirstPart) → Contains known other ⊎ (first ≡ other) → KnowsLet (after b row.more (lets ++ (first.number, row.number) ∷ [])) other
    now_known other (inl there) = let_kept c first row other (knows other there)
    now_known other (inr same) = subst (KnowsLet (after b row.more (lets ++ (first.number, row.number) ∷ []))) same (let_known c first is_new row)

    behind : (other : FirstPart) → Contains firsts other → Contains (first ∷ firsts) other
    behind other there = (suc there.0, (let low : there.0 < length firsts = there.1 in omega arith), there.2)

    still_new : (other : FirstPart) → Contains firsts other → env.find nat_cmp other.number (lets ++ (first.number, row.number) ∷ []) ≡ None
    still_new other there =
        find_other lets first.number row.number other.number (new other (behind other there)) (All-contains (λ (z : FirstPart). first.number ≢ z.number) firsts other own.0 there)

    still_fresh : (other : FirstPart) → Contains firsts other → Contains (first.number ∷ given) other.number → ⊥
    still_fresh other there again = elim (Contains-cases first.number given other.number again) [
      | inl same ↦ All-contains (λ (z : FirstPart). first.number ≢ z.number) firsts other own.0 there same
      | inr earlier ↦ fresh other (behind other there) earlier
    ]

    many : length row.more ≡ length steps + length (planned_steps lines)
    many = ap (λ (l : List StepLine). length l) adds ∙ length-append steps (planned_steps lines)

    number_low : it.number < length steps + length (planned_steps lines)
    number_low =
        let low : row.number < length row.more = slice_get_within row.more row.number row.says.step row.says.stands in
        let is : row.number ≡ it.number = own_row.number_is in
        let all : length row.more ≡ length steps + length (planned_steps lines) = many in
        omega (arith, low, is, all)

    let_stands : LetsStand (length row.more) (first.number ∷ given) rest → LetsStand (length steps) given ((lines ++ a_let first.number it.number ∷ []) ++ rest)
    let_stands next =
        subst (LetsStand (length steps) given) (sym (append_assoc lines (a_let first.number it.number ∷ []) rest))
        (lets_behind lines (a_let first.number it.number ∷ rest) (length steps) given it.no_lets
        (number_low, fresh first (0, omega arith, refl), subst (λ n. LetsStand n (first.number ∷ given) rest) many next))

    joined : HaveFirsts b (first.number ∷ given) row.more (lets ++ (first.number, row.number) ∷ []) ((known ++ first ∷ []) ++ firsts) rest more others → HaveFirsts b given steps lets (known ++ first ∷ firsts) plan more others
    joined next = record {
      goes =
          subst (Goes b steps lets more others) (sym is_plan)
          (subst (λ (l : List PlannedLine). Goes b steps lets more others ((l ++ a_let first.number it.number ∷ []) ++ rest)) own_row.plan_is
          (subst (λ z. Goes b steps lets more others ((row.leads.plan ++ a_let first.number z ∷ []) ++ rest)) own_row.number_is
          (goes_then b steps row.more more lets (lets ++ (first.number, row.number) ∷ []) others (row.leads.plan ++ a_let first.number row.number ∷ []) rest
          (goes_then b steps row.more row.more lets lets (lets ++ (first.number, row.number) ∷ []) row.leads.plan (a_let first.number row.number ∷ [])
          (row_goes b steps lets first.part first.env first.type row) (let_goes b row.more lets first.number row.number))
          next.goes)));
      stand = subst (LetsStand (length steps) given) (sym is_plan) (let_stands next.stand);
      knows = subst (KnowsLets (after b more others)) (append_assoc known (first ∷ []) firsts) next.knows;
    }

-- The first parts of its lets and then the whole term are written, and the lines of the section are of this plan: it is
-- allowed, and each of its lines may stand where it does.
module _ (globals : List Scheme) (binding : ResolvedBinding) (section : Section) (read : ReadScheme) (head : IsHeadRead section read) (name : section.name ≡ binding.name)
    (firsts : List FirstPart) (own : HaveOwnNumbers firsts) (plan last : List PlannedLine) (more : List StepLine) (others : List (ℕ × ℕ))
    (written : AreFirstsWritten (at_start globals binding section) [] [] [] firsts plan more others)
    (e : ℕ) (whole : IsPartWritten (after (at_start globals binding section) more others) more firsts e env.empty read.root.0 last) (is_root : suc e ≡ length binding.term.nodes)
    (are : AreLinesOf section.nodes [] (plan ++ last) section.lines) where
  abbrev b : Before
  b = at_start globals binding section

  all : HaveFirsts b [] [] [] firsts plan more others
  all =
      firsts_written b [] firsts [] [] [] plan more others
      (λ first there. absurd (let low : there.0 < 0 = there.1 in omega arith)) own (λ first there. refl)
      (λ first there given. absurd (let low : given.0 < 0 = given.1 in omega arith)) written

  row : IsRowOf (after b more others) more e env.empty read.root.0 last whole.number
  row = part_row (after b more others) firsts e env.empty read.root.0 last all.knows whole

  pub section_written : IsSectionAllowed globals binding section read
  section_written =
      section_allowed globals binding section read head name plan more others e env.empty all.goes row.row is_root refl
      (subst (λ (l : List PlannedLine). AreLinesOf section.nodes [] (plan ++ l) section.lines) (sym row.plan_is) are)

  pub section_stands : LinesStand section
  section_stands = lines_stand (plan ++ last) b section.lines none_given refl (lets_then plan last 0 [] all.stand whole.no_lets) are section_written.lines
