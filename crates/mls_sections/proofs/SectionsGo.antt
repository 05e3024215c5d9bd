-- A section goes on from part to part.
--     begins_going        from its beginning, where its book is closed
--     nothing_at          nothing is in an empty map
--     first_goes          behind a first part
--     whole_goes          behind the whole term
--     globals_old, types_same     the names of the environment stay as they were
--     come_goes           behind all parts that have come
use Rattle.std.proofs.Common.{◌≡◌, inl, inr, ℕ, ◌+◌, ◌<◌, ◌≤◌, List, length, refl, sym, ap, ◌∙◌, subst, arith, Some, None}
use Rattle.std.specs.BTreeMap.{BTreeMap, IsEmpty, get, is_at}
use Rattle.std.specs.Map.{lookup}
use Rattle.std.specs.Ordering.{nat_cmp}
use Rattle.mls_book.specs.Books.{IsClosedBook}
use Rattle.mls_term.specs.declared.term.TermNode.{TermNode}
use Rattle.mls_typetext.specs.declared.scheme.ReadScheme.{ReadScheme}
use Rattle.mls_deriv.specs.Sections.{steps_of}
use Rattle.mls_deriv.specs.Steps.{IsRising}
use Rattle.mls_layout.specs.LaidOut.{node_of, place_of, IsLonger}
use Rattle.mls_parts.specs.TreeNodes.{AreTreeNodes}
use Rattle.mls_typenodes.specs.OneEach.{HasOneEach}
use Rattle.mls_lines.specs.declared.known.FirstPart.{FirstPart}
use Rattle.mls_lines.specs.PlainLines.{HaveLowFirsts, HaveLowGlobals, HaveRisingFirsts}
use Rattle.mls_lines.specs.PlainParts.{type_binders}
use Rattle.mls_lines.specs.Writer.{HasLowEnv}
use Rattle.mls_lines.proofs.Growing.{longer_itself, longer_then}
use Rattle.mls_lines.proofs.LowNodes.{below_longer, firsts_more, globals_more}
use Rattle.mls_lines.proofs.WholeParts.{binders_low, binders_rising}
use Rattle.mls_sections.specs.KnownNames.{AreGlobalsOf}
use Rattle.mls_allowed.specs.SectionParts.{AddsFirstPart, AddsWhole, HaveCome, IsBegun, SoFar, start, same, more, whole}
use Rattle.mls_sections.specs.SectionsGoing.{CanGoOn}
use Rattle.mls_sections.proofs.FirstsWritten.{no_step}
use Rattle.mls_sections.proofs.PartsWritten.{made_longer, part_closed, part_counted, part_longer, type_low}
use Rattle.mls_allowed.proofs.Updated.{updated_at}

-- nothing is in an empty map
pub nothing_at : {A : Type 0} (m : BTreeMap ℕ A) → IsEmpty m → (k : ℕ) → get nat_cmp m k ≡ None
nothing_at m empty k = ap (lookup (is_at (nat_cmp k))) empty

-- the same part has the same environment and the same root
some_env : (one other : FirstPart) → Some one ≡ Some other → one.env ≡ other.env
some_env one other e = let same : one ≡ other = cc in ap (λ (p : FirstPart). p.env) same

some_root : (one other : FirstPart) → Some one ≡ Some other → one.root.0 ≡ other.root.0
some_root one other e = let same : one ≡ other = cc in ap (λ (p : FirstPart). p.root.0) same

module _ (nodes : List TermNode) (tree : AreTreeNodes nodes) (read : ReadScheme) (one : (i : ℕ) → i < length read.book → HasOneEach read.book i) (r : ℕ) (old new : SoFar) (can : CanGoOn old) where
  -- behind a first part
  module _ (it : AddsFirstPart nodes r old new) where
    abbrev first_of_let : FirstPart
    first_of_let = record { step = it.step; root = node_of it.places it.type.root.0; env = type_binders it.type it.places; variable = old.variable }

    pub first_made_closed : IsClosedBook it.made
    first_made_closed = it.laid.closed can.closed

    pub first_low : (s : ℕ) → place_of it.places s < length new.book
    first_low = type_low nodes tree r it.part old it.made it.type it.places new.book it.steps it.step it.adds can first_made_closed (it.laid.layout can.closed).layout

    pub first_made_longer : IsLonger it.made new.book
    first_made_longer = made_longer nodes tree r it.part old it.made it.type it.places new.book it.steps it.step it.adds can first_made_closed (it.laid.layout can.closed).layout

    pub first_longer : IsLonger old.book new.book
    first_longer = part_longer nodes tree r it.part old it.made it.type it.places new.book it.steps it.step it.adds can first_made_closed (it.laid.layout can.closed).layout

    pub first_goes : CanGoOn new
    first_goes = record {
      closed = part_closed nodes tree r it.part old it.made it.type it.places new.book it.steps it.step it.adds can first_made_closed (it.laid.layout can.closed).layout;
      counted =
          it.count
          ∙ (part_counted nodes tree r it.part old it.made it.type it.places new.book it.steps it.step it.adds can first_made_closed (it.laid.layout can.closed).layout
          ∙ ap length (sym (ap steps_of it.lines ∙ no_step it.steps.lines it.number it.step)));
      rising = λ k part there. elim (updated_at old.firsts new.firsts it.number first_of_let it.firsts k) [
        | inl own ↦ subst IsRising (some_env first_of_let part (sym own.1 ∙ there)) (binders_rising it.places it.type it.rise)
        | inr other ↦ can.rising k part (sym other.1 ∙ there)
      ];
      low_firsts = λ k part there. elim (updated_at old.firsts new.firsts it.number first_of_let it.firsts k) [
        | inl own ↦ (
          subst (λ n. n < length new.book) (some_root first_of_let part (sym own.1 ∙ there)) (first_low it.type.root.0),
          subst (HasLowEnv (length new.book)) (some_env first_of_let part (sym own.1 ∙ there)) (binders_low (length new.book) it.places first_low it.type),
        )
        | inr other ↦ firsts_more (length old.book) (length new.book) (λ i low. below_longer old.book new.book i first_longer low) old.firsts can.low_firsts k part (sym other.1 ∙ there)
      ];
      low_globals =
          subst (HaveLowGlobals (length new.book)) (sym it.globals)
          (globals_more (length old.book) (length new.book) (λ i low. below_longer old.book new.book i first_longer low) old.globals can.low_globals);
    }

  -- behind the whole term
  module _ (it : AddsWhole nodes read r old new) where
    pub whole_made_closed : IsClosedBook it.made
    whole_made_closed = it.is_type.closed can.closed

    pub whole_made_longer : IsLonger it.made new.book
    whole_made_longer = made_longer nodes tree r it.part old it.made it.type it.places new.book new.steps it.step it.adds can whole_made_closed (it.is_type.laid one).layout

    pub whole_longer : IsLonger old.book new.book
    whole_longer = part_longer nodes tree r it.part old it.made it.type it.places new.book new.steps it.step it.adds can whole_made_closed (it.is_type.laid one).layout

    pub whole_goes : CanGoOn new
    whole_goes = record {
      closed = part_closed nodes tree r it.part old it.made it.type it.places new.book new.steps it.step it.adds can whole_made_closed (it.is_type.laid one).layout;
      counted = part_counted nodes tree r it.part old it.made it.type it.places new.book new.steps it.step it.adds can whole_made_closed (it.is_type.laid one).layout;
      rising = subst HaveRisingFirsts (sym it.firsts) can.rising;
      low_firsts =
          subst (HaveLowFirsts (length new.book)) (sym it.firsts)
          (firsts_more (length old.book) (length new.book) (λ i low. below_longer old.book new.book i whole_longer low) old.firsts can.low_firsts);
      low_globals =
          subst (HaveLowGlobals (length new.book)) (sym it.globals)
          (globals_more (length old.book) (length new.book) (λ i low. below_longer old.book new.book i whole_longer low) old.globals can.low_globals);
    }

-- the names of the environment stay as they were
pub globals_old : (nodes : List TermNode) (read : ReadScheme) (begun : SoFar) → {r : ℕ} {s : SoFar} → HaveCome nodes read begun r s → s.globals ≡ begun.globals
globals_old nodes read begun start = refl
globals_old nodes read begun (same before none other) = globals_old nodes read begun before
globals_old nodes read begun (more before it) = it.globals ∙ globals_old nodes read begun before
globals_old nodes read begun (whole before it) = it.globals ∙ globals_old nodes read begun before

pub types_same : (nodes : List TermNode) (read : ReadScheme) (begun : SoFar) → {r : ℕ} {s : SoFar} → HaveCome nodes read begun r s → s.known.globals ≡ begun.known.globals
types_same nodes read begun start = refl
types_same nodes read begun (same before none other) = types_same nodes read begun before
types_same nodes read begun (more before it) = it.types ∙ types_same nodes read begun before
types_same nodes read begun (whole before it) = (λ i. (it.known i).globals) ∙ types_same nodes read begun before

-- from its beginning, where its book is closed and has the types of the names of the environment
pub begins_going : (read : ReadScheme) (begun : SoFar) → IsBegun read begun → IsClosedBook begun.book → (reads : List ReadScheme) → AreGlobalsOf begun.book reads begun.globals → CanGoOn begun
begins_going read begun begins closed reads stand = record {
  closed = closed;
  counted = begins.count ∙ ap length (sym (ap steps_of begins.lines));
  rising = λ k part there. absurd (none_first k part there);
  low_firsts = λ k part there. absurd (none_first k part there);
  low_globals = λ g global there.
      let it = stand g global there in
      let root : global.root.0 ≡ global.first + it.read.root.0 = it.at.root in
      let within : global.first + length it.read.book ≤ length begun.book = it.at.from.within in
      let low : it.read.root.0 < length it.read.book = it.good.root in
      omega (arith, root, within, low);
}
  where
    none_first : (k : ℕ) (part : FirstPart) → get nat_cmp begun.firsts k ≡ Some part → ⊥
    none_first k part there = let none : get nat_cmp begun.firsts k ≡ None = nothing_at begun.firsts begins.firsts k in absurd (let wrong : None ≡ Some part = sym none ∙ there in cc)

-- behind all parts that have come
pub come_goes : (nodes : List TermNode) → AreTreeNodes nodes → (read : ReadScheme) → ((i : ℕ) → i < length read.book → HasOneEach read.book i) → (begun : SoFar) → CanGoOn begun → {r : ℕ} {s : SoFar} → HaveCome nodes read begun r s
    → CanGoOn s × IsLonger begun.book s.book
come_goes nodes tree read one begun can start = (can, longer_itself begun.book)
come_goes nodes tree read one begun can (same before no_first other) = come_goes nodes tree read one begun can before
come_goes nodes tree read one begun can (more {r = r} {old = old} {new = new} before it) =
    let so_far = come_goes nodes tree read one begun can before in
    (first_goes nodes tree read one r old new so_far.0 it, longer_then begun.book old.book new.book so_far.1 (first_longer nodes tree read one r old new so_far.0 it))
come_goes nodes tree read one begun can (whole {r = r} {old = old} {new = new} before it) =
    let so_far = come_goes nodes tree read one begun can before in
    (whole_goes nodes tree read one r old new so_far.0 it, longer_then begun.book old.book new.book so_far.1 (whole_longer nodes tree read one r old new so_far.0 it))
