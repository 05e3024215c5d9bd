-- Sections that are written plainly are allowed.
--     grown_itself, grown_then    a book that grows
--     nothing_closed          a book without nodes is closed
--     names_more              the types of names stay known behind one entry more
--     reads_good              what names were read as are types
--     derivable_at            the entry of this number can be derived, behind those before it
--     plain_come, entry_come  a section that is written plainly is allowed, and its lines stand
--     sections_more, sections_allowed             allowed sections, one after another
--     as_many, binding_there                      there is an entry for each binding
--     entries_front, entry_at     entries of a signature
--     stands_at               what is found in a list stands there
--     no_sections, next_sections, all_sections    what is written of the sections so far
--     can_same                over lists that are the same
use Rattle.std.proofs.Common.{◌≡◌, ℕ, zero, suc, ◌+◌, ◌<◌, ◌≤◌, ◌^◌, List, [], ◌∷◌, ◌++◌, map, take, length, refl, sym, ap, ◌∙◌, subst, arith, append_assoc, append-nil, slice_get, get_or, Some}
use Rattle.std.specs.Prelude.{All}
use Rattle.std.specs.BTreeMap.{BTreeMap, IsEmpty}
use Rattle.std.proofs.lemmas.List.{map-append, take_more}
use Rattle.std.proofs.lemmas.List.Elements.{All-append, All-cons, All-nil}
use Rattle.std.proofs.lemmas.Option.{slice_get-get_or}
use Rattle.mls_book.specs.declared.book.Node.{Node}
use Rattle.mls_book.specs.Books.{IsClosedBook}
use Rattle.mls_automaton.specs.declared.scheme.Scheme.{Scheme}
use Rattle.mls_automaton.proofs.Searches.{take-all}
use Rattle.mls_term.specs.declared.term.ResolvedBinding.{ResolvedBinding}
use Rattle.mls_term.specs.declared.term.TermNode.{TermNode}
use Rattle.mls_term.specs.Derivations.{Derives}
use Rattle.mls_term.specs.Terms.{TermTree}
use Rattle.mls_term.specs.WellFormed.{IsTerm}
use Rattle.mls_term.proofs.TreesOfTerms.{one_term_tree}
use Rattle.mls_typing.specs.InferenceLaws.{at_start}
use Rattle.mls_typetext.specs.declared.scheme.ReadScheme.{ReadScheme}
use Rattle.mls_typetext.specs.Laws.{IsReadScheme}
use Rattle.mls_typetext.specs.Schemes.{scheme_of}
use Rattle.mls_typetext.specs.Texts.{IsTypeText}
use Rattle.mls_typetext.proofs.ReadLaws.{read_is_closed}
use Rattle.mls_deriv.specs.declared.derivation.Section.{Section}
use Rattle.mls_deriv.specs.Sections.{schemes_of, AreSectionsAllowed, IsSectionAllowed}
use Rattle.mls_deriv.specs.Texts.{LinesStand}
use Rattle.mls_iface.specs.Matches.{IsRead}
use Rattle.mls_iface.specs.Signatures.{IsEntry}
use Rattle.mls_iface.specs.declared.signature.SigEntry.{SigEntry}
use Rattle.mls_typenodes.proofs.PrintedTypes.{printed_has_one}
use Rattle.mls_lines.proofs.Growing.{longer_itself, longer_then}
use Rattle.mls_sections.specs.KnownNames.{AreNameTypes}
use Rattle.mls_sections.proofs.SectionsAllowed.{section_come, IsSectionCome}
use Rattle.mls_emit.specs.Derivable.{CanAllBeDerived, CanBeDerived, names_read}
use Rattle.mls_emit.specs.Derived.{entry_names, entry_texts, section_names, section_texts}
use Rattle.mls_emit.specs.Drafts.{IsGrown}
use Rattle.mls_emit.specs.PlainSections.{IsPlainSection}
use Rattle.mls_emit.proofs.KnownNames.{no_name}

-- a book that grows
pub grown_itself : (book : List Node) (next : ℕ) → IsGrown book book next next
grown_itself book next = record { longer = longer_itself book; closed = λ closed. closed; variable = omega arith }

pub grown_then : (old between new : List Node) (first second third : ℕ) → IsGrown old between first second → IsGrown between new second third → IsGrown old new first third
grown_then old between new first second third it later = record {
  longer = longer_then old between new it.longer later.longer;
  closed = λ closed. later.closed (it.closed closed);
  variable = (let one : first ≤ second = it.variable in let two : second ≤ third = later.variable in omega (arith, one, two));
}

-- a book without nodes
pub nothing_closed : IsClosedBook []
nothing_closed = record { book = λ i. tt; closed = λ i d low. absurd (omega (arith, low)) }

-- what stands in a list stands in a longer one
get_front : {X : Type 0} (xs ys : List X) (g : ℕ) (x : X) → slice_get xs g ≡ Some x → slice_get (xs ++ ys) g ≡ Some x
get_front [] ys g x is = absurd (cc)
get_front (first ∷ xs) ys zero x is = is
get_front (first ∷ xs) ys (suc g) x is = get_front xs ys g x is

-- the types of names stay known behind one entry more
names_are : (declared : List ReadScheme) (earlier : List SigEntry) (e : SigEntry) → names_read declared earlier ++ e.scheme ∷ [] ≡ names_read declared (earlier ++ e ∷ [])
names_are declared earlier e = append_assoc declared (map (λ (entry : SigEntry). entry.scheme) earlier) (e.scheme ∷ []) ∙ ap (λ (more : List ReadScheme). declared ++ more) (ends earlier)
  where
    ends : (entries : List SigEntry) → map (λ (entry : SigEntry). entry.scheme) entries ++ e.scheme ∷ [] ≡ map (λ (entry : SigEntry). entry.scheme) (entries ++ e ∷ [])
    ends [] = refl
    ends (first ∷ rest) = ap (λ (more : List ReadScheme). first.scheme ∷ more) (ends rest)

pub names_more : (declared : List ReadScheme) (earlier : List SigEntry) (e : SigEntry) (globals : BTreeMap ℕ Scheme) → AreNameTypes (names_read declared earlier) globals → AreNameTypes (names_read declared (earlier ++ e ∷ [])) globals
names_more declared earlier e globals types g s is =
    let it = types g s is in
    record {
      known = it.known;
      read = it.read;
      is = subst (λ (reads : List ReadScheme). slice_get reads g ≡ Some it.read) (names_are declared earlier e) (get_front (names_read declared earlier) (e.scheme ∷ []) g it.read it.is);
      from = it.from;
      equivalent = it.equivalent;
    }

-- what names were read as are types
good_at : {X : Type 0} (P : X → Type 0) (xs : List X) → All P xs → (g : ℕ) (x : X) → slice_get xs g ≡ Some x → P x
good_at P [] all g x is = absurd (cc)
good_at P (first ∷ xs) all zero x is = let same : first ≡ x = cc in subst P same (all 0 first (omega arith))
good_at P (first ∷ xs) all (suc g) x is = good_at P xs (λ i d low. all (suc i) d (omega (arith, low))) g x is

good_both : (declared : List ReadScheme) (more : List ReadScheme) → ((g : ℕ) (r : ReadScheme) → slice_get declared g ≡ Some r → IsReadScheme r) → ((g : ℕ) (r : ReadScheme) → slice_get more g ≡ Some r → IsReadScheme r)
    → (g : ℕ) (r : ReadScheme) → slice_get (declared ++ more) g ≡ Some r → IsReadScheme r
good_both [] more first second g r is = second g r is
good_both (one ∷ rest) more first second zero r is = first 0 r is
good_both (one ∷ rest) more first second (suc g) r is = good_both rest more (λ h q at. first (suc h) q at) second g r is

good_entries : (entries : List SigEntry) → All IsEntry entries → (g : ℕ) (r : ReadScheme) → slice_get (map (λ (entry : SigEntry). entry.scheme) entries) g ≡ Some r → IsReadScheme r
good_entries [] all g r is = absurd (cc)
good_entries (first ∷ rest) all zero r is = let same : first.scheme ≡ r = cc in subst IsReadScheme same (read_is_closed first.text first.scheme (all 0 first (omega arith)).reads)
good_entries (first ∷ rest) all (suc g) r is = good_entries rest (λ i d low. all (suc i) d (omega (arith, low))) g r is

pub reads_good : (declared : List ReadScheme) (earlier : List SigEntry) → All IsRead declared → All IsEntry earlier → (g : ℕ) (r : ReadScheme) → slice_get (names_read declared earlier) g ≡ Some r → IsReadScheme r
reads_good declared earlier are entries = good_both declared (map (λ (entry : SigEntry). entry.scheme) earlier) (λ g r is. (good_at IsRead declared are g r is).0) (good_entries earlier entries)

-- the entry of this number can be derived, behind those before it
pub derivable_at : (declared : List ReadScheme) (bindings : List ResolvedBinding) (entries : List SigEntry) → CanAllBeDerived declared bindings entries → (k : ℕ) (b : ResolvedBinding) (e : SigEntry) → slice_get bindings k ≡ Some b → slice_get entries k ≡ Some e
    → CanBeDerived (names_read declared (take k entries)) b e
derivable_at declared [] entries all k b e at is = absurd (cc)
derivable_at declared (binding ∷ bindings) [] all k b e at is = absurd (cc)
derivable_at declared (binding ∷ bindings) (first ∷ entries) all zero b e at is =
    let same : binding ≡ b = cc in
    let entry : first ≡ e = cc in
    subst (λ (reads : List ReadScheme). CanBeDerived reads b e) (sym (append-nil declared)) (subst (λ (c : ResolvedBinding). CanBeDerived declared c e) same (subst (CanBeDerived declared binding) entry all.0))
derivable_at declared (binding ∷ bindings) (first ∷ entries) all (suc k) b e at is =
    subst (λ (reads : List ReadScheme). CanBeDerived reads b e) (append_assoc declared (first.scheme ∷ []) (map (λ (entry : SigEntry). entry.scheme) (take k entries)))
    (derivable_at (declared ++ first.scheme ∷ []) bindings entries all.1 k b e at is)

-- a section that is written plainly is allowed, and each of its lines may stand where it does
pub plain_come : (declared : List ReadScheme) (earlier : List SigEntry) → All IsRead declared → All IsEntry earlier → (binding : ResolvedBinding) (section : Section) (e : SigEntry) → IsEntry e → section.name ≡ e.name → section.text ≡ e.text
    → length e.text < 2 ^ 64 → (count : ℕ) → IsTerm count binding.term.nodes binding.term.binders binding.term.lets → CanBeDerived (names_read declared earlier) binding e
    → IsPlainSection (names_read declared earlier) binding.term.nodes e.scheme section.nodes section.lines → IsSectionCome (schemes_of (names_read declared earlier)) binding section e.scheme
plain_come declared earlier are entries binding section e is_entry name text short count term can it =
    section_come reads (reads_good declared earlier are entries) binding section e.scheme (read_is_closed e.text e.scheme is_entry.reads) (subst (λ t. IsTypeText t e.scheme) (sym text) is_entry.reads) (name ∙ can.name)
    (printed_has_one can.text.scheme e.text e.scheme can.text.is can.text.named can.text.free can.text.printed short is_entry.reads) count term can.rising
    (subst (λ (t : TermTree). Derives (at_start (schemes_of reads)) t (scheme_of e.scheme)) (one_term_tree can.derivable.term_tree term.tree (sym can.derivable.nodes ∙ term.nodes_are)) can.derivable.derives)
    it.parts.begun it.last it.parts.begins.begun_so it.parts.begins.closed it.parts.begins.variables (λ g global there. (it.parts.begins.globals g global there).of) it.parts.begins.types it.parts.come it.book_is it.lines_are
  where
    reads : List ReadScheme
    reads = names_read declared earlier

-- so is the section of an entry, whose own parts are the same
pub entry_come : (declared : List ReadScheme) (earlier : List SigEntry) → All IsRead declared → All IsEntry earlier → (binding : ResolvedBinding) (section : Section) (e : SigEntry) → IsEntry e → section.name ≡ e.name → section.text ≡ e.text
    → (bytes : List ℕ) → bytes ≡ e.text → length bytes < 2 ^ 64 → (count : ℕ) → IsTerm count binding.term.nodes binding.term.binders binding.term.lets → (nodes : List TermNode) → nodes ≡ binding.term.nodes → (read : ReadScheme) → read ≡ e.scheme
    → IsPlainSection (names_read declared earlier) nodes read section.nodes section.lines → CanBeDerived (names_read declared earlier) binding e → IsSectionCome (schemes_of (names_read declared earlier)) binding section e.scheme
entry_come declared earlier are entries binding section e is_entry name text bytes same_bytes short count term nodes same_nodes read same_read it can =
    plain_come declared earlier are entries binding section e is_entry name text (subst (λ (xs : List ℕ). length xs < 2 ^ 64) same_bytes short) count term can
    (subst (λ (r : ReadScheme). IsPlainSection (names_read declared earlier) binding.term.nodes r section.nodes section.lines) same_read
    (subst (λ (ns : List TermNode). IsPlainSection (names_read declared earlier) ns read section.nodes section.lines) same_nodes it))

-- the first sections, each with its entry, are allowed
abbrev pub AreEntriesAllowed : (known : List ReadScheme) → List ResolvedBinding → List SigEntry → List Section → Type 0
AreEntriesAllowed known [] [] [] = Unit {0}
AreEntriesAllowed known (binding ∷ bindings) (e ∷ entries) (section ∷ sections) =
    IsSectionAllowed (schemes_of known) binding section e.scheme × AreEntriesAllowed (known ++ e.scheme ∷ []) bindings entries sections
AreEntriesAllowed known _ _ _ = ⊥

-- one section more
pub sections_more : (known : List ReadScheme) (bindings : List ResolvedBinding) (entries : List SigEntry) (sections : List Section) (b : ResolvedBinding) (e : SigEntry) (s : Section) → AreEntriesAllowed known bindings entries sections
    → IsSectionAllowed (schemes_of (names_read known entries)) b s e.scheme → AreEntriesAllowed known (bindings ++ b ∷ []) (entries ++ e ∷ []) (sections ++ s ∷ [])
sections_more known [] [] [] b e s all it = (subst (λ (reads : List ReadScheme). IsSectionAllowed (schemes_of reads) b s e.scheme) (append-nil known) it, tt)
sections_more known (binding ∷ bindings) (first ∷ entries) (section ∷ sections) b e s all it = (
  all.0,
  sections_more (known ++ first.scheme ∷ []) bindings entries sections b e s all.1
      (subst (λ (reads : List ReadScheme). IsSectionAllowed (schemes_of reads) b s e.scheme) (sym (append_assoc known (first.scheme ∷ []) (map (λ (entry : SigEntry). entry.scheme) entries))) it),
)
sections_more known [] [] (section ∷ sections) b e s all it = absurd all
sections_more known [] (first ∷ entries) sections b e s all it = absurd all
sections_more known (binding ∷ bindings) [] sections b e s all it = absurd all
sections_more known (binding ∷ bindings) (first ∷ entries) [] b e s all it = absurd all

-- so all of them are
pub sections_allowed : (known : List ReadScheme) (bindings : List ResolvedBinding) (entries : List SigEntry) (sections : List Section) → AreEntriesAllowed known bindings entries sections → AreSectionsAllowed known bindings sections
sections_allowed known [] [] [] all = tt
sections_allowed known (binding ∷ bindings) (e ∷ entries) (section ∷ sections) all = (e.scheme, all.0, sections_allowed (known ++ e.scheme ∷ []) bindings entries sections all.1)
sections_allowed known [] [] (section ∷ sections) all = absurd all
sections_allowed known [] (first ∷ entries) sections all = absurd all
sections_allowed known (binding ∷ bindings) [] sections all = absurd all
sections_allowed known (binding ∷ bindings) (first ∷ entries) [] all = absurd all

-- there is an entry for each binding
pub as_many : (known : List ReadScheme) (bindings : List ResolvedBinding) (entries : List SigEntry) → CanAllBeDerived known bindings entries → length bindings ≡ length entries
as_many known [] [] all = refl
as_many known (binding ∷ bindings) (e ∷ entries) all = ap suc (as_many (known ++ e.scheme ∷ []) bindings entries all.1)
as_many known [] (e ∷ entries) all = absurd all
as_many known (binding ∷ bindings) [] all = absurd all

-- so there is a binding for each entry
pub binding_there : (known : List ReadScheme) (bindings : List ResolvedBinding) (entries : List SigEntry) → CanAllBeDerived known bindings entries → (k : ℕ) → k < length entries → k < length bindings
binding_there known bindings entries all k low = let many : length bindings ≡ length entries = as_many known bindings entries all in omega (arith, low, many)

-- entries of a signature
pub entries_front : (entries : List SigEntry) → All IsEntry entries → (k : ℕ) → All IsEntry (take k entries)
entries_front entries all zero = λ i d low. absurd (omega (arith, low))
entries_front [] all (suc k) = all
entries_front (first ∷ rest) all (suc k) = λ i d low. at i d low (entries_front rest (λ j e under. all (suc j) e (omega (arith, under))) k)
  where
    at : (i : ℕ) (d : SigEntry) → i < length (first ∷ take k rest) → All IsEntry (take k rest) → IsEntry (get_or (first ∷ take k rest) i d)
    at zero d low later = all 0 d (omega arith)
    at (suc i) d low later = later i d (omega (arith, low))

-- what is found in a list stands there
pub stands_at : {X : Type 0} (xs : List X) (k : ℕ) (x : X) → k < length xs → x ≡ get_or xs k x → slice_get xs k ≡ Some x
stands_at xs k x low is = slice_get-get_or xs k x low ∙ ap (λ y. Some y) (sym is)

pub entry_at : (entries : List SigEntry) → All IsEntry entries → (k : ℕ) (e : SigEntry) → k < length entries → e ≡ get_or entries k e → IsEntry e
entry_at entries all k e low is = subst IsEntry (sym is) (all k e low)

-- The first k sections have the names and the types of the first k entries, each type that is known of a name is that of
-- the name, and what is written plainly is allowed, and its lines stand.
pub record HaveSections (plain : Type 0) (declared : List ReadScheme) (bindings : List ResolvedBinding) (entries : List SigEntry) (k : ℕ) (sections : List Section) (schemes : BTreeMap ℕ Scheme) : Type 0 where
  pub names : section_names sections ≡ entry_names (take k entries)
  pub texts : section_texts sections ≡ entry_texts (take k entries)
  pub types : AreNameTypes (names_read declared (take k entries)) schemes
  pub allowed : plain → AreEntriesAllowed declared (take k bindings) (take k entries) sections
  pub stand : plain → All LinesStand sections

module _ (plain : Type 0) (declared : List ReadScheme) (bindings : List ResolvedBinding) (entries : List SigEntry) where
  pub no_sections : (sections : List Section) (schemes : BTreeMap ℕ Scheme) → sections ≡ [] → IsEmpty schemes → HaveSections plain declared bindings entries 0 sections schemes
  no_sections sections schemes is empty = record {
    names = ap (λ (ss : List Section). section_names ss) is;
    texts = ap (λ (ss : List Section). section_texts ss) is;
    types = no_name (names_read declared []) schemes empty;
    allowed = λ p. subst (AreEntriesAllowed declared [] []) (sym is) tt;
    stand = λ p. subst (All LinesStand) (sym is) (All-nil LinesStand);
  }

  module _ (k : ℕ) (sections : List Section) (schemes : BTreeMap ℕ Scheme) (so_far : HaveSections plain declared bindings entries k sections schemes) where
    module _ (bound : k < length bindings) (low : k < length entries) (b : ResolvedBinding) (e : SigEntry) (s : Section) (known : BTreeMap ℕ Scheme) (is : b ≡ get_or bindings k b) (at : e ≡ get_or entries k e) where
      entries_are : take (k + 1) entries ≡ take k entries ++ e ∷ []
      entries_are = take_more entries k e low ∙ ap (λ (x : SigEntry). take k entries ++ x ∷ []) (sym at)

      bindings_are : take (k + 1) bindings ≡ take k bindings ++ b ∷ []
      bindings_are = take_more bindings k b bound ∙ ap (λ (x : ResolvedBinding). take k bindings ++ x ∷ []) (sym is)

      pub next_sections : s.name ≡ e.name → s.text ≡ e.text → AreNameTypes (names_read declared (take k entries)) known
          → (plain → IsSectionAllowed (schemes_of (names_read declared (take k entries))) b s e.scheme) → (plain → LinesStand s)
          → (new : List Section) → new ≡ sections ++ s ∷ [] → HaveSections plain declared bindings entries (k + 1) new known
      next_sections name text types allowed stand new pushed = record {
        names =
            ap (λ (ss : List Section). section_names ss) pushed ∙ (map-append (λ (x : Section). x.name) sections (s ∷ [])
            ∙ (ap (λ ns. ns ++ s.name ∷ []) so_far.names ∙ (ap (λ n. entry_names (take k entries) ++ n ∷ []) name
            ∙ (sym (map-append (λ (x : SigEntry). x.name) (take k entries) (e ∷ [])) ∙ ap (λ (es : List SigEntry). entry_names es) (sym entries_are)))));
        texts =
            ap (λ (ss : List Section). section_texts ss) pushed ∙ (map-append (λ (x : Section). x.text) sections (s ∷ [])
            ∙ (ap (λ ns. ns ++ s.text ∷ []) so_far.texts ∙ (ap (λ n. entry_texts (take k entries) ++ n ∷ []) text
            ∙ (sym (map-append (λ (x : SigEntry). x.text) (take k entries) (e ∷ [])) ∙ ap (λ (es : List SigEntry). entry_texts es) (sym entries_are)))));
        types = subst (λ (es : List SigEntry). AreNameTypes (names_read declared es) known) (sym entries_are) (names_more declared (take k entries) e known types);
        allowed = λ p.
            subst (AreEntriesAllowed declared (take (k + 1) bindings) (take (k + 1) entries)) (sym pushed)
            (subst (λ (es : List SigEntry). AreEntriesAllowed declared (take (k + 1) bindings) es (sections ++ s ∷ [])) (sym entries_are)
            (subst (λ (bs : List ResolvedBinding). AreEntriesAllowed declared bs (take k entries ++ e ∷ []) (sections ++ s ∷ [])) (sym bindings_are)
            (sections_more declared (take k bindings) (take k entries) sections b e s (so_far.allowed p) (allowed p))));
        stand = λ p.
            subst (All LinesStand) (sym pushed)
            (All-append LinesStand sections (s ∷ []) (so_far.stand p)
            (All-cons LinesStand s [] (stand p) (All-nil LinesStand)));
      }

    -- all entries were gone over
    module _ (past : length entries ≤ k) where
      pub all_names : section_names sections ≡ entry_names entries
      all_names = so_far.names ∙ ap (λ (es : List SigEntry). entry_names es) (take-all entries k past)

      pub all_texts : section_texts sections ≡ entry_texts entries
      all_texts = so_far.texts ∙ ap (λ (es : List SigEntry). entry_texts es) (take-all entries k past)

      pub all_sections : length bindings ≡ length entries → plain → AreSectionsAllowed declared bindings sections
      all_sections many p =
          let behind : length bindings ≤ k = omega (arith, many, past) in
          sections_allowed declared bindings entries sections
          (subst (λ (bs : List ResolvedBinding). AreEntriesAllowed declared bs entries sections) (take-all bindings k behind)
          (subst (λ (es : List SigEntry). AreEntriesAllowed declared (take k bindings) es sections) (take-all entries k past) (so_far.allowed p)))

-- over lists that are the same
pub can_same : (known read : List ReadScheme) (bindings bound : List ResolvedBinding) (entries stated : List SigEntry) → known ≡ read → bindings ≡ bound → entries ≡ stated → CanAllBeDerived read bound stated
    → CanAllBeDerived known bindings entries
can_same known read bindings bound entries stated same_known same_bindings same_entries can =
    subst (λ (ks : List ReadScheme). CanAllBeDerived ks bindings entries) (sym same_known)
    (subst (λ (bs : List ResolvedBinding). CanAllBeDerived read bs entries) (sym same_bindings)
    (subst (λ (es : List SigEntry). CanAllBeDerived read bound es) (sym same_entries) can))
