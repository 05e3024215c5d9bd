-- Allowed sections whose lines stand have texts.
--     sections_rise       labels and binders rise in allowed sections
--     section_form        a section that may be spelled, and whose lines stand
use Rattle.std.proofs.Common.{◌≡◌, ℕ, zero, suc, ◌<◌, List, [], ◌∷◌, ◌++◌, length, refl, subst, arith}
use Rattle.std.specs.Prelude.{All, get_or}
use Rattle.std.proofs.lemmas.List.Elements.{All-nil, All-cons}
use Rattle.mls_base.specs.Spelling.{IsName}
use Rattle.mls_book.specs.declared.book.Node.{Node}
use Rattle.mls_book.specs.declared.book.Node.TheVariants as node
use Rattle.mls_book.specs.Books.{IsBook, IsOrdered}
use Rattle.mls_term.specs.declared.term.ResolvedBinding.{ResolvedBinding}
use Rattle.mls_typetext.specs.declared.scheme.ReadScheme.{ReadScheme}
use Rattle.mls_book.specs.Schemes.{Scheme}
use Rattle.mls_deriv.specs.declared.derivation.Section.{Section}
use Rattle.mls_deriv.specs.declared.derivation.SectionLine.{SectionLine}
use Rattle.mls_deriv.specs.declared.derivation.SectionLine.TheVariants as line
use Rattle.mls_deriv.specs.Forms.{HasRisingBinders, HasRisingLabels}
use Rattle.mls_deriv.specs.Sections.{after_let, after_step, at_start, AreAllowed, AreSectionsAllowed, IsHeadRead, IsSectionAllowed, schemes_of}
use Rattle.mls_deriv.specs.Steps.{Before}
use Rattle.mls_deriv.specs.Texts.{IsOneLine, IsRisingSection, IsSectionForm, IsSpelledSection, LinesStand}

-- labels rise in a book
ordered_rises : (n : ℕ) (v : Node) → IsOrdered n v → HasRisingLabels v
ordered_rises n node.Bot it = tt
ordered_rises n node.Top it = tt
ordered_rises n (node.Var x) it = tt
ordered_rises n node.Bool it = tt
ordered_rises n node.Int it = tt
ordered_rises n (node.Arrow j k) it = tt
ordered_rises n (node.Rcd fields) it = it
ordered_rises n (node.Join j k) it = tt
ordered_rises n (node.Meet j k) it = tt

entry_same : (nodes : List Node) (i : ℕ) (d e : Node) → i < length nodes → get_or nodes i d ≡ get_or nodes i e
entry_same [] i d e low = absurd (omega (arith, low))
entry_same (first ∷ nodes) zero d e low = refl
entry_same (first ∷ nodes) (suc i) d e low = entry_same nodes i d e (omega (arith, low))

labels_rise : (nodes : List Node) → IsBook nodes → All HasRisingLabels nodes
labels_rise nodes is = λ i d low. subst HasRisingLabels (entry_same nodes i node.Bot d low) (ordered_rises i (get_or nodes i node.Bot) (is i))

-- binders rise in lines that are allowed
binders_rise : (lines : List SectionLine) (b : Before) → AreAllowed b lines → All HasRisingBinders lines
binders_rise [] b it = All-nil HasRisingBinders
binders_rise (line.Let k number ∷ rest) b it = All-cons HasRisingBinders (line.Let k number) rest tt (binders_rise rest (after_let b k number) it)
binders_rise (line.Step step ∷ rest) b it = All-cons HasRisingBinders (line.Step step) rest it.0.rising (binders_rise rest (after_step b step) it.1)
binders_rise (line.Put x n ∷ rest) b it = All-cons HasRisingBinders (line.Put x n) rest tt (binders_rise rest b it)
binders_rise (line.Pair mode i j ∷ rest) b it = All-cons HasRisingBinders (line.Pair mode i j) rest tt (binders_rise rest b it)

section_rises : (globals : List Scheme) (binding : ResolvedBinding) (s : Section) (read : ReadScheme) → IsSectionAllowed globals binding s read → IsRisingSection s
section_rises globals binding s read it = record {
  labels = labels_rise s.nodes it.head.closed.book;
  binders = binders_rise s.lines (at_start globals binding s) it.lines;
}

pub sections_rise : (known : List ReadScheme) (bindings : List ResolvedBinding) (sections : List Section) → AreSectionsAllowed known bindings sections → All IsRisingSection sections
sections_rise known [] [] it = All-nil IsRisingSection
sections_rise known [] (s ∷ sections) it = absurd it
sections_rise known (binding ∷ bindings) [] it = absurd it
sections_rise known (binding ∷ bindings) (s ∷ sections) (read, allowed, later) =
    All-cons IsRisingSection s sections (section_rises (schemes_of known) binding s read allowed) (sections_rise (known ++ read ∷ []) bindings sections later)

pub section_form : (s : Section) (read : ReadScheme) → IsName s.name → IsOneLine s.text → IsHeadRead s read → IsSpelledSection s → LinesStand s → IsSectionForm s
section_form s read name one_line head spelled stand = record {
  name = name;
  one_line = one_line;
  read = read;
  head = head;
  nodes = spelled.nodes;
  lines = spelled.lines;
  stand = stand;
}
