-- A section, read part by part.
use Rattle.std.proofs.Common.{◌≡◌, ℕ, suc, ◌+◌, List, ◌++◌, length, Some, None, refl, sym, subst, arith}
use Rattle.std.specs.Prelude.{codes, Option}
use Rattle.mls_book.specs.declared.book.Node.{Node}
use Rattle.mls_deriv.specs.declared.derivation.SectionLine.{SectionLine}
use Rattle.mls_deriv.specs.declared.section.Head.{Head}
use Rattle.mls_deriv.specs.Spellings.{section_text}
use Rattle.mls_deriv.specs.Texts.{IsSectionForm}
use Rattle.mls_deriv.specs.BadLines.{Begins, HasHead, HasLines, IsBadSection, bad_val, bad_node, bad_line}
use Rattle.mls_deriv.specs.inner.Readings.{HasNodes, IsUnfit, IsHeadLine, IsHeadFound}
use Rattle.mls_deriv.proofs.ReadParts.{head_of, section_of}

pub no_section : (text : List ℕ) → IsHeadFound text None → IsBadSection text 0
no_section text none = bad_val none

whole_head : (text : List ℕ) (head : Head) (nodes : List Node) (rest : List ℕ) → IsHeadLine text head → HasNodes head.rest.now nodes rest → HasHead text head.read nodes rest
whole_head text head nodes rest h has = head_of text head.name.now head.type_text.now head.rest.now rest head.read nodes h.is_name h.one_line h.type_is h.spelled has

pub unfit_section : (text : List ℕ) (head : Head) (nodes : List Node) (rest : List ℕ) (i n : ℕ) → IsHeadLine text head → HasNodes head.rest.now nodes rest → IsUnfit head.read.book nodes (Some i) → n ≡ i + 1 → IsBadSection text n
unfit_section text head nodes rest i n h has unfit e =
    let same : suc i ≡ n = omega arith in
    subst (IsBadSection text) same (bad_node head.read nodes rest i (whole_head text head nodes rest h has) unfit.0 unfit.1 unfit.2)

pub endless_section : (text : List ℕ) (head : Head) (nodes : List Node) (rest : List ℕ) (lines : List SectionLine) (left : List ℕ) (m n : ℕ) → IsHeadLine text head → HasNodes head.rest.now nodes rest → IsUnfit head.read.book nodes None
    → HasLines (length nodes) rest lines left → (Begins left (codes "end\n") → ⊥) → m ≡ length nodes + length lines → n ≡ m + 1 → IsBadSection text n
endless_section text head nodes rest lines left m n h has fits found none e e' =
    let same : suc (length nodes + length lines) ≡ n = omega arith in
    subst (IsBadSection text) same (bad_line head.read nodes rest lines left (whole_head text head nodes rest h has) fits found none)

pub good_section : (text : List ℕ) (head : Head) (nodes book : List Node) (rest : List ℕ) (lines : List SectionLine) (left behind name type : List ℕ) → IsHeadLine text head → HasNodes head.rest.now nodes rest → IsUnfit head.read.book nodes None
    → HasLines (length nodes) rest lines left → left ≡ codes "end\n" ++ behind → name ≡ head.name.now → type ≡ head.type_text.now → book ≡ nodes
    → IsSectionForm (record { name = name; text = type; nodes = book; lines = lines }) × (text ≡ section_text (record { name = name; text = type; nodes = book; lines = lines }) ++ behind)
good_section text head nodes book rest lines left behind name type h has fits found end named typed booked =
    let base = section_of text head.rest.now left behind head.read (record { name = head.name.now; text = head.type_text.now; nodes = nodes; lines = lines }) h.is_name h.one_line h.type_is fits rest h.spelled has found end in
    subst (λ n. IsSectionForm (record { name = n; text = type; nodes = book; lines = lines }) × (text ≡ section_text (record { name = n; text = type; nodes = book; lines = lines }) ++ behind)) (sym named)
    (subst (λ t. IsSectionForm (record { name = head.name.now; text = t; nodes = book; lines = lines }) × (text ≡ section_text (record { name = head.name.now; text = t; nodes = book; lines = lines }) ++ behind)) (sym typed)
    (subst (λ (ns : List Node). IsSectionForm (record { name = head.name.now; text = head.type_text.now; nodes = ns; lines = lines }) × (text ≡ section_text (record { name = head.name.now; text = head.type_text.now; nodes = ns; lines = lines }) ++ behind)) (sym booked) base))

pub none_unfit : (front nodes : List Node) (r : Option ℕ) → IsUnfit front nodes r → ((i : ℕ) → r ≡ Some i → ⊥) → IsUnfit front nodes None
none_unfit front nodes None h other = h
none_unfit front nodes (Some i) h other = absurd (other i refl)
