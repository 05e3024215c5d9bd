-- Functions and records as predicates: they look only at the parts of a test, so their order goes by that of their parts.
use Rattle.std.proofs.Common.{◌≡◌, ℕ, suc, Bool, true, false, not, ◌&&◌, ◌||◌, List, [], refl, sym, ap, ◌∙◌, arith, Some, None}
use Rattle.std.specs.Prelude.{Option, is_none}
use Rattle.mls_book.specs.Tests.{Test, test, depth, FunctionPart, never_function, always_function, dom, cod, RecordPart, never_record, always_record, lacks, at}
use Rattle.mls_book.specs.Predicates.{Predicate, Implies, arrow, field_answer, rcd, join, meet}
use Rattle.mls_book.proofs.Depths.{ImpliesTo, Implies-to}

-- tests of one part alone
abbrev pub only_function : FunctionPart → Test
only_function part = test [] false false part never_record

abbrev pub only_record : RecordPart → Test
only_record part = test [] false false never_function part

not_more : (p q : Bool) → (q ≡ true → p ≡ true) → not p ≡ true → not q ≡ true
not_more true q f e = absurd (cc)
not_more false true f e = let h : false ≡ true = f refl in absurd (cc)
not_more false false f e = refl

not_less : (p q : Bool) → (not p ≡ true → not q ≡ true) → q ≡ true → p ≡ true
not_less true q f e = refl
not_less false true f e = let h : false ≡ true = f refl in absurd (cc)
not_less false false f e = e

-- to one depth more than the parts: the domain the other way round
pub arrow-implies_to : (d : ℕ) (f g f' g' : Predicate) → ImpliesTo d f' f → ImpliesTo d g g' → ImpliesTo (suc d) (arrow f g) (arrow f' g')
arrow-implies_to d f g f' g' domain codomain (test vars p q never_function fields) low e = e
arrow-implies_to d f g f' g' domain codomain (test vars p q always_function fields) low e = e
arrow-implies_to d f g f' g' domain codomain (test vars p q (dom t) fields) low e = not_more (f t) (f' t) (domain t (omega arith)) e
arrow-implies_to d f g f' g' domain codomain (test vars p q (cod t) fields) low e = codomain t (omega arith) e

pub arrow-implies : (f g f' g' : Predicate) → Implies f' f → Implies g g' → Implies (arrow f g) (arrow f' g')
arrow-implies f g f' g' domain codomain (test vars p q never_function fields) e = e
arrow-implies f g f' g' domain codomain (test vars p q always_function fields) e = e
arrow-implies f g f' g' domain codomain (test vars p q (dom t) fields) e = not_more (f t) (f' t) (domain t) e
arrow-implies f g f' g' domain codomain (test vars p q (cod t) fields) e = codomain t e

-- and back
pub arrow-domain : (f g f' g' : Predicate) → Implies (arrow f g) (arrow f' g') → Implies f' f
arrow-domain f g f' g' below t = not_less (f t) (f' t) (below (only_function (dom t)))

pub arrow-codomain : (f g f' g' : Predicate) → Implies (arrow f g) (arrow f' g') → Implies g g'
arrow-codomain f g f' g' below t = below (only_function (cod t))

-- each label of the second is in the first with a lower field
abbrev pub IsFieldwise : (Predicate → Predicate → Type 0) → (List ℕ → Option Predicate) → (List ℕ → Option Predicate) → Type 0
IsFieldwise Below fs gs = (label : List ℕ) (g : Predicate) → gs label ≡ Some g → (f : Predicate) × (fs label ≡ Some f) × Below f g

lacks-implies : (o p : Option Predicate) → ((g : Predicate) → p ≡ Some g → (f : Predicate) × (o ≡ Some f)) → is_none o ≡ true → is_none p ≡ true
lacks-implies o None each e = refl
lacks-implies o (Some g) each e =
    let there : is_none o ≡ false = ap is_none (each g refl).1 in
    absurd (cc)

at-implies : (t : Test) (o p : Option Predicate) → ((g : Predicate) → p ≡ Some g → (f : Predicate) × (o ≡ Some f) × (f t ≡ true → g t ≡ true)) → field_answer o t ≡ true → field_answer p t ≡ true
at-implies t o None each e = refl
at-implies t o (Some g) each e = (each g refl).2 (sym (ap (λ o. field_answer o t) (each g refl).1) ∙ e)

pub rcd-implies_to : (d : ℕ) (fs gs : List ℕ → Option Predicate) → IsFieldwise (ImpliesTo d) fs gs → ImpliesTo (suc d) (rcd fs) (rcd gs)
rcd-implies_to d fs gs each (test vars p q function never_record) low e = e
rcd-implies_to d fs gs each (test vars p q function always_record) low e = e
rcd-implies_to d fs gs each (test vars p q function (lacks label)) low e =
    lacks-implies (fs label) (gs label) (λ g h. let it = each label g h in (it.0, it.1)) e
rcd-implies_to d fs gs each (test vars p q function (at label t)) low e =
    at-implies t (fs label) (gs label) (λ g h. let it = each label g h in (it.0, it.1, it.2 t (omega arith))) e

pub rcd-implies : (fs gs : List ℕ → Option Predicate) → IsFieldwise Implies fs gs → Implies (rcd fs) (rcd gs)
rcd-implies fs gs each t e =
    rcd-implies_to (suc (depth t)) fs gs
    (λ label g h. let it = each label g h in (it.0, it.1, Implies-to (suc (depth t)) it.0 g it.2))
    t (omega arith) e

-- and back
pub rcd-fieldwise : (fs gs : List ℕ → Option Predicate) → Implies (rcd fs) (rcd gs) → IsFieldwise Implies fs gs
rcd-fieldwise fs gs below label g found = go (fs label) refl
  where
    go : (o : Option Predicate) → fs label ≡ o → (f : Predicate) × (fs label ≡ Some f) × Implies f g
    go None e =
        let absent : is_none (gs label) ≡ true = below (only_record (lacks label)) (ap is_none e) in
        let there : is_none (gs label) ≡ false = ap is_none found in
        absurd (cc)
    go (Some f) e = (
      f,
      e,
      λ t h.
          sym (ap (λ o. field_answer o t) found)
          ∙ below (only_record (at label t)) (ap (λ o. field_answer o t) e ∙ h),
    )

-- the join and the meet of two functions
not_and : (p q : Bool) → (not p || not q) ≡ not (p && q)
not_and true q = refl
not_and false q = refl

not_or : (p q : Bool) → (not p && not q) ≡ not (p || q)
not_or true q = refl
not_or false q = refl

pub join-arrow : (f g h k : Predicate) → join (arrow f g) (arrow h k) ≡ arrow (meet f h) (join g k)
join-arrow f g h k = λ i t. at_test t i
  where
    at_test : (t : Test) → join (arrow f g) (arrow h k) t ≡ arrow (meet f h) (join g k) t
    at_test (test vars p q never_function fields) = refl
    at_test (test vars p q always_function fields) = refl
    at_test (test vars p q (dom t) fields) = not_and (f t) (h t)
    at_test (test vars p q (cod t) fields) = refl

pub meet-arrow : (f g h k : Predicate) → meet (arrow f g) (arrow h k) ≡ arrow (join f h) (meet g k)
meet-arrow f g h k = λ i t. at_test t i
  where
    at_test : (t : Test) → meet (arrow f g) (arrow h k) t ≡ arrow (join f h) (meet g k) t
    at_test (test vars p q never_function fields) = refl
    at_test (test vars p q always_function fields) = refl
    at_test (test vars p q (dom t) fields) = not_or (f t) (h t)
    at_test (test vars p q (cod t) fields) = refl

-- the fields of a join: the common labels, with joined fields
abbrev pub joined_field : Option Predicate → Option Predicate → Option Predicate
joined_field (Some f) (Some g) = Some (join f g)
joined_field _ _ = None

-- the fields of a meet: all labels, and the common fields met
abbrev pub met_field : Option Predicate → Option Predicate → Option Predicate
met_field (Some f) (Some g) = Some (meet f g)
met_field (Some f) None = Some f
met_field None o = o

lacks-joined : (o p : Option Predicate) → (is_none o || is_none p) ≡ is_none (joined_field o p)
lacks-joined None p = refl
lacks-joined (Some f) None = refl
lacks-joined (Some f) (Some g) = refl

at-joined : (o p : Option Predicate) (t : Test) → (field_answer o t || field_answer p t) ≡ field_answer (joined_field o p) t
at-joined None p t = refl
at-joined (Some f) None t = go (f t)
  where
    go : (b : Bool) → (b || true) ≡ true
    go true = refl
    go false = refl
at-joined (Some f) (Some g) t = refl

lacks-met : (o p : Option Predicate) → (is_none o && is_none p) ≡ is_none (met_field o p)
lacks-met None None = refl
lacks-met None (Some g) = refl
lacks-met (Some f) None = refl
lacks-met (Some f) (Some g) = refl

at-met : (o p : Option Predicate) (t : Test) → (field_answer o t && field_answer p t) ≡ field_answer (met_field o p) t
at-met None p t = refl
at-met (Some f) None t = go (f t)
  where
    go : (b : Bool) → (b && true) ≡ b
    go true = refl
    go false = refl
at-met (Some f) (Some g) t = refl

pub join-rcd : (fs gs : List ℕ → Option Predicate) → join (rcd fs) (rcd gs) ≡ rcd (λ label. joined_field (fs label) (gs label))
join-rcd fs gs = λ i t. at_test t i
  where
    at_test : (t : Test) → join (rcd fs) (rcd gs) t ≡ rcd (λ label. joined_field (fs label) (gs label)) t
    at_test (test vars p q function never_record) = refl
    at_test (test vars p q function always_record) = refl
    at_test (test vars p q function (lacks label)) = lacks-joined (fs label) (gs label)
    at_test (test vars p q function (at label t)) = at-joined (fs label) (gs label) t

pub meet-rcd : (fs gs : List ℕ → Option Predicate) → meet (rcd fs) (rcd gs) ≡ rcd (λ label. met_field (fs label) (gs label))
meet-rcd fs gs = λ i t. at_test t i
  where
    at_test : (t : Test) → meet (rcd fs) (rcd gs) t ≡ rcd (λ label. met_field (fs label) (gs label)) t
    at_test (test vars p q function never_record) = refl
    at_test (test vars p q function always_record) = refl
    at_test (test vars p q function (lacks label)) = lacks-met (fs label) (gs label)
    at_test (test vars p q function (at label t)) = at-met (fs label) (gs label) t
