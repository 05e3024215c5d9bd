-- What the machine measures is the type of the tree.
use Rattle.std.proofs.Common.{◌≡◌, ℕ, true, false, List, [], ◌∷◌, ◌++◌, reverse, refl, sym, ap, ◌∙◌, append-nil, Bool, subst}
use Rattle.std.specs.Prelude.{cond}
use Rattle.std.proofs.lemmas.List.{append_assoc, reverse-append, reverse-reverse}
use Rattle.mls_typetext.specs.declared.piece.Size.{Size}
use Rattle.mls_typetext.specs.declared.piece.Item.{Item}
use Rattle.mls_typetext.specs.declared.piece.Item.TheVariants as item
use Rattle.mls_typetext.specs.declared.piece.Member.{Member}
use Rattle.mls_typetext.specs.declared.piece.Member.TheVariants as member
use Rattle.mls_typetext.specs.Trees.{TypeTree, a_name, a_bool, an_int, a_top, a_bot, an_arrow, a_record, a_join, a_meet, a_rec, TypeFields, no_field, a_field}
use Rattle.mls_typetext.specs.steps.Items.{items, field_items}
use Rattle.mls_typetext.specs.Books.{Ty, var, again, arrow, join, meet, fields, rec, TyFields, one, is_in, place_in, variables_in, field_variables, variables, numbered, numbered_fields, type_of, here, under, under_fields}
use Rattle.mls_typetext.specs.steps.Members.{size_of, members, field_members}
use Rattle.mls_typetext.specs.steps.Measuring.{State, measured, measure_all, first_size, without_size}
use Rattle.mls_typetext.proofs.NumberedNames.{added, added-append, Begins, begins-self, begins-added, number-is, added-first_places}

-- the machine on pieces, from these variables, sizes and totals, and these pieces behind it
abbrev pub from : List (List ℕ) → List Size → List ℕ → List Member → List Item → State
from names sizes totals out all = measure_all (record { names = names; sizes = sizes; totals = totals; pieces = out }) all

-- a tree adds its variables, its size and its pieces
abbrev pub Measures : TypeTree → Type 0
Measures t =
    (vars recs names : List (List ℕ)) (sizes : List Size) (totals : List ℕ) (out : List Member) (rest : List Item) → Begins (added names (variables_in recs t)) vars
    → from names sizes totals out (items recs t ++ rest)
    ≡ from (added names (variables_in recs t)) (size_of (numbered vars recs t) ∷ sizes) totals (out ++ members (numbered vars recs t)) rest

-- and fields add how many nodes lie below them
abbrev pub MeasuresFields : TypeFields → Type 0
MeasuresFields all =
    (vars recs names : List (List ℕ)) (sizes : List Size) (totals : List ℕ) (out : List Member) (rest : List Item) → Begins (added names (field_variables recs all)) vars
    → from names sizes totals out (field_items recs all ++ rest)
    ≡ from (added names (field_variables recs all)) sizes (under_fields (numbered_fields vars recs all) ∷ totals) (out ++ field_members (numbered_fields vars recs all)) rest

module _ {A : Type 0} where
  one-more : (xs : List A) (x : A) (rest : List A) → (xs ++ x ∷ []) ++ rest ≡ xs ++ (x ∷ rest)
  one-more xs x rest = append_assoc xs (x ∷ []) rest

  two-more : (xs ys : List A) (x : A) (rest : List A) → (xs ++ (ys ++ x ∷ [])) ++ rest ≡ xs ++ (ys ++ (x ∷ rest))
  two-more xs ys x rest = append_assoc xs (ys ++ x ∷ []) rest ∙ ap (λ zs. xs ++ zs) (one-more ys x rest)

  three-behind : (out xs ys : List A) (x : A) → ((out ++ xs) ++ ys) ++ x ∷ [] ≡ out ++ (xs ++ (ys ++ x ∷ []))
  three-behind out xs ys x = append_assoc (out ++ xs) ys (x ∷ []) ∙ append_assoc out xs (ys ++ x ∷ [])

measures-name : (at : ℕ) (x : List ℕ) → Measures (a_name at x)
unfolding measure_all here under
measures-name at x vars recs names sizes totals out rest it = go (is_in recs x) it
  where
    go : (b : Bool) → Begins (added names (cond b [] (x ∷ []))) vars
        → from names sizes totals out ((cond b (item.Again (place_in recs x)) (item.Variable x) ∷ []) ++ rest)
        ≡ from (added names (cond b [] (x ∷ []))) (size_of (cond b (again (place_in recs x)) (var (place_in vars x))) ∷ sizes) totals (out ++ members (cond b (again (place_in recs x)) (var (place_in vars x)))) rest
    go true it = refl
    go false it = ap (λ n. from (added names (x ∷ [])) (size_of (var n) ∷ sizes) totals (out ++ member.Var n ∷ []) rest) (number-is x names vars it)

-- the parts of a tree one after the other
measures-two : (s t : TypeTree) → Measures s → Measures t
    → (vars recs names : List (List ℕ)) (sizes : List Size) (totals : List ℕ) (out : List Member) (last : Item) (rest : List Item) → Begins (added names (variables_in recs s ++ variables_in recs t)) vars
    → from names sizes totals out ((items recs s ++ (items recs t ++ last ∷ [])) ++ rest)
    ≡ from (added names (variables_in recs s ++ variables_in recs t)) (size_of (numbered vars recs t) ∷ size_of (numbered vars recs s) ∷ sizes) totals ((out ++ members (numbered vars recs s)) ++ members (numbered vars recs t)) (last ∷ rest)
measures-two s t first second vars recs names sizes totals out last rest it =
    let xs : List (List ℕ) = variables_in recs s in
    let ys : List (List ℕ) = variables_in recs t in
    let both : Begins (added (added names xs) ys) vars = subst (λ ns. Begins ns vars) (added-append names xs ys) it in
    let a : Ty = numbered vars recs s in
    let b : Ty = numbered vars recs t in
    ap (from names sizes totals out) (two-more (items recs s) (items recs t) last rest)
    ∙ (first vars recs names sizes totals out (items recs t ++ (last ∷ rest)) (begins-added ys (added names xs) vars both)
    ∙ (second vars recs (added names xs) (size_of a ∷ sizes) totals (out ++ members a) (last ∷ rest) both
    ∙ ap (λ ns. from ns (size_of b ∷ size_of a ∷ sizes) totals ((out ++ members a) ++ members b) (last ∷ rest)) (sym (added-append names xs ys))))

measures-arrow : (s t : TypeTree) → Measures s → Measures t → Measures (an_arrow s t)
unfolding measure_all here under
measures-arrow s t first second vars recs names sizes totals out rest it =
    let a : Ty = numbered vars recs s in
    let b : Ty = numbered vars recs t in
    measures-two s t first second vars recs names sizes totals out item.Arrow rest it
    ∙ ap (λ out. from (added names (variables_in recs s ++ variables_in recs t)) (size_of (arrow a b) ∷ sizes) totals out rest) (three-behind out (members a) (members b) (member.Arrow (size_of a) (size_of b)))

measures-join : (s t : TypeTree) (at : ℕ) → Measures s → Measures t → Measures (a_join s at t)
unfolding measure_all here under
measures-join s t at first second vars recs names sizes totals out rest it =
    let a : Ty = numbered vars recs s in
    let b : Ty = numbered vars recs t in
    measures-two s t first second vars recs names sizes totals out item.Join rest it
    ∙ ap (λ out. from (added names (variables_in recs s ++ variables_in recs t)) (size_of (join a b) ∷ sizes) totals out rest) (three-behind out (members a) (members b) (member.Join (size_of a) (size_of b)))

measures-meet : (s t : TypeTree) (at : ℕ) → Measures s → Measures t → Measures (a_meet s at t)
unfolding measure_all here under
measures-meet s t at first second vars recs names sizes totals out rest it =
    let a : Ty = numbered vars recs s in
    let b : Ty = numbered vars recs t in
    measures-two s t first second vars recs names sizes totals out item.Meet rest it
    ∙ ap (λ out. from (added names (variables_in recs s ++ variables_in recs t)) (size_of (meet a b) ∷ sizes) totals out rest) (three-behind out (members a) (members b) (member.Meet (size_of a) (size_of b)))

measures-rec : (x : List ℕ) (t : TypeTree) → Measures t → Measures (a_rec x t)
unfolding measure_all here under
measures-rec x t body vars recs names sizes totals out rest it =
    let a : Ty = numbered vars (x ∷ recs) t in
    ap (from names sizes totals out) (one-more (items (x ∷ recs) t) item.Rec rest)
    ∙ (body vars (x ∷ recs) names sizes totals out (item.Rec ∷ rest) it
    ∙ ap (λ out. from (added names (variables_in (x ∷ recs) t)) (size_of (rec a) ∷ sizes) totals out rest) (append_assoc out (members a) (member.Rec (size_of a) ∷ [])))

measures-record : (all : TypeFields) → MeasuresFields all → Measures (a_record all)
unfolding measure_all here under
measures-record all lays vars recs names sizes totals out rest it =
    let a : TyFields = numbered_fields vars recs all in
    ap (from names sizes totals out) (one-more (field_items recs all) item.Record rest)
    ∙ (lays vars recs names sizes totals out (item.Record ∷ rest) it
    ∙ ap (λ out. from (added names (field_variables recs all)) (size_of (fields a) ∷ sizes) totals out rest) (append_assoc out (field_members a) (member.Record ∷ [])))

measures-field : (at : ℕ) (label : List ℕ) (t : TypeTree) (all : TypeFields) → Measures t → MeasuresFields all → MeasuresFields (a_field at label t all)
unfolding measure_all under
measures-field at label t all first second vars recs names sizes totals out rest it =
    let xs : List (List ℕ) = variables_in recs t in
    let ys : List (List ℕ) = field_variables recs all in
    let both : Begins (added (added names xs) ys) vars = subst (λ ns. Begins ns vars) (added-append names xs ys) it in
    let a : Ty = numbered vars recs t in
    let bs : TyFields = numbered_fields vars recs all in
    ap (from names sizes totals out) (two-more (items recs t) (field_items recs all) (item.Field label) rest)
    ∙ (first vars recs names sizes totals out (field_items recs all ++ (item.Field label ∷ rest)) (begins-added ys (added names xs) vars both)
    ∙ (second vars recs (added names xs) (size_of a ∷ sizes) totals (out ++ members a) (item.Field label ∷ rest) both
    ∙ (λ i. from (sym (added-append names xs ys) i) sizes (under_fields (one label a bs) ∷ totals) (three-behind out (members a) (field_members bs) (member.Field label (size_of a)) i) rest)))

mutual
  unfolding measure_all here under

  measures : (t : TypeTree) → Measures t
  measures (a_name at x) vars recs names sizes totals out rest it = measures-name at x vars recs names sizes totals out rest it
  measures a_bool vars recs names sizes totals out rest it = refl
  measures an_int vars recs names sizes totals out rest it = refl
  measures (a_top at) vars recs names sizes totals out rest it = refl
  measures (a_bot at) vars recs names sizes totals out rest it = refl
  measures (an_arrow s t) vars recs names sizes totals out rest it = measures-arrow s t (measures s) (measures t) vars recs names sizes totals out rest it
  measures (a_record all) vars recs names sizes totals out rest it = measures-record all (measures-fields all) vars recs names sizes totals out rest it
  measures (a_join s at t) vars recs names sizes totals out rest it = measures-join s t at (measures s) (measures t) vars recs names sizes totals out rest it
  measures (a_meet s at t) vars recs names sizes totals out rest it = measures-meet s t at (measures s) (measures t) vars recs names sizes totals out rest it
  measures (a_rec x t) vars recs names sizes totals out rest it = measures-rec x t (measures t) vars recs names sizes totals out rest it

  measures-fields : (all : TypeFields) → MeasuresFields all
  measures-fields no_field vars recs names sizes totals out rest it = refl
  measures-fields (a_field at label t all) vars recs names sizes totals out rest it = measures-field at label t all (measures t) (measures-fields all) vars recs names sizes totals out rest it

-- so from the start the machine measures the type of the tree
pub measures-type : (t : TypeTree) → from [] [] [] [] (items [] t) ≡ record { names = variables t; sizes = size_of (type_of t) ∷ []; totals = []; pieces = members (type_of t) }
unfolding measure_all
measures-type t =
    let same : added [] (variables_in [] t) ≡ variables t = added-first_places (variables_in [] t) in
    ap (from [] [] [] []) (sym (append-nil (items [] t)))
    ∙ (measures t (variables t) [] [] [] [] [] [] (subst (λ ns. Begins ns (variables t)) (sym same) (begins-self (variables t)))
    ∙ ap (λ ns. from ns (size_of (type_of t) ∷ []) [] (members (type_of t)) []) same)

-- the machine takes one piece after another from the end of the pieces
pub measure-step : (s s' : State) (last : Item) (all all' : List Item) (end : State) → all ≡ all' ++ last ∷ [] → s' ≡ measured last s
    → end ≡ measure_all s (reverse all) → end ≡ measure_all s' (reverse all')
unfolding measure_all
measure-step s s' last all all' end e step is =
    is ∙ (ap (λ all. measure_all s (reverse all)) e
    ∙ (ap (measure_all s) (reverse-append all' (last ∷ []))
    ∙ ap (λ (s : State). measure_all s (reverse all')) (sym step)))

pub measure-end : (s : State) (all : List Item) (end : State) → all ≡ [] → end ≡ measure_all s (reverse all) → s ≡ end
unfolding measure_all
measure-end s all end e is = sym (is ∙ ap (λ all. measure_all s (reverse all)) e)

-- what is there at the end
pub record IsMeasured (t : TypeTree) (size : Size) (s : State) : Type 0 where
  pub pieces : s.pieces ≡ members (type_of t)
  pub whole : size ≡ size_of (type_of t)
  pub names : s.names ≡ variables t

pub measured-whole : (t : TypeTree) (all : List Item) (size : Size) (s s' : State) → s ≡ from [] [] [] [] (reverse all) → all ≡ reverse (items [] t)
    → size ≡ first_size s.sizes → s' ≡ without_size s → IsMeasured t size s'
measured-whole t all size s s' is e whole rest =
    let end : s ≡ record { names = variables t; sizes = size_of (type_of t) ∷ []; totals = []; pieces = members (type_of t) } =
    is ∙ (ap (λ all. from [] [] [] [] (reverse all)) e ∙ (ap (from [] [] [] []) (reverse-reverse (items [] t)) ∙ measures-type t)) in
    record {
      pieces = ap (λ (s : State). s.pieces) rest ∙ ap (λ (s : State). s.pieces) end;
      whole = whole ∙ ap (λ (s : State). first_size s.sizes) end;
      names = ap (λ (s : State). s.names) rest ∙ ap (λ (s : State). s.names) end;
    }
