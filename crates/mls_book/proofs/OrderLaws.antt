-- The laws of the order, from those of predicates.
use Rattle.std.proofs.Common.{◌≡◌, ℕ, List, refl, sym, ap, ◌∙◌, subst, Some, None}
use Rattle.std.specs.Prelude.{Option, option_map}
use Rattle.mls_book.specs.declared.book.Node.{Node}
use Rattle.mls_book.specs.declared.book.NodeId.{NodeId}
use Rattle.mls_book.specs.Books.{field_at, IsClosedBook}
use Rattle.mls_book.specs.Predicates.{Predicate, Implies, bot, top, var, arrow, rcd, join, meet}
use Rattle.mls_book.specs.Passes.{passes, field_values}
use Rattle.mls_book.specs.Order.{IsBelow, AreEqual}
use Rattle.mls_book.specs.Laws.{PassesIsTable, BotLeast, TopGreatest, JoinLeastUpper, MeetGreatestLower, Distributive, FunctionJoin, FunctionMeet, IsJoinedField, RecordJoin, IsMetField, RecordMeet, FunctionOrder, RecordOrder}
use Rattle.mls_book.proofs.Table.{passes_by-value, value-bot, value-top, value-arrow, value-rcd, value-join, value-meet}
use Rattle.mls_book.proofs.Depths.{Implies-same, Implies-same_back}
use Rattle.mls_book.proofs.Lattice.{join_left, join_right, join_least, meet_left, meet_right, meet_greatest, meet-join}
use Rattle.mls_book.proofs.Constructors.{arrow-implies, arrow-domain, arrow-codomain, rcd-implies, rcd-fieldwise, join-arrow, meet-arrow, joined_field, met_field, join-rcd, meet-rcd}
use Rattle.mls_book.proofs.Guarded.{passes_by-unique}

pub passes_is_table : PassesIsTable
passes_is_table b closed = (λ i low. passes_by-value var b closed.book i, λ value is i low. passes_by-unique var b closed value is i low)

-- an order of nodes is that of predicates that they are equal to
below_as : (b : List Node) (n : ℕ) (c : List Node) (m : ℕ) (f g : Predicate) → passes b n ≡ f → passes c m ≡ g → Implies f g → IsBelow b n c m
below_as b n c m f g is_f is_g below = λ t e. (λ k. is_g k t) ∙ below t ((λ k. sym is_f k t) ∙ e)

as_below : (b : List Node) (n : ℕ) (c : List Node) (m : ℕ) (f g : Predicate) → passes b n ≡ f → passes c m ≡ g → IsBelow b n c m → Implies f g
as_below b n c m f g is_f is_g below = λ t e. (λ k. sym is_g k t) ∙ below t ((λ k. is_f k t) ∙ e)

-- equal predicates are equal in the order
alike : (b : List Node) (n : ℕ) (c : List Node) (m : ℕ) → passes b n ≡ passes c m → AreEqual b n c m
alike b n c m same = (Implies-same (passes b n) (passes c m) same, Implies-same_back (passes b n) (passes c m) same)

pub bot_least : BotLeast
bot_least b c n m closed closed' low low' is_bot =
    below_as b n c m bot (passes c m) (value-bot var b closed.book n is_bot) refl (λ t e. absurd (cc))

pub top_greatest : TopGreatest
top_greatest b c n m closed closed' low low' is_top =
    below_as b n c m (passes b n) top refl (value-top var c closed'.book m is_top) (λ t e. refl)

pub join_least_upper : JoinLeastUpper
join_least_upper b n i j closed e =
    let f : Predicate = passes b i.0 in
    let g : Predicate = passes b j.0 in
    let is : passes b n ≡ join f g = value-join var b closed.book n i j e in (
      below_as b i.0 b n f (join f g) refl is (join_left f g),
      below_as b j.0 b n g (join f g) refl is (join_right f g),
      λ c m closed' low first second. below_as b n c m (join f g) (passes c m) is refl (join_least f g (passes c m) first second),
    )

pub meet_greatest_lower : MeetGreatestLower
meet_greatest_lower b n i j closed e =
    let f : Predicate = passes b i.0 in
    let g : Predicate = passes b j.0 in
    let is : passes b n ≡ meet f g = value-meet var b closed.book n i j e in (
      below_as b n b i.0 (meet f g) f is refl (meet_left f g),
      below_as b n b j.0 (meet f g) g is refl (meet_right f g),
      λ c m closed' low first second. below_as c m b n (passes c m) (meet f g) refl is (meet_greatest f g (passes c m) first second),
    )

pub distributive : Distributive
distributive b left right i j k join_jk first second closed is_left is_join is_right is_first is_second =
    alike b left b right (
    value-meet var b closed.book left i join_jk is_left
    ∙ (ap (meet (passes b i.0)) (value-join var b closed.book join_jk.0 j k is_join)
    ∙ (meet-join (passes b i.0) (passes b j.0) (passes b k.0)
    ∙ sym (
    value-join var b closed.book right first second is_right
    ∙ (λ n. join (value-meet var b closed.book first.0 i j is_first n) (value-meet var b closed.book second.0 i k is_second n))))))

pub function_join : FunctionJoin
function_join b joined function i j k l first second domain codomain closed is_joined is_first is_second is_function is_domain is_codomain =
    alike b joined b function (
    value-join var b closed.book joined first second is_joined
    ∙ ((λ n. join (value-arrow var b closed.book first.0 i j is_first n) (value-arrow var b closed.book second.0 k l is_second n))
    ∙ (join-arrow (passes b i.0) (passes b j.0) (passes b k.0) (passes b l.0)
    ∙ sym (
    value-arrow var b closed.book function domain codomain is_function
    ∙ (λ n. arrow (value-meet var b closed.book domain.0 i k is_domain n) (value-join var b closed.book codomain.0 j l is_codomain n))))))

pub function_meet : FunctionMeet
function_meet b met function i j k l first second domain codomain closed is_met is_first is_second is_function is_domain is_codomain =
    alike b met b function (
    value-meet var b closed.book met first second is_met
    ∙ ((λ n. meet (value-arrow var b closed.book first.0 i j is_first n) (value-arrow var b closed.book second.0 k l is_second n))
    ∙ (meet-arrow (passes b i.0) (passes b j.0) (passes b k.0) (passes b l.0)
    ∙ sym (
    value-arrow var b closed.book function domain codomain is_function
    ∙ (λ n. arrow (value-join var b closed.book domain.0 i k is_domain n) (value-meet var b closed.book codomain.0 j l is_codomain n))))))

-- the type of the field that is found
abbrev type_of : List Node → Option NodeId → Option Predicate
type_of b o = option_map (λ id. passes b id.0) o

joined_is : (b : List Node) → IsClosedBook b → (o p q : Option NodeId) → IsJoinedField b o p q → joined_field (type_of b o) (type_of b p) ≡ type_of b q
joined_is b closed None p q is = ap (type_of b) (sym is)
joined_is b closed (Some i) None q is = ap (type_of b) (sym is)
joined_is b closed (Some i) (Some j) q is = sym (ap (type_of b) is.1 ∙ ap Some (value-join var b closed.book is.0.0 i j is.2))

pub record_join : RecordJoin
record_join b joined both first second f g h closed is_joined is_first is_second is_both fields =
    alike b joined b both (
    value-join var b closed.book joined first second is_joined
    ∙ ((λ n. join (value-rcd var b closed.book first.0 f is_first n) (value-rcd var b closed.book second.0 g is_second n))
    ∙ (join-rcd (field_values (passes b) f) (field_values (passes b) g)
    ∙ ((λ n. rcd (λ label. joined_is b closed (field_at label f) (field_at label g) (field_at label h) (fields label) n))
    ∙ sym (value-rcd var b closed.book both h is_both)))))

met_is : (b : List Node) → IsClosedBook b → (o p q : Option NodeId) → IsMetField b o p q → met_field (type_of b o) (type_of b p) ≡ type_of b q
met_is b closed None p q is = ap (type_of b) (sym is)
met_is b closed (Some i) None q is = ap (type_of b) (sym is)
met_is b closed (Some i) (Some j) q is = sym (ap (type_of b) is.1 ∙ ap Some (value-meet var b closed.book is.0.0 i j is.2))

pub record_meet : RecordMeet
record_meet b met both first second f g h closed is_met is_first is_second is_both fields =
    alike b met b both (
    value-meet var b closed.book met first second is_met
    ∙ ((λ n. meet (value-rcd var b closed.book first.0 f is_first n) (value-rcd var b closed.book second.0 g is_second n))
    ∙ (meet-rcd (field_values (passes b) f) (field_values (passes b) g)
    ∙ ((λ n. rcd (λ label. met_is b closed (field_at label f) (field_at label g) (field_at label h) (fields label) n))
    ∙ sym (value-rcd var b closed.book both h is_both)))))

pub function_order : FunctionOrder
function_order b c n m i j k l closed closed' is_n is_m =
    let f : Predicate = arrow (passes b i.0) (passes b j.0) in
    let g : Predicate = arrow (passes c k.0) (passes c l.0) in
    let is_f : passes b n ≡ f = value-arrow var b closed.book n i j is_n in
    let is_g : passes c m ≡ g = value-arrow var c closed'.book m k l is_m in (
      λ below.
          let it : Implies f g = as_below b n c m f g is_f is_g below in (
            arrow-domain (passes b i.0) (passes b j.0) (passes c k.0) (passes c l.0) it,
            arrow-codomain (passes b i.0) (passes b j.0) (passes c k.0) (passes c l.0) it,
          ),
      λ parts. below_as b n c m f g is_f is_g (arrow-implies (passes b i.0) (passes b j.0) (passes c k.0) (passes c l.0) parts.0 parts.1),
    )

-- a field of predicates is that of a node
node_of : (b : List Node) (o : Option NodeId) (f : Predicate) → type_of b o ≡ Some f → (j : NodeId) × (o ≡ Some j) × (passes b j.0 ≡ f)
node_of b None f e = absurd (cc)
node_of b (Some j) f e = (j, refl, let same : passes b j.0 ≡ f = cc in same)

pub record_order : RecordOrder
record_order b c n m fs gs closed closed' is_n is_m = (forth, back)
  where
    f : Predicate
    f = rcd (field_values (passes b) fs)

    g : Predicate
    g = rcd (field_values (passes c) gs)

    is_f : passes b n ≡ rcd (field_values (passes b) fs)
    is_f = value-rcd var b closed.book n fs is_n

    is_g : passes c m ≡ rcd (field_values (passes c) gs)
    is_g = value-rcd var c closed'.book m gs is_m

    forth : IsBelow b n c m → (label : List ℕ) (k : NodeId) → field_at label gs ≡ Some k → (j : NodeId) × (field_at label fs ≡ Some j) × IsBelow b j.0 c k.0
    forth below label k found =
        let it = rcd-fieldwise (field_values (passes b) fs) (field_values (passes c) gs) (as_below b n c m (rcd (field_values (passes b) fs)) (rcd (field_values (passes c) gs)) is_f is_g below) label (passes c k.0) (ap (type_of c) found) in
        let j = node_of b (field_at label fs) it.0 it.1 in
        (j.0, j.1, subst (λ h. Implies h (passes c k.0)) (sym j.2) it.2)

    back : ((label : List ℕ) (k : NodeId) → field_at label gs ≡ Some k → (j : NodeId) × (field_at label fs ≡ Some j) × IsBelow b j.0 c k.0) → IsBelow b n c m
    back each =
        below_as b n c m (rcd (field_values (passes b) fs)) (rcd (field_values (passes c) gs)) is_f is_g
        (rcd-implies (field_values (passes b) fs) (field_values (passes c) gs) (λ label h found.
        let k = node_of c (field_at label gs) h found in
        let it = each label k.0 k.1 in
        (passes b it.0.0, ap (type_of b) it.1, subst (Implies (passes b it.0.0)) k.2 it.2)))
