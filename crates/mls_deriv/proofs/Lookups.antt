-- Look-ups of binders and labels by halves.
use Rattle.std.proofs.Common.{◌≡◌, ◌∙◌, ℕ, zero, suc, ◌<◌, List, [], ◌∷◌, sym, ap, arith, length, get_or, Some, None, nat_eq}
use Rattle.std.specs.Prelude.{bytes_eq, option_map}
use Rattle.std.specs.Ordering.{nat_cmp, ordering_index}
use Rattle.std.specs.declared.cmp.Ordering.{Ordering}
use Rattle.std.specs.declared.cmp.Ordering.TheVariants.{Less, Equal, Greater}
use Rattle.std.specs.Cmp.Lexicographic.{slice_cmp}
use Rattle.std.specs.List.Sorted.{IsNonDecreasingBy, IsPartitionPoint}
use Rattle.std.proofs.lemmas.Bool.Decides.{Decides-eqb}
use Rattle.std.proofs.lemmas.Cmp.{nat_cmp_total, nat_list_cmp_total}
use Rattle.std.proofs.lemmas.Map.Lookups.{exact_unsigned}
use Rattle.std.proofs.lemmas.Map.Text.{is_eq-slice_cmp}
use Rattle.std.proofs.lemmas.Slice.Eq.{bytes_eq-Decides}
use Rattle.std.specs.Cmp.{nat_cmp_is}
use Rattle.std.specs.Ordering.{is_eq}
use Rattle.mls_book.specs.declared.book.Field.{Field}
use Rattle.mls_book.specs.Books.{AreRising, field_at}
use Rattle.mls_deriv.specs.declared.derivation.BinderNode.{BinderNode}
use Rattle.mls_deriv.specs.Steps.{IsRising}
use Rattle.mls_deriv.specs.inner.Rules.{node_in}
use Rattle.mls_deriv.proofs.Halves.{keys_rise, found, lacking}

abbrev pub binder_place : ℕ → BinderNode → Ordering
binder_place x entry = nat_cmp entry.binder x

abbrev pub label_place : List ℕ → Field → Ordering
label_place label field = slice_cmp nat_cmp field.label label

less_binders : (env : List BinderNode) → IsRising env → (i j : ℕ) (d : BinderNode) → i < j → j < length env → nat_cmp (get_or env i d).binder (get_or env j d).binder ≡ Less
less_binders [] rising i j d less low = absurd (omega arith)
less_binders (entry ∷ rest) rising i zero d less low = absurd (omega arith)
less_binders (entry ∷ rest) rising zero (suc j) d less low = sym (nat_cmp_is entry.binder (get_or rest j d).binder Less (rising.0 j d (omega arith)))
less_binders (entry ∷ rest) rising (suc i) (suc j) d less low = less_binders rest rising.1 i j d (omega arith) (omega arith)

less_labels : (fields : List Field) → AreRising fields → (i j : ℕ) (d : Field) → i < j → j < length fields → slice_cmp nat_cmp (get_or fields i d).label (get_or fields j d).label ≡ Less
less_labels [] rising i j d less low = absurd (omega arith)
less_labels (field ∷ rest) rising i zero d less low = absurd (omega arith)
less_labels (field ∷ rest) rising zero (suc j) d less low = rising.0 j d (omega arith)
less_labels (field ∷ rest) rising (suc i) (suc j) d less low = less_labels rest rising.1 i j d (omega arith) (omega arith)

equal_labels : (x y : List ℕ) → slice_cmp nat_cmp x y ≡ Equal → x ≡ y
equal_labels x y e = (bytes_eq-Decides x y).0 (sym (is_eq-slice_cmp x y) ∙ ap is_eq e)

module _ (env : List BinderNode) (rising : IsRising env) (x : ℕ) where
  pub binders_rise : IsNonDecreasingBy (λ entry. ordering_index (binder_place x entry)) env
  binders_rise = keys_rise (λ (entry : BinderNode). entry.binder) nat_cmp nat_cmp_total nat_eq Decides-eqb exact_unsigned env (less_binders env rising) x

  pub binder_found : (i : ℕ) (entry : BinderNode) → i < length env → entry ≡ get_or env i entry → binder_place x entry ≡ Equal → node_in env x ≡ Some entry.node.0
  binder_found i entry low is e =
      ap (option_map (λ (entry : BinderNode). entry.node.0)) (found (λ (entry : BinderNode). entry.binder) nat_cmp nat_cmp_total nat_eq Decides-eqb exact_unsigned env (less_binders env rising) x i entry low is e)

  pub binder_lacking : (i : ℕ) → IsPartitionPoint (λ entry. binder_place x entry ≡ Less) (λ entry. binder_place x entry ≡ Greater) env i → node_in env x ≡ None
  binder_lacking i split =
      ap (option_map (λ (entry : BinderNode). entry.node.0)) (lacking (λ (entry : BinderNode). entry.binder) nat_cmp nat_cmp_total nat_eq Decides-eqb exact_unsigned env (less_binders env rising) x i split)

module _ (fields : List Field) (rising : AreRising fields) (label : List ℕ) where
  pub labels_rise : IsNonDecreasingBy (λ field. ordering_index (label_place label field)) fields
  labels_rise = keys_rise (λ (field : Field). field.label) (slice_cmp nat_cmp) nat_list_cmp_total bytes_eq bytes_eq-Decides equal_labels fields (less_labels fields rising) label

  pub label_found : (i : ℕ) (field : Field) → i < length fields → field ≡ get_or fields i field → label_place label field ≡ Equal → field_at label fields ≡ Some field.node
  label_found i field low is e =
      ap (option_map (λ (field : Field). field.node)) (found (λ (field : Field). field.label) (slice_cmp nat_cmp) nat_list_cmp_total bytes_eq bytes_eq-Decides equal_labels fields (less_labels fields rising) label i field low is e)

  pub label_lacking : (i : ℕ) → IsPartitionPoint (λ field. label_place label field ≡ Less) (λ field. label_place label field ≡ Greater) fields i → field_at label fields ≡ None
  label_lacking i split =
      ap (option_map (λ (field : Field). field.node)) (lacking (λ (field : Field). field.label) (slice_cmp nat_cmp) nat_list_cmp_total bytes_eq bytes_eq-Decides equal_labels fields (less_labels fields rising) label i split)
