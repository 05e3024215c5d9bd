-- What is known of names and labels, where a map has a name more or less, and a list a label more.
use Rattle.std.proofs.Common.{◌≡◌, ℕ, List, ap, ◌∙◌}
use Rattle.std.specs.Prelude.{Option, cond}
use Rattle.std.specs.BTreeMap.{BTreeMap, get, Updates}
use Rattle.std.specs.Ordering.{nat_cmp}
use Rattle.std.specs.Cmp.Lexicographic.{slice_cmp}
use Rattle.std.proofs.lemmas.Map.Text.{is_eq-slice_cmp}
use Rattle.mls_typetext.specs.declared.resolve.NamePlace.{NamePlace}
use Rattle.mls_typetext.specs.declared.resolve.NameReader.{NameReader}
use Rattle.mls_typetext.specs.steps.NameMachine.{naming, with_label}
use Rattle.mls_typetext.specs.steps.NameReaders.{known_of}
use Rattle.mls_typetext.specs.steps.LabelLists.{is_among, HasAdded}

pub named : (r : NameReader) (new : BTreeMap (List ℕ) NamePlace) (x : List ℕ) (meaning : Option NamePlace) → Updates (slice_cmp nat_cmp) r.recs new x meaning
    → known_of (record r { recs = new }) ≡ naming x meaning (known_of r)
named r new x meaning updates = λ i. record {
  recs = λ y. (updates.0 y ∙ ap (λ b. cond b meaning (get (slice_cmp nat_cmp) r.recs y)) (is_eq-slice_cmp x y)) i;
  labels = is_among r.labels;
  fault = r.fault;
  items = r.items.items;
}

pub labelled : (r : NameReader) (new : List (List ℕ)) (label : List ℕ) → HasAdded label r.labels new → known_of (record r { labels = new }) ≡ with_label label (known_of r)
labelled r new label added = λ i. record {
  recs = get (slice_cmp nat_cmp) r.recs;
  labels = λ x. added x i;
  fault = r.fault;
  items = r.items.items;
}
