-- Places of what is known.
--     known_low        a scheme is at a place of the list
--     found_at         what is read there
--     read_at, named_read      what is read where it is known
--     none_at          nothing that was taken has a scheme
use Rattle.std.proofs.Common.{◌≡◌, ◌∙◌, ℕ, ◌<◌, List, length, sym, ap, subst, Some, get_or, slice_get}
use Rattle.std.proofs.lemmas.Option.{get_or_from_slice_get, slice_get-get_or, slice_get_within}
use Rattle.mls_automaton.specs.declared.scheme.Scheme.{Scheme}
use Rattle.mls_biunify.specs.Live.{Live}
use Rattle.mls_infer.specs.declared.done.Known.{Known}
use Rattle.mls_infer.specs.declared.done.Known.TheVariants as known
use Rattle.mls_infer.specs.Doing.{scheme_known, schemes_known}
use Rattle.mls_infer.specs.Finished.{Has}
use Rattle.mls_infer.proofs.DoneNodes.{known_at}

pub read_at : (nodes : List Known) (i : ℕ) (k v : Known) → slice_get nodes i ≡ Some k → v ≡ get_or nodes i v → v ≡ k
read_at nodes i k v at read = read ∙ get_or_from_slice_get nodes i k v at

-- and it is known by what is read
pub named_read : (nodes : List Known) (i : ℕ) (k l v : Known) → slice_get nodes i ≡ Some k → v ≡ get_or nodes i v → v ≡ l → slice_get nodes i ≡ Some l
named_read nodes i k l v at read is = at ∙ ap Some (sym (read_at nodes i k v at read) ∙ is)

module _ (live : Live) (nodes : List Known) (i : ℕ) (s : Scheme) (has : Has (schemes_known live nodes) i s) where
  pub known_low : i < length nodes
  known_low = let it = known_at live nodes i s has in slice_get_within nodes i it.0 it.1

  pub found_at : (k v : Known) → k ≡ v → v ≡ get_or nodes i v → slice_get nodes i ≡ Some k
  found_at k v same read = slice_get-get_or nodes i v known_low ∙ ap Some (sym read ∙ sym same)

  pub none_at : slice_get nodes i ≡ Some known.Taken → ⊥
  none_at at =
      let it = known_at live nodes i s has in
      let both : Some it.0 ≡ Some known.Taken = sym it.1 ∙ at in
      let same : it.0 ≡ known.Taken = cc in
      let P : Known → Type 0 = λ k. scheme_known live k ≡ Some s in
      let none : scheme_known live known.Taken ≡ Some s = subst P same it.2 in
      absurd (cc)
