-- What imports declare, read one after another.
use Rattle.std.proofs.Common.{◌≡◌, ◌⊎◌, inl, inr, ℕ, zero, suc, ◌+◌, ◌<◌, List, [], ◌∷◌, ◌++◌, length, map, take, drop, get_or, Contains, refl, sym, ap, ◌∙◌, subst}
use Rattle.std.proofs.lemmas.List.{take-append-drop, take_more}
use Rattle.std.proofs.lemmas.List.Elements.{Contains-append_left, Contains-append_right}
use Rattle.std.proofs.lemmas.Option.{slice_get_within, slice_get-get_or}
use Rattle.std.specs.Prelude.{slice_get, Option, Some, Ok, Err}
use Rattle.mls_base.specs.Files.{Files}
use Rattle.mls_automaton.proofs.Lists.{Contains-here}
use Rattle.mls_solver.proofs.Taking.{slice_get-contains}
use Rattle.mls_grammar.specs.declared.module.Import.{Import}
use Rattle.mls_grammar.specs.declared.module.Module.{Module}
use Rattle.mls_grammar.specs.Trees.{ImportTree}
use Rattle.mls_grammar.specs.Modules.{AreDistinct, IsModuleText, import_of}
use Rattle.mls_iface.specs.declared.interface.Interface.{Interface}
use Rattle.mls_top.specs.declared.answer.Stop.{Stop}
use Rattle.mls_top.specs.Lines.{interface_file}
use Rattle.mls_top.specs.Outcomes.{ReadsInterface, ReadsImports, no_import, first_refused, later_refused, all_read}
use Rattle.mls_top.specs.Refusals.{Refusal}
use Rattle.mls_top.specs.steps.Answering.{IsStop}
use Rattle.mls_top.specs.steps.Fetching.{Learns, IsInterfaceFile}
use Rattle.mls_top.proofs.FileNames.{not_yet_fetched}
use Rattle.mls_top.proofs.Learning.{learned_then, learned_both, learned_nothing}
use Rattle.mls_top.proofs.Telling.{stop_then}

some_is : {X : Type 0} {x y : X} → Some x ≡ Some y → x ≡ y
some_is e = cc

module _ (files : Files) where
  -- one import more is read
  pub one_more_read : (front : List Import) (i : Import) (read : List Interface) (j : Interface) → ReadsImports files front (Ok read) → ReadsInterface files i.name (Ok j)
      → ReadsImports files (front ++ i ∷ []) (Ok (read ++ j ∷ []))
  one_more_read [] i _ j no_import it = all_read it no_import
  one_more_read (k ∷ front) i _ j (all_read {others} first rest) it = all_read first (one_more_read front i others j rest it)

  -- what an import among them declares
  pub read_among : (imports : List Import) (read : List Interface) → ReadsImports files imports (Ok read) → (k : ℕ) (i : Import) (j : Interface) → slice_get imports k ≡ Some i → slice_get read k ≡ Some j
      → ReadsInterface files i.name (Ok j)
  read_among [] _ no_import k i j at at' = absurd (cc)
  read_among (first ∷ imports) _ (all_read {first = f} {others} it rest) zero i j at at' =
      let same : first ≡ i = some_is at in
      let one : f ≡ j = some_is at' in
      let P : Import → Type 0 = λ i. ReadsInterface files i.name (Ok j) in
      let Q : Interface → Type 0 = λ j. ReadsInterface files first.name (Ok j) in
      subst P same (subst Q one it)
  read_among (first ∷ imports) _ (all_read {others} it rest) (suc k) i j at at' = read_among imports others rest k i j at at'

  -- the import at a number, where those before it are read
  refused_at : (imports : List Import) (k : ℕ) (i : Import) (read : List Interface) (r : Refusal) → slice_get imports k ≡ Some i → ReadsImports files (take k imports) (Ok read) → ReadsInterface files i.name (Err r)
      → ReadsImports files imports (Err r)
  refused_at [] k i read r at before it = absurd (cc)
  refused_at (first ∷ imports) zero i read r at before it =
      let same : first ≡ i = some_is at in
      let P : Import → Type 0 = λ i. ReadsInterface files i.name (Err r) in
      first_refused (subst P (sym same) it)
  refused_at (first ∷ imports) (suc k) i _ r at (all_read {others} one rest) it = later_refused one (refused_at imports k i others r at rest it)

contained : (imports : List Import) (k : ℕ) (i : Import) → Contains (take k imports) i → Contains imports i
contained imports k i inside = let P : List Import → Type 0 = λ is. Contains is i in subst P (take-append-drop k imports) (Contains-append_left (take k imports) (drop k imports) i inside)

contained_at : (imports : List Import) (k : ℕ) (i : Import) → slice_get imports k ≡ Some i → Contains imports i
contained_at imports k i at = slice_get-contains imports k i at

module _ (told : Option Files) (imports : List Import) (distinct : AreDistinct (map (λ (i : Import). i.name) imports)) (k : ℕ) (i : Import) (at : slice_get imports k ≡ Some i)
    (read : List Interface) (before : Learns told (IsInterfaceFile (take k imports)) (λ files. ReadsImports files (take k imports) (Ok read))) where
  with_next : (P : Files → Type 0) → Learns told (λ f. f ≡ interface_file i.name) P
      → Learns told (λ f. IsInterfaceFile (take k imports) f ⊎ (f ≡ interface_file i.name)) (λ files. ReadsImports files (take k imports) (Ok read) × P files)
  with_next P next =
      learned_both (IsInterfaceFile (take k imports)) (λ f. f ≡ interface_file i.name) (λ files. ReadsImports files (take k imports) (Ok read)) P
      (not_yet_fetched imports k i at distinct) told before next

  among : (f : List ℕ) → IsInterfaceFile (take k imports) f ⊎ (f ≡ interface_file i.name) → IsInterfaceFile imports f
  among f (inl one) = (one.0, contained imports k one.0 one.1, one.2)
  among f (inr same) = (i, contained_at imports k i at, same)

  -- the next import is refused, and with it all of them
  pub next_refused : (mid : Option Files) → mid ≡ told → (s : Stop) → IsStop (λ r. Learns mid (λ f. f ≡ interface_file i.name) (λ files. ReadsInterface files i.name (Err r))) s
      → IsStop (λ r. Learns told (IsInterfaceFile imports) (λ files. ReadsImports files imports (Err r))) s
  next_refused mid is s h =
      let T : Option Files → Type 0 = λ told. IsStop (λ r. Learns told (λ f. f ≡ interface_file i.name) (λ files. ReadsInterface files i.name (Err r))) s in
      stop_then (λ r. Learns told (λ f. f ≡ interface_file i.name) (λ files. ReadsInterface files i.name (Err r))) (λ r. Learns told (IsInterfaceFile imports) (λ files. ReadsImports files imports (Err r)))
      (λ r next.
      learned_then told (λ f. IsInterfaceFile (take k imports) f ⊎ (f ≡ interface_file i.name)) (IsInterfaceFile imports)
      (λ files. ReadsImports files (take k imports) (Ok read) × ReadsInterface files i.name (Err r)) (λ files. ReadsImports files imports (Err r))
      among (λ files it. refused_at files imports k i read r at it.0 it.1) (with_next (λ files. ReadsInterface files i.name (Err r)) next))
      s (subst T is h)

  -- it is read
  pub next_read : (mid : Option Files) → mid ≡ told → (j : Interface) → Learns mid (λ f. f ≡ interface_file i.name) (λ files. ReadsInterface files i.name (Ok j))
      → Learns told (IsInterfaceFile (take (k + 1) imports)) (λ files. ReadsImports files (take (k + 1) imports) (Ok (read ++ j ∷ [])))
  next_read mid is j h =
      let T : Option Files → Type 0 = λ told. Learns told (λ f. f ≡ interface_file i.name) (λ files. ReadsInterface files i.name (Ok j)) in
      let low : k < length imports = slice_get_within imports k i at in
      let same : get_or imports k i ≡ i = some_is (sym (slice_get-get_or imports k i low) ∙ at) in
      let more : take (k + 1) imports ≡ take k imports ++ i ∷ [] = take_more imports k i low ∙ ap (λ i. take k imports ++ i ∷ []) same in
      let P : Files → List Import → Type 0 = λ files is. ReadsImports files is (Ok (read ++ j ∷ [])) in
      let F : List ℕ → List Import → Type 0 = λ f is. IsInterfaceFile is f in
      learned_then told (λ f. IsInterfaceFile (take k imports) f ⊎ (f ≡ interface_file i.name)) (IsInterfaceFile (take (k + 1) imports))
      (λ files. ReadsImports files (take k imports) (Ok read) × ReadsInterface files i.name (Ok j)) (λ files. ReadsImports files (take (k + 1) imports) (Ok (read ++ j ∷ [])))
      (λ f n. subst (F f) (sym more) (in_more f n))
      (λ files it. subst (P files) (sym more) (one_more_read files (take k imports) i read j it.0 it.1)) (with_next (λ files. ReadsInterface files i.name (Ok j)) (subst T is h))
    where
      in_more : (f : List ℕ) → IsInterfaceFile (take k imports) f ⊎ (f ≡ interface_file i.name) → IsInterfaceFile (take k imports ++ i ∷ []) f
      in_more f (inl one) = (one.0, Contains-append_left (take k imports) (i ∷ []) one.0 one.1, one.2)
      in_more f (inr same) = (i, Contains-append_right (take k imports) (i ∷ []) i (Contains-here i []), same)

-- no import is read at first
pub none_read : (told : Option Files) (imports : List Import) (read : List Interface) → read ≡ [] → Learns told (IsInterfaceFile (take 0 imports)) (λ files. ReadsImports files (take 0 imports) (Ok read))
none_read told imports read none =
    let P : List Interface → Type 0 = λ read. Learns told (IsInterfaceFile []) (λ files. ReadsImports files [] (Ok read)) in
    subst P (sym none) (learned_nothing told (IsInterfaceFile []) (λ files. ReadsImports files [] (Ok [])) (λ files. no_import))

names_of_trees : (trees : List ImportTree) → map (λ (i : Import). i.name) (map import_of trees) ≡ map (λ (i : ImportTree). i.x) trees
names_of_trees [] = refl
names_of_trees (t ∷ trees) = ap (λ names. t.x ∷ names) (names_of_trees trees)

-- the imports of a module have different names
pub imports_distinct : (text : List ℕ) (m : Module) (imports : List Import) → IsModuleText text m → imports ≡ m.imports → AreDistinct (map (λ (i : Import). i.name) imports)
imports_distinct text m imports is same =
    subst AreDistinct
    (sym (names_of_trees is.tree.imported) ∙ ap (λ (is : List Import). map (λ (i : Import). i.name) is) (sym (same ∙ ap (λ (m : Module). m.imports) is.nodes)))
    is.text_of.no_doubles.imported
