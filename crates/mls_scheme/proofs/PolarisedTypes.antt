-- The book of a type without faults has one polarity for each node, that of its place.
use Rattle.std.proofs.Common.{◌≡◌, ℕ, zero, suc, ◌+◌, ◌<◌, ◌≤◌, Bool, true, false, not, List, [], ◌∷◌, ◌++◌, length, get_or, refl, sym, ap, ◌∙◌, subst, arith, length-append, All, Some}
use Rattle.std.specs.Prelude.{cond, bytes_eq, find, ◌==◌}
use Rattle.std.specs.List.{list_any}
use Rattle.std.proofs.lemmas.List.{get_or-append-add, get_or_append_left}
use Rattle.std.proofs.lemmas.List.Elements.{All-nil}
use Rattle.mls_book.specs.declared.book.Field.{Field}
use Rattle.mls_book.specs.declared.book.Node.{Node}
use Rattle.mls_book.specs.declared.book.Node.TheVariants as node
use Rattle.mls_book.specs.Books.{node_at}
use Rattle.mls_book.proofs.LongerBooks.{AllFrom, AllFrom-append, AllFrom-one}
use Rattle.mls_typetext.specs.declared.scheme.ReadScheme.{ReadScheme}
use Rattle.mls_typetext.specs.declared.scheme.TypeFault.{TypeFault}
use Rattle.mls_typetext.specs.declared.scheme.TypeFault.TheVariants.{NotPolar, Unguarded, Contravariant, DuplicateLabel}
use Rattle.mls_typetext.specs.Trees.{TypeTree, a_name, a_bool, an_int, a_top, a_bot, an_arrow, a_record, a_join, a_meet, a_rec, TypeFields, no_field, a_field}
use Rattle.mls_typetext.specs.Faults.{Around, nearest, same, name_faults, faults, field_faults}
use Rattle.mls_typetext.specs.Books.{Ty, var, again, boolean, integer, top, bot, arrow, join, meet, fields, rec, TyFields, none, one, is_in, place_in, here, under, under_fields, node_in, stands, id, field_nodes, layer, below, below_fields, book_of, root_of, variables, numbered, numbered_fields, type_of}
use Rattle.mls_typetext.specs.Texts.{read_of, IsTypeText}
use Rattle.mls_typetext.proofs.FieldOrder.{All-placed}
use Rattle.mls_typetext.proofs.Fit.{IsFit, AreFit, length-layer, length-below, length-block, block}
use Rattle.mls_typetext.proofs.FitTrees.{names_of, type_of-fit}
use Rattle.mls_automaton.specs.declared.automaton.Polarity.{Polarity}
use Rattle.mls_automaton.specs.declared.automaton.Polarity.TheVariants.{Positive, Negative}
use Rattle.mls_automaton.specs.Automata.{opposite}
use Rattle.mls_scheme.specs.ReadAutomata.{IsPolarised, IsPolarisedNode}
use Rattle.mls_scheme.specs.ReadTypes.{IsPolarisedRead}

-- the polarity of the k-th `rec`
abbrev sign_in : List Polarity → ℕ → Polarity
sign_in signs k = get_or signs k Positive

-- each part of the type is such as a place of this polarity demands, under `rec`s of these
abbrev mutual
  IsPolar : Polarity → List Polarity → Ty → Type 0
  IsPolar p rs (var x) = Unit {0}
  IsPolar p rs (again k) = sign_in rs k ≡ p
  IsPolar p rs boolean = Unit {0}
  IsPolar p rs integer = Unit {0}
  IsPolar p rs top = p ≡ Negative
  IsPolar p rs bot = p ≡ Positive
  IsPolar p rs (arrow a b) = IsPolar (opposite p) rs a × IsPolar p rs b
  IsPolar p rs (join a b) = (p ≡ Positive) × IsPolar p rs a × IsPolar p rs b
  IsPolar p rs (meet a b) = (p ≡ Negative) × IsPolar p rs a × IsPolar p rs b
  IsPolar p rs (fields all) = ArePolar p rs all
  IsPolar p rs (rec a) = IsPolar p (p ∷ rs) a

  ArePolar : Polarity → List Polarity → TyFields → Type 0
  ArePolar p rs none = Unit {0}
  ArePolar p rs (one label a rest) = IsPolar p rs a × ArePolar p rs rest

abbrev ones : ℕ → Polarity → List Polarity
ones zero p = []
ones (suc n) p = p ∷ ones n p

-- the polarities of what lies below a layer
abbrev mutual
  signs_below : Polarity → Ty → List Polarity
  signs_below p (var x) = []
  signs_below p (again k) = []
  signs_below p boolean = []
  signs_below p integer = []
  signs_below p top = []
  signs_below p bot = []
  signs_below p (arrow a b) = (ones (here a) (opposite p) ++ signs_below (opposite p) a) ++ (ones (here b) p ++ signs_below p b)
  signs_below p (join a b) = signs_below p a ++ signs_below p b
  signs_below p (meet a b) = signs_below p a ++ signs_below p b
  signs_below p (fields all) = signs_fields p all
  signs_below p (rec a) = signs_below p a

  signs_fields : Polarity → TyFields → List Polarity
  signs_fields p none = []
  signs_fields p (one label a rest) = (ones (here a) p ++ signs_below p a) ++ signs_fields p rest

abbrev signs_block : Polarity → Ty → List Polarity
signs_block p a = ones (here a) p ++ signs_below p a

length-ones : (n : ℕ) (p : Polarity) → length (ones n p) ≡ n
length-ones zero p = refl
length-ones (suc n) p = ap suc (length-ones n p)

ones-are : (n : ℕ) (p : Polarity) (i : ℕ) → i < n → get_or (ones n p) i Positive ≡ p
ones-are zero p i low = absurd (omega arith)
ones-are (suc n) p zero low = refl
ones-are (suc n) p (suc i) low = ones-are n p i (omega arith)

two-lengths : (xs ys : List Polarity) (n m : ℕ) → length xs ≡ n → length ys ≡ m → length (xs ++ ys) ≡ n + m
two-lengths xs ys n m is is' = length-append xs ys ∙ (λ i. is i + is' i)

mutual
  unfolding under

  length-signs : (p : Polarity) (a : Ty) → length (signs_below p a) ≡ under a
  length-signs p (var x) = refl
  length-signs p (again k) = refl
  length-signs p boolean = refl
  length-signs p integer = refl
  length-signs p top = refl
  length-signs p bot = refl
  length-signs p (arrow a b) =
      two-lengths (signs_block (opposite p) a) (signs_block p b) (here a + under a) (here b + under b)
      (two-lengths (ones (here a) (opposite p)) (signs_below (opposite p) a) (here a) (under a) (length-ones (here a) (opposite p)) (length-signs (opposite p) a))
      (two-lengths (ones (here b) p) (signs_below p b) (here b) (under b) (length-ones (here b) p) (length-signs p b))
  length-signs p (join a b) = two-lengths (signs_below p a) (signs_below p b) (under a) (under b) (length-signs p a) (length-signs p b)
  length-signs p (meet a b) = two-lengths (signs_below p a) (signs_below p b) (under a) (under b) (length-signs p a) (length-signs p b)
  length-signs p (fields all) = length-signs_fields p all
  length-signs p (rec a) = length-signs p a

  length-signs_fields : (p : Polarity) (all : TyFields) → length (signs_fields p all) ≡ under_fields all
  length-signs_fields p none = refl
  length-signs_fields p (one label a rest) =
      two-lengths (signs_block p a) (signs_fields p rest) (here a + under a) (under_fields rest)
      (two-lengths (ones (here a) p) (signs_below p a) (here a) (under a) (length-ones (here a) p) (length-signs p a))
      (length-signs_fields p rest)

length-signs_block : (p : Polarity) (a : Ty) → length (signs_block p a) ≡ here a + under a
length-signs_block p a = two-lengths (ones (here a) p) (signs_below p a) (here a) (under a) (length-ones (here a) p) (length-signs p a)

-- lists in a row, the second at a number that is known
in_a_row : (G : ℕ → Node → Type 0) (a n : ℕ) (xs ys : List Node) → length xs ≡ n → AllFrom G a xs → AllFrom G (a + n) ys → AllFrom G a (xs ++ ys)
in_a_row G a n xs ys is first second = AllFrom-append G a xs ys first (subst (λ n. AllFrom G (a + n) ys) (sym is) second)

after_operands : (G : ℕ → Node → Type 0) (a n m : ℕ) (xs ys : List Node) (x : Node) → length xs ≡ n → length ys ≡ m → AllFrom G a xs → AllFrom G (a + n) ys → G (a + (n + m)) x → AllFrom G a ((xs ++ ys) ++ x ∷ [])
after_operands G a n m xs ys x is is' first second last =
    let both : length (xs ++ ys) ≡ n + m = length-append xs ys ∙ (λ i. is i + is' i) in
    in_a_row G a (n + m) (xs ++ ys) (x ∷ []) both (in_a_row G a n xs ys is first second) (AllFrom-one G (a + (n + m)) x last)

no_more : (G : ℕ → Node → Type 0) (a : ℕ) → AllFrom G a []
no_more G a i low = absurd (omega arith)

module _ (sign : ℕ → Polarity) where
  -- from a on the nodes have these polarities
  abbrev Agrees : ℕ → List Polarity → Type 0
  Agrees a ps = (i : ℕ) → i < length ps → sign (a + i) ≡ get_or ps i Positive

  -- so many nodes have this polarity
  abbrev AreAll : Polarity → ℕ → ℕ → Type 0
  AreAll p a n = (i : ℕ) → i < n → sign (a + i) ≡ p

  agrees-first : (a : ℕ) (xs ys : List Polarity) → Agrees a (xs ++ ys) → Agrees a xs
  agrees-first a xs ys all i low =
      let size : length (xs ++ ys) ≡ length xs + length ys = length-append xs ys in
      all i (omega arith) ∙ get_or_append_left xs ys Positive i low

  agrees-second : (a n : ℕ) (xs ys : List Polarity) → length xs ≡ n → Agrees a (xs ++ ys) → Agrees (a + n) ys
  agrees-second a n xs ys is all i low =
      let size : length (xs ++ ys) ≡ length xs + length ys = length-append xs ys in
      let at : a + n + i ≡ a + (length xs + i) = omega arith in
      ap sign at ∙ (all (length xs + i) (omega arith) ∙ get_or-append-add xs ys i Positive)

  agrees-ones : (a n : ℕ) (p : Polarity) → Agrees a (ones n p) → AreAll p a n
  agrees-ones a n p all i low = let size : length (ones n p) ≡ n = length-ones n p in all i (omega arith) ∙ ones-are n p i low

  block-all : (a : ℕ) (p : Polarity) (t : Ty) → Agrees a (signs_block p t) → AreAll p a (here t)
  block-all a p t all = agrees-ones a (here t) p (agrees-first a (ones (here t) p) (signs_below p t) all)

  block-below : (a : ℕ) (p : Polarity) (t : Ty) → Agrees a (signs_block p t) → Agrees (a + here t) (signs_below p t)
  block-below a p t all = agrees-second a (here t) (ones (here t) p) (signs_below p t) (length-ones (here t) p) all

  all-first : (p : Polarity) (a n : ℕ) → 0 < n → AreAll p a n → sign a ≡ p
  all-first p a n low all = let at : a ≡ a + 0 = omega arith in ap sign at ∙ all 0 low

  all-left : (p : Polarity) (a n m : ℕ) → AreAll p a (suc (n + m)) → AreAll p a n
  all-left p a n m all i low = all i (omega arith)

  all-right : (p : Polarity) (a n m : ℕ) → AreAll p a (suc (n + m)) → AreAll p (a + n) m
  all-right p a n m all i low = let at : a + n + i ≡ a + (n + i) = omega arith in ap sign at ∙ all (n + i) (omega arith)

  all-last : (p : Polarity) (a n m : ℕ) → AreAll p a (suc (n + m)) → sign (a + (n + m)) ≡ p
  all-last p a n m all = all (n + m) (omega arith)

  -- the nodes of the `rec`s, but for the nearest m, have these polarities
  abbrev HaveSigns : (m recs : ℕ) → List ℕ → List Polarity → Type 0
  HaveSigns m recs nodes rs = (k : ℕ) → m ≤ k → k < recs → sign (node_in nodes k) ≡ sign_in rs k

  signs-rec : (m recs i : ℕ) (p : Polarity) (nodes : List ℕ) (rs : List Polarity) → HaveSigns m recs nodes rs → HaveSigns (suc m) (suc recs) (i ∷ nodes) (p ∷ rs)
  signs-rec m recs i p nodes rs all zero first last = absurd (omega arith)
  signs-rec m recs i p nodes rs all (suc k) first last = all k (omega arith) (omega arith)

  signs-more : (recs i : ℕ) (p : Polarity) (nodes : List ℕ) (rs : List Polarity) → sign i ≡ p → HaveSigns 0 recs nodes rs → HaveSigns 0 (suc recs) (i ∷ nodes) (p ∷ rs)
  signs-more recs i p nodes rs is all zero first last = is
  signs-more recs i p nodes rs is all (suc k) first last = all k (omega arith) (omega arith)

  signs-fewer : (m recs : ℕ) (nodes : List ℕ) (rs : List Polarity) → HaveSigns 0 recs nodes rs → HaveSigns m recs nodes rs
  signs-fewer m recs nodes rs all k first last = all k (omega arith) last

  -- the node that a type stands for has the polarity of its place
  stands-sign : (vars m recs a : ℕ) (nodes : List ℕ) (rs : List Polarity) (p : Polarity) (t : Ty) → IsFit vars m recs t → IsPolar p rs t → HaveSigns m recs nodes rs → AreAll p a (here t) → sign (stands a nodes t) ≡ p
  unfolding here stands
  stands-sign vars m recs a nodes rs p (var x) fit polar known all = all-first p a 1 (omega arith) all
  stands-sign vars m recs a nodes rs p (again k) fit polar known all = known k fit.0 fit.1 ∙ polar
  stands-sign vars m recs a nodes rs p boolean fit polar known all = all-first p a 1 (omega arith) all
  stands-sign vars m recs a nodes rs p integer fit polar known all = all-first p a 1 (omega arith) all
  stands-sign vars m recs a nodes rs p top fit polar known all = all-first p a 1 (omega arith) all
  stands-sign vars m recs a nodes rs p bot fit polar known all = all-first p a 1 (omega arith) all
  stands-sign vars m recs a nodes rs p (arrow t u) fit polar known all = all-first p a 1 (omega arith) all
  stands-sign vars m recs a nodes rs p (join t u) fit polar known all = all-last p a (here t) (here u) all
  stands-sign vars m recs a nodes rs p (meet t u) fit polar known all = all-last p a (here t) (here u) all
  stands-sign vars m recs a nodes rs p (fields each) fit polar known all = all-first p a 1 (omega arith) all
  stands-sign vars m recs a nodes rs p (rec t) fit polar known all =
      stands-sign vars (suc m) (suc recs) a (0 ∷ nodes) (p ∷ rs) p t fit polar (signs-rec m recs 0 p nodes rs known) all

  -- so of the whole block of a type
  block-sign : (vars recs q : ℕ) (nodes : List ℕ) (rs : List Polarity) (p : Polarity) (t : Ty) → IsFit vars 0 recs t → IsPolar p rs t → HaveSigns 0 recs nodes rs → Agrees q (signs_block p t) → sign (stands q nodes t) ≡ p
  block-sign vars recs q nodes rs p t fit polar known agree = stands-sign vars 0 recs q nodes rs p t fit polar known (block-all q p t agree)

  fields-sign : (vars recs q : ℕ) (nodes : List ℕ) (rs : List Polarity) (p r : Polarity) (each : TyFields) → r ≡ p → AreFit vars recs each → ArePolar p rs each → HaveSigns 0 recs nodes rs → Agrees q (signs_fields p each) → All (λ (field : Field). sign field.node.0 ≡ r) (field_nodes q nodes each)
  unfolding field_nodes
  fields-sign vars recs q nodes rs p r none is fit polar known agree = All-nil (λ (field : Field). sign field.node.0 ≡ r)
  fields-sign vars recs q nodes rs p r (one label t rest) is fit polar known agree =
      All-placed (λ (field : Field). sign field.node.0 ≡ r) (record { label = label; node = id (stands q nodes t) }) (field_nodes (q + (here t + under t)) nodes rest)
      (block-sign vars recs q nodes rs p t fit.1 polar.0 known (agrees-first q (signs_block p t) (signs_fields p rest) agree) ∙ sym is)
      (fields-sign vars recs (q + (here t + under t)) nodes rs p r rest is fit.2 polar.1 known
      (agrees-second q (here t + under t) (signs_block p t) (signs_fields p rest) (length-signs_block p t) agree))

  abbrev G : ℕ → Node → Type 0
  G i x = IsPolarisedNode sign i x

  layer-polar : (vars m recs a q : ℕ) (nodes : List ℕ) (rs : List Polarity) (p : Polarity) (t : Ty) → IsFit vars m recs t → IsPolar p rs t → HaveSigns 0 recs nodes rs → AreAll p a (here t) → Agrees q (signs_below p t) → AllFrom G a (layer a q nodes t)
  unfolding here under layer
  layer-polar vars m recs a q nodes rs p (var x) fit polar known all agree = AllFrom-one G a (node.Var x) tt
  layer-polar vars m recs a q nodes rs p (again k) fit polar known all agree = no_more G a
  layer-polar vars m recs a q nodes rs p boolean fit polar known all agree = AllFrom-one G a node.Bool tt
  layer-polar vars m recs a q nodes rs p integer fit polar known all agree = AllFrom-one G a node.Int tt
  layer-polar vars m recs a q nodes rs p top fit polar known all agree = AllFrom-one G a node.Top (all-first p a 1 (omega arith) all ∙ polar)
  layer-polar vars m recs a q nodes rs p bot fit polar known all agree = AllFrom-one G a node.Bot (all-first p a 1 (omega arith) all ∙ polar)
  layer-polar vars m recs a q nodes rs p (arrow t u) fit polar known all agree =
      let r : ℕ = q + (here t + under t) in
      let at : sign a ≡ p = all-first p a 1 (omega arith) all in
      let first = agrees-first q (signs_block (opposite p) t) (signs_block p u) agree in
      let second = agrees-second q (here t + under t) (signs_block (opposite p) t) (signs_block p u) (length-signs_block (opposite p) t) agree in
      AllFrom-one G a (node.Arrow (id (stands q nodes t)) (id (stands r nodes u)))
      (block-sign vars recs q nodes rs (opposite p) t fit.0 polar.0 known first ∙ ap opposite (sym at), block-sign vars recs r nodes rs p u fit.1 polar.1 known second ∙ sym at)
  layer-polar vars m recs a q nodes rs p (join t u) fit polar known all agree =
      let left = all-left p a (here t) (here u) all in
      let right = all-right p a (here t) (here u) all in
      let fewer = signs-fewer m recs nodes rs known in
      after_operands G a (here t) (here u) (layer a q nodes t) (layer (a + here t) (q + under t) nodes u)
      (node.Join (id (stands a nodes t)) (id (stands (a + here t) nodes u)))
      (length-layer a q nodes t) (length-layer (a + here t) (q + under t) nodes u)
      (layer-polar vars m recs a q nodes rs p t fit.0 polar.1 known left (agrees-first q (signs_below p t) (signs_below p u) agree))
      (layer-polar vars m recs (a + here t) (q + under t) nodes rs p u fit.1 polar.2 known right (agrees-second q (under t) (signs_below p t) (signs_below p u) (length-signs p t) agree)) (
        all-last p a (here t) (here u) all ∙ polar.0,
        stands-sign vars m recs a nodes rs p t fit.0 polar.1 fewer left ∙ polar.0,
        stands-sign vars m recs (a + here t) nodes rs p u fit.1 polar.2 fewer right ∙ polar.0,
      )
  layer-polar vars m recs a q nodes rs p (meet t u) fit polar known all agree =
      let left = all-left p a (here t) (here u) all in
      let right = all-right p a (here t) (here u) all in
      let fewer = signs-fewer m recs nodes rs known in
      after_operands G a (here t) (here u) (layer a q nodes t) (layer (a + here t) (q + under t) nodes u)
      (node.Meet (id (stands a nodes t)) (id (stands (a + here t) nodes u)))
      (length-layer a q nodes t) (length-layer (a + here t) (q + under t) nodes u)
      (layer-polar vars m recs a q nodes rs p t fit.0 polar.1 known left (agrees-first q (signs_below p t) (signs_below p u) agree))
      (layer-polar vars m recs (a + here t) (q + under t) nodes rs p u fit.1 polar.2 known right (agrees-second q (under t) (signs_below p t) (signs_below p u) (length-signs p t) agree)) (
        all-last p a (here t) (here u) all ∙ polar.0,
        stands-sign vars m recs a nodes rs p t fit.0 polar.1 fewer left ∙ polar.0,
        stands-sign vars m recs (a + here t) nodes rs p u fit.1 polar.2 fewer right ∙ polar.0,
      )
  layer-polar vars m recs a q nodes rs p (fields each) fit polar known all agree =
      AllFrom-one G a (node.Rcd (field_nodes q nodes each)) (fields-sign vars recs q nodes rs p (sign a) each (all-first p a 1 (omega arith) all) fit polar known agree)
  layer-polar vars m recs a q nodes rs p (rec t) fit polar known all agree =
      let s : ℕ = stands a (0 ∷ nodes) t in
      let at : sign s ≡ p = stands-sign vars (suc m) (suc recs) a (0 ∷ nodes) (p ∷ rs) p t fit polar (signs-rec m recs 0 p nodes rs (signs-fewer m recs nodes rs known)) all in
      layer-polar vars (suc m) (suc recs) a q (s ∷ nodes) (p ∷ rs) p t fit polar (signs-more recs s p nodes rs at known) all agree

  mutual
    unfolding here under layer below

    below-polar : (vars m recs a q : ℕ) (nodes : List ℕ) (rs : List Polarity) (p : Polarity) (t : Ty) → IsFit vars m recs t → IsPolar p rs t → HaveSigns 0 recs nodes rs → AreAll p a (here t) → Agrees q (signs_below p t) → AllFrom G q (below a q nodes t)
    below-polar vars m recs a q nodes rs p (var x) fit polar known all agree = no_more G q
    below-polar vars m recs a q nodes rs p (again k) fit polar known all agree = no_more G q
    below-polar vars m recs a q nodes rs p boolean fit polar known all agree = no_more G q
    below-polar vars m recs a q nodes rs p integer fit polar known all agree = no_more G q
    below-polar vars m recs a q nodes rs p top fit polar known all agree = no_more G q
    below-polar vars m recs a q nodes rs p bot fit polar known all agree = no_more G q
    below-polar vars m recs a q nodes rs p (arrow t u) fit polar known all agree =
        let r : ℕ = q + (here t + under t) in
        let o : Polarity = opposite p in
        let first = agrees-first q (signs_block o t) (signs_block p u) agree in
        let second = agrees-second q (here t + under t) (signs_block o t) (signs_block p u) (length-signs_block o t) agree in
        in_a_row G q (here t + under t) (block q nodes t) (block r nodes u) (length-block q nodes t)
        (in_a_row G q (here t) (layer q (q + here t) nodes t) (below q (q + here t) nodes t) (length-layer q (q + here t) nodes t)
        (layer-polar vars 0 recs q (q + here t) nodes rs o t fit.0 polar.0 known (block-all q o t first) (block-below q o t first))
        (below-polar vars 0 recs q (q + here t) nodes rs o t fit.0 polar.0 known (block-all q o t first) (block-below q o t first)))
        (in_a_row G r (here u) (layer r (r + here u) nodes u) (below r (r + here u) nodes u) (length-layer r (r + here u) nodes u)
        (layer-polar vars 0 recs r (r + here u) nodes rs p u fit.1 polar.1 known (block-all r p u second) (block-below r p u second))
        (below-polar vars 0 recs r (r + here u) nodes rs p u fit.1 polar.1 known (block-all r p u second) (block-below r p u second)))
    below-polar vars m recs a q nodes rs p (join t u) fit polar known all agree =
        in_a_row G q (under t) (below a q nodes t) (below (a + here t) (q + under t) nodes u) (length-below a q nodes t)
        (below-polar vars m recs a q nodes rs p t fit.0 polar.1 known (all-left p a (here t) (here u) all) (agrees-first q (signs_below p t) (signs_below p u) agree))
        (below-polar vars m recs (a + here t) (q + under t) nodes rs p u fit.1 polar.2 known (all-right p a (here t) (here u) all) (agrees-second q (under t) (signs_below p t) (signs_below p u) (length-signs p t) agree))
    below-polar vars m recs a q nodes rs p (meet t u) fit polar known all agree =
        in_a_row G q (under t) (below a q nodes t) (below (a + here t) (q + under t) nodes u) (length-below a q nodes t)
        (below-polar vars m recs a q nodes rs p t fit.0 polar.1 known (all-left p a (here t) (here u) all) (agrees-first q (signs_below p t) (signs_below p u) agree))
        (below-polar vars m recs (a + here t) (q + under t) nodes rs p u fit.1 polar.2 known (all-right p a (here t) (here u) all) (agrees-second q (under t) (signs_below p t) (signs_below p u) (length-signs p t) agree))
    below-polar vars m recs a q nodes rs p (fields each) fit polar known all agree = below_fields-polar vars recs q nodes rs p each fit polar known agree
    below-polar vars m recs a q nodes rs p (rec t) fit polar known all agree =
        let s : ℕ = stands a (0 ∷ nodes) t in
        let at : sign s ≡ p = stands-sign vars (suc m) (suc recs) a (0 ∷ nodes) (p ∷ rs) p t fit polar (signs-rec m recs 0 p nodes rs (signs-fewer m recs nodes rs known)) all in
        below-polar vars (suc m) (suc recs) a q (s ∷ nodes) (p ∷ rs) p t fit polar (signs-more recs s p nodes rs at known) all agree

    below_fields-polar : (vars recs q : ℕ) (nodes : List ℕ) (rs : List Polarity) (p : Polarity) (each : TyFields) → AreFit vars recs each → ArePolar p rs each → HaveSigns 0 recs nodes rs → Agrees q (signs_fields p each) → AllFrom G q (below_fields q nodes each)
    below_fields-polar vars recs q nodes rs p none fit polar known agree = no_more G q
    below_fields-polar vars recs q nodes rs p (one label t rest) fit polar known agree =
        let r : ℕ = q + (here t + under t) in
        let first = agrees-first q (signs_block p t) (signs_fields p rest) agree in
        in_a_row G q (here t + under t) (block q nodes t) (below_fields r nodes rest) (length-block q nodes t)
        (in_a_row G q (here t) (layer q (q + here t) nodes t) (below q (q + here t) nodes t) (length-layer q (q + here t) nodes t)
        (layer-polar vars 0 recs q (q + here t) nodes rs p t fit.1 polar.0 known (block-all q p t first) (block-below q p t first))
        (below-polar vars 0 recs q (q + here t) nodes rs p t fit.1 polar.0 known (block-all q p t first) (block-below q p t first)))
        (below_fields-polar vars recs r nodes rs p rest fit.2 polar.1 known
        (agrees-second q (here t + under t) (signs_block p t) (signs_fields p rest) (length-signs_block p t) agree))

-- the whole book
module _ (vars : ℕ) (t : Ty) (fit : IsFit vars 0 0 t) (polar : IsPolar Positive [] t) where
  abbrev sign_at_node : ℕ → Polarity
  sign_at_node i = get_or (signs_block Positive t) i Positive

  whole : Agrees sign_at_node 0 (signs_block Positive t)
  whole i low = let at : 0 + i ≡ i = omega arith in ap sign_at_node at

  nothing : HaveSigns sign_at_node 0 0 [] []
  nothing k first last = absurd (omega arith)

  book-polarised : IsPolarised sign_at_node (book_of t)
  unfolding book_of
  book-polarised i low =
      let at : 0 + i ≡ i = omega arith in
      let start : here t ≡ 0 + here t = omega arith in
      let all = block-all sign_at_node 0 Positive t whole in
      let later : Agrees sign_at_node (here t) (signs_below Positive t) = subst (λ q. Agrees sign_at_node q (signs_below Positive t)) (sym start) (block-below sign_at_node 0 Positive t whole) in
      subst (λ j. IsPolarisedNode sign_at_node j (node_at (book_of t) i)) at
      (in_a_row (IsPolarisedNode sign_at_node) 0 (here t) (layer 0 (here t) [] t) (below 0 (here t) [] t) (length-layer 0 (here t) [] t)
      (layer-polar sign_at_node vars 0 0 0 (here t) [] [] Positive t fit polar nothing all later)
      (subst (λ q. AllFrom (IsPolarisedNode sign_at_node) q (below 0 (here t) [] t)) start
      (below-polar sign_at_node vars 0 0 0 (here t) [] [] Positive t fit polar nothing all later)) i low)

  root-positive : sign_at_node (root_of t) ≡ Positive
  unfolding root_of
  root-positive = stands-sign sign_at_node vars 0 0 0 [] [] Positive t fit polar nothing (block-all sign_at_node 0 Positive t whole)

-- a tree without faults
abbrev sign_of : Bool → Polarity
sign_of true = Positive
sign_of false = Negative

abbrev signs_around : List Around → List Polarity
signs_around [] = []
signs_around (r ∷ around) = sign_of r.is_positive ∷ signs_around around

two_empty : {A : Type 0} (xs ys : List A) → xs ++ ys ≡ [] → (xs ≡ []) × (ys ≡ [])
two_empty [] ys e = (refl, e)
two_empty (x ∷ xs) ys e = absurd (cc)

not-sign : (b : Bool) → sign_of (not b) ≡ opposite (sign_of b)
not-sign true = refl
not-sign false = refl

must_be_negative : (b : Bool) (place : ℕ) → cond b (NotPolar place ∷ []) [] ≡ [] → sign_of b ≡ Negative
must_be_negative true place e = absurd (cc)
must_be_negative false place e = refl

must_be_positive : (b : Bool) (place : ℕ) → cond b [] (NotPolar place ∷ []) ≡ [] → sign_of b ≡ Positive
must_be_positive true place e = refl
must_be_positive false place e = absurd (cc)

same-sign : (guarded other b : Bool) (place : ℕ) → cond guarded (Unguarded place ∷ []) (cond (same other b) [] (Contravariant place ∷ [])) ≡ [] → sign_of other ≡ sign_of b
same-sign true other b place e = absurd (cc)
same-sign false true true place e = refl
same-sign false true false place e = absurd (cc)
same-sign false false true place e = absurd (cc)
same-sign false false false place e = refl

name-sign : (b : Bool) (guards place : ℕ) (around : List Around) (x : List ℕ) → is_in (names_of around) x ≡ true → name_faults b guards place (nearest around x) ≡ [] → sign_in (signs_around around) (place_in (names_of around) x) ≡ sign_of b
name-sign b guards place [] x there e = absurd (cc)
name-sign b guards place (r ∷ around) x there e =
    elim (bytes_eq r.x x) as (λ c. cond c true (is_in (names_of around) x) ≡ true → name_faults b guards place (cond c (Some r) (find (λ r. bytes_eq r.x x) around)) ≡ [] → sign_in (sign_of r.is_positive ∷ signs_around around) (cond c 0 (suc (place_in (names_of around) x))) ≡ sign_of b) [
      | true ↦ λ there e. same-sign (r.guards == guards) r.is_positive b place e
      | false ↦ λ there e. name-sign b guards place around x there e
    ] there e

mutual
  tree-polar : (vars : List (List ℕ)) (b : Bool) (around : List Around) (guards : ℕ) (t : TypeTree) → faults b around guards t ≡ [] → IsPolar (sign_of b) (signs_around around) (numbered vars (names_of around) t)
  tree-polar vars b around guards (a_name place x) e =
      let recs : List (List ℕ) = names_of around in
      elim (is_in recs x) as (λ c. (is_in recs x ≡ c) → IsPolar (sign_of b) (signs_around around) (cond c (again (place_in recs x)) (var (place_in vars x)))) [
        | true ↦ λ is. name-sign b guards place around x is e
        | false ↦ λ is. tt
      ] refl
  tree-polar vars b around guards a_bool e = tt
  tree-polar vars b around guards an_int e = tt
  tree-polar vars b around guards (a_top place) e = must_be_negative b place e
  tree-polar vars b around guards (a_bot place) e = must_be_positive b place e
  tree-polar vars b around guards (an_arrow from to) e =
      let parts = two_empty (faults (not b) around (suc guards) from) (faults b around (suc guards) to) e in (
        subst (λ p. IsPolar p (signs_around around) (numbered vars (names_of around) from)) (not-sign b) (tree-polar vars (not b) around (suc guards) from parts.0),
        tree-polar vars b around (suc guards) to parts.1,
      )
  tree-polar vars b around guards (a_record all) e = fields-polar vars b around (suc guards) [] all e
  tree-polar vars b around guards (a_join left place right) e =
      let mid : List TypeFault = cond b [] (NotPolar place ∷ []) in
      let parts = two_empty (faults b around guards left ++ mid) (faults b around guards right) e in
      let first = two_empty (faults b around guards left) mid parts.0 in
      (must_be_positive b place first.1, tree-polar vars b around guards left first.0, tree-polar vars b around guards right parts.1)
  tree-polar vars b around guards (a_meet left place right) e =
      let mid : List TypeFault = cond b (NotPolar place ∷ []) [] in
      let parts = two_empty (faults b around guards left ++ mid) (faults b around guards right) e in
      let first = two_empty (faults b around guards left) mid parts.0 in
      (must_be_negative b place first.1, tree-polar vars b around guards left first.0, tree-polar vars b around guards right parts.1)
  tree-polar vars b around guards (a_rec x t) e = tree-polar vars b (record { x = x; is_positive = b; guards = guards } ∷ around) guards t e

  fields-polar : (vars : List (List ℕ)) (b : Bool) (around : List Around) (guards : ℕ) (labels : List (List ℕ)) (all : TypeFields) → field_faults b around guards labels all ≡ [] → ArePolar (sign_of b) (signs_around around) (numbered_fields vars (names_of around) all)
  fields-polar vars b around guards labels no_field e = tt
  fields-polar vars b around guards labels (a_field place label t rest) e =
      let dup : List TypeFault = cond (list_any (bytes_eq label) labels) (DuplicateLabel place ∷ []) [] in
      let parts = two_empty (dup ++ faults b around guards t) (field_faults b around guards (label ∷ labels) rest) e in
      let first = two_empty dup (faults b around guards t) parts.0 in
      (tree-polar vars b around guards t first.1, fields-polar vars b around guards (label ∷ labels) rest parts.1)

tree-read : (tree : TypeTree) → faults true [] 0 tree ≡ [] → IsPolarisedRead (read_of tree)
tree-read tree e =
    let t : Ty = type_of tree in
    let fit : IsFit (length (variables tree)) 0 0 t = type_of-fit tree e in
    let polar : IsPolar Positive [] t = tree-polar (variables tree) true [] 0 tree e in
    record {
      sign = sign_at_node (length (variables tree)) t fit polar;
      polarised = book-polarised (length (variables tree)) t fit polar;
      root = root-positive (length (variables tree)) t fit polar;
    }

-- what a text is read as is polarised
pub read-polarised : (text : List ℕ) (read : ReadScheme) → IsTypeText text read → IsPolarisedRead read
read-polarised text read it = subst IsPolarisedRead (sym it.read_as) (tree-read it.tree it.text_of.no_fault)
