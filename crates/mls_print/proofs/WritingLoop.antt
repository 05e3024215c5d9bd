-- The loop that writes the pieces: what is written and what is left make the whole text.
--     writing_begins, writing_step, writing_ends      one round of the loop
use Rattle.std.proofs.Common.{◌≡◌, ℕ, zero, suc, ◌+◌, ◌<◌, ◌≤◌, Bool, true, false, List, [], ◌∷◌, ◌++◌, refl, sym, ap, ◌∙◌, subst, arith, length, get_or, take, drop, map, replicate, None, codes, append_assoc, append-nil}
use Rattle.std.specs.Prelude.{cond}
use Rattle.std.proofs.lemmas.List.{get_or_default, length-map, take_more, drop_more, take-append-drop, drop_all, length-replicate, get_or-replicate}
use Rattle.mls_print.specs.declared.piece.Piece.{Piece as LaidPiece}
use Rattle.mls_print.specs.declared.write.Writer.{Writer}
use Rattle.mls_print.specs.Keys.{Key, recursion, first_keys, place_of, name_at}
use Rattle.mls_print.specs.Pieces.{Piece, bytes, name_of, begins, opens, closes, piece_written, pieces_written, piece_keys, pieces_keys, is_called, text_of}
use Rattle.mls_print.specs.steps.Writing.{piece_of, all_added, name_behind, Names, Writes}
use Rattle.mls_print.proofs.KeyOrder.{first_keys-added, all_added-append, place-so_far}

module _ (has_rec : ℕ → Bool) where
  -- the keys of pieces, one after the other
  keys-apart : (p : Piece) (rest : List Key) → piece_keys has_rec p rest ≡ piece_keys has_rec p [] ++ rest
  keys-apart (bytes text) rest = refl
  keys-apart (name_of key) rest = refl
  keys-apart (begins j) rest = go (has_rec j)
    where
      go : (b : Bool) → cond b (recursion j ∷ rest) rest ≡ cond b (recursion j ∷ []) [] ++ rest
      go true = refl
      go false = refl
  keys-apart (opens j) rest = refl
  keys-apart (closes j) rest = refl

  abbrev keys : List Piece → List Key
  keys ps = pieces_keys has_rec ps []

  keys-append : (ps qs : List Piece) → keys (ps ++ qs) ≡ keys ps ++ keys qs
  keys-append [] qs = refl
  keys-append (p ∷ ps) qs =
      keys-apart p (keys (ps ++ qs))
      ∙ (ap (λ later. piece_keys has_rec p [] ++ later) (keys-append ps qs)
      ∙ (sym (append_assoc (piece_keys has_rec p []) (keys ps) (keys qs))
      ∙ ap (λ front. front ++ keys qs) (sym (keys-apart p (keys ps)))))

  -- the text of a piece stands before what follows
  written-apart : (name : Key → List ℕ) (p : Piece) (rest : List ℕ) → piece_written has_rec name p rest ≡ piece_written has_rec name p [] ++ rest
  written-apart name (bytes text) rest = ap (λ t. t ++ rest) (sym (append-nil text))
  written-apart name (name_of key) rest = ap (λ t. t ++ rest) (sym (append-nil (name key)))
  written-apart name (begins j) rest = go (has_rec j)
    where
      go : (b : Bool) → cond b (codes "rec " ++ (name (recursion j) ++ (codes ". " ++ rest))) rest ≡ cond b (codes "rec " ++ (name (recursion j) ++ (codes ". " ++ []))) [] ++ rest
      go true = ap (λ t. codes "rec " ++ t) (sym (append_assoc (name (recursion j)) (codes ". ") rest))
      go false = refl
  written-apart name (opens j) rest = go (has_rec j)
    where
      go : (b : Bool) → cond b (codes "(" ++ rest) rest ≡ cond b (codes "(" ++ []) [] ++ rest
      go true = refl
      go false = refl
  written-apart name (closes j) rest = go (has_rec j)
    where
      go : (b : Bool) → cond b (codes ")" ++ rest) rest ≡ cond b (codes ")" ++ []) [] ++ rest
      go true = refl
      go false = refl

  -- a key has its name when it appears
  abbrev name_among : List Key → Key → List ℕ
  name_among all key = name_at (place_of (first_keys all) key)

  appears : (before : List Key) (key : Key) (later : List Key) → name_behind (first_keys before) key ≡ name_among (before ++ key ∷ later) key
  appears before key later = ap name_at (sym (place-so_far before key later))

  told : (before : List Key) (p : Piece) (later : List Key) → piece_written has_rec (name_behind (first_keys before)) p [] ≡ piece_written has_rec (name_among (before ++ piece_keys has_rec p later)) p []
  told before (bytes text) later = refl
  told before (name_of key) later = ap (λ t. t ++ []) (appears before key later)
  told before (begins j) later = go (has_rec j)
    where
      go : (b : Bool) → cond b (codes "rec " ++ (name_behind (first_keys before) (recursion j) ++ (codes ". " ++ []))) [] ≡ cond b (codes "rec " ++ (name_among (before ++ cond b (recursion j ∷ later) later) (recursion j) ++ (codes ". " ++ []))) []
      go true = ap (λ t. codes "rec " ++ (t ++ (codes ". " ++ []))) (appears before (recursion j) later)
      go false = refl
  told before (opens j) later = refl
  told before (closes j) later = refl

  module _ (all : List Piece) where
    abbrev names_given : Key → List ℕ
    names_given = name_among (keys all)

    pub record IsWriting (i states sets : ℕ) (w : Writer) : Type 0 where
      pub variables : length w.variables.items ≡ states
      pub recursions : length w.recursions.items ≡ sets
      pub fits : w.named ≤ length w.text.items
      pub names : Names (first_keys (keys (take i all))) w
      pub text : w.text.items ++ pieces_written has_rec names_given (drop i all) [] ≡ pieces_written has_rec names_given all []

    pub writing_begins : (states sets : ℕ) (w : Writer) → w.text.items ≡ [] → w.variables.items ≡ replicate states None → w.recursions.items ≡ replicate sets None → w.named ≡ 0 → IsWriting 0 states sets w
    writing_begins states sets w empty variables recursions none = record {
      variables = ap length variables ∙ length-replicate states None;
      recursions = ap length recursions ∙ length-replicate sets None;
      fits = omega (arith, none);
      names = record {
        count = none;
        variable_number = λ n low. ap (λ vs. get_or vs n None) variables ∙ get_or-replicate states n None None (omega (arith, ap length variables ∙ length-replicate states None));
        recursion_number = λ j low. ap (λ vs. get_or vs j None) recursions ∙ get_or-replicate sets j None None (omega (arith, ap length recursions ∙ length-replicate sets None));
      };
      text = ap (λ t. t ++ pieces_written has_rec names_given all []) empty;
    }

    pub writing_step : (i states sets : ℕ) (p : Piece) (old new : Writer) → i < length all → p ≡ get_or all i p → IsWriting i states sets old → Writes has_rec p old new → IsWriting (i + 1) states sets new
    writing_step i states sets p old new low is it step =
        let before : List Piece = take i all in
        let rest : List Piece = drop (i + 1) all in
        let front : take (i + 1) all ≡ before ++ p ∷ [] = take_more all i p low ∙ ap (λ q. before ++ q ∷ []) (sym is) in
        let back : drop i all ≡ p ∷ rest = drop_more all i p low ∙ ap (λ q. q ∷ rest) (sym is) in
        let whole : all ≡ before ++ p ∷ rest = sym (take-append-drop i all) ∙ ap (λ b. before ++ b) back in
        let seen : List Key = first_keys (keys before) in
        let seen_then : first_keys (keys (take (i + 1) all)) ≡ all_added seen (piece_keys has_rec p []) =
        ap (λ ps. first_keys (keys ps)) front
        ∙ (ap first_keys (keys-append before (p ∷ []))
        ∙ (sym (first_keys-added (keys before ++ piece_keys has_rec p []))
        ∙ (all_added-append [] (keys before) (piece_keys has_rec p []) ∙ ap (λ seen. all_added seen (piece_keys has_rec p [])) (first_keys-added (keys before))))) in
        let same_keys : keys before ++ piece_keys has_rec p (keys rest) ≡ keys all = sym (keys-append before (p ∷ rest)) ∙ ap keys (sym whole) in
        let piece_told : piece_written has_rec (name_behind seen) p [] ≡ piece_written has_rec names_given p [] = told (keys before) p (keys rest) ∙ ap (λ all. piece_written has_rec (name_among all) p []) same_keys in
        let left : List ℕ = pieces_written has_rec names_given rest [] in
        record {
          variables = step.keeps.variables ∙ it.variables;
          recursions = step.keeps.recursions ∙ it.recursions;
          fits = step.keeps.fits;
          names = subst (λ seen. Names seen new) (sym seen_then) (step.names seen it.names);
          text =
              ap (λ t. t ++ left) (step.text seen it.names ∙ ap (λ t. old.text.items ++ t) piece_told)
              ∙ (append_assoc old.text.items (piece_written has_rec names_given p []) left
              ∙ (ap (λ t. old.text.items ++ t) (sym (written-apart names_given p left))
              ∙ (ap (λ ps. old.text.items ++ pieces_written has_rec names_given ps []) (sym back) ∙ it.text)));
        }

    pub writing_ends : (i states sets : ℕ) (w : Writer) → length all ≤ i → IsWriting i states sets w → ((j : ℕ) → has_rec j ≡ is_called all j) → w.text.items ≡ text_of all
    writing_ends i states sets w low it agree =
        let P : (ℕ → Bool) → Type 0 = λ rec. w.text.items ≡ pieces_written rec (λ key. name_at (place_of (first_keys (pieces_keys rec all [])) key)) all [] in
        let same : has_rec ≡ is_called all = λ i j. agree j i in
        let none : drop i all ≡ [] = drop_all i all low in
        subst P same (sym (append-nil w.text.items) ∙ (ap (λ ps. w.text.items ++ pieces_written has_rec names_given ps []) (sym none) ∙ it.text))

-- the piece that is read
get_or-mapped : (items : List LaidPiece) (i : ℕ) (d : LaidPiece) → i < length items → piece_of (get_or items i d) ≡ get_or (map piece_of items) i (piece_of (get_or items i d))
get_or-mapped items i d low =
    ap piece_of (get_or_default items i d (get_or items i d) low) ∙ sym (map-read items i (get_or items i d) low)
  where
    map-read : (items : List LaidPiece) (i : ℕ) (x : LaidPiece) → i < length items → get_or (map piece_of items) i (piece_of x) ≡ piece_of (get_or items i x)
    map-read [] i x low = refl
    map-read (y ∷ rest) zero x low = refl
    map-read (y ∷ rest) (suc i) x low = map-read rest i x (omega arith)

pub writing_step_at : (bits other : List Bool) → other ≡ bits → (items : List LaidPiece) (i : ℕ) (d : LaidPiece) (states sets : ℕ) (old new : Writer) → i < length items
    → IsWriting (λ j. get_or bits j false) (map piece_of items) i states sets old → Writes (λ j. get_or other j false) (piece_of (get_or items i d)) old new → IsWriting (λ j. get_or bits j false) (map piece_of items) (i + 1) states sets new
writing_step_at bits other same items i d states sets old new low it step =
    let inside : i < length (map piece_of items) = omega (arith, length-map items piece_of) in
    let p : Piece = piece_of (get_or items i d) in
    let W : List Bool → Type 0 = λ bits. Writes (λ j. get_or bits j false) p old new in
    writing_step (λ j. get_or bits j false) (map piece_of items) i states sets p old new inside (get_or-mapped items i d low) it (subst W same step)
