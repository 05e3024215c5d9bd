-- How the loop over the tasks of a reader of pieces goes on and ends.
use Rattle.std.proofs.Common.{◌≡◌, ℕ, suc, ◌+◌, ◌≤◌, true, not, List, [], ◌∷◌, ◌++◌, length, reverse, refl, sym, ap, ◌∙◌, subst, arith, Some, None, length-append, add-one}
use Rattle.std.specs.Prelude.{Option}
use Rattle.std.proofs.lemmas.List.{reverse-append}
use Rattle.mls_typetext.specs.declared.scheme.TypeFault.{TypeFault}
use Rattle.mls_typetext.specs.declared.scheme.TypeFault.TheVariants.{NotPolar, DuplicateLabel}
use Rattle.mls_typetext.specs.declared.piece.Piece.{Piece}
use Rattle.mls_typetext.specs.declared.piece.Piece.TheVariants as piece
use Rattle.mls_typetext.specs.declared.resolve.NamePlace.{NamePlace}
use Rattle.mls_typetext.specs.declared.resolve.NameTask.{NameTask}
use Rattle.mls_typetext.specs.declared.resolve.NameTask.TheVariants.{Part, Leave, Note}
use Rattle.mls_typetext.specs.Trees.{TypeTree}
use Rattle.mls_typetext.specs.Faults.{faults}
use Rattle.mls_typetext.specs.steps.Pieces.{postorder}
use Rattle.mls_typetext.specs.steps.NameMachine.{Known, whole_place, nothing_known, noted, naming, fault_if, notes, opened, known_after}
use Rattle.mls_typetext.specs.steps.NameReaders.{GivesItems, GivesFault}
use Rattle.mls_typetext.proofs.Resolves.{after_leave, after_note, after_piece, after_all, after_none, first_or, reads-whole}

-- around each part that is still to come there are so few functions and records, and so few `rec`s, that with the pieces that are left they
-- are at most the limit
abbrev pub IsBelow : (limit left : ℕ) → List NameTask → Type 0
IsBelow limit left [] = Unit {0}
IsBelow limit left (Part p ∷ st) = (p.guards + left ≤ limit) × (p.depth + left ≤ limit) × IsBelow limit left st
IsBelow limit left (Leave x outer ∷ st) = IsBelow limit left st
IsBelow limit left (Note fault ∷ st) = IsBelow limit left st

below-fewer : (limit left : ℕ) (st : List NameTask) → IsBelow limit (suc left) st → IsBelow limit left st
below-fewer limit left [] h = tt
below-fewer limit left (Part p ∷ st) h = (omega (arith, h.0), omega (arith, h.1), below-fewer limit left st h.2)
below-fewer limit left (Leave x outer ∷ st) h = below-fewer limit left st h
below-fewer limit left (Note fault ∷ st) h = below-fewer limit left st h

below-notes : (limit left : ℕ) (fault : Option TypeFault) (st : List NameTask) → IsBelow limit left st → IsBelow limit left (notes fault ++ st)
below-notes limit left None st h = h
below-notes limit left (Some fault) st h = h

below-opened : (limit left : ℕ) (piece : Piece) (p : NamePlace) (st : List NameTask) (k : Known) → IsBelow limit (suc left) (Part p ∷ st) → IsBelow limit left (opened piece p st k).tasks
below-opened limit left (piece.Name at x) p st k h = below-fewer limit left st h.2
below-opened limit left piece.Bool p st k h = below-fewer limit left st h.2
below-opened limit left piece.Int p st k h = below-fewer limit left st h.2
below-opened limit left (piece.Top at) p st k h = below-fewer limit left st h.2
below-opened limit left (piece.Bot at) p st k h = below-fewer limit left st h.2
below-opened limit left piece.Arrow p st k h =
    (omega (arith, h.0), omega (arith, h.1), (omega (arith, h.0), omega (arith, h.1), below-fewer limit left st h.2))
below-opened limit left (piece.Join at) p st k h =
    let rest : IsBelow limit left (Part p ∷ st) = below-fewer limit left (Part p ∷ st) h in
    (rest.0, rest.1, below-notes limit left (fault_if (not p.is_positive) (NotPolar at)) (Part p ∷ st) rest)
below-opened limit left (piece.Meet at) p st k h =
    let rest : IsBelow limit left (Part p ∷ st) = below-fewer limit left (Part p ∷ st) h in
    (rest.0, rest.1, below-notes limit left (fault_if p.is_positive (NotPolar at)) (Part p ∷ st) rest)
below-opened limit left (piece.Rec x) p st k h = (omega (arith, h.0), omega (arith, h.1), below-fewer limit left st h.2)
below-opened limit left piece.Record p st k h = (omega (arith, h.0), omega (arith, h.1), below-fewer limit left st h.2)
below-opened limit left piece.Last p st k h = below-fewer limit left st h.2
below-opened limit left (piece.Field at label) p st k h =
    let rest : IsBelow limit left (Part p ∷ st) = below-fewer limit left (Part p ∷ st) h in
    (rest.0, rest.1, (rest.0, rest.1, below-notes limit left (fault_if (k.labels label) (DuplicateLabel at)) st rest.2))

-- the end of a list is what is read first
pub last-first : {A : Type 0} (xs ys : List A) (z : A) → xs ≡ ys ++ z ∷ [] → reverse xs ≡ z ∷ reverse ys
last-first xs ys z e = ap reverse e ∙ reverse-append ys (z ∷ [])

one-less : {A : Type 0} (xs ys : List A) (z : A) → xs ≡ ys ++ z ∷ [] → length xs ≡ suc (length ys)
one-less xs ys z e = ap length e ∙ (length-append ys (z ∷ []) ∙ add-one (length ys))

-- what will be known in the end is what will be known in the end of the whole type
pub record IsGoing (pieces left : List Piece) (tasks : List NameTask) (known : Known) : Type 0 where
  pub same : known_after tasks known (reverse left) ≡ known_after (Part whole_place ∷ []) nothing_known (reverse pieces)
  pub below : IsBelow (length pieces) (length left) tasks

module _ (pieces : List Piece) where
  module _ (left : List Piece) (tasks st : List NameTask) (known : Known) (going : IsGoing pieces left tasks known) where
    module _ (p : NamePlace) (is : tasks ≡ Part p ∷ st) where
      -- a part with a piece,
      module _ (rest : List Piece) (piece : Piece) (last : left ≡ rest ++ piece ∷ []) where
        here : IsBelow (length pieces) (suc (length rest)) (Part p ∷ st)
        here = subst (λ n. IsBelow (length pieces) n (Part p ∷ st)) (one-less left rest piece last) (subst (IsBelow (length pieces) (length left)) is going.below)

        pub reads : (next : List NameTask) (known' : Known) → next ≡ (opened piece p st known).tasks → known' ≡ (opened piece p st known).known → IsGoing pieces rest next known'
        reads next known' e e' = record {
          same =
              (λ i. known_after (e i) (e' i) (reverse rest))
              ∙ (sym (after_piece piece p st known (reverse rest))
              ∙ ((λ i. known_after (sym is i) known (sym (last-first left rest piece last) i))
              ∙ going.same));
          below = subst (IsBelow (length pieces) (length rest)) (sym e) (below-opened (length pieces) (length rest) piece p st known here);
        }

      -- or without one,
      pub skips : (rest : List Piece) → left ≡ [] → rest ≡ [] → IsGoing pieces rest st known
      skips rest none none' = subst (λ l. IsGoing pieces l st known) (none ∙ sym none') record {
        same =
            ap (λ l. known_after st known (reverse l)) none
            ∙ (sym (after_all p st known)
            ∙ ((λ i. known_after (sym is i) known (reverse (sym none i)))
            ∙ going.same));
        below = (subst (IsBelow (length pieces) (length left)) is going.below).2;
      }

    -- the front of a `rec`,
    pub leaves : (x : List ℕ) (outer : Option NamePlace) (next : List NameTask) (known' : Known) → tasks ≡ Leave x outer ∷ st → next ≡ st → known' ≡ naming x outer known → IsGoing pieces left next known'
    leaves x outer next known' is e e' = record {
      same =
          (λ i. known_after (e i) (e' i) (reverse left))
          ∙ (sym (after_leave x outer st known (reverse left))
          ∙ (ap (λ ts. known_after ts known (reverse left)) (sym is)
          ∙ going.same));
      below = subst (IsBelow (length pieces) (length left)) (sym e) (subst (IsBelow (length pieces) (length left)) is going.below);
    }

    -- and a fault
    pub marks : (fault : TypeFault) → tasks ≡ Note fault ∷ st → IsGoing pieces left st (noted (Some fault) known)
    marks fault is = record {
      same =
          sym (after_note fault st known (reverse left))
          ∙ (ap (λ ts. known_after ts known (reverse left)) (sym is)
          ∙ going.same);
      below = subst (IsBelow (length pieces) (length left)) is going.below;
    }

-- what the reader gives in the end
module _ (pieces : List Piece) (left : List Piece) (tasks : List NameTask) (known : Known) (going : IsGoing pieces left tasks known) (none : tasks ≡ []) where
  known-last : (t : TypeTree) → pieces ≡ postorder t → known ≡ known_after (Part whole_place ∷ []) nothing_known (reverse (postorder t))
  known-last t is =
      sym (after_none known (reverse left))
      ∙ (ap (λ ts. known_after ts known (reverse left)) (sym none)
      ∙ (going.same
      ∙ ap (λ l. known_after (Part whole_place ∷ []) nothing_known (reverse l)) is))

  fault-last : (t : TypeTree) → pieces ≡ postorder t → known.fault ≡ first_or (faults true [] 0 t) None
  fault-last t is = ap (λ k. k.fault) (known-last t is ∙ reads-whole t)

  first-fault : (fs : List TypeFault) (fault : TypeFault) → first_or fs None ≡ Some fault → (later : List TypeFault) × (fs ≡ fault ∷ later)
  first-fault [] fault e = absurd (cc)
  first-fault (first ∷ later) fault e = let same : first ≡ fault = cc in (later, ap (λ f. f ∷ later) same)

  no-fault : (fs : List TypeFault) → first_or fs None ≡ None → fs ≡ []
  no-fault [] e = refl
  no-fault (first ∷ later) e = absurd (cc)

  pub gives-fault : (fault : TypeFault) → known.fault ≡ Some fault → GivesFault pieces fault
  gives-fault fault e = λ t is. first-fault (faults true [] 0 t) fault (sym (fault-last t is) ∙ e)

  pub gives-items : known.fault ≡ None → GivesItems pieces known.items
  gives-items e = λ t is. (
    no-fault (faults true [] 0 t) (sym (fault-last t is) ∙ e),
    ap (λ k. k.items) (known-last t is ∙ reads-whole t),
  )
