-- States whose heads name alone later states, and states whose heads name none, get their classes from the last one to
-- the first.
--     knows_or                       a key that gets a number if it has none
--     class_known, class_new         a class that has a number, and one that gets one
--     counted_more, ordered_more     one number after another
--     keyed_none, leaf_more          one state after another whose head names none
--     others_none, others_more       and one after another of those that are left
--     upwards_keep                   alike states are together
--     joined_keep                    and stay so with other numbers
--     own_classes                    where each state has a class of its own, the classes are those of alike states
use Rattle.std.proofs.Common.{◌≡◌, ◌⊎◌, inl, inr, ℕ, zero, suc, ◌+◌, ◌<◌, ◌≤◌, Bool, true, false, List, [], ◌∷◌, ◌++◌, refl, sym, ap, ◌∙◌, subst, arith, length, All, Some, None}
use Rattle.std.specs.Prelude.{◌&&◌, Option, cond, is_none, get_or, set, unwrap_or}
use Rattle.std.specs.List.{flat_map}
use Rattle.std.specs.BTreeMap.{BTreeMap, get, Updates}
use Rattle.std.specs.Ordering.{nat_cmp, is_eq}
use Rattle.std.specs.Cmp.Lexicographic.{slice_cmp}
use Rattle.std.proofs.lemmas.Bool.{cases_eq}
use Rattle.std.proofs.lemmas.List.{get_or-set_same, get_or-set_other, get_or_append_left, length-append, length-set}
use Rattle.std.proofs.Math.Seq.{get_or-append_seam}
use Rattle.std.proofs.lemmas.Map.Text.{is_eq-slice_cmp}
use Rattle.std.proofs.lemmas.Slice.Eq.{bytes_eq-Decides}
use Rattle.std.proofs.lemmas.List.Elements.{All-head, All-tail}
use Rattle.mls_automaton.specs.declared.automaton.Polarity.{Polarity}
use Rattle.mls_automaton.specs.declared.automaton.Arms.{Arms}
use Rattle.mls_automaton.specs.declared.automaton.FieldSet.{FieldSet}
use Rattle.mls_automaton.specs.declared.automaton.Head.{Head}
use Rattle.mls_automaton.specs.Automata.{Automaton, polarity_at, head_at, IsState}
use Rattle.mls_automaton.specs.Heads.{parts_of}
use Rattle.mls_automaton.specs.Models.{HasArmsIn, HasFieldsIn, HasStatesIn, HasSingleArms, HasSingleFields, IsClosed, IsDeterministic, IsSingle}
use Rattle.mls_automaton.proofs.Passing.{states_more}
use Rattle.mls_automaton.proofs.CombinedStates.{parts_in}
use Rattle.mls_flow.specs.Admissible.{Holds}
use Rattle.mls_shape.specs.declared.classes.Classes.{Classes}
use Rattle.mls_shape.specs.Alike.{AreHeadsAlike, IsAlike, IsAlikeness, IsAlikePair}
use Rattle.mls_shape.specs.steps.Classes.{class_in, one_of, function_code, field_code, record_code, head_code, bit_code, AreApart, AreClasses, IsKeyOf, KeepsAlike}
use Rattle.mls_shape.specs.steps.Registers.{sign, PutsNumber}
use Rattle.mls_shape.specs.steps.Upwards.{AreCounted, AreInOrder, AreJoined, AreKeyed, Classifies, IsLeafBelow, IsLeafOrLast, Knows, NamesLater, NumbersClass, StandsBehind, is_leaf, names_none}
use Rattle.mls_shape.proofs.AlikeStates.{alike-refl}
use Rattle.mls_shape.proofs.HeadsAlike.{alike-known, alike-more, Known}
use Rattle.mls_shape.proofs.StateKeys.{key_unique, alike_key}

-- equal keys
pub key_same : (x y : List ℕ) → is_eq (slice_cmp nat_cmp x y) ≡ true → x ≡ y
key_same x y e = (bytes_eq-Decides x y).0 (sym (is_eq-slice_cmp x y) ∙ e)

-- a key that gets a number if it has none
pub knows_or : (old new : BTreeMap (List ℕ) ℕ) (key : List ℕ) (number next : ℕ) → number ≡ unwrap_or (get (slice_cmp nat_cmp) old key) next
    → Updates (slice_cmp nat_cmp) old new key (Some number) → Knows key number old new
knows_or old new key number next is updates = record {
  now = updates.1;
  kept = λ other n e. go other n e (is_eq (slice_cmp nat_cmp key other)) refl (updates.0 other);
}
  where
    go : (other : List ℕ) (n : ℕ) → get (slice_cmp nat_cmp) old other ≡ Some n → (b : Bool) → is_eq (slice_cmp nat_cmp key other) ≡ b
        → get (slice_cmp nat_cmp) new other ≡ cond b (Some number) (get (slice_cmp nat_cmp) old other) → get (slice_cmp nat_cmp) new other ≡ Some n
    go other n e true equal at =
        let here : get (slice_cmp nat_cmp) old key ≡ Some n = ap (get (slice_cmp nat_cmp) old) (key_same key other equal) ∙ e in
        at ∙ ap Some (is ∙ ap (λ found. unwrap_or found next) here)
    go other n e false equal at = at ∙ e

-- a number that a key has once more
pub same_again : (old new : BTreeMap (List ℕ) ℕ) (key : List ℕ) (number : ℕ) → get (slice_cmp nat_cmp) old key ≡ Some number → Updates (slice_cmp nat_cmp) old new key (Some number)
    → (other : List ℕ) → get (slice_cmp nat_cmp) new other ≡ get (slice_cmp nat_cmp) old other
same_again old new key number known updates other = go (is_eq (slice_cmp nat_cmp key other)) refl (updates.0 other)
  where
    go : (b : Bool) → is_eq (slice_cmp nat_cmp key other) ≡ b → get (slice_cmp nat_cmp) new other ≡ cond b (Some number) (get (slice_cmp nat_cmp) old other)
        → get (slice_cmp nat_cmp) new other ≡ get (slice_cmp nat_cmp) old other
    go true equal at = at ∙ (sym known ∙ ap (get (slice_cmp nat_cmp) old) (key_same key other equal))
    go false equal at = at

-- a class that has a number, and one that gets one
pub class_known : (numbers : List (Option ℕ)) (class number : ℕ) → get_or numbers class None ≡ Some number → NumbersClass class number numbers numbers
class_known numbers class number known = record { now = known; kept = λ other n e. e }

pub class_new : (old new : List (Option ℕ)) (class number : ℕ) → get_or old class None ≡ None → PutsNumber class number old new → NumbersClass class number old new
class_new old new class number absent puts = record { now = puts.here; kept = λ other n e. go other n e (cases_eq other class) }
  where
    go : (other n : ℕ) → get_or old other None ≡ Some n → (other ≡ class) ⊎ (other ≡ class → ⊥) → get_or new other None ≡ Some n
    go other n e (inl same) = let none : get_or old other None ≡ None = ap (λ k. get_or old k None) same ∙ absent in absurd (cc)
    go other n e (inr apart) = puts.others other apart ∙ e

-- the numbers so far
pub counted_none : AreCounted 0 []
counted_none = record { size = refl; own = λ k low. absurd (omega arith) }

pub counted_more : (n : ℕ) (xs : List ℕ) → AreCounted n xs → AreCounted (n + 1) (xs ++ n ∷ [])
counted_more n xs it = record {
  size = let long : length (xs ++ n ∷ []) ≡ length xs + 1 = length-append xs (n ∷ []) in let size : length xs ≡ n = it.size in omega (arith, long, size);
  own = λ k low. go k low (cases_eq k n);
}
  where
    go : (k : ℕ) → k < n + 1 → (k ≡ n) ⊎ (k ≡ n → ⊥) → class_in (xs ++ n ∷ []) k ≡ k
    go k low (inl same) =
        let at : k ≡ length xs = let size : length xs ≡ n = it.size in omega (arith, same, size) in
        ap (class_in (xs ++ n ∷ [])) at ∙ (get_or-append_seam xs n [] 0 ∙ sym same)
    go k low (inr apart) =
        let inside : k < length xs = let size : length xs ≡ n = it.size in omega (arith, apart, size) in
        get_or_append_left xs (n ∷ []) 0 k inside ∙ it.own k (omega (arith, apart))

-- numbers in the order of the states
pub ordered_none : (classes : List ℕ) (numbers : List (Option ℕ)) → AreInOrder 0 classes numbers []
ordered_none classes numbers = record { size = refl; numbered = λ s low. absurd (omega arith) }

pub ordered_more : (k : ℕ) (classes : List ℕ) (numbers numbers' : List (Option ℕ)) (ordered : List ℕ) (number : ℕ) → AreInOrder k classes numbers ordered → NumbersClass (class_in classes k) number numbers numbers'
    → AreInOrder (k + 1) classes numbers' (ordered ++ number ∷ [])
ordered_more k classes numbers numbers' ordered number it knows = record {
  size = let long : length (ordered ++ number ∷ []) ≡ length ordered + 1 = length-append ordered (number ∷ []) in let size : length ordered ≡ k = it.size in omega (arith, long, size);
  numbered = λ s low. go s low (cases_eq s k);
}
  where
    go : (s : ℕ) → s < k + 1 → (s ≡ k) ⊎ (s ≡ k → ⊥) → get_or numbers' (class_in classes s) None ≡ Some (class_in (ordered ++ number ∷ []) s)
    go s low (inl same) =
        let at : s ≡ length ordered = let size : length ordered ≡ k = it.size in omega (arith, same, size) in
        let last : class_in (ordered ++ number ∷ []) s ≡ number = ap (class_in (ordered ++ number ∷ [])) at ∙ get_or-append_seam ordered number [] 0 in
        ap (λ t. get_or numbers' (class_in classes t) None) same ∙ (knows.now ∙ ap Some (sym last))
    go s low (inr apart) =
        let inside : s < length ordered = let size : length ordered ≡ k = it.size in omega (arith, apart, size) in
        knows.kept (class_in classes s) (class_in ordered s) (it.numbered s (omega (arith, apart))) ∙ ap Some (sym (get_or_append_left ordered (number ∷ []) 0 s inside))

pub ordered_joined : (n : ℕ) (classes : List ℕ) (numbers : List (Option ℕ)) (ordered : List ℕ) → AreInOrder n classes numbers ordered → AreJoined n classes ordered
ordered_joined n classes numbers ordered it = record { size = it.size; same = one }
  where
    one : (i j : ℕ) → i < n → j < n → class_in classes i ≡ class_in classes j → class_in ordered i ≡ class_in ordered j
    one i j low low' equal =
        let some : Some (class_in ordered i) ≡ Some (class_in ordered j) = sym (it.numbered i low) ∙ (ap (λ class. get_or numbers class None) equal ∙ it.numbered j low') in
        cc

-- heads whose states have the same classes have one code
module _ (f g : ℕ → ℕ) where
  abbrev Same : ℕ → Type 0
  Same c = f c ≡ g c

  one_same : (xs : List ℕ) → IsSingle xs → All Same xs → f (one_of xs) ≡ g (one_of xs)
  one_same xs single all =
      subst (λ (ys : List ℕ). f (one_of ys) ≡ g (one_of ys)) (sym single.1) (All-head Same single.0 [] (subst (All Same) single.1 all))

  functions_same : (p : Polarity) (o : Option Arms) → HasSingleArms o → HasArmsIn (λ q c. Same c) p o → function_code f o ≡ function_code g o
  functions_same p None single all = refl
  functions_same p (Some arms) single all = λ i. 1 ∷ one_same arms.domain single.0 all.0 i ∷ one_same arms.codomain single.1 all.1 i ∷ []

  fields_same : (fs : List FieldSet) → All (λ (x : FieldSet). IsSingle x.set) fs → All (λ (x : FieldSet). All Same x.set) fs → flat_map (field_code f) fs ≡ flat_map (field_code g) fs
  fields_same [] single all = refl
  fields_same (x ∷ xs) single all =
      let first : f (one_of x.set) ≡ g (one_of x.set) = one_same x.set (All-head (λ (x : FieldSet). IsSingle x.set) x xs single) (All-head (λ (x : FieldSet). All Same x.set) x xs all) in
      let rest : flat_map (field_code f) xs ≡ flat_map (field_code g) xs = fields_same xs (All-tail (λ (x : FieldSet). IsSingle x.set) x xs single) (All-tail (λ (x : FieldSet). All Same x.set) x xs all) in
      λ i. (length x.label ∷ x.label ++ first i ∷ []) ++ rest i

  records_same : (p : Polarity) (o : Option (List FieldSet)) → HasSingleFields o → HasFieldsIn (λ q c. Same c) p o → record_code f o ≡ record_code g o
  records_same p None single all = refl
  records_same p (Some fs) single all = ap (λ (xs : List ℕ). 1 ∷ xs) (fields_same fs single all)

  codes_same : (p : Polarity) (h : Head) → HasSingleArms h.function × HasSingleFields h.fields → HasStatesIn (λ q c. Same c) p h → head_code f h ≡ head_code g h
  codes_same p h single all = λ i.
      bit_code h.boolean ∷ bit_code h.integer ∷ functions_same p h.function single.0 all.function i ++ records_same p h.fields single.1 all.fields i

  pub key_moved : (a : Automaton) → IsDeterministic a → (s : ℕ) (key : List ℕ) → HasStatesIn (λ q c. Same c) (polarity_at a s) (head_at a s) → IsKeyOf a f s key → IsKeyOf a g s key
  key_moved a single s key all it = record {
    partners = it.partners;
    rises = it.rises;
    are = it.are;
    is = it.is ∙ (λ i. sign (polarity_at a s) ∷ length it.partners ∷ it.partners ++ codes_same (polarity_at a s) (head_at a s) (single s) all i);
  }

-- what holds of all states that a head names
states_both : (Q R : ℕ → Type 0) (p : Polarity) (h : Head) → HasStatesIn (λ q c. Q c) p h → HasStatesIn (λ q c. R c) p h → HasStatesIn (λ q c. Q c × R c) p h
states_both Q R p h one two = record { function = arms h.function one.function two.function; fields = rows h.fields one.fields two.fields }
  where
    arms : (o : Option Arms) → HasArmsIn (λ q c. Q c) p o → HasArmsIn (λ q c. R c) p o → HasArmsIn (λ q c. Q c × R c) p o
    arms None one two = tt
    arms (Some f) one two = (λ k d low. (one.0 k d low, two.0 k d low), λ k d low. (one.1 k d low, two.1 k d low))

    rows : (o : Option (List FieldSet)) → HasFieldsIn (λ q c. Q c) p o → HasFieldsIn (λ q c. R c) p o → HasFieldsIn (λ q c. Q c × R c) p o
    rows None one two = tt
    rows (Some fs) one two = λ k d low i e low'. (one k d low i e low', two k d low i e low')

-- a head that names none names only what one likes
none_named : (Q : Polarity → ℕ → Type 0) (p : Polarity) (h : Head) → names_none h ≡ true → HasStatesIn Q p h
none_named Q p h none = record { function = arms h.function (both.0); fields = rows h.fields (both.1) }
  where
    split : (x y : Bool) → (x && y) ≡ true → (x ≡ true) × (y ≡ true)
    split true y e = (refl, e)
    split false y e = let wrong : false ≡ true = e in absurd (cc)

    both : (is_none h.function ≡ true) × (is_none h.fields ≡ true)
    both = split (is_none h.function) (is_none h.fields) none

    arms : (o : Option Arms) → is_none o ≡ true → HasArmsIn Q p o
    arms None e = tt
    arms (Some f) e = let wrong : false ≡ true = e in absurd (cc)

    rows : (o : Option (List FieldSet)) → is_none o ≡ true → HasFieldsIn Q p o
    rows None e = tt
    rows (Some fs) e = let wrong : false ≡ true = e in absurd (cc)

pub keyed_none : (a : Automaton) (classes : List ℕ) (known : BTreeMap (List ℕ) ℕ) → length classes ≡ length a.states → AreKeyed a (IsLeafBelow a 0) classes known
keyed_none a classes known size = record { size = size; keyed = λ s low done. let less : s < 0 = done.1 in absurd (omega arith) }

module _ (a : Automaton) (single : IsDeterministic a) where
  -- one state more has the class of its key, where no head of these states names it
  keyed_more : (IsDone IsDone' : ℕ → Type 0) (s : ℕ) (classes classes' : List ℕ) (known known' : BTreeMap (List ℕ) ℕ) → s < length a.states → AreKeyed a IsDone classes known → Classifies a s classes known classes' known'
      → ((t : ℕ) → IsDone' t → (t ≡ s → ⊥) → IsDone t) → ((t : ℕ) → t < length a.states → IsDone' t → HasStatesIn (λ q c. c ≡ s → ⊥) (polarity_at a t) (head_at a t)) → AreKeyed a IsDone' classes' known'
  keyed_more IsDone IsDone' s classes classes' known known' low it gets others free =
      subst (λ xs. AreKeyed a IsDone' xs known') (sym gets.stored) (record {
        size = length-set classes s gets.class ∙ it.size;
        keyed = λ t low' done. go t low' done (cases_eq t s);
      })
    where
      moved : (t : ℕ) → t < length a.states → IsDone' t → HasStatesIn (λ q c. class_in classes c ≡ class_in (set classes s gets.class) c) (polarity_at a t) (head_at a t)
      moved t low' done =
          states_more (λ q c. c ≡ s → ⊥) (λ q c. class_in classes c ≡ class_in (set classes s gets.class) c)
          (λ q c apart. sym (get_or-set_other classes s c gets.class 0 apart)) (polarity_at a t) (head_at a t) (free t low' done)

      here : class_in (set classes s gets.class) s ≡ gets.class
      here = get_or-set_same classes s gets.class 0 (let size : length classes ≡ length a.states = it.size in omega (arith, low))

      go : (t : ℕ) → t < length a.states → IsDone' t → (t ≡ s) ⊎ (t ≡ s → ⊥)
          → (other : List ℕ) × IsKeyOf a (class_in (set classes s gets.class)) t other × (get (slice_cmp nat_cmp) known' other ≡ Some (class_in (set classes s gets.class) t))
      go t low' done (inl same) =
          subst (λ t. (other : List ℕ) × IsKeyOf a (class_in (set classes s gets.class)) t other × (get (slice_cmp nat_cmp) known' other ≡ Some (class_in (set classes s gets.class) t))) (sym same) (
            gets.key,
            key_moved (class_in classes) (class_in (set classes s gets.class)) a single s gets.key (subst (λ t. HasStatesIn (λ q c. class_in classes c ≡ class_in (set classes s gets.class) c) (polarity_at a t) (head_at a t)) same (moved t low' done)) gets.has,
            gets.knows.now ∙ ap Some (sym here),
          )
      go t low' done (inr apart) =
          let old = it.keyed t low' (others t done apart) in (
            old.0,
            key_moved (class_in classes) (class_in (set classes s gets.class)) a single t old.0 (moved t low' done) old.1,
            gets.knows.kept old.0 (class_in classes t) old.2 ∙ ap Some (sym (get_or-set_other classes s t gets.class 0 apart)),
          )

  -- one state after another whose head names none
  pub leaf_more : (s : ℕ) (classes classes' : List ℕ) (known known' : BTreeMap (List ℕ) ℕ) → s < length a.states → AreKeyed a (IsLeafBelow a s) classes known → Classifies a s classes known classes' known' → AreKeyed a (IsLeafBelow a (s + 1)) classes' known'
  leaf_more s classes classes' known known' low it gets =
      keyed_more (IsLeafBelow a s) (IsLeafBelow a (s + 1)) s classes classes' known known' low it gets
      (λ t done apart. (done.0, let less : t < s + 1 = done.1 in omega (arith, apart)))
      (λ t low' done. none_named (λ q c. c ≡ s → ⊥) (polarity_at a t) (head_at a t) done.0)

  pub leaf_skip : (s : ℕ) (classes : List ℕ) (known : BTreeMap (List ℕ) ℕ) → is_leaf a s ≡ false → AreKeyed a (IsLeafBelow a s) classes known → AreKeyed a (IsLeafBelow a (s + 1)) classes known
  leaf_skip s classes known other it = record { size = it.size; keyed = λ t low done. it.keyed t low (done.0, before t done (cases_eq t s)) }
    where
      before : (t : ℕ) → IsLeafBelow a (s + 1) t → (t ≡ s) ⊎ (t ≡ s → ⊥) → t < s
      before t done (inl same) = let wrong : true ≡ false = sym done.0 ∙ (ap (is_leaf a) same ∙ other) in absurd (cc)
      before t done (inr apart) = let less : t < s + 1 = done.1 in omega (arith, apart)

  -- the other states, from the last one on
  pub others_none : (classes : List ℕ) (known : BTreeMap (List ℕ) ℕ) → AreKeyed a (IsLeafBelow a (length a.states)) classes known → AreKeyed a (IsLeafOrLast a 0) classes known
  others_none classes known it = record { size = it.size; keyed = λ t low done. it.keyed t low (leaf t low done, low) }
    where
      leaf : (t : ℕ) → t < length a.states → IsLeafOrLast a 0 t → is_leaf a t ≡ true
      leaf t low (inl is) = is
      leaf t low (inr past) = let more : length a.states ≤ t + 0 = past in absurd (omega (arith, low))

  pub others_skip : (k s : ℕ) (classes : List ℕ) (known : BTreeMap (List ℕ) ℕ) → suc (s + k) ≡ length a.states → is_leaf a s ≡ true → AreKeyed a (IsLeafOrLast a k) classes known → AreKeyed a (IsLeafOrLast a (k + 1)) classes known
  others_skip k s classes known place leaf it = record { size = it.size; keyed = λ t low done. it.keyed t low (before t done (cases_eq t s)) }
    where
      before : (t : ℕ) → IsLeafOrLast a (k + 1) t → (t ≡ s) ⊎ (t ≡ s → ⊥) → IsLeafOrLast a k t
      before t done (inl same) = inl (ap (is_leaf a) same ∙ leaf)
      before t (inl is) (inr apart) = inl is
      before t (inr last) (inr apart) = inr (let more : length a.states ≤ t + (k + 1) = last in omega (arith, place, apart))

module _ (a : Automaton) (single : IsDeterministic a) (later : NamesLater a) where
  pub others_more : (k s : ℕ) (classes classes' : List ℕ) (known known' : BTreeMap (List ℕ) ℕ) → suc (s + k) ≡ length a.states → is_leaf a s ≡ false → AreKeyed a (IsLeafOrLast a k) classes known → Classifies a s classes known classes' known'
      → AreKeyed a (IsLeafOrLast a (k + 1)) classes' known'
  others_more k s classes classes' known known' place other it gets =
      keyed_more a single (IsLeafOrLast a k) (IsLeafOrLast a (k + 1)) s classes classes' known known' (omega (arith, place)) it gets before free
    where
      before : (t : ℕ) → IsLeafOrLast a (k + 1) t → (t ≡ s → ⊥) → IsLeafOrLast a k t
      before t (inl is) apart = inl is
      before t (inr last) apart = inr (let more : length a.states ≤ t + (k + 1) = last in omega (arith, place, apart))

      apart : (t c : ℕ) → s ≤ t → StandsBehind a t c → c ≡ s → ⊥
      apart t c more (inl behind) same = let less : t < c = behind in absurd (omega (arith, more, same))
      apart t c more (inr leaf) same = let wrong : true ≡ false = sym leaf ∙ (ap (is_leaf a) same ∙ other) in absurd (cc)

      free : (t : ℕ) → t < length a.states → IsLeafOrLast a (k + 1) t → HasStatesIn (λ q c. c ≡ s → ⊥) (polarity_at a t) (head_at a t)
      free t low (inl is) = none_named (λ q c. c ≡ s → ⊥) (polarity_at a t) (head_at a t) is
      free t low (inr last) =
          states_more (λ q c. StandsBehind a t c) (λ q c. c ≡ s → ⊥)
          (λ q c behind. apart t c (let more : length a.states ≤ t + (k + 1) = last in omega (arith, place)) behind) (polarity_at a t) (head_at a t) (later t low)

  -- in the end alike states are together
  module _ (closed : IsClosed a) (classes : List ℕ) (known : BTreeMap (List ℕ) ℕ) (it : AreKeyed a (IsLeafOrLast a (length a.states)) classes known) where
    abbrev n : ℕ
    n = length a.states

    abbrev class : ℕ → ℕ
    class = class_in classes

    one_class : (i j : ℕ) → i < n → j < n → IsAlikePair a (λ x y. class x ≡ class y) i j → class i ≡ class j
    one_class i j low low' pair =
        let one = it.keyed i low (inr (omega arith)) in
        let two = it.keyed j low' (inr (omega arith)) in
        let equal : one.0 ≡ two.0 = key_unique a closed single class j one.0 two.0 (alike_key a closed single class i j one.0 pair one.1) two.1 in
        let some : Some (class i) ≡ Some (class j) = sym one.2 ∙ (ap (get (slice_cmp nat_cmp) known) equal ∙ two.2) in
        cc

    inside : (s : ℕ) → HasStatesIn (λ q c. c < n) (polarity_at a s) (head_at a s)
    inside s = states_more (IsState a) (λ q c. c < n) (λ q c state. state.in_range) (polarity_at a s) (head_at a s) (closed.heads s)

    -- states whose heads name none
    leaves_together : (x y : ℕ) → is_leaf a x ≡ true → x < n → y < n → (table : ℕ → ℕ → _) → IsAlikeness a (Holds table) → Holds table x y → class x ≡ class y
    leaves_together x y leaf low low' table are holds =
        let pair = are x y low low' holds in
        let heads : AreHeadsAlike (λ u v. class u ≡ class v) (parts_of (head_at a x)) (parts_of (head_at a y)) =
        alike-more (Known (Holds table) (λ c. ⊥) (λ c. c < n)) (λ u v. class u ≡ class v)
        (λ u v known. absurd known.1)
        (parts_of (head_at a x)) (parts_of (head_at a y))
        (alike-known (Holds table) (λ c. ⊥) (λ c. c < n) (polarity_at a x) (polarity_at a y) (parts_of (head_at a x)) (parts_of (head_at a y))
        (parts_in (λ q c. ⊥) (polarity_at a x) (head_at a x) (none_named (λ q c. ⊥) (polarity_at a x) (head_at a x) leaf))
        (parts_in (λ q c. c < n) (polarity_at a y) (head_at a y) (inside y)) pair.heads) in
        one_class x y low low' (record { polarity = pair.polarity; heads = heads; outgoing = pair.outgoing; incoming = pair.incoming })

    together : (fuel x y : ℕ) → n < fuel + x → x < n → y < n → (table : ℕ → ℕ → _) → IsAlikeness a (Holds table) → Holds table x y → class x ≡ class y
    together zero x y more low low' table are holds = absurd (omega arith)
    together (suc fuel) x y more low low' table are holds =
        let pair = are x y low low' holds in
        let heads : AreHeadsAlike (λ u v. class u ≡ class v) (parts_of (head_at a x)) (parts_of (head_at a y)) =
        alike-more (Known (Holds table) (λ c. StandsBehind a x c × (c < n)) (λ c. c < n)) (λ u v. class u ≡ class v)
        (λ u v known.
        elim known.1.0 [
          | inl behind ↦ together fuel u v (let less : x < u = behind in omega arith) known.1.1 known.2 table are known.0
          | inr leaf ↦ leaves_together u v leaf known.1.1 known.2 table are known.0
        ])
        (parts_of (head_at a x)) (parts_of (head_at a y))
        (alike-known (Holds table) (λ c. StandsBehind a x c × (c < n)) (λ c. c < n) (polarity_at a x) (polarity_at a y) (parts_of (head_at a x)) (parts_of (head_at a y))
        (parts_in (λ q c. StandsBehind a x c × (c < n)) (polarity_at a x) (head_at a x) (states_both (StandsBehind a x) (λ c. c < n) (polarity_at a x) (head_at a x) (later x low) (inside x)))
        (parts_in (λ q c. c < n) (polarity_at a y) (head_at a y) (inside y)) pair.heads) in
        one_class x y low low' (record { polarity = pair.polarity; heads = heads; outgoing = pair.outgoing; incoming = pair.incoming })

    pub upwards_keep : KeepsAlike a classes
    upwards_keep x y low low' alike = together (suc n) x y (omega arith) low low' alike.0 alike.1 alike.2

-- the same classes with other numbers
pub joined_keep : (a : Automaton) (classes ordered : List ℕ) → AreJoined (length a.states) classes ordered → KeepsAlike a classes → KeepsAlike a ordered
joined_keep a classes ordered joined keeps x y low low' alike = joined.same x y low low' (keeps x y low low' alike)

-- each state is a class
pub own_classes : (a : Automaton) (c : Classes) → length c.numbers.items ≡ length a.states → AreApart c.numbers.items → KeepsAlike a c.numbers.items → AreCounted (length a.states) c.chosen.items → AreClasses a c
own_classes a c size apart keeps counted = record {
  size = size;
  low = λ s low. let many : length c.chosen.items ≡ length a.states = counted.size in let own : class_in c.numbers.items s ≡ s = number s low in omega arith;
  chosen = λ k low.
      let many : length c.chosen.items ≡ length a.states = counted.size in
      let inside : k < length a.states = omega arith in
      let own : class_in c.chosen.items k ≡ k = counted.own k inside in
      (omega arith, ap (class_in c.numbers.items) own ∙ number k inside);
  classes = λ i j low low'. (
    λ equal. subst (IsAlike a i) (sym (number i low) ∙ (equal ∙ number j low')) (alike-refl a i),
    keeps i j low low',
  );
}
  where
    number : (s : ℕ) → s < length a.states → class_in c.numbers.items s ≡ s
    number s low = apart s (omega (arith, size))
