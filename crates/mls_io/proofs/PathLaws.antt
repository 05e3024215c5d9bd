-- What a search path holds over its members, before and after they are asked.
use Rattle.std.proofs.Common.{◌≡◌, ℕ, ◌<◌, Bool, true, false, List, [], ◌∷◌, ◌++◌, map, take, drop, inl, inr, refl, subst, sym, ◌∙◌, append-nil, arith}
use Rattle.std.proofs.lemmas.List.{take-append-le}
use Rattle.std.proofs.Math.Seq.{take-length}
use Rattle.std.specs.Prelude.{◌≢◌, ◌↔◌, ◌||◌, IsTrue, Option, Some, None, IfSome, option_map, find, bytes_eq, cond, length}
use Rattle.mls_base.specs.Files.{Files, bytes_at}
use Rattle.mls_io.specs.Counts.{Count, Grows, Rose, no_count}
use Rattle.mls_io.specs.Stores.{Holdings, Follows, IsAsked}
use Rattle.mls_io.specs.Paths.{EachMisses, plus, total, then_files, files_in_turn, joined}
use Rattle.mls_io.specs.declared.store.Fetch.{Fetch}
use Rattle.mls_io.specs.declared.store.Fetch.TheVariants.{Missing, Failed, Memory}
use Rattle.mls_io.specs.steps.Asking.{AskedInTurn}
use Rattle.mls_io.proofs.CountLaws.{Grows-refl}

or-left : (x y : Bool) → IsTrue x → IsTrue (x || y)
or-left true y _ = refl
or-left false y h = absurd (cc)

or-right : (x y : Bool) → IsTrue y → IsTrue (x || y)
or-right true y _ = refl
or-right false y h = h

-- sums do not fall where their parts do not
plus-Grows : (a b c d : Count) → Grows a b → Grows c d → Grows (plus a c) (plus b d)
plus-Grows a b c d first second = record { value = omega (arith, first.value, second.value); worn = by a.is_worn c.is_worn first.worn second.worn }
  where
    by : (x y : Bool) → (IsTrue x → IsTrue b.is_worn) → (IsTrue y → IsTrue d.is_worn) → IsTrue (x || y) → IsTrue (b.is_worn || d.is_worn)
    by true y p q h = or-left b.is_worn d.is_worn (p refl)
    by false y p q h = or-right b.is_worn d.is_worn (q h)

-- and rise where one of them does
plus-Rose-first : (a b c d : Count) → Rose a b → Grows c d → Rose (plus a c) (plus b d)
plus-Rose-first a b c d first second = elim first [ inl rose ↦ inl (omega (arith, rose, second.value)) | inr worn ↦ inr (or-left b.is_worn d.is_worn worn) ]

plus-Rose-second : (a b c d : Count) → Grows a b → Rose c d → Rose (plus a c) (plus b d)
plus-Rose-second a b c d first second = elim second [ inl rose ↦ inl (omega (arith, first.value, rose)) | inr worn ↦ inr (or-right b.is_worn d.is_worn worn) ]

module _ (count : Holdings → Count) (grow : (old new : Holdings) → Follows old new → Grows (count old) (count new)) (name : List ℕ) where
  total-Grows : (olds news rest later : List Holdings) → EachMisses name olds news → Grows (total (map count rest)) (total (map count later)) → Grows (total (map count (olds ++ rest))) (total (map count (news ++ later)))
  total-Grows [] [] rest later all behind = behind
  total-Grows [] (n ∷ news) rest later all behind = absurd all
  total-Grows (o ∷ olds) [] rest later all behind = absurd all
  total-Grows (o ∷ olds) (n ∷ news) rest later all behind = plus-Grows (count o) (count n) (total (map count (olds ++ rest))) (total (map count (news ++ later))) (grow o n all.0.follows) (total-Grows olds news rest later all.1 behind)

  total-Rose : (olds news rest later : List Holdings) → EachMisses name olds news → Rose (total (map count rest)) (total (map count later)) → Rose (total (map count (olds ++ rest))) (total (map count (news ++ later)))
  total-Rose [] [] rest later all behind = behind
  total-Rose [] (n ∷ news) rest later all behind = absurd all
  total-Rose (o ∷ olds) [] rest later all behind = absurd all
  total-Rose (o ∷ olds) (n ∷ news) rest later all behind = plus-Rose-second (count o) (count n) (total (map count (olds ++ rest))) (total (map count (news ++ later))) (grow o n all.0.follows) (total-Rose olds news rest later all.1 behind)

-- the files stay
files-same : (name : List ℕ) (olds news rest later : List Holdings) → EachMisses name olds news → files_in_turn later ≡ files_in_turn rest → files_in_turn (news ++ later) ≡ files_in_turn (olds ++ rest)
files-same name [] [] rest later all behind = behind
files-same name [] (n ∷ news) rest later all behind = absurd all
files-same name (o ∷ olds) [] rest later all behind = absurd all
files-same name (o ∷ olds) (n ∷ news) rest later all behind = let tail = files-same name olds news rest later all.1 behind in (λ i. then_files (all.0.follows.files i) (tail i))

-- the bytes of a name are those of the first list that has it
bytes_at-append-none : (first second : Files) (name : List ℕ) → bytes_at first name ≡ None → bytes_at (first ++ second) name ≡ bytes_at second name
bytes_at-append-none [] second name absent = refl
bytes_at-append-none (file ∷ first) second name absent = by (bytes_eq file.0 name) absent (λ later. bytes_at-append-none first second name later)
  where
    by : (b : Bool) → option_map (λ (f : List ℕ × List ℕ). f.1) (cond b (Some file) (find (λ (f : List ℕ × List ℕ). bytes_eq f.0 name) first)) ≡ None
        → (bytes_at first name ≡ None → bytes_at (first ++ second) name ≡ bytes_at second name)
        → option_map (λ (f : List ℕ × List ℕ). f.1) (cond b (Some file) (find (λ (f : List ℕ × List ℕ). bytes_eq f.0 name) (first ++ second))) ≡ bytes_at second name
    by true found _ = absurd (cc)
    by false later rest = rest later

bytes_at-append-some : (first second : Files) (name bytes : List ℕ) → bytes_at first name ≡ Some bytes → bytes_at (first ++ second) name ≡ Some bytes
bytes_at-append-some [] second name bytes found = absurd (cc)
bytes_at-append-some (file ∷ first) second name bytes found = by (bytes_eq file.0 name) found (λ later. bytes_at-append-some first second name bytes later)
  where
    by : (b : Bool) → option_map (λ (f : List ℕ × List ℕ). f.1) (cond b (Some file) (find (λ (f : List ℕ × List ℕ). bytes_eq f.0 name) first)) ≡ Some bytes
        → (bytes_at first name ≡ Some bytes → bytes_at (first ++ second) name ≡ Some bytes)
        → option_map (λ (f : List ℕ × List ℕ). f.1) (cond b (Some file) (find (λ (f : List ℕ × List ℕ). bytes_eq f.0 name) (first ++ second))) ≡ Some bytes
    by true found _ = found
    by false later rest = rest later

module _ (name : List ℕ) (P : Option (List ℕ) → Type 0) where
  -- members without the file say nothing of it
  told-behind : (first rest : Option Files) → IfSome first (λ files. bytes_at files name ≡ None) → IfSome rest (λ files. P (bytes_at files name)) → IfSome (then_files first rest) (λ files. P (bytes_at files name))
  told-behind None rest absent told = tt
  told-behind (Some first) None absent told = tt
  told-behind (Some first) (Some rest) absent told = subst P (sym (bytes_at-append-none first rest name absent)) told

  told-missed : (olds news rest : List Holdings) → EachMisses name olds news → IfSome (files_in_turn rest) (λ files. P (bytes_at files name)) → IfSome (files_in_turn (olds ++ rest)) (λ files. P (bytes_at files name))
  told-missed [] [] rest all told = told
  told-missed [] (n ∷ news) rest all told = absurd all
  told-missed (o ∷ olds) [] rest all told = absurd all
  told-missed (o ∷ olds) (n ∷ news) rest all told = told-behind o.files (files_in_turn (olds ++ rest)) all.0.told (told-missed olds news rest all.1 told)

  -- and what the first member that has it says counts
  told-first : (P None → ⊥) → (first rest : Option Files) → IfSome first (λ files. P (bytes_at files name)) → IfSome (then_files first rest) (λ files. P (bytes_at files name))
  told-first some None rest told = tt
  told-first some (Some first) None told = tt
  told-first some (Some first) (Some rest) told = by (bytes_at first name) refl told
    where
      by : (o : Option (List ℕ)) → bytes_at first name ≡ o → P o → P (bytes_at (first ++ rest) name)
      by None _ p = absurd (some p)
      by (Some bytes) found p = subst P (sym (bytes_at-append-some first rest name bytes found)) p

  pub told-stopped : (P None → ⊥) → (olds news : List Holdings) (o : Holdings) (rest : List Holdings) → EachMisses name olds news → IfSome o.files (λ files. P (bytes_at files name)) → IfSome (files_in_turn (olds ++ o ∷ rest)) (λ files. P (bytes_at files name))
  told-stopped some olds news o rest all told = told-missed olds news (o ∷ rest) all (told-first some o.files (files_in_turn rest) told)

-- a premise more or less, where something is told
under : (o : Option Files) (A C : Type 0) (Q : Files → Type 0) → (A → C → IfSome o Q) → IfSome o (λ files. A → C → Q files)
under None A C Q told = tt
under (Some files) A C Q told = told

over : (o : Option Files) (A C : Type 0) (Q : Files → Type 0) → IfSome o (λ files. A → C → Q files) → A → C → IfSome o Q
over None A C Q told a b = tt
over (Some files) A C Q told a b = told a b

-- what is told of absent files where the answer is that there is none
none_told : (o : Option Files) (name : List ℕ) (answer : Fetch) → answer ≡ Missing → IfSome o (λ files. bytes_at files name ≡ None)
    → IfSome o (λ files. answer ≢ Failed → answer ≢ Memory → (answer ≡ Missing) ↔ (bytes_at files name ≡ None))
none_told None name answer is told = tt
none_told (Some files) name answer is told = λ _ _. ((λ _. told), (λ _. is))

-- no member had the file
none_asked : (m later_m : Count) (olds news : List Holdings) (name : List ℕ) (limit : ℕ) (before after : List ℕ) (answer : Fetch)
    → EachMisses name olds news → after ≡ before → answer ≡ Missing → Grows m later_m → Rose m later_m
    → IsAsked (joined m (olds ++ [])) (joined later_m (news ++ [])) name limit before after answer
none_asked m later_m olds news name limit before after answer missed unchanged answers grows rose = record {
  follows = record {
    files = files-same name olds news [] [] missed refl;
    faults = total-Grows (λ member. member.faults) (λ o n f. f.faults) name olds news [] [] missed (Grows-refl no_count);
    misses = grows;
    longs = total-Grows (λ member. member.longs) (λ o n f. f.longs) name olds news [] [] missed (Grows-refl no_count);
  };
  found = λ is. absurd (cc);
  missing = record {
    counted = λ _. rose;
    told = none_told (files_in_turn (olds ++ [])) name answer answers (told-missed name (λ o. o ≡ None) olds news [] missed refl);
  };
  long = λ is. absurd (cc);
  failed = λ is. absurd (cc);
  unchanged = λ _. unchanged;
}

-- a member answered otherwise
stopped_asked : (m later_m : Count) (front later_front : List Holdings) (old new : Holdings) (rest : List Holdings) (name : List ℕ) (limit : ℕ) (before after : List ℕ) (answer : Fetch)
    → EachMisses name front later_front → IsAsked old new name limit before after answer → answer ≢ Missing → Grows m later_m
    → IsAsked (joined m (front ++ old ∷ rest)) (joined later_m (later_front ++ new ∷ rest)) name limit before after answer
stopped_asked m later_m front later_front old new rest name limit before after answer missed asked other grows = record {
  follows = record {
    files = files-same name front later_front (old ∷ rest) (new ∷ rest) missed (λ i. then_files (asked.follows.files i) (files_in_turn rest));
    faults = total-Grows (λ member. member.faults) (λ o n f. f.faults) name front later_front (old ∷ rest) (new ∷ rest) missed (plus-Grows old.faults new.faults (total (map (λ member. member.faults) rest)) (total (map (λ member. member.faults) rest)) asked.follows.faults (Grows-refl (total (map (λ member. member.faults) rest))));
    misses = grows;
    longs = total-Grows (λ member. member.longs) (λ o n f. f.longs) name front later_front (old ∷ rest) (new ∷ rest) missed (plus-Grows old.longs new.longs (total (map (λ member. member.longs) rest)) (total (map (λ member. member.longs) rest)) asked.follows.longs (Grows-refl (total (map (λ member. member.longs) rest))));
  };
  found = λ is. record {
    bytes = (asked.found is).bytes;
    added = (asked.found is).added;
    within = (asked.found is).within;
    told = told-stopped name (λ o. o ≡ Some (asked.found is).bytes) (λ none. absurd (cc)) front later_front old rest missed (asked.found is).told;
  };
  missing = record {
    counted = λ is. absurd (other is);
    told = under (files_in_turn (front ++ old ∷ rest)) (answer ≢ Failed) (answer ≢ Memory) (λ files. (answer ≡ Missing) ↔ (bytes_at files name ≡ None))
        (λ read kept. told-stopped name (λ o. (answer ≡ Missing) ↔ (o ≡ None)) (λ none. other (none.1 refl)) front later_front old rest missed
        (over old.files (answer ≢ Failed) (answer ≢ Memory) (λ files. (answer ≡ Missing) ↔ (bytes_at files name ≡ None)) asked.missing.told read kept));
  };
  long = λ is. record {
    counted = total-Rose (λ member. member.longs) (λ o n f. f.longs) name front later_front (old ∷ rest) (new ∷ rest) missed (plus-Rose-first old.longs new.longs (total (map (λ member. member.longs) rest)) (total (map (λ member. member.longs) rest)) (asked.long is).counted (Grows-refl (total (map (λ member. member.longs) rest))));
    told = told-stopped name (λ o. (bytes : List ℕ) × (o ≡ Some bytes) × (limit < length bytes)) (λ none. absurd (cc)) front later_front old rest missed (asked.long is).told;
  };
  failed = λ is. total-Rose (λ member. member.faults) (λ o n f. f.faults) name front later_front (old ∷ rest) (new ∷ rest) missed (plus-Rose-first old.faults new.faults (total (map (λ member. member.faults) rest)) (total (map (λ member. member.faults) rest)) (asked.failed is) (Grows-refl (total (map (λ member. member.faults) rest))));
  unchanged = asked.unchanged;
}

-- a path answers as a store over the files of its members in turn
pub path_asked : (m later_m : Count) (olds news : List Holdings) (name : List ℕ) (limit : ℕ) (before after : List ℕ) (answer : Fetch)
    → AskedInTurn olds news name limit before after answer → Grows m later_m → (answer ≡ Missing → Rose m later_m)
    → IsAsked (joined m olds) (joined later_m news) name limit before after answer
path_asked m later_m olds news name limit before after answer asked grows rose = elim asked [
  | inl none ↦ subst (λ (xs : List Holdings). IsAsked (joined m xs) (joined later_m news) name limit before after answer) (append-nil olds)
      (subst (λ (ys : List Holdings). IsAsked (joined m (olds ++ [])) (joined later_m ys) name limit before after answer) (append-nil news)
      (none_asked m later_m olds news name limit before after answer none.missed none.unchanged none.answers grows (rose none.answers)))
  | inr stop ↦ subst (λ (xs : List Holdings). IsAsked (joined m xs) (joined later_m news) name limit before after answer) (sym stop.olds_are)
      (subst (λ (ys : List Holdings). IsAsked (joined m (stop.front ++ stop.old ∷ stop.rest)) (joined later_m ys) name limit before after answer) (sym stop.news_are)
      (stopped_asked m later_m stop.front stop.later_front stop.old stop.new stop.rest name limit before after answer stop.missed stop.asked stop.other grows))
]

-- the same for the members themselves
pub members_asked : {B : Type 0} (held : B → Holdings) (m later_m : Count) (olds asked_olds news asked_news : List B) (name : List ℕ) (limit : ℕ) (before after : List ℕ) (answer : Fetch)
    → asked_olds ≡ olds → asked_news ≡ news → AskedInTurn (map held asked_olds) (map held asked_news) name limit before after answer → Grows m later_m → (answer ≡ Missing → Rose m later_m)
    → IsAsked (joined m (map held olds)) (joined later_m (map held news)) name limit before after answer
members_asked {B} held m later_m olds asked_olds news asked_news name limit before after answer olds_are news_are asked grows rose =
    subst (λ (xs : List B). IsAsked (joined m (map held xs)) (joined later_m (map held news)) name limit before after answer) olds_are
    (subst (λ (ys : List B). IsAsked (joined m (map held asked_olds)) (joined later_m (map held ys)) name limit before after answer) news_are
    (path_asked m later_m (map held asked_olds) (map held asked_news) name limit before after answer asked grows rose))

-- what a slice of a whole vector writes back
pub written_back : {B : Type 0} (news items : List B) (n : ℕ) → length news ≡ n → news ≡ take n (news ++ drop (length news) items)
written_back news items n same = sym ((λ i. take (sym same i) (news ++ drop (length news) items)) ∙ take-append-le (length news) news (drop (length news) items) (omega arith) ∙ take-length news)
