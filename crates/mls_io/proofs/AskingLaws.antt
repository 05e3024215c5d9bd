-- How members of a search path are asked one after another.
use Rattle.std.proofs.Common.{◌≡◌, ℕ, ◌+◌, ◌<◌, List, [], ◌∷◌, ◌++◌, map, take, drop, set, get_or, length, ap, subst, sym, ◌∙◌, arith}
use Rattle.std.specs.Prelude.{◌≢◌, ◌↔◌, Option, Some, None, IfSome}
use Rattle.std.proofs.lemmas.List.{map-append, take_more, take_more_set, take-set, drop_more, drop-set, drop-set-lt, take-append-drop}
use Rattle.std.proofs.Math.Seq.{take-length}
use Rattle.mls_base.specs.Files.{Files, bytes_at}
use Rattle.mls_io.specs.Stores.{Holdings, IsAsked}
use Rattle.mls_io.specs.declared.store.Fetch.{Fetch}
use Rattle.mls_io.specs.declared.store.Fetch.TheVariants.{Missing, Failed, Memory}
use Rattle.mls_io.specs.Paths.{Misses, EachMisses, StopsEarly}

-- a member that answered that it has no such file
pub asked-Misses : {old new : Holdings} {name : List ℕ} {limit : ℕ} {before after : List ℕ} {answer : Fetch} → IsAsked old new name limit before after answer → answer ≡ Missing → Misses name old new
asked-Misses {old} {new} {name} {limit} {before} {after} {answer} asked is = record {
  follows = asked.follows;
  counted = asked.missing.counted is;
  told = by old.files asked.missing.told;
}
  where
    by : (o : Option Files) → IfSome o (λ files. answer ≢ Failed → answer ≢ Memory → (answer ≡ Missing) ↔ (bytes_at files name ≡ None)) → IfSome o (λ files. bytes_at files name ≡ None)
    by None _ = tt
    by (Some files) told = (told (λ failed. absurd (cc)) (λ memory. absurd (cc))).0 is

-- one member more
EachMisses-snoc : (name : List ℕ) (olds news : List Holdings) (old new : Holdings) → EachMisses name olds news → Misses name old new → EachMisses name (olds ++ old ∷ []) (news ++ new ∷ [])
EachMisses-snoc name [] [] old new all next = (next, tt)
EachMisses-snoc name [] (n ∷ news) old new all next = absurd all
EachMisses-snoc name (o ∷ olds) [] old new all next = absurd all
EachMisses-snoc name (o ∷ olds) (n ∷ news) old new all next = (all.0, EachMisses-snoc name olds news old new all.1 next)

-- the member that is asked next is as it was
same_next : {B : Type 0} (olds news : List B) (i : ℕ) (d : B) → i < length olds → i < length news → drop i news ≡ drop i olds → get_or olds i d ≡ get_or news i d
same_next {B} olds news i d in_olds in_news rest =
    sym (ap (λ (l : List B). get_or l 0 d) (drop_more olds i d in_olds))
    ∙ ap (λ (l : List B). get_or l 0 d) (sym rest)
    ∙ ap (λ (l : List B). get_or l 0 d) (drop_more news i d in_news)

-- what is behind it stays as it was
pub rest_more : {B : Type 0} (olds news : List B) (i : ℕ) (b d : B) → i < length olds → i < length news → drop i news ≡ drop i olds → drop (i + 1) (set news i b) ≡ drop (i + 1) olds
rest_more {B} olds news i b d in_olds in_news rest =
    drop-set-lt (i + 1) news i b (omega arith)
    ∙ sym (ap (drop 1) (drop_more news i d in_news))
    ∙ ap (drop 1) rest
    ∙ ap (drop 1) (drop_more olds i d in_olds)

module _ {B : Type 0} (held : B → Holdings) where
  -- one more member answered that it has no such file
  pub front_more : (name : List ℕ) (olds news : List B) (i : ℕ) (b d : B) → i < length olds → i < length news → drop i news ≡ drop i olds
      → EachMisses name (map held (take i olds)) (map held (take i news)) → Misses name (held (get_or news i d)) (held b)
      → EachMisses name (map held (take (i + 1) olds)) (map held (take (i + 1) (set news i b)))
  front_more name olds news i b d in_olds in_news rest front next =
      let olds_are : map held (take (i + 1) olds) ≡ map held (take i olds) ++ held (get_or news i d) ∷ [] =
      ap (map held) (take_more olds i d in_olds ∙ ap (λ (x : B). take i olds ++ x ∷ []) (same_next olds news i d in_olds in_news rest)) ∙ map-append held (take i olds) (get_or news i d ∷ []) in
      let news_are : map held (take (i + 1) (set news i b)) ≡ map held (take i news) ++ held b ∷ [] =
      ap (map held) (take_more_set news i b in_news) ∙ map-append held (take i news) (b ∷ []) in
      subst (λ (xs : List Holdings). EachMisses name xs (map held (take (i + 1) (set news i b)))) (sym olds_are)
      (subst (λ (ys : List Holdings). EachMisses name (map held (take i olds) ++ held (get_or news i d) ∷ []) ys) (sym news_are)
      (EachMisses-snoc name (map held (take i olds)) (map held (take i news)) (held (get_or news i d)) (held b) front next))

  -- the next member answered otherwise
  pub stops : (name : List ℕ) (limit : ℕ) (before start after : List ℕ) (answer : Fetch) (olds news : List B) (i : ℕ) (b d : B) → i < length olds → i < length news → drop i news ≡ drop i olds
      → EachMisses name (map held (take i olds)) (map held (take i news)) → start ≡ before → IsAsked (held (get_or news i d)) (held b) name limit start after answer → answer ≢ Missing
      → StopsEarly (map held olds) (map held (set news i b)) name limit before after answer
  stops name limit before start after answer olds news i b d in_olds in_news rest front same asked other = record {
    front = map held (take i olds);
    later_front = map held (take i news);
    old = held (get_or news i d);
    new = held b;
    rest = map held (drop (i + 1) news);
    olds_are = ap (map held) (sym (take-append-drop i olds) ∙ ap (λ (r : List B). take i olds ++ r) (sym rest ∙ drop_more news i d in_news)) ∙ map-append held (take i olds) (get_or news i d ∷ drop (i + 1) news);
    news_are = ap (map held) (sym (take-append-drop i (set news i b)) ∙ (λ t. take-set news i b t ++ drop-set news i b in_news t)) ∙ map-append held (take i news) (b ∷ drop (i + 1) news);
    missed = front;
    asked = subst (λ (bytes : List ℕ). IsAsked (held (get_or news i d)) (held b) name limit bytes after answer) same asked;
    other = other;
  }

  -- all members were asked
  pub all_asked : (name : List ℕ) (olds news : List B) (i : ℕ) → i ≡ length olds → length news ≡ length olds → EachMisses name (map held (take i olds)) (map held (take i news)) → EachMisses name (map held olds) (map held news)
  all_asked name olds news i at_end lengths front =
      subst (λ (xs : List B). EachMisses name (map held xs) (map held news)) (ap (λ (n : ℕ). take n olds) at_end ∙ take-length olds)
      (subst (λ (ys : List B). EachMisses name (map held (take i olds)) (map held ys)) (ap (λ (n : ℕ). take n news) (at_end ∙ sym lengths) ∙ take-length news) front)
