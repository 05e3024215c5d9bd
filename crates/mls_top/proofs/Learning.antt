-- What is learned of files by fetches. A store that tells its files has those; for one that tells nothing there are the
-- files that were fetched.
use Rattle.std.proofs.Common.{◌≡◌, ◌⊎◌, inl, inr, ℕ, suc, ◌<◌, ◌≤◌, Bool, true, false, cond, List, [], ◌∷◌, ◌++◌, length, replicate, refl, sym, ap, ◌∙◌, subst, arith, ◌≢◌, ◌↔◌}
use Rattle.std.proofs.lemmas.List.{length-replicate}
use Rattle.std.proofs.lemmas.Bool.{cond-true, cond-false, le-ltb, lt-ltb}
use Rattle.std.proofs.lemmas.Slice.Eq.{bytes_eq-Decides}
use Rattle.std.specs.Prelude.{Option, Some, None, IfSome, Result, Ok, Err, nat_lt, option_map, find, bytes_eq}
use Rattle.mls_base.specs.Files.{Files, bytes_at}
use Rattle.mls_io.specs.declared.store.Fetch.{Fetch}
use Rattle.mls_io.specs.declared.store.Fetch.TheVariants.{Missing, Failed, Memory}
use Rattle.mls_io.specs.Stores.{Holdings, GivesFound, GivesMissing, GivesLong}
use Rattle.mls_top.specs.Answers.{MayBeThose, IsOver}
use Rattle.mls_top.specs.Refusals.{Refusal, no_file, too_long, within, found, text_at}
use Rattle.mls_top.specs.steps.Fetching.{HasOnly, Learns}

-- some files may be those of a store
pub some_files : (told : Option Files) → (files : Files) × MayBeThose told files
some_files None = ([], tt)
some_files (Some files) = (files, refl)

-- what was learned holds of some such files
pub learned_over : (told : Option Files) (names : List ℕ → Type 0) (P : Files → Type 0) → Learns told names P → IsOver told P
learned_over told names P it = record { files = it.files; of_store = it.of_store; holds = it.holds it.files (λ x n. refl) }

only_more : (told : Option Files) (names more : List ℕ → Type 0) (files : Files) → ((x : List ℕ) → names x → more x) → HasOnly told names files → HasOnly told more files
only_more None names more files wider only = λ x out. only x (λ n. out (wider x n))
only_more (Some those) names more files wider only = tt

-- what follows from what was learned was learned too
pub learned_then : (told : Option Files) (names more : List ℕ → Type 0) (P Q : Files → Type 0) → ((x : List ℕ) → names x → more x) → ((files : Files) → P files → Q files)
    → Learns told names P → Learns told more Q
learned_then told names more P Q wider then it = record {
  files = it.files;
  of_store = it.of_store;
  only = only_more told names more it.files wider it.only;
  holds = λ others agree. then others (it.holds others (λ x n. agree x (wider x n)));
}

-- the bytes of a file where it stands in one of two lists alone
bytes_front : (files others : Files) (x : List ℕ) → bytes_at others x ≡ None → bytes_at (files ++ others) x ≡ bytes_at files x
bytes_front [] others x none = none
bytes_front (f ∷ files) others x none = by (bytes_eq f.0 x) (bytes_front files others x none)
  where
    by : (b : Bool) → bytes_at (files ++ others) x ≡ bytes_at files x
        → option_map (λ (f : List ℕ × List ℕ). f.1) (cond b (Some f) (find (λ (f : List ℕ × List ℕ). bytes_eq f.0 x) (files ++ others)))
        ≡ option_map (λ (f : List ℕ × List ℕ). f.1) (cond b (Some f) (find (λ (f : List ℕ × List ℕ). bytes_eq f.0 x) files))
    by true h = refl
    by false h = h

bytes_back : (files others : Files) (x : List ℕ) → bytes_at files x ≡ None → bytes_at (files ++ others) x ≡ bytes_at others x
bytes_back [] others x none = refl
bytes_back (f ∷ files) others x none = by (bytes_eq f.0 x) none (bytes_back files others x)
  where
    by : (b : Bool) → option_map (λ (f : List ℕ × List ℕ). f.1) (cond b (Some f) (find (λ (f : List ℕ × List ℕ). bytes_eq f.0 x) files)) ≡ None
        → (bytes_at files x ≡ None → bytes_at (files ++ others) x ≡ bytes_at others x)
        → option_map (λ (f : List ℕ × List ℕ). f.1) (cond b (Some f) (find (λ (f : List ℕ × List ℕ). bytes_eq f.0 x) (files ++ others))) ≡ bytes_at others x
    by true none h = absurd (cc)
    by false none h = h none

module _ (names more : List ℕ → Type 0) (P Q : Files → Type 0) (apart : (x : List ℕ) → names x → more x → ⊥) where
  -- what was learned of different files was learned of them all
  pub learned_both : (told : Option Files) → Learns told names P → Learns told more Q → Learns told (λ x. names x ⊎ more x) (λ files. P files × Q files)
  learned_both None it jt = record {
    files = it.files ++ jt.files;
    of_store = tt;
    only = λ x out. bytes_front it.files jt.files x (jt.only x (λ m. out (inr m))) ∙ it.only x (λ n. out (inl n));
    holds = λ others agree. (
      it.holds others (λ x n. agree x (inl n) ∙ bytes_front it.files jt.files x (jt.only x (apart x n))),
      jt.holds others (λ x m. agree x (inr m) ∙ bytes_back it.files jt.files x (it.only x (λ n. apart x n m))),
    );
  }
  learned_both (Some those) it jt = record {
    files = it.files;
    of_store = it.of_store;
    only = tt;
    holds = λ others agree. (
      it.holds others (λ x n. agree x (inl n)),
      jt.holds others (λ x m. agree x (inr m) ∙ ap (λ files. bytes_at files x) (it.of_store ∙ sym jt.of_store)),
    );
  }

-- nothing is learned without a fetch
pub learned_nothing : (told : Option Files) (names : List ℕ → Type 0) (P : Files → Type 0) → ((files : Files) → P files) → Learns told names P
learned_nothing None names P all = record { files = []; of_store = tt; only = λ x out. refl; holds = λ others agree. all others }
learned_nothing (Some those) names P all = record { files = those; of_store = refl; only = tt; holds = λ others agree. all others }

-- the bytes of the one file there is
pub bytes_of_one : (file bytes : List ℕ) → bytes_at ((file, bytes) ∷ []) file ≡ Some bytes
bytes_of_one file bytes = ap (λ b. option_map (λ (f : List ℕ × List ℕ). f.1) (cond b (Some (file, bytes)) None)) ((bytes_eq-Decides file file).1 refl)

no_other : (b : Bool) (file bytes : List ℕ) → (b ≡ true → ⊥) → option_map (λ (f : List ℕ × List ℕ). f.1) (cond b (Some (file, bytes)) None) ≡ None
no_other true file bytes out = absurd (out refl)
no_other false file bytes out = refl

only_one : (file bytes x : List ℕ) → (x ≡ file → ⊥) → bytes_at ((file, bytes) ∷ []) x ≡ None
only_one file bytes x out = no_other (bytes_eq file x) file bytes (λ is. out (sym ((bytes_eq-Decides file x).0 is)))

-- what a fetch tells of a file is learned
learned_bytes : (told : Option Files) (file : List ℕ) (bytes : Option (List ℕ)) → IfSome told (λ files. bytes_at files file ≡ bytes) → Learns told (λ f. f ≡ file) (λ files. bytes_at files file ≡ bytes)
learned_bytes None file None h = record { files = []; of_store = tt; only = λ x out. refl; holds = λ others agree. agree file refl }
learned_bytes None file (Some bytes) h = record {
  files = (file, bytes) ∷ [];
  of_store = tt;
  only = λ x out. only_one file bytes x out;
  holds = λ others agree. agree file refl ∙ bytes_of_one file bytes;
}
learned_bytes (Some files) file bytes h = record { files = files; of_store = refl; only = tt; holds = λ others agree. agree file refl ∙ h }

module _ (told : Option Files) (file : List ℕ) (limit : ℕ) where
  -- and so is what its text is
  learned_text : (bytes : Option (List ℕ)) (text : Result (List ℕ) Refusal) → IfSome told (λ files. bytes_at files file ≡ bytes) → found file limit bytes ≡ text
      → Learns told (λ f. f ≡ file) (λ files. text_at files file limit ≡ text)
  learned_text bytes text h is =
      learned_then told (λ f. f ≡ file) (λ f. f ≡ file) (λ files. bytes_at files file ≡ bytes) (λ files. text_at files file limit ≡ text)
      (λ x n. n) (λ files same. ap (found file limit) same ∙ is) (learned_bytes told file bytes h)

pub short : (file : List ℕ) (limit : ℕ) (bytes : List ℕ) → length bytes ≤ limit → within file limit bytes ≡ Ok bytes
short file limit bytes low = cond-false (nat_lt limit (length bytes)) (Err (too_long file limit)) (Ok bytes) (le-ltb limit (length bytes) low)

long : (file : List ℕ) (limit : ℕ) (bytes : List ℕ) → limit < length bytes → within file limit bytes ≡ Err (too_long file limit)
long file limit bytes more = cond-true (nat_lt limit (length bytes)) (Err (too_long file limit)) (Ok bytes) (lt-ltb limit (length bytes) more)

pub found_text : (store : Holdings) (file : List ℕ) (limit : ℕ) (before after : List ℕ) → before ≡ [] → GivesFound store file limit before after
    → Learns store.files (λ f. f ≡ file) (λ files. text_at files file limit ≡ Ok after)
found_text store file limit before after none h =
    let added : after ≡ h.bytes = h.added ∙ ap (λ front. front ++ h.bytes) none in
    subst (λ bytes. Learns store.files (λ f. f ≡ file) (λ files. text_at files file limit ≡ Ok bytes)) (sym added)
    (learned_text store.files file limit (Some h.bytes) (Ok h.bytes) h.told (short file limit h.bytes h.within))

is_missing : (told : Option Files) (file : List ℕ) (answer : Fetch) → answer ≡ Missing
    → IfSome told (λ files. answer ≢ Failed → answer ≢ Memory → (answer ≡ Missing) ↔ (bytes_at files file ≡ None)) → IfSome told (λ files. bytes_at files file ≡ None)
is_missing None file answer is h = tt
is_missing (Some files) file answer is h = (h (λ other. cc) (λ other. cc)).0 is

pub missing_text : (old new : Holdings) (file : List ℕ) (limit : ℕ) (answer : Fetch) → answer ≡ Missing → GivesMissing old new file answer
    → Learns old.files (λ f. f ≡ file) (λ files. text_at files file limit ≡ Err (no_file file))
missing_text old new file limit answer is h = learned_text old.files file limit None (Err (no_file file)) (is_missing old.files file answer is h.told) refl

-- some bytes that are too many, which are those of the file where the store tells it
long_bytes : (told : Option Files) (file : List ℕ) (limit : ℕ) → IfSome told (λ files. (bytes : List ℕ) × (bytes_at files file ≡ Some bytes) × (limit < length bytes))
    → (bytes : List ℕ) × IfSome told (λ files. bytes_at files file ≡ Some bytes) × (limit < length bytes)
long_bytes None file limit h =
    let size : length (replicate (suc limit) 0) ≡ suc limit = length-replicate (suc limit) 0 in
    (replicate (suc limit) 0, tt, subst (λ n. limit < n) (sym size) (omega arith))
long_bytes (Some files) file limit h = h

pub long_text : (old new : Holdings) (file : List ℕ) (limit : ℕ) → GivesLong old new file limit
    → Learns old.files (λ f. f ≡ file) (λ files. text_at files file limit ≡ Err (too_long file limit))
long_text old new file limit h =
    let it = long_bytes old.files file limit h.told in
    learned_text old.files file limit (Some it.0) (Err (too_long file limit)) it.1 (long file limit it.0 it.2)
