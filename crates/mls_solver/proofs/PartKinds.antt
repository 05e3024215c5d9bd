-- Heads part by part, by the four kinds of parts.
use Rattle.std.proofs.Common.{◌≡◌, ◌⊎◌, inl, inr, ℕ, Bool, true, false, [], refl, ap, ◌∙◌, Some, None}
use Rattle.std.specs.Prelude.{Option, option_map, is_some}
use Rattle.mls_book.specs.Tests.{Test, test, never_function, always_function, never_record, always_record}
use Rattle.mls_book.specs.Predicates.{Predicate, bool, int}
use Rattle.mls_automaton.specs.declared.automaton.Polarity.{Polarity}
use Rattle.mls_automaton.specs.declared.automaton.Head.{Head}
use Rattle.mls_automaton.specs.Heads.{none_of, set_at, function_value, record_value, part_value, bit_value, head_value}
use Rattle.mls_automaton.specs.Models.{IsInside}
use Rattle.mls_automaton.proofs.HeadParts.{head_least, booleans-inside, integers-inside, functions-inside, records-inside}
use Rattle.mls_automaton.specs.declared.automaton.HeadKind.{HeadKind}
use Rattle.mls_automaton.specs.declared.automaton.HeadKind.TheVariants as kind
use Rattle.mls_automaton.specs.Automata.{has_kind}

-- the part of this kind
abbrev pub kind_value : Polarity → (ℕ → Predicate) → Head → HeadKind → Predicate
kind_value p value h kind.Bool = bit_value p bool h.boolean
kind_value p value h kind.Int = bit_value p int h.integer
kind_value p value h kind.Function = part_value p (option_map (function_value p value) h.function)
kind_value p value h kind.Rcd = part_value p (option_map (record_value p value) (option_map set_at h.fields))

pub kind-inside : (p : Polarity) (value : ℕ → Predicate) (h : Head) (k : HeadKind) → IsInside p (kind_value p value h k) (head_value p value h)
kind-inside p value h kind.Bool = booleans-inside p value h
kind-inside p value h kind.Int = integers-inside p value h
kind-inside p value h kind.Function = functions-inside p value h
kind-inside p value h kind.Rcd = records-inside p value h

pub kinds_least : (p : Polarity) (value : ℕ → Predicate) (h : Head) (g : Predicate) → ((k : HeadKind) → IsInside p (kind_value p value h k) g) → IsInside p (head_value p value h) g
kinds_least p value h g each = head_least p value h g (each kind.Bool) (each kind.Int) (each kind.Function) (each kind.Rcd)

-- a part that is not there
pub kind-absent : (p : Polarity) (value : ℕ → Predicate) (h : Head) (k : HeadKind) → has_kind k h ≡ false → kind_value p value h k ≡ none_of p
kind-absent p value h kind.Bool e = ap (bit_value p bool) e
kind-absent p value h kind.Int e = ap (bit_value p int) e
kind-absent p value h kind.Function e = go h.function e
  where
    go : (o : Option _) → is_some o ≡ false → part_value p (option_map (function_value p value) o) ≡ none_of p
    go None e = refl
    go (Some arms) e = absurd (cc)
kind-absent p value h kind.Rcd e = go h.fields e
  where
    go : (o : Option _) → is_some o ≡ false → part_value p (option_map (record_value p value) (option_map set_at o)) ≡ none_of p
    go None e = refl
    go (Some fields) e = absurd (cc)

-- the test that only parts of this kind pass
abbrev pub kind_test : HeadKind → Test
kind_test kind.Bool = test [] true false never_function never_record
kind_test kind.Int = test [] false true never_function never_record
kind_test kind.Function = test [] false false always_function never_record
kind_test kind.Rcd = test [] false false never_function always_record

abbrev pub same_kind : HeadKind → HeadKind → Bool
same_kind kind.Bool kind.Bool = true
same_kind kind.Int kind.Int = true
same_kind kind.Function kind.Function = true
same_kind kind.Rcd kind.Rcd = true
same_kind _ _ = false

pub same_kind-is : (k j : HeadKind) → (k ≡ j) ⊎ ((same_kind k j ≡ false) × (k ≡ j → ⊥))
same_kind-is kind.Bool kind.Bool = inl refl
same_kind-is kind.Bool kind.Int = inr (refl, λ e. cc)
same_kind-is kind.Bool kind.Function = inr (refl, λ e. cc)
same_kind-is kind.Bool kind.Rcd = inr (refl, λ e. cc)
same_kind-is kind.Int kind.Bool = inr (refl, λ e. cc)
same_kind-is kind.Int kind.Int = inl refl
same_kind-is kind.Int kind.Function = inr (refl, λ e. cc)
same_kind-is kind.Int kind.Rcd = inr (refl, λ e. cc)
same_kind-is kind.Function kind.Bool = inr (refl, λ e. cc)
same_kind-is kind.Function kind.Int = inr (refl, λ e. cc)
same_kind-is kind.Function kind.Function = inl refl
same_kind-is kind.Function kind.Rcd = inr (refl, λ e. cc)
same_kind-is kind.Rcd kind.Bool = inr (refl, λ e. cc)
same_kind-is kind.Rcd kind.Int = inr (refl, λ e. cc)
same_kind-is kind.Rcd kind.Function = inr (refl, λ e. cc)
same_kind-is kind.Rcd kind.Rcd = inl refl

-- a part that is there answers the test of each kind so, whatever its states pass
module _ (p : Polarity) (value : ℕ → Predicate) (h : Head) where
  bool_test : (j : HeadKind) → bool (kind_test j) ≡ same_kind kind.Bool j
  bool_test kind.Bool = refl
  bool_test kind.Int = refl
  bool_test kind.Function = refl
  bool_test kind.Rcd = refl

  int_test : (j : HeadKind) → int (kind_test j) ≡ same_kind kind.Int j
  int_test kind.Bool = refl
  int_test kind.Int = refl
  int_test kind.Function = refl
  int_test kind.Rcd = refl

  function_test : (o : Option _) → is_some o ≡ true → (j : HeadKind) → part_value p (option_map (function_value p value) o) (kind_test j) ≡ same_kind kind.Function j
  function_test None e j = absurd (cc)
  function_test (Some arms) e kind.Bool = refl
  function_test (Some arms) e kind.Int = refl
  function_test (Some arms) e kind.Function = refl
  function_test (Some arms) e kind.Rcd = refl

  record_test : (o : Option _) → is_some o ≡ true → (j : HeadKind) → part_value p (option_map (record_value p value) (option_map set_at o)) (kind_test j) ≡ same_kind kind.Rcd j
  record_test None e j = absurd (cc)
  record_test (Some fields) e kind.Bool = refl
  record_test (Some fields) e kind.Int = refl
  record_test (Some fields) e kind.Function = refl
  record_test (Some fields) e kind.Rcd = refl

  pub kind-tested : (k j : HeadKind) → has_kind k h ≡ true → kind_value p value h k (kind_test j) ≡ same_kind k j
  kind-tested kind.Bool j e = (λ i. bit_value p bool (e i) (kind_test j)) ∙ bool_test j
  kind-tested kind.Int j e = (λ i. bit_value p int (e i) (kind_test j)) ∙ int_test j
  kind-tested kind.Function j e = function_test h.function e j
  kind-tested kind.Rcd j e = record_test h.fields e j

pub same_kind-self : (k : HeadKind) → same_kind k k ≡ true
same_kind-self kind.Bool = refl
same_kind-self kind.Int = refl
same_kind-self kind.Function = refl
same_kind-self kind.Rcd = refl
