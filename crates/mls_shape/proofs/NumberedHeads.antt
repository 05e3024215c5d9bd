-- Heads with one state for each of their sets.
--     one_kept, function_kept, fields_kept, record_kept, head_kept   what is there stays while sets come behind
--     one_set, two_sets, field_more, head_parts                      the sets of a head, one after the other
use Rattle.std.proofs.Common.{◌≡◌, ◌⊎◌, inl, inr, ℕ, List, [], ◌∷◌, ◌++◌, refl, sym, subst, Contains, Some, None}
use Rattle.std.specs.Prelude.{Option, Result, Ok, Err, IfOk}
use Rattle.std.proofs.lemmas.List.Elements.{Contains-append_left, Contains-push}
use Rattle.mls_automaton.specs.declared.automaton.Polarity.{Polarity}
use Rattle.mls_automaton.specs.declared.automaton.Arms.{Arms}
use Rattle.mls_automaton.specs.declared.automaton.FieldSet.{FieldSet}
use Rattle.mls_automaton.specs.declared.automaton.Head.{Head}
use Rattle.mls_automaton.specs.Automata.{opposite}
use Rattle.mls_automaton.specs.Reached.{InFunction, InAnyField, InRecord, HeadNames}
use Rattle.mls_automaton.proofs.Lists.{Contains-here}
use Rattle.mls_shape.specs.declared.register.SetState.{SetState}
use Rattle.mls_shape.specs.steps.Registers.{Grows, Numbers}
use Rattle.mls_shape.specs.steps.NumberedHeads.{IsOne, IsFunctionOf, AreFieldsOf, IsRecordOf, IsHeadOf, NumbersSet, NumbersArms, NumbersFunction, NumbersFields, NumbersRecord, NumbersHead}
use Rattle.mls_shape.proofs.Registered.{grows_none, grows_then, grows_wider, at_kept}

module _ (P : ℕ → Type 0) (old new : List SetState) (it : Grows P old new) where
  pub one_kept : (p : Polarity) (members set : List ℕ) → IsOne old p members set → IsOne new p members set
  one_kept p members set one = (one.0, one.1, at_kept P old new it one.0 p members one.2)

  pub function_kept : (p : Polarity) (function row : Option Arms) → IsFunctionOf old p function row → IsFunctionOf new p function row
  function_kept p None None is = tt
  function_kept p (Some f) (Some g) is = (one_kept (opposite p) f.domain g.domain is.0, one_kept p f.codomain g.codomain is.1)
  function_kept p None (Some g) is = absurd is
  function_kept p (Some f) None is = absurd is

  pub fields_kept : (p : Polarity) (fields row : List FieldSet) → AreFieldsOf old p fields row → AreFieldsOf new p fields row
  fields_kept p [] [] is = tt
  fields_kept p (f ∷ fields) (g ∷ row) is = (is.0, one_kept p f.set g.set is.1, fields_kept p fields row is.2)
  fields_kept p [] (g ∷ row) is = absurd is
  fields_kept p (f ∷ fields) [] is = absurd is

  pub record_kept : (p : Polarity) (fields row : Option (List FieldSet)) → IsRecordOf old p fields row → IsRecordOf new p fields row
  record_kept p None None is = tt
  record_kept p (Some f) (Some g) is = fields_kept p f g is
  record_kept p None (Some g) is = absurd is
  record_kept p (Some f) None is = absurd is

  pub head_kept : (p : Polarity) (head row : Head) → IsHeadOf old p head row → IsHeadOf new p head row
  head_kept p head row is = record {
    boolean = is.boolean;
    integer = is.integer;
    function = function_kept p head.function row.function is.function;
    fields = record_kept p head.fields row.fields is.fields;
  }

pub one_set : (p : Polarity) (members : List ℕ) (old new : List SetState) (n : ℕ) (set : List ℕ) → set ≡ n ∷ [] → Numbers p members old new n → NumbersSet p members old new set
one_set p members old new n set e it = record {
  grows = grows_wider (λ k. k ≡ n) (Contains set) (λ k same. subst (λ xs. Contains xs k) (sym e) (subst (λ m. Contains (n ∷ []) m) (sym same) (Contains-here n []))) old new it.grows;
  is = (n, e, it.at);
}

pub one_set_ok : {E : Type 0} (p : Polarity) (members copy : List ℕ) (old new : List SetState) (n : ℕ) (result : Result (List ℕ) E) → copy ≡ members → IfOk result (λ set. set ≡ n ∷ []) → Numbers p copy old new n → IfOk result (NumbersSet p members old new)
one_set_ok p members copy old new n (Ok set) same e it = one_set p members old new n set e (subst (λ xs. Numbers p xs old new n) same it)
one_set_ok p members copy old new n (Err e) same one it = tt

pub two_sets : (p : Polarity) (arms row : Arms) (first second third : List SetState) → NumbersSet (opposite p) arms.domain first second row.domain → NumbersSet p arms.codomain second third row.codomain → NumbersArms p arms first third row
two_sets p arms row first second third one two =
    let Named : ℕ → Type 0 = λ k. Contains row.domain k ⊎ Contains row.codomain k in
    record {
      grows = grows_then Named first second third (grows_wider (Contains row.domain) Named (λ k there. inl there) first second one.grows) (grows_wider (Contains row.codomain) Named (λ k there. inr there) second third two.grows);
      domain = one_kept (Contains row.codomain) second third two.grows (opposite p) arms.domain row.domain one.is;
      codomain = two.is;
    }

pub no_function : (p : Polarity) (sets : List SetState) → NumbersFunction p None sets sets None
no_function p sets = record { grows = grows_none (InFunction None) sets; is = tt }

pub some_function : (p : Polarity) (arms row : Arms) (old new : List SetState) → NumbersArms p arms old new row → NumbersFunction p (Some arms) old new (Some row)
some_function p arms row old new it = record {
  grows = grows_wider (λ k. Contains row.domain k ⊎ Contains row.codomain k) (InFunction (Some row)) (λ k there. (row, refl, there)) old new it.grows;
  is = (it.domain, it.codomain);
}

-- the fields of a record, one after the other
pub no_fields : (p : Polarity) (sets : List SetState) → NumbersFields p [] sets sets []
no_fields p sets = record { grows = grows_none (InAnyField []) sets; is = tt }

fields_more : (sets : List SetState) (p : Polarity) (fields row : List FieldSet) (f g : FieldSet) → AreFieldsOf sets p fields row → f.label ≡ g.label → IsOne sets p f.set g.set → AreFieldsOf sets p (fields ++ f ∷ []) (row ++ g ∷ [])
fields_more sets p [] [] f g is label one = (label, one, tt)
fields_more sets p (h ∷ fields) (i ∷ row) f g is label one = (is.0, is.1, fields_more sets p fields row f g is.2 label one)
fields_more sets p [] (i ∷ row) f g is label one = absurd is
fields_more sets p (h ∷ fields) [] f g is label one = absurd is

pub field_more : (p : Polarity) (fields row : List FieldSet) (f g : FieldSet) (first second third : List SetState) → NumbersFields p fields first second row → f.label ≡ g.label → NumbersSet p f.set second third g.set → NumbersFields p (fields ++ f ∷ []) first third (row ++ g ∷ [])
field_more p fields row f g first second third one label two =
    let Named : ℕ → Type 0 = InAnyField (row ++ g ∷ []) in
    record {
      grows = grows_then Named first second third
          (grows_wider (InAnyField row) Named (λ k there. (there.0, Contains-append_left row (g ∷ []) there.0 there.1, there.2)) first second one.grows)
          (grows_wider (Contains g.set) Named (λ k there. (g, Contains-push row g, there)) second third two.grows);
      is = fields_more third p fields row f g (fields_kept (Contains g.set) second third two.grows p fields row one.is) label two.is;
    }

pub no_record : (p : Polarity) (sets : List SetState) → NumbersRecord p None sets sets None
no_record p sets = record { grows = grows_none (InRecord None) sets; is = tt }

pub some_record : (p : Polarity) (fields row : List FieldSet) (old new : List SetState) → NumbersFields p fields old new row → NumbersRecord p (Some fields) old new (Some row)
some_record p fields row old new it = record {
  grows = grows_wider (InAnyField row) (InRecord (Some row)) (λ k there. (row, refl, there)) old new it.grows;
  is = it.is;
}

pub head_parts : (p : Polarity) (head row : Head) (first second third : List SetState) → row.boolean ≡ head.boolean → row.integer ≡ head.integer → NumbersFunction p head.function first second row.function → NumbersRecord p head.fields second third row.fields → NumbersHead p head first third row
head_parts p head row first second third boolean integer one two = record {
  grows = grows_then (HeadNames row) first second third
      (grows_wider (InFunction row.function) (HeadNames row) (λ k there. inl there) first second one.grows)
      (grows_wider (InRecord row.fields) (HeadNames row) (λ k there. inr there) second third two.grows);
  is = record {
    boolean = boolean;
    integer = integer;
    function = function_kept (InRecord row.fields) second third two.grows p head.function row.function one.is;
    fields = two.is;
  };
}
