-- What the functions over the stack of `type_end` do is what the machine of the grammar does.
use Rattle.std.proofs.Common.{◌≡◌, ℕ, Bool, true, false, List, [], ◌∷◌, ◌++◌, map, reverse, refl, sym, ap, ◌∙◌, Some, None}
use Rattle.std.specs.Prelude.{Option, option_map, ◌&&◌}
use Rattle.std.specs.List.{list_all}
use Rattle.std.proofs.lemmas.List.{reverse-append, map-append, append_assoc}
use Rattle.mls_lexer.specs.declared.token.Kind.{Kind}
use Rattle.mls_lexer.specs.Tokens.{terminal_of}
use Rattle.mls_lexer.specs.steps.Machine.{step, chosen, both, can_end}
use Rattle.mls_typetext.specs.declared.end.EndPart.{EndPart as Kept}
use Rattle.mls_typetext.specs.declared.end.Rest.{Rest}
use Rattle.mls_typetext.specs.declared.end.Step.TheVariants.{Read, Over, Stuck}
use Rattle.mls_typetext.specs.steps.EndTable.{ToCome, opens, may_end}
use Rattle.mls_typetext.specs.steps.EndStacks.{part_of, stack_of, row_of, Behind, Opened, Stepped}

-- parts put on the stack come first
pub stack_of-append : (parts more : List Kept) → stack_of (parts ++ more) ≡ stack_of more ++ stack_of parts
stack_of-append parts more = ap (map part_of) (reverse-append parts more) ∙ map-append part_of (reverse more) (reverse parts)

pub opened : (part : Kept) (kind : Kind) (old middle new : List Kept) (rest : Rest) (behind : Option Rest) → Behind part kind behind → behind ≡ Some rest
    → middle ≡ old ++ rest.outer.now → new ≡ middle ++ rest.inner.now → Opened part kind old new true
opened part kind old middle new rest behind is there first second = (
  row_of rest,
  λ bytes. is bytes ∙ ap (option_map row_of) there,
  ap stack_of second ∙ (stack_of-append middle rest.inner.now
      ∙ (ap (λ st. stack_of rest.inner.now ++ st) (ap stack_of first ∙ stack_of-append old rest.outer.now)
      ∙ sym (append_assoc (stack_of rest.inner.now) (stack_of rest.outer.now) (stack_of old)))),
)

-- and the next one is the last that was put there
popped : (st rest : List Kept) (part : Kept) → st ≡ rest ++ part ∷ [] → stack_of st ≡ part_of part ∷ stack_of rest
popped st rest part e = ap stack_of e ∙ stack_of-append rest (part ∷ [])

-- two stacks do the same at a token of this kind
pub record DoSame (kind : Kind) (old new : List Kept) : Type 0 where
  pub steps : (bytes : List ℕ) → step opens may_end (stack_of old) (terminal_of kind bytes) ≡ step opens may_end (stack_of new) (terminal_of kind bytes)
  pub ends : can_end may_end (stack_of old) ≡ can_end may_end (stack_of new)

pub do_same : (kind : Kind) (st : List Kept) → DoSame kind st st
do_same kind st = record { steps = λ bytes. refl; ends = refl }

-- a stack of one part more does what that part does
module _ (kind : Kind) (old st rest new : List Kept) (part : Kept) (same : DoSame kind old st) (pop : st ≡ rest ++ part ∷ []) where
  steps-popped : (bytes : List ℕ) → step opens may_end (stack_of old) (terminal_of kind bytes) ≡ chosen (opens (part_of part) (terminal_of kind bytes)) (may_end (part_of part)) (stack_of rest) (step opens may_end (stack_of rest) (terminal_of kind bytes))
  steps-popped bytes = same.steps bytes ∙ ap (λ ps. step opens may_end ps (terminal_of kind bytes)) (popped st rest part pop)

  ends-popped : can_end may_end (stack_of old) ≡ both (may_end (part_of part)) (can_end may_end (stack_of rest))
  ends-popped = same.ends ∙ ap (can_end may_end) (popped st rest part pop)

  pub part-read : Opened part kind rest new true → Stepped kind old new Read
  part-read it = λ bytes.
      let t = terminal_of kind bytes in
      steps-popped bytes
      ∙ (ap (λ o. chosen o (may_end (part_of part)) (stack_of rest) (step opens may_end (stack_of rest) t)) (it.1 bytes)
      ∙ ap Some (sym it.2))

  none : (last : Bool) → Opened part kind rest new false → may_end (part_of part) ≡ last → (bytes : List ℕ) → step opens may_end (stack_of old) (terminal_of kind bytes) ≡ chosen None last (stack_of rest) (step opens may_end (stack_of rest) (terminal_of kind bytes))
  none last it e = λ bytes.
      let t = terminal_of kind bytes in
      steps-popped bytes ∙ (λ i. chosen (it.0 bytes i) (e i) (stack_of rest) (step opens may_end (stack_of rest) t))

  pub part-stuck : Opened part kind rest new false → may_end (part_of part) ≡ false → Stepped kind old new Stuck
  part-stuck it e = (none false it e, ends-popped ∙ ap (λ last. both last (can_end may_end (stack_of rest))) e)

  pub part-empty : Opened part kind rest new false → may_end (part_of part) ≡ true → DoSame kind old new
  part-empty it e = record {
    steps = λ bytes. none true it e bytes ∙ ap (λ ps. step opens may_end (stack_of ps) (terminal_of kind bytes)) (sym it.1);
    ends = ends-popped ∙ (ap (λ last. both last (can_end may_end (stack_of rest))) e ∙ ap (λ ps. can_end may_end (stack_of ps)) (sym it.1));
  }

pub all-over : (kind : Kind) (old st new : List Kept) → DoSame kind old st → st ≡ [] → Stepped kind old new Over
all-over kind old st new same e = (
  λ bytes. same.steps bytes ∙ ap (λ ps. step opens may_end (stack_of ps) (terminal_of kind bytes)) e,
  same.ends ∙ ap (λ ps. can_end may_end (stack_of ps)) e,
)

-- all parts may be empty exactly where the stack can end
both_and : (a b c d : Bool) → d ≡ (b && c) → both a d ≡ (b && both a c)
both_and true b c d e = e
both_and false true c d e = refl
both_and false false c d e = refl

can_end-last : (st : List ToCome) (part : ToCome) → can_end may_end (st ++ part ∷ []) ≡ (may_end part && can_end may_end st)
can_end-last [] part = go (may_end part)
  where
    go : (b : Bool) → both b true ≡ (b && true)
    go true = refl
    go false = refl
can_end-last (s ∷ st) part = both_and (may_end s) (may_end part) (can_end may_end st) (can_end may_end (st ++ part ∷ [])) (can_end-last st part)

pub all-can_end : (parts : List Kept) → list_all (λ part. may_end (part_of part)) parts ≡ can_end may_end (stack_of parts)
all-can_end [] = refl
all-can_end (part ∷ parts) =
    ap (λ b. may_end (part_of part) && b) (all-can_end parts)
    ∙ (sym (can_end-last (stack_of parts) (part_of part))
    ∙ ap (can_end may_end) (sym (stack_of-append (part ∷ []) parts)))
