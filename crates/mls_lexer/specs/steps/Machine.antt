-- A machine that reads a list by a stack of the parts that are still to come, where the next element decides what a
-- part takes. It is stated over any elements T and any sorts of parts S, so that it serves each grammar with one
-- element of look-ahead:
--     opens s t      what a part of sort s leaves to come behind the element t, where it can begin with t
--     may_end s      whether a part of sort s may be empty
use Rattle.std.specs.Prelude.{Bool, true, false, List, [], ◌∷◌, ◌++◌, Option, Some, None}

-- what is left to come behind an element
abbrev pub chosen : {S : Type 0} → Option (List S) → Bool → List S → Option (List S) → Option (List S)
chosen (Some new) empty st later = Some (new ++ st)
chosen None true st later = later
chosen None false st later = None

abbrev pub step : {T S : Type 0} → (S → T → Option (List S)) → (S → Bool) → List S → T → Option (List S)
step opens may_end [] t = None
step opens may_end (s ∷ st) t = chosen (opens s t) (may_end s) st (step opens may_end st t)

-- go on where there is a stack
abbrev pub onward : {S : Type 0} → Option (List S) → (List S → Option (List S)) → Option (List S)
onward None next = None
onward (Some st) next = next st

-- what is left to come behind a list
unfoldable pub run : {T S : Type 0} → (S → T → Option (List S)) → (S → Bool) → List S → List T → Option (List S)
run opens may_end st [] = Some st
run opens may_end st (t ∷ ts) = onward (step opens may_end st t) (λ next. run opens may_end next ts)

-- whether nothing more has to come
abbrev pub both : Bool → Bool → Bool
both true b = b
both false b = false

abbrev pub can_end : {S : Type 0} → (S → Bool) → List S → Bool
can_end may_end [] = true
can_end may_end (s ∷ st) = both (may_end s) (can_end may_end st)
